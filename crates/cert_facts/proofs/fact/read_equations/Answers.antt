use Rattle.std.proofs.Common.{rules, ◌≡◌, ◌∙◌, Ok, Some, None, ap, sym, subst, option_map}
use Rattle.std.specs.Prelude.{option_and_then, codes}
use Rattle.serde_json.specs.Find.{get, as_object}
use Rattle.cert_values.specs.View.{view, members_view}
use Rattle.cert_terms.specs.Repeats.{AreLast}
use Rattle.cert_facts.specs.View.{terms_in}
use Rattle.cert_facts.specs.Within.{AreEquationsOf}
use Rattle.cert_facts.proofs.Facts.{unwritten_fit}
use Rattle.cert_facts.proofs.NodeParts.{member_equations, no_equations}
use Rattle.cert_facts.proofs.fact.read_equations.Goals as goal
use Rattle.cert_facts.proofs.fact.read_equations.Goals.{in-Some+in_ok-put_equations, in_default}

pub returns-clause-told : goal.returns-clause-told
returns-clause-told c =
    let terms = terms_in c.args.c.now.places.now in
    let d = view c.args.value.now in
    elim c.match-members_at.branch [
      | in-Some+in_ok-put_equations w ↦
          let is : option_and_then as_object (get (codes "equations") d) ≡ Some (members_view w.in-Some.members.now.entries) =
          sym c.members_at.ensures ∙ ap (option_map (λ m. members_view m.now.entries)) w.in-Some.is in
          sym (member_equations terms c.args.node _ _ d _ c.in_ok-forms.ensures.same is) ∙ w.in_ok-put_equations.ensures.told
          ∙ ap (λ fs. Ok fs.items) (sym w.forms-is)
      | in_default w ↦
          let none : option_and_then as_object (get (codes "equations") d) ≡ None = search rules in
          no_equations terms c.args.node _ d none ∙ ap Ok (sym c.in_ok-forms.ensures.same) ∙ ap (λ fs. Ok fs.items) (sym w.forms-is)
    ]

pub returns-clause-kept : goal.returns-clause-kept
returns-clause-kept c =
    let places = c.args.c.now.places.now in
    let positions = places.positions.now in
    elim c.match-members_at.branch [
      | in-Some+in_ok-put_equations w ↦ subst (λ fs. AreEquationsOf positions fs.items) (sym w.forms-is) w.in_ok-put_equations.ensures.kept
      | in_default w ↦ subst (λ fs. AreEquationsOf positions fs.items) (sym w.forms-is)
          (subst (AreEquationsOf positions) (sym c.in_ok-forms.ensures.same) (unwritten_fit places.format positions))
    ]

pub returns-clause-last : goal.returns-clause-last
returns-clause-last c =
    elim c.match-members_at.branch [
      | in-Some+in_ok-put_equations w ↦ subst (λ l. AreLast c.args.c.now.places.now l.items) (sym w.last-is) w.in_ok-put_equations.ensures.last
      | in_default w ↦ subst (λ l. AreLast c.args.c.now.places.now l.items) (sym w.last-is) c.requires
    ]
