-- A rebase as it is made is the rebase.
use Rattle.std.proofs.Common.{◌≡◌, Bool, true, false, refl, ap, ◌∙◌, List, [], ◌∷◌, Option, Some, None}
use Rattle.std.specs.Prelude.{is_some, take}
use Rattle.fs_pair.specs.declared.positions.Position.{Position}
use Rattle.nf_terms.specs.Computed.{Computed, Done, Wide, Large, after}
use Rattle.fs_model.specs.declared.sides.Pos.{Pos}
use Rattle.nf_terms.specs.declared.form.Nf.{Nf}
use Rattle.nf_rel.specs.Literals.{NormalLiteral}
use Rattle.sym_paths.specs.Execution.{Post}
use Rattle.sym_facts.specs.Facts.{FactPosition, Fact, most_literals}
use Rattle.propagate.specs.Rebases.{with_mark, symbol_found, first_by, first_pass, Solution, second_pass_solution, second_by}
use Rattle.propagate.specs.Rebases.{second_pass, third_pass, position_with_equation, freed_in_pass, equation_found, value_at, with_needed}
use Rattle.propagate.specs.Rebases.{conditions_over, rebase}
use Rattle.propagate.specs.RebaseSteps.{with_found, first_pass_from, turn_of, second_from, third_from, conditions_kept}
use Rattle.propagate.specs.RebaseSteps.{rebased_by}

module _ (v : List (Pos × Nf)) where
  pub first_is : (ps : List Position) (ms : List (Pos × Nf)) → first_pass_from v ps ms ≡ first_pass v ps ms
  first_is [] ms = refl
  first_is (p ∷ ps) ms = by_found (symbol_found v ms p.sort p.pos) (λ ns. first_is ps ns)
    where
      by_found : (o : Option Pos) → ((ns : List (Pos × Nf)) → first_pass_from v ps ns ≡ first_pass v ps ns)
          → with_mark (is_some o) (first_pass_from v ps (with_found o p.sort p.pos ms)) ≡ first_by o p.sort p.pos ms (λ ns. first_pass v ps ns)
      by_found None h = ap (with_mark false) (h ms)
      by_found (Some x) h = ap (with_mark true) (h (with_found (Some x) p.sort p.pos ms))

  second_is : (ps : List Position) (bs : List Bool) (ms : List (Pos × Nf)) → second_from v ps bs ms ≡ second_pass v ps bs ms
  second_is [] bs ms = refl
  second_is (p ∷ ps) [] ms = refl
  second_is (p ∷ ps) (b ∷ bs) ms = by_solution (second_pass_solution b v ms p.sort p.pos) (λ ns. second_is ps bs ns)
    where
      by_solution : (c : Computed (Option Solution)) → ((ns : List (Pos × Nf)) → second_from v ps bs ns ≡ second_pass v ps bs ns)
          → after (after c (λ o. Done (turn_of b o ms))) (λ t. after (second_from v ps bs t.meanings) (λ h. Done (with_mark t.is_free h)))
          ≡ after c (λ o. second_by b o ms (λ ns. second_pass v ps bs ns))
      by_solution (Done None) h = ap (λ c. after c (λ r. Done (with_mark b r))) (h ms)
      by_solution (Done (Some x)) h = ap (λ c. after c (λ r. Done (with_mark true r))) (h (turn_of b (Some x) ms).meanings)
      by_solution (Wide l r) h = refl
      by_solution (Large u d) h = refl

module _ (v ms : List (Pos × Nf)) where
  third_is : (ps : List Position) (bs : List Bool) (qs : List Position) → third_from v ms ps bs qs ≡ third_pass v ms ps bs qs
  third_is [] bs qs = refl
  third_is (p ∷ ps) [] qs = refl
  third_is (p ∷ ps) (true ∷ bs) qs = ap (λ c. after c (λ rest. Done (position_with_equation p None ∷ rest))) (third_is ps bs qs)
  third_is (p ∷ ps) (false ∷ bs) qs = λ j. after (equation_found v ms (value_at v p.sort p.pos) qs)
      (λ o. after (third_is ps bs (freed_in_pass p o qs) j) (λ rest. Done (position_with_equation p o ∷ rest)))

abbrev made : List FactPosition → List NormalLiteral → Computed Fact
made qs ls = Done (record { positions = qs; literals = ls })

kept_is : (c : Computed (List NormalLiteral)) (qs : List FactPosition)
    → after (after c (λ ks. Done (take most_literals (with_needed [] ks)))) (λ ls. made qs ls)
    ≡ after c (λ ks. made qs (take most_literals (with_needed [] ks)))
kept_is (Done x) qs = refl
kept_is (Wide l r) qs = refl
kept_is (Large u d) qs = refl

pub rebase_in_turn : (post : Post) (ps : List Position) → rebased_by post ps (first_pass_from post.vector ps []) ≡ rebase post ps
rebase_in_turn post ps =
    let v = post.vector in
    ap (rebased_by post ps) (first_is v ps []) ∙ (let first = first_pass v ps [] in
    ap (λ c. after c (λ h. after (third_from v h.meanings ps h.free []) (λ qs. after (conditions_kept h.meanings post.conditions) (λ ls. made qs ls))))
    (second_is v ps first.free first.meanings)
    ∙ (λ j. after (second_pass v ps first.free first.meanings)
    (λ h. after (third_is v h.meanings ps h.free [] j) (λ qs. kept_is (conditions_over h.meanings post.conditions) qs j))))
