-- The equations and the conditions of a node, one after another.
use Rattle.std.proofs.Common.{◌≡◌, ℕ, ◌+◌, ◌<◌, ap, sym, subst, ◌∙◌, List, [], ◌∷◌, ◌++◌, drop, length, get_or, Option, Some, None, Result, Ok, Err}
use Rattle.std.specs.Prelude.{option_and_then, codes, set}
use Rattle.std.specs.Borrow.{Bor}
use Rattle.fs_model.proofs.Lists.{drop_next}
use Rattle.serde_json.specs.Data.{Data, Members}
use Rattle.serde_json.specs.Find.{get, as_object}
use Rattle.cert_values.specs.JsonTexts.{text_of, named_texts_of}
use Rattle.cert_values.specs.View.{view, items_view, members_view}
use Rattle.cert_values.specs.declared.value.Value.{Value}
use Rattle.nf_terms.specs.declared.form.Nf.{Nf}
use Rattle.nf_rel.specs.Literals.{NormalLiteral}
use Rattle.cert_facts.specs.declared.faults.CertError.{CertError}
use Rattle.cert_facts.specs.declared.faults.Stop.{Stop}
use Rattle.cert_facts.specs.JsonParts.{texts_of, members_or_none, equations_in}
use Rattle.cert_facts.specs.PartAnswers.{Tells, then_part}
use Rattle.cert_terms.specs.CertificateNames.{name_place, place_by_key, sort_at}
use Rattle.cert_facts.specs.FactReading.{TermContext, text_read, known_place, equation_put, equations_read, conditions_read}
use Rattle.cert_facts.proofs.Told.{stopped_first}

-- ---- the equations that a node has as a member
pub member_equations : (c : TermContext) (i : ℕ) (fs gs : List (Option Nf)) (d : Data) (ms : Members) → fs ≡ gs
    → option_and_then as_object (get (codes "equations") d) ≡ Some ms → equations_read c i fs (named_texts_of ms) ≡ equations_read c i gs (equations_in d)
member_equations c i fs gs d ms same is = λ j. equations_read c i (same j) (named_texts_of (members_or_none (sym is j)))

pub no_equations : (c : TermContext) (i : ℕ) (fs : List (Option Nf)) (d : Data) → option_and_then as_object (get (codes "equations") d) ≡ None
    → equations_read c i fs (equations_in d) ≡ Ok fs
no_equations c i fs d none = ap (λ o. equations_read c i fs (named_texts_of (members_or_none o))) none

-- ---- an equation, put at its place
module _ (c : TermContext) (i : ℕ) (fs : List (Option Nf)) (key text : List ℕ) where
  abbrev place_read : Result ℕ CertError
  place_read = known_place i (place_by_key (name_place c.place c.positions c.format) key)

  abbrev form_read : ℕ → Result Nf CertError
  form_read k = text_read i (c.texts.term (sort_at c.positions k) text)

  abbrev with_form : ℕ → Result (ℕ × Nf) CertError
  with_form k = then_part (form_read k) (λ f. Ok (k, f))

  abbrev put : ℕ × Nf → Result (List (Option Nf)) CertError
  put x = Ok (set fs x.0 (Some x.1))

  pub place_stops : (e : Stop) → Tells {X = ℕ} (λ k. k) (Err e) place_read → Tells {X = List (Option Nf)} (λ gs. gs) (Err e) (equation_put c i fs (key, text))
  place_stops e h = stopped_first {V = ℕ × Nf} {W = List (Option Nf)} (λ x. x) (λ gs. gs) e (then_part place_read with_form) put
      (stopped_first {V = ℕ} {W = ℕ × Nf} (λ k. k) (λ x. x) e place_read with_form h)

  pub form_stops : (k : ℕ) (e : Stop) → place_read ≡ Ok k → Tells {X = Nf} (λ f. f) (Err e) (form_read k)
      → Tells {X = List (Option Nf)} (λ gs. gs) (Err e) (equation_put c i fs (key, text))
  form_stops k e is h = subst (λ y. Tells {X = List (Option Nf)} (λ gs. gs) (Err e) (then_part (then_part y with_form) put)) (sym is)
      (stopped_first {V = ℕ × Nf} {W = List (Option Nf)} (λ x. x) (λ gs. gs) e (with_form k) put
      (stopped_first {V = Nf} {W = ℕ × Nf} (λ f. f) (λ x. x) e (form_read k) (λ f. Ok (k, f)) h))

  pub form_put : (k : ℕ) (f : Nf) → place_read ≡ Ok k → form_read k ≡ Ok f → equation_put c i fs (key, text) ≡ Ok (set fs k (Some f))
  form_put k f is h = ap (λ y. then_part (then_part y with_form) put) is ∙ ap (λ y. then_part (then_part y (λ g. Ok (k, g))) put) h

-- ---- the equations, in the order of their keys
module _ (c : TermContext) (i : ℕ) (whole : Result (List (Option Nf)) CertError) (fs : List (Option Nf)) (left rest : List (Bor (List ℕ) × Value))
    (key : Bor (List ℕ)) (value : Value) (is : left ≡ (key, value) ∷ rest) (kept : equations_read c i fs (named_texts_of (members_view left)) ≡ whole)
    (name text : List ℕ) (n : name ≡ key.now) (t : text ≡ text_of (view value)) where
  abbrev others : List (Option Nf) → Result (List (Option Nf)) CertError
  others gs = equations_read c i gs (named_texts_of (members_view rest))

  next_equation : then_part (equation_put c i fs (name, text)) others ≡ whole
  next_equation = (λ j. then_part (equation_put c i fs (n j, t j)) others) ∙ sym (ap (λ ms. equations_read c i fs (named_texts_of (members_view ms))) is) ∙ kept

  pub equations_stop : (e : Stop) → Tells {X = List (Option Nf)} (λ gs. gs) (Err e) (equation_put c i fs (name, text))
      → Tells {X = List (Option Nf)} (λ gs. gs) (Err e) whole
  equations_stop e h = subst (λ y. Tells {X = List (Option Nf)} (λ gs. gs) (Err e) y) next_equation
      (stopped_first {V = List (Option Nf)} {W = List (Option Nf)} (λ gs. gs) (λ gs. gs) e (equation_put c i fs (name, text)) others h)

  pub equations_more : (next : List (Option Nf)) → equation_put c i fs (name, text) ≡ Ok next → others next ≡ whole
  equations_more next h = sym (ap (λ y. then_part y others) h) ∙ next_equation

-- ---- the conditions, in order
module _ (c : TermContext) (i : ℕ) (whole : Result (List NormalLiteral) CertError) (ls : List NormalLiteral) (xs : List Value) (k : ℕ) (x : Value)
    (inside : k < length xs) (is : x ≡ get_or xs k x) (kept : conditions_read c i ls (texts_of (items_view (drop k xs))) ≡ whole)
    (text : List ℕ) (t : text ≡ text_of (view x)) where
  abbrev behind : NormalLiteral → Result (List NormalLiteral) CertError
  behind l = conditions_read c i (ls ++ l ∷ []) (texts_of (items_view (drop (k + 1) xs)))

  next_condition : then_part (text_read i (c.texts.condition text)) behind ≡ whole
  next_condition = ap (λ s. then_part (text_read i (c.texts.condition s)) behind) t
      ∙ sym (ap (λ vs. conditions_read c i ls (texts_of (items_view vs))) (drop_next xs k x inside is)) ∙ kept

  pub conditions_stop : (e : Stop) → Tells {X = NormalLiteral} (λ l. l) (Err e) (text_read i (c.texts.condition text))
      → Tells {X = List NormalLiteral} (λ ms. ms) (Err e) whole
  conditions_stop e h = subst (λ y. Tells {X = List NormalLiteral} (λ ms. ms) (Err e) y) next_condition
      (stopped_first {V = NormalLiteral} {W = List NormalLiteral} (λ l. l) (λ ms. ms) e (text_read i (c.texts.condition text)) behind h)

  pub conditions_more : (l : NormalLiteral) → text_read i (c.texts.condition text) ≡ Ok l → behind l ≡ whole
  conditions_more l h = sym (ap (λ y. then_part y behind) h) ∙ next_condition
