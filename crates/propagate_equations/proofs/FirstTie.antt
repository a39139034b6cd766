-- One turn of a loop that ends at the first tie: what comes of the position that it looks at.
use Rattle.std.proofs.Common.{◌≡◌, Bool, true, false, cond, ℕ, ◌+◌, ◌<◌, List, map, drop, length, get_or, Option, Some, None, Err, ap, sym, subst, ◌∙◌}
use Rattle.fs_model.proofs.Lists.{drop_next, map_drop_next}
use Rattle.fs_model.specs.declared.sides.Pos.{Pos}
use Rattle.fs_pair.specs.declared.positions.Position.{Position}
use Rattle.nf_trees.specs.NormalTerms.{Polynomial}
use Rattle.nf_terms.specs.Computed.{Computed, Done, Answers, after}
use Rattle.nf_terms.specs.declared.form.Nf.{Nf}
use Rattle.nf_terms.specs.declared.stop.NfStop.{NfStop}
use Rattle.nf_substitution.proofs.Following.{stops}
use Rattle.nf_terms.specs.Forms.{same_form}
use Rattle.sym_facts.specs.Facts.{own_symbol}
use Rattle.propagate_equations.specs.Equations.{number_tied_to as number_tied_over, form_tied as form_tied_over, value_at}
use Rattle.propagate_equations.specs.EquationSteps.{rebase_tie}
use Rattle.propagate_equations.specs.Ties.{Freed, number_tied_to, is_alike, symbol_like, form_tied}
use Rattle.propagate_equations.specs.TieSteps.{or_later, join_tie}

module _ (whole step later : Computed (Option Nf)) (kept : after step (λ o. or_later o later) ≡ whole) where
  pub first_tie : (f : Nf) → step ≡ Done (Some f) → whole ≡ Done (Some f)
  first_tie f e = sym kept ∙ ap (λ c. after c (λ o. or_later o later)) e

  pub no_tie : step ≡ Done None → later ≡ whole
  no_tie e = sym (ap (λ c. after c (λ o. or_later o later)) e) ∙ kept

  pub tie_stops : (event : NfStop) → Answers {T = Option Nf} (Err event) step → Answers {T = Option Nf} (Err event) whole
  tie_stops event a = subst (Answers {T = Option Nf} (Err event)) kept (stops event step (λ o. or_later o later) a)

-- the turn at a place
module _ {X : Type 0} (view : X → Freed) (v : List (Pos × Nf)) (p : Pos) (t : Polynomial) (whole : Computed (Option Nf)) where
  pub join_turn : (xs : List X) (i : ℕ) (x : X) → i < length xs → x ≡ get_or xs i x → join_tie v p t (map view (drop i xs)) ≡ whole
      → after (number_tied_to v p t (view x).pos (view x).old (Done None)) (λ o. or_later o (join_tie v p t (map view (drop (i + 1) xs)))) ≡ whole
  join_turn xs i x inside is kept = sym (ap (join_tie v p t) (map_drop_next view xs i x inside is)) ∙ kept

module _ (v ms : List (Pos × Nf)) (t : Polynomial) (whole : Computed (Option Nf)) where
  pub rebase_turn : (qs : List Position) (i : ℕ) (q : Position) → i < length qs → q ≡ get_or qs i q → rebase_tie v ms t (drop i qs) ≡ whole
      → after (number_tied_over v ms t q.sort q.pos (Done None)) (λ o. or_later o (rebase_tie v ms t (drop (i + 1) qs))) ≡ whole
  rebase_turn qs i q inside is kept = sym (ap (rebase_tie v ms t) (drop_next qs i q inside is)) ∙ kept

-- ---- the first of the freed positions that a form is tied to
module _ {A : Type 0} (whole here later : A) (test : Bool) (kept : cond test here later ≡ whole) where
  pub is_here : test ≡ true → whole ≡ here
  is_here e = sym kept ∙ ap (λ b. cond b here later) e

  pub not_here : test ≡ false → later ≡ whole
  not_here e = sym (ap (λ b. cond b here later) e) ∙ kept

module _ {X : Type 0} (view : X → Freed) (v : List (Pos × Nf)) (p : Pos) (t : Nf) (whole : Option Nf) where
  pub alike_turn : (xs : List X) (i : ℕ) (x : X) → i < length xs → x ≡ get_or xs i x → form_tied v p t (map view (drop i xs)) ≡ whole
      → cond (is_alike v p t (view x)) (Some (symbol_like (view x).pos t)) (form_tied v p t (map view (drop (i + 1) xs))) ≡ whole
  alike_turn xs i x inside is kept = sym (ap (form_tied v p t) (map_drop_next view xs i x inside is)) ∙ kept

module _ (v : List (Pos × Nf)) (t : Nf) (qs : List Position) (i : ℕ) (q : Position) (inside : i < length qs) (is : q ≡ get_or qs i q)
    (kept : form_tied_over v t (drop i qs) ≡ form_tied_over v t qs) (value : Nf) (read : value ≡ value_at v q.sort q.pos) where
  turn : cond (same_form t value) (Some (own_symbol q.sort q.pos)) (form_tied_over v t (drop (i + 1) qs)) ≡ form_tied_over v t qs
  turn = ap (λ x. cond (same_form t x) (Some (own_symbol q.sort q.pos)) (form_tied_over v t (drop (i + 1) qs))) read
      ∙ sym (ap (form_tied_over v t) (drop_next qs i q inside is)) ∙ kept

  pub same_here : (o : Nf) → true ≡ same_form t value → o ≡ own_symbol q.sort q.pos → form_tied_over v t qs ≡ Some o
  same_here o e s = is_here _ _ _ _ turn (sym e) ∙ ap Some (sym s)

  pub not_same : false ≡ same_form t value → form_tied_over v t (drop (i + 1) qs) ≡ form_tied_over v t qs
  not_same e = not_here _ _ _ _ turn (sym e)
