-- Walks along the positions of a fact.
use Rattle.std.proofs.Common.{◌≡◌, ℕ, ◌+◌, ◌<◌, ◌≤◌, List, [], ◌∷◌, ◌++◌, append-nil, append_assoc, length, map, drop, refl, ap, ap₂, sym, ◌∙◌, arith, Bool}
use Rattle.std.proofs.Common.{true, false, cond, Option, Some}
use Rattle.std.proofs.lemmas.List.{drop_all}
use Rattle.std.specs.List.{position_from, slice_index_or}
use Rattle.fs_model.proofs.Lists.{drop_next}
use Rattle.fs_pair.specs.declared.positions.Position.{Position}
use Rattle.nf_terms.specs.declared.form.Nf.{Nf}
use Rattle.sym_facts.specs.Facts.{FactPosition}
use Rattle.sym_facts.specs.FactParts.{with_equations}
use Rattle.sym_facts.specs.View.{position_in}
use Rattle.sym_facts.specs.declared.fact.FactPosition.{FactPosition as CodePosition}

pub no_equations : (ps : List Position) (fs : List (Option Nf)) → length fs ≡ 0 → with_equations ps fs ≡ []
no_equations [] fs e = refl
no_equations (p ∷ ps) [] e = refl
no_equations (p ∷ ps) (f ∷ fs) e = absurd (omega (arith, e))

-- nothing is left to be moved
pub all_moved : (done whole rest : List (Option Nf)) (n : ℕ) → done ++ rest ≡ whole → n ≡ length rest → n ≡ 0 → done ≡ whole
all_moved done whole [] n e m z = sym (append-nil done) ∙ e
all_moved done whole (f ∷ fs) n e m z = absurd (omega (arith, m, z))

-- nothing is left to be placed
pub placed_all : (done whole : List FactPosition) (ps : List Position) (fs : List (Option Nf)) (n : ℕ) → done ++ with_equations ps fs ≡ whole → n ≡ length fs
    → n ≡ 0 → done ≡ whole
placed_all done whole ps fs n e m z = sym (append-nil done) ∙ ap (λ l. done ++ l) (sym (no_equations ps fs (sym m ∙ z))) ∙ e

-- a position is placed with the next equation
pub one_placed : (ps : List Position) (i : ℕ) (p : Position) (fs rest : List (Option Nf)) (f : Option Nf) (old new whole : List FactPosition) → i < length ps
    → p ≡ slice_index_or ps i p → fs ≡ f ∷ rest → new ≡ old ++ record { pos = p.pos; sort = p.sort; equation = f } ∷ []
    → old ++ with_equations (drop i ps) fs ≡ whole → new ++ with_equations (drop (i + 1) ps) rest ≡ whole
one_placed ps i p fs rest f old new whole h e split put so_far =
    ap (λ l. l ++ with_equations (drop (i + 1) ps) rest) put
    ∙ append_assoc old (record { pos = p.pos; sort = p.sort; equation = f } ∷ []) (with_equations (drop (i + 1) ps) rest)
    ∙ sym (ap₂ (λ a b. old ++ with_equations a b) (drop_next ps i p h e) split)
    ∙ so_far

-- no position is left
pub none_left : (ps : List Position) (i : ℕ) (fs : List (Option Nf)) (done whole : List FactPosition) → length ps ≤ i
    → done ++ with_equations (drop i ps) fs ≡ whole → done ≡ whole
none_left ps i fs done whole h e = sym (append-nil done) ∙ ap (λ l. done ++ with_equations l fs) (sym (drop_all i ps h)) ∙ e

module _ (test : FactPosition → Bool) (xs : List CodePosition) (k : ℕ) (x : CodePosition) (whole : Option ℕ) (h : k < length xs) (e : x ≡ slice_index_or xs k x)
    (i : position_from test k (map position_in (drop k xs)) ≡ whole) where
  one : cond (test (position_in x)) (Some k) (position_from test (k + 1) (map position_in (drop (k + 1) xs))) ≡ whole
  one = sym (ap (λ l. position_from test k (map position_in l)) (drop_next xs k x h e)) ∙ i

  pub passes_here : test (position_in x) ≡ true → Some k ≡ whole
  passes_here t = sym (ap (λ b. cond {A = Option ℕ} b (Some k) (position_from test (k + 1) (map position_in (drop (k + 1) xs)))) t) ∙ one

  pub passes_later : test (position_in x) ≡ false → position_from test (k + 1) (map position_in (drop (k + 1) xs)) ≡ whole
  passes_later t = sym (ap (λ b. cond {A = Option ℕ} b (Some k) (position_from test (k + 1) (map position_in (drop (k + 1) xs)))) t) ∙ one
