-- The rows of a block, put into its states one after another.
use Rattle.std.proofs.Common.{◌≡◌, ℕ, zero, suc, ◌-◌, ◌<◌, ◌≤◌, refl, sym, ◌∙◌, ap, ap₂, arith, Bool, true, false, List, [], ◌∷◌, length, drop, Option, Some}
use Rattle.std.proofs.Common.{None, is_none, drop-cons, length-drop}
use Rattle.std.specs.Prelude.{◌==◌, ◌&&◌, nat_lt, cond}
use Rattle.std.specs.Option.{option_or}
use Rattle.std.specs.List.{slice_index_or}
use Rattle.std.proofs.lemmas.Bool.Decides.{nat_tests}
use Rattle.std.proofs.Math.ListN.{drop_of_length-le}
use Rattle.hls_block_filling.specs.Placings.{PlacedOver, join_assignments, row_at, rows_from, rows_of}
use Rattle.hls_block_filling.specs.RowMachines.{MoveOver, after_row, moves}
use Rattle.hls_block_filling.specs.SourceRows.{RowEffect, first_row_effect}

-- where row k of n leads, of a block of these states that leads to an exit
abbrev pub row_leads : ℕ → List ℕ → ℕ → ℕ → ℕ
row_leads exit qs n k = cond (nat_lt (suc k) n && nat_lt (suc k) (length qs)) (slice_index_or qs (suc k) 0) exit

module _ {X : Type 0} (exit : ℕ) (qs : List ℕ) (n : ℕ) (ps : List (PlacedOver X)) where
  -- the moves from row k on
  abbrev pub moves_left : ℕ → List (MoveOver X)
  moves_left k = moves exit (drop k qs) (rows_from k (n - k) ps)

  pub all_left : moves_left 0 ≡ moves exit qs (rows_of n ps)
  all_left = let e : n - 0 ≡ n = omega arith in ap (λ z. moves exit qs (rows_from 0 z ps)) e

  moves_none : (rs : List ℕ) → moves {X = X} exit rs [] ≡ []
  moves_none [] = refl
  moves_none (r ∷ rs) = refl

  -- behind the last row
  pub no_row : (k : ℕ) → n ≤ k → moves_left k ≡ []
  no_row k h = let e : n - k ≡ 0 = omega (arith, h) in ap (λ z. moves exit (drop k qs) (rows_from k z ps)) e ∙ moves_none (drop k qs)

  -- behind the last state
  pub no_state : (k : ℕ) → length qs ≤ k → moves_left k ≡ []
  no_state k h = ap (λ z. moves exit z (rows_from k (n - k) ps)) (drop_of_length-le qs h)

  leads_by : (k r : ℕ) (d : List ℕ) → n - suc k ≡ r → drop (suc k) qs ≡ d → after_row exit d (rows_from (suc k) r ps) ≡ row_leads exit qs n k
  leads_by k zero d e f = let g : nat_lt (suc k) n ≡ false = grind (arith, nat_tests, e) in rw g refl
  leads_by k (suc r) [] e f =
      let g : nat_lt (suc k) n ≡ true = grind (arith, nat_tests, e) in
      let l : length qs - suc k ≡ 0 = sym (length-drop (suc k) qs) ∙ ap length f in
      let h : nat_lt (suc k) (length qs) ≡ false = grind (arith, nat_tests, l) in
      rw (g, h) refl
  leads_by k (suc r) (q ∷ rest) e f =
      let g : nat_lt (suc k) n ≡ true = grind (arith, nat_tests, e) in
      let l : length qs - suc k ≡ suc (length rest) = sym (length-drop (suc k) qs) ∙ ap length f in
      let i : suc k < length qs = omega (arith, l) in
      let h : nat_lt (suc k) (length qs) ≡ true = grind (arith, nat_tests, i) in
      let s : slice_index_or qs (suc k) 0 ∷ drop (suc (suc k)) qs ≡ q ∷ rest = sym (drop-cons qs (suc k) 0 i) ∙ f in
      let same : slice_index_or qs (suc k) 0 ≡ q = cc s in
      rw (g, h) (sym same)

  -- row k stands in state k
  pub one_left : (k : ℕ) → k < n → k < length qs → moves_left k ≡ record {
    state = slice_index_or qs k 0;
    assignments = join_assignments (row_at k ps);
    target = row_leads exit qs n k;
  } ∷ moves_left (suc k)
  one_left k h i =
      let e : n - k ≡ suc (n - suc k) = omega (arith, h) in
      ap₂ (λ (z : ℕ) (rs : List ℕ). moves exit rs (rows_from k z ps)) e (drop-cons qs k 0 i)
      ∙ ap (λ z. record { state = slice_index_or qs k 0; assignments = join_assignments (row_at k ps); target = z } ∷ moves_left (suc k))
      (leads_by k (n - suc k) (drop (suc k) qs) refl refl)

put_by : {A : Type 0} (d : A) (o rest : Option A) (t : Bool) → option_or (cond (t && is_none o) (Some d) o) rest ≡ option_or o (cond t (Some d) rest)
put_by d None rest true = refl
put_by d None rest false = refl
put_by d (Some e) rest true = refl
put_by d (Some e) rest false = refl

-- a state that has no row yet, and is state k, has row k: what is found later stays the same
pub row_put : (exit : ℕ) (qs : List ℕ) (n : ℕ) (ps : List (PlacedOver (List ℕ))) (k q : ℕ) (o : Option RowEffect) → k < n → k < length qs
    → option_or (cond ((slice_index_or qs k 0 == q) && is_none o) (Some (join_assignments (row_at k ps), row_leads exit qs n k)) o)
    (first_row_effect (moves_left exit qs n ps (suc k)) q) ≡ option_or o (first_row_effect (moves_left exit qs n ps k) q)
row_put exit qs n ps k q o h i =
    put_by (join_assignments (row_at k ps), row_leads exit qs n k) o (first_row_effect (moves_left exit qs n ps (suc k)) q) (slice_index_or qs k 0 == q)
    ∙ ap (λ xs. option_or o (first_row_effect xs q)) (sym (one_left exit qs n ps k h i))
