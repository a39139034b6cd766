-- A row emits no more often than one of its items.
use Rattle.std.proofs.Common.{◌≡◌, ℕ, ◌+◌, ◌≤◌, List, [], ◌∷◌, ◌++◌, refl, arith, Bool, true, false}
use Rattle.std.specs.Prelude.{◌==◌, ◌&&◌, nat_lt, nat_le, cond}
use Rattle.std.specs.List.{list_all}
use Rattle.std.proofs.lemmas.Bool.Decides.{nat_tests}
use Rattle.std.proofs.lemmas.Bool.{leb-true}
use Rattle.fs_model.proofs.Booleans.{and_first, and_second, neither_second}
use Rattle.fs_model.specs.Expressions.{Assign, ArrayWrite, Emit}
use Rattle.fs_model.specs.SoundMachines.{emit_count}
use Rattle.hls_block_filling.specs.Items.{Item, emits, is_strict, is_weak}
use Rattle.hls_block_filling.specs.Placings.{Placed, respects_edge, is_valid, join_assignments, row_at}
use Rattle.hls_block_filling.proofs.IntoRows.{no_strict}

quiet : (a : Item) → emits a ≡ false → emit_count a ≡ 0
quiet [] h = refl
quiet (Assign x e ∷ rest) h = omega (arith, quiet rest h)
quiet (ArrayWrite x i e ∷ rest) h = omega (arith, quiet rest h)
quiet (Emit x e ∷ rest) h = absurd (cc h)

count_both : (a b : Item) → emit_count (a ++ b) ≡ emit_count a + emit_count b
count_both [] b = omega arith
count_both (a ∷ rest) b = omega (arith, count_both rest b)

other_quiet : (b c : Bool) → (b && c) ≡ false → b ≡ true → c ≡ false
other_quiet true c h e = h
other_quiet false c h e = absurd (cc e)

same_row : (p q : Placed) (k : ℕ) → (p.row == k) ≡ true → (q.row == k) ≡ true → respects_edge p q ≡ true → (emits p.item && emits q.item) ≡ false
same_row p q k e f h =
    let x : nat_lt p.row q.row ≡ false = grind (arith, nat_tests) in
    neither_second _ _ (neither_second _ _ (no_strict (is_strict p.item q.item) (is_weak p.item q.item) (nat_lt p.row q.row) (nat_lt q.row p.row) h x))

quiet_step : (p q : Placed) (row : List Placed) (k : ℕ) (t : Bool) → (q.row == k) ≡ t → ((q.row == k) ≡ true → emit_count q.item ≡ 0)
    → emit_count (join_assignments row) ≡ 0 → emit_count (join_assignments (cond t (q ∷ row) row)) ≡ 0
quiet_step p q row k true e h rest = omega (arith, count_both q.item (join_assignments row), h e, rest)
quiet_step p q row k false e h rest = rest

-- beside an item that emits no item of its row does
quiet_in : (p : Placed) (ps : List Placed) (k : ℕ) → (p.row == k) ≡ true → emits p.item ≡ true → list_all (respects_edge p) ps ≡ true
    → emit_count (join_assignments (row_at k ps)) ≡ 0
quiet_in p [] k t e v = refl
quiet_in p (q ∷ ps) k t e v =
    quiet_step p q (row_at k ps) k (q.row == k) refl
    (λ f. quiet q.item (other_quiet (emits p.item) (emits q.item) (same_row p q k t f (and_first (respects_edge p q) (list_all (respects_edge p) ps) v)) e))
    (quiet_in p ps k t e (and_second (respects_edge p q) (list_all (respects_edge p) ps) v))

few_by : (p : Placed) (row : List Placed) (most : ℕ) (b : Bool) → emits p.item ≡ b → emit_count p.item ≤ most
    → (b ≡ true → emit_count (join_assignments row) ≡ 0) → emit_count (join_assignments row) ≤ most → emit_count (join_assignments (p ∷ row)) ≤ most
few_by p row most true e h w rest = omega (arith, count_both p.item (join_assignments row), h, w refl)
few_by p row most false e h w rest = omega (arith, count_both p.item (join_assignments row), quiet p.item e, rest)

few_step : (p : Placed) (row : List Placed) (k most : ℕ) (t : Bool) → (p.row == k) ≡ t → emit_count p.item ≤ most
    → ((p.row == k) ≡ true → emits p.item ≡ true → emit_count (join_assignments row) ≡ 0) → emit_count (join_assignments row) ≤ most
    → emit_count (join_assignments (cond t (p ∷ row) row)) ≤ most
few_step p row k most true e h w rest = few_by p row most (emits p.item) refl h (w e) rest
few_step p row k most false e h w rest = rest

pub emits_few : (ps : List Placed) (k most : ℕ) → is_valid ps ≡ true → list_all (λ p. nat_le (emit_count p.item) most) ps ≡ true
    → emit_count (join_assignments (row_at k ps)) ≤ most
emits_few [] k most v h = omega arith
emits_few (p ∷ ps) k most v h =
    few_step p (row_at k ps) k most (p.row == k) refl
    (leb-true (emit_count p.item) most (and_first (nat_le (emit_count p.item) most) (list_all (λ q. nat_le (emit_count q.item) most) ps) h))
    (λ t e. quiet_in p ps k t e (and_first (list_all (respects_edge p) ps) (is_valid ps) v))
    (emits_few ps k most (and_second (list_all (respects_edge p) ps) (is_valid ps) v)
    (and_second (nat_le (emit_count p.item) most) (list_all (λ q. nat_le (emit_count q.item) most) ps) h))
