-- Rows of a block, and their moves, one after another.
use Rattle.std.proofs.Common.{◌≡◌, ℕ, suc, ◌+◌, ◌-◌, ◌<◌, ◌≤◌, List, [], ◌∷◌, ◌++◌, length, get_or, drop, map, refl, sym, ap, ap₂, ◌∙◌, subst, arith}
use Rattle.std.proofs.Common.{append_assoc, append-nil, Bool, true, false, Option, Some, None}
use Rattle.std.specs.Prelude.{◌==◌, cond, nat_lt}
use Rattle.std.specs.List.{All, flat_map}
use Rattle.std.proofs.lemmas.Bool.Decides.{nat_tests}
use Rattle.std.proofs.lemmas.List.{drop_more, get_or-map, map_push, map-append}
use Rattle.std.proofs.lemmas.List.Elements.{All-push}
use Rattle.fs_model.proofs.Lists.{length_map}
use Rattle.fs_model.specs.declared.parts.StateId.{StateId}
use Rattle.fs_model.specs.Expressions.{Assignment}
use Rattle.fs_model.specs.Source.{Source}
use Rattle.fs_ast.proofs.Turns.{flat_push}
use Rattle.hls_block_filling.specs.Placings.{PlacedOver, join_assignments, row_at, rows_from}
use Rattle.hls_block_filling.specs.Filling.{Rows, Filled, is_before, is_in, row_or, placed_from}
use Rattle.hls_block_filling.specs.RowMachines.{MoveOver, after_row, moves}
use Rattle.hls_block_filling.specs.SourceRows.{named_item, placed_in_block}
use Rattle.hls_sched.specs.declared.moves.Move.{Move}
use Rattle.hls_sched.specs.RowMoves.{joined_items, move_of, target_of_row, row_in_state}

-- ---- the items of a row
-- what is left of a row from item j on
abbrev pub row_left : Source → List ℕ → Rows → ℕ → ℕ → List (Assignment (List ℕ))
row_left p qs rows k j = join_assignments (row_at k (placed_from j (map (named_item p) (drop j qs)) rows))

row_by : (a : List (Assignment (List ℕ))) (r : ℕ) (ps : List (PlacedOver (List ℕ))) (t : Bool)
    → join_assignments (cond t (record { item = a; row = r } ∷ ps) ps) ≡ cond t (a ++ join_assignments ps) (join_assignments ps)
row_by a r ps true = refl
row_by a r ps false = refl

placed_row : (n k : ℕ) (o : Option ℕ) → is_before n o ≡ true → (row_or o == k) ≡ is_in k o
placed_row n k None e = absurd (cc e)
placed_row n k (Some r) e = refl

row_from : (p : Source) (qs : List ℕ) (rows : Rows) (k j n : ℕ) → j < length qs → is_before n (rows j) ≡ true
    → row_left p qs rows k j ≡ cond (is_in k (rows j)) (named_item p (get_or qs j 0) ++ row_left p qs rows k (j + 1)) (row_left p qs rows k (j + 1))
row_from p qs rows k j n h b =
    let a : List (Assignment (List ℕ)) = named_item p (get_or qs j 0) in
    let later : ℕ → List (Assignment (List ℕ)) = λ i. join_assignments (row_at k (placed_from i (map (named_item p) (drop (j + 1) qs)) rows)) in
    let one : suc j ≡ j + 1 = omega arith in
    ap (λ xs. join_assignments (row_at k (placed_from j (map (named_item p) xs) rows))) (drop_more qs j 0 h)
    ∙ row_by a (row_or (rows j)) (row_at k (placed_from (suc j) (map (named_item p) (drop (j + 1) qs)) rows)) (row_or (rows j) == k)
    ∙ ap (λ t. cond t (a ++ later (suc j)) (later (suc j))) (placed_row n k (rows j) b)
    ∙ ap (λ i. cond (is_in k (rows j)) (a ++ later i) (later i)) one

items_push : (p : Source) (states : List StateId) (q : StateId) → joined_items p (states ++ q ∷ []) ≡ joined_items p states ++ named_item p q.0
items_push p states q = ap (flat_map (named_item p)) (map-append (λ (x : StateId). x.0) states (q ∷ []))
    ∙ flat_push (named_item p) (map (λ (x : StateId). x.0) states) q.0

number_read : (states : List StateId) (j : ℕ) (q : StateId) → j < length states → q ≡ get_or states j q → get_or (map (λ (x : StateId). x.0) states) j 0 ≡ q.0
number_read states j q h e = get_or-map (λ (x : StateId). x.0) states j q 0 h ∙ ap (λ (x : StateId). x.0) (sym e)

module _ (p : Source) (states : List StateId) (rows : Rows) (k n : ℕ) where
  -- an item of the row
  pub row_takes : (j : ℕ) (q : StateId) (old new : List StateId) (whole : List (Assignment (List ℕ))) → j < length states → q ≡ get_or states j q
      → is_before n (rows j) ≡ true → is_in k (rows j) ≡ true → new ≡ old ++ q ∷ []
      → joined_items p old ++ row_left p (map (λ (x : StateId). x.0) states) rows k j ≡ whole
      → joined_items p new ++ row_left p (map (λ (x : StateId). x.0) states) rows k (j + 1) ≡ whole
  row_takes j q old new whole h e b i put before =
      let numbers : List ℕ = map (λ (x : StateId). x.0) states in
      let rest : List (Assignment (List ℕ)) = row_left p numbers rows k (j + 1) in
      let count : length numbers ≡ length states = length_map (λ (x : StateId). x.0) states in
      let low : j < length numbers = omega (arith, count, h) in
      let here : row_left p numbers rows k j ≡ named_item p q.0 ++ rest =
      row_from p numbers rows k j n low b ∙ ap (λ t. cond t (named_item p (get_or numbers j 0) ++ rest) rest) i
      ∙ ap (λ z. named_item p z ++ rest) (number_read states j q h e) in
      ap (λ xs. joined_items p xs ++ rest) put
      ∙ ap (λ xs. xs ++ rest) (items_push p old q)
      ∙ append_assoc (joined_items p old) (named_item p q.0) rest
      ∙ ap (λ xs. joined_items p old ++ xs) (sym here)
      ∙ before

  -- an item of another row
  pub row_skips : (j : ℕ) (old new : List StateId) (whole : List (Assignment (List ℕ))) → j < length states → is_before n (rows j) ≡ true
      → is_in k (rows j) ≡ false → new ≡ old
      → joined_items p old ++ row_left p (map (λ (x : StateId). x.0) states) rows k j ≡ whole
      → joined_items p new ++ row_left p (map (λ (x : StateId). x.0) states) rows k (j + 1) ≡ whole
  row_skips j old new whole h b i same before =
      let numbers : List ℕ = map (λ (x : StateId). x.0) states in
      let rest : List (Assignment (List ℕ)) = row_left p numbers rows k (j + 1) in
      let count : length numbers ≡ length states = length_map (λ (x : StateId). x.0) states in
      let low : j < length numbers = omega (arith, count, h) in
      let here : row_left p numbers rows k j ≡ rest = row_from p numbers rows k j n low b
      ∙ ap (λ t. cond t (named_item p (get_or numbers j 0) ++ rest) rest) i in
      ap (λ xs. joined_items p xs ++ rest) same ∙ ap (λ xs. joined_items p old ++ xs) (sym here) ∙ before

-- states among so many
pub among_more : (count : ℕ) (states old new : List StateId) (j : ℕ) (q : StateId) → j < length states → q ≡ get_or states j q → new ≡ old ++ q ∷ []
    → All (λ (x : StateId). x.0 < count) states → All (λ (x : StateId). x.0 < count) old → All (λ (x : StateId). x.0 < count) new
among_more count states old new j q h e put all before =
    subst (λ (xs : List StateId). All (λ (x : StateId). x.0 < count) xs) (sym put)
    (All-push (λ (x : StateId). x.0 < count) old q before (subst (λ (x : StateId). x.0 < count) (sym e) (all j q h)))

-- ---- the rows of a block
-- what is left of the moves from row k on
abbrev pub moves_left : ℕ → List ℕ → List (PlacedOver (List ℕ)) → ℕ → ℕ → List (MoveOver (List ℕ))
moves_left exit qs ps n k = moves exit (drop k qs) (rows_from k (n - k) ps)

target_by : (exit : ℕ) (qs : List ℕ) (ps : List (PlacedOver (List ℕ))) (n j : ℕ) (t : Bool) → nat_lt j n ≡ t → n ≤ length qs
    → after_row exit (drop j qs) (rows_from j (n - j) ps) ≡ cond t (get_or qs j 0) exit
target_by exit qs ps n j true e h =
    let low : j < n = grind (arith, nat_tests) in
    let more : n - j ≡ suc (n - suc j) = omega (arith, low) in
    ap₂ (λ (xs : List ℕ) (i : ℕ). after_row exit xs (rows_from j i ps)) (drop_more qs j 0 (omega (arith, low, h))) more
target_by exit qs ps n j false e h =
    let past : n ≤ j = grind (arith, nat_tests) in
    let none : n - j ≡ 0 = omega (arith, past) in
    ap (λ i. after_row exit (drop j qs) (rows_from j i ps)) none

move_from : (exit : ℕ) (qs : List ℕ) (ps : List (PlacedOver (List ℕ))) (n k : ℕ) → k < n → n ≤ length qs
    → moves_left exit qs ps n k ≡ record { state = get_or qs k 0; assignments = join_assignments (row_at k ps); target = target_of_row exit qs n k }
    ∷ moves_left exit qs ps n (k + 1)
move_from exit qs ps n k low h =
    let more : n - k ≡ suc (n - (k + 1)) = omega (arith, low) in
    let one : suc k ≡ k + 1 = omega arith in
    let rest : ℕ → List (List (Assignment (List ℕ))) = λ i. rows_from i (n - (k + 1)) ps in
    ap₂ (λ (xs : List ℕ) (i : ℕ). moves exit xs (rows_from k i ps)) (drop_more qs k 0 (omega (arith, low, h))) more
    ∙ ap
    (λ i. record { state = get_or qs k 0; assignments = join_assignments (row_at k ps); target = after_row exit (drop (k + 1) qs) (rest i) }
    ∷ moves exit (drop (k + 1) qs) (rest i)) one
    ∙ ap (λ z. record { state = get_or qs k 0; assignments = join_assignments (row_at k ps); target = z } ∷ moves_left exit qs ps n (k + 1))
    (target_by exit qs ps n (k + 1) (nat_lt (k + 1) n) refl h)

-- a row more
pub moves_more : (p : Source) (exit : ℕ) (states : List StateId) (f : Filled) (k : ℕ) (x : Move) (old new : List Move) (whole : List (MoveOver (List ℕ)))
    → k < f.count → f.count ≤ length states → move_of p x ≡ row_in_state p exit (map (λ (q : StateId). q.0) states) f k → new ≡ old ++ x ∷ []
    → map (move_of p) old ++ moves_left exit (map (λ (q : StateId). q.0) states) (placed_in_block p (map (λ (q : StateId). q.0) states) f) f.count k ≡ whole
    → map (move_of p) new ++ moves_left exit (map (λ (q : StateId). q.0) states)
    (placed_in_block p (map (λ (q : StateId). q.0) states) f) f.count (k + 1) ≡ whole
moves_more p exit states f k x old new whole low h e put before =
    let qs : List ℕ = map (λ (q : StateId). q.0) states in
    let count : length qs ≡ length states = length_map (λ (q : StateId). q.0) states in
    let few : f.count ≤ length qs = omega (arith, count, h) in
    let ps : List (PlacedOver (List ℕ)) = placed_in_block p qs f in
    let rest : List (MoveOver (List ℕ)) = moves_left exit qs ps f.count (k + 1) in
    ap (λ xs. map (move_of p) xs ++ rest) put
    ∙ ap (λ xs. xs ++ rest) (map_push (move_of p) old x)
    ∙ append_assoc (map (move_of p) old) (move_of p x ∷ []) rest
    ∙ ap (λ y. map (move_of p) old ++ y ∷ rest) e
    ∙ ap (λ ys. map (move_of p) old ++ ys) (sym (move_from exit qs ps f.count k low few))
    ∙ before

no_moves : (exit : ℕ) (qs : List ℕ) → ◌≡◌ {A = List (MoveOver (List ℕ))} (moves exit qs []) []
no_moves exit [] = refl
no_moves exit (q ∷ qs) = refl

-- all rows
pub moves_end : (p : Source) (exit : ℕ) (qs : List ℕ) (ps : List (PlacedOver (List ℕ))) (n k : ℕ) (out : List Move) (whole : List (MoveOver (List ℕ))) → n ≤ k
    → map (move_of p) out ++ moves_left exit qs ps n k ≡ whole → map (move_of p) out ≡ whole
moves_end p exit qs ps n k out whole h before =
    let none : n - k ≡ 0 = omega (arith, h) in
    let left : moves_left exit qs ps n k ≡ [] = ap (λ i. moves exit (drop k qs) (rows_from k i ps)) none ∙ no_moves exit (drop k qs) in
    sym (append-nil (map (move_of p) out)) ∙ ap (λ xs. map (move_of p) out ++ xs) (sym left) ∙ before

-- where a row leads
target_among_by : (count exit : ℕ) (states : List StateId) (n k : ℕ) (t : Bool) → nat_lt (k + 1) n ≡ t → n ≤ length states
    → All (λ (x : StateId). x.0 < count) states → exit < count → cond t (get_or (map (λ (x : StateId). x.0) states) (k + 1) 0) exit < count
target_among_by count exit states n k true e h all out =
    let next : k + 1 < n = grind (arith, nat_tests) in
    let low : k + 1 < length states = omega (arith, next, h) in
    subst (λ z. z < count) (sym (get_or-map (λ (x : StateId). x.0) states (k + 1) (record { 0 = 0 }) 0 low)) (all (k + 1) (record { 0 = 0 }) low)
target_among_by count exit states n k false e h all out = out

pub target_among : (count exit : ℕ) (states : List StateId) (n k : ℕ) → n ≤ length states → All (λ (x : StateId). x.0 < count) states → exit < count
    → target_of_row exit (map (λ (x : StateId). x.0) states) n k < count
target_among count exit states n k h all out = target_among_by count exit states n k (nat_lt (k + 1) n) refl h all out
