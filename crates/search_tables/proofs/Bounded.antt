-- A legal list of moves is short: each move makes a node, or a fact that says less.
use Rattle.std.proofs.Common.{◌≡◌, inl, inr, ℕ, suc, ◌+◌, ◌-◌, ◌*◌, ◌<◌, ◌≤◌, ap, subst, ◌∙◌, arith, Bool, true, false, cond, List, [], ◌∷◌, ◌++◌, length, Some}
use Rattle.std.proofs.Math.Nat.{suc-mul}
use Rattle.std.proofs.lemmas.List.{length-append, length-set, length-map}
use Rattle.std.proofs.lemmas.List.Sums.{sum_by-append, sum_by-cons, sum_by-set}
use Rattle.std.proofs.lemmas.Option.{slice_get_within, get_or_from_slice_get}
use Rattle.std.specs.Prelude.{is_none, sum_by, slice_get, slice_set}
use Rattle.fs_cut.specs.Paths.{Point}
use Rattle.propagate.specs.Execution.{Post, end_of, arrive}
use Rattle.cert_model.specs.Facts.{FactPosition, vector_of, most_literals}
use Rattle.cert_model.specs.Starts.{start_position, start_fact}
use Rattle.propagate.specs.Strength.{with_equation_count, strength}
use Rattle.propagate.proofs.Strength.{rebase_bounded, join_weaker}
use Rattle.cert_model.specs.Lawful.{most_nodes}
use Rattle.search_tables.specs.declared.moves.Move.{Move}
use Rattle.search_tables.specs.SearchTables.{MachinePair, positions_of, SearchNode, Table, start_node, first_table}
use Rattle.search_tables.specs.Next.{Change, next_move}
use Rattle.search_tables.specs.Legal.{MovesLead, Makes}
use Rattle.search_tables.proofs.Forming.{known_in}
use Rattle.search_tables.proofs.Changing.{next_does, Adds, Weakens, arrives_so}

abbrev says : SearchNode → ℕ
says n = strength n.fact

abbrev strengths : Table → ℕ
strengths T = sum_by says T

count_few : (ps : List FactPosition) → with_equation_count ps ≤ length ps
count_few [] = omega arith
count_few (p ∷ ps) = by_test (is_none p.equation) (count_few ps)
  where
    by_test : (b : Bool) → with_equation_count ps ≤ length ps → cond b 0 1 + with_equation_count ps ≤ length (p ∷ ps)
    by_test true h = omega (arith, h)
    by_test false h = omega (arith, h)

module _ (m : MachinePair) where
  -- how many moves a node allows at most
  abbrev moves_a_node : ℕ
  moves_a_node = length (positions_of m) + most_literals + 1

  abbrev potential : Table → ℕ
  potential T = (most_nodes - length T) * moves_a_node + strengths T

  added_less : (T U : Table) (P Q : Point) (post : Post) → Adds (positions_of m) T U P Q post → potential U < potential T
  added_less T U P Q post a =
      let x : SearchNode = record { left = P; right = Q; fact = a.fact } in
      let k = most_nodes - suc (length T) in
      let before : most_nodes - length T ≡ suc k = omega (arith, a.place_left) in
      let after : most_nodes - length (T ++ x ∷ []) ≡ k = omega (arith, length-append T (x ∷ [])) in
      let whole : (most_nodes - length T) * moves_a_node ≡ k * moves_a_node + moves_a_node = ap (λ j. j * moves_a_node) before ∙ suc-mul k moves_a_node in
      let less : (most_nodes - length (T ++ x ∷ [])) * moves_a_node ≡ k * moves_a_node = ap (λ j. j * moves_a_node) after in
      let sum : strengths (T ++ x ∷ []) ≡ strengths T + says x = omega (arith, sum_by-append says T (x ∷ []), sum_by-cons says x []) in
      let few : says x ≤ length (positions_of m) + most_literals = rebase_bounded post (positions_of m) a.fact a.rebased in
      subst (λ V. potential V < potential T) a.is
      (over ((most_nodes - length T) * moves_a_node) ((most_nodes - length (T ++ x ∷ [])) * moves_a_node) (k * moves_a_node) (strengths T)
      (strengths (T ++ x ∷ [])) (says x) whole less sum few)
    where
      over : (x y z s t u : ℕ) → x ≡ z + moves_a_node → y ≡ z → t ≡ s + u → u ≤ length (positions_of m) + most_literals → y + t < x + s
      over x y z s t u e g h l = omega (arith, e, g, h, l)

  weakened_less : (T U : Table) (P Q : Point) (post : Post) → Weakens T U P Q post → potential U < potential T
  weakened_less T U P Q post w =
      let j = known_in P Q 0 T w.number w.node w.target in
      let at : w.number ≡ j.0 = omega (arith, j.1) in
      let is_in : slice_get T w.number ≡ Some w.node = ap (slice_get T) at ∙ j.2 in
      let x : SearchNode = record { left = w.node.left; right = w.node.right; fact = w.fact } in
      let sum : strengths (slice_set T w.number x) + says w.node ≡ strengths T + says x =
      subst (λ (o : SearchNode). strengths (slice_set T w.number x) + says o ≡ strengths T + says x) (get_or_from_slice_get T w.number w.node w.node is_in)
      (sum_by-set says T w.number x w.node (slice_get_within T w.number w.node is_in)) in
      let less : says x < says w.node = join_weaker w.node.fact w.fact post w.missing w.compared_to w.something w.joined in
      let same : (most_nodes - length (slice_set T w.number x)) * moves_a_node ≡ (most_nodes - length T) * moves_a_node =
      ap (λ n. (most_nodes - n) * moves_a_node) (length-set T w.number x) in
      subst (λ V. potential V < potential T) w.is
      (over ((most_nodes - length T) * moves_a_node) ((most_nodes - length (slice_set T w.number x)) * moves_a_node) (strengths T)
      (strengths (slice_set T w.number x)) (says w.node) (says x) same sum less)
    where
      over : (x y s t u v : ℕ) → y ≡ x → t + u ≡ s + v → v < u → y + t < x + s
      over x y s t u v e g l = omega (arith, e, g, l)

  next_less : (T U : Table) (y : Move) → next_move m T ≡ Change y U → potential U < potential T
  next_less T U y h =
      let d = next_does m T U y h in
      let P = end_of d.node.left d.paths.left in
      let Q = end_of d.node.right d.paths.right in
      let a = arrives_so (positions_of m) T U P Q
      (arrive m.left m.right d.node.fact.literals (vector_of d.node.fact.positions) d.paths.left d.paths.right) d.does in
      elim a.changes [ inl x ↦ added_less T U P Q a.post x | inr x ↦ weakened_less T U P Q a.post x ]

  lead_short : (moves : List Move) (S T : Table) → MovesLead m S moves T → length moves + potential T ≤ potential S
  lead_short [] S T h = let e : potential S ≡ potential T = ap potential h in at_once (potential S) (potential T) e
    where
      at_once : (s t : ℕ) → s ≡ t → 0 + t ≤ s
      at_once s t e = omega (arith, e)
  lead_short (x ∷ xs) S T h = suc_sum_within (length xs) (potential T) (potential h.0) (potential S) (lead_short xs h.0 T h.3) (next_less S h.0 x h.2)
    where
      suc_sum_within : (n t v s : ℕ) → n + t ≤ v → v < s → suc n + t ≤ s
      suc_sum_within n t v s a b = omega (arith, a, b)

  first_low : potential (first_table m) ≤ most_nodes * moves_a_node
  first_low =
      let ps = (start_fact (positions_of m)).positions in
      let few : with_equation_count ps ≤ length (positions_of m) = omega (arith, count_few ps, length-map (positions_of m) (start_position (positions_of m))) in
      let sum : strengths (first_table m) ≡ with_equation_count ps = omega (arith, sum_by-cons says (start_node m) []) in
      let whole : most_nodes * moves_a_node ≡ 4095 * moves_a_node + moves_a_node = suc-mul 4095 moves_a_node in
      over (4095 * moves_a_node) (most_nodes * moves_a_node) (strengths (first_table m)) (with_equation_count ps) whole sum few
    where
      over : (x y s n : ℕ) → y ≡ x + moves_a_node → s ≡ n → n ≤ length (positions_of m) → x + s ≤ y
      over x y s n e g l = omega (arith, e, g, l)

  pub legal_short : (moves : List Move) (T : Table) → Makes m moves T → length moves ≤ most_nodes * moves_a_node
  legal_short moves T h = at_most (length moves) (potential T) (potential (first_table m)) (most_nodes * moves_a_node)
      (lead_short moves (first_table m) T h.lead) first_low
    where
      at_most : (n t f x : ℕ) → n + t ≤ f → f ≤ x → n ≤ x
      at_most n t f x a b = omega (arith, a, b)
