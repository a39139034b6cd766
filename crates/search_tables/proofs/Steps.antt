-- Turns of the walk.
use Rattle.std.proofs.Common.{◌≡◌, ℕ, zero, suc, ◌+◌, ◌-◌, ◌<◌, ◌≤◌, max, inl, inr, refl, sym, ◌∙◌, ap, subst, arith, List, [], ◌∷◌, ◌++◌, length, take, drop}
use Rattle.std.proofs.Common.{get_or}
use Rattle.std.proofs.lemmas.List.Sums.{sum_by-append, sum_by-cons}
use Rattle.std.proofs.lemmas.List.{length-append}
use Rattle.std.proofs.lemmas.Option.{get_or_from_slice_get, slice_get-get_or, slice_get_within}
use Rattle.std.specs.List.{AllByRecursion, slice_index_or}
use Rattle.std.specs.Prelude.{Some, slice_get, slice_set, sum_by}
use Rattle.search_tables.specs.Graphs.{HasEdge, IsCycle, above}
use Rattle.search_tables.specs.declared.marks.Mark.{Mark}
use Rattle.search_tables.specs.declared.marks.Mark.TheVariants.{New, Open, Ranked}
use Rattle.search_tables.specs.declared.marks.Frame.{Frame}
use Rattle.search_tables.specs.Walks.{ranks_in, one_if_ranked, ranked_count, IsRanked, AreRight, Looks}
use Rattle.search_tables.specs.Walks.{IsStack, Extends, frame_work, walk_work, InRange, Walked}
use Rattle.search_tables.specs.Walks.{IsUnderWay, NoneOpen, frame_nodes}
use Rattle.search_tables.proofs.RankLists.{set_same, set_other, same_or_not, get_last, get_snoc}
use Rattle.search_tables.proofs.Marking.{extends_set, right_ranked, right_opened}
use Rattle.search_tables.proofs.Stacks.{frame, looks_more, stack_top, stack_push, stack_pop, cycle_at, open_work, rank_work}
use Rattle.search_tables.proofs.WayBack.{one_target}

frame_is : (E : List (List ℕ)) (f : Frame) (js : List ℕ) → slice_get E f.node ≡ Some js → frame_work E f ≡ (length js - f.next) + 1
frame_is E f js g = ap (λ xs. (length xs - f.next) + 1) (get_or_from_slice_get E f.node js [] g)

sum_snoc : (E : List (List ℕ)) (B : List Frame) (t : Frame) → sum_by (frame_work E) (B ++ t ∷ []) ≡ sum_by (frame_work E) B + frame_work E t
sum_snoc E B t =
    let a = sum_by-append (frame_work E) B (t ∷ []) in
    let b = sum_by-cons (frame_work E) t [] in
    omega (arith, a, b)

extends_same : (M : List Mark) → Extends M M
extends_same M = record { kept = λ j r g. g }

opened_on : (M : List Mark) (i j d : ℕ) → slice_get M j ≡ Some New → IsUnderWay M i → IsUnderWay (slice_set M j (Open d)) i
opened_on M i j d g u = elim (same_or_not i j) [
  | inl e ↦ inl (d, rw e (set_same M j New (Open d) g))
  | inr n ↦ elim u [
    | inl o ↦ inl (o.0, set_other M j i (Open d) n ∙ o.1)
    | inr r ↦ inr (record { rank = r.rank; mark = set_other M j i (Open d) n ∙ r.mark })
  ]
]

ranked_way : (M : List Mark) (i j d r : ℕ) → slice_get M j ≡ Some (Open d) → IsUnderWay M i → IsUnderWay (slice_set M j (Ranked r)) i
ranked_way M i j d r g u = elim (same_or_not i j) [
  | inl e ↦ inr (record { rank = r; mark = rw e (set_same M j (Open d) (Ranked r) g) })
  | inr n ↦ elim u [
    | inl o ↦ inl (o.0, set_other M j i (Ranked r) n ∙ o.1)
    | inr x ↦ inr (record { rank = x.rank; mark = set_other M j i (Ranked r) n ∙ x.mark })
  ]
]

take_all : (xs : List ℕ) (n : ℕ) → length xs ≤ n → take n xs ≡ xs
take_all [] zero le = refl
take_all [] (suc n) le = refl
take_all (x ∷ xs) zero le = absurd (omega arith)
take_all (x ∷ xs) (suc n) le = ap (λ ys. x ∷ ys) (take_all xs n (omega arith))

module _ (E : List (List ℕ)) (M : List Mark) (B : List Frame) (t : Frame) (js : List ℕ) (right : AreRight E M) (s : IsStack E M (B ++ t ∷ []))
    (from : slice_get E t.node ≡ Some js) where
  look : Looks E M t
  look = s.looks (length B) t (get_last B t)

  targets_are : look.targets ≡ js
  targets_are = one_target E t.node look.targets js look.from from

  edge_from : (j : ℕ) → slice_get js t.next ≡ Some j → (d : ℕ) (f : Frame) → slice_get (B ++ t ∷ []) d ≡ Some f → suc d ≡ length (B ++ t ∷ [])
      → HasEdge E f.node j
  edge_from j g d f a b = elim (get_snoc B t d f a) [
    | inl h ↦ absurd (let w = slice_get_within B d f h in let z = length-append B (t ∷ []) in omega (arith, b))
    | inr h ↦ subst (λ (x : Frame). HasEdge E x.node j) h.1 (record { targets = js; from = from; place = t.next; is_in = g })
  ]

  pub step_ranked : (j r : ℕ) → slice_get js t.next ≡ Some j → slice_get M j ≡ Some (Ranked r)
      → Walked E M M (B ++ frame t.node (t.next + 1) (max t.best (r + 1)) ∷ []) (walk_work E M (B ++ t ∷ []))
  step_ranked j r g h =
      let u = frame t.node (t.next + 1) (max t.best (r + 1)) in
      let g' : slice_get look.targets t.next ≡ Some j = subst (λ xs. slice_get xs t.next ≡ Some j) (sym targets_are) g in
      let w = slice_get_within js t.next j g in
      record {
        right = right;
        stack = stack_top E M B t u refl (looks_more E M t look j r right g' h) s;
        extends = extends_same M;
        under_way = λ i h. h;
        less = omega (arith, sum_snoc E B t, sum_snoc E B u, frame_is E t js from, frame_is E u js from, w);
      }

  pub step_new : (j : ℕ) → InRange E → slice_get js t.next ≡ Some j → slice_get M j ≡ Some New
      → Walked E M (slice_set M j (Open (length (B ++ t ∷ [])))) ((B ++ t ∷ []) ++ frame j 0 0 ∷ []) (walk_work E M (B ++ t ∷ []))
  step_new j range g h =
      let S = B ++ t ∷ [] in
      let u = frame j 0 0 in
      let ks = slice_index_or E j [] in
      let e : slice_get E j ≡ Some ks = slice_get-get_or E j [] (range.targets t.node t.next j js from g) in
      record {
        right = right_opened E M j (length S) right h;
        stack = stack_push E M S j ks h e (edge_from j g) s;
        extends = extends_set M j New (Open (length S)) h (λ q z. cc);
        under_way = λ i u. opened_on M i j (length S) h u;
        less = omega (arith, sum_snoc E S u, frame_is E u ks e, open_work E M j (length S) ks e h);
      }

  pub step_done : length js ≤ t.next → Walked E M (slice_set M t.node (Ranked t.best)) B (walk_work E M (B ++ t ∷ []))
  step_done le =
      let top = s.marked (length B) t (get_last B t) in
      let all : take t.next look.targets ≡ js = take_whole t.next look.targets js targets_are le in
      record {
        right = right_ranked E M t.node (length B) t.best js right top from (subst (λ xs. AllByRecursion (IsRanked M) xs) all look.done)
            (look.best ∙ ap (above (ranks_in M)) all) look.low;
        stack = stack_pop E M B t t.best s;
        extends = extends_set M t.node (Open (length B)) (Ranked t.best) top (λ q z. cc);
        under_way = λ i u. ranked_way M i t.node (length B) t.best top u;
        less = omega (arith, sum_snoc E B t, frame_is E t js from, rank_work E M t.node (length B) t.best top);
      } where
        take_whole : (n : ℕ) (xs ys : List ℕ) → xs ≡ ys → length ys ≤ n → take n xs ≡ ys
        take_whole n xs ys e le = ap (take n) e ∙ take_all ys n le

  pub step_open : (j d : ℕ) → slice_get js t.next ≡ Some j → slice_get M j ≡ Some (Open d) → IsCycle E (frame_nodes (drop d (B ++ t ∷ [])))
  step_open j d g h = cycle_at E M (B ++ t ∷ []) j d s h (edge_from j g)

pub node_in : (E : List (List ℕ)) (M : List Mark) (B : List Frame) (t : Frame) → IsStack E M (B ++ t ∷ []) → t.node < length E
node_in E M B t s = let l = s.looks (length B) t (get_last B t) in slice_get_within E t.node l.targets l.from

at_most : (m : Mark) → one_if_ranked m ≤ 1
at_most New = omega arith
at_most (Open d) = omega arith
at_most (Ranked r) = omega arith

few_ranked : (M : List Mark) → ranked_count M ≤ length M
few_ranked [] = omega arith
few_ranked (m ∷ M) = let h = few_ranked M in let c = sum_by-cons one_if_ranked m M in let o = at_most m in omega (arith, c)

pub rank_low : (E : List (List ℕ)) (M : List Mark) (j r : ℕ) → InRange E → AreRight E M → slice_get M j ≡ Some (Ranked r) → r < 4096
rank_low E M j r range right g =
    let a = right.low j r g in
    let b = few_ranked M in
    omega (arith, b, right.count, range.few)

pub mark_at : (M : List Mark) (j : ℕ) (a b : Mark) → j < length M → a ≡ get_or M j a → a ≡ b → slice_get M j ≡ Some b
mark_at M j a b lt g e = slice_get-get_or M j a lt ∙ ap Some (sym g ∙ e)

pub extends_more : (M N O : List Mark) → Extends M N → Extends N O → Extends M O
extends_more M N O a b = record { kept = λ j r g. b.kept j r (a.kept j r g) }

-- a visit begins
pub begins : (E : List (List ℕ)) (M : List Mark) (S : List Frame) (root : ℕ) → AreRight E M → NoneOpen M → slice_get M root ≡ Some New → S ≡ frame root 0 0 ∷ []
    → IsStack E (slice_set M root (Open 0)) S
begins E M S root right none new e =
    let js = slice_index_or E root [] in
    let low : root < length E = (let w = slice_get_within M root New new in omega (arith, w, right.count)) in
    let empty : IsStack E M [] = record {
      looks = λ d f g. absurd (cc);
      marked = λ d f g. absurd (cc);
      node_at = λ i d g. absurd (none i d g);
      steps = λ d f g a b. absurd (cc);
    } in
    subst (λ z. IsStack E (slice_set M root (Open 0)) z) (sym e) (stack_push E M [] root js new (slice_get-get_or E root [] low) (λ d f a b. absurd (cc)) empty)
