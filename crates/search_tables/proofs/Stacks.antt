-- Turns of the walk keep its stack.
use Rattle.std.proofs.Common.{◌≡◌, ℕ, zero, suc, ◌+◌, ◌-◌, max, inl, inr, refl, sym, ◌∙◌, ap, subst, arith, List, [], ◌∷◌, ◌++◌, length, map, take, drop}
use Rattle.std.proofs.lemmas.List.{length-append}
use Rattle.std.specs.List.{AllByRecursion}
use Rattle.std.specs.Prelude.{Some, slice_get, slice_set, slice_index}
use Rattle.std.proofs.lemmas.Option.{slice_get_within}
use Rattle.base_laws.proofs.Lists.{slice_get-front}
use Rattle.search_tables.specs.Graphs.{HasEdge, Follow, IsCycle, above}
use Rattle.search_tables.specs.declared.marks.Mark.{Mark}
use Rattle.search_tables.specs.declared.marks.Mark.TheVariants.{New, Open, Ranked}
use Rattle.search_tables.specs.declared.marks.Frame.{Frame}
use Rattle.search_tables.specs.Walks.{ranks_in, ranked_count, IsRanked, AreRight, Looks, IsStack, Extends, new_work}
use Rattle.search_tables.proofs.RankLists.{set_same, set_other, get_last, get_snoc, same_or_not}
use Rattle.search_tables.proofs.Marking.{rank_at, extends_set, ranked_set, looks_on}

abbrev pub frame : ℕ → ℕ → ℕ → Frame
frame i n b = record { node = i; next = n; best = b }

take_more : (js : List ℕ) (n j : ℕ) → slice_get js n ≡ Some j → take (n + 1) js ≡ take n js ++ j ∷ []
take_more [] n j g = cc
take_more (a ∷ js) zero j g = let e : a ≡ j = cc in ap (λ x. x ∷ []) e
take_more (a ∷ js) (suc n) j g =
    let one : suc n + 1 ≡ suc (n + 1) = omega arith in
    ap (λ k. take k (a ∷ js)) one ∙ ap (λ xs. a ∷ xs) (take_more js n j g)

all_snoc : (M : List Mark) (js : List ℕ) (j : ℕ) → AllByRecursion (IsRanked M) js → IsRanked M j → AllByRecursion (IsRanked M) (js ++ j ∷ [])
all_snoc M [] j h k = (k, tt)
all_snoc M (a ∷ js) j h k = (h.0, all_snoc M js j h.1 k)

above_snoc : (ranks js : List ℕ) (j : ℕ) → above ranks (js ++ j ∷ []) ≡ max (above ranks js) (suc (slice_index ranks j))
above_snoc ranks [] j = omega arith
above_snoc ranks (a ∷ js) j = let h = above_snoc ranks js j in omega arith

-- one target more was looked at
pub looks_more : (E : List (List ℕ)) (M : List Mark) (f : Frame) (l : Looks E M f) (j r : ℕ) → AreRight E M → slice_get l.targets f.next ≡ Some j
    → slice_get M j ≡ Some (Ranked r) → Looks E M (frame f.node (f.next + 1) (max f.best (r + 1)))
looks_more E M f l j r right g h =
    let t = take_more l.targets f.next j g in
    let low = right.low j r h in
    let w = slice_get_within l.targets f.next j g in
    let a = above_snoc (ranks_in M) (take f.next l.targets) j in
    let b = rank_at M j r h in
    record {
      targets = l.targets;
      from = l.from;
      within = omega arith;
      done = subst (λ xs. AllByRecursion (IsRanked M) xs) (sym t) (all_snoc M (take f.next l.targets) j l.done (record { rank = r; mark = h }));
      best = subst (λ xs. max f.best (r + 1) ≡ above (ranks_in M) xs) (sym t) (omega (arith, a, b, l.best));
      low = omega (arith, l.low, low);
    }

-- the top of the stack is replaced by a frame of the same node
pub stack_top : (E : List (List ℕ)) (M : List Mark) (B : List Frame) (t u : Frame) → u.node ≡ t.node → Looks E M u → IsStack E M (B ++ t ∷ [])
    → IsStack E M (B ++ u ∷ [])
stack_top E M B t u n look s =
    let last = get_last B t in
    record {
      looks = λ d f g. elim (get_snoc B u d f g) [ inl h ↦ s.looks d f (slice_get-front B (t ∷ []) d f h) | inr h ↦ subst (Looks E M) h.1 look ];
      marked = λ d f g. elim (get_snoc B u d f g) [
        | inl h ↦ s.marked d f (slice_get-front B (t ∷ []) d f h)
        | inr h ↦ (let e : t.node ≡ f.node = sym n ∙ ap (λ (x : Frame). x.node) h.1 in
            subst (λ i. slice_get M i ≡ Some (Open d)) e (subst (λ k. slice_get M t.node ≡ Some (Open k)) (sym h.0) (s.marked (length B) t last)))
      ];
      node_at = λ i d g. let o = s.node_at i d g in elim (get_snoc B t d o.0 o.1) [
        | inl h ↦ (o.0, slice_get-front B (u ∷ []) d o.0 h, o.2)
        | inr h ↦ (u, subst (λ k. slice_get (B ++ u ∷ []) k ≡ Some u) (sym h.0) (get_last B u), n ∙ ap (λ (x : Frame). x.node) h.1 ∙ o.2)
      ];
      steps = λ d f g a b. elim (get_snoc B u d f a) [
        | inl h ↦ elim (get_snoc B u (suc d) g b) [
          | inl k ↦ s.steps d f g (slice_get-front B (t ∷ []) d f h) (slice_get-front B (t ∷ []) (suc d) g k)
          | inr k ↦ (let e : t.node ≡ g.node = sym n ∙ ap (λ (x : Frame). x.node) k.1 in
              subst (HasEdge E f.node) e (s.steps d f t (slice_get-front B (t ∷ []) d f h) (subst (λ z. slice_get (B ++ t ∷ []) z ≡ Some t) (sym k.0) last)))
        ]
        | inr h ↦ absurd (let w = slice_get_within (B ++ u ∷ []) (suc d) g b in let z = length-append B (u ∷ []) in omega (arith, h.0))
      ];
    }

-- a new node is put on the stack
pub stack_push : (E : List (List ℕ)) (M : List Mark) (S : List Frame) (j : ℕ) (js : List ℕ) → slice_get M j ≡ Some New → slice_get E j ≡ Some js
    → ((d : ℕ) (f : Frame) → slice_get S d ≡ Some f → suc d ≡ length S → HasEdge E f.node j) → IsStack E M S
    → IsStack E (slice_set M j (Open (length S))) (S ++ frame j 0 0 ∷ [])
stack_push E M S j js g h last s =
    let M' = slice_set M j (Open (length S)) in
    let u = frame j 0 0 in
    let ext : Extends M M' = extends_set M j New (Open (length S)) g (λ q z. cc) in
    let more : ranked_count M' ≡ ranked_count M = (let x = ranked_set M j New (Open (length S)) g in omega (arith, x)) in
    let here : slice_get M' j ≡ Some (Open (length S)) = set_same M j New (Open (length S)) g in
    record {
      looks = λ d f a. elim (get_snoc S u d f a) [
        | inl b ↦ looks_on E M M' f ext (omega (arith, more)) (s.looks d f b)
        | inr b ↦ subst (Looks E M') b.1 (record { targets = js; from = h; within = omega arith; done = tt; best = refl; low = omega arith })
      ];
      marked = λ d f a. elim (get_snoc S u d f a) [
        | inl b ↦ (let m = s.marked d f b in set_other M j f.node (Open (length S)) (λ e. (let x = subst (λ i. slice_get M i ≡ Some (Open d)) e m in cc)) ∙ m)
        | inr b ↦ subst (λ i. slice_get M' i ≡ Some (Open d)) (ap (λ (x : Frame). x.node) b.1) (subst (λ k. slice_get M' j ≡ Some (Open k)) (sym b.0) here)
      ];
      node_at = λ i d a. elim (same_or_not i j) [
        | inl e ↦ (let x : slice_get M' j ≡ Some (Open d) = subst (λ k. slice_get M' k ≡ Some (Open d)) e a in
            let y : length S ≡ d = cc in
            (u, subst (λ k. slice_get (S ++ u ∷ []) k ≡ Some u) y (get_last S u), sym e))
        | inr n ↦ (let o = s.node_at i d (sym (set_other M j i (Open (length S)) n) ∙ a) in (o.0, slice_get-front S (u ∷ []) d o.0 o.1, o.2))
      ];
      steps = λ d f k a b. elim (get_snoc S u d f a) [
        | inl x ↦ elim (get_snoc S u (suc d) k b) [
          | inl y ↦ s.steps d f k x y
          | inr y ↦ subst (HasEdge E f.node) (ap (λ (z : Frame). z.node) y.1) (last d f x y.0)
        ]
        | inr x ↦ absurd (let w = slice_get_within (S ++ u ∷ []) (suc d) k b in let z = length-append S (u ∷ []) in omega (arith, x.0))
      ];
    }

-- the top of the stack gets its rank
pub stack_pop : (E : List (List ℕ)) (M : List Mark) (B : List Frame) (t : Frame) (r : ℕ) → IsStack E M (B ++ t ∷ [])
    → IsStack E (slice_set M t.node (Ranked r)) B
stack_pop E M B t r s =
    let M' = slice_set M t.node (Ranked r) in
    let top = s.marked (length B) t (get_last B t) in
    let ext : Extends M M' = extends_set M t.node (Open (length B)) (Ranked r) top (λ q z. cc) in
    let more : ranked_count M' ≡ ranked_count M + 1 = (let x = ranked_set M t.node (Open (length B)) (Ranked r) top in omega (arith, x)) in
    record {
      looks = λ d f a. looks_on E M M' f ext (omega (arith, more)) (s.looks d f (slice_get-front B (t ∷ []) d f a));
      marked = λ d f a.
          let m = s.marked d f (slice_get-front B (t ∷ []) d f a) in
          let w = slice_get_within B d f a in
          set_other M t.node f.node (Ranked r)
          (λ e. (let x : slice_get M t.node ≡ Some (Open d) = subst (λ i. slice_get M i ≡ Some (Open d)) e m in let y : d ≡ length B = cc in omega (arith, y)))
          ∙ m;
      node_at = λ i d a. elim (same_or_not i t.node) [
        | inl e ↦
            absurd (let x : slice_get M' t.node ≡ Some (Open d) = subst (λ k. slice_get M' k ≡ Some (Open d)) e a in
            let y = set_same M t.node (Open (length B)) (Ranked r) top in cc)
        | inr n ↦ (let o = s.node_at i d (sym (set_other M t.node i (Ranked r) n) ∙ a) in elim (get_snoc B t d o.0 o.1) [
          | inl x ↦ (o.0, x, o.2)
          | inr x ↦ absurd (n (sym (ap (λ (z : Frame). z.node) x.1 ∙ o.2)))
        ])
      ];
      steps = λ d f g a b. s.steps d f g (slice_get-front B (t ∷ []) d f a) (slice_get-front B (t ∷ []) (suc d) g b);
    }

-- ---- a cycle
follow_all : (E : List (List ℕ)) (L : List Frame) (z : ℕ)
    → ((d : ℕ) (f g : Frame) → slice_get L d ≡ Some f → slice_get L (suc d) ≡ Some g → HasEdge E f.node g.node)
    → ((d : ℕ) (f : Frame) → slice_get L d ≡ Some f → suc d ≡ length L → HasEdge E f.node z) → Follow E (map (λ f. f.node) L) z
follow_all E [] z steps last = tt
follow_all E (f ∷ []) z steps last = (last 0 f refl refl, tt)
follow_all E (f ∷ g ∷ L) z steps last =
    (steps 0 f g refl refl, follow_all E (g ∷ L) z (λ d a b x y. steps (suc d) a b x y) (λ d a x y. last (suc d) a x (ap suc y)))

get_drop : {A : Type 0} (d k : ℕ) (S : List A) → slice_get (drop d S) k ≡ slice_get S (d + k)
get_drop zero k S = let e : k ≡ 0 + k = omega arith in ap (slice_get S) e
get_drop (suc d) k [] = refl
get_drop (suc d) k (a ∷ S) = let e : suc (d + k) ≡ suc d + k = omega arith in get_drop d k S ∙ ap (slice_get (a ∷ S)) e

drop_head : {A : Type 0} (d : ℕ) (S : List A) (f : A) → slice_get S d ≡ Some f → drop d S ≡ f ∷ drop (suc d) S
drop_head d [] f g = cc
drop_head zero (a ∷ S) f g = let e : a ≡ f = cc in ap (λ x. x ∷ S) e
drop_head (suc d) (a ∷ S) f g = drop_head d S f g

length_drop : {A : Type 0} (d : ℕ) (S : List A) → length (drop d S) ≡ length S - d
length_drop zero S = omega arith
length_drop (suc d) [] = omega arith
length_drop (suc d) (a ∷ S) = let h = length_drop d S in omega arith

cycle_by : (E : List (List ℕ)) (L rest : List Frame) (f : Frame) (j : ℕ) → L ≡ f ∷ rest → f.node ≡ j → Follow E (map (λ f. f.node) L) j
    → IsCycle E (map (λ f. f.node) L)
cycle_by E L rest f j e n h =
    subst (λ K. IsCycle E (map (λ f. f.node) K)) (sym e)
    (subst (Follow E (f.node ∷ map (λ f. f.node) rest)) (sym n) (subst (λ K. Follow E (map (λ f. f.node) K) j) e h))

-- an edge from the top to an open node closes a cycle
pub cycle_at : (E : List (List ℕ)) (M : List Mark) (S : List Frame) (j d : ℕ) → IsStack E M S → slice_get M j ≡ Some (Open d)
    → ((d : ℕ) (f : Frame) → slice_get S d ≡ Some f → suc d ≡ length S → HasEdge E f.node j) → IsCycle E (map (λ f. f.node) (drop d S))
cycle_at E M S j d s o last =
    let n = s.node_at j d o in
    cycle_by E (drop d S) (drop (suc d) S) n.0 j (drop_head d S n.0 n.1) n.2
    (follow_all E (drop d S) j
    (λ k f g a b. s.steps (d + k) f g (sym (get_drop d k S) ∙ a)
    (let e : d + suc k ≡ suc (d + k) = omega arith in subst (λ z. slice_get S z ≡ Some g) e (sym (get_drop d (suc k) S) ∙ b)))
    (λ k f a b. last (d + k) f (sym (get_drop d k S) ∙ a) (let x = length_drop d S in omega (arith, x, b))))

-- ---- less work
pub open_work : (E : List (List ℕ)) (M : List Mark) (i d : ℕ) (js : List ℕ) → slice_get E i ≡ Some js → slice_get M i ≡ Some New
    → new_work E (slice_set M i (Open d)) + (length js + 2) ≡ new_work E M
open_work [] M i d js e g = cc
open_work (a ∷ E) [] i d js e g = cc
open_work (a ∷ E) (New ∷ M) zero d js e g = let s : a ≡ js = cc in let l = ap length s in omega (arith, l)
open_work (a ∷ E) (Open k ∷ M) zero d js e g = cc
open_work (a ∷ E) (Ranked r ∷ M) zero d js e g = cc
open_work (a ∷ E) (New ∷ M) (suc i) d js e g = let h = open_work E M i d js e g in omega arith
open_work (a ∷ E) (Open k ∷ M) (suc i) d js e g = open_work E M i d js e g
open_work (a ∷ E) (Ranked r ∷ M) (suc i) d js e g = open_work E M i d js e g

pub rank_work : (E : List (List ℕ)) (M : List Mark) (i d r : ℕ) → slice_get M i ≡ Some (Open d) → new_work E (slice_set M i (Ranked r)) ≡ new_work E M
rank_work [] M i d r g = refl
rank_work (a ∷ E) [] i d r g = cc
rank_work (a ∷ E) (New ∷ M) zero d r g = cc
rank_work (a ∷ E) (Open k ∷ M) zero d r g = refl
rank_work (a ∷ E) (Ranked q ∷ M) zero d r g = cc
rank_work (a ∷ E) (New ∷ M) (suc i) d r g = let h = rank_work E M i d r g in omega arith
rank_work (a ∷ E) (Open k ∷ M) (suc i) d r g = rank_work E M i d r g
rank_work (a ∷ E) (Ranked q ∷ M) (suc i) d r g = rank_work E M i d r g
