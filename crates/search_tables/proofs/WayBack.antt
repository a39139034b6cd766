-- The search for a way back keeps what is known of it.
use Rattle.std.proofs.Common.{◌≡◌, ℕ, zero, suc, ◌+◌, ◌-◌, ◌<◌, ◌≤◌, ◌⊎◌, inl, inr, refl, sym, ◌∙◌, ap, subst, arith, Bool, true, false, List, [], ◌∷◌, ◌++◌}
use Rattle.std.proofs.Common.{length, map}
use Rattle.std.proofs.lemmas.List.Sums.{sum_by-append, sum_by-cons}
use Rattle.std.proofs.lemmas.List.{length-append, length-set}
use Rattle.std.proofs.lemmas.Option.{get_or_from_slice_get, slice_get-get_or, slice_get_within}
use Rattle.std.specs.List.{slice_index_or}
use Rattle.std.specs.Prelude.{◌≢◌, Some, slice_get, slice_set, sum_by}
use Rattle.base_laws.proofs.Lists.{slice_get-front}
use Rattle.search_tables.specs.Graphs.{HasEdge, Follow, IsCycle, first_or}
use Rattle.search_tables.specs.Walks.{InRange}
use Rattle.search_tables.specs.declared.marks.Step.{Step}
use Rattle.search_tables.specs.Ways.{IsFine, AreFine, IsOnPath, IsSearch, unseen_work, step_work, way_work, step_at, IsEntered, steps_in, IsWayBack, GoesOn}
use Rattle.search_tables.specs.Ways.{NoWayBack, NoneBelow}
use Rattle.search_tables.proofs.RankLists.{set_same, set_other, get_last, get_snoc, same_or_not}

-- ---- work
step_is : (E : List (List ℕ)) (f : Step) (js : List ℕ) → slice_get E f.node ≡ Some js → step_work E f ≡ (length js - f.next) + 1
step_is E f js g = ap (λ xs. (length xs - f.next) + 1) (get_or_from_slice_get E f.node js [] g)

sum_more : (E : List (List ℕ)) (B : List Step) (t : Step) → sum_by (step_work E) (B ++ t ∷ []) ≡ sum_by (step_work E) B + step_work E t
sum_more E B t =
    let a = sum_by-append (step_work E) B (t ∷ []) in
    let b = sum_by-cons (step_work E) t [] in
    omega (arith, a, b)

see_work : (E : List (List ℕ)) (seen : List Bool) (i : ℕ) (js : List ℕ) → slice_get E i ≡ Some js → slice_get seen i ≡ Some false
    → unseen_work E (slice_set seen i true) + (length js + 2) ≡ unseen_work E seen
see_work [] seen i js e g = cc
see_work (a ∷ E) [] i js e g = cc
see_work (a ∷ E) (false ∷ seen) zero js e g = let s : a ≡ js = cc in let l = ap length s in omega (arith, l)
see_work (a ∷ E) (true ∷ seen) zero js e g = cc
see_work (a ∷ E) (false ∷ seen) (suc i) js e g = let h = see_work E seen i js e g in omega arith
see_work (a ∷ E) (true ∷ seen) (suc i) js e g = see_work E seen i js e g

-- ---- what was seen
pub one_target : (E : List (List ℕ)) (i : ℕ) (js ks : List ℕ) → slice_get E i ≡ Some js → slice_get E i ≡ Some ks → js ≡ ks
one_target E i js ks a b = cc

one_member : (js : List ℕ) (p i j : ℕ) → slice_get js p ≡ Some i → slice_get js p ≡ Some j → i ≡ j
one_member js p i j a b = cc

abbrev SeenMore : List Bool → List Bool → Type 0
SeenMore seen seen' = (k : ℕ) → slice_get seen k ≡ Some true → slice_get seen' k ≡ Some true

fine_on : (seen seen' : List Bool) (root : ℕ) (js : List ℕ) (n : ℕ) → SeenMore seen seen' → AreFine seen root js n → AreFine seen' root js n
fine_on seen seen' root js n more h = λ p j lt g. let f = h p j lt g in record { is_seen = more j f.is_seen; other = f.other }

fine_next : (seen : List Bool) (root : ℕ) (js : List ℕ) (n j : ℕ) → slice_get js n ≡ Some j → IsFine seen root j → AreFine seen root js n
    → AreFine seen root js (n + 1)
fine_next seen root js n j g f h = λ p k lt e. elim (same_or_not p n) [
  | inl s ↦ subst (IsFine seen root) (one_member js n j k g (subst (λ q. slice_get js q ≡ Some k) s e)) f
  | inr d ↦ h p k (below p n lt d) e
] where
  below : (p n : ℕ) → p < n + 1 → p ≢ n → p < n
  below zero zero lt d = absurd (d refl)
  below zero (suc n) lt d = omega arith
  below (suc p) zero lt d = absurd (omega arith)
  below (suc p) (suc n) lt d = let h = below p n (omega arith) (λ e. d (ap suc e)) in omega (arith, h)

fine_all : (seen : List Bool) (root : ℕ) (js : List ℕ) (n : ℕ) → length js ≤ n → AreFine seen root js n → AreFine seen root js (length js)
fine_all seen root js n le h = λ p j lt g. h p j (omega arith) g

module _ (E : List (List ℕ)) (seen : List Bool) (B : List Step) (t : Step) (root : ℕ) (js : List ℕ) (s : IsSearch E seen (B ++ t ∷ []) root)
    (from : slice_get E t.node ≡ Some js) where
  abbrev pub u : Step
  u = step_at t.node (t.next + 1)

  -- the path with the last step gone on
  first_on : (f : Step) → slice_get (B ++ u ∷ []) 0 ≡ Some f → f.node ≡ root
  first_on f g = elim (get_snoc B u 0 f g) [
    | inl h ↦ s.first f (slice_get-front B (t ∷ []) 0 f h)
    | inr h ↦ (let a : slice_get (B ++ t ∷ []) 0 ≡ Some t = subst (λ k. slice_get (B ++ t ∷ []) k ≡ Some t) (sym h.0) (get_last B t) in
        sym (ap (λ (x : Step). x.node) h.1) ∙ s.first t a)
  ]

  within_on : (d : ℕ) (f : Step) → slice_get (B ++ u ∷ []) d ≡ Some f → f.node < length E
  within_on d f g = elim (get_snoc B u d f g) [
    | inl h ↦ s.within d f (slice_get-front B (t ∷ []) d f h)
    | inr h ↦ subst (λ k. k < length E) (ap (λ (x : Step). x.node) h.1) (s.within (length B) t (get_last B t))
  ]

  steps_on : (d : ℕ) (f g : Step) → slice_get (B ++ u ∷ []) d ≡ Some f → slice_get (B ++ u ∷ []) (suc d) ≡ Some g → HasEdge E f.node g.node
  steps_on d f g a b = elim (get_snoc B u d f a) [
    | inl h ↦ elim (get_snoc B u (suc d) g b) [
      | inl k ↦ s.steps d f g (slice_get-front B (t ∷ []) d f h) (slice_get-front B (t ∷ []) (suc d) g k)
      | inr k ↦ subst (HasEdge E f.node) (ap (λ (x : Step). x.node) k.1)
          (s.steps d f t (slice_get-front B (t ∷ []) d f h) (subst (λ z. slice_get (B ++ t ∷ []) z ≡ Some t) (sym k.0) (get_last B t)))
    ]
    | inr h ↦ absurd (let w = slice_get_within (B ++ u ∷ []) (suc d) g b in let z = length-append B (u ∷ []) in omega (arith, h.0))
  ]

  edge_on : (j : ℕ) → slice_get js t.next ≡ Some j → (d : ℕ) (f : Step) → slice_get (B ++ u ∷ []) d ≡ Some f → suc d ≡ length (B ++ u ∷ []) → HasEdge E f.node j
  edge_on j g d f a b = elim (get_snoc B u d f a) [
    | inl h ↦ absurd (let w = slice_get_within B d f h in let z = length-append B (u ∷ []) in omega (arith, b))
    | inr h ↦ subst (λ k. HasEdge E k j) (ap (λ (x : Step). x.node) h.1) (record { targets = js; from = from; place = t.next; is_in = g })
  ]

  on_path : (seen' : List Bool) (j i : ℕ) (ks : List ℕ) → SeenMore seen seen' → slice_get js t.next ≡ Some j → IsFine seen' root j → slice_get E i ≡ Some ks
      → IsOnPath seen (B ++ t ∷ []) root i ks → IsOnPath seen' (B ++ u ∷ []) root i ks
  on_path seen' j i ks more g f e o = elim (get_snoc B t o.depth o.step o.at) [
    | inl h ↦ record {
      depth = o.depth;
      step = o.step;
      at = slice_get-front B (u ∷ []) o.depth o.step h;
      node = o.node;
      fine = fine_on seen seen' root ks o.step.next more o.fine;
    }
    | inr h ↦ (let n : t.node ≡ i = ap (λ (x : Step). x.node) h.1 ∙ o.node in
        let same : js ≡ ks = one_target E i js ks (subst (λ k. slice_get E k ≡ Some js) n from) e in
        let old : AreFine seen' root ks t.next = fine_on seen seen' root ks t.next more (subst (λ (x : Step). AreFine seen root ks x.next) (sym h.1) o.fine) in
        record {
          depth = length B;
          step = u;
          at = get_last B u;
          node = n;
          fine = fine_next seen' root ks t.next j (subst (λ l. slice_get l t.next ≡ Some j) same g) f old;
        })
  ]

  looked_on : (seen' : List Bool) (j i : ℕ) (ks : List ℕ) → SeenMore seen seen' → slice_get js t.next ≡ Some j → IsFine seen' root j
      → slice_get seen i ≡ Some true → slice_get E i ≡ Some ks → AreFine seen' root ks (length ks) ⊎ IsOnPath seen' (B ++ u ∷ []) root i ks
  looked_on seen' j i ks more g f a e = elim (s.looked i ks a e) as (λ _. AreFine seen' root ks (length ks) ⊎ IsOnPath seen' (B ++ u ∷ []) root i ks) [
    | inl h ↦ inl (fine_on seen seen' root ks (length ks) more h)
    | inr h ↦ inr (on_path seen' j i ks more g f e h)
  ]

  less_on : (j : ℕ) → slice_get js t.next ≡ Some j → way_work E seen (B ++ u ∷ []) < way_work E seen (B ++ t ∷ [])
  less_on j g = let w = slice_get_within js t.next j g in omega (arith, sum_more E B t, sum_more E B u, step_is E t js from, step_is E u js from, w)

  pub goes_on_old : (j : ℕ) → slice_get js t.next ≡ Some j → j ≢ root → slice_get seen j ≡ Some true
      → GoesOn E seen (B ++ u ∷ []) root (way_work E seen (B ++ t ∷ []))
  goes_on_old j g d a = record {
    search = record {
      count = s.count;
      root_seen = s.root_seen;
      first = first_on;
      steps = steps_on;
      within = within_on;
      looked = λ i ks b e. looked_on seen j i ks (λ k h. h) g (record { is_seen = a; other = d }) b e;
    };
    less = less_on j g;
  }

  pub goes_on_new : (j : ℕ) → InRange E → slice_get js t.next ≡ Some j → j ≢ root → slice_get seen j ≡ Some false
      → GoesOn E (slice_set seen j true) ((B ++ u ∷ []) ++ step_at j 0 ∷ []) root (way_work E seen (B ++ t ∷ []))
  goes_on_new j range g d a =
      let S = B ++ u ∷ [] in
      let v = step_at j 0 in
      let seen' = slice_set seen j true in
      let here : slice_get seen' j ≡ Some true = set_same seen j false true a in
      let low : j < length E = range.targets t.node t.next j js from g in
      let ls = slice_index_or E j [] in
      let el : slice_get E j ≡ Some ls = slice_get-get_or E j [] low in
      let more : SeenMore seen seen' = λ k h. elim (same_or_not k j) [
        | inl e ↦ subst (λ q. slice_get seen' q ≡ Some true) (sym e) here
        | inr n ↦ set_other seen j k true n ∙ h
      ] in
      record {
        search = record {
          count = length-set seen j true ∙ s.count;
          root_seen = more root s.root_seen;
          first = λ f h. first_new S v f (length-append B (u ∷ [])) first_on h;
          steps = λ e f k x y. elim (get_snoc S v e f x) [
            | inl p ↦ elim (get_snoc S v (suc e) k y) [
              | inl q ↦ steps_on e f k p q
              | inr q ↦ subst (HasEdge E f.node) (ap (λ (z : Step). z.node) q.1) (edge_on j g e f p q.0)
            ]
            | inr p ↦ absurd (let w = slice_get_within (S ++ v ∷ []) (suc e) k y in let z = length-append S (v ∷ []) in omega (arith, p.0))
          ];
          within = λ e f x. elim (get_snoc S v e f x) [
            | inl p ↦ within_on e f p
            | inr p ↦ subst (λ k. k < length E) (ap (λ (z : Step). z.node) p.1) low
          ];
          looked = λ i ks b e. elim (same_or_not i j) [
            | inl q ↦ inr (record { depth = length S; step = v; at = get_last S v; node = sym q; fine = λ p k lt h. absurd (omega arith) })
            | inr n ↦
                elim (looked_on seen' j i ks more g (record { is_seen = here; other = d })
                (sym (set_other seen j i true n) ∙ b) e) as (λ _. AreFine seen' root ks (length ks) ⊎ IsOnPath seen' (S ++ v ∷ []) root i ks) [
                  | inl h ↦ inl h
                  | inr h ↦ inr (record { depth = h.depth; step = h.step; at = slice_get-front S (v ∷ []) h.depth h.step h.at; node = h.node; fine = h.fine })
                ]
          ];
        };
        less = omega (arith, less_on j g, sum_more E S v, step_is E v ls el, see_work E seen j ls el a);
      } where
        first_new : (S : List Step) (v f : Step) → length S ≡ length B + 1 → ((f : Step) → slice_get S 0 ≡ Some f → f.node ≡ root)
            → slice_get (S ++ v ∷ []) 0 ≡ Some f → f.node ≡ root
        first_new [] v f n h g = absurd (omega (arith, n))
        first_new (x ∷ S) v f n h g = h f g

  pub goes_on_done : length js ≤ t.next → GoesOn E seen B root (way_work E seen (B ++ t ∷ []))
  goes_on_done le = record {
    search = record {
      count = s.count;
      root_seen = s.root_seen;
      first = λ f h. s.first f (slice_get-front B (t ∷ []) 0 f h);
      steps = λ d f g a b. s.steps d f g (slice_get-front B (t ∷ []) d f a) (slice_get-front B (t ∷ []) (suc d) g b);
      within = λ d f h. s.within d f (slice_get-front B (t ∷ []) d f h);
      looked = λ i ks b e. elim (s.looked i ks b e) as (λ _. AreFine seen root ks (length ks) ⊎ IsOnPath seen B root i ks) [
        | inl h ↦ inl h
        | inr o ↦ elim (get_snoc B t o.depth o.step o.at) as (λ _. AreFine seen root ks (length ks) ⊎ IsOnPath seen B root i ks) [
          | inl h ↦ inr (record { depth = o.depth; step = o.step; at = h; node = o.node; fine = o.fine })
          | inr h ↦ (let n : t.node ≡ i = ap (λ (x : Step). x.node) h.1 ∙ o.node in
              let same : js ≡ ks = one_target E i js ks (subst (λ k. slice_get E k ≡ Some js) n from) e in
              inl (fine_all seen root ks t.next (subst (λ l. length l ≤ t.next) same le) (subst (λ (x : Step). AreFine seen root ks x.next) (sym h.1) o.fine)))
        ]
      ];
    };
    less = omega (arith, sum_more E B t, step_is E t js from);
  }

  pub comes_back : slice_get js t.next ≡ Some root → IsWayBack E root (steps_in (B ++ u ∷ []))
  comes_back g = way_of (B ++ u ∷ []) (length-append B (u ∷ [])) first_on (follow_path (B ++ u ∷ []) root steps_on (edge_on root g)) where
    follow_path : (S : List Step) (z : ℕ) → ((d : ℕ) (f g : Step) → slice_get S d ≡ Some f → slice_get S (suc d) ≡ Some g → HasEdge E f.node g.node)
        → ((d : ℕ) (f : Step) → slice_get S d ≡ Some f → suc d ≡ length S → HasEdge E f.node z) → Follow E (steps_in S) z
    follow_path [] z steps last = tt
    follow_path (f ∷ []) z steps last = (last 0 f refl refl, tt)
    follow_path (f ∷ g ∷ S) z steps last =
        (steps 0 f g refl refl, follow_path (g ∷ S) z (λ d a b x y. steps (suc d) a b x y) (λ d a x y. last (suc d) a x (ap suc y)))

    way_of : (S : List Step) → length S ≡ length B + 1 → ((f : Step) → slice_get S 0 ≡ Some f → f.node ≡ root) → Follow E (steps_in S) root
        → IsWayBack E root (steps_in S)
    way_of [] n h w = absurd (omega (arith, n))
    way_of (f ∷ S) n h w =
        let e : f.node ≡ root = h f refl in
        record { rest = steps_in S; begins = ap (λ k. k ∷ steps_in S) e; is_cycle = subst (Follow E (f.node ∷ steps_in S)) (sym e) w }

-- a target that is not the root is entered
pub goes_on : (E : List (List ℕ)) (seen seen' : List Bool) (B S S' : List Step) (t : Step) (root : ℕ) (js : List ℕ) (j : ℕ) → InRange E
    → IsSearch E seen (B ++ t ∷ []) root → slice_get E t.node ≡ Some js → slice_get js t.next ≡ Some j → j ≢ root → S ≡ B ++ step_at t.node (t.next + 1) ∷ []
    → IsEntered seen seen' S S' j
    → GoesOn E seen' S' root (way_work E seen (B ++ t ∷ []))
goes_on E seen seen' B S S' t root js j range s from g d e (inl h) =
    subst (λ x. GoesOn E x S' root (way_work E seen (B ++ t ∷ []))) (sym h.1)
    (subst (λ P. GoesOn E seen P root (way_work E seen (B ++ t ∷ []))) (sym (h.2 ∙ e)) (goes_on_old E seen B t root js s from j g d h.0))
goes_on E seen seen' B S S' t root js j range s from g d e (inr h) =
    let p : S' ≡ (B ++ step_at t.node (t.next + 1) ∷ []) ++ step_at j 0 ∷ [] = h.2 ∙ ap (λ P. P ++ step_at j 0 ∷ []) e in
    subst (λ x. GoesOn E x S' root (way_work E seen (B ++ t ∷ []))) (sym h.1)
    (subst (λ P. GoesOn E (slice_set seen j true) P root (way_work E seen (B ++ t ∷ []))) (sym p) (goes_on_new E seen B t root js s from j range g d h.0))

pub step_in : (E : List (List ℕ)) (seen : List Bool) (B : List Step) (t : Step) (root : ℕ) → IsSearch E seen (B ++ t ∷ []) root → t.node < length E
step_in E seen B t root s = s.within (length B) t (get_last B t)

-- ---- the search begins and ends
pub search_begins : (E : List (List ℕ)) (seen : List Bool) (S : List Step) (root : ℕ) → length seen ≡ length E → ((i : ℕ) → slice_get seen i ≡ Some true → ⊥)
    → root < length E → S ≡ step_at root 0 ∷ [] → IsSearch E (slice_set seen root true) S root
search_begins E seen S root n none low e = subst (λ P. IsSearch E (slice_set seen root true) P root) (sym e) (record {
  count = length-set seen root true ∙ n;
  root_seen = there;
  first = λ f g. first_of 0 f g;
  steps = λ d f g a b. cc;
  within = λ d f g. subst (λ k. k < length E) (sym (first_of d f g)) low;
  looked = λ i ks a b. elim (same_or_not i root) [
    | inl q ↦ inr (record { depth = 0; step = step_at root 0; at = refl; node = sym q; fine = λ p k lt h. absurd (omega arith) })
    | inr d ↦ absurd (none i (sym (set_other seen root i true d) ∙ a))
  ];
}) where
  set_there : (xs : List Bool) (i : ℕ) → i < length xs → slice_get (slice_set xs i true) i ≡ Some true
  set_there [] i lt = absurd (omega arith)
  set_there (x ∷ xs) zero lt = refl
  set_there (x ∷ xs) (suc i) lt = set_there xs i (omega arith)

  there : slice_get (slice_set seen root true) root ≡ Some true
  there = set_there seen root (omega (arith, n))

  first_of : (d : ℕ) (f : Step) → slice_get (step_at root 0 ∷ []) d ≡ Some f → f.node ≡ root
  first_of zero f g = let e : step_at root 0 ≡ f = cc in sym (ap (λ (x : Step). x.node) e)
  first_of (suc d) f g = cc

pub never_seen : {A : Type 0} (xs : List A) (i : ℕ) → slice_get (map (λ _. false) xs) i ≡ Some true → ⊥
never_seen [] i g = cc
never_seen (x ∷ xs) zero g = cc
never_seen (x ∷ xs) (suc i) g = never_seen xs i g

fine_there : (E : List (List ℕ)) (seen : List Bool) (root i j : ℕ) → IsSearch E seen [] root → slice_get seen i ≡ Some true → HasEdge E i j → IsFine seen root j
fine_there E seen root i j s a h = elim (s.looked i h.targets a h.from) [
  | inl f ↦ f h.place j (slice_get_within h.targets h.place j h.is_in) h.is_in
  | inr o ↦ absurd (let x = o.at in cc)
]

none_follow : (E : List (List ℕ)) (seen : List Bool) (root x : ℕ) (xs : List ℕ) → IsSearch E seen [] root → slice_get seen x ≡ Some true
    → Follow E (x ∷ xs) root → ⊥
none_follow E seen root x [] s a h = (fine_there E seen root x root s a h.0).other refl
none_follow E seen root x (y ∷ ys) s a h = none_follow E seen root y ys s (fine_there E seen root x y s a h.0).is_seen h.1

pub no_way_back : (E : List (List ℕ)) (seen : List Bool) (S : List Step) (root : ℕ) → IsSearch E seen S root → S ≡ [] → NoWayBack E root
no_way_back E seen S root s e = λ xs h. (let t = subst (λ P. IsSearch E seen P root) e s in none_follow E seen root root xs t t.root_seen h)

-- ---- a cycle begins at each of its nodes
follow_both : (E : List (List ℕ)) (xs ys : List ℕ) (z : ℕ) → Follow E (xs ++ ys) z → Follow E xs (first_or ys z) × Follow E ys z
follow_both E [] ys z h = (tt, h)
follow_both E (x ∷ []) ys z h = ((h.0, tt), h.1)
follow_both E (x ∷ w ∷ xs) ys z h = let r = follow_both E (w ∷ xs) ys z h.1 in ((h.0, r.0), r.1)

follow_joined : (E : List (List ℕ)) (xs ys : List ℕ) (z : ℕ) → Follow E xs (first_or ys z) → Follow E ys z → Follow E (xs ++ ys) z
follow_joined E [] ys z a b = b
follow_joined E (x ∷ []) ys z a b = (a.0, b)
follow_joined E (x ∷ w ∷ xs) ys z a b = (a.0, follow_joined E (w ∷ xs) ys z a.1 b)

pub rotated : (E : List (List ℕ)) (xs : List ℕ) (y : ℕ) (ys : List ℕ) → IsCycle E (xs ++ y ∷ ys) → IsCycle E (y ∷ (ys ++ xs))
rotated E [] y ys h = let n : ys ++ [] ≡ ys = nothing ys in subst (λ l. IsCycle E (y ∷ l)) (sym n) h where
  nothing : (l : List ℕ) → l ++ [] ≡ l
  nothing [] = refl
  nothing (a ∷ l) = ap (λ k. a ∷ k) (nothing l)
rotated E (x ∷ xs) y ys h =
    let b = follow_both E (x ∷ xs) (y ∷ ys) x h in
    follow_joined E (y ∷ ys) (x ∷ xs) y b.1 b.0

parted : (xs : List ℕ) (p y : ℕ) → slice_get xs p ≡ Some y → (before : List ℕ) × (behind : List ℕ) × (xs ≡ before ++ y ∷ behind)
parted [] p y g = cc
parted (x ∷ xs) zero y g = let e : x ≡ y = cc in ([], xs, ap (λ k. k ∷ xs) e)
parted (x ∷ xs) (suc p) y g = let r = parted xs p y g in (x ∷ r.0, r.1, ap (λ l. x ∷ l) r.2)

-- a node of a cycle has a way back
pub has_way : (E : List (List ℕ)) (xs : List ℕ) (p y : ℕ) → IsCycle E xs → slice_get xs p ≡ Some y → (zs : List ℕ) × IsCycle E (y ∷ zs)
has_way E xs p y h g = let r = parted xs p y g in (r.1 ++ r.0, rotated E r.0 y r.1 (subst (IsCycle E) r.2 h))

at_least : (n y : ℕ) → (y < n → ⊥) → n ≤ y
at_least zero y h = omega arith
at_least (suc n) zero h = absurd (h (omega arith))
at_least (suc n) (suc y) h = let r = at_least n y (λ lt. h (omega arith)) in omega (arith, r)

pub least_of : (E : List (List ℕ)) (n : ℕ) (xs : List ℕ) → NoneBelow E n → IsWayBack E n xs
    → IsCycle E xs × ((ys : List ℕ) (place y : ℕ) → IsCycle E ys → slice_get ys place ≡ Some y → first_or xs 0 ≤ y)
least_of E n xs none w = (
  w.is_cycle,
  λ ys place y h g.
      let c = has_way E ys place y h g in
      let le : n ≤ y = at_least n y (λ lt. none.each y lt c.0 c.1) in
      subst (λ l. first_or l 0 ≤ y) (sym w.begins) le,
)

pub none_more : (E : List (List ℕ)) (n : ℕ) → NoneBelow E n → NoWayBack E n → NoneBelow E (n + 1)
none_more E n none free = record {
  each = λ i lt. elim (same_or_not i n) [ inl e ↦ subst (NoWayBack E) (sym e) free | inr d ↦ none.each i (lower i n lt d) ];
} where
  lower : (p n : ℕ) → p < n + 1 → p ≢ n → p < n
  lower zero zero lt d = absurd (d refl)
  lower zero (suc n) lt d = omega arith
  lower (suc p) zero lt d = absurd (omega arith)
  lower (suc p) (suc n) lt d = let h = lower p n (omega arith) (λ e. d (ap suc e)) in omega (arith, h)

pub none_begin : (E : List (List ℕ)) → NoneBelow E 0
none_begin E = record { each = λ i lt. absurd (omega arith) }

-- where a cycle begins, there is a node
pub some_cycle : (E : List (List ℕ)) (xs : List ℕ) → IsCycle E xs → NoneBelow E (length E) → ⊥
some_cycle E [] h none = h
some_cycle E (x ∷ xs) h none = none.each x (slice_get_within E x (h.0).targets (h.0).from) xs h
