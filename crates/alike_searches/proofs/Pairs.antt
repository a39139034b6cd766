-- Each point but the return stands in one pair, with itself.
use Rattle.std.proofs.Common.{◌≡◌, ℕ, zero, suc, ◌+◌, ◌<◌, ◌≤◌, ◌==◌, arith, refl, ap, sym, ◌∙◌, inl, inr, Bool, true, false, cond, List, ◌∷◌, length, Some}
use Rattle.std.specs.Prelude.{◌≢◌, slice_get, filter}
use Rattle.std.specs.List.{range_with_len}
use Rattle.std.specs.Option.{option_map}
use Rattle.std.proofs.lemmas.Bool.Decides.{nat_tests}
use Rattle.std.proofs.lemmas.Option.{slice_get-map}
use Rattle.fs_model.specs.Machines.{Fsmd}
use Rattle.fs_ast.proofs.Kept.{get_mapped}
use Rattle.fs_cut.specs.Paths.{Point, Start, At, Done, is_fork, is_point}
use Rattle.fs_cut.proofs.Listed.{fork_state}
use Rattle.cert_bisimulation.specs.Alike.{ArePaired}
use Rattle.alike_searches.specs.RenamedStates.{own_pairs}

-- ---- the numbers of a range that pass a test

abbrev passing : (ℕ → Bool) → (a n : ℕ) → List ℕ
passing t a n = filter t (range_with_len a n)

-- a number that is listed passes
passes : (t : ℕ → Bool) (a n k x : ℕ) → slice_get (passing t a n) k ≡ Some x → (a ≤ x) × (t x ≡ true)
passes t a zero k x e = absurd (cc e)
passes t a (suc n) k x e = by_test (t a) refl k e (λ j g. passes t (a + 1) n j x g)
  where
    rest : List ℕ
    rest = passing t (a + 1) n

    by_test : (c : Bool) → t a ≡ c → (k : ℕ) → slice_get (cond c (a ∷ rest) rest) k ≡ Some x
        → ((j : ℕ) → slice_get rest j ≡ Some x → (a + 1 ≤ x) × (t x ≡ true)) → (a ≤ x) × (t x ≡ true)
    by_test true h zero e later = let s : a ≡ x = cc e in (omega (arith, s), sym (ap t s) ∙ h)
    by_test true h (suc j) e later = let r = later j e in (omega (arith, r.0), r.1)
    by_test false h k e later = let r = later k e in (omega (arith, r.0), r.1)

-- no number is listed twice
once : (t : ℕ → Bool) (a n i j x : ℕ) → slice_get (passing t a n) i ≡ Some x → slice_get (passing t a n) j ≡ Some x → i ≡ j
once t a zero i j x e g = absurd (cc e)
once t a (suc n) i j x e g = by_test (t a) i j e g (λ k l p q. once t (a + 1) n k l x p q)
  where
    rest : List ℕ
    rest = passing t (a + 1) n

    not_first : (k : ℕ) → a ≡ x → slice_get rest k ≡ Some x → ⊥
    not_first k s e = let r = (passes t (a + 1) n k x e).0 in absurd (omega (arith, s, r))

    by_test : (c : Bool) (i j : ℕ) → slice_get (cond c (a ∷ rest) rest) i ≡ Some x → slice_get (cond c (a ∷ rest) rest) j ≡ Some x
        → ((k l : ℕ) → slice_get rest k ≡ Some x → slice_get rest l ≡ Some x → k ≡ l) → i ≡ j
    by_test true zero zero e g again = refl
    by_test true zero (suc j) e g again = let s : a ≡ x = cc e in absurd (not_first j s g)
    by_test true (suc i) zero e g again = let s : a ≡ x = cc g in absurd (not_first i s e)
    by_test true (suc i) (suc j) e g again = ap suc (again i j e g)
    by_test false i j e g again = again i j e g

-- each number of the range that passes is listed
listed : (t : ℕ → Bool) (a n x : ℕ) → a ≤ x → x < a + n → t x ≡ true → (k : ℕ) × (slice_get (passing t a n) k ≡ Some x)
listed t a zero x le lt h = absurd (omega (arith, le, lt))
listed t a (suc n) x le lt h = by_equal (a == x) refl (λ more. listed t (a + 1) n x more (omega (arith, lt)) h)
  where
    rest : List ℕ
    rest = passing t (a + 1) n

    later : (c : Bool) → (k : ℕ) × (slice_get rest k ≡ Some x) → (k : ℕ) × (slice_get (cond c (a ∷ rest) rest) k ≡ Some x)
    later true r = (suc r.0, r.1)
    later false r = r

    here : (c : Bool) → c ≡ true → slice_get (cond c (a ∷ rest) rest) 0 ≡ Some a
    here true e = refl
    here false e = absurd (cc e)

    by_equal : (c : Bool) → (a == x) ≡ c → (a + 1 ≤ x → (k : ℕ) × (slice_get rest k ≡ Some x)) → (k : ℕ) × (slice_get (cond (t a) (a ∷ rest) rest) k ≡ Some x)
    by_equal true e again = let s : a ≡ x = grind (arith, nat_tests) in (0, here (t a) (ap t s ∙ h) ∙ ap Some s)
    by_equal false e again =
        let other : a ≢ x = grind (arith, nat_tests) in
        let more : a + 1 ≤ x = omega (arith, le, other) in
        later (t a) (again more)

-- ---- pairs

module _ (m : Fsmd) where
  abbrev forks : List ℕ
  forks = passing (is_fork m) 0 (length m.states)

  pub record IsOwn (P Q : Point) : Type 0 where
    pub same : P ≡ Q
    pub point : is_point m P ≡ true
    pub goes : P ≢ Done

  -- a pair behind the first is that of a fork
  record IsFork (j : ℕ) (P Q : Point) : Type 0 where
    number : ℕ
    is_in : slice_get forks j ≡ Some number
    left : P ≡ At number
    right : Q ≡ At number

  fork_at : (j : ℕ) (P Q : Point) → slice_get (own_pairs m) (suc j) ≡ Some (P, Q) → IsFork j P Q
  fork_at j P Q e =
      let g = get_mapped (λ (q : ℕ). (At q, At q)) forks j (P, Q) e in
      record { number = g.0; is_in = g.1.0; left = ap (λ (z : Point × Point). z.0) g.1.1; right = ap (λ (z : Point × Point). z.1) g.1.1 }

  starts_first : (P Q : Point) → slice_get (own_pairs m) 0 ≡ Some (P, Q) → (Start ≡ P) × (Start ≡ Q)
  starts_first P Q e =
      let same : (Start, Start) ≡ (P, Q) = cc e in
      (ap (λ (z : Point × Point). z.0) same, ap (λ (z : Point × Point). z.1) same)

  pub own : (k : ℕ) (P Q : Point) → slice_get (own_pairs m) k ≡ Some (P, Q) → IsOwn P Q
  own zero P Q e =
      let s = starts_first P Q e in
      record { same = sym s.0 ∙ s.1; point = sym (ap (is_point m) s.0); goes = λ d. let c : Start ≡ Done = s.0 ∙ d in absurd (cc c) }
  own (suc j) P Q e =
      let f = fork_at j P Q e in
      record {
        same = f.left ∙ sym f.right;
        point = ap (is_point m) f.left ∙ (passes (is_fork m) 0 (length m.states) j f.number f.is_in).1;
        goes = λ d. let c : At f.number ≡ Done = sym f.left ∙ d in absurd (cc c);
      }

  pub stands_once : (i j : ℕ) (P Q R S : Point) → slice_get (own_pairs m) i ≡ Some (P, Q) → slice_get (own_pairs m) j ≡ Some (R, S) → P ≡ R → i ≡ j
  stands_once zero zero P Q R S e g s = refl
  stands_once zero (suc j) P Q R S e g s =
      let f = fork_at j R S g in
      let c : Start ≡ At f.number = (starts_first P Q e).0 ∙ s ∙ f.left in
      absurd (cc c)
  stands_once (suc i) zero P Q R S e g s =
      let f = fork_at i P Q e in
      let c : At f.number ≡ Start = sym f.left ∙ s ∙ sym (starts_first R S g).0 in
      absurd (cc c)
  stands_once (suc i) (suc j) P Q R S e g s =
      let f = fork_at i P Q e in
      let h = fork_at j R S g in
      let c : At f.number ≡ At h.number = sym f.left ∙ s ∙ h.left in
      let same : f.number ≡ h.number = cc c in
      ap suc (once (is_fork m) 0 (length m.states) i j h.number (f.is_in ∙ ap Some same) h.is_in)

  pub paired : (P : Point) → is_point m P ≡ true → ArePaired (own_pairs m) P P
  paired Start h = inl (0, refl)
  paired (At q) h =
      let r = listed (is_fork m) 0 (length m.states) q (omega arith) (omega (arith, fork_state m q h)) h in
      inl (suc r.0, slice_get-map (λ (x : ℕ). (At x, At x)) forks r.0 ∙ ap (option_map (λ (x : ℕ). (At x, At x))) r.1)
  paired Done h = inr (refl, refl)
