-- The partner of a partner is the position itself.
use Rattle.std.proofs.Common.{◌≡◌, ℕ, zero, suc, ◌+◌, ◌≤◌, ◌==◌, List, [], ◌∷◌, length, map, ap, sym, refl, ◌∙◌, subst, arith, Option, Some, Bool, true, false}
use Rattle.std.proofs.Common.{cond}
use Rattle.std.specs.Prelude.{not, slice_get}
use Rattle.std.specs.List.{position_from}
use Rattle.std.proofs.lemmas.Bool.Decides.{nat_tests}
use Rattle.std.proofs.lemmas.Bool.{and_from, not-true}
use Rattle.fs_model.proofs.Booleans.{and_first, and_second}
use Rattle.fs_model.specs.SoundMachines.{IsSound, names_differ}
use Rattle.fs_model.specs.declared.parts.VarInfo.{VarInfo}
use Rattle.fs_model.specs.Machines.{Fsmd}
use Rattle.fs_model.specs.declared.sides.Side.{Side}
use Rattle.fs_model.specs.declared.sides.Side.TheVariants.{Left, Right}
use Rattle.fs_model.specs.Sides.{same_side}
use Rattle.fs_model.proofs.SameSides.{same_side_self}
use Rattle.fs_pair.specs.declared.positions.Position.{Position}
use Rattle.fs_pair.specs.SidedVariables.{SidedVariable, same_name_and_sort, all_sided_variables, is_partner}
use Rattle.fs_pair.specs.Positions.{positions}
use Rattle.fs_pair.specs.Partners.{variables_on}
use Rattle.fs_pair.proofs.Tests.{third_side, same_name, same_back}
use Rattle.fs_pair.proofs.Variables.{comes_from, position_found, stands_at}
use Rattle.fs_pair.proofs.Once.{many, own_number, once}
use Rattle.fs_pair.proofs.Once as places

-- ---- what stands once
counts_one : (t : SidedVariable → Bool) (x s : SidedVariable) → x ≡ s → t s ≡ true → ◌≡◌ {A = ℕ} (cond (t x) 1 0) 1
counts_one t x s e h = ap (λ (z : SidedVariable). cond {A = ℕ} (t z) 1 0) e ∙ ap (λ b. cond {A = ℕ} b 1 0) h

at_least : (t : SidedVariable → Bool) (xs : List SidedVariable) (k : ℕ) (s : SidedVariable) → slice_get xs k ≡ Some s → t s ≡ true → 1 ≤ many t xs
at_least t [] k s e h = absurd (cc e)
at_least t (x ∷ xs) zero s e h =
    let i : x ≡ s = cc e in
    omega (arith, counts_one t x s i h)
at_least t (x ∷ xs) (suc k) s e h = omega (arith, at_least t xs k s e h)

one_place : (t : SidedVariable → Bool) (xs : List SidedVariable) (i k : ℕ) (s u : SidedVariable) → many t xs ≤ 1 → slice_get xs i ≡ Some s → t s ≡ true
    → slice_get xs k ≡ Some u → t u ≡ true → i ≡ k
one_place t [] i k s u m e h f g = absurd (cc e)
one_place t (x ∷ xs) zero zero s u m e h f g = refl
one_place t (x ∷ xs) zero (suc k) s u m e h f g =
    let i : x ≡ s = cc e in
    absurd (omega (arith, counts_one t x s i h, at_least t xs k u f g))
one_place t (x ∷ xs) (suc i) zero s u m e h f g =
    let j : x ≡ u = cc f in
    absurd (omega (arith, counts_one t x u j g, at_least t xs i s e h))
one_place t (x ∷ xs) (suc i) (suc k) s u m e h f g = ap suc (one_place t xs i k s u (omega arith) e h f g)

-- ---- the only one that passes is the first
first_place : (t : SidedVariable → Bool) (xs : List SidedVariable) (i k : ℕ) (s : SidedVariable) → slice_get xs k ≡ Some s → t s ≡ true
    → ((j : ℕ) (u : SidedVariable) → slice_get xs j ≡ Some u → t u ≡ true → j ≡ k) → position_from t i xs ≡ Some (i + k)
first_place t [] i k s e h only = absurd (cc e)
first_place t (x ∷ xs) i zero s e h only =
    let j : x ≡ s = cc e in
    let n : i ≡ i + 0 = omega arith in
    ap (λ b. cond {A = Option ℕ} b (Some i) (position_from t (i + 1) xs)) (ap t j ∙ h) ∙ ap Some n
first_place t (x ∷ xs) i (suc k) s e h only =
    by_test (t x) refl (first_place t xs (i + 1) k s e h (λ j u f g. below j k (only (suc j) u f g)))
  where
    below : (j k : ℕ) → suc j ≡ suc k → j ≡ k
    below j k e = omega arith

    by_test : (b : Bool) → t x ≡ b → position_from t (i + 1) xs ≡ Some (i + 1 + k) → cond b (Some i) (position_from t (i + 1) xs) ≡ Some (i + suc k)
    by_test true g next = let n : 0 ≡ suc k = only 0 x refl g in absurd (omega arith)
    by_test false g next = let n : i + 1 + k ≡ i + suc k = omega arith in next ∙ ap Some n

side_back : (d e : Side) → same_side d e ≡ false → same_side e d ≡ false
side_back Left Left h = h
side_back Left Right h = refl
side_back Right Left h = refl
side_back Right Right h = h

module _ (a b : Fsmd) (sound : IsSound a) (other : IsSound b) where
  abbrev pub all : List SidedVariable
  all = all_sided_variables a.variables b.variables

  differ_on : (d : Side) → names_differ (map (λ v. v.name) (variables_on d a b)) ≡ true
  differ_on Left = sound.variables_differ
  differ_on Right = other.variables_differ

  in_range : (vs : List VarInfo) (x : ℕ) (v : VarInfo) → slice_get vs x ≡ Some v → suc x ≤ length vs
  in_range [] x v e = absurd (cc e)
  in_range (u ∷ vs) zero v e = omega arith
  in_range (u ∷ vs) (suc x) v e = omega (arith, in_range vs x v e)

  -- of two variables of one side and one name both are one
  pub one_variable : (i k : ℕ) (u s : SidedVariable) → slice_get all i ≡ Some u → slice_get all k ≡ Some s → s.pos.side ≡ u.pos.side
      → s.variable.name ≡ u.variable.name → i ≡ k
  one_variable i k u s e f d n =
      let su : slice_get (variables_on u.pos.side a b) u.pos.var ≡ Some u.variable = stands_at a b i u e in
      let ss : slice_get (variables_on u.pos.side a b) s.pos.var ≡ Some s.variable =
      subst (λ (z : Side). slice_get (variables_on z a b) s.pos.var ≡ Some s.variable) d (stands_at a b k s f) in
      let x : u.pos.var ≡ s.pos.var = own_number (variables_on u.pos.side a b) u.pos.var s.pos.var u.variable s.variable (differ_on u.pos.side) su ss (sym n) in
      let same : (u.pos.var == s.pos.var) ≡ true = grind (arith, nat_tests) in
      let self : (s.pos.var == s.pos.var) ≡ true = grind (arith, nat_tests) in
      one_place (places.stands_at s.pos.side s.pos.var) all i k u s
      (omega (arith, once a b sound other s.pos.side s.pos.var (in_range (variables_on s.pos.side a b) s.pos.var s.variable (stands_at a b k s f))))
      e
      (and_from (same_side u.pos.side s.pos.side) (u.pos.var == s.pos.var) (ap (λ (z : Side). same_side z s.pos.side) (sym d) ∙ same_side_self s.pos.side) same)
      f (and_from (same_side s.pos.side s.pos.side) (s.pos.var == s.pos.var) (same_side_self s.pos.side) self)

  -- from a variable to the partner of its partner
  returns_to : (k j : ℕ) (s t : SidedVariable) → slice_get all k ≡ Some s → slice_get all j ≡ Some t → is_partner s t ≡ true
      → position_from (is_partner t) 0 all ≡ Some k
  returns_to k j s t e f p =
      let apart : same_side s.pos.side t.pos.side ≡ false = not-true (same_side s.pos.side t.pos.side)
      (and_first (not (same_side s.pos.side t.pos.side)) (same_name_and_sort s.variable t.variable) p) in
      let alike : same_name_and_sort s.variable t.variable ≡ true =
      and_second (not (same_side s.pos.side t.pos.side)) (same_name_and_sort s.variable t.variable) p in
      let back : is_partner t s ≡ true = and_from (not (same_side t.pos.side s.pos.side)) (same_name_and_sort t.variable s.variable)
      (ap not (side_back s.pos.side t.pos.side apart)) (same_back s.variable t.variable alike) in
      let n : 0 + k ≡ k = omega arith in
      first_place (is_partner t) all 0 k s e back
      (λ i u g q.
      one_variable i k u s g e
      (third_side s.pos.side t.pos.side u.pos.side apart
      (not-true (same_side t.pos.side u.pos.side) (and_first (not (same_side t.pos.side u.pos.side)) (same_name_and_sort t.variable u.variable) q)))
      (sym (same_name s.variable t.variable alike)
      ∙ sym (same_name t.variable u.variable (and_second (not (same_side t.pos.side u.pos.side)) (same_name_and_sort t.variable u.variable) q))))
      ∙ ap Some n

  pub mutual_partners : (k j : ℕ) (p q : Position) → slice_get (positions a b) k ≡ Some p → p.partner ≡ Some j → slice_get (positions a b) j ≡ Some q
      → q.partner ≡ Some k
  mutual_partners k j p q e h g =
      let r = comes_from all all k p e in
      let w = comes_from all all j q g in
      let f = position_found (is_partner r.from) all 0 j (sym (ap (λ (z : Position). z.partner) r.is) ∙ h) in
      let n : f.place ≡ j = omega (arith, f.number) in
      let at_j : slice_get all j ≡ Some f.found = subst (λ i. slice_get all i ≡ Some f.found) n f.at in
      let same : f.found ≡ w.from = cc (sym at_j ∙ w.at) in
      ap (λ (z : Position). z.partner) w.is ∙ returns_to k j r.from w.from r.at w.at (subst (λ (z : SidedVariable). is_partner r.from z ≡ true) same f.passes)
