-- The order of positions: the left variables in order, each followed by its partner, and at the end the right ones without one.
use Rattle.std.proofs.Common.{◌≡◌, ℕ, zero, suc, ◌+◌, List, [], ◌∷◌, ◌++◌, length, map, ap, sym, refl, ◌∙◌, subst, arith, Option, Some, None, Bool, true, false}
use Rattle.std.proofs.Common.{cond, append-nil}
use Rattle.std.specs.Prelude.{not, slice_get}
use Rattle.std.specs.List.{find, filter, range_with_len, AllByRecursion}
use Rattle.std.specs.Option.{option_to_list}
use Rattle.std.proofs.lemmas.Bool.{not-true}
use Rattle.fs_model.proofs.Booleans.{and_first, and_second}
use Rattle.fs_model.specs.SoundMachines.{IsSound}
use Rattle.fs_model.specs.declared.parts.VarInfo.{VarInfo}
use Rattle.fs_model.specs.Machines.{Fsmd}
use Rattle.fs_model.specs.declared.sides.Side.{Side}
use Rattle.fs_model.specs.declared.sides.Side.TheVariants.{Left, Right}
use Rattle.fs_model.specs.declared.sides.Pos.{Pos}
use Rattle.fs_model.specs.Sides.{same_side}
use Rattle.fs_pair.specs.declared.positions.Position.{Position}
use Rattle.fs_pair.specs.SidedVariables.{SidedVariable, sided_variables, same_name_and_sort, partner_among, with_partners, is_alone, all_sided_variables}
use Rattle.fs_pair.specs.SidedVariables.{is_partner}
use Rattle.fs_pair.specs.Positions.{position_of, positions}
use Rattle.fs_pair.specs.Partners.{side_positions}
use Rattle.fs_pair.proofs.Tests.{same_name}
use Rattle.fs_pair.proofs.Variables.{all_at, all_append, all_found, all_filtered, all_paired, all_numbered, comes_from, first_found}
use Rattle.fs_pair.proofs.Mutual.{one_variable}

-- ---- the left ones
abbrev lefts_of : List SidedVariable → List Pos
lefts_of xs = map (λ s. s.pos) (filter (λ s. same_side s.pos.side Left) xs)

lefts_append : (xs ys : List SidedVariable) → lefts_of (xs ++ ys) ≡ lefts_of xs ++ lefts_of ys
lefts_append [] ys = refl
lefts_append (x ∷ xs) ys = by_test (same_side x.pos.side Left) (lefts_append xs ys)
  where
    by_test : (b : Bool) → lefts_of (xs ++ ys) ≡ lefts_of xs ++ lefts_of ys
        → map (λ (s : SidedVariable). s.pos)
        (cond b (x ∷ filter (λ s. same_side s.pos.side Left) (xs ++ ys)) (filter (λ s. same_side s.pos.side Left) (xs ++ ys)))
        ≡ map (λ (s : SidedVariable). s.pos) (cond b (x ∷ filter (λ s. same_side s.pos.side Left) xs) (filter (λ s. same_side s.pos.side Left) xs))
        ++ lefts_of ys
    by_test true e = ap (λ l. x.pos ∷ l) e
    by_test false e = e

abbrev pub IsRight : SidedVariable → Type 0
IsRight s = s.pos.side ≡ Right

no_lefts : (xs : List SidedVariable) → AllByRecursion IsRight xs → lefts_of xs ≡ []
no_lefts [] h = refl
no_lefts (x ∷ xs) h =
    ap
    (λ (d : Side). map (λ (s : SidedVariable). s.pos)
    (cond (same_side d Left) (x ∷ filter (λ s. same_side s.pos.side Left) xs) (filter (λ s. same_side s.pos.side Left) xs))) h.0 ∙ no_lefts xs h.1

lefts_paired : (ss others : List SidedVariable) → AllByRecursion IsRight others → lefts_of (with_partners ss others) ≡ lefts_of ss
lefts_paired [] others h = refl
lefts_paired (s ∷ ss) others h =
    by_test (same_side s.pos.side Left) (
    lefts_append (option_to_list (partner_among others s.variable)) (with_partners ss others)
    ∙ ap (λ l. l ++ lefts_of (with_partners ss others))
    (no_lefts (option_to_list (partner_among others s.variable)) (all_found IsRight (λ t. same_name_and_sort s.variable t.variable) others h))
    ∙ lefts_paired ss others h
    )
  where
    by_test : (b : Bool) → lefts_of (option_to_list (partner_among others s.variable) ++ with_partners ss others) ≡ lefts_of ss
        → map (λ (t : SidedVariable). t.pos)
        (cond b (s ∷ filter (λ t. same_side t.pos.side Left) (option_to_list (partner_among others s.variable) ++ with_partners ss others))
        (filter (λ t. same_side t.pos.side Left) (option_to_list (partner_among others s.variable) ++ with_partners ss others)))
        ≡ map (λ (t : SidedVariable). t.pos) (cond b (s ∷ filter (λ t. same_side t.pos.side Left) ss) (filter (λ t. same_side t.pos.side Left) ss))
    by_test true e = ap (λ l. s.pos ∷ l) e
    by_test false e = e

lefts_numbered : (x : ℕ) (vs : List VarInfo) → lefts_of (sided_variables Left x vs) ≡ map (λ n. record { side = Left; var = n }) (range_with_len x (length vs))
lefts_numbered x [] = refl
lefts_numbered x (v ∷ vs) = ap (λ l. record { side = Left; var = x } ∷ l) (lefts_numbered (x + 1) vs)

lefts_positions : (all ss : List SidedVariable)
    → map (λ (p : Position). p.pos) (filter (λ p. same_side p.pos.side Left) (map (position_of all) ss)) ≡ lefts_of ss
lefts_positions all [] = refl
lefts_positions all (s ∷ ss) = by_test (same_side s.pos.side Left) (lefts_positions all ss)
  where
    by_test : (b : Bool) → map (λ (p : Position). p.pos) (filter (λ p. same_side p.pos.side Left) (map (position_of all) ss)) ≡ lefts_of ss
        → map (λ (p : Position). p.pos)
        (cond b (position_of all s ∷ filter (λ p. same_side p.pos.side Left) (map (position_of all) ss))
        (filter (λ p. same_side p.pos.side Left) (map (position_of all) ss)))
        ≡ map (λ (t : SidedVariable). t.pos) (cond b (s ∷ filter (λ t. same_side t.pos.side Left) ss) (filter (λ t. same_side t.pos.side Left) ss))
    by_test true e = ap (λ l. s.pos ∷ l) e
    by_test false e = e

pub rights_are_right : (us : List VarInfo) → AllByRecursion IsRight (sided_variables Right 0 us)
rights_are_right us = all_numbered IsRight Right 0 us (λ j v e. refl)

pub lefts_in_order : (a b : Fsmd) → map (λ p. p.pos) (filter (λ p. same_side p.pos.side Left) (positions a b)) ≡ side_positions Left (length a.variables)
lefts_in_order a b =
    let ls = sided_variables Left 0 a.variables in
    let rs = sided_variables Right 0 b.variables in
    let rights = rights_are_right b.variables in
    lefts_positions (all_sided_variables a.variables b.variables) (all_sided_variables a.variables b.variables)
    ∙ lefts_append (with_partners ls rs) (filter (is_alone ls) rs)
    ∙ ap (λ l. lefts_of (with_partners ls rs) ++ l) (no_lefts (filter (is_alone ls) rs) (all_filtered IsRight (is_alone ls) rs rights))
    ∙ append-nil (lefts_of (with_partners ls rs))
    ∙ lefts_paired ls rs rights
    ∙ lefts_numbered 0 a.variables

-- ---- what follows a left one
pub left_is_right : (s : SidedVariable) → s.pos.side ≡ Left → IsRight s → ⊥
left_is_right s h g = let c : Left ≡ Right = sym h ∙ g in cc c

follows : (ss others rest : List SidedVariable) (k : ℕ) (s r : SidedVariable) → AllByRecursion IsRight others → AllByRecursion IsRight rest → s.pos.side ≡ Left
    → partner_among others s.variable ≡ Some r
    → slice_get (with_partners ss others ++ rest) k ≡ Some s → slice_get (with_partners ss others ++ rest) (suc k) ≡ Some r
follows [] others rest k s r h g d p e = absurd (left_is_right s d (all_at IsRight rest k s g e))
follows (x ∷ ss) others rest zero s r h g d p e =
    let i : x ≡ s = cc e in
    ap (λ (o : Option SidedVariable). slice_get ((option_to_list o ++ with_partners ss others) ++ rest) 0)
    (ap (λ (z : SidedVariable). partner_among others z.variable) i ∙ p)
follows (x ∷ ss) others rest (suc k) s r h g d p e =
    by_case (partner_among others x.variable) k (all_found IsRight (λ t. same_name_and_sort x.variable t.variable) others h) e
    (λ j f. follows ss others rest j s r h g d p f)
  where
    by_case : (o : Option SidedVariable) (k : ℕ) → AllByRecursion IsRight (option_to_list o)
        → slice_get ((option_to_list o ++ with_partners ss others) ++ rest) k ≡ Some s
        → ((j : ℕ) → slice_get (with_partners ss others ++ rest) j ≡ Some s → slice_get (with_partners ss others ++ rest) (suc j) ≡ Some r)
        → slice_get ((option_to_list o ++ with_partners ss others) ++ rest) (suc k) ≡ Some r
    by_case None k w f next = next k f
    by_case (Some z) zero w f next = let i : z ≡ s = cc f in absurd (left_is_right s d (subst IsRight i w.0))
    by_case (Some z) (suc k) w f next = next k f

none_passes : (test : SidedVariable → Bool) (xs : List SidedVariable) → find test xs ≡ None → AllByRecursion (λ z. test z ≡ false) xs
none_passes test [] e = tt
none_passes test (x ∷ xs) e = by_test (test x) refl e (none_passes test xs)
  where
    by_test : (b : Bool) → test x ≡ b → cond b (Some x) (find test xs) ≡ None → (find test xs ≡ None → AllByRecursion (λ z. test z ≡ false) xs)
        → (test x ≡ false) × AllByRecursion (λ z. test z ≡ false) xs
    by_test true t f next = absurd (cc f)
    by_test false t f next = (t, next f)

pub weaker : (P Q : SidedVariable → Type 0) (xs : List SidedVariable) → ((s : SidedVariable) → P s → Q s) → AllByRecursion P xs → AllByRecursion Q xs
weaker P Q [] f h = tt
weaker P Q (x ∷ xs) f h = (f x h.0, weaker P Q xs f h.1)

pub found_by : (test : SidedVariable → Bool) (xs : List SidedVariable) (r : SidedVariable) → find test xs ≡ Some r → test r ≡ true
found_by test [] r e = absurd (cc e)
found_by test (x ∷ xs) r e = by_test (test x) refl e (found_by test xs r)
  where
    by_test : (b : Bool) → test x ≡ b → cond b (Some x) (find test xs) ≡ Some r → (find test xs ≡ Some r → test r ≡ true) → test r ≡ true
    by_test true t f next = let i : x ≡ r = cc f in ap test (sym i) ∙ t
    by_test false t f next = next f

other_is_right : (d e : Side) → d ≡ Left → same_side d e ≡ false → e ≡ Right
other_is_right Left Left h g = absurd (cc g)
other_is_right Left Right h g = refl
other_is_right Right e h g = absurd (cc h)

module _ (a b : Fsmd) (sound : IsSound a) (other : IsSound b) where
  abbrev ls : List SidedVariable
  ls = sided_variables Left 0 a.variables

  abbrev rs : List SidedVariable
  rs = sided_variables Right 0 b.variables

  abbrev all : List SidedVariable
  all = all_sided_variables a.variables b.variables

  rights : AllByRecursion IsRight rs
  rights = rights_are_right b.variables

  -- no right one passes that none of the list passes
  none_stands : (test : SidedVariable → Bool) → find test rs ≡ None → AllByRecursion (λ z. IsRight z → test z ≡ false) all
  none_stands test e =
      let P : SidedVariable → Type 0 = λ z. IsRight z → test z ≡ false in
      let on_left : AllByRecursion P ls = all_numbered P Left 0 a.variables (λ j v f g. absurd (cc g)) in
      let on_right : AllByRecursion P rs = weaker (λ z. test z ≡ false) P rs (λ s h g. h) (none_passes test rs e) in
      all_append P (with_partners ls rs) (filter (is_alone ls) rs) (all_paired P ls rs on_left on_right) (all_filtered P (is_alone ls) rs on_right)

  follow_by : (k j : ℕ) (s t : SidedVariable) → slice_get all k ≡ Some s → slice_get all j ≡ Some t → s.pos.side ≡ Left → IsRight t
      → same_name_and_sort s.variable t.variable ≡ true
      → (o : Option SidedVariable) → partner_among rs s.variable ≡ o → j ≡ k + 1
  follow_by k j s t e f d r n None p =
      let no : same_name_and_sort s.variable t.variable ≡ false =
      all_at (λ z. IsRight z → same_name_and_sort s.variable z.variable ≡ false) all j t (none_stands (λ z. same_name_and_sort s.variable z.variable) p) f r in
      let c : true ≡ false = sym n ∙ no in
      absurd (cc c)
  follow_by k j s t e f d r n (Some u) p =
      let next : slice_get all (suc k) ≡ Some u = follows ls rs (filter (is_alone ls) rs) k s u rights (all_filtered IsRight (is_alone ls) rs rights) d p e in
      let passes : same_name_and_sort s.variable u.variable ≡ true = found_by (λ z. same_name_and_sort s.variable z.variable) rs u p in
      let right : AllByRecursion IsRight (option_to_list (Some u)) =
      subst (λ o. AllByRecursion IsRight (option_to_list o)) p (all_found IsRight (λ z. same_name_and_sort s.variable z.variable) rs rights) in
      let same : j ≡ suc k = one_variable a b sound other j (suc k) t u f next (right.0 ∙ sym r)
      (same_name s.variable u.variable passes ∙ sym (same_name s.variable t.variable n)) in
      omega arith

  pub partner_follows : (k j : ℕ) (p : Position) → slice_get (positions a b) k ≡ Some p → p.pos.side ≡ Left → p.partner ≡ Some j → j ≡ k + 1
  partner_follows k j p e d h =
      let r = comes_from all all k p e in
      let s = r.from in
      let f = first_found (is_partner s) all j (sym (ap (λ (q : Position). q.partner) r.is) ∙ h) in
      let t = f.found in
      let left : s.pos.side ≡ Left = sym (ap (λ (q : Position). q.pos.side) r.is) ∙ d in
      let apart : same_side s.pos.side t.pos.side ≡ false = not-true (same_side s.pos.side t.pos.side)
      (and_first (not (same_side s.pos.side t.pos.side)) (same_name_and_sort s.variable t.variable) f.passes) in
      follow_by k j s t r.at f.at left (other_is_right s.pos.side t.pos.side left apart)
      (and_second (not (same_side s.pos.side t.pos.side)) (same_name_and_sort s.variable t.variable) f.passes) (partner_among rs s.variable) refl
