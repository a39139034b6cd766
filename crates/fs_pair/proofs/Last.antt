-- At the end stand the right variables that have no partner, in order.
use Rattle.std.proofs.Common.{◌≡◌, ℕ, zero, suc, ◌+◌, ◌<◌, ◌≤◌, List, [], ◌∷◌, ◌++◌, length, ap, sym, refl, ◌∙◌, subst, arith, Option, Some, None, Bool, true}
use Rattle.std.proofs.Common.{false, cond}
use Rattle.std.specs.Prelude.{not, ◌&&◌, slice_get}
use Rattle.std.specs.List.{filter, list_any, position_from, AllByRecursion}
use Rattle.std.specs.Option.{option_to_list}
use Rattle.std.proofs.lemmas.Bool.{and_right, not-true}
use Rattle.fs_model.proofs.Booleans.{neither_first, neither_second}
use Rattle.fs_model.specs.declared.parts.VarInfo.{VarInfo}
use Rattle.fs_model.specs.Machines.{Fsmd}
use Rattle.fs_model.specs.declared.sides.Side.{Side}
use Rattle.fs_model.specs.declared.sides.Side.TheVariants.{Left, Right}
use Rattle.fs_model.specs.Sides.{same_side}
use Rattle.fs_pair.specs.declared.positions.Position.{Position}
use Rattle.fs_pair.specs.SidedVariables.{SidedVariable, sided_variables, same_name_and_sort, partner_among, with_partners, is_alone, all_sided_variables}
use Rattle.fs_pair.specs.SidedVariables.{is_partner}
use Rattle.fs_pair.specs.Positions.{position_of, positions}
use Rattle.fs_pair.specs.Partners.{ComesLater}
use Rattle.fs_pair.proofs.Tests.{same_back}
use Rattle.fs_pair.proofs.Variables.{all_at, all_append, all_filtered, all_paired, all_numbered, comes_from}
use Rattle.fs_pair.proofs.Order.{IsRight, rights_are_right, left_is_right, found_by, weaker}

-- ---- places in two lists
pub data InTwo (xs ys : List SidedVariable) (k : ℕ) (s : SidedVariable) : Type 0 where
  InFirst : slice_get xs k ≡ Some s → k < length xs → InTwo xs ys k s
  InSecond : (j : ℕ) → k ≡ length xs + j → slice_get ys j ≡ Some s → InTwo xs ys k s

in_two : (xs ys : List SidedVariable) (k : ℕ) (s : SidedVariable) → slice_get (xs ++ ys) k ≡ Some s → InTwo xs ys k s
in_two [] ys k s e = InSecond k (omega arith) e
in_two (x ∷ xs) ys zero s e = InFirst e (omega arith)
in_two (x ∷ xs) ys (suc k) s e = further (in_two xs ys k s e)
  where
    further : InTwo xs ys k s → InTwo (x ∷ xs) ys (suc k) s
    further (InFirst f h) = InFirst f (omega arith)
    further (InSecond j h f) = InSecond j (omega arith) f

-- ---- none that passes
none_before : (test : SidedVariable → Bool) (xs : List SidedVariable) (i : ℕ) → position_from test i xs ≡ None → AllByRecursion (λ z. test z ≡ false) xs
none_before test [] i e = tt
none_before test (x ∷ xs) i e = by_test (test x) refl e (none_before test xs (i + 1))
  where
    by_test : (b : Bool) → test x ≡ b → cond b (Some i) (position_from test (i + 1) xs) ≡ None
        → (position_from test (i + 1) xs ≡ None → AllByRecursion (λ z. test z ≡ false) xs) → (test x ≡ false) × AllByRecursion (λ z. test z ≡ false) xs
    by_test true t f next = absurd (cc f)
    by_test false t f next = (t, next f)

no_place : (test : SidedVariable → Bool) (xs : List SidedVariable) (i : ℕ) → AllByRecursion (λ z. test z ≡ false) xs → position_from test i xs ≡ None
no_place test [] i h = refl
no_place test (x ∷ xs) i h = ap (λ b. cond {A = Option ℕ} b (Some i) (position_from test (i + 1) xs)) h.0 ∙ no_place test xs (i + 1) h.1

none_any : (test : SidedVariable → Bool) (xs : List SidedVariable) → list_any test xs ≡ false → AllByRecursion (λ z. test z ≡ false) xs
none_any test [] e = tt
none_any test (x ∷ xs) e = (neither_first (test x) (list_any test xs) e, none_any test xs (neither_second (test x) (list_any test xs) e))

-- what holds of the first list and its partners holds of the first
all_back : (P : SidedVariable → Type 0) (o : List SidedVariable) (xs : List SidedVariable) → AllByRecursion P (o ++ xs) → AllByRecursion P xs
all_back P [] xs h = h
all_back P (x ∷ o) xs h = all_back P o xs h.1

all_front : (P : SidedVariable → Type 0) (xs ys : List SidedVariable) → AllByRecursion P (xs ++ ys) → AllByRecursion P xs
all_front P [] ys h = tt
all_front P (x ∷ xs) ys h = (h.0, all_front P xs ys h.1)

all_unpaired : (P : SidedVariable → Type 0) (ss others : List SidedVariable) → AllByRecursion P (with_partners ss others) → AllByRecursion P ss
all_unpaired P [] others h = tt
all_unpaired P (s ∷ ss) others h = (h.0, all_unpaired P ss others (all_back P (option_to_list (partner_among others s.variable)) (with_partners ss others) h.1))

-- ---- the right ones that follow a left one have a partner
abbrev IsLeft : SidedVariable → Type 0
IsLeft s = s.pos.side ≡ Left

faces_left : (z x : SidedVariable) → IsRight z → IsLeft x → same_name_and_sort x.variable z.variable ≡ true → is_partner z x ≡ true
faces_left z x r l h =
    ap (λ (d : Side). not (same_side d x.pos.side) && same_name_and_sort z.variable x.variable) r
    ∙ ap (λ (d : Side). not (same_side Right d) && same_name_and_sort z.variable x.variable) l
    ∙ same_back x.variable z.variable h

followers_have : (ss others : List SidedVariable) (k : ℕ) (z : SidedVariable) → AllByRecursion IsLeft ss → IsRight z
    → slice_get (with_partners ss others) k ≡ Some z → AllByRecursion (λ s. is_partner z s ≡ false) ss → ⊥
followers_have [] others k z l r e h = cc e
followers_have (x ∷ ss) others zero z l r e h = let i : x ≡ z = cc e in left_is_right z (subst IsLeft i l.0) r
followers_have (x ∷ ss) others (suc k) z l r e h =
    by_case (partner_among others x.variable) refl k e (λ j f. followers_have ss others j z l.1 r f h.1)
  where
    by_case : (o : Option SidedVariable) → partner_among others x.variable ≡ o → (k : ℕ) → slice_get (option_to_list o ++ with_partners ss others) k ≡ Some z
        → ((j : ℕ) → slice_get (with_partners ss others) j ≡ Some z → ⊥) → ⊥
    by_case None p k f next = next k f
    by_case (Some u) p zero f next =
        let i : u ≡ z = cc f in
        let passes : same_name_and_sort x.variable z.variable ≡ true =
        subst (λ (w : SidedVariable). same_name_and_sort x.variable w.variable ≡ true) i
        (found_by (λ w. same_name_and_sort x.variable w.variable) others u p) in
        let c : true ≡ false = sym (faces_left z x r l.0 passes) ∙ h.0 in
        cc c
    by_case (Some u) p (suc k) f next = next k f

-- ---- the others rise
filtered_from : (g : SidedVariable → Bool) (y : ℕ) (us : List VarInfo) → AllByRecursion (λ z. y ≤ z.pos.var) (filter g (sided_variables Right y us))
filtered_from g y us = all_filtered (λ z. y ≤ z.pos.var) g (sided_variables Right y us) (all_numbered (λ z. y ≤ z.pos.var) Right y us (λ j v e. (omega arith)))

rises : (g : SidedVariable → Bool) (y : ℕ) (us : List VarInfo) (k i : ℕ) (s u : SidedVariable) → k < i
    → slice_get (filter g (sided_variables Right y us)) k ≡ Some s → slice_get (filter g (sided_variables Right y us)) i ≡ Some u → s.pos.var < u.pos.var
rises g y [] k i s u h e f = absurd (cc e)
rises g y (v ∷ us) k i s u h e f =
    by_test (g (record { pos = record { side = Right; var = y }; variable = v })) k i h e f (λ k i h e f. rises g (y + 1) us k i s u h e f)
  where
    by_test : (b : Bool) (k i : ℕ) → k < i
        → slice_get
        (cond b (record { pos = record { side = Right; var = y }; variable = v } ∷ filter g (sided_variables Right (y + 1) us))
        (filter g (sided_variables Right (y + 1) us))) k ≡ Some s
        → slice_get
        (cond b (record { pos = record { side = Right; var = y }; variable = v } ∷ filter g (sided_variables Right (y + 1) us))
        (filter g (sided_variables Right (y + 1) us))) i ≡ Some u
        → ((k i : ℕ) → k < i → slice_get (filter g (sided_variables Right (y + 1) us)) k ≡ Some s
        → slice_get (filter g (sided_variables Right (y + 1) us)) i ≡ Some u → s.pos.var < u.pos.var) → s.pos.var < u.pos.var
    by_test false k i h e f next = next k i h e f
    by_test true k zero h e f next = absurd (omega arith)
    by_test true zero (suc i) h e f next =
        let here : SidedVariable = record { pos = record { side = Right; var = y }; variable = v } in
        let j : here ≡ s = cc e in
        let n : y ≡ s.pos.var = ap (λ (z : SidedVariable). z.pos.var) j in
        omega (arith, n, all_at (λ z. y + 1 ≤ z.pos.var) (filter g (sided_variables Right (y + 1) us)) i u (filtered_from g (y + 1) us) f)
    by_test true (suc k) (suc i) h e f next = next k i (omega arith) e f

all_pass : (g : SidedVariable → Bool) (xs : List SidedVariable) → AllByRecursion (λ z. g z ≡ true) (filter g xs)
all_pass g [] = tt
all_pass g (x ∷ xs) = by_test (g x) refl (all_pass g xs)
  where
    by_test : (c : Bool) → g x ≡ c → AllByRecursion (λ z. g z ≡ true) (filter g xs) → AllByRecursion (λ z. g z ≡ true) (cond c (x ∷ filter g xs) (filter g xs))
    by_test true t h = (t, h)
    by_test false t h = h

passes_filter : (g : SidedVariable → Bool) (xs : List SidedVariable) (j : ℕ) (s : SidedVariable) → slice_get (filter g xs) j ≡ Some s → g s ≡ true
passes_filter g xs j s e = all_at (λ z. g z ≡ true) (filter g xs) j s (all_pass g xs) e

module _ (a b : Fsmd) where
  abbrev ls : List SidedVariable
  ls = sided_variables Left 0 a.variables

  abbrev rs : List SidedVariable
  rs = sided_variables Right 0 b.variables

  abbrev alone : List SidedVariable
  alone = filter (is_alone ls) rs

  abbrev all : List SidedVariable
  all = all_sided_variables a.variables b.variables

  lefts_are_left : AllByRecursion IsLeft ls
  lefts_are_left = all_numbered IsLeft Left 0 a.variables (λ j v e. refl)

  -- a right one without partner stands among the last
  is_last : (k : ℕ) (s : SidedVariable) → slice_get all k ≡ Some s → IsRight s → position_from (is_partner s) 0 all ≡ None
      → (j : ℕ) × (k ≡ length (with_partners ls rs) + j) × (slice_get alone j ≡ Some s)
  is_last k s e r n = by_case (in_two (with_partners ls rs) alone k s e)
    where
      by_case : InTwo (with_partners ls rs) alone k s → (j : ℕ) × (k ≡ length (with_partners ls rs) + j) × (slice_get alone j ≡ Some s)
      by_case (InSecond j h f) = (j, h, f)
      by_case (InFirst f h) =
          let P : SidedVariable → Type 0 = λ z. is_partner s z ≡ false in
          absurd
          (followers_have ls rs k s lefts_are_left r f (all_unpaired P ls rs (all_front P (with_partners ls rs) alone (none_before (is_partner s) all 0 n))))

  pub record Last (s : SidedVariable) : Type 0 where
    pub right : IsRight s
    pub none : position_from (is_partner s) 0 all ≡ None

  alone_is_last : (j : ℕ) (s : SidedVariable) → slice_get alone j ≡ Some s → Last s
  alone_is_last j s e =
      let right = all_at IsRight alone j s (all_filtered IsRight (is_alone ls) rs (rights_are_right b.variables)) e in
      let P : SidedVariable → Type 0 = λ z. is_partner s z ≡ false in
      let left : AllByRecursion P ls = weaker (λ z. same_name_and_sort s.variable z.variable ≡ false) P ls
      (λ z h. and_right (not (same_side s.pos.side z.pos.side)) (same_name_and_sort s.variable z.variable) h)
      (none_any (λ z. same_name_and_sort s.variable z.variable) ls
      (not-true (list_any (λ z. same_name_and_sort s.variable z.variable) ls) (passes_filter (is_alone ls) rs j s e))) in
      let on_right : AllByRecursion P rs =
      weaker IsRight P rs
      (λ z h. ap (λ (d : Side). not (same_side d z.pos.side) && same_name_and_sort s.variable z.variable) right
      ∙ ap (λ (d : Side). not (same_side Right d) && same_name_and_sort s.variable z.variable) h) (rights_are_right b.variables) in
      record {
        right = right;
        none = no_place (is_partner s) all 0
            (all_append P (with_partners ls rs) alone (all_paired P ls rs left on_right) (all_filtered P (is_alone ls) rs on_right));
      }

  pub others_last : (k i : ℕ) (p q : Position) → slice_get (positions a b) k ≡ Some p → p.pos.side ≡ Right → p.partner ≡ None
      → slice_get (positions a b) i ≡ Some q → k < i → ComesLater p q
  others_last k i p q e d n f h =
      let r = comes_from all all k p e in
      let w = comes_from all all i q f in
      let right : IsRight r.from = sym (ap (λ (z : Position). z.pos.side) r.is) ∙ d in
      let here = is_last k r.from r.at right (sym (ap (λ (z : Position). z.partner) r.is) ∙ n) in
      by_case w.from w.is r.from r.is here.0 here.1 here.2 (in_two (with_partners ls rs) alone i w.from w.at)
    where
      by_case : (u : SidedVariable) → q ≡ position_of all u → (s : SidedVariable) → p ≡ position_of all s → (j : ℕ) → k ≡ length (with_partners ls rs) + j
          → slice_get alone j ≡ Some s → InTwo (with_partners ls rs) alone i u → ComesLater p q
      by_case u qu s ps j m g (InFirst v x) = absurd (omega arith)
      by_case u qu s ps j m g (InSecond o x v) =
          let last = alone_is_last o u v in
          let less : s.pos.var < u.pos.var = rises (is_alone ls) 0 b.variables j o s u (omega arith) g v in
          let pn : p.pos.var ≡ s.pos.var = ap (λ (z : Position). z.pos.var) ps in
          let qn : q.pos.var ≡ u.pos.var = ap (λ (z : Position). z.pos.var) qu in
          record {
            right = ap (λ (z : Position). z.pos.side) qu ∙ last.right;
            alone = ap (λ (z : Position). z.partner) qu ∙ last.none;
            later = omega arith;
          }
