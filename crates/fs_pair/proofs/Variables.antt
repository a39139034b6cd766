-- Each position is a variable of its side, and a partner is one of the other side.
use Rattle.std.proofs.Common.{◌≡◌, ℕ, zero, suc, ◌+◌, List, [], ◌∷◌, ◌++◌, map, ap, sym, refl, ◌∙◌, subst, arith, Some, Bool, true, false, cond, zero-add}
use Rattle.std.specs.Prelude.{not, slice_get}
use Rattle.std.specs.List.{position_from, find, filter, AllByRecursion}
use Rattle.std.specs.Option.{option_to_list}
use Rattle.std.proofs.lemmas.Bool.{not-true}
use Rattle.fs_model.proofs.Booleans.{and_first, and_second}
use Rattle.fs_model.specs.declared.parts.VarInfo.{VarInfo}
use Rattle.fs_model.specs.Machines.{Fsmd}
use Rattle.fs_model.specs.declared.sides.Side.{Side}
use Rattle.fs_model.specs.declared.sides.Side.TheVariants.{Left, Right}
use Rattle.fs_model.specs.Sides.{same_side}
use Rattle.fs_pair.specs.declared.positions.Position.{Position}
use Rattle.fs_pair.specs.SidedVariables.{SidedVariable, sided_variables, same_name_and_sort, partner_among, with_partners, is_alone, all_sided_variables}
use Rattle.fs_pair.specs.SidedVariables.{is_partner}
use Rattle.fs_pair.specs.Positions.{position_of, positions}
use Rattle.fs_pair.specs.Partners.{variables_on, IsVariable, StandsForVariable, HasPartner}
use Rattle.fs_pair.proofs.Tests.{same_name, same_sorts}

-- ---- what holds of each
pub all_append : (P : SidedVariable → Type 0) (xs ys : List SidedVariable) → AllByRecursion P xs → AllByRecursion P ys → AllByRecursion P (xs ++ ys)
all_append P [] ys h g = g
all_append P (x ∷ xs) ys h g = (h.0, all_append P xs ys h.1 g)

pub all_found : (P : SidedVariable → Type 0) (test : SidedVariable → Bool) (xs : List SidedVariable) → AllByRecursion P xs
    → AllByRecursion P (option_to_list (find test xs))
all_found P test [] h = tt
all_found P test (x ∷ xs) h = by_test (test x) (all_found P test xs h.1)
  where
    by_test : (b : Bool) → AllByRecursion P (option_to_list (find test xs)) → AllByRecursion P (option_to_list (cond b (Some x) (find test xs)))
    by_test true r = (h.0, tt)
    by_test false r = r

pub all_filtered : (P : SidedVariable → Type 0) (test : SidedVariable → Bool) (xs : List SidedVariable) → AllByRecursion P xs
    → AllByRecursion P (filter test xs)
all_filtered P test [] h = tt
all_filtered P test (x ∷ xs) h = by_test (test x) (all_filtered P test xs h.1)
  where
    by_test : (b : Bool) → AllByRecursion P (filter test xs) → AllByRecursion P (cond b (x ∷ filter test xs) (filter test xs))
    by_test true r = (h.0, r)
    by_test false r = r

pub all_paired : (P : SidedVariable → Type 0) (ss others : List SidedVariable) → AllByRecursion P ss → AllByRecursion P others
    → AllByRecursion P (with_partners ss others)
all_paired P [] others h g = tt
all_paired P (s ∷ ss) others h g = (
  h.0,
  all_append P (option_to_list (partner_among others s.variable)) (with_partners ss others)
      (all_found P (λ t. same_name_and_sort s.variable t.variable) others g) (all_paired P ss others h.1 g),
)

pub all_numbered : (P : SidedVariable → Type 0) (d : Side) (x : ℕ) (vs : List VarInfo)
    → ((j : ℕ) (v : VarInfo) → slice_get vs j ≡ Some v → P (record { pos = record { side = d; var = x + j }; variable = v }))
    → AllByRecursion P (sided_variables d x vs)
all_numbered P d x [] h = tt
all_numbered P d x (v ∷ vs) h = (
  subst (λ n. P (record { pos = record { side = d; var = n }; variable = v })) (omega arith) (h 0 v refl),
  all_numbered P d (x + 1) vs
      (λ j u e. let k : x + suc j ≡ (x + 1) + j = omega arith in
      subst (λ n. P (record { pos = record { side = d; var = n }; variable = u })) k (h (suc j) u e)),
)

pub all_at : (P : SidedVariable → Type 0) (xs : List SidedVariable) (k : ℕ) (s : SidedVariable) → AllByRecursion P xs → slice_get xs k ≡ Some s → P s
all_at P [] k s h e = absurd (cc e)
all_at P (x ∷ xs) zero s h e = let i : x ≡ s = cc e in subst P i h.0
all_at P (x ∷ xs) (suc k) s h e = all_at P xs k s h.1 e

-- ---- the variable that a search finds
pub record FoundAt (test : SidedVariable → Bool) (xs : List SidedVariable) (i k : ℕ) : Type 0 where
  pub place : ℕ
  pub number : k ≡ i + place
  pub found : SidedVariable
  pub at : slice_get xs place ≡ Some found
  pub passes : test found ≡ true

pub position_found : (test : SidedVariable → Bool) (xs : List SidedVariable) (i k : ℕ) → position_from test i xs ≡ Some k → FoundAt test xs i k
position_found test [] i k e = absurd (cc e)
position_found test (x ∷ xs) i k e = by_test (test x) refl e (λ g. position_found test xs (i + 1) k g)
  where
    by_test : (b : Bool) → test x ≡ b → cond b (Some i) (position_from test (i + 1) xs) ≡ Some k
        → (position_from test (i + 1) xs ≡ Some k → FoundAt test xs (i + 1) k) → FoundAt test (x ∷ xs) i k
    by_test true t g again = let s : i ≡ k = cc g in record { place = 0; number = omega arith; found = x; at = refl; passes = t }
    by_test false t g again = let r = again g in record { place = suc r.place; number = omega (arith, r.number); found = r.found; at = r.at; passes = r.passes }

-- the same from the front on
pub record FoundFirst (test : SidedVariable → Bool) (xs : List SidedVariable) (k : ℕ) : Type 0 where
  pub found : SidedVariable
  pub at : slice_get xs k ≡ Some found
  pub passes : test found ≡ true

pub first_found : (test : SidedVariable → Bool) (xs : List SidedVariable) (k : ℕ) → position_from test 0 xs ≡ Some k → FoundFirst test xs k
first_found test xs k e =
    let f = position_found test xs 0 k e in
    let n : f.place ≡ k = omega (arith, f.number) in
    record { found = f.found; at = subst (λ i. slice_get xs i ≡ Some f.found) n f.at; passes = f.passes }

-- ---- a position and its variable
pub record Comes (ss all : List SidedVariable) (k : ℕ) (p : Position) : Type 0 where
  pub from : SidedVariable
  pub at : slice_get ss k ≡ Some from
  pub is : p ≡ position_of all from

pub comes_from : (ss all : List SidedVariable) (k : ℕ) (p : Position) → slice_get (map (position_of all) ss) k ≡ Some p → Comes ss all k p
comes_from [] all k p e = absurd (cc e)
comes_from (s ∷ ss) all zero p e = record { from = s; at = refl; is = cc e }
comes_from (s ∷ ss) all (suc k) p e = let r = comes_from ss all k p e in record { from = r.from; at = r.at; is = r.is }

pub goes_to : (ss all : List SidedVariable) (k : ℕ) (s : SidedVariable) → slice_get ss k ≡ Some s
    → slice_get (map (position_of all) ss) k ≡ Some (position_of all s)
goes_to [] all k s e = absurd (cc e)
goes_to (t ∷ ss) all zero s e = let i : t ≡ s = cc e in ap (λ (z : SidedVariable). Some (position_of all z)) i
goes_to (t ∷ ss) all (suc k) s e = goes_to ss all k s e

module _ (a b : Fsmd) where
  abbrev pub all_of : List SidedVariable
  all_of = all_sided_variables a.variables b.variables

  abbrev pub Stands : SidedVariable → Type 0
  Stands s = slice_get (variables_on s.pos.side a b) s.pos.var ≡ Some s.variable

  all_stand : AllByRecursion Stands all_of
  all_stand =
      let ls = sided_variables Left 0 a.variables in
      let rs = sided_variables Right 0 b.variables in
      let lefts : AllByRecursion Stands ls = all_numbered Stands Left 0 a.variables
      (λ j v e. subst (λ n. slice_get a.variables n ≡ Some v) (sym (zero-add j)) e) in
      let rights : AllByRecursion Stands rs = all_numbered Stands Right 0 b.variables
      (λ j v e. subst (λ n. slice_get b.variables n ≡ Some v) (sym (zero-add j)) e) in
      all_append Stands (with_partners ls rs) (filter (is_alone ls) rs) (all_paired Stands ls rs lefts rights) (all_filtered Stands (is_alone ls) rs rights)

  pub stands_at : (k : ℕ) (s : SidedVariable) → slice_get all_of k ≡ Some s → Stands s
  stands_at k s e = all_at Stands all_of k s all_stand e

  is_variable : (s : SidedVariable) (p : Position) → Stands s → p ≡ position_of all_of s → IsVariable a b p s.variable
  is_variable s p h e = record {
    is = subst (λ (q : Position). slice_get (variables_on q.pos.side a b) q.pos.var ≡ Some s.variable) (sym e) h;
    role = ap (λ (q : Position). q.role) e;
    sort = ap (λ (q : Position). q.sort) e;
  }

  pub stands_for : (k : ℕ) (p : Position) → slice_get (positions a b) k ≡ Some p → StandsForVariable a b p
  stands_for k p e =
      let r = comes_from all_of all_of k p e in
      record { variable = r.from.variable; is = is_variable r.from p (stands_at k r.from r.at) r.is }

  pub has_partner : (k j : ℕ) (p : Position) → slice_get (positions a b) k ≡ Some p → p.partner ≡ Some j → HasPartner a b p j
  has_partner k j p e h =
      let r = comes_from all_of all_of k p e in
      let s = r.from in
      let f = first_found (is_partner s) all_of j (sym (ap (λ (q : Position). q.partner) r.is) ∙ h) in
      let t = f.found in
      let alike = and_second (not (same_side s.pos.side t.pos.side)) (same_name_and_sort s.variable t.variable) f.passes in
      record {
        variable = s.variable;
        is = is_variable s p (stands_at k s r.at) r.is;
        partner = position_of all_of t;
        at = goes_to all_of all_of j t f.at;
        other = t.variable;
        partner_is = is_variable t (position_of all_of t) (stands_at j t f.at) refl;
        sides = ap (λ (q : Position). same_side q.pos.side t.pos.side) r.is
            ∙ not-true (same_side s.pos.side t.pos.side)
            (and_first (not (same_side s.pos.side t.pos.side)) (same_name_and_sort s.variable t.variable) f.passes);
        name = same_name s.variable t.variable alike;
        sort = same_sorts s.variable t.variable alike ∙ sym (ap (λ (q : Position). q.sort) r.is);
      }
