-- Between which bounds a list leaves a direction, and that nothing is refuted where one side is open.
use Rattle.std.proofs.Common.{◌≡◌, ℤ, pos, ◌+ℤ◌, ◌-ℤ◌, ◌≤ℤ◌, ◌<ℤ◌, cond, Bool, true, false, arith, refl, ap, sym, subst, ◌∙◌, List, [], ◌∷◌, Option, None, Some}
use Rattle.std.specs.Prelude.{not, ◌&&◌, ◌||◌, ◌↔◌, IsTrue, int_lt}
use Rattle.std.proofs.lemmas.Int.{ints}
use Rattle.std.proofs.lemmas.Bool.{and_from, not-true}
use Rattle.fs_model.proofs.Booleans.{and_first, and_second}
use Rattle.fs_model.proofs.Integers.{int_eq-true}
use Rattle.nf_trees.specs.NormalTerms.{Polynomial}
use Rattle.nf_trees.specs.Order.{same_polynomial}
use Rattle.nf_rel.specs.declared.kind.Kind.{Kind}
use Rattle.nf_rel.specs.declared.kind.Kind.TheVariants.{Ge, Le, Eq, Ne}
use Rattle.nf_rel.specs.Bounds.{lower_of, upper_of, lower_along, upper_along, greater, less, greatest_lower, least_upper}
use Rattle.nf_rel.specs.Literals.{NormalLiteral, True, False, Is, meets, meets_along, meets_all, is_refuted_along}
use Rattle.nf_rel.proofs.Floors.{lt_true, lt_false, not_lt}
use Rattle.nf_rel.proofs.Exact.{not_eq, same_self, own_along, met_open, refuted_none, none_refuted}

-- a number is not below a lower bound, and not above an upper one
abbrev pub NotBelow : ℤ → Option ℤ → Type 0
NotBelow v None = Unit {0}
NotBelow v (Some a) = a ≤ℤ v

abbrev pub NotAbove : ℤ → Option ℤ → Type 0
NotAbove v None = Unit {0}
NotAbove v (Some b) = v ≤ℤ b

lower_met : (k : Kind) (v b : ℤ) → meets k v b ≡ true → NotBelow v (lower_of k b)
lower_met Ge v b h = lt_false v b (not-true _ h)
lower_met Le v b h = tt
lower_met Eq v b h = let x = int_eq-true v b h in omega (arith, ints, x)
lower_met Ne v b h = tt

upper_met : (k : Kind) (v b : ℤ) → meets k v b ≡ true → NotAbove v (upper_of k b)
upper_met Ge v b h = tt
upper_met Le v b h = lt_false b v (not-true _ h)
upper_met Eq v b h = let x = int_eq-true v b h in omega (arith, ints, x)
upper_met Ne v b h = tt

lower_literal : (d : Polynomial) (v : ℤ) (l : NormalLiteral) → meets_along d v l ≡ true → NotBelow v (lower_along d l)
lower_literal d v True h = tt
lower_literal d v False h = tt
lower_literal d v (Is e k b) h = by_test (same_polynomial d e) h
  where
    by_test : (t : Bool) → not t || meets k v b ≡ true → NotBelow v (cond t (lower_of k b) None)
    by_test true x = lower_met k v b x
    by_test false x = tt

upper_literal : (d : Polynomial) (v : ℤ) (l : NormalLiteral) → meets_along d v l ≡ true → NotAbove v (upper_along d l)
upper_literal d v True h = tt
upper_literal d v False h = tt
upper_literal d v (Is e k b) h = by_test (same_polynomial d e) h
  where
    by_test : (t : Bool) → not t || meets k v b ≡ true → NotAbove v (cond t (upper_of k b) None)
    by_test true x = upper_met k v b x
    by_test false x = tt

greater_met : (v : ℤ) (x y : Option ℤ) → NotBelow v x → NotBelow v y → NotBelow v (greater x y)
greater_met v None y h i = i
greater_met v (Some a) None h i = h
greater_met v (Some a) (Some b) h i = by_test (int_lt a b)
  where
    by_test : (t : Bool) → cond t b a ≤ℤ v
    by_test true = i
    by_test false = h

less_met : (v : ℤ) (x y : Option ℤ) → NotAbove v x → NotAbove v y → NotAbove v (less x y)
less_met v None y h i = i
less_met v (Some a) None h i = h
less_met v (Some a) (Some b) h i = by_test (int_lt b a)
  where
    by_test : (t : Bool) → v ≤ℤ cond t b a
    by_test true = i
    by_test false = h

-- what meets all literals of a direction lies between its bounds
pub lower_holds : (d : Polynomial) (v : ℤ) (known : Option ℤ) (ls : List NormalLiteral) → NotBelow v known → meets_all d v ls ≡ true
    → NotBelow v (greatest_lower d known ls)
lower_holds d v known [] k h = k
lower_holds d v known (l ∷ ls) k h =
    lower_holds d v (greater known (lower_along d l)) ls
    (greater_met v known (lower_along d l) k (lower_literal d v l (and_first (meets_along d v l) (meets_all d v ls) h)))
    (and_second (meets_along d v l) (meets_all d v ls) h)

pub upper_holds : (d : Polynomial) (v : ℤ) (known : Option ℤ) (ls : List NormalLiteral) → NotAbove v known → meets_all d v ls ≡ true
    → NotAbove v (least_upper d known ls)
upper_holds d v known [] k h = k
upper_holds d v known (l ∷ ls) k h =
    upper_holds d v (less known (upper_along d l)) ls
    (less_met v known (upper_along d l) k (upper_literal d v l (and_first (meets_along d v l) (meets_all d v ls) h)))
    (and_second (meets_along d v l) (meets_all d v ls) h)

-- ---- where a side is open
no_greater : (x y : Option ℤ) → greater x y ≡ None → (x ≡ None) × (y ≡ None)
no_greater None y e = (refl, e)
no_greater (Some a) None e = absurd (cc e)
no_greater (Some a) (Some b) e = absurd (cc e)

no_less : (x y : Option ℤ) → less x y ≡ None → (x ≡ None) × (y ≡ None)
no_less None y e = (refl, e)
no_less (Some a) None e = absurd (cc e)
no_less (Some a) (Some b) e = absurd (cc e)

pub no_lower : (d : Polynomial) (known : Option ℤ) (ls : List NormalLiteral) → greatest_lower d known ls ≡ None → known ≡ None
no_lower d known [] e = e
no_lower d known (l ∷ ls) e = (no_greater known (lower_along d l) (no_lower d (greater known (lower_along d l)) ls e)).0

pub no_upper : (d : Polynomial) (known : Option ℤ) (ls : List NormalLiteral) → least_upper d known ls ≡ None → known ≡ None
no_upper d known [] e = e
no_upper d known (l ∷ ls) e = (no_less known (upper_along d l) (no_upper d (less known (upper_along d l)) ls e)).0

-- each number below the bound of a literal that is none from below meets it
below_met : (k : Kind) (v b : ℤ) → lower_of k b ≡ None → v <ℤ b → meets k v b ≡ true
below_met Ge v b e h = absurd (cc e)
below_met Le v b e h = ap not (not_lt b v (omega (arith, ints)))
below_met Eq v b e h = absurd (cc e)
below_met Ne v b e h = ap not (not_eq v b (λ q. omega (arith, ints, q)))

above_met : (k : Kind) (v b : ℤ) → upper_of k b ≡ None → b <ℤ v → meets k v b ≡ true
above_met Ge v b e h = ap not (not_lt v b (omega (arith, ints)))
above_met Le v b e h = absurd (cc e)
above_met Eq v b e h = absurd (cc e)
above_met Ne v b e h = ap not (not_eq v b (λ q. omega (arith, ints, q)))

below_literal : (d e : Polynomial) (k : Kind) (v b : ℤ) → lower_along d (Is e k b) ≡ None → v <ℤ b → meets_along d v (Is e k b) ≡ true
below_literal d e k v b n h = by_test (same_polynomial d e) n
  where
    by_test : (t : Bool) → cond t (lower_of k b) None ≡ None → not t || meets k v b ≡ true
    by_test true x = below_met k v b x h
    by_test false x = refl

above_literal : (d e : Polynomial) (k : Kind) (v b : ℤ) → upper_along d (Is e k b) ≡ None → b <ℤ v → meets_along d v (Is e k b) ≡ true
above_literal d e k v b n h = by_test (same_polynomial d e) n
  where
    by_test : (t : Bool) → cond t (upper_of k b) None ≡ None → not t || meets k v b ≡ true
    by_test true x = above_met k v b x h
    by_test false x = refl

-- a number below which each one meets all
pub record OpenBelow (d : Polynomial) (ls : List NormalLiteral) : Type 0 where
  pub least : ℤ
  pub meets : (v : ℤ) → v <ℤ least → meets_all d v ls ≡ true

pub record OpenAbove (d : Polynomial) (ls : List NormalLiteral) : Type 0 where
  pub greatest : ℤ
  pub meets : (v : ℤ) → greatest <ℤ v → meets_all d v ls ≡ true

open_below : (d : Polynomial) (known : Option ℤ) (ls : List NormalLiteral) → greatest_lower d known ls ≡ None → OpenBelow d ls
open_below d known [] e = record { least = pos 0; meets = λ v h. refl }
open_below d known (True ∷ ls) e = let o = open_below d (greater known None) ls e in record { least = o.least; meets = λ v h. o.meets v h }
open_below d known (False ∷ ls) e = let o = open_below d (greater known None) ls e in record { least = o.least; meets = λ v h. o.meets v h }
open_below d known (Is f k b ∷ ls) e =
    let o = open_below d (greater known (lower_along d (Is f k b))) ls e in
    let n = (no_greater known (lower_along d (Is f k b)) (no_lower d (greater known (lower_along d (Is f k b))) ls e)).1 in
    by_test o n (int_lt b o.least) refl
  where
    by_test : (o : OpenBelow d ls) → lower_along d (Is f k b) ≡ None → (t : Bool) → int_lt b o.least ≡ t → OpenBelow d (Is f k b ∷ ls)
    by_test o n true q = record {
      least = b;
      meets = λ v h. and_from (meets_along d v (Is f k b)) (meets_all d v ls) (below_literal d f k v b n h)
          (o.meets v (let x = lt_true b o.least q in omega (arith, ints)));
    }
    by_test o n false q = record {
      least = o.least;
      meets = λ v h. and_from (meets_along d v (Is f k b)) (meets_all d v ls)
          (below_literal d f k v b n (let x = lt_false b o.least q in omega (arith, ints))) (o.meets v h);
    }

open_above : (d : Polynomial) (known : Option ℤ) (ls : List NormalLiteral) → least_upper d known ls ≡ None → OpenAbove d ls
open_above d known [] e = record { greatest = pos 0; meets = λ v h. refl }
open_above d known (True ∷ ls) e = let o = open_above d (less known None) ls e in record { greatest = o.greatest; meets = λ v h. o.meets v h }
open_above d known (False ∷ ls) e = let o = open_above d (less known None) ls e in record { greatest = o.greatest; meets = λ v h. o.meets v h }
open_above d known (Is f k b ∷ ls) e =
    let o = open_above d (less known (upper_along d (Is f k b))) ls e in
    let n = (no_less known (upper_along d (Is f k b)) (no_upper d (less known (upper_along d (Is f k b))) ls e)).1 in
    by_test o n (int_lt o.greatest b) refl
  where
    by_test : (o : OpenAbove d ls) → upper_along d (Is f k b) ≡ None → (t : Bool) → int_lt o.greatest b ≡ t → OpenAbove d (Is f k b ∷ ls)
    by_test o n true q = record {
      greatest = b;
      meets = λ v h. and_from (meets_along d v (Is f k b)) (meets_all d v ls) (above_literal d f k v b n h)
          (o.meets v (let x = lt_true o.greatest b q in omega (arith, ints)));
    }
    by_test o n false q = record {
      greatest = o.greatest;
      meets = λ v h. and_from (meets_along d v (Is f k b)) (meets_all d v ls)
          (above_literal d f k v b n (let x = lt_false o.greatest b q in omega (arith, ints))) (o.meets v h);
    }

-- a walk from number to number goes one on
pub walked : (p : ℤ → Bool) (b : Bool) (low number next : ℤ) → next ≡ number +ℤ pos 1 → ((v : ℤ) → low ≤ℤ v → v <ℤ number → p v ≡ b) → p number ≡ b → (v : ℤ)
    → low ≤ℤ v → v <ℤ next → p v ≡ b
walked p b low number next e before here v l h = by_test (int_lt v number) refl
  where
    by_test : (t : Bool) → int_lt v number ≡ t → p v ≡ b
    by_test true q = before v l (lt_true v number q)
    by_test false q = let n : v ≡ number = (let x = lt_false v number q in omega (arith, ints, e)) in ap p n ∙ here

-- ---- a bound beside a list
module _ (d : Polynomial) (k : Kind) (a : ℤ) (ls : List NormalLiteral) where
  abbrev all : List NormalLiteral
  all = Is d k a ∷ ls

  lower_beside : greatest_lower d (lower_of k a) ls ≡ greatest_lower d None all
  lower_beside = sym (ap (λ t. greatest_lower d (cond t (lower_of k a) None) ls) (same_self d))

  upper_beside : least_upper d (upper_of k a) ls ≡ least_upper d None all
  upper_beside = sym (ap (λ t. least_upper d (cond t (upper_of k a) None) ls) (same_self d))

  pub no_lower_beside : greatest_lower d (lower_of k a) ls ≡ None → is_refuted_along d all ≡ false
  no_lower_beside e =
      let o = open_below d None all (sym lower_beside ∙ e) in
      met_open d all (o.least -ℤ pos 1) (o.meets (o.least -ℤ pos 1) (omega (arith, ints)))

  pub no_upper_beside : least_upper d (upper_of k a) ls ≡ None → is_refuted_along d all ≡ false
  no_upper_beside e =
      let o = open_above d None all (sym upper_beside ∙ e) in
      met_open d all (o.greatest +ℤ pos 1) (o.meets (o.greatest +ℤ pos 1) (omega (arith, ints)))

  -- a number meets the bound and the list exactly where it meets both together
  pub met_beside : (v : ℤ) → meets_all d v all ≡ meets k v a && meets_all d v ls
  met_beside v = ap (λ t. t && meets_all d v ls) (own_along d k a v)

  some_between : (low high : ℤ) → greatest_lower d (lower_of k a) ls ≡ Some low → least_upper d (upper_of k a) ls ≡ Some high → (v : ℤ)
      → meets_all d v all ≡ true → (low ≤ℤ v) × (v ≤ℤ high)
  some_between low high e f v h = (
    subst (NotBelow v) (sym lower_beside ∙ e) (lower_holds d v None all tt h),
    subst (NotAbove v) (sym upper_beside ∙ f) (upper_holds d v None all tt h),
  )

  -- no number between the bounds
  pub none_beside : (low high : ℤ) → greatest_lower d (lower_of k a) ls ≡ Some low → least_upper d (upper_of k a) ls ≡ Some high
      → ((v : ℤ) → low ≤ℤ v → v ≤ℤ high → meets k v a && meets_all d v ls ≡ false) → is_refuted_along d all ≡ true
  none_beside low high e f n = none_refuted d all (λ v. by_test v (meets_all d v all) refl)
    where
      by_test : (v : ℤ) (t : Bool) → meets_all d v all ≡ t → t ≡ false
      by_test v true h = let b = some_between low high e f v h in sym h ∙ met_beside v ∙ n v b.0 b.1
      by_test v false h = refl

  -- the answer of a walk between the bounds
  pub decided : (low high : ℤ) (r : Bool) → greatest_lower d (lower_of k a) ls ≡ Some low → least_upper d (upper_of k a) ls ≡ Some high
      → (IsTrue r ↔ ((v : ℤ) → low ≤ℤ v → v ≤ℤ high → meets k v a && meets_all d v ls ≡ false)) → r ≡ is_refuted_along d all
  decided low high true e f w = sym (none_beside low high e f (w.0 refl))
  decided low high false e f w = by_test (is_refuted_along d all) refl
    where
      by_test : (t : Bool) → is_refuted_along d all ≡ t → false ≡ t
      by_test true h = w.1 (λ v x y. sym (met_beside v) ∙ refuted_none d all h v)
      by_test false h = refl
