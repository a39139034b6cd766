-- What a table of bounds leaves of a direction.
use Rattle.std.proofs.Common.{◌≡◌, ℤ, pos, ◌+ℤ◌, ◌-ℤ◌, ◌≤ℤ◌, ◌<ℤ◌, Bool, true, false, ◌&&◌, ◌||◌, cond, Option, None, Some, List, [], ◌∷◌, ℕ, ◌+◌, ◌<◌, ◌≤◌}
use Rattle.std.proofs.Common.{length, get_or, drop, map, arith, refl, ap, sym, ◌∙◌}
use Rattle.std.specs.Prelude.{not, ◌↔◌, IsTrue, int_lt}
use Rattle.std.proofs.lemmas.List.{at_drop_more, drop_all}
use Rattle.nf_rel.specs.View.{literal_in}
use Rattle.nf_rel.specs.declared.literals.NLit.{NLit}
use Rattle.std.specs.declared.cmp.Ordering.TheVariants.{Less, Equal, Greater}
use Rattle.std.specs.Ordering.{int_cmp, ordering_then, is_eq}
use Rattle.std.specs.Borrow.{Bor}
use Rattle.std.specs.List.{list_any}
use Rattle.std.proofs.lemmas.Int.{ints}
use Rattle.std.proofs.lemmas.Bool.{or_from}
use Rattle.nf_terms.proofs.Booleans.{and_true}
use Rattle.nf_terms.specs.NormalTerms.{Polynomial}
use Rattle.nf_terms.specs.Order.{cmp_polynomial}
use Rattle.nf_rel.specs.Literals.{NormalLiteral, meets_along, meets_all, is_refuted_along}
use Rattle.nf_rel.proofs.Floors.{lt_true, lt_false, is_lt, not_lt}
use Rattle.nf_rel.proofs.Exact.{refuted_none, none_refuted}
use Rattle.nf_refutation.specs.BoundTables.{bound_in, has_number, is_below, is_above, leaves_number, IsBoundTableOf, AddsLiteral}
use Rattle.nf_refutation.specs.declared.bound_table.BoundTable.{BoundTable}

-- ---- a list
pub literals_left_begin : (list : List NLit) (i : ℕ) (x : NLit) → i < length list → x ≡ get_or list i x
    → map literal_in (drop i list) ≡ literal_in x ∷ map literal_in (drop (i + 1) list)
literals_left_begin list i x h e = at_drop_more (map literal_in) list i x h ∙ ap (λ y. literal_in y ∷ map literal_in (drop (i + 1) list)) (sym e)

pub no_more : (list : List NLit) (i : ℕ) → length list ≤ i → map literal_in (drop i list) ≡ []
no_more list i h = ap (map literal_in) (drop_all i list h)

-- a test of each member, along a list
module _ (p : NormalLiteral → Bool) (rest whole all : List NormalLiteral) where
  pub any_here : (l : NormalLiteral) → whole ≡ l ∷ rest → true ≡ p l → list_any p whole ≡ list_any p all → true ≡ list_any p all
  any_here l e h i = ap (λ t. t || list_any p rest) h ∙ sym (ap (list_any p) e) ∙ i

  pub any_on : (l : NormalLiteral) → whole ≡ l ∷ rest → false ≡ p l → list_any p whole ≡ list_any p all → list_any p rest ≡ list_any p all
  any_on l e h i = ap (λ t. t || list_any p rest) h ∙ sym (ap (list_any p) e) ∙ i

  pub any_none : whole ≡ [] → list_any p whole ≡ list_any p all → false ≡ list_any p all
  any_none e i = sym (ap (list_any p) e) ∙ i

before_all : (m o r : Bool) → (m && o) && r ≡ o && (m && r)
before_all true o r = refl
before_all false true r = refl
before_all false false r = refl

-- what a table leaves and what the rest of a list meets, of a list as a whole
abbrev pub Gathers : BoundTable → List NormalLiteral → List NormalLiteral → Type 0
Gathers t rest all = (d : Polynomial) (v : ℤ) → leaves_number t d v && meets_all d v rest ≡ meets_all d v all

pub gathers_none : (t : BoundTable) (all : List NormalLiteral) → ((d : Polynomial) (v : ℤ) → leaves_number t d v ≡ true) → Gathers t all all
gathers_none t all e = λ d v. ap (λ b. b && meets_all d v all) (e d v)

pub gathers_more : (old new : BoundTable) (l : NormalLiteral) (rest whole all : List NormalLiteral) → AddsLiteral old new l → whole ≡ l ∷ rest
    → Gathers old whole all → Gathers new rest all
gathers_more old new l rest whole all a e g = λ d v.
    ap (λ x. x && meets_all d v rest) (a d v)
    ∙ before_all (meets_along d v l) (leaves_number old d v) (meets_all d v rest)
    ∙ sym (ap (λ ls. leaves_number old d v && meets_all d v ls) e)
    ∙ g d v

pub gathers_all : (t : BoundTable) (rest all : List NormalLiteral) → rest ≡ [] → Gathers t rest all → IsBoundTableOf t all
gathers_all t rest all e g = λ d v. sym (and_true (leaves_number t d v)) ∙ sym (ap (λ ls. leaves_number t d v && meets_all d v ls) e) ∙ g d v

-- ---- what is left
abbrev is_key : Polynomial → ℤ → ℤ × Bor Polynomial → Bool
is_key d v k = is_eq (ordering_then (int_cmp v k.0) (cmp_polynomial d k.1.now))

less_key : (d : Polynomial) (v : ℤ) (k : ℤ × Bor Polynomial) → v <ℤ k.0 → is_key d v k ≡ false
less_key d v k h = ap (λ t. is_eq (ordering_then (cond t Less (cond (int_lt k.0 v) Greater Equal)) (cmp_polynomial d k.1.now))) (is_lt v k.0 h)

more_key : (d : Polynomial) (v : ℤ) (k : ℤ × Bor Polynomial) → k.0 <ℤ v → is_key d v k ≡ false
more_key d v k h =
    (λ i. is_eq (ordering_then (cond (not_lt v k.0 (omega (arith, ints)) i) Less (cond (is_lt k.0 v h i) Greater Equal)) (cmp_polynomial d k.1.now)))

-- a number below which, or above which, none of a direction is left out
pub record FreeBelow (d : Polynomial) (ks : List (ℤ × Bor Polynomial)) : Type 0 where
  pub least : ℤ
  pub free : (v : ℤ) → v <ℤ least → list_any (is_key d v) ks ≡ false

pub record FreeAbove (d : Polynomial) (ks : List (ℤ × Bor Polynomial)) : Type 0 where
  pub greatest : ℤ
  pub free : (v : ℤ) → greatest <ℤ v → list_any (is_key d v) ks ≡ false

free_below : (d : Polynomial) (ks : List (ℤ × Bor Polynomial)) → FreeBelow d ks
free_below d [] = record { least = pos 0; free = λ v h. refl }
free_below d (k ∷ ks) = let o = free_below d ks in by_test o (int_lt k.0 o.least) refl
  where
    by_test : (o : FreeBelow d ks) (t : Bool) → int_lt k.0 o.least ≡ t → FreeBelow d (k ∷ ks)
    by_test o true q = record {
      least = k.0;
      free = λ v h. or_from (is_key d v k) (list_any (is_key d v) ks) (less_key d v k h) (o.free v (let x = lt_true k.0 o.least q in omega (arith, ints)));
    }
    by_test o false q = record {
      least = o.least;
      free = λ v h. or_from (is_key d v k) (list_any (is_key d v) ks) (less_key d v k (let x = lt_false k.0 o.least q in omega (arith, ints))) (o.free v h);
    }

free_above : (d : Polynomial) (ks : List (ℤ × Bor Polynomial)) → FreeAbove d ks
free_above d [] = record { greatest = pos 0; free = λ v h. refl }
free_above d (k ∷ ks) = let o = free_above d ks in by_test o (int_lt o.greatest k.0) refl
  where
    by_test : (o : FreeAbove d ks) (t : Bool) → int_lt o.greatest k.0 ≡ t → FreeAbove d (k ∷ ks)
    by_test o true q = record {
      greatest = k.0;
      free = λ v h. or_from (is_key d v k) (list_any (is_key d v) ks) (more_key d v k h) (o.free v (let x = lt_true o.greatest k.0 q in omega (arith, ints)));
    }
    by_test o false q = record {
      greatest = o.greatest;
      free = λ v h. or_from (is_key d v k) (list_any (is_key d v) ks) (more_key d v k (let x = lt_false o.greatest k.0 q in omega (arith, ints))) (o.free v h);
    }

three_false : (x y z : Bool) → (x ≡ false → y ≡ false → z ≡ true) → not x && not y && not z ≡ false
three_false true y z f = refl
three_false false true z f = refl
three_false false false z f = ap not (f refl refl)

third_true : (x y z : Bool) → x ≡ false → y ≡ false → not x && not y && not z ≡ false → z ≡ true
third_true true y z e f h = absurd (cc e)
third_true false true z e f h = absurd (cc f)
third_true false false true e f h = refl
third_true false false false e f h = sym h

module _ (t : BoundTable) (d : Polynomial) where
  left : (v : ℤ) → is_below v (bound_in t.lower d) ≡ false → is_above v (bound_in t.upper d) ≡ false → has_number t.left_out d v ≡ false
      → leaves_number t d v ≡ true
  left v x y z = λ i. not (x i) && not (y i) && not (z i)

  contradicts : (v : ℤ) → leaves_number t d v ≡ true → ((v : ℤ) → leaves_number t d v ≡ false) → ⊥
  contradicts v e n = let z : true ≡ false = sym e ∙ n v in cc z

  -- where a side is open, some number is left
  pub open_below : bound_in t.lower d ≡ None → ((v : ℤ) → leaves_number t d v ≡ false) → ⊥
  open_below e n = by_upper (bound_in t.upper d) refl (free_below d t.left_out.keys)
    where
      by_order : (b : ℤ) → bound_in t.upper d ≡ Some b → (f : FreeBelow d t.left_out.keys) (o : Bool) → int_lt b f.least ≡ o → ⊥
      by_order b u f true q =
          contradicts b (left b (ap (is_below b) e) (ap (is_above b) u ∙ not_lt b b (omega (arith, ints))) (f.free b (lt_true b f.least q))) n
      by_order b u f false q =
          let v = f.least -ℤ pos 1 in
          contradicts v
          (left v (ap (is_below v) e) (ap (is_above v) u ∙ not_lt b v (let x = lt_false b f.least q in omega (arith, ints))) (f.free v (omega (arith, ints)))) n

      by_upper : (u : Option ℤ) → bound_in t.upper d ≡ u → FreeBelow d t.left_out.keys → ⊥
      by_upper None u f = let v = f.least -ℤ pos 1 in contradicts v (left v (ap (is_below v) e) (ap (is_above v) u) (f.free v (omega (arith, ints)))) n
      by_upper (Some b) u f = by_order b u f (int_lt b f.least) refl

  pub open_above : bound_in t.upper d ≡ None → ((v : ℤ) → leaves_number t d v ≡ false) → ⊥
  open_above e n = by_lower (bound_in t.lower d) refl (free_above d t.left_out.keys)
    where
      by_order : (b : ℤ) → bound_in t.lower d ≡ Some b → (f : FreeAbove d t.left_out.keys) (o : Bool) → int_lt f.greatest b ≡ o → ⊥
      by_order b l f true q =
          contradicts b (left b (ap (is_below b) l ∙ not_lt b b (omega (arith, ints))) (ap (is_above b) e) (f.free b (lt_true f.greatest b q))) n
      by_order b l f false q =
          let v = f.greatest +ℤ pos 1 in
          contradicts v
          (left v (ap (is_below v) l ∙ not_lt v b (let x = lt_false f.greatest b q in omega (arith, ints))) (ap (is_above v) e)
          (f.free v (omega (arith, ints)))) n

      by_lower : (l : Option ℤ) → bound_in t.lower d ≡ l → FreeAbove d t.left_out.keys → ⊥
      by_lower None l f = let v = f.greatest +ℤ pos 1 in contradicts v (left v (ap (is_below v) l) (ap (is_above v) e) (f.free v (omega (arith, ints)))) n
      by_lower (Some b) l f = by_order b l f (int_lt f.greatest b) refl

  -- between two bounds none is left exactly where each is left out
  pub between : (low high : ℤ) (r : Bool) → bound_in t.lower d ≡ Some low → bound_in t.upper d ≡ Some high
      → (IsTrue r ↔ ((v : ℤ) → low ≤ℤ v → v ≤ℤ high → has_number t.left_out d v ≡ true)) → IsTrue r ↔ ((v : ℤ) → leaves_number t d v ≡ false)
  between low high r e f w = (
    λ h v. is_left v ∙ three_false (int_lt v low) (int_lt high v) (has_number t.left_out d v) (λ x y. w.0 h v (lt_false v low x) (lt_false high v y)),
    λ n. w.1 (λ v x y. third_true (int_lt v low) (int_lt high v) (has_number t.left_out d v) (not_lt v low x) (not_lt high v y) (sym (is_left v) ∙ n v)),
  )
    where
      is_left : (v : ℤ) → leaves_number t d v ≡ not (int_lt v low) && not (int_lt high v) && not (has_number t.left_out d v)
      is_left v = λ i. not (is_below v (e i)) && not (is_above v (f i)) && not (has_number t.left_out d v)

  -- a direction is refuted exactly where none is left
  pub refuted_so : (ls : List NormalLiteral) (r : Bool) → IsBoundTableOf t ls → (IsTrue r ↔ ((v : ℤ) → leaves_number t d v ≡ false)) → r ≡ is_refuted_along d ls
  refuted_so ls true a w = sym (none_refuted d ls (λ v. sym (a d v) ∙ w.0 refl v))
  refuted_so ls false a w = by_test (is_refuted_along d ls) refl
    where
      by_test : (o : Bool) → is_refuted_along d ls ≡ o → false ≡ o
      by_test true h = w.1 (λ v. a d v ∙ refuted_none d ls h v)
      by_test false h = refl
