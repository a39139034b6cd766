-- The order of items, and sets of them.
use Rattle.std.proofs.Common.{◌≡◌, ℕ, suc, ◌+◌, ◌<◌, ◌⊎◌, inl, inr, refl, sym, ◌∙◌, ap, subst, arith, Bool, true, false, cond}
use Rattle.std.specs.Prelude.{◌≢◌}
use Rattle.std.proofs.lemmas.Bool.Decides.{nat_tests}
use Rattle.std.specs.declared.cmp.Ordering.{Ordering}
use Rattle.std.specs.declared.cmp.Ordering.TheVariants.{Less, Equal, Greater}
use Rattle.std.specs.Ordering.{nat_cmp, ordering_then, is_gt, is_eq}
use Rattle.std.proofs.lemmas.Bool.{cases_lt, false_from_ne_true}
use Rattle.fs_model.proofs.Orderings.{is_eq-true}
use Rattle.search_waiting.specs.declared.item.Item.{Item}
use Rattle.search_waiting.specs.ItemOrder.{item, item_cmp, IsLeastWaiting, Adds, Drops, AddsMoves}

cmp_greater : (x y : ℕ) → y < x → nat_cmp x y ≡ Greater
cmp_greater x y h = grind (arith, nat_tests)

cmp_equal : (x y : ℕ) → nat_cmp x y ≡ Equal → x ≡ y
cmp_equal x y h = grind (arith, nat_tests)

cmp_same : (x : ℕ) → nat_cmp x x ≡ Equal
cmp_same x = grind (arith, nat_tests)

then_equal : (a b : Ordering) → ordering_then a b ≡ Equal → (a ≡ Equal) × (b ≡ Equal)
then_equal Less b h = cc
then_equal Equal b h = (refl, h)
then_equal Greater b h = cc

-- items that compare as equal are one item
same_item : (x y : Item) → item_cmp x y ≡ Equal → x ≡ y
same_item x y h =
    let e = then_equal (nat_cmp x.node y.node) (nat_cmp x.place y.place) h in
    let n = cmp_equal x.node y.node e.0 in
    let p = cmp_equal x.place y.place e.1 in
    λ k. record { node = n k; place = p k }

itself : (x : Item) → item_cmp x x ≡ Equal
itself x = ap (λ o. ordering_then o (nat_cmp x.place x.place)) (cmp_same x.node) ∙ cmp_same x.place

-- a lower bound is the least
pub least_of : (f : Item → Bool) (x : Item) → ((y : Item) → f y ≡ true → is_gt (item_cmp x y) ≡ false) → IsLeastWaiting f x.node x.place
least_of f x h = record {
  of_earlier = λ j q lt. false_from_ne_true (f (item j q))
      (λ t. let g : item_cmp x (item j q) ≡ Greater = ap (λ o. ordering_then o (nat_cmp x.place q)) (cmp_greater x.node j lt) in let n = h (item j q) t in
      (cc (ap is_gt g, n)));
  of_same = λ q lt. false_from_ne_true (f (item x.node q))
      (λ t. let g : item_cmp x (item x.node q) ≡ Greater = ap (λ o. ordering_then o (nat_cmp x.place q)) (cmp_same x.node) ∙ cmp_greater x.place q lt in
      let n = h (item x.node q) t in (cc (ap is_gt g, n)));
}

cond_true : (b c : Bool) → c ≡ true → cond b true c ≡ true
cond_true true c h = refl
cond_true false c h = h

pub adds_by : (f g : Item → Bool) (x : Item) → ((y : Item) → g y ≡ cond (is_eq (item_cmp x y)) true (f y)) → Adds f g x
adds_by f g x h = record {
  stay = λ y t. h y ∙ cond_true (is_eq (item_cmp x y)) (f y) t;
  fresh = h x ∙ ap (λ o. cond (is_eq o) true (f x)) (itself x);
  only = λ y t. only_by x y (f y) (is_eq (item_cmp x y)) refl (sym (h y) ∙ t);
} where
  only_by : (x y : Item) (c b : Bool) → is_eq (item_cmp x y) ≡ b → cond b true c ≡ true → (c ≡ true) ⊎ (x ≡ y)
  only_by x y c true e t = inr (same_item x y (is_eq-true (item_cmp x y) e))
  only_by x y c false e t = inl t

pub drops_by : (f g : Item → Bool) (x : Item) → ((y : Item) → g y ≡ cond (is_eq (item_cmp x y)) false (f y)) → Drops f g x
drops_by f g x h = record {
  stay = λ y t d. stay_by y (is_eq (item_cmp x y)) refl d (h y) t;
  gone = h x ∙ ap (λ o. cond (is_eq o) false (f x)) (itself x);
  only = λ y t. only_by (f y) (is_eq (item_cmp x y)) (sym (h y) ∙ t);
} where
  stay_by : (y : Item) (b : Bool) → is_eq (item_cmp x y) ≡ b → x ≢ y → g y ≡ cond b false (f y) → f y ≡ true → g y ≡ true
  stay_by y true e d k t = absurd (d (same_item x y (is_eq-true (item_cmp x y) e)))
  stay_by y false e d k t = k ∙ t

  only_by : (c b : Bool) → cond b false c ≡ true → c ≡ true
  only_by c true t = cc
  only_by c false t = t

pub adds_none : (f : Item → Bool) (i : ℕ) → AddsMoves f f i 0
adds_none f i = record { stay = λ y t. t; fresh = λ p lt. absurd (omega arith); only = λ y t. inl t }

pub adds_more : (f g h : Item → Bool) (i n : ℕ) (x : Item) → x ≡ item i (n + 1) → AddsMoves f g i n → Adds g h x → AddsMoves f h i (n + 1)
adds_more f g h i n x e a b = record {
  stay = λ y t. b.stay y (a.stay y t);
  fresh = λ p lt. elim (cases_lt p n) [
    | inl earlier ↦ b.stay (item i (suc p)) (a.fresh p earlier)
    | inr later ↦ (let e' : x ≡ item i (suc p) = e ∙ ap (item i) (let z : n + 1 ≡ suc p = omega arith in z) in subst (λ y. h y ≡ true) e' b.fresh)
  ];
  only = λ y t. elim (b.only y t) [
    | inl s ↦ a.only y s
    | inr s ↦ inr (sym (ap (λ (z : Item). z.node) (sym e ∙ s)), (λ z. (let q : y.place ≡ n + 1 = ap (λ (z : Item). z.place) (sym s ∙ e) in omega arith)))
  ];
}
