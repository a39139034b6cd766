-- Where no local with the same register is written or live, none is lost.
use Rattle.std.proofs.Common.{◌≡◌, ℕ, ◌+◌, ◌<◌, List, [], ◌∷◌, length, get_or, drop, map, ap, sym, refl, ◌∙◌, ◌^◌, ◌≤◌, inl, inr, subst, arith, Bool, true}
use Rattle.std.proofs.Common.{false, cond, Option, Some, None}
use Rattle.std.specs.Prelude.{◌==◌, ◌&&◌, ◌||◌, not, nat_lt}
use Rattle.std.specs.Str.{bytes_eq}
use Rattle.std.specs.Option.{option_or}
use Rattle.std.proofs.lemmas.Bool.{or_cases, and_from, or_right, lt-ltb}
use Rattle.std.proofs.lemmas.Bool.Decides.{nat_tests}
use Rattle.std.proofs.lemmas.List.{get_or-map, length-map}
use Rattle.fs_model.proofs.Booleans.{and_first, and_second}
use Rattle.fs_model.proofs.Numbers.{eqb_self}
use Rattle.fs_model.proofs.Lists.{drop_next}
use Rattle.fs_variable_sets.specs.declared.VariableSet.{VariableSet}
use Rattle.fs_variable_sets.specs.Sets.{has_variable, also, sets_meet}
use Rattle.fs_variable_sets.proofs.Members.{met_by}
use Rattle.fs_variable_sets.proofs.Bits.{past_bits}
use Rattle.hls_bind.specs.declared.binding.BoundLocal.{BoundLocal}
use Rattle.hls_bind.specs.BindingEntries.{binding_entry}
use Rattle.hls_bind.specs.ConflictSearch.{LostPair, is_lost, lost_with, lost_by}
use Rattle.hls_bind.specs.Shared.{shares, others_from, others_in}

-- ---- what is gathered stays
stays_by : (y x : ℕ) (members : ℕ → Bool) (t : Bool) → members x ≡ true → cond t (also y members) members x ≡ true
stays_by y x members true h = or_right (y == x && nat_lt y 128) (members x) h
stays_by y x members false h = h

stays : (one : ℕ × List ℕ) (es : List (ℕ × List ℕ)) (members : ℕ → Bool) (x : ℕ) → members x ≡ true → others_from one es members x ≡ true
stays one [] members x h = h
stays one (e ∷ es) members x h = stays one es (cond (shares one e) (also e.0 members) members) x (stays_by e.0 x members (shares one e) h)

also_is : (y : ℕ) (members : ℕ → Bool) → y < 128 → also y members y ≡ true
also_is y members low = rw (eqb_self y, lt-ltb y 128 low) refl

gathered : (one e : ℕ × List ℕ) (es : List (ℕ × List ℕ)) (members : ℕ → Bool) → shares one e ≡ true → e.0 < 128 → others_from one (e ∷ es) members e.0 ≡ true
gathered one e es members h low = stays one es (cond (shares one e) (also e.0 members) members) e.0
    (ap (λ t. cond t (also e.0 members) members e.0) h ∙ also_is e.0 members low)

-- ---- what is lost shares a register, and is written or live
module _ (w l : ℕ → Bool) (low : (x : ℕ) → (w x || l x) ≡ true → x < 128) where
  meeting : (one e : ℕ × List ℕ) (es : List (ℕ × List ℕ)) (members : ℕ → Bool) → is_lost w l one e ≡ true
      → sets_meet (others_from one (e ∷ es) members) (λ x. w x || l x) ≡ true
  meeting one e es members h =
      let other : not (e.0 == one.0) ≡ true = and_first (not (e.0 == one.0)) ((w e.0 || l e.0) && bytes_eq e.1 one.1) h in
      let rest : ((w e.0 || l e.0) && bytes_eq e.1 one.1) ≡ true = and_second (not (e.0 == one.0)) ((w e.0 || l e.0) && bytes_eq e.1 one.1) h in
      let there : (w e.0 || l e.0) ≡ true = and_first (w e.0 || l e.0) (bytes_eq e.1 one.1) rest in
      let same : bytes_eq e.1 one.1 ≡ true = and_second (w e.0 || l e.0) (bytes_eq e.1 one.1) rest in
      let shared : shares one e ≡ true = and_from (not (e.0 == one.0)) (bytes_eq e.1 one.1) other same in
      let few : e.0 < 128 = low e.0 there in
      met_by (others_from one (e ∷ es) members) (λ x. w x || l x) e.0 few
      (and_from (others_from one (e ∷ es) members e.0) (w e.0 || l e.0) (gathered one e es members shared few) there)

  none_by : (one e : ℕ × List ℕ) (es : List (ℕ × List ℕ)) (members : ℕ → Bool) (t : Bool) → is_lost w l one e ≡ t
      → sets_meet (others_from one (e ∷ es) members) (λ x. w x || l x) ≡ false → lost_with w l one es ≡ None
      → cond t (Some (record { written = one.0; other = e.0; twice = w e.0 })) (lost_with w l one es) ≡ None
  none_by one e es members true h apart next = let m = meeting one e es members h in absurd (cc (m, apart))
  none_by one e es members false h apart next = next

  none_from : (one : ℕ × List ℕ) (es : List (ℕ × List ℕ)) (members : ℕ → Bool) → sets_meet (others_from one es members) (λ x. w x || l x) ≡ false
      → lost_with w l one es ≡ None
  none_from one [] members apart = refl
  none_from one (e ∷ es) members apart = none_by one e es members (is_lost w l one e) refl apart
      (none_from one es (cond (shares one e) (also e.0 members) members) apart)

  pub none_lost : (b : List (ℕ × List ℕ)) (one : ℕ × List ℕ) (others both : ℕ → Bool) → others ≡ others_in b one → both ≡ (λ x. w x || l x)
      → sets_meet others both ≡ false → lost_with w l one b ≡ None
  none_lost b one others both e f apart = none_from one b (λ x. false) (ap (λ s. sets_meet s (λ x. w x || l x)) (sym e) ∙ ap (sets_meet others) (sym f) ∙ apart)

-- a member of either set is numbered below 128
in_set : (set : VariableSet) (x : ℕ) (t : Bool) → nat_lt x 128 ≡ t → set.bits < 2 ^ 128 → has_variable set x ≡ true → x < 128
in_set set x true e f h = grind (arith, nat_tests)
in_set set x false e f h =
    let high : 128 ≤ x = grind (arith, nat_tests) in
    let none = past_bits set x f high in
    absurd (cc (h, none))

pub is_below : (a b : VariableSet) → a.bits < 2 ^ 128 → b.bits < 2 ^ 128 → (x : ℕ) → (has_variable a x || has_variable b x) ≡ true → x < 128
is_below a b f g x h = elim (or_cases (has_variable a x) (has_variable b x) h) [
  | inl e ↦ in_set a x (nat_lt x 128) refl f e
  | inr e ↦ in_set b x (nat_lt x 128) refl g e
]

-- ---- one turn of the loop over entries
pub shared_at : (f : ℕ × List ℕ → ℕ → Bool) (es : List BoundLocal) (os : List VariableSet) (k : ℕ) (one : BoundLocal) (none : VariableSet)
    → map has_variable os ≡ map f (map binding_entry es) → k < length es → k < length os → one ≡ get_or es k one
    → has_variable (get_or os k none) ≡ f (binding_entry one)
shared_at f es os k one none e h i at =
    let low : k < length (map binding_entry es) = subst (λ n. k < n) (sym (length-map es binding_entry)) h in
    sym (get_or-map has_variable os k none (has_variable none) i)
    ∙ ap (λ l. get_or l k (has_variable none)) e
    ∙ get_or-map f (map binding_entry es) k (binding_entry one) (has_variable none) low
    ∙ ap f (get_or-map binding_entry es k one (binding_entry one) h)
    ∙ ap (λ x. f (binding_entry x)) (sym at)

pub others_low : (f : ℕ × List ℕ → ℕ → Bool) (es : List BoundLocal) (os : List VariableSet) (k : ℕ) → map has_variable os ≡ map f (map binding_entry es)
    → k < length es → k < length os
others_low f es os k e h =
    let same : length os ≡ length es = sym (length-map os has_variable) ∙ ap length e ∙ length-map (map binding_entry es) f ∙ length-map es binding_entry in
    subst (λ n. k < n) (sym same) h

module _ (w l : ℕ → Bool) (all : List (ℕ × List ℕ)) (es : List BoundLocal) (k : ℕ) (one : BoundLocal) (h : k < length es) (at : one ≡ get_or es k one) where
  turn : lost_by w l all (map binding_entry (drop k es)) ≡ option_or (cond (w one.local.0) (lost_with w l (binding_entry one) all) None)
      (lost_by w l all (map binding_entry (drop (k + 1) es)))
  turn = ap (λ (ds : List BoundLocal). lost_by w l all (map binding_entry ds)) (drop_next es k one h at)

  pub none_here : (o : Option LostPair) → cond (w one.local.0) (lost_with w l (binding_entry one) all) None ≡ None
      → lost_by w l all (map binding_entry (drop k es)) ≡ o → lost_by w l all (map binding_entry (drop (k + 1) es)) ≡ o
  none_here o e g = sym (turn ∙ ap (λ q. option_or q (lost_by w l all (map binding_entry (drop (k + 1) es)))) e) ∙ g

  pub some_here : (o : Option LostPair) (p : LostPair) → cond (w one.local.0) (lost_with w l (binding_entry one) all) None ≡ Some p
      → lost_by w l all (map binding_entry (drop k es)) ≡ o → Some p ≡ o
  some_here o p e g = sym (turn ∙ ap (λ q. option_or q (lost_by w l all (map binding_entry (drop (k + 1) es)))) e) ∙ g
