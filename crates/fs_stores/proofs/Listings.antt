-- An array's entries that are not 0, in order, are its listing.
use Rattle.std.proofs.Common.{◌≡◌, ◌≢◌, Bool, true, false, ℤ, pos, cond, List, [], ◌∷◌, ◌++◌, append_assoc, refl, sym, ◌∙◌, ap, subst}
use Rattle.std.specs.Prelude.{not, Some}
use Rattle.std.specs.List.{filter, AllByRecursion}
use Rattle.std.specs.List.Sorted.{IsStrictlySortedBy}
use Rattle.std.specs.declared.cmp.Ordering.TheVariants.{Less}
use Rattle.std.specs.Ordering.{int_cmp, int_eq}
use Rattle.std.specs.Option.{unwrap_or}
use Rattle.std.specs.Map.{keys_of, lookup}
use Rattle.std.specs.BTreeMap.{IsOrdered}
use Rattle.std.specs.Bool.{Decides}
use Rattle.std.proofs.lemmas.Bool.{false≢true}
use Rattle.std.proofs.lemmas.Bool.Decides.{Decides-int_eq}
use Rattle.fs_stores.specs.declared.values.Entries.{Entries}
use Rattle.fs_stores.specs.Values.{entry_number}
use Rattle.fs_stores.specs.EntryLists.{Entry, listed_number, is_not_zero, IsListing}

abbrev pub kept : List Entry → List Entry
kept es = filter is_not_zero es

-- two numbers are the same or not
abbrev pub IsTest : ℤ → ℤ → Bool → Type 0
IsTest a b true = a ≡ b
IsTest a b false = a ≢ b

pub int_test : (a b : ℤ) → IsTest a b (int_eq a b)
int_test a b = elim (int_eq a b) as (λ t. Decides t (a ≡ b) → IsTest a b t) [
  | true ↦ λ d. d.0 refl
  | false ↦ λ d same. false≢true (d.1 same)
] (Decides-int_eq a b)

pub kept_not_zero : (es : List Entry) → AllByRecursion (λ e. e.1 ≢ pos 0) (kept es)
kept_not_zero [] = tt
kept_not_zero (e ∷ es) =
    elim (int_eq e.1 (pos 0)) as (λ b. IsTest e.1 (pos 0) b → AllByRecursion (λ e. e.1 ≢ pos 0) (cond (not b) (e ∷ kept es) (kept es))) [
      | true ↦ λ _. kept_not_zero es
      | false ↦ λ differ. (differ, kept_not_zero es)
    ] (int_test e.1 (pos 0))

-- what holds of all keys holds of those kept
pub kept_all : (P : ℤ → Type 0) (es : List Entry) → AllByRecursion P (keys_of es) → AllByRecursion P (keys_of (kept es))
kept_all P [] all = tt
kept_all P (e ∷ es) all =
    elim (int_eq e.1 (pos 0)) as (λ b. AllByRecursion P (keys_of (cond (not b) (e ∷ kept es) (kept es)))) [
      | true ↦ kept_all P es all.1
      | false ↦ (all.0, kept_all P es all.1)
    ]

pub kept_rising : (es : List Entry) → IsStrictlySortedBy int_cmp (keys_of es) → IsStrictlySortedBy int_cmp (keys_of (kept es))
unfolding IsStrictlySortedBy
kept_rising [] s = s
kept_rising (e ∷ es) s =
    elim (int_eq e.1 (pos 0)) as (λ b. IsStrictlySortedBy int_cmp (keys_of (cond (not b) (e ∷ kept es) (kept es)))) [
      | true ↦ kept_rising es s.1
      | false ↦ (kept_all (λ y. int_cmp e.0 y ≡ Less) es s.0, kept_rising es s.1)
    ]

-- no key of a list
abbrev pub IsAway : ℤ → List Entry → Type 0
IsAway i es = AllByRecursion (λ k. int_eq i k ≡ false) (keys_of es)

pub none_away : (i : ℤ) (es : List Entry) → IsAway i es → listed_number es i ≡ pos 0
none_away i [] away = refl
none_away i (e ∷ es) away = rw away.0 (none_away i es away.1)

-- the keys behind a key that is found are others
pub away_behind : (i k : ℤ) (es : List Entry) → i ≡ k → AllByRecursion (λ y. int_cmp k y ≡ Less) (keys_of es) → IsAway i es
away_behind i k [] same all = tt
away_behind i k (e ∷ es) same all = (subst (λ z. int_eq z e.0 ≡ false) (sym same) (rw all.0 refl), away_behind i k es same all.1)

pub kept_says : (es : List Entry) (i : ℤ) → IsStrictlySortedBy int_cmp (keys_of es) → listed_number (kept es) i ≡ listed_number es i
unfolding IsStrictlySortedBy
kept_says [] i s = refl
kept_says (e ∷ es) i s =
    let ih : listed_number (kept es) i ≡ listed_number es i = kept_says es i s.1 in
    elim (int_eq e.1 (pos 0)) as (λ b. IsTest e.1 (pos 0) b → listed_number (cond (not b) (e ∷ kept es) (kept es)) i ≡ listed_number (e ∷ es) i) [
      | true ↦
          λ is_zero. elim (int_eq i e.0) as (λ t. IsTest i e.0 t → listed_number (kept es) i ≡ unwrap_or (cond t (Some e.1) (lookup (int_eq i) es)) (pos 0)) [
            | true ↦ λ here. ih ∙ none_away i es (away_behind i e.0 es here s.0) ∙ sym is_zero
            | false ↦ λ _. ih
          ] (int_test i e.0)
      | false ↦
          λ _.
          elim (int_eq i e.0) as (λ t. unwrap_or (cond t (Some e.1) (lookup (int_eq i) (kept es))) (pos 0)
          ≡ unwrap_or (cond t (Some e.1) (lookup (int_eq i) es)) (pos 0)) [ true ↦ refl | false ↦ ih ]
    ] (int_test e.1 (pos 0))

pub kept_is_listing : (e : Entries) → IsOrdered int_cmp e.map → IsListing (entry_number e) (kept e.map.entries)
kept_is_listing e s = record {
  rising = kept_rising e.map.entries s;
  not_zero = kept_not_zero e.map.entries;
  exact = λ i. kept_says e.map.entries i s;
}

-- one more entry is listed
pub kept_more : (e : Entry) (rest whole listed more : List Entry) → is_not_zero e ≡ true → whole ≡ e ∷ rest → more ≡ listed ++ e ∷ []
    → more ++ kept rest ≡ listed ++ kept whole
kept_more e rest whole listed more differ is pushed =
    let kept_first : kept (e ∷ rest) ≡ e ∷ kept rest = ap (λ b. cond b (e ∷ kept rest) (kept rest)) differ in
    rw (pushed, is, kept_first, append_assoc) refl
