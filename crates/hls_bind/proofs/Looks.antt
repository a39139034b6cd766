-- Looking variables up by their names.
use Rattle.std.proofs.Common.{◌≡◌, ℕ, zero, suc, ◌+◌, List, [], ◌∷◌, ◌++◌, ap, sym, refl, ◌∙◌, subst, arith, Option, Some, None, Bool, true, false}
use Rattle.std.specs.Prelude.{◌&&◌, ◌||◌, cond, not, slice_get, filter}
use Rattle.std.specs.List.{list_any}
use Rattle.std.specs.Str.{bytes_eq}
use Rattle.std.proofs.lemmas.Bool.{or_right, not-true}
use Rattle.fs_model.proofs.Booleans.{and_first, and_second}
use Rattle.fs_model.proofs.Lists.{bytes_eq-true, bytes_eq-self}
use Rattle.fs_model.specs.declared.parts.VarInfo.{VarInfo}
use Rattle.fs_model.specs.Stores.{Store}
use Rattle.fs_model.specs.Runs.{Content, content, output_from, is_output}
use Rattle.fs_model.specs.SoundMachines.{names_differ}
use Rattle.fs_ast.specs.MachineOfParts.{place_or_end, names_of}

-- the first variable of a name
abbrev pub look : List VarInfo → List ℕ → Option VarInfo
look [] n = None
look (v ∷ vs) n = cond (bytes_eq v.name n) (Some v) (look vs n)

-- one answer, or else another
abbrev pub or_else : Option VarInfo → Option VarInfo → Option VarInfo
or_else None b = b
or_else (Some v) b = Some v

get_by : (v : VarInfo) (vs : List VarInfo) (n : List ℕ) (t : Bool) → bytes_eq v.name n ≡ t → slice_get vs (place_or_end (names_of vs) n) ≡ look vs n
    → slice_get (v ∷ vs) (cond t 0 (suc (place_or_end (names_of vs) n))) ≡ cond t (Some v) (look vs n)
get_by v vs n true e h = refl
get_by v vs n false e h = h

pub get_place : (vs : List VarInfo) (n : List ℕ) → slice_get vs (place_or_end (names_of vs) n) ≡ look vs n
get_place [] n = refl
get_place (v ∷ vs) n = get_by v vs n (bytes_eq v.name n) refl (get_place vs n)

name_by : (v : VarInfo) (vs : List VarInfo) (n : List ℕ) (w : VarInfo) (t : Bool) → bytes_eq v.name n ≡ t → (look vs n ≡ Some w → w.name ≡ n)
    → cond t (Some v) (look vs n) ≡ Some w → w.name ≡ n
name_by v vs n w true e next h = let same : v ≡ w = cc h in ap (λ (u : VarInfo). u.name) (sym same) ∙ bytes_eq-true v.name n e
name_by v vs n w false e next h = next h

pub look_name : (vs : List VarInfo) (n : List ℕ) (w : VarInfo) → look vs n ≡ Some w → w.name ≡ n
look_name [] n w h = cc
look_name (v ∷ vs) n w h = name_by v vs n w (bytes_eq v.name n) refl (look_name vs n w) h

joined_by : (t : Bool) (v : VarInfo) (a b o : Option VarInfo) → o ≡ or_else a b → cond t (Some v) o ≡ or_else (cond t (Some v) a) b
joined_by true v a b o h = refl
joined_by false v a b o h = h

pub look_joined : (vs ws : List VarInfo) (n : List ℕ) → look (vs ++ ws) n ≡ or_else (look vs n) (look ws n)
look_joined [] ws n = refl
look_joined (v ∷ vs) ws n = joined_by (bytes_eq v.name n) v (look vs n) (look ws n) (look (vs ++ ws) n) (look_joined vs ws n)

none_by : (v : VarInfo) (vs : List VarInfo) (n : List ℕ) (t : Bool) → (list_any (λ u. bytes_eq u.name n) vs ≡ false → look vs n ≡ None)
    → (t || list_any (λ u. bytes_eq u.name n) vs) ≡ false → cond t (Some v) (look vs n) ≡ None
none_by v vs n true next h = cc
none_by v vs n false next h = next h

pub look_none : (vs : List VarInfo) (n : List ℕ) → list_any (λ u. bytes_eq u.name n) vs ≡ false → look vs n ≡ None
look_none [] n h = refl
look_none (v ∷ vs) n h = none_by v vs n (bytes_eq v.name n) (look_none vs n) h

-- ---- names that stay
module _ (keep : List ℕ → Bool) where
  stay_by : (v : VarInfo) (vs : List VarInfo) (n : List ℕ) (t k : Bool) → bytes_eq v.name n ≡ t → keep v.name ≡ k → keep n ≡ true
      → look (filter (λ u. keep u.name) vs) n ≡ look vs n
      → look (cond k (v ∷ filter (λ u. keep u.name) vs) (filter (λ u. keep u.name) vs)) n ≡ cond t (Some v) (look vs n)
  stay_by v vs n true true e g h ih = rw e refl
  stay_by v vs n false true e g h ih = rw e ih
  stay_by v vs n true false e g h ih = let same = bytes_eq-true v.name n e in let f : keep v.name ≡ true = rw same h in absurd (cc (f, g))
  stay_by v vs n false false e g h ih = ih

  pub look_stays : (vs : List VarInfo) (n : List ℕ) → keep n ≡ true → look (filter (λ u. keep u.name) vs) n ≡ look vs n
  look_stays [] n h = refl
  look_stays (v ∷ vs) n h = stay_by v vs n (bytes_eq v.name n) (keep v.name) refl refl h (look_stays vs n h)

  go_by : (v : VarInfo) (vs : List VarInfo) (n : List ℕ) (t k : Bool) → bytes_eq v.name n ≡ t → keep v.name ≡ k → keep n ≡ false
      → look (filter (λ u. keep u.name) vs) n ≡ None
      → look (cond k (v ∷ filter (λ u. keep u.name) vs) (filter (λ u. keep u.name) vs)) n ≡ None
  go_by v vs n true true e g h ih = let same = bytes_eq-true v.name n e in let f : keep v.name ≡ false = rw same h in absurd (cc (f, g))
  go_by v vs n false true e g h ih = rw e ih
  go_by v vs n t false e g h ih = ih

  pub look_goes : (vs : List VarInfo) (n : List ℕ) → keep n ≡ false → look (filter (λ u. keep u.name) vs) n ≡ None
  look_goes [] n h = refl
  look_goes (v ∷ vs) n h = go_by v vs n (bytes_eq v.name n) (keep v.name) refl refl h (look_goes vs n h)

-- ---- names that differ
other_by : (v w : VarInfo) (vs : List VarInfo) (x : ℕ) (t : Bool) → bytes_eq v.name w.name ≡ t → not (list_any (λ m. bytes_eq m v.name) (names_of vs)) ≡ true
    → list_any (λ m. bytes_eq m w.name) (names_of vs) ≡ true → place_or_end (names_of vs) w.name ≡ x
    → cond t 0 (suc (place_or_end (names_of vs) w.name)) ≡ suc x
other_by v w vs x true e h i p =
    let same = bytes_eq-true v.name w.name e in
    let f : list_any (λ m. bytes_eq m v.name) (names_of vs) ≡ true = rw same i in
    absurd (cc (f, h))
other_by v w vs x false e h i p = ap suc p

pub listed : (vs : List VarInfo) (x : ℕ) (w : VarInfo) → slice_get vs x ≡ Some w → list_any (λ m. bytes_eq m w.name) (names_of vs) ≡ true
listed [] x w h = cc
listed (v ∷ vs) zero w h = let same : v ≡ w = cc h in let e : bytes_eq v.name w.name ≡ true = rw same (bytes_eq-self w.name) in rw e refl
listed (v ∷ vs) (suc x) w h = or_right (bytes_eq v.name w.name) (list_any (λ m. bytes_eq m w.name) (names_of vs)) (listed vs x w h)

pub place_own : (vs : List VarInfo) (x : ℕ) (w : VarInfo) → names_differ (names_of vs) ≡ true → slice_get vs x ≡ Some w → place_or_end (names_of vs) w.name ≡ x
place_own [] x w d h = cc
place_own (v ∷ vs) zero w d h = let same : v ≡ w = cc h in let e : bytes_eq v.name w.name ≡ true = rw same (bytes_eq-self w.name) in rw e refl
place_own (v ∷ vs) (suc x) w d h =
    other_by v w vs x (bytes_eq v.name w.name) refl (and_first (not (list_any (λ m. bytes_eq m v.name) (names_of vs))) (names_differ (names_of vs)) d)
    (listed vs x w h)
    (place_own vs x w (and_second (not (list_any (λ m. bytes_eq m v.name) (names_of vs))) (names_differ (names_of vs)) d) h)

-- ---- outputs by names
abbrev pub shown : Option VarInfo → ℕ → Store → Option Content
shown None x s = None
shown (Some v) x s = cond (is_output v.role) (Some (content v.sort x s)) None

names_any : (vs : List VarInfo) (n : List ℕ) → list_any (λ m. bytes_eq m n) (names_of vs) ≡ list_any (λ u. bytes_eq u.name n) vs
names_any [] n = refl
names_any (v ∷ vs) n = ap (λ b. bytes_eq v.name n || b) (names_any vs n)

gone : (vs : List VarInfo) (n : List ℕ) → list_any (λ m. bytes_eq m n) (names_of vs) ≡ false → look vs n ≡ None
gone vs n h = look_none vs n (sym (names_any vs n) ∙ h)

output_by : (v : VarInfo) (vs : List VarInfo) (j : ℕ) (s : Store) (n : List ℕ) (o t : Bool) → is_output v.role ≡ o → bytes_eq v.name n ≡ t
    → not (list_any (λ m. bytes_eq m v.name) (names_of vs)) ≡ true
    → output_from vs (j + 1) s n ≡ shown (look vs n) (j + 1 + place_or_end (names_of vs) n) s
    → cond (o && t) (Some (content v.sort j s)) (output_from vs (j + 1) s n) ≡ shown (cond t (Some v) (look vs n))
    (j + cond t 0 (suc (place_or_end (names_of vs) n))) s
output_by v vs j s n true true e g d h = let z : j + 0 ≡ j = omega arith in rw (e, z) refl
output_by v vs j s n false true e g d h =
    let same = bytes_eq-true v.name n g in
    rw e
    (h ∙ ap (λ (u : Option VarInfo). shown u (j + 1 + place_or_end (names_of vs) n) s)
    (gone vs n (not-true (list_any (λ m. bytes_eq m n) (names_of vs)) (subst (λ k. not (list_any (λ m. bytes_eq m k) (names_of vs)) ≡ true) same d))))
output_by v vs j s n true false e g d h = h ∙ ap (λ i. shown (look vs n) i s) (omega arith)
output_by v vs j s n false false e g d h = h ∙ ap (λ i. shown (look vs n) i s) (omega arith)

pub output_is : (vs : List VarInfo) (j : ℕ) (s : Store) (n : List ℕ) → names_differ (names_of vs) ≡ true
    → output_from vs j s n ≡ shown (look vs n) (j + place_or_end (names_of vs) n) s
output_is [] j s n d = refl
output_is (v ∷ vs) j s n d =
    output_by v vs j s n (is_output v.role) (bytes_eq v.name n) refl refl
    (and_first (not (list_any (λ m. bytes_eq m v.name) (names_of vs))) (names_differ (names_of vs)) d)
    (output_is vs (j + 1) s n (and_second (not (list_any (λ m. bytes_eq m v.name) (names_of vs))) (names_differ (names_of vs)) d))
