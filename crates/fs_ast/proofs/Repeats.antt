-- Names that stand once.
use Rattle.std.proofs.Common.{◌≡◌, ℕ, List, [], ◌∷◌, map, ap, refl, ◌∙◌, Bool, true, false, cond}
use Rattle.std.specs.Prelude.{◌||◌, not, filter}
use Rattle.std.specs.List.{list_any}
use Rattle.std.specs.Str.{bytes_eq}
use Rattle.std.proofs.lemmas.Slice.Eq.{bytes_eq-Decides}
use Rattle.std.proofs.lemmas.Bool.{or_from, and_from, or_right, false_from_ne_true, not-true}
use Rattle.fs_model.proofs.Booleans.{and_first, and_second, neither_first, neither_second}
use Rattle.fs_model.specs.SoundMachines.{names_differ}
use Rattle.fs_rules.specs.Rules.{repeated_lines}
use Rattle.fs_rules.specs.Places.{declared_name_list}

abbrev pub is_listed : List ℕ → List (List ℕ) → Bool
is_listed n ns = list_any (λ m. bytes_eq m n) ns

-- ---- no name again
unseen : (b : Bool) (line : ℕ) (rest : List ℕ) → b ≡ false → rest ≡ [] → cond b (line ∷ rest) rest ≡ []
unseen true line rest h i = absurd (cc h)
unseen false line rest h i = i

pub never_again : (before : List (List ℕ)) (ns : List (ℕ × List ℕ)) → names_differ (declared_name_list ns) ≡ true
    → ((x : List ℕ) → is_listed x (declared_name_list ns) ≡ true → is_listed x before ≡ false) → repeated_lines before ns ≡ []
never_again before [] h i = refl
never_again before (n ∷ ns) h i =
    let fresh = not-true (is_listed n.1 (declared_name_list ns))
    (and_first (not (is_listed n.1 (declared_name_list ns))) (names_differ (declared_name_list ns)) h) in
    unseen (list_any (λ m. bytes_eq m n.1) before) n.0 (repeated_lines (n.1 ∷ before) ns)
    (i n.1 (ap (λ b. b || is_listed n.1 (declared_name_list ns)) ((bytes_eq-Decides n.1 n.1).1 refl)))
    (never_again (n.1 ∷ before) ns (and_second (not (is_listed n.1 (declared_name_list ns))) (names_differ (declared_name_list ns)) h)
    (λ x e. or_from (bytes_eq n.1 x) (is_listed x before)
    (false_from_ne_true (bytes_eq n.1 x)
    (λ s. let same : n.1 ≡ x = (bytes_eq-Decides n.1 x).0 s in let f : is_listed n.1 (declared_name_list ns) ≡ true =
    ap (λ k. is_listed k (declared_name_list ns)) same ∙ e in cc (fresh, f)))
    (i x (or_right (bytes_eq n.1 x) (is_listed x (declared_name_list ns)) e))))

-- ---- names of some of a list
module _ {A : Type 0} (name : A → List ℕ) (keep : A → Bool) where
  absent_by : (a : A) (xs : List A) (x : List ℕ) (t : Bool) → bytes_eq (name a) x ≡ false → is_listed x (map name xs) ≡ false
      → is_listed x (map name (cond t (a ∷ xs) xs)) ≡ false
  absent_by a xs x true h i = or_from (bytes_eq (name a) x) (is_listed x (map name xs)) h i
  absent_by a xs x false h i = i

  pub kept_absent : (xs : List A) (x : List ℕ) → is_listed x (map name xs) ≡ false → is_listed x (map name (filter keep xs)) ≡ false
  kept_absent [] x h = refl
  kept_absent (a ∷ xs) x h =
      absent_by a (filter keep xs) x (keep a) (neither_first (bytes_eq (name a) x) (is_listed x (map name xs)) h)
      (kept_absent xs x (neither_second (bytes_eq (name a) x) (is_listed x (map name xs)) h))

  differ_by : (a : A) (xs : List A) (t : Bool) → is_listed (name a) (map name xs) ≡ false → names_differ (map name xs) ≡ true
      → names_differ (map name (cond t (a ∷ xs) xs)) ≡ true
  differ_by a xs true h i = and_from (not (is_listed (name a) (map name xs))) (names_differ (map name xs)) (ap not h) i
  differ_by a xs false h i = i

  pub kept_differ : (xs : List A) → names_differ (map name xs) ≡ true → names_differ (map name (filter keep xs)) ≡ true
  kept_differ [] h = refl
  kept_differ (a ∷ xs) h =
      differ_by a (filter keep xs) (keep a)
      (kept_absent xs (name a)
      (not-true (is_listed (name a) (map name xs)) (and_first (not (is_listed (name a) (map name xs))) (names_differ (map name xs)) h)))
      (kept_differ xs (and_second (not (is_listed (name a) (map name xs))) (names_differ (map name xs)) h))
