-- A loop that writes the texts of a list one behind another.
use Rattle.std.proofs.Common.{◌≡◌, ℕ, ◌+◌, ◌<◌, ◌≤◌, List, [], ◌∷◌, ◌++◌, map, take, drop, length, get_or, Bool, ◌&&◌, IsTrue, sym, ap, ap₂, ◌∙◌}
use Rattle.std.proofs.Common.{append_assoc, append-nil, take_all}
use Rattle.std.proofs.lemmas.List.{at_drop_all, take_more, map-append}
use Rattle.std.proofs.lemmas.List.Folds.{list_all-append}
use Rattle.std.specs.List.{list_all}
use Rattle.fs_model.proofs.Booleans.{and_true}
use Rattle.fs_model.proofs.Lists.{drop_next}

-- one text more, by what the texts of a list are
pub text_more : {A : Type 0} (texts : List A → List ℕ) (text : A → List ℕ) → ((x : A) (xs : List A) → texts (x ∷ xs) ≡ text x ++ texts xs)
    → (old new whole : List ℕ) (xs : List A) (i : ℕ) (x : A) → i < length xs → x ≡ get_or xs i x → new ≡ old ++ text x
    → old ++ texts (drop i xs) ≡ whole → new ++ texts (drop (i + 1) xs) ≡ whole
text_more texts text law old new whole xs i x h e n is =
    let rest = drop (i + 1) xs in
    ap (λ l. l ++ texts rest) n ∙ append_assoc old (text x) (texts rest) ∙ ap (λ l. old ++ l) (sym (law x rest))
    ∙ ap (λ ys. old ++ texts ys) (sym (drop_next xs i x h e)) ∙ is

-- behind the last place nothing is left
pub text_whole : {A : Type 0} (texts : List A → List ℕ) → texts [] ≡ [] → (out whole : List ℕ) (xs : List A) (i : ℕ) → length xs ≤ i
    → out ++ texts (drop i xs) ≡ whole → out ≡ whole
text_whole texts none out whole xs i h is = sym (at_drop_all (λ ys. out ++ texts ys) xs i h ∙ ap (λ l. out ++ l) none ∙ append-nil out) ∙ is

-- one item more that can be spelled
pub words_more : {A : Type 0} (all : List A → Bool) (one : A → Bool) → ((xs : List A) (x : A) → all (xs ++ x ∷ []) ≡ (all xs && one x))
    → (xs : List A) (i : ℕ) (x : A) → i < length xs → x ≡ get_or xs i x → IsTrue (all (take i xs)) → IsTrue (one x) → IsTrue (all (take (i + 1) xs))
words_more all one law xs i x h e before here =
    ap all (take_more xs i x h ∙ ap (λ z. take i xs ++ z ∷ []) (sym e)) ∙ law (take i xs) x ∙ ap₂ (λ a b. a && b) before here

pub words_whole : {A : Type 0} (all : List A → Bool) (xs : List A) (i : ℕ) → length xs ≤ i → IsTrue (all (take i xs)) → IsTrue (all xs)
words_whole all xs i h is = ap all (sym (take_all i xs h)) ∙ is

-- that each is so, of a list with one more at its end
pub all_and_last : {A : Type 0} (p : A → Bool) (xs : List A) (x : A) → list_all p (xs ++ x ∷ []) ≡ (list_all p xs && p x)
all_and_last p xs x = list_all-append p xs (x ∷ []) ∙ ap (λ b. list_all p xs && b) (and_true (p x))

pub all_and_mapped : {A B : Type 0} (p : B → Bool) (f : A → B) (xs : List A) (x : A) → list_all p (map f (xs ++ x ∷ [])) ≡ (list_all p (map f xs) && p (f x))
all_and_mapped p f xs x = ap (list_all p) (map-append f xs (x ∷ [])) ∙ all_and_last p (map f xs) (f x)
