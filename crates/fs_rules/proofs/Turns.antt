-- One turn of a loop over a list.
use Rattle.std.proofs.Common.{◌≡◌, ℕ, zero, suc, ◌+◌, ◌<◌, List, [], ◌∷◌, ◌++◌, length, get_or, take, drop, refl, sym, ◌∙◌, ap, add-one, append_assoc}
use Rattle.std.proofs.Common.{append-nil, arith}
use Rattle.std.specs.Prelude.{map}
use Rattle.std.specs.List.{flat_map}
use Rattle.fs_model.proofs.Lists.{map_drop_next, map_map}

taken_suc :
    {A B : Type 0} (f : A → B) (xs : List A) (i : ℕ) (x : A) → i < length xs → x ≡ get_or xs i x
    → map f (take (suc i) xs) ≡ map f (take i xs) ++ f x ∷ []
taken_suc f [] i x h e = absurd (omega arith)
taken_suc f (y ∷ ys) zero x h e = ap (λ z. f z ∷ []) (sym e)
taken_suc f (y ∷ ys) (suc i) x h e = ap (λ r. f y ∷ r) (taken_suc f ys i x (omega arith) e)

left_suc : {A B : Type 0} (f : A → B) (xs : List A) (i : ℕ) (x : A) → i < length xs → x ≡ get_or xs i x → map f (drop i xs) ≡ f x ∷ map f (drop (suc i) xs)
left_suc f [] i x h e = absurd (omega arith)
left_suc f (y ∷ ys) zero x h e = ap (λ z. f z ∷ map f ys) (sym e)
left_suc f (y ∷ ys) (suc i) x h e = left_suc f ys i x (omega arith) e

-- what is done after one more item, and what was left before it
pub taken_map :
    {A B : Type 0} (f : A → B) (xs : List A) (i : ℕ) (x : A) → i < length xs → x ≡ get_or xs i x
    → map f (take (i + 1) xs) ≡ map f (take i xs) ++ f x ∷ []
taken_map f xs i x h e = rw add-one (taken_suc f xs i x h e)

-- an item put at the end of what was done
pub put_done : {A B : Type 0} (f : A → B) (xs : List A) (i : ℕ) (x : A) → i < length xs → x ≡ get_or xs i x → (start old new : List B) (y : B) → y ≡ f x
    → new ≡ old ++ y ∷ [] → old ≡ start ++ map f (take i xs) → new ≡ start ++ map f (take (i + 1) xs)
put_done f xs i x h e start old new y same put before =
    put ∙ ap (λ r. r ++ y ∷ []) before ∙ append_assoc start (map f (take i xs)) (y ∷ [])
    ∙ ap (λ z. start ++ (map f (take i xs) ++ z ∷ [])) same ∙ ap (λ r. start ++ r) (sym (taken_map f xs i x h e))

pub flat_push : {A B : Type 0} (f : A → List B) (xs : List A) (x : A) → flat_map f (xs ++ x ∷ []) ≡ flat_map f xs ++ f x
flat_push f [] x = append-nil (f x)
flat_push f (y ∷ xs) x = ap (λ r. f y ++ r) (flat_push f xs x) ∙ sym (append_assoc (f y) (flat_map f xs) (f x))

-- a whole list put at the end of what was done
pub put_flat : {A B C : Type 0} (g : A → B) (f : B → List C) (xs : List A) (i : ℕ) (x : A) → i < length xs → x ≡ get_or xs i x → (old new : List C)
    → new ≡ old ++ f (g x) → old ≡ flat_map f (map g (take i xs)) → new ≡ flat_map f (map g (take (i + 1) xs))
put_flat g f xs i x h e old new put before =
    put ∙ ap (λ r. r ++ f (g x)) before ∙ sym (ap (flat_map f) (taken_map g xs i x h e) ∙ flat_push f (map g (take i xs)) (g x))

-- what is left to do after one more item, where t tells what a state has yet to become
pub left_flat : {A B C S : Type 0} (t : S → List C → S) → ((s : S) (a b : List C) → t s (a ++ b) ≡ t (t s a) b)
    → (g : A → B) (f : B → List C) (xs : List A) (i : ℕ) (x : A)
    → i < length xs → x ≡ get_or xs i x → (old new all : S) → new ≡ t old (f (g x)) → t old (flat_map f (map g (drop i xs))) ≡ all
    → t new (flat_map f (map g (drop (i + 1) xs))) ≡ all
left_flat t join g f xs i x h e old new all put before =
    ap (λ s. t s (flat_map f (map g (drop (i + 1) xs)))) put
    ∙ sym (join old (f (g x)) (flat_map f (map g (drop (i + 1) xs))))
    ∙ ap (λ r. t old (flat_map f r)) (sym (map_drop_next g xs i x h e))
    ∙ before

pub taken_twice : {A B C : Type 0} (f : B → C) (g : A → B) (xs : List A) (i : ℕ) (x : A) → i < length xs → x ≡ get_or xs i x
    → map f (map g (take (i + 1) xs)) ≡ map f (map g (take i xs)) ++ f (g x) ∷ []
taken_twice f g xs i x h e =
    map_map f g (take (i + 1) xs) ∙ taken_map (λ y. f (g y)) xs i x h e ∙ ap (λ r. r ++ f (g x) ∷ []) (sym (map_map f g (take i xs)))

pub flat_map_map : {A B C : Type 0} (f : B → List C) (g : A → B) (xs : List A) → flat_map f (map g xs) ≡ flat_map (λ x. f (g x)) xs
flat_map_map f g [] = refl
flat_map_map f g (x ∷ xs) = ap (λ r. f (g x) ++ r) (flat_map_map f g xs)
