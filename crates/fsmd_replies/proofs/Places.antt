-- The places of the words for the files of a chain.
use Rattle.std.proofs.Common.{◌≡◌, ℕ, zero, suc, ◌<◌, ◌≤◌, List, [], ◌∷◌, length, refl, sym, ap, subst, ◌+◌, arith}
use Rattle.std.specs.Prelude.{◌%◌, Some, None, map, get_or, slice_get}
use Rattle.fsmd_replies.specs.AskedFiles.{in_links, in_chain}

-- of each link the words change places
swapped : (ws : List (List ℕ)) (k : ℕ) → k % 2 ≡ 0 → suc k < length ws → get_or ws (suc k) [] ≡ get_or (in_links ws) k []
swapped [] k e h = absurd (omega arith)
swapped (x ∷ []) k e h = absurd (omega arith)
swapped (c ∷ m ∷ ws) zero e h = refl
swapped (c ∷ m ∷ ws) (suc zero) e h = absurd (omega arith)
swapped (c ∷ m ∷ ws) (suc (suc k)) e h = swapped ws k (omega arith) (omega arith)

back : (ws : List (List ℕ)) (k : ℕ) → k % 2 ≡ 0 → suc k < length ws → get_or ws k [] ≡ get_or (in_links ws) (suc k) []
back [] k e h = absurd (omega arith)
back (x ∷ []) k e h = absurd (omega arith)
back (c ∷ m ∷ ws) zero e h = refl
back (c ∷ m ∷ ws) (suc zero) e h = absurd (omega arith)
back (c ∷ m ∷ ws) (suc (suc k)) e h = back ws k (omega arith) (omega arith)

-- the last word stays where no other one is left for it
stays : (ws : List (List ℕ)) (k : ℕ) → k % 2 ≡ 0 → length ws ≤ suc k → get_or ws k [] ≡ get_or (in_links ws) k []
stays [] k e h = refl
stays (x ∷ []) k e h = refl
stays (c ∷ m ∷ ws) zero e h = absurd (omega arith)
stays (c ∷ m ∷ ws) (suc zero) e h = absurd (omega arith)
stays (c ∷ m ∷ ws) (suc (suc k)) e h = stays ws k (omega arith) (omega arith)

none_behind : (ws : List (List ℕ)) (k : ℕ) → length ws ≤ k → get_or ws k [] ≡ get_or (in_links ws) k []
none_behind [] k h = refl
none_behind (x ∷ []) k h = refl
none_behind (c ∷ m ∷ ws) zero h = absurd (omega arith)
none_behind (c ∷ m ∷ ws) (suc zero) h = absurd (omega arith)
none_behind (c ∷ m ∷ ws) (suc (suc k)) h = none_behind ws k (omega arith)

-- the first machine's word, and numbers past all words
pub first_place : (ws : List (List ℕ)) (n : ℕ) → n ≡ 0 → get_or ws n [] ≡ get_or (in_chain ws) n []
first_place [] zero e = refl
first_place [] (suc n) e = refl
first_place (m ∷ ws) zero e = refl
first_place (m ∷ ws) (suc n) e = absurd (omega arith)

pub past_places : (ws : List (List ℕ)) (n : ℕ) → length ws ≤ n → get_or ws n [] ≡ get_or (in_chain ws) n []
past_places [] zero h = refl
past_places [] (suc n) h = refl
past_places (m ∷ ws) zero h = absurd (omega arith)
past_places (m ∷ ws) (suc n) h = none_behind ws n (omega arith)

-- an even number is that of a certificate, an odd one that of a machine
even_place : (ws : List (List ℕ)) (n : ℕ) → suc n % 2 ≡ 0 → suc n < length ws → get_or ws n [] ≡ get_or (in_chain ws) (suc n) []
even_place [] n e h = absurd (omega arith)
even_place (m ∷ ws) zero e h = absurd (omega arith)
even_place (m ∷ ws) (suc n) e h = back ws n (omega arith) (omega arith)

odd_place : (ws : List (List ℕ)) (n : ℕ) → n % 2 ≡ 1 → suc n < length ws → get_or ws (suc n) [] ≡ get_or (in_chain ws) n []
odd_place [] n e h = absurd (omega arith)
odd_place (m ∷ ws) zero e h = absurd (omega arith)
odd_place (m ∷ ws) (suc n) e h = swapped ws n (omega arith) (omega arith)

pub even_before : (ws : List (List ℕ)) (p n : ℕ) → p + 1 ≡ n → n % 2 ≡ 0 → n < length ws → get_or ws p [] ≡ get_or (in_chain ws) n []
even_before ws p n e even h =
    let next : suc p ≡ n = omega arith in
    subst (λ k. get_or ws p [] ≡ get_or (in_chain ws) k []) next (even_place ws p (subst (λ k. k % 2 ≡ 0) (sym next) even) (omega arith))

pub odd_behind : (ws : List (List ℕ)) (p n : ℕ) → p ≡ n + 1 → n % 2 ≡ 1 → p < length ws → get_or ws p [] ≡ get_or (in_chain ws) n []
odd_behind ws p n e odd h =
    let next : suc n ≡ p = omega arith in
    subst (λ k. get_or ws k [] ≡ get_or (in_chain ws) n []) next (odd_place ws n odd (omega arith))

pub last_place : (ws : List (List ℕ)) (n : ℕ) → n % 2 ≡ 1 → length ws ≤ suc n → get_or ws n [] ≡ get_or (in_chain ws) n []
last_place [] zero e h = refl
last_place [] (suc n) e h = refl
last_place (m ∷ ws) zero e h = absurd (omega arith)
last_place (m ∷ ws) (suc n) e h = stays ws n (omega arith) (omega arith)

-- a list at a place, by what stands there
pub at_place : {X : Type 0} (f : X → List ℕ) (xs : List X) (k : ℕ) (x : X) → slice_get xs k ≡ Some x → get_or (map f xs) k [] ≡ f x
at_place f [] k x e = absurd (cc)
at_place f (y ∷ xs) zero x e = let same : y ≡ x = cc in ap f same
at_place f (y ∷ xs) (suc k) x e = at_place f xs k x e

pub at_none : {X : Type 0} (f : X → List ℕ) (xs : List X) (k : ℕ) → slice_get xs k ≡ None → get_or (map f xs) k [] ≡ []
at_none f [] k e = refl
at_none f (y ∷ xs) zero e = absurd (cc)
at_none f (y ∷ xs) (suc k) e = at_none f xs k e
