-- Ways that grow and get back.
use Rattle.std.proofs.Common.{◌≡◌, ℕ, List, [], ◌∷◌, ◌++◌, length, take, append_assoc, ap, sym, ◌∙◌}
use Rattle.std.proofs.Math.Seq.{take-append_seam}
use Rattle.fs_model.specs.Expressions.{Literal}
use Rattle.fs_model.specs.Trees.{Branch, Tree, Node, leaves, negated_literal}

-- what stood before something was added
pub front_stays : {X : Type 0} (old new added : List X) → new ≡ old ++ added → take (length old) new ≡ old
front_stays old new added e = rw e (take-append_seam old added)

-- a way that grew by one, was kept and is cut off is as before
pub as_before : {X : Type 0} (way longer kept cut : List X) (n : ℕ) → n ≡ length way → take (length way) longer ≡ way → kept ≡ longer → cut ≡ take n kept
    → cut ≡ way
as_before way longer kept cut n e f k c = c ∙ (λ i. take (e i) (k i)) ∙ f

-- the branches on both sides of a literal
pub both_sides : (done one_side all : List Branch) (way yes_way no_way : List (Literal ℕ)) (t on_yes on_no : Tree) (l : Literal ℕ) → t ≡ Node l on_yes on_no
    → yes_way ≡ way ++ l ∷ [] → no_way ≡ way ++ negated_literal l ∷ [] → one_side ≡ done ++ leaves on_yes yes_way → all ≡ one_side ++ leaves on_no no_way
    → all ≡ done ++ leaves t way
both_sides done one_side all way yes_way no_way t on_yes on_no l e y n f g =
    g
    ∙ (λ k. (f ∙ ap (λ w. done ++ leaves on_yes w) y) k ++ leaves on_no (n k))
    ∙ append_assoc done (leaves on_yes (way ++ l ∷ [])) (leaves on_no (way ++ negated_literal l ∷ []))
    ∙ sym (ap (λ u. done ++ leaves u way) e)
