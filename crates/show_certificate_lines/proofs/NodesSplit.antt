-- The nodes at two points, one after another, and how many they are.
use Rattle.std.proofs.Common.{◌≡◌, ◌∙◌, ℕ, ◌+◌, Bool, true, false, ◌&&◌, cond, List, [], ◌∷◌, ◌++◌, length, map, take, ap, ap₂, sym, refl}
use Rattle.std.proofs.lemmas.List.{take-map}
use Rattle.fs_model.proofs.Lists.{length_map}
use Rattle.fs_cut.specs.Paths.{Point}
use Rattle.fs_cut.specs.Covers.{same_point}
use Rattle.cert_bisimulation.specs.Tables.{Node}
use Rattle.sym_facts.specs.Facts.{Fact}
use Rattle.cert_model.specs.Obligations.{nodes_at}
use Rattle.show_certificate_lines.specs.Cases.{case_text, case_at}

pub nodes_split : (P Q : Point) (n : Node Fact) (ns : List (Node Fact)) → nodes_at (n ∷ ns) P Q ≡ nodes_at (n ∷ []) P Q ++ nodes_at ns P Q
nodes_split P Q n ns = by_test (same_point n.left P && same_point n.right Q)
  where
    by_test : (t : Bool) → cond t (n ∷ nodes_at ns P Q) (nodes_at ns P Q) ≡ cond t (n ∷ []) [] ++ nodes_at ns P Q
    by_test true = refl
    by_test false = refl

-- which case a node is, by the lists of those before it and of all
pub case_is : {A X : Type 0} (of : A → Node Fact) (ns : List A) (k : ℕ) (n : Node Fact) (seen : X → Node Fact) (before all : List X) (i j : ℕ)
    → i ≡ length before → j ≡ length all → map seen before ≡ nodes_at (map of (take k ns)) n.left n.right
    → map seen all ≡ nodes_at (map of ns) n.left n.right → case_text (i + 1) j ≡ case_at (map of ns) k n
case_is of ns k n seen before all i j d e f g =
    ap₂ (λ x y. case_text (x + 1) y)
    (d ∙ sym (length_map seen before) ∙ ap length f ∙ ap (λ l. length (nodes_at l n.left n.right)) (sym (take-map of k ns)))
    (e ∙ sym (length_map seen all) ∙ ap length g)
