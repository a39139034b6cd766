-- Targets stay where a node is added, and where another node's fact changes.
use Rattle.std.proofs.Common.{◌≡◌, ℕ, zero, suc, ◌+◌, sym, ◌∙◌, ap, subst, arith, Bool, true, false, cond, List, [], ◌∷◌, ◌++◌, Some}
use Rattle.std.specs.Prelude.{◌≢◌, ◌&&◌, slice_get, slice_set}
use Rattle.fs_cut.specs.Paths.{Point}
use Rattle.fs_cut.specs.Covers.{same_point}
use Rattle.search_tables.specs.SearchTables.{SearchNode, Known, target_from, is_at}
use Rattle.search_tables.proofs.Targets.{known_same}

front_by : (P Q : Point) (i k : ℕ) (a g : SearchNode) (T ns : List SearchNode) (b : Bool)
    → (target_from P Q (i + 1) T ≡ Known k g → target_from P Q (i + 1) (T ++ ns) ≡ Known k g) → cond b (Known i a) (target_from P Q (i + 1) T) ≡ Known k g
    → cond b (Known i a) (target_from P Q (i + 1) (T ++ ns)) ≡ Known k g
front_by P Q i k a g T ns true h e = e
front_by P Q i k a g T ns false h e = h e

pub target_front : (P Q : Point) (i k : ℕ) (g : SearchNode) (T ns : List SearchNode) → target_from P Q i T ≡ Known k g → target_from P Q i (T ++ ns) ≡ Known k g
target_front P Q i k g [] ns e = cc
target_front P Q i k g (a ∷ T) ns e = front_by P Q i k a g T ns (is_at P Q a) (target_front P Q (i + 1) k g T ns) e

here_by : (P Q : Point) (i k : ℕ) (a n g : SearchNode) (T : List SearchNode) (b c : Bool) → b ≡ c → k ≢ i
    → cond b (Known i a) (target_from P Q (i + 1) T) ≡ Known k g → cond c (Known i n) (target_from P Q (i + 1) T) ≡ Known k g
here_by P Q i k a n g T true c s d e = absurd (d (sym (known_same i k a g e).0))
here_by P Q i k a n g T false c s d e = subst (λ t. cond t (Known i n) (target_from P Q (i + 1) T) ≡ Known k g) s e

later_by : (P Q : Point) (i k : ℕ) (a g : SearchNode) (T U : List SearchNode) (b : Bool)
    → (target_from P Q (i + 1) T ≡ Known k g → target_from P Q (i + 1) U ≡ Known k g) → cond b (Known i a) (target_from P Q (i + 1) T) ≡ Known k g
    → cond b (Known i a) (target_from P Q (i + 1) U) ≡ Known k g
later_by P Q i k a g T U true h e = e
later_by P Q i k a g T U false h e = h e

pub target_other : (P Q : Point) (i j k : ℕ) (n n' g : SearchNode) (T : List SearchNode) → slice_get T k ≡ Some n → n'.left ≡ n.left → n'.right ≡ n.right
    → j ≢ i + k → target_from P Q i T ≡ Known j g → target_from P Q i (slice_set T k n') ≡ Known j g
target_other P Q i j k n n' g [] s l r d e = cc
target_other P Q i j zero n n' g (a ∷ T) s l r d e =
    let same : a ≡ n = cc in
    let test : is_at P Q a ≡ is_at P Q n' = ap (is_at P Q) same ∙ ap (λ p. same_point p P && same_point n.right Q) (sym l)
    ∙ ap (λ q. same_point n'.left P && same_point q Q) (sym r) in
    here_by P Q i j a n' g T (is_at P Q a) (is_at P Q n') test (λ h. d (omega arith)) e
target_other P Q i j (suc k) n n' g (a ∷ T) s l r d e =
    later_by P Q i j a g T (slice_set T k n') (is_at P Q a) (target_other P Q (i + 1) j k n n' g T s l r (λ h. d (omega arith))) e
