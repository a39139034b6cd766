-- A symbol that is split off a sum in its terms' turn.
use Rattle.std.proofs.Common.{◌≡◌, ℕ, suc, ◌+◌, ◌<◌, ◌≤◌, ap, sym, ◌∙◌, ℤ, List, [], ◌∷◌, ◌++◌, length, map, drop, get_or, drop-cons, add-one, Some, None}
use Rattle.std.proofs.Math.ListN.{drop_of_length-le}
use Rattle.nf_trees.specs.NormalTerms.{Monomial, polynomial_of}
use Rattle.nf_trees.specs.View.{term_in}
use Rattle.fs_model.specs.declared.sides.Pos.{Pos}
use Rattle.nf_trees.specs.declared.tree.MonoTree.{MonoTree}
use Rattle.nf_terms.specs.declared.form.Nf.{Nf}
use Rattle.propagate_equations.specs.EquationSteps.{signed_term, split_behind, split_from}
use Rattle.propagate_equations.specs.declared.splits.Signed.{Signed}

-- a place in a list
parted : {A : Type 0} (x : A) (k : ℕ) (xs : List A) → k < length xs → x ≡ get_or xs k x → drop k xs ≡ x ∷ drop (k + 1) xs
parted x k xs h e = drop-cons xs k x h ∙ ap (λ y. y ∷ drop (suc k) xs) (sym e) ∙ ap (λ n. x ∷ drop n xs) (sym (add-one k))

pub split_here : (ms : List (Pos × Nf)) (before : List (Monomial × ℤ)) (t : MonoTree × ℤ) (k : ℕ) (ts : List (MonoTree × ℤ)) (x : Signed) → k < length ts
    → t ≡ get_or ts k t → Some x ≡ signed_term ms (term_in t)
    → split_from ms before (map term_in (drop k ts))
    ≡ Some (record { symbol = x.symbol; positive = x.positive; rest = polynomial_of (before ++ map term_in (drop (k + 1) ts)) })
split_here ms before t k ts x h e s =
    let rest = map term_in (drop (k + 1) ts) in
    ap (λ us. split_from ms before (map term_in us)) (parted t k ts h e)
    ∙ ap (λ o. split_behind o before rest (split_from ms (before ++ term_in t ∷ []) rest)) (sym s)

pub none_split : (ms : List (Pos × Nf)) (before : List (Monomial × ℤ)) (k : ℕ) (ts : List (MonoTree × ℤ)) → length ts ≤ k
    → split_from ms before (map term_in (drop k ts)) ≡ None
none_split ms before k ts h = ap (λ us. split_from ms before (map term_in us)) (drop_of_length-le ts h)
