-- New meanings with more of them, and what a substitution sees.
use Rattle.std.proofs.Common.{◌≡◌, Bool, true, false, cond, refl, ap, sym, ◌∙◌, List, [], ◌∷◌, ◌++◌, Option, Some}
use Rattle.std.specs.Prelude.{◌&&◌, is_some}
use Rattle.std.specs.List.{list_all}
use Rattle.std.proofs.lemmas.List.Folds.{list_all-append}
use Rattle.std.proofs.lemmas.Bool.{and_from}
use Rattle.fs_model.proofs.Booleans.{and_first, and_second}
use Rattle.nf_trees.specs.NormalTerms.{Atom, Monomial, Polynomial, ArrayTerm, Writes, Symbol, Read, Quotient, Remainder, One, Times, Zero, Plus, Over, NoWrites}
use Rattle.nf_trees.specs.NormalTerms.{Write, polynomial_of_symbol, bare_array}
use Rattle.nf_terms.specs.Forms.{sort_of_form}
use Rattle.nf_trees.specs.Mentions.{same_pos}
use Rattle.nf_terms.specs.Symbols.{symbols_of_atom, symbols_of_monomial, symbols_of, symbols_of_base, symbols_of_writes, symbols_of_array}
use Rattle.nf_terms.specs.Computed.{Done, after}
use Rattle.nf_terms.specs.declared.symbols.Sort.{Sort as TermSort}
use Rattle.nf_terms.specs.declared.symbols.Sort.TheVariants as term
use Rattle.fs_model.specs.declared.sides.Pos.{Pos}
use Rattle.nf_trees.specs.declared.tree.Base.{Base}
use Rattle.nf_trees.specs.declared.tree.Base.TheVariants as base
use Rattle.nf_terms.specs.declared.form.Nf.{Nf}
use Rattle.nf_terms.specs.TermSorts.{same_term_sort}
use Rattle.nf_sums.specs.Operations.{normal_sum, normal_product, number}
use Rattle.nf_arrays.specs.NewAtoms.{quotient_of, remainder_of}
use Rattle.nf_arrays.specs.Writes.{write_array, read_at}
use Rattle.nf_substitution.specs.Vectors.{form_at, with_form, number_or, array_or, array_of_base}
use Rattle.nf_substitution.specs.SamePlaces.{pos_equal, sorts_equal, own_pos, own_sort}
use Rattle.nf_substitution.specs.Substitution.{atom_substituted, atoms_substituted, terms_substituted, writes_substituted, array_substituted}
use Rattle.nf_substitution.proofs.Entries.{form_put}
use Rattle.search_tables.specs.Rebases.{is_held}

-- ---- tests of joined lists

module _ (n : Pos × TermSort → Bool) where
  pub all_left : (xs ys : List (Pos × TermSort)) → list_all n (xs ++ ys) ≡ true → list_all n xs ≡ true
  all_left xs ys h = and_first (list_all n xs) (list_all n ys) (sym (list_all-append n xs ys) ∙ h)

  pub all_right : (xs ys : List (Pos × TermSort)) → list_all n (xs ++ ys) ≡ true → list_all n ys ≡ true
  all_right xs ys h = and_second (list_all n xs) (list_all n ys) (sym (list_all-append n xs ys) ∙ h)

  pub all_joined : (xs ys : List (Pos × TermSort)) → list_all n xs ≡ true → list_all n ys ≡ true → list_all n (xs ++ ys) ≡ true
  all_joined xs ys h g = list_all-append n xs ys ∙ and_from (list_all n xs) (list_all n ys) h g

-- ---- more meanings

-- what is held stays held, with its meaning
pub record Extends (ms fs : List (Pos × Nf)) : Type 0 where
  pub kept : (q : Pos) (s : TermSort) → is_held ms (q, s) ≡ true → form_at s q ms ≡ form_at s q fs

pub extends_self : (ms : List (Pos × Nf)) → Extends ms ms
extends_self ms = record { kept = λ q s h. refl }

still_held : (ms fs : List (Pos × Nf)) → Extends ms fs → (x : Pos × TermSort) → is_held ms x ≡ true → is_held fs x ≡ true
still_held ms fs e x h = ap is_some (sym (e.kept x.0 x.1 h)) ∙ h

pub extends_on : (ms ns fs : List (Pos × Nf)) → Extends ms ns → Extends ns fs → Extends ms fs
extends_on ms ns fs d e = record { kept = λ q s h. d.kept q s h ∙ e.kept q s (still_held ms ns d (q, s) h) }

pub all_held : (ms fs : List (Pos × Nf)) → Extends ms fs → (xs : List (Pos × TermSort)) → list_all (is_held ms) xs ≡ true → list_all (is_held fs) xs ≡ true
all_held ms fs e [] h = refl
all_held ms fs e (x ∷ xs) h =
    and_from (is_held fs x) (list_all (is_held fs) xs) (still_held ms fs e x (and_first (is_held ms x) (list_all (is_held ms) xs) h))
    (all_held ms fs e xs (and_second (is_held ms x) (list_all (is_held ms) xs) h))

-- a meaning for a symbol that is not held
module _ (ms : List (Pos × Nf)) (x : Pos) (f : Nf) where
  pub put_extends : is_held ms (x, sort_of_form f) ≡ false → Extends ms (with_form x f ms)
  put_extends fresh = record { kept = λ q s h. by_test q s h (same_pos q x && same_term_sort s (sort_of_form f)) refl ∙ sym (form_put ms x q f s) }
    where
      by_test : (q : Pos) (s : TermSort) → is_held ms (q, s) ≡ true → (b : Bool) → same_pos q x && same_term_sort s (sort_of_form f) ≡ b
          → form_at s q ms ≡ cond {A = Option Nf} b (Some f) (form_at s q ms)
      by_test q s h true e =
          let i : q ≡ x = pos_equal q x (and_first (same_pos q x) (same_term_sort s (sort_of_form f)) e) in
          let j : s ≡ sort_of_form f = sorts_equal s (sort_of_form f) (and_second (same_pos q x) (same_term_sort s (sort_of_form f)) e) in
          absurd (let c : true ≡ false = sym h ∙ (λ k. is_held ms (i k, j k)) ∙ fresh in cc c)
      by_test q s h false e = refl

  pub put_there : form_at (sort_of_form f) x (with_form x f ms) ≡ Some f
  put_there = form_put ms x x f (sort_of_form f) ∙ ap (λ b. cond {A = Option Nf} b (Some f) (form_at (sort_of_form f) x ms))
      (and_from (same_pos x x) (same_term_sort (sort_of_form f) (sort_of_form f)) (own_pos x) (own_sort (sort_of_form f)))

-- ---- a substitution sees the symbols of its term alone

module _ (v w : List (Pos × Nf)) (n : Pos × TermSort → Bool) (agree : (q : Pos) (s : TermSort) → n (q, s) ≡ true → form_at s q v ≡ form_at s q w) where
  base_again : (b : Base) → list_all n (symbols_of_base b) ≡ true → array_of_base v b ≡ array_of_base w b
  base_again base.Zero h = refl
  base_again (base.Sym p) h = ap (array_or (bare_array (base.Sym p))) (agree p term.Array (and_first (n (p, term.Array)) true h))

  mutual
    atom_again : (t : Atom) → list_all n (symbols_of_atom t) ≡ true → atom_substituted v t ≡ atom_substituted w t
    atom_again (Symbol p) h = ap (λ o. Done (number_or (polynomial_of_symbol p) o)) (agree p term.Scalar (and_first (n (p, term.Scalar)) true h))
    atom_again (Read b i) h =
        λ k. after (array_again b (all_left n (symbols_of_array b) (symbols_of i) h) k)
        (λ x. after (terms_again i (all_right n (symbols_of_array b) (symbols_of i) h) Zero k) (λ j. read_at x j))
    atom_again (Quotient p q) h = λ k. after (terms_again p (all_left n (symbols_of p) (symbols_of q) h) Zero k)
        (λ x. after (terms_again q (all_right n (symbols_of p) (symbols_of q) h) Zero k) (λ y. quotient_of x y))
    atom_again (Remainder p q) h = λ k. after (terms_again p (all_left n (symbols_of p) (symbols_of q) h) Zero k)
        (λ x. after (terms_again q (all_right n (symbols_of p) (symbols_of q) h) Zero k) (λ y. remainder_of x y))

    atoms_again : (m : Monomial) → list_all n (symbols_of_monomial m) ≡ true → (z : Polynomial) → atoms_substituted v m z ≡ atoms_substituted w m z
    atoms_again One h z = refl
    atoms_again (Times t m) h z =
        λ k. after (atom_again t (all_left n (symbols_of_atom t) (symbols_of_monomial m) h) k)
        (λ f. after (normal_product z f) (λ p. atoms_again m (all_right n (symbols_of_atom t) (symbols_of_monomial m) h) p k))

    pub terms_again : (p : Polynomial) → list_all n (symbols_of p) ≡ true → (z : Polynomial) → terms_substituted v p z ≡ terms_substituted w p z
    terms_again Zero h z = refl
    terms_again (Plus m c p) h z =
        λ k. after (after (number c) (λ x. atoms_again m (all_left n (symbols_of_monomial m) (symbols_of p) h) x k))
        (λ t. after (normal_sum z t) (λ s. terms_again p (all_right n (symbols_of_monomial m) (symbols_of p) h) s k))

    writes_again : (ws : Writes) → list_all n (symbols_of_writes ws) ≡ true → (b : ArrayTerm) → writes_substituted v ws b ≡ writes_substituted w ws b
    writes_again NoWrites h b = refl
    writes_again (Write i x ws) h b =
        λ k. after (terms_again i (all_left n (symbols_of i) (symbols_of x ++ symbols_of_writes ws) h) Zero k)
        (λ j. after
        (terms_again x (all_left n (symbols_of x) (symbols_of_writes ws) (all_right n (symbols_of i) (symbols_of x ++ symbols_of_writes ws) h)) Zero k)
        (λ y. after (write_array b j y)
        (λ a. writes_again ws (all_right n (symbols_of x) (symbols_of_writes ws) (all_right n (symbols_of i) (symbols_of x ++ symbols_of_writes ws) h)) a k)))

    array_again : (b : ArrayTerm) → list_all n (symbols_of_array b) ≡ true → array_substituted v b ≡ array_substituted w b
    array_again (Over b ws) h =
        writes_again ws (all_right n (symbols_of_base b) (symbols_of_writes ws) h) (array_of_base v b)
        ∙ ap (writes_substituted w ws) (base_again b (all_left n (symbols_of_base b) (symbols_of_writes ws) h))
