-- Substitution keeps the meaning, of all terms and vectors.
use Rattle.std.proofs.Common.{◌≡◌, ℤ, ◌+ℤ◌, ◌*ℤ◌, List, [], ◌∷◌, ◌++◌, map, append_assoc, arith, refl, ap, ap₂, sym, subst, ◌∙◌}
use Rattle.std.proofs.lemmas.List.{append-nil}
use Rattle.std.proofs.lemmas.Int.{ints}
use Rattle.fs_model.specs.Division.{quotient, remainder}
use Rattle.fs_model.proofs.Ring.{mul_assoc_z}
use Rattle.nf_trees.specs.NormalTerms.{Atom, Monomial, Polynomial, ArrayTerm, Writes, Symbol, Read, Quotient, Remainder, One, Times, Zero, Plus, Over, NoWrites}
use Rattle.nf_trees.specs.NormalTerms.{Write}
use Rattle.nf_terms.specs.Lists.{ListTerm}
use Rattle.nf_terms.specs.TermMeaning.{Valuation, value_of, value_of_atom, value_of_monomial, contents, contents_after, contents_of_base, items_of_base}
use Rattle.nf_terms.specs.TermMeaning.{items_in, contents_after_write as stored}
use Rattle.std.specs.Prelude.{Result, Ok, Err, IfOk}
use Rattle.nf_terms.specs.declared.stop.NfStop.{NfStop}
use Rattle.nf_terms.specs.Computed.{Computed, Done, after, Answers, IfDone}
use Rattle.nf_terms.specs.Means.{IsNumberOf}
use Rattle.fs_model.specs.declared.sides.Pos.{Pos}
use Rattle.nf_trees.specs.declared.tree.Base.{Base}
use Rattle.nf_trees.specs.declared.tree.Base.TheVariants as base
use Rattle.nf_terms.specs.declared.tree.SeqBase.{SeqBase}
use Rattle.nf_terms.specs.declared.tree.SeqBase.TheVariants as list
use Rattle.nf_terms.specs.declared.form.Nf.{Nf}
use Rattle.nf_sums.specs.Operations.{normal_sum, normal_product, number}
use Rattle.nf_sums.proofs.Exact.{number_means}
use Rattle.nf_sums.proofs.Values.{goes_done, added_value, multiplied_value}
use Rattle.nf_arrays.specs.NewAtoms.{quotient_of, remainder_of}
use Rattle.nf_arrays.specs.Writes.{write_array, read_at}
use Rattle.nf_arrays.specs.Pushes.{list_with_item}
use Rattle.nf_arrays.proofs.Values.{read_value, write_value, quotient_value, remainder_value}
use Rattle.nf_arrays.proofs.Pushing.{push_value}
use Rattle.nf_vectors.specs.Vectors.{number_at, array_of_base, list_of_base, vector_meaning}
use Rattle.nf_substitution.specs.Substitution.{atom_substituted, atoms_substituted, terms_substituted, writes_substituted, array_substituted}
use Rattle.nf_substitution.specs.Substitution.{polynomial_substituted}
use Rattle.nf_substitution.specs.Substitution.{items_substituted, list_substituted}

pub number_is : (w : Valuation) (c : ℤ) (r : Polynomial) → number c ≡ Done r → value_of w r ≡ c
number_is w c r e =
    let n : IsNumberOf (λ x. c) r = subst (λ (k : Computed Polynomial). IfDone k (IsNumberOf (λ x. c))) e (number_means c) in
    n.means w

same_read : (f g : ℤ → ℤ) (i j : ℤ) → f ≡ g → i ≡ j → f i ≡ g j
same_read f g i j e h = λ k. e k (h k)

zero_more : (w : Valuation) (r : Polynomial) (z : ℤ) → value_of w r ≡ value_of w Zero +ℤ z → value_of w r ≡ z
zero_more w r z e = omega (arith, ints)

module _ (w : Valuation) (v : List (Pos × Nf)) where
  base_value : (b : Base) → contents w (array_of_base v b) ≡ contents_of_base (vector_meaning v w) b
  base_value base.Zero = refl
  base_value (base.Sym p) = refl

  list_base_value : (b : SeqBase) → items_in w (list_of_base v b) ≡ items_of_base (vector_meaning v w) b
  list_base_value list.Empty = refl
  list_base_value (list.Sym p) = refl

  mutual
    atom_keeps : (a : Atom) (r : Polynomial) → atom_substituted v a ≡ Done r → value_of w r ≡ value_of_atom (vector_meaning v w) a
    atom_keeps (Symbol p) r e = let k : number_at v p ≡ r = cc e in sym (ap (value_of w) k)
    atom_keeps (Read a i) r e =
        let s = goes_done (array_substituted v a) (λ b. after (terms_substituted v i Zero) (λ j. read_at b j)) r e in
        let t = goes_done (terms_substituted v i Zero) (λ j. read_at s.middle j) r s.next in
        read_value w s.middle t.middle r t.next ∙ same_read (contents w s.middle) (contents (vector_meaning v w) a) (value_of w t.middle)
        (value_of (vector_meaning v w) i)
        (array_keeps a s.middle s.first) (zero_more w t.middle (value_of (vector_meaning v w) i) (terms_keep i Zero t.middle t.first))
    atom_keeps (Quotient a b) r e =
        let s = goes_done (terms_substituted v a Zero) (λ p. after (terms_substituted v b Zero) (λ q. quotient_of p q)) r e in
        let t = goes_done (terms_substituted v b Zero) (λ q. quotient_of s.middle q) r s.next in
        quotient_value w s.middle t.middle r t.next ∙ ap₂ quotient (zero_more w s.middle (value_of (vector_meaning v w) a) (terms_keep a Zero s.middle s.first))
        (zero_more w t.middle (value_of (vector_meaning v w) b) (terms_keep b Zero t.middle t.first))
    atom_keeps (Remainder a b) r e =
        let s = goes_done (terms_substituted v a Zero) (λ p. after (terms_substituted v b Zero) (λ q. remainder_of p q)) r e in
        let t = goes_done (terms_substituted v b Zero) (λ q. remainder_of s.middle q) r s.next in
        remainder_value w s.middle t.middle r t.next
        ∙ ap₂ remainder (zero_more w s.middle (value_of (vector_meaning v w) a) (terms_keep a Zero s.middle s.first))
        (zero_more w t.middle (value_of (vector_meaning v w) b) (terms_keep b Zero t.middle t.first))

    atoms_keep : (m : Monomial) (p r : Polynomial) → atoms_substituted v m p ≡ Done r → value_of w r ≡ value_of w p *ℤ value_of_monomial (vector_meaning v w) m
    atoms_keep One p r e = let k : p ≡ r = cc e in sym (ap (value_of w) k) ∙ omega (arith, ints)
    atoms_keep (Times a m) p r e =
        let s = goes_done (atom_substituted v a) (λ q. after (normal_product p q) (λ x. atoms_substituted v m x)) r e in
        let t = goes_done (normal_product p s.middle) (λ x. atoms_substituted v m x) r s.next in
        atoms_keep m t.middle r t.next
        ∙ ap (λ z. z *ℤ value_of_monomial (vector_meaning v w) m)
        (multiplied_value w p s.middle t.middle t.first ∙ ap (λ z. value_of w p *ℤ z) (atom_keeps a s.middle s.first))
        ∙ mul_assoc_z (value_of w p) (value_of_atom (vector_meaning v w) a) (value_of_monomial (vector_meaning v w) m)

    terms_keep : (p s r : Polynomial) → terms_substituted v p s ≡ Done r → value_of w r ≡ value_of w s +ℤ value_of (vector_meaning v w) p
    terms_keep Zero s r e = let k : s ≡ r = cc e in sym (ap (value_of w) k) ∙ omega (arith, ints)
    terms_keep (Plus m c p) s r e =
        let x = goes_done (after (number c) (λ n. atoms_substituted v m n)) (λ q. after (normal_sum s q) (λ y. terms_substituted v p y)) r e in
        let t = goes_done (normal_sum s x.middle) (λ y. terms_substituted v p y) r x.next in
        let n = goes_done (number c) (λ n. atoms_substituted v m n) x.middle x.first in
        let h = terms_keep p t.middle r t.next in
        let i = added_value w s x.middle t.middle t.first in
        let j = atoms_keep m n.middle x.middle n.next in
        let k : value_of w n.middle *ℤ value_of_monomial (vector_meaning v w) m ≡ c *ℤ value_of_monomial (vector_meaning v w) m =
        ap (λ z. z *ℤ value_of_monomial (vector_meaning v w) m) (number_is w c n.middle n.first) in
        omega (arith, ints, h, i, j, k)

    writes_keep : (ws : Writes) (a b : ArrayTerm) → writes_substituted v ws a ≡ Done b → contents w b ≡ contents_after (vector_meaning v w) ws (contents w a)
    writes_keep NoWrites a b e = let k : a ≡ b = cc e in sym (ap (contents w) k)
    writes_keep (Write i x ws) a b e =
        let s = goes_done (terms_substituted v i Zero)
        (λ j. after (terms_substituted v x Zero) (λ y. after (write_array a j y) (λ d. writes_substituted v ws d))) b e in
        let t = goes_done (terms_substituted v x Zero) (λ y. after (write_array a s.middle y) (λ d. writes_substituted v ws d)) b s.next in
        let u = goes_done (write_array a s.middle t.middle) (λ d. writes_substituted v ws d) b t.next in
        writes_keep ws u.middle b u.next
        ∙ ap (contents_after (vector_meaning v w) ws)
        (write_value w a u.middle s.middle t.middle u.first ∙ ap₂ (stored (contents w a))
        (zero_more w s.middle (value_of (vector_meaning v w) i) (terms_keep i Zero s.middle s.first))
        (zero_more w t.middle (value_of (vector_meaning v w) x) (terms_keep x Zero t.middle t.first)))

    array_keeps : (a b : ArrayTerm) → array_substituted v a ≡ Done b → contents w b ≡ contents (vector_meaning v w) a
    array_keeps (Over c ws) b e = writes_keep ws (array_of_base v c) b e ∙ ap (contents_after (vector_meaning v w) ws) (base_value c)

  pub substituted_value : (p r : Polynomial) → polynomial_substituted v p ≡ Done r → value_of w r ≡ value_of (vector_meaning v w) p
  substituted_value p r e = zero_more w r (value_of (vector_meaning v w) p) (terms_keep p Zero r e)

  pub array_value : (a b : ArrayTerm) → array_substituted v a ≡ Done b → contents w b ≡ contents (vector_meaning v w) a
  array_value = array_keeps

  items_keep : (ps : List Polynomial) (l m : ListTerm) → items_substituted v ps l ≡ Done m
      → items_in w m ≡ items_in w l ++ map (value_of (vector_meaning v w)) ps
  items_keep [] l m e = let k : l ≡ m = cc e in sym (ap (items_in w) k) ∙ sym (append-nil (items_in w l))
  items_keep (p ∷ ps) l m e =
      let s = goes_done (polynomial_substituted v p) (λ q. after (list_with_item l q) (λ n. items_substituted v ps n)) m e in
      let t = goes_done (list_with_item l s.middle) (λ n. items_substituted v ps n) m s.next in
      items_keep ps t.middle m t.next
      ∙ ap (λ xs. xs ++ map (value_of (vector_meaning v w)) ps)
      (push_value w l t.middle s.middle t.first ∙ ap (λ z. items_in w l ++ z ∷ []) (substituted_value p s.middle s.first))
      ∙ append_assoc (items_in w l) (value_of (vector_meaning v w) p ∷ []) (map (value_of (vector_meaning v w)) ps)

  pub list_value : (l m : ListTerm) → list_substituted v l ≡ Done m → items_in w m ≡ items_in (vector_meaning v w) l
  list_value l m e = items_keep l.items (list_of_base v l.base) m e ∙ ap (λ xs. xs ++ map (value_of (vector_meaning v w)) l.items) (list_base_value l.base)

-- what the calls answer
pub poly_answer : (v : List (Pos × Nf)) (p : Polynomial) (r : Result Polynomial NfStop) → Answers r (polynomial_substituted v p)
    → IfOk r (λ q. (w : Valuation) → value_of w q ≡ value_of (vector_meaning v w) p)
poly_answer v p (Ok q) e = λ w. substituted_value w v p q e
poly_answer v p (Err stop) e = tt

pub arr_answer : (v : List (Pos × Nf)) (a : ArrayTerm) (r : Result ArrayTerm NfStop) → Answers r (array_substituted v a)
    → IfOk r (λ b. (w : Valuation) → contents w b ≡ contents (vector_meaning v w) a)
arr_answer v a (Ok b) e = λ w. array_value w v a b e
arr_answer v a (Err stop) e = tt

pub seq_answer : (v : List (Pos × Nf)) (l : ListTerm) (r : Result ListTerm NfStop) → Answers r (list_substituted v l)
    → IfOk r (λ m. (w : Valuation) → items_in w m ≡ items_in (vector_meaning v w) l)
seq_answer v l (Ok m) e = λ w. list_value w v l m e
seq_answer v l (Err stop) e = tt

pub ruleset answers = (poly_answer, arr_answer, seq_answer)
