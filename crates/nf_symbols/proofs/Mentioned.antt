-- A position is mentioned where it is among the symbols.
use Rattle.std.proofs.Common.{◌≡◌, Bool, true, false, ◌||◌, ◌&&◌, refl, ap₂, sym, ◌∙◌, List, [], ◌∷◌, ◌++◌}
use Rattle.std.specs.Prelude.{not}
use Rattle.std.specs.List.{list_all}
use Rattle.std.proofs.lemmas.List.Folds.{list_all-append}
use Rattle.fs_model.proofs.Booleans.{not_or}
use Rattle.nf_trees.specs.NormalTerms.{Atom, Monomial, Polynomial, ArrayTerm, Writes, Symbol, Read, Quotient, Remainder, One, Times, Zero, Plus, Over, NoWrites}
use Rattle.nf_trees.specs.NormalTerms.{Write}
use Rattle.nf_terms.specs.Lists.{mentions_items, mentions_list_base}
use Rattle.nf_terms.specs.Forms.{mentions_form}
use Rattle.nf_trees.specs.Mentions.{same_pos, mentions_base, mentions_atom, mentions_monomial, mentions, mentions_writes, mentions_array}
use Rattle.nf_terms.specs.Symbols.{symbols_of_base, symbols_of_atom, symbols_of_monomial, symbols_of, symbols_of_writes, symbols_of_array, symbols_of_list_base}
use Rattle.nf_terms.specs.Symbols.{symbols_of_items, symbols_of_form}
use Rattle.nf_terms.specs.declared.symbols.Sort.{Sort}
use Rattle.fs_model.specs.declared.sides.Pos.{Pos}
use Rattle.nf_trees.specs.declared.tree.Base.{Base}
use Rattle.nf_trees.specs.declared.tree.Base.TheVariants as base
use Rattle.nf_terms.specs.declared.tree.SeqBase.{SeqBase}
use Rattle.nf_terms.specs.declared.tree.SeqBase.TheVariants as list
use Rattle.nf_terms.specs.declared.form.Nf.{Nf}
use Rattle.nf_terms.specs.declared.form.Nf.TheVariants.{Num, Arr, Seq}
use Rattle.nf_symbols.specs.SymbolTests.{is_other}

alone : (b : Bool) → not b ≡ (not b && true)
alone true = refl
alone false = refl

module _ (p : Pos) where
  both : (a b : Bool) (xs ys : List (Pos × Sort)) → not a ≡ list_all (is_other p) xs → not b ≡ list_all (is_other p) ys
      → not (a || b) ≡ list_all (is_other p) (xs ++ ys)
  both a b xs ys h g = not_or a b ∙ ap₂ (λ x y. x && y) h g ∙ sym (list_all-append (is_other p) xs ys)

  three : (a b c : Bool) (xs ys zs : List (Pos × Sort)) → not a ≡ list_all (is_other p) xs → not b ≡ list_all (is_other p) ys → not c ≡ list_all (is_other p) zs
      → not (a || b || c) ≡ list_all (is_other p) (xs ++ (ys ++ zs))
  three a b c xs ys zs h g k = regrouped a b c ∙ both a (b || c) xs (ys ++ zs) h (both b c ys zs g k)
    where
      regrouped : (a b c : Bool) → not (a || b || c) ≡ not (a || (b || c))
      regrouped true b c = refl
      regrouped false b c = refl

  base_other : (b : Base) → not (mentions_base p b) ≡ list_all (is_other p) (symbols_of_base b)
  base_other base.Zero = refl
  base_other (base.Sym q) = alone (same_pos p q)

  mutual
    atom_other : (a : Atom) → not (mentions_atom p a) ≡ list_all (is_other p) (symbols_of_atom a)
    atom_other (Symbol q) = alone (same_pos p q)
    atom_other (Read a i) = both (mentions_array p a) (mentions p i) (symbols_of_array a) (symbols_of i) (array_other a) (number_other i)
    atom_other (Quotient a b) = both (mentions p a) (mentions p b) (symbols_of a) (symbols_of b) (number_other a) (number_other b)
    atom_other (Remainder a b) = both (mentions p a) (mentions p b) (symbols_of a) (symbols_of b) (number_other a) (number_other b)

    monomial_other : (m : Monomial) → not (mentions_monomial p m) ≡ list_all (is_other p) (symbols_of_monomial m)
    monomial_other One = refl
    monomial_other (Times a m) = both (mentions_atom p a) (mentions_monomial p m) (symbols_of_atom a) (symbols_of_monomial m) (atom_other a) (monomial_other m)

    pub number_other : (q : Polynomial) → not (mentions p q) ≡ list_all (is_other p) (symbols_of q)
    number_other Zero = refl
    number_other (Plus m c q) = both (mentions_monomial p m) (mentions p q) (symbols_of_monomial m) (symbols_of q) (monomial_other m) (number_other q)

    writes_other : (ws : Writes) → not (mentions_writes p ws) ≡ list_all (is_other p) (symbols_of_writes ws)
    writes_other NoWrites = refl
    writes_other (Write i v ws) = three (mentions p i) (mentions p v) (mentions_writes p ws) (symbols_of i) (symbols_of v) (symbols_of_writes ws)
        (number_other i) (number_other v) (writes_other ws)

    array_other : (a : ArrayTerm) → not (mentions_array p a) ≡ list_all (is_other p) (symbols_of_array a)
    array_other (Over b ws) = both (mentions_base p b) (mentions_writes p ws) (symbols_of_base b) (symbols_of_writes ws) (base_other b) (writes_other ws)

  list_base_other : (b : SeqBase) → not (mentions_list_base p b) ≡ list_all (is_other p) (symbols_of_list_base b)
  list_base_other list.Empty = refl
  list_base_other (list.Sym q) = alone (same_pos p q)

  items_other : (qs : List Polynomial) → not (mentions_items p qs) ≡ list_all (is_other p) (symbols_of_items qs)
  items_other [] = refl
  items_other (q ∷ qs) = both (mentions p q) (mentions_items p qs) (symbols_of q) (symbols_of_items qs) (number_other q) (items_other qs)

  pub form_other : (f : Nf) → not (mentions_form p f) ≡ list_all (is_other p) (symbols_of_form f)
  form_other (Num q) = number_other q
  form_other (Arr a) = array_other a
  form_other (Seq l) = both (mentions_list_base p l.base) (mentions_items p l.items) (symbols_of_list_base l.base) (symbols_of_items l.items)
      (list_base_other l.base) (items_other l.items)
