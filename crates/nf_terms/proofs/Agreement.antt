-- A term's value depends on the symbols that it mentions, and on no others.
use Rattle.std.proofs.Common.{◌≡◌, ◌+ℤ◌, ◌*ℤ◌, Bool, true, ◌||◌, ◌==◌, List, [], ◌∷◌, ◌++◌, map, refl}
use Rattle.std.proofs.lemmas.Bool.{or_left, and_from, or_right}
use Rattle.fs_model.proofs.Numbers.{eqb_self}
use Rattle.fs_model.proofs.SameSides.{same_side_self}
use Rattle.fs_model.specs.Division.{quotient, remainder}
use Rattle.nf_trees.specs.NormalTerms.{Atom, Monomial, Polynomial, ArrayTerm, Writes, Symbol, Read, Quotient, Remainder, One, Times, Zero, Plus, Over, NoWrites}
use Rattle.nf_trees.specs.NormalTerms.{Write}
use Rattle.nf_terms.specs.TermMeaning.{Valuation, contents_after_write, contents_of_base, value_of_atom, value_of_monomial, value_of, contents_after, contents}
use Rattle.nf_terms.specs.TermMeaning.{items_of_base, items_in}
use Rattle.nf_terms.specs.Lists.{ListTerm, mentions_items, mentions_list_base, mentions_list}
use Rattle.nf_trees.specs.Mentions.{same_pos, mentions_base, mentions_atom, mentions_monomial, mentions, mentions_writes, mentions_array}
use Rattle.nf_terms.specs.ValuationAgreement.{AgreeOn}
use Rattle.fs_model.specs.declared.sides.Pos.{Pos}
use Rattle.fs_model.specs.Sides.{same_side}
use Rattle.nf_trees.specs.declared.tree.Base.{Base}
use Rattle.nf_trees.specs.declared.tree.Base.TheVariants as starts
use Rattle.nf_terms.specs.declared.tree.SeqBase.{SeqBase}
use Rattle.nf_terms.specs.declared.tree.SeqBase.TheVariants as list

pub own_pos : (p : Pos) → same_pos p p ≡ true
own_pos p = and_from (same_side p.side p.side) (p.var == p.var) (same_side_self p.side) (eqb_self p.var)

module _ (v w : Valuation) where
  fewer : (f g : Pos → Bool) → ((q : Pos) → g q ≡ true → f q ≡ true) → AgreeOn f v w → AgreeOn g v w
  fewer f g sub agree = record { scalars = λ q e. agree.scalars q (sub q e); arrays = λ q e. agree.arrays q (sub q e); lists = λ q e. agree.lists q (sub q e) }

  base_agrees : (b : Base) → AgreeOn (λ q. mentions_base q b) v w → contents_of_base v b ≡ contents_of_base w b
  base_agrees starts.Zero agree = refl
  base_agrees (starts.Sym p) agree = agree.arrays p (own_pos p)

  mutual
    pub atom_agrees : (a : Atom) → AgreeOn (λ q. mentions_atom q a) v w → value_of_atom v a ≡ value_of_atom w a
    atom_agrees (Symbol p) agree = agree.scalars p (own_pos p)
    atom_agrees (Read a i) agree = λ k. array_agrees a (fewer _ _ (λ q. or_left (mentions_array q a) (mentions q i)) agree) k
        (polynomial_agrees i (fewer _ _ (λ q. or_right (mentions_array q a) (mentions q i)) agree) k)
    atom_agrees (Quotient a b) agree = λ k. quotient (polynomial_agrees a (fewer _ _ (λ q. or_left (mentions q a) (mentions q b)) agree) k)
        (polynomial_agrees b (fewer _ _ (λ q. or_right (mentions q a) (mentions q b)) agree) k)
    atom_agrees (Remainder a b) agree = λ k. remainder (polynomial_agrees a (fewer _ _ (λ q. or_left (mentions q a) (mentions q b)) agree) k)
        (polynomial_agrees b (fewer _ _ (λ q. or_right (mentions q a) (mentions q b)) agree) k)

    pub monomial_agrees : (m : Monomial) → AgreeOn (λ q. mentions_monomial q m) v w → value_of_monomial v m ≡ value_of_monomial w m
    monomial_agrees One agree = refl
    monomial_agrees (Times a m) agree = λ k. atom_agrees a (fewer _ _ (λ q. or_left (mentions_atom q a) (mentions_monomial q m)) agree) k *ℤ monomial_agrees m
        (fewer _ _ (λ q. or_right (mentions_atom q a) (mentions_monomial q m)) agree) k

    pub polynomial_agrees : (p : Polynomial) → AgreeOn (λ q. mentions q p) v w → value_of v p ≡ value_of w p
    polynomial_agrees Zero agree = refl
    polynomial_agrees (Plus m c p) agree = λ k. c *ℤ monomial_agrees m (fewer _ _ (λ q. or_left (mentions_monomial q m) (mentions q p)) agree) k
        +ℤ polynomial_agrees p (fewer _ _ (λ q. or_right (mentions_monomial q m) (mentions q p)) agree) k

    pub writes_agree : (ws : Writes) → AgreeOn (λ q. mentions_writes q ws) v w → contents_after v ws ≡ contents_after w ws
    writes_agree NoWrites agree = refl
    writes_agree (Write i x ws) agree = λ k a.
        writes_agree ws (fewer _ _ (λ q. or_right (mentions q i || mentions q x) (mentions_writes q ws)) agree) k
        (contents_after_write a
        (polynomial_agrees i (fewer _ _ (λ q e. or_left (mentions q i || mentions q x) (mentions_writes q ws) (or_left (mentions q i) (mentions q x) e)) agree)
        k)
        (polynomial_agrees x
        (fewer _ _ (λ q e. or_left (mentions q i || mentions q x) (mentions_writes q ws) (or_right (mentions q i) (mentions q x) e)) agree) k))

    pub array_agrees : (a : ArrayTerm) → AgreeOn (λ q. mentions_array q a) v w → contents v a ≡ contents w a
    array_agrees (Over b ws) agree = λ k. writes_agree ws (fewer _ _ (λ q. or_right (mentions_base q b) (mentions_writes q ws)) agree) k
        (base_agrees b (fewer _ _ (λ q. or_left (mentions_base q b) (mentions_writes q ws)) agree) k)

  list_base_agrees : (b : SeqBase) → AgreeOn (λ q. mentions_list_base q b) v w → items_of_base v b ≡ items_of_base w b
  list_base_agrees list.Empty agree = refl
  list_base_agrees (list.Sym p) agree = agree.lists p (own_pos p)

  items_agree : (ps : List Polynomial) → AgreeOn (λ q. mentions_items q ps) v w → map (value_of v) ps ≡ map (value_of w) ps
  items_agree [] agree = refl
  items_agree (p ∷ ps) agree = λ k. polynomial_agrees p (fewer _ _ (λ q. or_left (mentions q p) (mentions_items q ps)) agree) k
      ∷ items_agree ps (fewer _ _ (λ q. or_right (mentions q p) (mentions_items q ps)) agree) k

  pub list_agrees : (l : ListTerm) → AgreeOn (λ q. mentions_list q l) v w → items_in v l ≡ items_in w l
  list_agrees l agree = λ k. list_base_agrees l.base (fewer _ _ (λ q. or_left (mentions_list_base q l.base) (mentions_items q l.items)) agree) k
      ++ items_agree l.items (fewer _ _ (λ q. or_right (mentions_list_base q l.base) (mentions_items q l.items)) agree) k

pub ruleset agreements = (polynomial_agrees, array_agrees, list_agrees)
