-- What is put out from the front on is the text of the written term.
use Rattle.std.proofs.Common.{◌≡◌, ℕ, ◌==◌, ℤ, pos, negsuc, Bool, true, false, cond, List, [], ◌∷◌, ◌++◌, codes, decimal, refl, sym, ap, ap₂, ◌∙◌, append_assoc}
use Rattle.std.proofs.Common.{append-nil}
use Rattle.std.specs.Prelude.{unsigned_abs}
use Rattle.fs_model.specs.declared.sides.Pos.{Pos}
use Rattle.nf_trees.specs.declared.tree.Base.TheVariants as bases
use Rattle.nf_terms.specs.declared.tree.SeqBase.{SeqBase}
use Rattle.nf_terms.specs.declared.tree.SeqBase.TheVariants as list_bases
use Rattle.nf_trees.specs.NormalTerms as terms
use Rattle.nf_terms.specs.Lists as lists
use Rattle.term_text.specs.TermTexts.{Atom, Monomial, Sum, ArrayTerm, ListSyntax, Number, One, Times, ZeroArray, Bare, Written, Pushed, atom_text}
use Rattle.term_text.specs.TermTexts.{monomial_text, sum_text, polynomial_text, array_text, list_text}
use Rattle.term_writer.specs.WrittenTerms.{sum_of_term, sum_with_term, atom_written, times_written, monomial_written, sum_written, polynomial_written}
use Rattle.term_writer.specs.WrittenTerms.{writes_written}
use Rattle.term_writer.specs.WrittenTerms.{array_written, items_written, list_base_written, list_written, integer_written, literal_written}
use Rattle.nf_rel.specs.declared.kind.Kind.{Kind}
use Rattle.nf_rel.specs.Literals.{Is}
use Rattle.term_condition_text.specs.ConditionTexts.{kind_text, integer_text, condition_text}
use Rattle.term_writer.specs.Direct.{factor, sign, atom_direct, atoms_direct, monomial_direct, terms_direct, polynomial_direct, writes_direct, array_direct}
use Rattle.term_writer.specs.Direct.{list_base_direct, items_direct}

head_text : (b : Bool) (ds : List ℕ) (a : Atom) → monomial_text (cond b (One a) (Times (Number ds) a)) ≡ cond b [] (ds ++ codes "*") ++ atom_text a
head_text true ds a = refl
head_text false ds a = sym (append_assoc ds (codes "*") (atom_text a))

begun_text : (c : ℤ) (m : Monomial) → sum_text (sum_of_term c m) ≡ sign true c ++ monomial_text m
begun_text (pos n) m = refl
begun_text (negsuc n) m = refl

continued_text : (s : Sum) (c : ℤ) (m : Monomial) → sum_text (sum_with_term s c m) ≡ sum_text s ++ (sign false c ++ monomial_text m)
continued_text s (pos n) m = refl
continued_text s (negsuc n) m = refl

mutual
  atom_same : (name : Pos → List ℕ) (a : terms.Atom) → atom_text (atom_written name a) ≡ atom_direct name a
  atom_same name (terms.Symbol p) = refl
  atom_same name (terms.Read a i) = ap₂ (λ (xs ys : List ℕ). xs ++ (codes "[" ++ (ys ++ codes "]"))) (array_same name a) (polynomial_same name i)
  atom_same name (terms.Quotient a b) = ap₂ (λ (xs ys : List ℕ). codes "div(" ++ (xs ++ (codes ", " ++ (ys ++ codes ")")))) (polynomial_same name a)
      (polynomial_same name b)
  atom_same name (terms.Remainder a b) = ap₂ (λ (xs ys : List ℕ). codes "rem(" ++ (xs ++ (codes ", " ++ (ys ++ codes ")")))) (polynomial_same name a)
      (polynomial_same name b)

  times_same : (name : Pos → List ℕ) (w : Monomial) (m : terms.Monomial) → monomial_text (times_written name w m) ≡ monomial_text w ++ atoms_direct name false m
  times_same name w terms.One = sym (append-nil (monomial_text w))
  times_same name w (terms.Times a m) =
      times_same name (Times w (atom_written name a)) m ∙ ap (λ (xs : List ℕ). (monomial_text w ++ (codes "*" ++ xs)) ++ atoms_direct name false m)
      (atom_same name a)
      ∙ append_assoc (monomial_text w) (codes "*" ++ atom_direct name a) (atoms_direct name false m)

  monomial_same : (name : Pos → List ℕ) (n : ℕ) (m : terms.Monomial) → monomial_text (monomial_written name n m) ≡ monomial_direct name n m
  monomial_same name n terms.One = sym (append-nil (decimal n))
  monomial_same name n (terms.Times a m) =
      times_same name (cond (n == 1) (One (atom_written name a)) (Times (Number (decimal n)) (atom_written name a))) m
      ∙ ap (λ (xs : List ℕ). xs ++ atoms_direct name false m)
      (head_text (n == 1) (decimal n) (atom_written name a) ∙ ap (λ (xs : List ℕ). factor n ++ xs) (atom_same name a))
      ∙ append_assoc (factor n) (atom_direct name a) (atoms_direct name false m)

  sum_same : (name : Pos → List ℕ) (s : Sum) (p : terms.Polynomial) → sum_text (sum_written name s p) ≡ sum_text s ++ terms_direct name false p
  sum_same name s terms.Zero = sym (append-nil (sum_text s))
  sum_same name s (terms.Plus m c p) =
      let w = monomial_written name (unsigned_abs c) m in
      sum_same name (sum_with_term s c w) p
      ∙ ap (λ (xs : List ℕ). xs ++ terms_direct name false p)
      (continued_text s c w ∙ ap (λ (xs : List ℕ). sum_text s ++ (sign false c ++ xs)) (monomial_same name (unsigned_abs c) m))
      ∙ append_assoc (sum_text s) (sign false c ++ monomial_direct name (unsigned_abs c) m) (terms_direct name false p)
      ∙ ap (λ (xs : List ℕ). sum_text s ++ xs) (append_assoc (sign false c) (monomial_direct name (unsigned_abs c) m) (terms_direct name false p))

  pub polynomial_same : (name : Pos → List ℕ) (p : terms.Polynomial) → polynomial_text (polynomial_written name p) ≡ polynomial_direct name p
  polynomial_same name terms.Zero = refl
  polynomial_same name (terms.Plus m c p) =
      let w = monomial_written name (unsigned_abs c) m in
      sum_same name (sum_of_term c w) p
      ∙ ap (λ (xs : List ℕ). xs ++ terms_direct name false p) (begun_text c w ∙ ap (λ (xs : List ℕ). sign true c ++ xs) (monomial_same name (unsigned_abs c) m))
      ∙ append_assoc (sign true c) (monomial_direct name (unsigned_abs c) m) (terms_direct name false p)

  writes_same : (name : Pos → List ℕ) (w : ArrayTerm) (ws : terms.Writes) → array_text (writes_written name w ws) ≡ array_text w ++ writes_direct name ws
  writes_same name w terms.NoWrites = sym (append-nil (array_text w))
  writes_same name w (terms.Write i v ws) =
      let regroup : (array_text w ++ (codes "{" ++ (polynomial_direct name i ++ (codes ": " ++ (polynomial_direct name v ++ codes "}")))))
      ++ writes_direct name ws ≡ array_text w ++ writes_direct name (terms.Write i v ws) = simp append_assoc in
      writes_same name (Written w (polynomial_written name i) (polynomial_written name v)) ws
      ∙ ap₂ (λ (xs ys : List ℕ). (array_text w ++ (codes "{" ++ (xs ++ (codes ": " ++ (ys ++ codes "}"))))) ++ writes_direct name ws) (polynomial_same name i)
      (polynomial_same name v) ∙ regroup

  pub array_same : (name : Pos → List ℕ) (a : terms.ArrayTerm) → array_text (array_written name a) ≡ array_direct name a
  array_same name (terms.Over bases.Zero ws) = writes_same name ZeroArray ws
  array_same name (terms.Over (bases.Sym p) ws) = writes_same name (Bare p.side (name p)) ws

items_same : (name : Pos → List ℕ) (l : ListSyntax) (ps : List terms.Polynomial) → list_text (items_written name l ps) ≡ list_text l ++ items_direct name ps
items_same name l [] = sym (append-nil (list_text l))
items_same name l (p ∷ ps) =
    let regroup : (list_text l ++ (codes "{" ++ (polynomial_direct name p ++ codes "}"))) ++ items_direct name ps ≡ list_text l ++ items_direct name (p ∷ ps) =
    simp append_assoc in
    items_same name (Pushed l (polynomial_written name p)) ps
    ∙ ap (λ (xs : List ℕ). (list_text l ++ (codes "{" ++ (xs ++ codes "}"))) ++ items_direct name ps) (polynomial_same name p) ∙ regroup

base_same : (name : Pos → List ℕ) (b : SeqBase) → list_text (list_base_written name b) ≡ list_base_direct name b
base_same name list_bases.Empty = refl
base_same name (list_bases.Sym p) = refl

pub list_same : (name : Pos → List ℕ) (l : lists.ListTerm) → list_text (list_written name l) ≡ list_base_direct name l.base ++ items_direct name l.items
list_same name l = items_same name (list_base_written name l.base) l.items ∙ ap (λ (xs : List ℕ). xs ++ items_direct name l.items) (base_same name l.base)

-- of a list's parts, and of a literal's
pub list_parts : (name : Pos → List ℕ) (l : lists.ListTerm) (b : SeqBase) (ps : List terms.Polynomial) → b ≡ l.base → ps ≡ l.items
    → list_base_direct name b ++ items_direct name ps ≡ list_text (list_written name l)
list_parts name l b ps e f = ap₂ (λ c qs. list_base_direct name c ++ items_direct name qs) e f ∙ sym (list_same name l)

pub literal_same : (name : Pos → List ℕ) (d : terms.Polynomial) (k : Kind) (b : ℤ)
    → polynomial_direct name d ++ (kind_text k ++ integer_text (integer_written b)) ≡ condition_text (literal_written name (Is d k b))
literal_same name d k b = ap (λ (xs : List ℕ). xs ++ (kind_text k ++ integer_text (integer_written b))) (sym (polynomial_same name d))
