-- The bytes of written terms are plain, where those of names are: ASCII from the space on, no quotation mark and no backslash.
use Rattle.std.proofs.Common.{◌≡◌, ℕ, zero, suc, ◌+◌, ◌<◌, ◌==◌, ◌/◌, ◌%◌, ℤ, pos, negsuc, Bool, true, false, not, cond, ◌&&◌, List, [], ◌∷◌, ◌++◌, codes}
use Rattle.std.proofs.Common.{decimal, refl, subst, sym, arith}
use Rattle.std.specs.Prelude.{nat_le, unsigned_abs}
use Rattle.std.specs.Fmt.{digits, digits_onto, digit_glyph}
use Rattle.std.specs.List.{list_all}
use Rattle.std.proofs.lemmas.Bool.Decides.{nat_tests}
use Rattle.std.proofs.lemmas.Bool.{and_parts, and_from}
use Rattle.fs_model.specs.Words.{is_word_byte}
use Rattle.fs_model.specs.declared.sides.Pos.{Pos}
use Rattle.fs_model.specs.declared.sides.Side.{Side}
use Rattle.fs_model.specs.declared.sides.Side.TheVariants as sides
use Rattle.nf_trees.specs.declared.tree.Base.{Base}
use Rattle.nf_trees.specs.declared.tree.Base.TheVariants as bases
use Rattle.nf_terms.specs.declared.tree.SeqBase.{SeqBase}
use Rattle.nf_terms.specs.declared.tree.SeqBase.TheVariants as list_bases
use Rattle.nf_trees.specs.NormalTerms as terms
use Rattle.nf_terms.specs.Lists as lists
use Rattle.nf_rel.specs.declared.kind.Kind.{Kind}
use Rattle.nf_rel.specs.declared.kind.Kind.TheVariants.{Ge, Le, Eq, Ne}
use Rattle.nf_rel.specs.Literals.{NormalLiteral, True, False, Is}
use Rattle.term_text.specs.TermTexts.{symbol_text, polynomial_text, array_text, list_text}
use Rattle.term_condition_text.specs.ConditionTexts.{integer_text, kind_text, condition_text}
use Rattle.term_writer.specs.WrittenTerms.{polynomial_written, array_written, list_written, integer_written, literal_written}
use Rattle.term_writer.specs.Direct.{factor, sign, separator, head_direct, base_direct, atom_direct, atoms_direct, terms_direct, polynomial_direct}
use Rattle.term_writer.specs.Direct.{writes_direct, array_direct, list_base_direct, items_direct}
use Rattle.term_writer.proofs.Directly.{polynomial_same, array_same, list_same}

abbrev pub is_plain : ℕ → Bool
is_plain b = nat_le 32 b && nat_le b 126 && not (b == 34) && not (b == 92)

abbrev pub ArePlain : List ℕ → Type 0
ArePlain bs = list_all is_plain bs ≡ true

pub word_plain : (b : ℕ) → is_word_byte b ≡ true → is_plain b ≡ true
word_plain b e = grind (arith, nat_tests)

pub words_plain : (bs : List ℕ) → list_all is_word_byte bs ≡ true → ArePlain bs
words_plain [] e = refl
words_plain (b ∷ bs) e = let p = and_parts (is_word_byte b) (list_all is_word_byte bs) e in
    and_from (is_plain b) (list_all is_plain bs) (word_plain b p.0) (words_plain bs p.1)

pub together : (xs ys : List ℕ) → ArePlain xs → ArePlain ys → ArePlain (xs ++ ys)
together [] ys e f = f
together (x ∷ xs) ys e f = let p = and_parts (is_plain x) (list_all is_plain xs) e in
    and_from (is_plain x) (list_all is_plain (xs ++ ys)) p.0 (together xs ys p.1 f)

digit_plain : (n : ℕ) → n < 10 → is_plain (48 + n) ≡ true
digit_plain n h = grind (arith, nat_tests)

glyph_plain : (n : ℕ) → is_plain (digit_glyph false (n % 10)) ≡ true
glyph_plain n = let low : n % 10 < 10 = omega arith in grind (arith, nat_tests)

either : (b : Bool) (xs ys : List ℕ) → ArePlain xs → ArePlain ys → ArePlain (cond b xs ys)
either true xs ys e f = e
either false xs ys e f = f

digits_plain : (k n : ℕ) (acc : List ℕ) → ArePlain acc → ArePlain (digits_onto k 10 false n acc)
digits_plain zero n acc e = e
digits_plain (suc k) n acc e =
    let d = digit_glyph false (n % 10) in
    let more : ArePlain (d ∷ acc) = and_from (is_plain d) (list_all is_plain acc) (glyph_plain n) e in
    either (n / 10 == 0) (d ∷ acc) (digits_onto k 10 false (n / 10) (d ∷ acc)) more (digits_plain k (n / 10) (d ∷ acc) more)

pub decimal_plain : (n : ℕ) → ArePlain (decimal n)
unfolding digits
decimal_plain n = digits_plain 64 n [] refl

pub symbol_plain : (s : Side) (x : List ℕ) → ArePlain x → ArePlain (symbol_text s x)
symbol_plain sides.Left x e = together (codes "L.") x refl e
symbol_plain sides.Right x e = together (codes "R.") x refl e

factor_plain : (n : ℕ) → ArePlain (factor n)
factor_plain n = either (n == 1) [] (decimal n ++ codes "*") refl (together (decimal n) (codes "*") (decimal_plain n) refl)

head_plain : (n : ℕ) (m : terms.Monomial) → ArePlain (head_direct n m)
head_plain n terms.One = decimal_plain n
head_plain n (terms.Times a m) = factor_plain n

sign_plain : (b : Bool) (c : ℤ) → ArePlain (sign b c)
sign_plain true (pos n) = refl
sign_plain true (negsuc n) = refl
sign_plain false (pos n) = refl
sign_plain false (negsuc n) = refl

separator_plain : (b : Bool) → ArePlain (separator b)
separator_plain true = refl
separator_plain false = refl

integer_plain : (z : ℤ) → ArePlain (integer_text (integer_written z))
integer_plain (pos zero) = refl
integer_plain (pos (suc n)) = decimal_plain (suc n)
integer_plain (negsuc n) = together (codes "-") (decimal (suc n)) refl (decimal_plain (suc n))

kind_plain : (k : Kind) → ArePlain (kind_text k)
kind_plain Ge = refl
kind_plain Le = refl
kind_plain Eq = refl
kind_plain Ne = refl

-- a text between two others
between : (xs ys zs : List ℕ) → ArePlain xs → ArePlain ys → ArePlain zs → ArePlain (xs ++ (ys ++ zs))
between xs ys zs e f g = together xs (ys ++ zs) e (together ys zs f g)

signed_plain : (is_first : Bool) (c : ℤ) (m : terms.Monomial) (atoms rest : List ℕ) → ArePlain atoms → ArePlain rest
    → ArePlain (sign is_first c ++ ((head_direct (unsigned_abs c) m ++ atoms) ++ rest))
signed_plain is_first c m atoms rest e f = between (sign is_first c) (head_direct (unsigned_abs c) m ++ atoms) rest (sign_plain is_first c)
    (together (head_direct (unsigned_abs c) m) atoms (head_plain (unsigned_abs c) m) e) f

operands_plain : (xs ys zs : List ℕ) → ArePlain xs → ArePlain ys → ArePlain zs → ArePlain (xs ++ (ys ++ (codes ", " ++ (zs ++ codes ")"))))
operands_plain xs ys zs e f g = between xs ys _ e f (between (codes ", ") zs (codes ")") refl g refl)

module _ (name : Pos → List ℕ) (plain : (p : Pos) → ArePlain (name p)) where
  base_plain : (b : Base) → ArePlain (base_direct name b)
  base_plain bases.Zero = refl
  base_plain (bases.Sym p) = symbol_plain p.side (name p) (plain p)

  mutual
    atom_plain : (a : terms.Atom) → ArePlain (atom_direct name a)
    atom_plain (terms.Symbol p) = symbol_plain p.side (name p) (plain p)
    atom_plain (terms.Read a i) = together (array_direct name a) _ (array_plain a)
        (between (codes "[") (polynomial_direct name i) (codes "]") refl (polynomial_plain i) refl)
    atom_plain (terms.Quotient a b) = operands_plain (codes "div(") (polynomial_direct name a) (polynomial_direct name b) refl (polynomial_plain a)
        (polynomial_plain b)
    atom_plain (terms.Remainder a b) = operands_plain (codes "rem(") (polynomial_direct name a) (polynomial_direct name b) refl (polynomial_plain a)
        (polynomial_plain b)

    atoms_plain : (is_first : Bool) (m : terms.Monomial) → ArePlain (atoms_direct name is_first m)
    atoms_plain is_first terms.One = refl
    atoms_plain is_first (terms.Times a m) = between (separator is_first) (atom_direct name a) (atoms_direct name false m) (separator_plain is_first)
        (atom_plain a) (atoms_plain false m)

    terms_plain : (is_first : Bool) (p : terms.Polynomial) → ArePlain (terms_direct name is_first p)
    terms_plain is_first terms.Zero = refl
    terms_plain is_first (terms.Plus m c p) = signed_plain is_first c m (atoms_direct name true m) (terms_direct name false p) (atoms_plain true m)
        (terms_plain false p)

    polynomial_plain : (p : terms.Polynomial) → ArePlain (polynomial_direct name p)
    polynomial_plain terms.Zero = refl
    polynomial_plain (terms.Plus m c p) = signed_plain true c m (atoms_direct name true m) (terms_direct name false p) (atoms_plain true m)
        (terms_plain false p)

    writes_plain : (ws : terms.Writes) → ArePlain (writes_direct name ws)
    writes_plain terms.NoWrites = refl
    writes_plain (terms.Write i v ws) =
        between (codes "{") (polynomial_direct name i) _ refl (polynomial_plain i)
        (between (codes ": ") (polynomial_direct name v) _ refl (polynomial_plain v) (together (codes "}") (writes_direct name ws) refl (writes_plain ws)))

    array_plain : (a : terms.ArrayTerm) → ArePlain (array_direct name a)
    array_plain (terms.Over b ws) = together (base_direct name b) (writes_direct name ws) (base_plain b) (writes_plain ws)

  list_base_plain : (b : SeqBase) → ArePlain (list_base_direct name b)
  list_base_plain list_bases.Empty = refl
  list_base_plain (list_bases.Sym p) = symbol_plain p.side (name p) (plain p)

  items_plain : (ps : List terms.Polynomial) → ArePlain (items_direct name ps)
  items_plain [] = refl
  items_plain (p ∷ ps) = between (codes "{") (polynomial_direct name p) _ refl (polynomial_plain p)
      (together (codes "}") (items_direct name ps) refl (items_plain ps))

  pub polynomial_text_plain : (p : terms.Polynomial) → ArePlain (polynomial_text (polynomial_written name p))
  polynomial_text_plain p = subst ArePlain (sym (polynomial_same name p)) (polynomial_plain p)

  pub array_text_plain : (a : terms.ArrayTerm) → ArePlain (array_text (array_written name a))
  array_text_plain a = subst ArePlain (sym (array_same name a)) (array_plain a)

  pub list_text_plain : (l : lists.ListTerm) → ArePlain (list_text (list_written name l))
  list_text_plain l = subst ArePlain (sym (list_same name l))
      (together (list_base_direct name l.base) (items_direct name l.items) (list_base_plain l.base) (items_plain l.items))

  pub condition_text_plain : (l : NormalLiteral) → ArePlain (condition_text (literal_written name l))
  condition_text_plain True = refl
  condition_text_plain False = refl
  condition_text_plain (Is d k b) = between (polynomial_text (polynomial_written name d)) (kind_text k) (integer_text (integer_written b))
      (polynomial_text_plain d) (kind_plain k) (integer_plain b)
