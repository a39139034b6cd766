-- The names of machines, and so the texts of a certificate, have plain bytes; so they are UTF-8.
use Rattle.std.proofs.Common.{◌≡◌, ℕ, zero, suc, ◌<◌, ◌≤◌, true, not, ◌&&◌, List, [], ◌∷◌, ◌++◌, length, get_or, IsUtf8, refl, sym, ap, ◌∙◌, subst, arith}
use Rattle.std.specs.Prelude.{nat_le, slice_get, IsTrue}
use Rattle.std.specs.List.{list_all}
use Rattle.std.proofs.lemmas.Bool.Decides.{nat_tests}
use Rattle.std.proofs.lemmas.Str.{IsUtf8-from_ascii}
use Rattle.std.proofs.lemmas.Bool.{or_left}
use Rattle.fs_model.proofs.Booleans.{and_first, and_second}
use Rattle.fs_model.specs.SoundMachines.{IsSound}
use Rattle.fs_model.specs.declared.parts.VarInfo.{VarInfo}
use Rattle.fs_model.specs.Words.{is_name, is_word, is_word_byte, is_letter, is_reserved}
use Rattle.fs_model.specs.Machines.{Fsmd}
use Rattle.fs_model.specs.declared.sides.Pos.{Pos}
use Rattle.fs_model.specs.declared.sides.Side.{Side}
use Rattle.fs_model.specs.declared.sides.Side.TheVariants as sides
use Rattle.fs_model.specs.VariableNames.{name_or_nothing}
use Rattle.nf_terms.specs.declared.form.Nf.{Nf}
use Rattle.nf_terms.specs.declared.form.Nf.TheVariants.{Num, Arr, Seq}
use Rattle.nf_rel.specs.Literals.{NormalLiteral}
use Rattle.fs_pair.specs.Partners.{variables_on, position_name}
use Rattle.term_text.specs.TermTexts.{symbol_text}
use Rattle.term_writer.proofs.Plain.{is_plain, ArePlain, words_plain, symbol_plain, polynomial_text_plain, array_text_plain, list_text_plain}
use Rattle.term_writer.proofs.Plain.{condition_text_plain}
use Rattle.cert_writer.specs.WrittenCertificates.{form_written, literal_bytes}

-- ---- names

word_all : (x : List ℕ) → is_word x ≡ true → list_all is_word_byte x ≡ true
word_all [] e = refl
word_all (b ∷ bs) e = rw (
  or_left (is_letter b) _ (and_first (is_letter b) (list_all is_word_byte bs) e),
  and_second (is_letter b) (list_all is_word_byte bs) e,
) refl

pub name_plain : (x : List ℕ) → is_name x ≡ true → ArePlain x
name_plain x e =
    words_plain x (word_all x (and_first (is_word x) (nat_le (length x) 32) (and_first (is_word x && nat_le (length x) 32) (not (is_reserved x)) e)))

pub name_short : (x : List ℕ) → is_name x ≡ true → length x ≤ 32
name_short x e = let h = and_second (is_word x) (nat_le (length x) 32) (and_first (is_word x && nat_le (length x) 32) (not (is_reserved x)) e) in
    grind (arith, nat_tests)

-- what holds of names and of the empty one holds of each variable's
of_variables : (P : List ℕ → Type 0) → P [] → ((x : List ℕ) → is_name x ≡ true → P x) → (vs : List VarInfo) (k : ℕ) → list_all (λ v. is_name v.name) vs ≡ true
    → P (name_or_nothing (slice_get vs k))
of_variables P none some [] k e = none
of_variables P none some (v ∷ vs) zero e = some v.name (and_first (is_name v.name) (list_all (λ (u : VarInfo). is_name u.name) vs) e)
of_variables P none some (v ∷ vs) (suc k) e = of_variables P none some vs k (and_second (is_name v.name) (list_all (λ (u : VarInfo). is_name u.name) vs) e)

of_names : (P : List ℕ → Type 0) → P [] → ((x : List ℕ) → is_name x ≡ true → P x) → (a b : Fsmd) → IsSound a → IsSound b → (p : Pos) → P (position_name a b p)
of_names P none some a b s t p = by_side p.side
  where
    by_side : (side : Side) → P (name_or_nothing (slice_get (variables_on side a b) p.var))
    by_side sides.Left = of_variables P none some a.variables p.var s.variables_named
    by_side sides.Right = of_variables P none some b.variables p.var t.variables_named

pub names_plain : (a b : Fsmd) → IsSound a → IsSound b → (p : Pos) → ArePlain (position_name a b p)
names_plain = of_names ArePlain refl name_plain

pub names_short : (a b : Fsmd) → IsSound a → IsSound b → (p : Pos) → length (position_name a b p) ≤ 32
names_short = of_names (λ x. length x ≤ 32) (omega arith) name_short

-- ---- texts

pub form_plain : (a b : Fsmd) → IsSound a → IsSound b → (f : Nf) → ArePlain (form_written (position_name a b) f)
form_plain a b s t (Num p) = polynomial_text_plain (position_name a b) (names_plain a b s t) p
form_plain a b s t (Arr x) = array_text_plain (position_name a b) (names_plain a b s t) x
form_plain a b s t (Seq l) = list_text_plain (position_name a b) (names_plain a b s t) l

pub key_plain : (a b : Fsmd) → IsSound a → IsSound b → (p : Pos) → ArePlain (symbol_text p.side (position_name a b p))
key_plain a b s t p = symbol_plain p.side (position_name a b p) (names_plain a b s t p)

pub literal_plain : (a b : Fsmd) → IsSound a → IsSound b → (l : NormalLiteral) → ArePlain (literal_bytes (position_name a b) l)
literal_plain a b s t l = condition_text_plain (position_name a b) (names_plain a b s t) l

-- ---- UTF-8

low : (b : ℕ) → is_plain b ≡ true → b < 128
low b e = grind (arith, nat_tests)

ascii : (bs : List ℕ) → ArePlain bs → (i : ℕ) → get_or bs i 0 < 128
ascii [] e i = omega arith
ascii (b ∷ bs) e zero = low b (and_first (is_plain b) (list_all is_plain bs) e)
ascii (b ∷ bs) e (suc i) = ascii bs (and_second (is_plain b) (list_all is_plain bs) e) i

plain_utf8 : (bs xs : List ℕ) → bs ≡ xs → ArePlain xs → IsUtf8 bs
plain_utf8 bs xs e h = IsUtf8-from_ascii bs (ascii bs (subst ArePlain (sym e) h))

pub name_utf8 : (x : List ℕ) → IsTrue (is_name x) → IsUtf8 x
name_utf8 x e = plain_utf8 x x refl (name_plain x e)

pub form_utf8 : (a b : Fsmd) → IsSound a → IsSound b → (f : Nf) (bs : List ℕ) → bs ≡ form_written (position_name a b) f → IsUtf8 bs
form_utf8 a b s t f bs e = plain_utf8 bs _ e (form_plain a b s t f)

-- what was added to nothing
pub symbol_utf8 : (a b : Fsmd) → IsSound a → IsSound b → (p : Pos) (old new : List ℕ) → old ≡ []
    → new ≡ old ++ symbol_text p.side (position_name a b p) → IsUtf8 new
symbol_utf8 a b s t p old new e f = plain_utf8 new _ (f ∙ ap (λ (xs : List ℕ). xs ++ symbol_text p.side (position_name a b p)) e) (key_plain a b s t p)

pub literal_utf8 : (a b : Fsmd) → IsSound a → IsSound b → (l : NormalLiteral) (old new : List ℕ) → old ≡ []
    → new ≡ old ++ literal_bytes (position_name a b) l → IsUtf8 new
literal_utf8 a b s t l old new e f = plain_utf8 new _ (f ∙ ap (λ (xs : List ℕ). xs ++ literal_bytes (position_name a b) l) e) (literal_plain a b s t l)
