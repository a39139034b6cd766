-- The text of a literal is one of the grammar and short, and stands for the literal again.
use Rattle.std.proofs.Common.{◌≡◌, ℕ, zero, suc, ◌+◌, ◌*◌, ◌^◌, ◌<◌, ◌≤◌, ℤ, pos, negsuc, neg_ℤ, true, ◌&&◌, List, length, refl, ap, ap₂, ◌∙◌, arith}
use Rattle.std.specs.Prelude.{◌≢◌, nat_le, unsigned_abs}
use Rattle.std.proofs.lemmas.Bool.Decides.{nat_tests}
use Rattle.std.specs.Cmp.{signed_Decides}
use Rattle.std.proofs.lemmas.Int.{ints}
use Rattle.std.proofs.lemmas.Bool.{and_parts}
use Rattle.fs_model.specs.Digits.{value_of_digits}
use Rattle.fs_model.specs.declared.sides.Pos.{Pos}
use Rattle.nf_trees.specs.NormalTerms as terms
use Rattle.nf_trees.specs.Measures.{size_of, depth_of}
use Rattle.nf_terms.specs.Normal.{is_light, narrow_inside, narrow, ordered}
use Rattle.nf_rel.specs.declared.kind.Kind.{Kind}
use Rattle.nf_rel.specs.declared.kind.Kind.TheVariants.{Ge, Le, Eq, Ne}
use Rattle.nf_rel.specs.Literals.{NormalLiteral, True, False, Is}
use Rattle.nf_rel.specs.NormalLiterals.{is_normal, is_primitive, is_inner_number, is_normal_literal, size_of_literal}
use Rattle.term_text.specs.TermTexts.{polynomial_text}
use Rattle.term_condition_text.specs.ConditionTexts.{integer_text, kind_text, condition_text, integer_spelled, SpellsCondition}
use Rattle.term_condition_text.proofs.Whole.{same_brackets}
use Rattle.term_values.specs.NameMeanings.{Find}
use Rattle.term_values.specs.TermValues.{exact}
use Rattle.term_values.specs.Conditions.{integer_value, condition_value}
use Rattle.term_writer.specs.NamedSymbols.{IsNamed, IsShort, OfLiteral}
use Rattle.term_writer.specs.WrittenTerms.{polynomial_written, integer_written, literal_written}
use Rattle.term_writer.proofs.Bound.{some_bound, short_number, three}
use Rattle.term_writer.proofs.Back.{digits_of, polynomial_back}
use Rattle.term_writer.proofs.Spelling.{polynomial_spells}
use Rattle.term_writer.proofs.Deep.{shallow}

pub inner_small : (z : ℤ) → is_inner_number z ≡ true → unsigned_abs z < 2 ^ 127
inner_small z e = grind (arith, ints, signed_Decides)

integer_short : (z : ℤ) → is_inner_number z ≡ true → length (integer_text (integer_written z)) ≤ 40
integer_short (pos zero) e = omega arith
integer_short (pos (suc n)) e = omega (arith, short_number (suc n) (inner_small (pos (suc n)) e))
integer_short (negsuc n) e = omega (arith, short_number (suc n) (inner_small (negsuc n) e))

kind_length : (k : Kind) → length (kind_text k) ≡ 4
kind_length Ge = refl
kind_length Le = refl
kind_length Eq = refl
kind_length Ne = refl

-- what holds of the parts of a literal in normal form
record Parts (d : terms.Polynomial) (b : ℤ) : Type 0 where
  pub rises : ordered d ≡ true
  pub low : depth_of d ≤ 64
  pub light : is_light d ≡ true
  pub inside : narrow_inside d ≡ true
  pub primitive : is_primitive d ≡ true
  pub inner : is_inner_number b ≡ true

low_depth : (n : ℕ) → nat_le n 64 ≡ true → n ≤ 64
low_depth n e = grind (arith, nat_tests)

parts : (d : terms.Polynomial) (k : Kind) (b : ℤ) → is_normal_literal (Is d k b) ≡ true → Parts d b
parts d k b e =
    let q = and_parts (is_normal d && is_primitive d) (is_inner_number b) e in
    let n = and_parts (is_normal d) (is_primitive d) q.0 in
    let w = and_parts (ordered d && nat_le (size_of d) 4096 && nat_le (depth_of d) 64) (narrow d) n.0 in
    let l = and_parts (is_light d) (narrow_inside d) w.1 in
    let o = and_parts (ordered d && nat_le (size_of d) 4096) (nat_le (depth_of d) 64) w.0 in
    record {
      rises = (and_parts (ordered d) (nat_le (size_of d) 4096) o.0).0;
      low = low_depth (depth_of d) o.1;
      light = l.0;
      inside = l.1;
      primitive = n.1;
      inner = q.1;
    }

-- ---- length

pub literal_bound : (name : Pos → List ℕ) (l : NormalLiteral) → OfLiteral (IsShort name) l → is_normal_literal l ≡ true
    → length (condition_text (literal_written name l)) + 3 ≤ 47 * size_of_literal l
literal_bound name True h e = omega arith
literal_bound name False h e = omega arith
literal_bound name (Is terms.Zero k b) h e = absurd cc
literal_bound name (Is (terms.Plus m c p) k b) h e =
    let d = terms.Plus m c p in
    let n = parts d k b e in
    omega (
      arith,
      three (polynomial_text (polynomial_written name d)) (kind_text k) (integer_text (integer_written b)),
      some_bound name m c p h n.light n.inside,
      kind_length k,
      integer_short b n.inner,
    )

-- ---- meaning

integer_back : (z : ℤ) → is_inner_number z ≡ true → integer_value value_of_digits (integer_written z) ≡ z
integer_back (pos zero) e = refl
integer_back (pos (suc n)) e = ap pos (digits_of (suc n) (inner_small (pos (suc n)) e)).value
integer_back (negsuc n) e = ap (λ k. neg_ℤ (pos k)) (digits_of (suc n) (inner_small (negsuc n) e)).value

pub literal_back : (name : Pos → List ℕ) (find : Find) (l : NormalLiteral) → OfLiteral (IsNamed name find) l → is_normal_literal l ≡ true → l ≢ True
    → condition_value (exact find) (literal_written name l) ≡ l
literal_back name find True h e n = absurd (n refl)
literal_back name find False h e n = refl
literal_back name find (Is d k b) h e n = let p = parts d k b e in
    ap₂ (λ q c. Is q k c) (polynomial_back name find d h p.light p.inside) (integer_back b p.inner)

-- ---- the grammar

integer_spells : (z : ℤ) → is_inner_number z ≡ true → integer_spelled (integer_written z) ≡ true
integer_spells (pos zero) e = refl
integer_spells (pos (suc n)) e = (digits_of (suc n) (inner_small (pos (suc n)) e)).positive (omega arith)
integer_spells (negsuc n) e = (digits_of (suc n) (inner_small (negsuc n) e)).positive (omega arith)

pub literal_spells : (name : Pos → List ℕ) (find : Find) (l : NormalLiteral) → OfLiteral (IsNamed name find) l → is_normal_literal l ≡ true
    → SpellsCondition (condition_text (literal_written name l)) (literal_written name l)
literal_spells name find True h e = record { spelled = refl; text = refl; shallow = refl }
literal_spells name find False h e = record { spelled = refl; text = refl; shallow = refl }
literal_spells name find (Is d k b) h e =
    let p = parts d k b e in
    let s = polynomial_spells name find d h p.light p.inside p.rises in
    let i = integer_spells b p.inner in
    record {
      spelled = rw (s, i) refl;
      text = refl;
      shallow = ap (λ n. nat_le n 64) (same_brackets (polynomial_written name d) k (integer_written b) s i) ∙ shallow name d s p.low;
    }
