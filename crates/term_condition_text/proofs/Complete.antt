-- The text of a comparison is taken apart into its parts.
use Rattle.std.proofs.Common.{◌≡◌, ℕ, ◌+◌, true, false, not, ◌==◌, ◌&&◌, List, [], ◌∷◌, ◌++◌, take, drop, length, Some, refl, ap, ◌∙◌, arith}
use Rattle.std.specs.List.{list_all, prefix_len}
use Rattle.std.proofs.Math.Seq.{take-append_seam, drop-append_seam}
use Rattle.std.proofs.lemmas.Bool.Decides.{nat_tests}
use Rattle.std.proofs.lemmas.Bool.{and_parts, not-true}
use Rattle.fs_model.specs.Words.{is_digit}
use Rattle.nf_rel.specs.declared.kind.Kind.{Kind}
use Rattle.nf_rel.specs.declared.kind.Kind.TheVariants.{Ge, Le, Eq, Ne}
use Rattle.term_text.specs.SpellableTerms.{is_number_text}
use Rattle.term_condition_text.specs.ConditionTexts.{Integer, ZeroInteger, Positive, Negative, integer_text, integer_spelled, kind_text}
use Rattle.term_condition_text.specs.ConditionParts.{is_plain, cut, relation_in, integer_of, condition_parts}
use Rattle.term_condition_text.proofs.Plain.{Plain}

-- the first sign of a relation stands behind a space
signs : (k : Kind) (rest : List ℕ) → prefix_len is_plain (kind_text k ++ rest) ≡ 1
signs Ge rest = refl
signs Le rest = refl
signs Eq rest = refl
signs Ne rest = refl

passed : (xs ys : List ℕ) (n : ℕ) → Plain xs → prefix_len is_plain ys ≡ n → prefix_len is_plain (xs ++ ys) ≡ length xs + n
passed [] ys n p e = omega (arith, e)
passed (x ∷ xs) ys n p e = let q = and_parts (is_plain x) (list_all is_plain xs) p in rw q.0 (omega (arith, passed xs ys n q.1 e))

cut_at : (k : Kind) (xs rest : List ℕ) → Plain xs → cut (xs ++ (kind_text k ++ rest)) ≡ length xs
cut_at k xs rest p = omega (arith, passed xs (kind_text k ++ rest) 1 p (signs k rest))

kind_again : (k : Kind) (rest : List ℕ) → relation_in (kind_text k ++ rest) ≡ Some (k, rest)
kind_again Ge rest = refl
kind_again Le rest = refl
kind_again Eq rest = refl
kind_again Ne rest = refl

no_minus : (d : ℕ) → is_digit d ≡ true → (d == 45) ≡ false
no_minus d e = grind (arith, nat_tests)

positive_by : (d : ℕ) (ds : List ℕ) → (d == 45) ≡ false → (d == 48) ≡ false → is_digit d ≡ true → list_all is_digit ds ≡ true
    → integer_of (d ∷ ds) ≡ Some (Positive (d ∷ ds))
positive_by d ds e f g h = rw (e, f, g, h) refl

negative_by : (ds : List ℕ) → is_number_text ds ≡ true → integer_of (45 ∷ ds) ≡ Some (Negative ds)
negative_by ds e = rw e refl

integer_again : (i : Integer) → integer_spelled i ≡ true → integer_of (integer_text i) ≡ Some i
integer_again ZeroInteger e = refl
integer_again (Positive []) e = absurd cc
integer_again (Positive (d ∷ ds)) e =
    let q = and_parts (is_digit d && not (d == 48)) (list_all is_digit ds) e in
    let p = and_parts (is_digit d) (not (d == 48)) q.0 in
    positive_by d ds (no_minus d p.0) (not-true (d == 48) p.1) p.0 q.1
integer_again (Negative ds) e = negative_by ds e

parted : (bytes front rest : List ℕ) (k : Kind) (i : Integer) → take (cut bytes) bytes ≡ front → relation_in (drop (cut bytes) bytes) ≡ Some (k, rest)
    → integer_of rest ≡ Some i → condition_parts bytes ≡ Some (front, k, i)
parted bytes front rest k i e f g = rw (f, g) (ap (λ x. Some (x, k, i)) e)

-- of a comparison's text
pub parts_again : (xs : List ℕ) (k : Kind) (i : Integer) → Plain xs → integer_spelled i ≡ true
    → condition_parts (xs ++ (kind_text k ++ integer_text i)) ≡ Some (xs, k, i)
parts_again xs k i p e =
    let rest = kind_text k ++ integer_text i in
    let c = cut_at k xs (integer_text i) p in
    parted (xs ++ rest) xs (integer_text i) k i
    (ap (λ n. take n (xs ++ rest)) c ∙ take-append_seam xs rest)
    (ap relation_in (ap (λ n. drop n (xs ++ rest)) c ∙ drop-append_seam xs rest) ∙ kind_again k (integer_text i))
    (integer_again i e)
