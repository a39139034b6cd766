-- Conditions as they are written, and their texts.
use Rattle.std.specs.Prelude.{◌≡◌, ℕ, nat_le, Bool, true, ◌&&◌, List, ◌++◌, codes}
use Rattle.nf_terms.specs.TermLimits.{depth_limit}
use Rattle.nf_rel.specs.declared.kind.Kind.{Kind}
use Rattle.nf_rel.specs.declared.kind.Kind.TheVariants.{Ge, Le, Eq, Ne}
use Rattle.term_text.specs.TermTexts.{Polynomial, polynomial_text}
use Rattle.term_text.specs.SpellableTerms.{is_number_text, polynomial_spelled}
use Rattle.term_text.specs.Brackets.{most_open}

-- integer = "0" | [ "-" ] number
pub data Integer : Type 0 where
  ZeroInteger : Integer
  Positive : List ℕ → Integer
  Negative : List ℕ → Integer

-- condition = "false" | polynomial ( " >= " | " <= " | " == " | " != " ) integer
pub data Condition : Type 0 where
  False : Condition
  Compared : Polynomial → Kind → Integer → Condition

abbrev pub integer_text : Integer → List ℕ
integer_text ZeroInteger = codes "0"
integer_text (Positive ds) = ds
integer_text (Negative ds) = codes "-" ++ ds

abbrev pub kind_text : Kind → List ℕ
kind_text Ge = codes " >= "
kind_text Le = codes " <= "
kind_text Eq = codes " == "
kind_text Ne = codes " != "

abbrev pub condition_text : Condition → List ℕ
condition_text False = codes "false"
condition_text (Compared p k i) = polynomial_text p ++ (kind_text k ++ integer_text i)

abbrev pub integer_spelled : Integer → Bool
integer_spelled ZeroInteger = true
integer_spelled (Positive ds) = is_number_text ds
integer_spelled (Negative ds) = is_number_text ds

abbrev pub condition_spelled : Condition → Bool
condition_spelled False = true
condition_spelled (Compared p k i) = polynomial_spelled p && integer_spelled i

-- the bytes are the text of this condition, and at most 64 brackets are open at once
pub record SpellsCondition (bytes : List ℕ) (c : Condition) : Type 0 where
  pub spelled : condition_spelled c ≡ true
  pub text : bytes ≡ condition_text c
  pub shallow : nat_le (most_open 0 bytes) depth_limit ≡ true
