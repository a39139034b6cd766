-- Literals in normal form, and conditions without fault.
use Rattle.std.proofs.Common.{◌≡◌, ℕ, true, false, ◌&&◌, ℤ, pos, neg_ℤ, List, Some, None, Result, Ok, Err, refl, sym, ap, ap₂, ◌∙◌, arith}
use Rattle.std.specs.Prelude.{IfOk, IfErr}
use Rattle.std.specs.Option.{option_or}
use Rattle.std.specs.Cmp.{signed_Decides}
use Rattle.std.proofs.lemmas.Int.{ints}
use Rattle.std.proofs.lemmas.Bool.{and_parts, and_left, and_from, and_right}
use Rattle.fs_model.specs.Digits.{value_of_digits}
use Rattle.nf_trees.specs.NormalTerms.{Polynomial}
use Rattle.nf_terms.specs.Normal.{IsNormal}
use Rattle.nf_rel.specs.declared.kind.Kind.{Kind}
use Rattle.nf_rel.specs.declared.kind.Kind.TheVariants.{Ge, Le, Eq, Ne}
use Rattle.nf_rel.specs.Literals.{NormalLiteral, Is}
use Rattle.nf_rel.specs.Bounds.{in_range, within, most, below_most}
use Rattle.nf_rel.specs.NormalLiterals.{is_normal, is_primitive, is_inner_number, is_normal_literal}
use Rattle.nf_rel.proofs.NormalForms.{normal_is}
use Rattle.term_condition_text.specs.ConditionTexts as conditions
use Rattle.term_condition_text.specs.ConditionTexts.{Integer, ZeroInteger, Positive, Negative, Condition}
use Rattle.term_values.specs.declared.faults.TermError.{TermError}
use Rattle.term_values.specs.declared.faults.TermError.TheVariants.{BadTerm, NumberTooBig, UnknownName, SortOf, NotNormal, NoMemory}
use Rattle.term_values.specs.NameMeanings.{Find}
use Rattle.term_condition_text.specs.DigitNumbers.{clipped_number}
use Rattle.term_values.specs.TermValues.{within_limit, exact}
use Rattle.term_values.specs.Checks.{numbers_fit, polynomial_passes}
use Rattle.term_values.specs.Conditions.{integer_value, condition_value, integer_passes, written_condition_passes}
use Rattle.term_values.specs.TermFaults.{unless, fault_by, IsJudgedAs, IsLiteralOf, ConditionHasFault, IsRefusedCondition}
use Rattle.term_values.proofs.Exact.{number_exact, polynomial_exact}
use Rattle.term_values.proofs.Refusals.{fits, faultless_by, not_normal_by, not_bad}

wider : (b : ℤ) → within (neg_ℤ below_most) below_most b ≡ true → (within (neg_ℤ below_most) most b ≡ true) × (within (neg_ℤ most) below_most b ≡ true)
wider b e = (grind (arith, ints, signed_Decides), grind (arith, ints, signed_Decides))

-- an inner bound is in the range of each relation
pub inner_in_range : (k : Kind) (b : ℤ) → is_inner_number b ≡ true → in_range k b ≡ true
inner_in_range Ge b e = (wider b e).0
inner_in_range Le b e = (wider b e).1
inner_in_range Eq b e = e
inner_in_range Ne b e = e

-- a literal of a normal direction
pub literal_normal : (d : Polynomial) (k : Kind) (b : ℤ) → IsNormal d → is_primitive d ≡ true → is_inner_number b ≡ true → is_normal_literal (Is d k b) ≡ true
literal_normal d k b n e f = and_from (is_normal d && is_primitive d) (is_inner_number b) (and_from (is_normal d) (is_primitive d) (normal_is d n) e) f

pub outer_bound : (d : Polynomial) (k : Kind) (b : ℤ) → is_inner_number b ≡ false → is_normal_literal (Is d k b) ≡ false
outer_bound d k b e = and_right (is_normal d && is_primitive d) (is_inner_number b) e

pub no_direction : (d : Polynomial) (k : Kind) (b : ℤ) → is_primitive d ≡ false → is_normal_literal (Is d k b) ≡ false
no_direction d k b e = and_left (is_normal d && is_primitive d) (is_inner_number b) (and_right (is_normal d) (is_primitive d) e)

pub no_polynomial : (d : Polynomial) (k : Kind) (b : ℤ) → is_normal d ≡ false → is_normal_literal (Is d k b) ≡ false
no_polynomial d k b e = and_left (is_normal d && is_primitive d) (is_inner_number b) (and_left (is_normal d) (is_primitive d) e)

-- ---- exact numbers

integer_exact : (i : Integer) → integer_passes numbers_fit i ≡ true → integer_value clipped_number i ≡ integer_value value_of_digits i
integer_exact ZeroInteger e = refl
integer_exact (Positive ds) e = ap (λ n. pos n) (number_exact ds e)
integer_exact (Negative ds) e = ap (λ n. neg_ℤ (pos n)) (number_exact ds e)

condition_exact : (find : Find) (c : Condition) → written_condition_passes numbers_fit c ≡ true
    → condition_value (within_limit find) c ≡ condition_value (exact find) c
condition_exact find conditions.False e = refl
condition_exact find (conditions.Compared p k i) e = let q = and_parts (polynomial_passes numbers_fit p) (integer_passes numbers_fit i) e in
    ap₂ (λ d b. Is d k b) (polynomial_exact find p q.0) (integer_exact i q.1)

-- the answer where the numbers and names show no fault
pub condition_read : {X : Type 0} (view : X → NormalLiteral) (find : Find) (bytes : List ℕ) (c : Condition) (r : Result X TermError)
    → conditions.SpellsCondition bytes c → fault_by (λ test. written_condition_passes test c) find ≡ None
    → IsJudgedAs view r (is_normal_literal (condition_value (within_limit find) c)) (condition_value (within_limit find) c)
    → IfOk r (λ l. IsLiteralOf find bytes (view l))
condition_read view find bytes c (Ok l) s e j =
    let x = condition_exact find c (fits (λ test. written_condition_passes test c) find e) in
    record {
      written = c;
      spells = s;
      faultless = faultless_by (is_normal_literal (condition_value (exact find) c))
          (fault_by (λ test. written_condition_passes test c) find) e (ap is_normal_literal (sym x) ∙ j.1);
      value = j.0 ∙ x;
    }
condition_read view find bytes c (Err d) s e j = tt

has_fault : (find : Find) (bytes : List ℕ) (c : Condition) (e : TermError) → conditions.SpellsCondition bytes c
    → fault_by (λ test. written_condition_passes test c) find ≡ Some e → ConditionHasFault find bytes e
has_fault find bytes c e s f = record {
  written = c;
  spells = s;
  first = ap (λ o. option_or o (unless (is_normal_literal (condition_value (exact find) c)) NotNormal)) f;
}

-- the refusal of a condition that has a fault in its numbers or names
pub fault_refused : (find : Find) (bytes : List ℕ) (c : Condition) (e : TermError) → conditions.SpellsCondition bytes c
    → fault_by (λ test. written_condition_passes test c) find ≡ Some e → IsRefusedCondition find bytes e
fault_refused find bytes c BadTerm s f = absurd (not_bad (λ test. written_condition_passes test c) find f)
fault_refused find bytes c NumberTooBig s f = has_fault find bytes c NumberTooBig s f
fault_refused find bytes c UnknownName s f = has_fault find bytes c UnknownName s f
fault_refused find bytes c SortOf s f = has_fault find bytes c SortOf s f
fault_refused find bytes c NotNormal s f = has_fault find bytes c NotNormal s f
fault_refused find bytes c NoMemory s f = tt

pub condition_refused : {X : Type 0} (view : X → NormalLiteral) (find : Find) (bytes : List ℕ) (c : Condition) (r : Result X TermError)
    → conditions.SpellsCondition bytes c → fault_by (λ test. written_condition_passes test c) find ≡ None
    → IsJudgedAs view r (is_normal_literal (condition_value (within_limit find) c)) (condition_value (within_limit find) c)
    → IfErr r (IsRefusedCondition find bytes)
condition_refused view find bytes c (Ok l) s e j = tt
condition_refused view find bytes c (Err BadTerm) s e j = absurd j
condition_refused view find bytes c (Err NumberTooBig) s e j = absurd j
condition_refused view find bytes c (Err UnknownName) s e j = absurd j
condition_refused view find bytes c (Err SortOf) s e j = absurd j
condition_refused view find bytes c (Err NotNormal) s e j =
    let x = condition_exact find c (fits (λ test. written_condition_passes test c) find e) in
    record {
      written = c;
      spells = s;
      first = not_normal_by (is_normal_literal (condition_value (exact find) c))
          (fault_by (λ test. written_condition_passes test c) find) e (ap is_normal_literal (sym x) ∙ j);
    }
condition_refused view find bytes c (Err NoMemory) s e j = tt
