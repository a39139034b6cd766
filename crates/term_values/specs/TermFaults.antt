-- The first thing that is wrong with a written term, and why a text is refused.
use Rattle.std.specs.Prelude.{◌≡◌, ℕ, nat_le, Bool, true, false, ◌&&◌, cond, List, [], ◌∷◌, Option, Some, None, Result, Ok, Err}
use Rattle.std.specs.Option.{option_or}
use Rattle.nf_terms.specs.TermLimits.{size_limit, depth_limit}
use Rattle.nf_trees.specs.NormalTerms as terms
use Rattle.nf_trees.specs.Measures.{size_of_array, depth_of_array}
use Rattle.nf_terms.specs.Normal.{ordered_array, narrow_array}
use Rattle.nf_terms.specs.Lists.{ListTerm, size_of_list, depth_of_list}
use Rattle.nf_terms.specs.declared.symbols.Sort.{Sort}
use Rattle.nf_terms.specs.declared.symbols.Sort.TheVariants as sort
use Rattle.nf_rel.specs.NormalLiterals.{is_normal, is_normal_literal}
use Rattle.nf_rel.specs.Literals.{NormalLiteral}
use Rattle.term_condition_text.specs.ConditionTexts as conditions
use Rattle.term_condition_text.specs.ConditionTexts.{Condition}
use Rattle.term_values.specs.Conditions.{condition_value, written_condition_passes}
use Rattle.term_text.specs.declared.fault.ReadError.{ReadError}
use Rattle.term_text.specs.declared.fault.ReadError.TheVariants as unread
use Rattle.term_text.specs.TermTexts as text
use Rattle.term_text.specs.TermTexts.{TermSyntax, polynomial, array, list}
use Rattle.term_text.specs.SpellableTerms.{SpellsTermText}
use Rattle.term_values.specs.declared.faults.TermError.{TermError}
use Rattle.term_values.specs.declared.faults.TermError.TheVariants.{BadTerm, NumberTooBig, UnknownName, SortOf, NotNormal}
use Rattle.term_values.specs.declared.faults.TermError.TheVariants.{NoMemory}
use Rattle.term_values.specs.NameMeanings.{Find}
use Rattle.term_values.specs.TermValues.{Interpretation, exact, polynomial_value, array_value, list_value}
use Rattle.term_values.specs.Checks.{Test, numbers_fit, names_known, sorts_fit, ones_left_out, polynomial_passes, array_passes}
use Rattle.term_values.specs.Checks.{list_passes}

-- whether an array is normal and within the limits in all its parts
abbrev pub is_normal_array : terms.ArrayTerm → Bool
is_normal_array a = ordered_array a && nat_le (size_of_array a) size_limit && nat_le (depth_of_array a) depth_limit
    && narrow_array a

abbrev pub are_normal : List terms.Polynomial → Bool
are_normal [] = true
are_normal (p ∷ ps) = is_normal p && are_normal ps

-- the same of a list
abbrev pub is_normal_list : ListTerm → Bool
is_normal_list l = are_normal l.items && nat_le (size_of_list l) size_limit && nat_le (depth_of_list l) depth_limit

abbrev pub sort_of_term : TermSyntax → Sort
sort_of_term (polynomial p) = sort.Scalar
sort_of_term (array a) = sort.Array
sort_of_term (list l) = sort.List

abbrev pub term_passes : Test → TermSyntax → Bool
term_passes t (polynomial p) = polynomial_passes t p
term_passes t (array a) = array_passes t a
term_passes t (list l) = list_passes t l

-- whether what a term stands for is normal and within the limits
abbrev pub stands_normal : Interpretation → TermSyntax → Bool
stands_normal r (polynomial p) = is_normal (polynomial_value r p)
stands_normal r (array a) = is_normal_array (array_value r a terms.NoWrites)
stands_normal r (list l) = is_normal_list (list_value r l)

-- where a test fails, a refusal
abbrev pub unless : Bool → TermError → Option TermError
unless holds fault = cond holds None (Some fault)

-- the first fault that the numbers and names show: first a number above 2^127 - 1, then a name that stands for no position, then
-- one of another sort, then a 1 before an atom
abbrev pub fault_by : (Test → Bool) → Find → Option TermError
fault_by passes find =
    option_or (unless (passes numbers_fit) NumberTooBig)
    (option_or (unless (passes (names_known find)) UnknownName)
    (option_or (unless (passes (sorts_fit find)) SortOf)
    (unless (passes ones_left_out) NotNormal)))

-- the first fault of a written term: last, that it isn't normal or is past a limit
abbrev pub term_fault : Find → TermSyntax → Option TermError
term_fault find t = option_or (fault_by (λ test. term_passes test t) find) (unless (stands_normal (exact find) t) NotNormal)

-- the bytes spell this term, and nothing is wrong with it
pub record StandsForTerm (find : Find) (bytes : List ℕ) (t : TermSyntax) : Type 0 where
  pub spells : SpellsTermText bytes t
  pub faultless : term_fault find t ≡ None

-- the bytes spell a polynomial without fault, which stands for this one
pub record IsPolynomialOf (find : Find) (bytes : List ℕ) (p : terms.Polynomial) : Type 0 where
  pub written : text.Polynomial
  pub stands : StandsForTerm find bytes (polynomial written)
  pub value : p ≡ polynomial_value (exact find) written

pub record ReadsAsArray (find : Find) (bytes : List ℕ) (a : terms.ArrayTerm) : Type 0 where
  pub written : text.ArrayTerm
  pub stands : StandsForTerm find bytes (array written)
  pub value : a ≡ array_value (exact find) written terms.NoWrites

pub record ReadsAsList (find : Find) (bytes : List ℕ) (l : ListTerm) : Type 0 where
  pub written : text.ListSyntax
  pub stands : StandsForTerm find bytes (list written)
  pub value : l ≡ list_value (exact find) written

-- the bytes spell a term of this sort, whose first fault is this
pub record HasFault (find : Find) (wanted : Sort) (bytes : List ℕ) (fault : TermError) : Type 0 where
  pub term : TermSyntax
  pub sort_is : sort_of_term term ≡ wanted
  pub spells : SpellsTermText bytes term
  pub first : term_fault find term ≡ Some fault

-- why bytes are refused as a term of this sort; out of memory may come at any time
abbrev pub IsRefusedAsTerm : Find → Sort → List ℕ → TermError → Type 0
IsRefusedAsTerm find wanted bytes BadTerm = (t : TermSyntax) → sort_of_term t ≡ wanted → ¬ SpellsTermText bytes t
IsRefusedAsTerm find wanted bytes NumberTooBig = HasFault find wanted bytes NumberTooBig
IsRefusedAsTerm find wanted bytes UnknownName = HasFault find wanted bytes UnknownName
IsRefusedAsTerm find wanted bytes SortOf = HasFault find wanted bytes SortOf
IsRefusedAsTerm find wanted bytes NotNormal = HasFault find wanted bytes NotNormal
IsRefusedAsTerm find wanted bytes NoMemory = Unit {0}

-- the first fault of a written condition: last, that its literal isn't normal or is past a limit
abbrev pub condition_fault : Find → Condition → Option TermError
condition_fault find c = option_or (fault_by (λ test. written_condition_passes test c) find)
    (unless (is_normal_literal (condition_value (exact find) c)) NotNormal)

-- the bytes spell a condition without fault, which stands for this literal
pub record IsLiteralOf (find : Find) (bytes : List ℕ) (l : NormalLiteral) : Type 0 where
  pub written : Condition
  pub spells : conditions.SpellsCondition bytes written
  pub faultless : condition_fault find written ≡ None
  pub value : l ≡ condition_value (exact find) written

-- the bytes spell a condition, whose first fault is this
pub record ConditionHasFault (find : Find) (bytes : List ℕ) (fault : TermError) : Type 0 where
  pub written : Condition
  pub spells : conditions.SpellsCondition bytes written
  pub first : condition_fault find written ≡ Some fault

-- why bytes are refused as a condition; out of memory may come at any time
abbrev pub IsRefusedCondition : Find → List ℕ → TermError → Type 0
IsRefusedCondition find bytes BadTerm = (c : Condition) → ¬ conditions.SpellsCondition bytes c
IsRefusedCondition find bytes NumberTooBig = ConditionHasFault find bytes NumberTooBig
IsRefusedCondition find bytes UnknownName = ConditionHasFault find bytes UnknownName
IsRefusedCondition find bytes SortOf = ConditionHasFault find bytes SortOf
IsRefusedCondition find bytes NotNormal = ConditionHasFault find bytes NotNormal
IsRefusedCondition find bytes NoMemory = Unit {0}

-- the refusal of a text that spells no term, or out of memory
abbrev pub of_reading : ReadError → TermError
of_reading unread.BadTerm = BadTerm
of_reading unread.NoMemory = NoMemory

-- an answer, seen so, is this value where it is normal, and else a refusal
abbrev pub IsJudgedAs : {X Y : Type 0} → (X → Y) → Result X TermError → Bool → Y → Type 0
IsJudgedAs view (Ok x) normal value = (view x ≡ value) × (normal ≡ true)
IsJudgedAs view (Err BadTerm) normal value = ⊥
IsJudgedAs view (Err NumberTooBig) normal value = ⊥
IsJudgedAs view (Err UnknownName) normal value = ⊥
IsJudgedAs view (Err SortOf) normal value = ⊥
IsJudgedAs view (Err NotNormal) normal value = normal ≡ false
IsJudgedAs view (Err NoMemory) normal value = Unit {0}

abbrev pub IsJudgedText : {X : Type 0} → Result X TermError → Bool → X → Type 0
IsJudgedText result normal value = IsJudgedAs (λ x. x) result normal value
