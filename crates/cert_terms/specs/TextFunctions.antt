-- Functions that say what texts stand for.
use Rattle.std.specs.Prelude.{ℕ, nat_le, cond, List, Option, Some, None, option_and_then, Result, Ok, Err, codes}
use Rattle.std.specs.Str.{bytes_eq}
use Rattle.nf_terms.specs.TermLimits.{depth_limit}
use Rattle.nf_terms.specs.NormalTerms as terms
use Rattle.nf_terms.specs.declared.symbols.Sort.{Sort}
use Rattle.nf_terms.specs.declared.symbols.Sort.TheVariants as sort
use Rattle.nf_terms.specs.declared.form.Nf.{Nf}
use Rattle.nf_terms.specs.declared.form.Nf.TheVariants.{Num, Arr, Seq}
use Rattle.nf_terms.specs.TermSorts.{same_term_sort}
use Rattle.nf_rel.specs.Literals.{NormalLiteral}
use Rattle.nf_rel.specs.declared.kind.Kind.{Kind}
use Rattle.term_text.specs.TermTexts.{TermSyntax, polynomial, array, list}
use Rattle.term_text.specs.Brackets.{most_open}
use Rattle.term_text.specs.Machine.{Owed, term_reading, at_polynomial, whole_polynomial, at_array, at_list}
use Rattle.term_values.specs.ConditionTexts.{Integer, Condition, False, Compared}
use Rattle.term_values.specs.ConditionParts.{condition_parts}
use Rattle.term_values.specs.declared.faults.TermError.{TermError}
use Rattle.term_values.specs.declared.faults.TermError.TheVariants.{BadTerm}
use Rattle.term_values.specs.NameMeanings.{Find}
use Rattle.term_values.specs.TermValues.{exact, polynomial_value, array_value, list_value}
use Rattle.term_values.specs.Conditions.{condition_value}
use Rattle.term_values.specs.TermFaults.{sort_of_term, term_fault, condition_fault}
use Rattle.cert_terms.specs.TextMeanings.{TextMeanings}

-- the state that a whole term of a sort begins in
abbrev pub beginning_of : Sort → Owed
beginning_of sort.Scalar = at_polynomial whole_polynomial
beginning_of sort.Array = at_array
beginning_of sort.List = at_list

abbrev pub if_of_sort : Sort → Option TermSyntax → Option TermSyntax
if_of_sort s None = None
if_of_sort s (Some t) = cond (same_term_sort s (sort_of_term t)) (Some t) None

-- the term of a sort that bytes spell
abbrev pub term_spelled_by : Sort → List ℕ → Option TermSyntax
term_spelled_by s bytes = cond (nat_le (most_open 0 bytes) depth_limit) (if_of_sort s (term_reading bytes (beginning_of s))) None

-- a term, compared
abbrev pub comparison_of : Kind → Integer → TermSyntax → Option Condition
comparison_of k i (polynomial p) = Some (Compared p k i)
comparison_of k i (array a) = None
comparison_of k i (list l) = None

-- the condition that bytes spell
abbrev pub condition_spelled_by : List ℕ → Option Condition
condition_spelled_by bytes =
    cond (bytes_eq bytes (codes "false")) (Some False)
    (option_and_then (λ x. option_and_then (comparison_of x.1 x.2) (term_spelled_by sort.Scalar x.0)) (condition_parts bytes))

-- what a term stands for
abbrev pub term_form : Find → TermSyntax → Nf
term_form find (polynomial p) = Num (polynomial_value (exact find) p)
term_form find (array a) = Arr (array_value (exact find) a terms.NoWrites)
term_form find (list l) = Seq (list_value (exact find) l)

-- a value, unless there is a fault
abbrev pub unless_fault : {X : Type 0} → Option TermError → X → Result X TermError
unless_fault None x = Ok x
unless_fault (Some e) x = Err e

abbrev pub term_judged : Find → Option TermSyntax → Result Nf TermError
term_judged find None = Err BadTerm
term_judged find (Some t) = unless_fault (term_fault find t) (term_form find t)

abbrev pub condition_judged : Find → Option Condition → Result NormalLiteral TermError
condition_judged find None = Err BadTerm
condition_judged find (Some c) = unless_fault (condition_fault find c) (condition_value (exact find) c)

-- what texts stand for, by their grammar
unfoldable pub meanings_by : Find → TextMeanings
meanings_by find = record {
  term = λ s bytes. term_judged find (term_spelled_by s bytes);
  condition = λ bytes. condition_judged find (condition_spelled_by bytes);
}
