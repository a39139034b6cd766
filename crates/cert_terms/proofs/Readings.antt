-- Texts are read in one way.
use Rattle.std.proofs.Common.{◌≡◌, ℕ, Bool, true, false, cond, List, Option, Some, None, Ok, Err, refl, sym, ap, subst, ◌∙◌}
use Rattle.std.specs.Prelude.{nat_le, codes, option_and_then}
use Rattle.std.specs.Option.{option_or}
use Rattle.std.specs.Str.{bytes_eq}
use Rattle.nf_terms.specs.TermLimits.{depth_limit}
use Rattle.nf_terms.specs.NormalTerms as terms
use Rattle.nf_terms.specs.declared.symbols.Sort.{Sort}
use Rattle.nf_terms.specs.declared.symbols.Sort.TheVariants as sort
use Rattle.nf_terms.specs.declared.form.Nf.TheVariants.{Num, Arr, Seq}
use Rattle.nf_terms.specs.TermSorts.{same_term_sort}
use Rattle.nf_rel.specs.NormalLiterals.{is_normal_literal}
use Rattle.nf_rel.specs.declared.kind.Kind.{Kind}
use Rattle.term_text.specs.TermTexts as text
use Rattle.term_text.specs.TermTexts.{TermSyntax, polynomial_text, polynomial, array, list}
use Rattle.term_text.specs.SpellableTerms.{SpellsTermText}
use Rattle.term_text.specs.Brackets.{most_open}
use Rattle.term_text.specs.Machine.{term_reading}
use Rattle.term_text.specs.Reached.{SpellsTerm}
use Rattle.term_text.proofs.Walks.{beginning, read_again}
use Rattle.term_text.proofs.Sound.{polynomial_is_spelled, array_is_spelled, list_is_spelled}
use Rattle.term_values.specs.ConditionTexts as conditions
use Rattle.term_values.specs.ConditionTexts.{Integer, Condition, False, Compared}
use Rattle.term_values.specs.ConditionParts.{condition_parts}
use Rattle.term_values.proofs.Whole.{false_spelled, comparison_spelled, only_false, no_parts, spelled_parts, front_spelled}
use Rattle.term_values.specs.declared.faults.TermError.{TermError}
use Rattle.term_values.specs.declared.faults.TermError.TheVariants.{BadTerm, NumberTooBig, UnknownName, SortOf, NotNormal, NoMemory}
use Rattle.term_values.specs.NameMeanings.{Find}
use Rattle.term_values.specs.TermValues.{exact, polynomial_value, array_value, list_value}
use Rattle.term_values.specs.Checks.{Test, numbers_fit, names_known, sorts_fit, ones_left_out}
use Rattle.term_values.specs.Conditions.{condition_value, written_condition_passes}
use Rattle.term_values.specs.TermFaults.{sort_of_term, unless, fault_by, term_passes, stands_normal, term_fault, condition_fault, HasFault, IsRefusedAsTerm}
use Rattle.term_values.specs.TermFaults.{ConditionHasFault, IsRefusedCondition}
use Rattle.cert_terms.proofs.Symbols.{sorts_same}
use Rattle.cert_terms.specs.TextMeanings.{TextMeanings, AreRead, Refuses}
use Rattle.cert_terms.specs.TextFunctions.{beginning_of, if_of_sort, term_spelled_by, comparison_of, condition_spelled_by, term_form, unless_fault, term_judged}
use Rattle.cert_terms.specs.TextFunctions.{condition_judged, meanings_by}

-- ---- terms

begins_so : (t : TermSyntax) → beginning_of (sort_of_term t) ≡ beginning t
begins_so (polynomial p) = refl
begins_so (array a) = refl
begins_so (list l) = refl

of_its_sort : (t : TermSyntax) → if_of_sort (sort_of_term t) (Some t) ≡ Some t
of_its_sort (polynomial p) = refl
of_its_sort (array a) = refl
of_its_sort (list l) = refl

-- what spells a term is read as it
again : (bytes : List ℕ) (t : TermSyntax) → SpellsTermText bytes t → term_spelled_by (sort_of_term t) bytes ≡ Some t
again bytes t h =
    let whole : term_reading bytes (beginning_of (sort_of_term t)) ≡ Some t = ap (term_reading bytes) (begins_so t)
    ∙ ap (λ bs. term_reading bs (beginning t)) h.text ∙ read_again t h.spelled in
    ap (λ b. cond b (if_of_sort (sort_of_term t) (term_reading bytes (beginning_of (sort_of_term t)))) None) h.shallow ∙ ap (if_of_sort (sort_of_term t)) whole
    ∙ of_its_sort t

again_as : (s : Sort) (bytes : List ℕ) (t : TermSyntax) → sort_of_term t ≡ s → SpellsTermText bytes t → term_spelled_by s bytes ≡ Some t
again_as s bytes t e h = subst (λ r. term_spelled_by r bytes ≡ Some t) e (again bytes t h)

is_spelled : (s : Sort) (bytes : List ℕ) (t : TermSyntax) → term_reading bytes (beginning_of s) ≡ Some t → SpellsTerm bytes t
is_spelled sort.Scalar bytes t e = polynomial_is_spelled bytes t e
is_spelled sort.Array bytes t e = array_is_spelled bytes t e
is_spelled sort.List bytes t e = list_is_spelled bytes t e

-- what is read as a term spells it
only : (s : Sort) (bytes : List ℕ) (t : TermSyntax) → term_spelled_by s bytes ≡ Some t → (sort_of_term t ≡ s) × SpellsTermText bytes t
only s bytes t e = by_depth (nat_le (most_open 0 bytes) depth_limit) (term_reading bytes (beginning_of s)) refl refl e
  where
    by_sort : (u : TermSyntax) (b : Bool) → same_term_sort s (sort_of_term u) ≡ b → nat_le (most_open 0 bytes) depth_limit ≡ true
        → term_reading bytes (beginning_of s) ≡ Some u → cond b (Some u) None ≡ Some t → (sort_of_term t ≡ s) × SpellsTermText bytes t
    by_sort u false g d r f = absurd (cc f)
    by_sort u true g d r f =
        let same : u ≡ t = cc f in
        let h : SpellsTerm bytes u = is_spelled s bytes u r in
        subst (λ v. (sort_of_term v ≡ s) × SpellsTermText bytes v) same
        (sorts_same s (sort_of_term u) g, record { spelled = h.fine; text = h.text; shallow = d })

    by_depth : (b : Bool) (o : Option TermSyntax) → nat_le (most_open 0 bytes) depth_limit ≡ b → term_reading bytes (beginning_of s) ≡ o
        → cond b (if_of_sort s o) None ≡ Some t → (sort_of_term t ≡ s) × SpellsTermText bytes t
    by_depth false o d r f = absurd (cc f)
    by_depth true None d r f = absurd (cc f)
    by_depth true (Some u) d r f = by_sort u (same_term_sort s (sort_of_term u)) refl d r f

term_read : (find : Find) (s : Sort) (bytes : List ℕ) (t : TermSyntax) → sort_of_term t ≡ s → SpellsTermText bytes t → term_fault find t ≡ None
    → term_judged find (term_spelled_by s bytes) ≡ Ok (term_form find t)
term_read find s bytes t e h f = ap (term_judged find) (again_as s bytes t e h) ∙ ap (λ o. unless_fault o (term_form find t)) f

has_fault : (find : Find) (s : Sort) (bytes : List ℕ) (e : TermError) → HasFault find s bytes e → term_judged find (term_spelled_by s bytes) ≡ Err e
has_fault find s bytes e h = ap (term_judged find) (again_as s bytes h.term h.sort_is h.spells) ∙ ap (λ o. unless_fault o (term_form find h.term)) h.first

unread : (find : Find) (s : Sort) (bytes : List ℕ) → ((t : TermSyntax) → sort_of_term t ≡ s → ¬ SpellsTermText bytes t)
    → term_judged find (term_spelled_by s bytes) ≡ Err BadTerm
unread find s bytes h = by_value (term_spelled_by s bytes) refl
  where
    by_value : (o : Option TermSyntax) → term_spelled_by s bytes ≡ o → term_judged find o ≡ Err BadTerm
    by_value None e = refl
    by_value (Some t) e = let x = only s bytes t e in absurd (h t x.0 x.1)

term_refused : (find : Find) (s : Sort) (bytes : List ℕ) (e : TermError) → IsRefusedAsTerm find s bytes e
    → Refuses e (term_judged find (term_spelled_by s bytes))
term_refused find s bytes BadTerm h = unread find s bytes h
term_refused find s bytes NumberTooBig h = has_fault find s bytes NumberTooBig h
term_refused find s bytes UnknownName h = has_fault find s bytes UnknownName h
term_refused find s bytes SortOf h = has_fault find s bytes SortOf h
term_refused find s bytes NotNormal h = has_fault find s bytes NotNormal h
term_refused find s bytes NoMemory h = tt

-- ---- conditions

condition_again : (bytes : List ℕ) (c : Condition) → conditions.SpellsCondition bytes c → condition_spelled_by bytes ≡ Some c
condition_again bytes c h = by_test (bytes_eq bytes (codes "false")) refl c h
  where
    by_parts : (p : text.Polynomial) (k : Kind) (i : Integer) → conditions.SpellsCondition bytes (Compared p k i)
        → option_and_then (λ x. option_and_then (comparison_of x.1 x.2) (term_spelled_by sort.Scalar x.0)) (condition_parts bytes) ≡ Some (Compared p k i)
    by_parts p k i s =
        ap (option_and_then (λ x. option_and_then (comparison_of x.1 x.2) (term_spelled_by sort.Scalar x.0))) (spelled_parts bytes p k i s)
        ∙ ap (option_and_then (comparison_of k i)) (again (polynomial_text p) (polynomial p) (front_spelled bytes p k i s))

    by_test : (b : Bool) → bytes_eq bytes (codes "false") ≡ b → (d : Condition) → conditions.SpellsCondition bytes d
        → cond b (Some False) (option_and_then (λ x. option_and_then (comparison_of x.1 x.2) (term_spelled_by sort.Scalar x.0)) (condition_parts bytes))
        ≡ Some d
    by_test true e d s = ap Some (only_false bytes e d s)
    by_test false e False s = absurd (no_parts_of_false e s)
      where
        no_parts_of_false : bytes_eq bytes (codes "false") ≡ false → conditions.SpellsCondition bytes False → ⊥
        no_parts_of_false f t = no_parts bytes f (ap condition_parts t.text) False t
    by_test false e (Compared p k i) s = by_parts p k i s

condition_only : (bytes : List ℕ) (c : Condition) → condition_spelled_by bytes ≡ Some c → conditions.SpellsCondition bytes c
condition_only bytes c e = by_test (bytes_eq bytes (codes "false")) refl e
  where
    by_term : (front : List ℕ) (k : Kind) (i : Integer) → condition_parts bytes ≡ Some (front, k, i) → (o : Option TermSyntax)
        → term_spelled_by sort.Scalar front ≡ o → option_and_then (comparison_of k i) o ≡ Some c → conditions.SpellsCondition bytes c
    by_term front k i g None t f = absurd (cc f)
    by_term front k i g (Some (polynomial p)) t f = let same : Compared p k i ≡ c = cc f in
        subst (conditions.SpellsCondition bytes) same (comparison_spelled bytes front k i p g (only sort.Scalar front (polynomial p) t).1)
    by_term front k i g (Some (array a)) t f = absurd (cc f)
    by_term front k i g (Some (list l)) t f = absurd (cc f)

    by_parts : (o : Option (List ℕ × Kind × Integer)) → condition_parts bytes ≡ o
        → option_and_then (λ x. option_and_then (comparison_of x.1 x.2) (term_spelled_by sort.Scalar x.0)) o ≡ Some c → conditions.SpellsCondition bytes c
    by_parts None g f = absurd (cc f)
    by_parts (Some x) g f = by_term x.0 x.1 x.2 g (term_spelled_by sort.Scalar x.0) refl f

    by_test : (b : Bool) → bytes_eq bytes (codes "false") ≡ b
        → cond b (Some False) (option_and_then (λ x. option_and_then (comparison_of x.1 x.2) (term_spelled_by sort.Scalar x.0)) (condition_parts bytes))
        ≡ Some c → conditions.SpellsCondition bytes c
    by_test true g f = let same : False ≡ c = cc f in subst (conditions.SpellsCondition bytes) same (false_spelled bytes g)
    by_test false g f = by_parts (condition_parts bytes) refl f

condition_has_fault : (find : Find) (bytes : List ℕ) (e : TermError) → ConditionHasFault find bytes e
    → condition_judged find (condition_spelled_by bytes) ≡ Err e
condition_has_fault find bytes e h = ap (condition_judged find) (condition_again bytes h.written h.spells)
    ∙ ap (λ o. unless_fault o (condition_value (exact find) h.written)) h.first

condition_unread : (find : Find) (bytes : List ℕ) → ((c : Condition) → ¬ conditions.SpellsCondition bytes c)
    → condition_judged find (condition_spelled_by bytes) ≡ Err BadTerm
condition_unread find bytes h = by_value (condition_spelled_by bytes) refl
  where
    by_value : (o : Option Condition) → condition_spelled_by bytes ≡ o → condition_judged find o ≡ Err BadTerm
    by_value None e = refl
    by_value (Some c) e = absurd (h c (condition_only bytes c e))

condition_refused : (find : Find) (bytes : List ℕ) (e : TermError) → IsRefusedCondition find bytes e
    → Refuses e (condition_judged find (condition_spelled_by bytes))
condition_refused find bytes BadTerm h = condition_unread find bytes h
condition_refused find bytes NumberTooBig h = condition_has_fault find bytes NumberTooBig h
condition_refused find bytes UnknownName h = condition_has_fault find bytes UnknownName h
condition_refused find bytes SortOf h = condition_has_fault find bytes SortOf h
condition_refused find bytes NotNormal h = condition_has_fault find bytes NotNormal h
condition_refused find bytes NoMemory h = tt

-- these functions say of each text what its grammar says
pub texts_are_read : (find : Find) → AreRead find (meanings_by find)
unfolding meanings_by
texts_are_read find = record {
  polynomial = λ bytes p h. term_read find sort.Scalar bytes (polynomial h.written) refl h.stands.spells h.stands.faultless
      ∙ ap (λ q. Ok (Num q)) (sym h.value);
  array = λ bytes a h. term_read find sort.Array bytes (array h.written) refl h.stands.spells h.stands.faultless ∙ ap (λ q. Ok (Arr q)) (sym h.value);
  list = λ bytes l h. term_read find sort.List bytes (list h.written) refl h.stands.spells h.stands.faultless ∙ ap (λ q. Ok (Seq q)) (sym h.value);
  no_term = term_refused find;
  condition = λ bytes l h.
      ap (condition_judged find) (condition_again bytes h.written h.spells) ∙ ap (λ o. unless_fault o (condition_value (exact find) h.written)) h.faultless
      ∙ ap Ok (sym h.value);
  no_condition = condition_refused find;
}

-- ---- no others do

none_is_some : {X : Type 0} {x : X} → None ≡ Some x → ⊥
none_is_some e = cc

no_truth : false ≡ true → ⊥
no_truth e = cc

-- a fault that a term or a condition can have
abbrev is_fault : TermError → Bool
is_fault BadTerm = false
is_fault NumberTooBig = true
is_fault UnknownName = true
is_fault SortOf = true
is_fault NotNormal = true
is_fault NoMemory = false

abbrev if_any : Option TermError → Bool
if_any None = true
if_any (Some e) = is_fault e

either_fault : (a b : Option TermError) → if_any a ≡ true → if_any b ≡ true → if_any (option_or a b) ≡ true
either_fault None b h g = g
either_fault (Some e) b h g = h

unless_any : (t : Bool) (e : TermError) → is_fault e ≡ true → if_any (unless t e) ≡ true
unless_any true e h = refl
unless_any false e h = h

first_fault : (passes : Test → Bool) (find : Find) (t : Bool) → if_any (option_or (fault_by passes find) (unless t NotNormal)) ≡ true
first_fault passes find t =
    let a : Option TermError = unless (passes numbers_fit) NumberTooBig in
    let b : Option TermError = unless (passes (names_known find)) UnknownName in
    let c : Option TermError = unless (passes (sorts_fit find)) SortOf in
    let d : Option TermError = unless (passes ones_left_out) NotNormal in
    either_fault (fault_by passes find) (unless t NotNormal)
    (either_fault a (option_or b (option_or c d)) (unless_any (passes numbers_fit) NumberTooBig refl)
    (either_fault b (option_or c d) (unless_any (passes (names_known find)) UnknownName refl)
    (either_fault c d (unless_any (passes (sorts_fit find)) SortOf refl) (unless_any (passes ones_left_out) NotNormal refl))))
    (unless_any t NotNormal refl)

module _ (find : Find) (r : TextMeanings) (h : AreRead find r) where
  fault_same : (s : Sort) (bytes : List ℕ) (e : TermError) → is_fault e ≡ true → HasFault find s bytes e → r.term s bytes ≡ Err e
  fault_same s bytes BadTerm f i = absurd (no_truth f)
  fault_same s bytes NumberTooBig f i = h.no_term s bytes NumberTooBig i
  fault_same s bytes UnknownName f i = h.no_term s bytes UnknownName i
  fault_same s bytes SortOf f i = h.no_term s bytes SortOf i
  fault_same s bytes NotNormal f i = h.no_term s bytes NotNormal i
  fault_same s bytes NoMemory f i = absurd (no_truth f)

  value_same : (bytes : List ℕ) (t : TermSyntax) → SpellsTermText bytes t → term_fault find t ≡ None → r.term (sort_of_term t) bytes ≡ Ok (term_form find t)
  value_same bytes (polynomial p) i f = h.polynomial bytes (polynomial_value (exact find) p)
      (record { written = p; stands = record { spells = i; faultless = f }; value = refl })
  value_same bytes (array a) i f = h.array bytes (array_value (exact find) a terms.NoWrites)
      (record { written = a; stands = record { spells = i; faultless = f }; value = refl })
  value_same bytes (list l) i f = h.list bytes (list_value (exact find) l) (record { written = l; stands = record { spells = i; faultless = f }; value = refl })

  term_same : (s : Sort) (bytes : List ℕ) → r.term s bytes ≡ term_judged find (term_spelled_by s bytes)
  term_same s bytes = by_term (term_spelled_by s bytes) refl
    where
      by_fault : (t : TermSyntax) → sort_of_term t ≡ s → SpellsTermText bytes t → (o : Option TermError) → term_fault find t ≡ o → if_any o ≡ true
          → r.term s bytes ≡ unless_fault o (term_form find t)
      by_fault t e i None f g = subst (λ q. r.term q bytes ≡ Ok (term_form find t)) e (value_same bytes t i f)
      by_fault t e i (Some x) f g = fault_same s bytes x g (record { term = t; sort_is = e; spells = i; first = f })

      by_term : (o : Option TermSyntax) → term_spelled_by s bytes ≡ o → r.term s bytes ≡ term_judged find o
      by_term None e = h.no_term s bytes BadTerm (λ t f i. let g : None ≡ Some t = sym e ∙ again_as s bytes t f i in absurd (none_is_some g))
      by_term (Some t) e = let x = only s bytes t e in
          by_fault t x.0 x.1 (term_fault find t) refl (first_fault (λ test. term_passes test t) find (stands_normal (exact find) t))

  condition_fault_same : (bytes : List ℕ) (e : TermError) → is_fault e ≡ true → ConditionHasFault find bytes e → r.condition bytes ≡ Err e
  condition_fault_same bytes BadTerm f i = absurd (no_truth f)
  condition_fault_same bytes NumberTooBig f i = h.no_condition bytes NumberTooBig i
  condition_fault_same bytes UnknownName f i = h.no_condition bytes UnknownName i
  condition_fault_same bytes SortOf f i = h.no_condition bytes SortOf i
  condition_fault_same bytes NotNormal f i = h.no_condition bytes NotNormal i
  condition_fault_same bytes NoMemory f i = absurd (no_truth f)

  condition_same : (bytes : List ℕ) → r.condition bytes ≡ condition_judged find (condition_spelled_by bytes)
  condition_same bytes = by_condition (condition_spelled_by bytes) refl
    where
      by_fault : (c : Condition) → conditions.SpellsCondition bytes c → (o : Option TermError) → condition_fault find c ≡ o → if_any o ≡ true
          → r.condition bytes ≡ unless_fault o (condition_value (exact find) c)
      by_fault c i None f g = h.condition bytes (condition_value (exact find) c) (record { written = c; spells = i; faultless = f; value = refl })
      by_fault c i (Some x) f g = condition_fault_same bytes x g (record { written = c; spells = i; first = f })

      by_condition : (o : Option Condition) → condition_spelled_by bytes ≡ o → r.condition bytes ≡ condition_judged find o
      by_condition None e = h.no_condition bytes BadTerm (λ c i. let g : None ≡ Some c = sym e ∙ condition_again bytes c i in absurd (none_is_some g))
      by_condition (Some c) e = by_fault c (condition_only bytes c e) (condition_fault find c) refl
          (first_fault (λ test. written_condition_passes test c) find (is_normal_literal (condition_value (exact find) c)))

  -- functions that say what the grammar says are these
  pub only_texts : r ≡ meanings_by find
  unfolding meanings_by
  only_texts = λ k. record { term = λ s bytes. term_same s bytes k; condition = λ bytes. condition_same bytes k }
