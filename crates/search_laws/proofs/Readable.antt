-- What is written for a normal form or a literal is read as it.
use Rattle.std.proofs.Common.{◌≡◌, ◌≢◌, ℕ, ◌+◌, ◌/◌, ◌%◌, ◌^◌, ◌<◌, ◌≤◌, Bool, true, false, ◌&&◌, List, [], ◌∷◌, ◌++◌, Option, None, Ok, decimal, refl, sym, ap}
use Rattle.std.proofs.Common.{◌∙◌, arith, lit<, lt_trans}
use Rattle.std.specs.Prelude.{not, nat_le, codes, is_some}
use Rattle.std.specs.Option.{option_or}
use Rattle.std.specs.Str.{bytes_eq}
use Rattle.std.proofs.lemmas.Bool.{le-leb, and_parts, and_from}
use Rattle.std.proofs.lemmas.Fmt.{decimal_by_steps_wide}
use Rattle.std.proofs.lemmas.List.Sums.{fold-append}
use Rattle.std.proofs.lemmas.Slice.Eq.{bytes_eq-Decides}
use Rattle.fs_model.proofs.Booleans.{and_second}
use Rattle.fs_model.specs.Digits.{with_digit, value_of_digits}
use Rattle.fs_model.specs.declared.sides.Pos.{Pos}
use Rattle.nf_terms.specs.declared.symbols.Sort.{Sort}
use Rattle.nf_terms.specs.declared.symbols.Sort.TheVariants as sort
use Rattle.nf_terms.specs.declared.form.Nf.{Nf}
use Rattle.nf_terms.specs.declared.form.Nf.TheVariants.{Num, Arr, Seq}
use Rattle.nf_trees.specs.NormalTerms as terms
use Rattle.nf_terms.specs.Lists as lists
use Rattle.nf_terms.specs.Lists.{IsNormalList, size_of_list, depth_of_list}
use Rattle.nf_terms.specs.TermLimits.{weight_limit}
use Rattle.nf_trees.specs.Measures.{size_of_array, depth_of_array}
use Rattle.nf_terms.specs.Forms.{IsNormalForm, sort_of_form}
use Rattle.nf_terms.specs.Normal.{is_light, narrow_inside, IsNormal, IsNormalArray}
use Rattle.nf_terms.specs.TermSorts.{same_term_sort}
use Rattle.nf_rel.specs.Literals.{NormalLiteral, True, False, Is}
use Rattle.nf_rel.specs.NormalLiterals.{is_normal, is_primitive, is_inner_number, is_normal_literal, IsNormalLiteral}
use Rattle.nf_rel.proofs.NormalForms.{normal_is}
use Rattle.nf_rel.proofs.NormalLaws.{direction_is_normal}
use Rattle.sym_facts.specs.Pairings.{form_within, literal_within}
use Rattle.term_text.specs.TermTexts.{polynomial, array, list, polynomial_text, array_text, list_text}
use Rattle.term_text.specs.SpellableTerms.{SpellsTermText}
use Rattle.term_condition_text.specs.ConditionTexts.{condition_text, SpellsCondition}
use Rattle.term_values.specs.declared.faults.TermError.{TermError}
use Rattle.term_values.specs.declared.faults.TermError.TheVariants.{NumberTooBig, UnknownName, SortOf, NotNormal}
use Rattle.term_values.specs.Checks.{Test, polynomial_passes, array_passes, list_passes, numbers_fit, names_known, sorts_fit, ones_left_out}
use Rattle.term_values.specs.Conditions.{condition_value, written_condition_passes, integer_passes}
use Rattle.term_values.specs.TermFaults.{is_normal_array, are_normal, is_normal_list, unless, fault_by, IsPolynomialOf, ReadsAsArray, ReadsAsList, IsLiteralOf}
use Rattle.term_values.specs.NameMeanings.{Find, name_has_sort}
use Rattle.term_values.specs.TermValues.{exact, polynomial_value, array_value, list_value}
use Rattle.term_writer.specs.NamedSymbols.{IsNamed, OfPolynomial, OfArray, OfList, OfLiteral}
use Rattle.term_writer.specs.WrittenTerms.{polynomial_written, array_written, list_written, integer_written, literal_written as literal_in_words}
use Rattle.term_writer.proofs.LiteralTexts.{inner_small}
use Rattle.cert_writer.specs.WrittenCertificates.{form_written, literal_bytes}
use Rattle.cert_text.specs.TextMeanings.{TextMeanings, AreRead}
use Rattle.search_laws.proofs.Named.{polynomial_named, array_named, list_named, literal_named}
use Rattle.search_laws.proofs.Passing.{polynomial_passed, array_passed, list_passed, integer_passed}

-- what is known of the texts that are written
pub record TextLaws (name : Pos → List ℕ) (find : Find) : Type 0 where
  pub polynomial_spelled : (p : terms.Polynomial) → OfPolynomial (IsNamed name find) p → IsNormal p
      → SpellsTermText (polynomial_text (polynomial_written name p)) (polynomial (polynomial_written name p))
  pub array_spelled : (a : terms.ArrayTerm) → OfArray (IsNamed name find) a → IsNormalArray a
      → SpellsTermText (array_text (array_written name a)) (array (array_written name a))
  pub list_spelled : (l : lists.ListTerm) → OfList (IsNamed name find) l → IsNormalList l
      → SpellsTermText (list_text (list_written name l)) (list (list_written name l))
  pub polynomial_again : (p : terms.Polynomial) → OfPolynomial (IsNamed name find) p → IsNormal p
      → polynomial_value (exact find) (polynomial_written name p) ≡ p
  pub array_again : (a : terms.ArrayTerm) → OfArray (IsNamed name find) a → IsNormalArray a → array_value (exact find) (array_written name a) terms.NoWrites ≡ a
  pub list_again : (l : lists.ListTerm) → OfList (IsNamed name find) l → IsNormalList l → list_value (exact find) (list_written name l) ≡ l
  pub literal_spelled : (l : NormalLiteral) → OfLiteral (IsNamed name find) l → IsNormalLiteral l
      → SpellsCondition (condition_text (literal_in_words name l)) (literal_in_words name l)
  pub literal_again : (l : NormalLiteral) → OfLiteral (IsNamed name find) l → IsNormalLiteral l → l ≢ True
      → condition_value (exact find) (literal_in_words name l) ≡ l

-- ---- numbers

more_digits : (n : ℕ) (ds : List ℕ) → 10 ≤ n → value_of_digits ds ≡ n / 10 → value_of_digits (ds ++ ((48 + n % 10) ∷ [])) ≡ n
more_digits n ds h e = fold-append with_digit 0 ds ((48 + n % 10) ∷ []) ∙ rw e (omega arith)

number_again : (n : ℕ) → n < 2 ^ 127 → value_of_digits (decimal n) ≡ n
number_again n h = decimal_by_steps_wide (λ k ds. value_of_digits ds ≡ k) (λ k l. omega arith) more_digits n (lt_trans h (lit< tt))

number_fits : (n : ℕ) → n < 2 ^ 127 → nat_le (value_of_digits (decimal n)) weight_limit ≡ true
number_fits n h = ap (λ k. nat_le k weight_limit) (number_again n h) ∙ le-leb n weight_limit (omega (arith, h))

no_one : (n : ℕ) → n < 2 ^ 127 → n ≢ 1 → not (bytes_eq (decimal n) (codes "1")) ≡ true
no_one n h d = by_test (bytes_eq (decimal n) (codes "1")) refl
  where
    by_test : (b : Bool) → bytes_eq (decimal n) (codes "1") ≡ b → not b ≡ true
    by_test true e =
        let s : value_of_digits (decimal n) ≡ 1 = ap value_of_digits ((bytes_eq-Decides (decimal n) (codes "1")).0 e) in
        absurd (d (sym (number_again n h) ∙ s))
    by_test false e = refl

-- ---- tests as answers

array_is_normal : (a : terms.ArrayTerm) → IsNormalArray a → is_normal_array a ≡ true
array_is_normal a n = rw (n.ordered, le-leb (size_of_array a) 4096 n.small, le-leb (depth_of_array a) 64 n.shallow, n.narrow) refl

all_normal : (ps : List terms.Polynomial) → lists.AreNormalItems ps → are_normal ps ≡ true
all_normal [] h = refl
all_normal (p ∷ ps) h = and_from (is_normal p) (are_normal ps) (normal_is p h.0) (all_normal ps h.1)

list_is_normal : (l : lists.ListTerm) → IsNormalList l → is_normal_list l ≡ true
list_is_normal l n = rw (all_normal l.items n.items, le-leb (size_of_list l) 4096 n.small, le-leb (depth_of_list l) 64 n.shallow) refl

own_sort : (s : Sort) → same_term_sort s s ≡ true
own_sort sort.Scalar = refl
own_sort sort.Array = refl
own_sort sort.List = refl

none_of : (a b c d : Bool) (e f g h : TermError) → a ≡ true → b ≡ true → c ≡ true → d ≡ true
    → option_or (unless a e) (option_or (unless b f) (option_or (unless c g) (unless d h))) ≡ None
none_of a b c d e f g h i j k l = rw (i, j, k, l) refl

still_none : (o : Option TermError) (t : Bool) (e : TermError) → o ≡ None → t ≡ true → option_or o (unless t e) ≡ None
still_none o t e f g = rw (f, g) refl

module _ (name : Pos → List ℕ) (find : Find) (laws : TextLaws name find) where
  -- each test passes that the written numbers and names pass
  abbrev AllPass : (Test → Bool) → Type 0
  AllPass passes =
      (t : Test) → ((s : Sort) (p : Pos) → IsNamed name find s p → t.name s p.side (name p) ≡ true) → ((n : ℕ) → n < 2 ^ 127 → t.number (decimal n) ≡ true)
      → ((n : ℕ) → n < 2 ^ 127 → n ≢ 1 → t.factor (decimal n) ≡ true)
      → passes t ≡ true

  no_fault : (passes : Test → Bool) → AllPass passes → fault_by passes find ≡ None
  no_fault passes all =
      none_of (passes numbers_fit) (passes (names_known find)) (passes (sorts_fit find)) (passes ones_left_out) NumberTooBig UnknownName SortOf NotNormal
      (all numbers_fit (λ s p n. refl) number_fits (λ n l d. refl))
      (all (names_known find) (λ s p n. ap is_some n.found) (λ n l. refl) (λ n l d. refl))
      (all (sorts_fit find) (λ s p n. ap (name_has_sort s) n.found ∙ own_sort s) (λ n l. refl) (λ n l d. refl))
      (all ones_left_out (λ s p n. refl) (λ n l. refl) no_one)

  faultless : (passes : Test → Bool) (normal : Bool) → AllPass passes → normal ≡ true → option_or (fault_by passes find) (unless normal NotNormal) ≡ None
  faultless passes normal all n = still_none (fault_by passes find) normal NotNormal (no_fault passes all) n

  polynomial_is : (p : terms.Polynomial) → OfPolynomial (IsNamed name find) p → IsNormal p → IsPolynomialOf find (polynomial_text (polynomial_written name p)) p
  polynomial_is p h n =
      let l = and_parts (is_light p) (narrow_inside p) n.narrow in
      let w = polynomial_written name p in
      let again : polynomial_value (exact find) w ≡ p = laws.polynomial_again p h n in
      record {
        written = w;
        stands = record {
          spells = laws.polynomial_spelled p h n;
          faultless = faultless (λ t. polynomial_passes t w) (is_normal (polynomial_value (exact find) w))
              (λ t names numbers factors. polynomial_passed name t (IsNamed name find) names numbers factors p h l.0 l.1) (ap is_normal again ∙ normal_is p n);
        };
        value = sym again;
      }

  array_is : (a : terms.ArrayTerm) → OfArray (IsNamed name find) a → IsNormalArray a → ReadsAsArray find (array_text (array_written name a)) a
  array_is a h n =
      let w = array_written name a in
      let again : array_value (exact find) w terms.NoWrites ≡ a = laws.array_again a h n in
      record {
        written = w;
        stands = record {
          spells = laws.array_spelled a h n;
          faultless = faultless (λ t. array_passes t w) (is_normal_array (array_value (exact find) w terms.NoWrites))
              (λ t names numbers factors. array_passed name t (IsNamed name find) names numbers factors a h n.narrow)
              (ap is_normal_array again ∙ array_is_normal a n);
        };
        value = sym again;
      }

  list_is : (l : lists.ListTerm) → OfList (IsNamed name find) l → IsNormalList l → ReadsAsList find (list_text (list_written name l)) l
  list_is l h n =
      let w = list_written name l in
      let again : list_value (exact find) w ≡ l = laws.list_again l h n in
      record {
        written = w;
        stands = record {
          spells = laws.list_spelled l h n;
          faultless = faultless (λ t. list_passes t w) (is_normal_list (list_value (exact find) w))
              (λ t names numbers factors. list_passed name t (IsNamed name find) names numbers factors l h n.items)
              (ap is_normal_list again ∙ list_is_normal l n);
        };
        value = sym again;
      }

  literal_passed : (l : NormalLiteral) → OfLiteral (IsNamed name find) l → IsNormalLiteral l
      → AllPass (λ t. written_condition_passes t (literal_in_words name l))
  literal_passed True h n t names numbers factors = refl
  literal_passed False h n t names numbers factors = refl
  literal_passed (Is d k b) h n t names numbers factors =
      let m = direction_is_normal d k b n in
      let w = and_parts (is_light d) (narrow_inside d) m.narrow in
      let i = inner_small b (and_second (is_normal d && is_primitive d) (is_inner_number b) n) in
      and_from (polynomial_passes t (polynomial_written name d)) (integer_passes t (integer_written b))
      (polynomial_passed name t (IsNamed name find) names numbers factors d h w.0 w.1) (integer_passed name t (IsNamed name find) names numbers factors b i)

  literal_is : (l : NormalLiteral) → OfLiteral (IsNamed name find) l → IsNormalLiteral l → l ≢ True → IsLiteralOf find (literal_bytes name l) l
  literal_is l h n d =
      let w = literal_in_words name l in
      let again : condition_value (exact find) w ≡ l = laws.literal_again l h n d in
      record {
        written = w;
        spells = laws.literal_spelled l h n;
        faultless = faultless (λ t. written_condition_passes t w) (is_normal_literal (condition_value (exact find) w)) (literal_passed l h n)
            (ap is_normal_literal again ∙ n);
        value = sym again;
      }

  module _ (r : TextMeanings) (read : AreRead find r) (test : Pos × Sort → Bool)
      (named : (p : Pos) (s : Sort) → test (p, s) ≡ true → IsNamed name find s p) where
    -- the text of a normal form is read as the form
    pub form_read : (f : Nf) → IsNormalForm f → form_within test f ≡ true → r.term (sort_of_form f) (form_written name f) ≡ Ok f
    form_read (Num p) n w = read.polynomial (form_written name (Num p)) p (polynomial_is p (polynomial_named (IsNamed name find) test named p w) n)
    form_read (Arr a) n w = read.array (form_written name (Arr a)) a (array_is a (array_named (IsNamed name find) test named a w) n)
    form_read (Seq l) n w = read.list (form_written name (Seq l)) l (list_is l (list_named (IsNamed name find) test named l w) n)

    -- the text of a literal is read as the literal
    pub literal_read : (l : NormalLiteral) → IsNormalLiteral l → l ≢ True → literal_within test l ≡ true → r.condition (literal_bytes name l) ≡ Ok l
    literal_read l n d w = read.condition (literal_bytes name l) l (literal_is l (literal_named (IsNamed name find) test named l w) n d)
