-- What a whole condition is read as.
use Rattle.std.proofs.Common.{◌≡◌, ℕ, nat_le, true, false, List, [], ◌++◌, codes, Option, Some, None, Result, Ok, Err, refl, sym, ap, subst, ◌∙◌, append-nil}
use Rattle.std.proofs.Common.{arith}
use Rattle.std.specs.Prelude.{IfSome}
use Rattle.std.specs.Str.{bytes_eq}
use Rattle.std.proofs.lemmas.Slice.Eq.{bytes_eq-Decides}
use Rattle.std.proofs.lemmas.Bool.{and_parts, and_from}
use Rattle.nf_terms.specs.TermLimits.{depth_limit}
use Rattle.nf_rel.specs.declared.kind.Kind.{Kind}
use Rattle.nf_rel.specs.declared.kind.Kind.TheVariants.{Ge, Le, Eq, Ne}
use Rattle.term_text.specs.declared.fault.ReadError.{ReadError}
use Rattle.term_text.specs.declared.fault.ReadError.TheVariants.{BadTerm, NoMemory}
use Rattle.term_text.specs.declared.tree.WrittenPolynomial.{WrittenPolynomial}
use Rattle.term_text.specs.TermTexts as text
use Rattle.term_text.specs.TermTexts.{Polynomial, polynomial, polynomial_text}
use Rattle.term_text.specs.SpellableTerms as terms
use Rattle.term_text.specs.SpellableTerms.{polynomial_spelled}
use Rattle.term_text.specs.Machine.{TermMadeAs}
use Rattle.term_text.specs.Brackets.{most_open}
use Rattle.term_text.specs.View.{written_polynomial_in}
use Rattle.term_condition_text.proofs.Depths.{term_open}
use Rattle.term_condition_text.specs.ConditionTexts.{Integer, ZeroInteger, Positive, Negative, Condition, False, Compared, integer_text, kind_text}
use Rattle.term_condition_text.specs.ConditionTexts.{condition_text, integer_spelled, SpellsCondition}
use Rattle.term_condition_text.specs.ConditionParts.{condition_parts}
use Rattle.term_condition_text.proofs.Plain.{polynomial_plain}
use Rattle.term_condition_text.proofs.Complete.{parts_again}
use Rattle.term_condition_text.proofs.Sound.{ArePartsOf, parts_are}

-- ---- brackets: those of the polynomial

digits_open : (ds : List ℕ) → terms.is_number_text ds ≡ true → most_open 0 ds ≡ 0
digits_open ds e = ap (most_open 0) (sym (append-nil ds)) ∙ omega (arith, term_open (polynomial (text.Of (text.Positive (text.Number ds)))) 0 [] e)

integer_open : (i : Integer) → integer_spelled i ≡ true → most_open 0 (integer_text i) ≡ 0
integer_open ZeroInteger e = refl
integer_open (Positive ds) e = digits_open ds e
integer_open (Negative ds) e = omega (arith, digits_open ds e)

kind_open : (k : Kind) (rest : List ℕ) → most_open 0 rest ≡ 0 → most_open 0 (kind_text k ++ rest) ≡ 0
kind_open Ge rest e = omega (arith, e)
kind_open Le rest e = omega (arith, e)
kind_open Eq rest e = omega (arith, e)
kind_open Ne rest e = omega (arith, e)

pub same_brackets : (p : Polynomial) (k : Kind) (i : Integer) → polynomial_spelled p ≡ true → integer_spelled i ≡ true
    → most_open 0 (polynomial_text p ++ (kind_text k ++ integer_text i)) ≡ most_open 0 (polynomial_text p)
same_brackets p k i e f =
    let whole = term_open (polynomial p) 0 (kind_text k ++ integer_text i) e in
    let alone = term_open (polynomial p) 0 [] e in
    let behind = kind_open k (integer_text i) (integer_open i f) in
    let same : most_open 0 (polynomial_text p) ≡ most_open 0 (polynomial_text p ++ []) = ap (most_open 0) (sym (append-nil (polynomial_text p))) in
    omega (arith, whole, alone, behind, same)

-- ---- what is read is spelled

pub false_spelled : (bytes : List ℕ) → bytes_eq bytes (codes "false") ≡ true → SpellsCondition bytes False
false_spelled bytes e = let t = (bytes_eq-Decides bytes (codes "false")).0 e in
    record { spelled = refl; text = t; shallow = subst (λ (bs : List ℕ). nat_le (most_open 0 bs) depth_limit ≡ true) (sym t) refl }

part_spelled : (bytes front : List ℕ) (k : Kind) (i : Integer) (p : Polynomial) → ArePartsOf bytes (front, k, i) → terms.SpellsTermText front (polynomial p)
    → SpellsCondition bytes (Compared p k i)
part_spelled bytes front k i p h s =
    let t : bytes ≡ condition_text (Compared p k i) = h.0 ∙ ap (λ xs. xs ++ (kind_text k ++ integer_text i)) s.text in
    record {
      spelled = and_from (polynomial_spelled p) (integer_spelled i) s.spelled h.1;
      text = t;
      shallow = ap (λ n. nat_le n depth_limit) (ap (most_open 0) t ∙ same_brackets p k i s.spelled h.1 ∙ ap (most_open 0) (sym s.text)) ∙ s.shallow;
    }

pub comparison_spelled : (bytes front : List ℕ) (k : Kind) (i : Integer) (p : Polynomial) → condition_parts bytes ≡ Some (front, k, i)
    → terms.SpellsTermText front (polynomial p) → SpellsCondition bytes (Compared p k i)
comparison_spelled bytes front k i p e s = part_spelled bytes front k i p (subst (λ o. IfSome o (ArePartsOf bytes)) e (parts_are bytes)) s

-- ---- what is spelled is read

no_false : condition_parts (codes "false") ≡ None
no_false = refl

-- the parts of a condition that is spelled, unless it is `false`
pub spelled_parts : (bytes : List ℕ) (p : Polynomial) (k : Kind) (i : Integer) → SpellsCondition bytes (Compared p k i)
    → condition_parts bytes ≡ Some (polynomial_text p, k, i)
spelled_parts bytes p k i s =
    let e = and_parts (polynomial_spelled p) (integer_spelled i) s.spelled in
    ap condition_parts s.text ∙ parts_again (polynomial_text p) k i (polynomial_plain p e.0) e.1

pub front_spelled : (bytes : List ℕ) (p : Polynomial) (k : Kind) (i : Integer) → SpellsCondition bytes (Compared p k i)
    → terms.SpellsTermText (polynomial_text p) (polynomial p)
front_spelled bytes p k i s =
    let e = and_parts (polynomial_spelled p) (integer_spelled i) s.spelled in
    record { spelled = e.0; text = refl; shallow = ap (λ n. nat_le n depth_limit) (sym (ap (most_open 0) s.text ∙ same_brackets p k i e.0 e.1)) ∙ s.shallow }

none_is_some : (x : List ℕ × Kind × Integer) → None ≡ Some x → ⊥
none_is_some x e = cc

differ : (bytes : List ℕ) → bytes_eq bytes (codes "false") ≡ false → bytes ≡ codes "false" → ⊥
differ bytes e t = let h = (bytes_eq-Decides bytes (codes "false")).1 t in cc

pub only_false : (bytes : List ℕ) → bytes_eq bytes (codes "false") ≡ true → (c : Condition) → SpellsCondition bytes c → False ≡ c
only_false bytes e False s = refl
only_false bytes e (Compared p k i) s =
    let t = (bytes_eq-Decides bytes (codes "false")).0 e in
    absurd (none_is_some (polynomial_text p, k, i) (sym no_false ∙ ap condition_parts (sym t) ∙ spelled_parts bytes p k i s))

pub no_parts : (bytes : List ℕ) → bytes_eq bytes (codes "false") ≡ false → condition_parts bytes ≡ None → (c : Condition) → SpellsCondition bytes c → ⊥
no_parts bytes e f False s = differ bytes e s.text
no_parts bytes e f (Compared p k i) s = none_is_some (polynomial_text p, k, i) (sym f ∙ spelled_parts bytes p k i s)

same_parts : (x y : List ℕ × Kind × Integer) → Some x ≡ Some y → x ≡ y
same_parts x y e = cc

same_front : (f g : List ℕ) (k j : Kind) (i h : Integer) → ◌≡◌ {A = Option (List ℕ × Kind × Integer)} (Some (f, k, i)) (Some (g, j, h))
    → (f ≡ g) × (k ≡ j) × (i ≡ h)
same_front f g k j i h e = let s = same_parts (f, k, i) (g, j, h) e in (ap (λ x. x.0) s, ap (λ x. x.1) s, ap (λ x. x.2) s)

answered : (r : Result WrittenPolynomial ReadError) (p : Polynomial) (k j : Kind) (i h : Integer) → k ≡ j → i ≡ h
    → TermMadeAs r (λ t. written_polynomial_in t ≡ p) → TermMadeAs r (λ t. Compared (written_polynomial_in t) k i ≡ Compared p j h)
answered (Ok t) p k j i h e f m = cc
answered (Err BadTerm) p k j i h e f m = m
answered (Err NoMemory) p k j i h e f m = tt

unread : (r : Result WrittenPolynomial ReadError) (c : Condition) (k : Kind) (i : Integer) → ⊥ → TermMadeAs r (λ t. Compared (written_polynomial_in t) k i ≡ c)
unread r c k i h = absurd h

-- the answer for the polynomial is the answer for the condition
pub read_comparison : (bytes front : List ℕ) (k : Kind) (i : Integer) (r : Result WrittenPolynomial ReadError) → bytes_eq bytes (codes "false") ≡ false
    → condition_parts bytes ≡ Some (front, k, i)
    → ((p : Polynomial) → terms.SpellsTermText front (polynomial p) → TermMadeAs r (λ t. written_polynomial_in t ≡ p)) → (c : Condition)
    → SpellsCondition bytes c → TermMadeAs r (λ t. Compared (written_polynomial_in t) k i ≡ c)
read_comparison bytes front k i r e f read False s = unread r False k i (differ bytes e s.text)
read_comparison bytes front k i r e f read (Compared p j h) s =
    let same = same_front front (polynomial_text p) k j i h (sym f ∙ spelled_parts bytes p j h s) in
    answered r p k j i h same.1 same.2 (read p (subst (λ (bs : List ℕ). terms.SpellsTermText bs (polynomial p)) (sym same.0) (front_spelled bytes p j h s)))

-- a refusal says nothing of a value
pub refusal_alike : {X Y : Type 0} (P : X → Type 0) (Q : Y → Type 0) (d : ReadError) → TermMadeAs (Err d) P → TermMadeAs (Err d) Q
refusal_alike P Q BadTerm h = h
refusal_alike P Q NoMemory h = tt
