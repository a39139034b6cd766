-- What goes on behind a part and what was read behind it.
use Rattle.std.proofs.Common.{◌≡◌, Bool, ℕ, List, Bor, Option, Result, ap, sym, refl, ◌∙◌}
use Rattle.term_text.specs.declared.fault.ReadError.{ReadError}
use Rattle.term_text.specs.declared.tree.WrittenMonomial.{WrittenMonomial}
use Rattle.term_text.specs.declared.tree.WrittenPolynomial.{WrittenPolynomial}
use Rattle.term_text.specs.TermTexts.{Polynomial, ArrayTerm, TermSyntax, Written}
use Rattle.term_text.specs.View.{written_monomial_in, written_polynomial_in, first_sum}
use Rattle.term_text.specs.Machine.{Owed, expect, ForPolynomial, ForArray, ForMonomial, Goes, term_reading, at_polynomial, at_monomial, place, value}
use Rattle.term_text.specs.Machine.{first_monomial_for, monomial_done, after_sum, after_polynomial, after_array}
use Rattle.term_text.specs.AtomStarts.{Closes, MadeFrom}
use Rattle.term_text.proofs.Steps.{first_monomial, opens_value, closes_value}
use Rattle.term_text.proofs.PassedOn.{goes_made}

-- the first monomial behind its sign
pub first_goes : (minus : Bool) (bs : List ℕ) (r : Result (WrittenMonomial × Bor (List ℕ)) ReadError)
    (s : Result (Bool × WrittenMonomial × Bor (List ℕ)) ReadError)
    → ((k : ForMonomial) → Goes r (term_reading bs (at_monomial k)) (λ x. term_reading x.1.now (monomial_done (written_monomial_in x.0) k)))
    → MadeFrom r s (λ x y. (y.0 ≡ minus) × (y.1 ≡ x.0) × (y.2.now ≡ x.1.now)) → (k : ForPolynomial)
    → Goes s (term_reading bs (at_monomial (first_monomial_for minus k))) (λ y. term_reading y.2.now (after_sum (first_sum (y.0, written_monomial_in y.1)) k))
first_goes minus bs r s goes made k = goes_made r s _ _ made refl (goes (first_monomial_for minus k))
    (λ x y m. ap (term_reading x.1.now) (first_monomial minus (written_monomial_in x.0) k)
    ∙ (λ j. term_reading (sym m.2 j) (after_sum (first_sum (sym m.0 j, written_monomial_in (sym m.1 j))) k)))

-- the value of a write behind its index
pub write_goes : (a : ArrayTerm) (index : WrittenPolynomial) (bs : List ℕ) (opened : Result (Bor (List ℕ)) ReadError)
    (r : Result (WrittenPolynomial × Bor (List ℕ)) ReadError) (s : Result (WrittenPolynomial × WrittenPolynomial × Bor (List ℕ)) ReadError)
    → ((owed : Owed) → Goes opened (term_reading bs (expect 58 (expect 32 owed))) (λ x. term_reading x.now owed))
    → ((text : Option TermSyntax) (k : ForPolynomial) (done : Polynomial → Owed) → Closes 125 k done
    → Goes opened text (λ x. term_reading x.now (at_polynomial k)) → Goes r text (λ x. term_reading x.1.now (done (written_polynomial_in x.0))))
    → MadeFrom r s (λ x y. (y.0 ≡ index) × (y.1 ≡ x.0) × (y.2.now ≡ x.1.now)) → (k : ForArray)
    → Goes s (term_reading bs (after_polynomial (written_polynomial_in index) (place a k)))
    (λ y. term_reading y.2.now (after_array (Written a (written_polynomial_in y.0) (written_polynomial_in y.1)) k))
write_goes a index bs opened r s opens reads made k =
    let i = written_polynomial_in index in
    goes_made r s _ _ made (opens_value i a k bs)
    (reads _ (value a i k) (λ v. after_array (Written a i v) k) (closes_value a i k) (opens (at_polynomial (value a i k))))
    (λ x y m. λ j. term_reading (sym m.2 j) (after_array (Written a (written_polynomial_in (sym m.0 j)) (written_polynomial_in (sym m.1 j))) k))
