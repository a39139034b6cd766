use Rattle.std.proofs.Common.{◌<◌, ◌+◌, ◌*◌, ℕ, List, [], ◌∷◌, ◌++◌, Bor, Result, length, map, ap, sym, subst, refl, ◌∙◌, arith, rules}
use Rattle.std.specs.Result.{IfOk}
use Rattle.term_text.specs.declared.fault.ReadError.{ReadError}
use Rattle.term_text.specs.Machine.{first, times, term_reading, Goes, after_monomial, after_sum, after_array, after_polynomial, monomial_done, atom_done}
use Rattle.term_text.specs.Machine.{at_polynomial, read_of, index, place, monomial_of_sum}
use Rattle.term_text.specs.AtomStarts.{left_side, right_side, division_of, after_start, rest_length}
use Rattle.term_text.specs.TermTexts.{Atom, Monomial, Polynomial, ArrayTerm, Read}
use Rattle.term_text.specs.declared.tree.WrittenAtom.TheFolds.{fold-roll-WrittenMonomial, fold-roll-WrittenPolynomial, fold-roll-WrittenArray}
use Rattle.term_text.specs.View.{written_atom_step, head_step, array_step, monomial_step, polynomial_step, head_in}
use Rattle.term_text.specs.View.{times_all, written_all, sum_of, more_sum, base_in, written_atom_in, written_term_in, written_write_in, written_array_in}
use Rattle.term_text.specs.View.{written_polynomial_in, written_monomial_in}
use Rattle.term_text.proofs.Steps.{monomial_starts, found, missing, rest_after_shorter, atoms_go_on, sum_goes_on, array_goes_on, monomial_ended, sum_ended}
use Rattle.term_text.proofs.Steps.{sum_whole, writes_ended, next_monomial, closes_index, closes_right, opens_index, opens_right, atom_more, monomial_more}
use Rattle.term_text.proofs.Steps.{write_more, some_there, polynomial_starts}
use Rattle.term_text.proofs.Openings.{rest_shorter, opened_measure, opened_less, inside_less}
use Rattle.term_text.proofs.PassedOn.{refused, refused_after, refused_making, goes_after, goes_made, goes_on, same_atom, none_left, less_left}
use Rattle.term_text.proofs.PassedOn.{less_made, less_beside, less_on}
use Rattle.term_text.proofs.BehindParts.{first_goes, write_goes}
use Rattle.term_text.proofs.terms.+terms.Goals as goal

pub head-returns-else-begins_with_digit-clause-goes : goal.head-returns-else-begins_with_digit-clause-goes
head-returns-else-begins_with_digit-clause-goes t c = λ k. goes_made c.atom.result c.one.result _ _ c.one.ensures
    (monomial_starts c.args.bytes.now k (sym c.begins_with_digit.ensures ∙ c.if-begins_with_digit.false)) (c.atom.ensures.goes (first k))
    (λ x y m. λ j. term_reading (sym m.1 j) (after_monomial (sym m.0 j) k))

pub atoms-returns-in-None-clause-goes : goal.atoms-returns-in-None-clause-goes
atoms-returns-in-None-clause-goes t c =
    let old = map written_atom_in c.loop-after.atoms.items in
    let nothing = missing c.rest_after.result 42 c.loop-after.rest.now c.rest_after.ensures.rest c.in-None.is in
    λ m k. c.loop-after.invariant.0 m k ∙ monomial_ended c.loop-after.rest.now (times_all m old) k nothing

pub monomial-returns-clause-goes : goal.monomial-returns-clause-goes
monomial-returns-clause-goes t c =
    let rest = c.in_ok-head.rest.now in
    let made = fold-roll-WrittenMonomial Atom Monomial ArrayTerm Monomial Polynomial written_atom_step head_step array_step
    monomial_step polynomial_step
    (record { head = c.in_ok-head.head; atoms = c.in_ok-head.atoms }) in
    λ k. c.in_ok-first.ensures.goes k ∙ goes_on c.atoms.result _ _ _ c.in_ok-head.ensures (c.atoms.ensures.goes (head_in c.in_ok-first.first) k)
    (λ x m. λ j. term_reading (sym m.2 j) (monomial_done (times_all (head_in (sym m.0 j)) (map written_atom_in (sym m.1 j).items)) k))
    ∙ ap (λ x. term_reading rest (monomial_done x k)) (sym made)

pub sum-returns-in-None-clause-goes : goal.sum-returns-in-None-clause-goes
sum-returns-in-None-clause-goes t c =
    let ms = c.loop-after.monomials in
    let rest = c.loop-after.rest.now in
    let nothing = missing c.rest_after.result 32 rest c.rest_after.ensures.rest c.in-None.is in
    let made = fold-roll-WrittenPolynomial Atom Monomial ArrayTerm Monomial Polynomial written_atom_step head_step array_step
    monomial_step polynomial_step
    (record { monomials = ms }) ∙ sum_whole ms.items c.loop-after.invariant.2 in
    λ k. c.loop-after.invariant.0 k ∙ sum_ended rest (sum_of (map written_term_in ms.items)) k nothing
    ∙ ap (λ x. term_reading rest (after_polynomial x k)) (sym made)

pub writes-returns-in-None-clause-goes : goal.writes-returns-in-None-clause-goes
writes-returns-in-None-clause-goes t c =
    let made = fold-roll-WrittenArray Atom Monomial ArrayTerm Monomial Polynomial written_atom_step head_step array_step
    monomial_step polynomial_step
    (record { base = c.args.base; writes = c.loop-after.writes }) in
    λ k. c.loop-after.invariant.0 k ∙ ap (λ x. term_reading c.loop-after.rest.now (after_array x k)) (sym made)

pub writes-returns-in-None-clause-ends : goal.writes-returns-in-None-clause-ends
writes-returns-in-None-clause-ends t c =
    writes_ended c.loop-after.rest.now (missing c.rest_after.result 123 c.loop-after.rest.now c.rest_after.ensures.rest c.in-None.is)

-- ---- refusals that are passed on, and what goes on behind them

pub monomial-returns-in_err-first-clause-goes : goal.monomial-returns-in_err-first-clause-goes
monomial-returns-in_err-first-clause-goes t c = λ k. refused c.from_residual.result c.in_err-first.field-0.0 _ _ c.from_residual.ensures.1 refl
    (c.in_err-first.ensures.goes k)

pub monomial-returns-in_err-head-clause-goes : goal.monomial-returns-in_err-head-clause-goes
monomial-returns-in_err-head-clause-goes t c = λ k. refused_making c.atoms.result c.from_residual-in_err-head.result c.in_err-head.field-0.0 _ _ _
    c.from_residual-in_err-head.ensures.1 (c.in_ok-first.ensures.goes k) c.in_err-head.ensures (c.atoms.ensures.goes (head_in c.in_ok-first.first) k)

pub further-returns-in_err-minus-clause-goes : goal.further-returns-in_err-minus-clause-goes
further-returns-in_err-minus-clause-goes t c = λ s k. refused c.from_residual.result c.in_err-minus.field-0.0 _ _ c.from_residual.ensures.1 refl
    (c.in_err-minus.ensures.goes s k)

pub further-returns-clause-goes : goal.further-returns-clause-goes
further-returns-clause-goes t c =
    let minus = c.in_ok-minus.minus in
    λ s k. goes_made c.monomial.result c.beside.result _ _ c.beside.ensures (c.in_ok-minus.ensures.goes s k)
    (c.monomial.ensures.goes (monomial_of_sum minus s k))
    (λ x y m. ap (term_reading x.1.now) (next_monomial minus (written_monomial_in x.0) s k)
    ∙ (λ j. term_reading (sym m.2 j) (after_sum (more_sum s (sym m.0 j, written_monomial_in (sym m.1 j))) k)))

pub sum-returns-in_err-rest-clause-goes : goal.sum-returns-in_err-rest-clause-goes
sum-returns-in_err-rest-clause-goes t c = λ k. refused_making c.beside.result c.from_residual.result c.in_err-rest.field-0.0 _ _ _
    c.from_residual.ensures.1 refl c.in_err-rest.ensures
    (first_goes c.args.minus c.args.bytes.now c.monomial.result c.beside.result c.monomial.ensures.goes c.beside.ensures k)

-- ---- what is left gets shorter, where a call refuses and where all goes on

pub monomial-returns-in_err-first-clause-shorter : goal.monomial-returns-in_err-first-clause-shorter
monomial-returns-in_err-first-clause-shorter t c = none_left c.from_residual.result c.in_err-first.field-0.0 _ c.from_residual.ensures.1

pub monomial-returns-in_err-head-clause-shorter : goal.monomial-returns-in_err-head-clause-shorter
monomial-returns-in_err-head-clause-shorter t c =
    none_left c.from_residual-in_err-head.result c.in_err-head.field-0.0 _ c.from_residual-in_err-head.ensures.1

pub further-returns-in_err-minus-clause-shorter : goal.further-returns-in_err-minus-clause-shorter
further-returns-in_err-minus-clause-shorter t c = none_left c.from_residual.result c.in_err-minus.field-0.0 _ c.from_residual.ensures.1

pub sum-returns-in_err-rest-clause-shorter : goal.sum-returns-in_err-rest-clause-shorter
sum-returns-in_err-rest-clause-shorter t c = none_left c.from_residual.result c.in_err-rest.field-0.0 _ c.from_residual.ensures.1

pub atoms-returns-in-None-clause-shorter : goal.atoms-returns-in-None-clause-shorter
atoms-returns-in-None-clause-shorter t c = c.loop-after.invariant.1

pub writes-returns-in-None-clause-shorter : goal.writes-returns-in-None-clause-shorter
writes-returns-in-None-clause-shorter t c = c.loop-after.invariant.1

pub sum-returns-in-None-clause-shorter : goal.sum-returns-in-None-clause-shorter
sum-returns-in-None-clause-shorter t c = c.loop-after.invariant.1

pub monomial-returns-clause-shorter : goal.monomial-returns-clause-shorter
monomial-returns-clause-shorter t c = less_on c.atoms.result _ _ c.in_ok-head.ensures c.atoms.ensures.shorter
    (λ x m h. omega (arith, ap length m.2, h, c.in_ok-first.ensures.shorter))

pub further-returns-clause-shorter : goal.further-returns-clause-shorter
further-returns-clause-shorter t c = less_beside c.in_ok-minus.minus c.monomial.result c.beside.result c.beside.ensures
    (omega (arith, c.in_ok-minus.ensures.shorter)) c.monomial.ensures.shorter

pub head-returns-else-begins_with_digit-clause-shorter : goal.head-returns-else-begins_with_digit-clause-shorter
head-returns-else-begins_with_digit-clause-shorter t c = less_made _ c.atom.result c.one.result c.one.ensures (omega arith) c.atom.ensures.shorter

pub atoms-loop-after-preserved : goal.atoms-loop-after-preserved
atoms-loop-after-preserved t c =
    let atoms = c.loop-after.atoms.items in
    let old = map written_atom_in atoms in
    let rest = c.loop-after.rest.now in
    let made = c.in_ok-rest-in-Some.ensures in
    let there = found c.rest_after.result c.in-Some.after 42 rest c.rest_after.ensures.rest c.in-Some.is in (
      λ m k. c.loop-after.invariant.0 m k ∙ atoms_go_on rest c.in-Some.after.now (times_all m old) k there
          ∙ goes_on c.atom.result _ _ _ made (c.atom.ensures.goes (times (times_all m old) k))
          (λ x n. λ j. term_reading (sym n.1 j)
          (after_monomial (sym (ap (λ xs. times_all m (map written_atom_in xs)) n.0 ∙ atom_more m atoms x.0) j) k)),
      less_on c.atom.result _ _ made c.atom.ensures.shorter (λ x n h. omega (
        arith,
        ap length n.1,
        h,
        rest_after_shorter 42 rest c.in-Some.after.now there,
        c.loop-after.invariant.1,
      )),
    )

pub sum-loop-after-preserved : goal.sum-loop-after-preserved
sum-loop-after-preserved t c =
    let monomials = c.loop-after.monomials.items in
    let old = sum_of (map written_term_in monomials) in
    let rest = c.loop-after.rest.now in
    let made = c.in_ok-rest-in-Some.ensures in
    let there = found c.rest_after.result c.in-Some.after 32 rest c.rest_after.ensures.rest c.in-Some.is in (
      λ k. c.loop-after.invariant.0 k ∙ sum_goes_on rest c.in-Some.after.now old k there
          ∙ goes_on c.further.result _ _ _ made (c.further.ensures.goes old k)
          (λ x n. λ j. term_reading (sym n.1 j)
          (after_sum (sym (ap (λ ms. sum_of (map written_term_in ms)) n.0 ∙ monomial_more monomials (x.0, x.1) c.loop-after.invariant.2) j) k)),
      less_on c.further.result _ _ made c.further.ensures.shorter (λ x n h. omega (
        arith,
        ap length n.1,
        h,
        rest_after_shorter 32 rest c.in-Some.after.now there,
        c.loop-after.invariant.1,
      )),
      less_on c.further.result _ _ made c.further.ensures.shorter (λ x n h. some_there monomials _ (x.0, x.1) n.0),
    )

pub sum-loop-after-init : goal.sum-loop-after-init
sum-loop-after-init t c =
    let minus = c.args.minus in
    let made = c.in_ok-rest.ensures in
    let nothing = c.new-monomials.ensures.items in
    let shorter = less_beside {b = length c.args.bytes.now} minus c.monomial.result c.beside.result c.beside.ensures (omega arith)
    c.monomial.ensures.shorter in (
      λ k. goes_on c.beside.result _ _ _ made (first_goes minus c.args.bytes.now c.monomial.result c.beside.result c.monomial.ensures.goes c.beside.ensures k)
          (λ x n. λ j. term_reading (sym n.1 j)
          (after_sum (sym (ap (λ ms. sum_of (map written_term_in ms)) (n.0 ∙ ap (λ ms. ms ++ (x.0, x.1) ∷ []) nothing)) j) k)),
      less_on c.beside.result _ _ made shorter (λ x n h. omega (arith, ap length n.1, h)),
      less_on c.beside.result _ _ made shorter (λ x n h. some_there c.new-monomials.result.items _ (x.0, x.1) n.0),
    )

pub writes-loop-after-preserved : goal.writes-loop-after-preserved
writes-loop-after-preserved t c =
    let base = base_in c.args.base in
    let writes = c.loop-after.writes.items in
    let a = written_all base (map written_write_in writes) in
    let index = c.in_ok-index-in-Some.index in
    let rest = c.loop-after.rest.now in
    let made = c.in_ok-rest-in-Some.ensures in
    let there = found c.rest_after.result c.in-Some.after 123 rest c.rest_after.ensures.rest c.in-Some.is in (
      λ k. c.loop-after.invariant.0 k ∙ array_goes_on rest c.in-Some.after.now a k there ∙ c.in_ok-index-in-Some.ensures.goes (place a k)
          ∙ goes_on c.beside.result _ _ _ made (write_goes a index c.in_ok-index-in-Some.after.now c.expect_two.result c.inside.result c.beside.result
          c.expect_two.ensures.goes c.inside.ensures.goes c.beside.ensures k)
          (λ x n. λ j. term_reading (sym n.1 j)
          (after_array (sym (ap (λ ws. written_all base (map written_write_in ws)) n.0 ∙ write_more base writes (x.0, x.1)) j) k)),
      less_on c.beside.result _ _ made
          (less_beside {b = rest_length c.expect_two.result} index c.inside.result c.beside.result c.beside.ensures (omega arith) c.inside.ensures.shorter)
          (λ x n h. omega (
            arith,
            ap length n.1,
            h,
            rest_shorter _ c.expect_two.result c.expect_two.ensures.shorter,
            c.in_ok-index-in-Some.ensures.shorter,
            rest_after_shorter 123 rest c.in-Some.after.now there,
            c.loop-after.invariant.1,
          )),
    )

pub atoms-returns-in_err-rest-in-Some-clause-goes : goal.atoms-returns-in_err-rest-in-Some-clause-goes
atoms-returns-in_err-rest-in-Some-clause-goes t c =
    let old = map written_atom_in c.loop-after.atoms.items in
    let there = found c.rest_after.result c.in-Some.after 42 c.loop-after.rest.now c.rest_after.ensures.rest c.in-Some.is in
    λ m k. refused_making c.atom.result c.from_residual.result c.in_err-rest-in-Some.field-0.0 _ _ _ c.from_residual.ensures.1
    (c.loop-after.invariant.0 m k ∙ atoms_go_on c.loop-after.rest.now c.in-Some.after.now (times_all m old) k there)
    c.in_err-rest-in-Some.ensures (c.atom.ensures.goes (times (times_all m old) k))

pub sum-returns-in_err-rest-in-Some-clause-goes : goal.sum-returns-in_err-rest-in-Some-clause-goes
sum-returns-in_err-rest-in-Some-clause-goes t c =
    let old = sum_of (map written_term_in c.loop-after.monomials.items) in
    let there = found c.rest_after.result c.in-Some.after 32 c.loop-after.rest.now c.rest_after.ensures.rest c.in-Some.is in
    λ k. refused_making c.further.result c.from_residual-in_err-rest-in-Some.result c.in_err-rest-in-Some.field-0.0 _ _ _
    c.from_residual-in_err-rest-in-Some.ensures.1
    (c.loop-after.invariant.0 k ∙ sum_goes_on c.loop-after.rest.now c.in-Some.after.now old k there)
    c.in_err-rest-in-Some.ensures (c.further.ensures.goes old k)

pub writes-returns-in_err-index-in-Some-clause-goes : goal.writes-returns-in_err-index-in-Some-clause-goes
writes-returns-in_err-index-in-Some-clause-goes t c =
    let a = written_all (base_in c.args.base) (map written_write_in c.loop-after.writes.items) in
    let there = found c.rest_after.result c.in-Some.after 123 c.loop-after.rest.now c.rest_after.ensures.rest c.in-Some.is in
    λ k. refused c.from_residual.result c.in_err-index-in-Some.field-0.0 _ _ c.from_residual.ensures.1
    (c.loop-after.invariant.0 k ∙ array_goes_on c.loop-after.rest.now c.in-Some.after.now a k there) (c.in_err-index-in-Some.ensures.goes (place a k))

pub writes-returns-in_err-rest-in-Some-clause-goes : goal.writes-returns-in_err-rest-in-Some-clause-goes
writes-returns-in_err-rest-in-Some-clause-goes t c =
    let a = written_all (base_in c.args.base) (map written_write_in c.loop-after.writes.items) in
    let there = found c.rest_after.result c.in-Some.after 123 c.loop-after.rest.now c.rest_after.ensures.rest c.in-Some.is in
    λ k. refused_making c.beside.result c.from_residual-in_err-rest-in-Some.result c.in_err-rest-in-Some.field-0.0 _ _ _
    c.from_residual-in_err-rest-in-Some.ensures.1
    (c.loop-after.invariant.0 k ∙ array_goes_on c.loop-after.rest.now c.in-Some.after.now a k there ∙ c.in_ok-index-in-Some.ensures.goes (place a k))
    c.in_err-rest-in-Some.ensures
    (write_goes a c.in_ok-index-in-Some.index c.in_ok-index-in-Some.after.now c.expect_two.result c.inside.result c.beside.result c.expect_two.ensures.goes
    c.inside.ensures.goes c.beside.ensures k)

pub inside-returns-in-Ok-clause-goes : goal.inside-returns-in-Ok-clause-goes
inside-returns-in-Ok-clause-goes t c = λ text k done closes g. c.close.ensures.goes text k done closes (goes_after c.polynomial.result _
    (subst (λ (o : Result (Bor (List ℕ)) ReadError). Goes o text (λ r. term_reading r.now (at_polynomial k))) c.in-Ok.is g) (c.polynomial.ensures.goes k))

pub inside-returns-in-Err-clause-goes : goal.inside-returns-in-Err-clause-goes
inside-returns-in-Err-clause-goes t c = λ text k done closes g. refused_after c.args.opened c.in-Err.error _ _ _ c.in-Err.is g

pub inside-returns-in-Ok-clause-shorter : goal.inside-returns-in-Ok-clause-shorter
inside-returns-in-Ok-clause-shorter t c =
    subst (λ (o : Result (Bor (List ℕ)) ReadError). IfOk c.close.result (λ x. length x.1.now < rest_length o)) (sym c.in-Ok.is)
    (c.close.ensures.shorter (length c.in-Ok.bytes.now) c.polynomial.ensures.shorter)

pub read-returns-in_err-array-clause-goes : goal.read-returns-in_err-array-clause-goes
read-returns-in_err-array-clause-goes t c = λ k. refused c.from_residual.result c.in_err-array.field-0.0 _ _ c.from_residual.ensures.1 refl
    (c.in_err-array.ensures.goes (read_of k))

pub read-returns-clause-goes : goal.read-returns-clause-goes
read-returns-clause-goes t c =
    let a = written_array_in c.in_ok-array.array in
    λ k. goes_made c.inside.result c.make_read.result _ _ c.make_read.ensures (c.in_ok-array.ensures.goes (read_of k))
    (c.inside.ensures.goes _ (index a k) (λ i. atom_done (Read a i) k) (closes_index a k)
    (goes_after c.expect.result _ (opens_index a k c.in_ok-array.rest.now c.in_ok-array.ensures.ends) (c.expect.ensures.goes (at_polynomial (index a k)))))
    (λ x y m. same_atom k m)

pub division-returns-in_err-left-clause-goes : goal.division-returns-in_err-left-clause-goes
division-returns-in_err-left-clause-goes t c = λ k. refused c.from_residual.result c.in_err-left.field-0.0 _ _ c.from_residual.ensures.1 refl
    (c.in_err-left.ensures.goes (left_side c.args.kind k))

pub division-returns-clause-goes : goal.division-returns-clause-goes
division-returns-clause-goes t c =
    let d = c.args.kind in
    let l = written_polynomial_in c.in_ok-left.left in
    λ k. goes_made c.inside.result c.make_division.result _ _ c.make_division.ensures (c.in_ok-left.ensures.goes (left_side d k))
    (c.inside.ensures.goes _ (right_side d l k) (λ r. atom_done (division_of d l r) k) (closes_right d l k)
    (goes_after c.expect_two.result _ (opens_right d l k c.in_ok-left.rest.now) (c.expect_two.ensures.goes (at_polynomial (right_side d l k)))))
    (λ x y m. same_atom k m)

pub atom-returns-in_err-start-clause-goes : goal.atom-returns-in_err-start-clause-goes
atom-returns-in_err-start-clause-goes t c = λ k. refused c.from_residual.result c.in_err-start.field-0.0 _ _ c.from_residual.ensures.1 refl
    (c.in_err-start.ensures.goes k)

pub atom-returns-in-Array-clause-goes : goal.atom-returns-in-Array-clause-goes
atom-returns-in-Array-clause-goes t c = λ k. goes_after c.read.result _ (c.in_ok-start.ensures.goes k
    ∙ ap (λ s. term_reading c.in_ok-start.rest.now (after_start s k)) c.in-Array.is) (c.read.ensures.goes k)

pub atom-returns-in-Division-clause-goes : goal.atom-returns-in-Division-clause-goes
atom-returns-in-Division-clause-goes t c = λ k. goes_after c.division.result _ (c.in_ok-start.ensures.goes k
    ∙ ap (λ s. term_reading c.in_ok-start.rest.now (after_start s k)) c.in-Division.is) (c.division.ensures.goes k)

-- ---- what is left behind parts that are made

pub atom-returns-in_err-start-clause-shorter : goal.atom-returns-in_err-start-clause-shorter
atom-returns-in_err-start-clause-shorter t c = none_left c.from_residual.result c.in_err-start.field-0.0 _ c.from_residual.ensures.1

pub atom-returns-in-Array-clause-shorter : goal.atom-returns-in-Array-clause-shorter
atom-returns-in-Array-clause-shorter t c = less_left c.read.result c.in_ok-start.ensures.shorter c.read.ensures.shorter

pub atom-returns-in-Division-clause-shorter : goal.atom-returns-in-Division-clause-shorter
atom-returns-in-Division-clause-shorter t c = less_left c.division.result c.in_ok-start.ensures.shorter c.division.ensures.shorter

pub read-returns-in_err-array-clause-shorter : goal.read-returns-in_err-array-clause-shorter
read-returns-in_err-array-clause-shorter t c = none_left c.from_residual.result c.in_err-array.field-0.0 _ c.from_residual.ensures.1

pub read-returns-clause-shorter : goal.read-returns-clause-shorter
read-returns-clause-shorter t c = less_made _ c.inside.result c.make_read.result c.make_read.ensures
    (omega (arith, rest_shorter _ c.expect.result c.expect.ensures.shorter, c.in_ok-array.ensures.shorter)) c.inside.ensures.shorter

pub division-returns-in_err-left-clause-shorter : goal.division-returns-in_err-left-clause-shorter
division-returns-in_err-left-clause-shorter t c = none_left c.from_residual.result c.in_err-left.field-0.0 _ c.from_residual.ensures.1

pub division-returns-clause-shorter : goal.division-returns-clause-shorter
division-returns-clause-shorter t c = less_made _ c.inside.result c.make_division.result c.make_division.ensures
    (omega (arith, rest_shorter _ c.expect_two.result c.expect_two.ensures.shorter, c.in_ok-left.ensures.shorter)) c.inside.ensures.shorter

pub atoms-returns-in_err-rest-in-Some-clause-shorter : goal.atoms-returns-in_err-rest-in-Some-clause-shorter
atoms-returns-in_err-rest-in-Some-clause-shorter t c =
    none_left c.from_residual.result c.in_err-rest-in-Some.field-0.0 _ c.from_residual.ensures.1

pub sum-returns-in_err-rest-in-Some-clause-shorter : goal.sum-returns-in_err-rest-in-Some-clause-shorter
sum-returns-in_err-rest-in-Some-clause-shorter t c = none_left c.from_residual-in_err-rest-in-Some.result
    c.in_err-rest-in-Some.field-0.0 _ c.from_residual-in_err-rest-in-Some.ensures.1

pub writes-returns-in_err-index-in-Some-clause-shorter : goal.writes-returns-in_err-index-in-Some-clause-shorter
writes-returns-in_err-index-in-Some-clause-shorter t c = none_left c.from_residual.result c.in_err-index-in-Some.field-0.0 _ c.from_residual.ensures.1

pub writes-returns-in_err-index-in-Some-clause-ends : goal.writes-returns-in_err-index-in-Some-clause-ends
writes-returns-in_err-index-in-Some-clause-ends t c = none_left c.from_residual.result c.in_err-index-in-Some.field-0.0 _ c.from_residual.ensures.1

pub writes-returns-in_err-rest-in-Some-clause-shorter : goal.writes-returns-in_err-rest-in-Some-clause-shorter
writes-returns-in_err-rest-in-Some-clause-shorter t c =
    none_left c.from_residual-in_err-rest-in-Some.result c.in_err-rest-in-Some.field-0.0 _ c.from_residual-in_err-rest-in-Some.ensures.1

pub writes-returns-in_err-rest-in-Some-clause-ends : goal.writes-returns-in_err-rest-in-Some-clause-ends
writes-returns-in_err-rest-in-Some-clause-ends t c =
    none_left c.from_residual-in_err-rest-in-Some.result c.in_err-rest-in-Some.field-0.0 _ c.from_residual-in_err-rest-in-Some.ensures.1

-- ---- and so do the measures

pub read-inside-requires : goal.read-inside-requires
read-inside-requires t c =
    let e : opened_measure c.expect.result < t = opened_less _ t c.expect.result c.expect.ensures.shorter
    (omega (arith, c.in_ok-array.ensures.shorter, c.decreases)) (omega (arith, c.decreases)) in
    search (rules, e)

pub division-inside-requires : goal.division-inside-requires
division-inside-requires t c =
    let e : opened_measure c.expect_two.result < t = opened_less _ t c.expect_two.result c.expect_two.ensures.shorter
    (omega (arith, c.in_ok-left.ensures.shorter, c.decreases)) (omega (arith, c.decreases)) in
    search (rules, e)

pub writes-inside-requires : goal.writes-inside-requires
writes-inside-requires t c =
    let there = found c.rest_after.result c.in-Some.after 123 c.loop-after.rest.now c.rest_after.ensures.rest c.in-Some.is in
    let less = rest_after_shorter 123 c.loop-after.rest.now c.in-Some.after.now there in
    let e : opened_measure c.expect_two.result < t = opened_less _ t c.expect_two.result c.expect_two.ensures.shorter
    (omega (arith, c.in_ok-index-in-Some.ensures.shorter, less, c.loop-after.invariant.1, c.decreases))
    (omega (arith, less, c.loop-after.invariant.1, c.decreases)) in
    search (rules, e)

pub inside-polynomial-requires : goal.inside-polynomial-requires
inside-polynomial-requires t c =
    let less = inside_less c.args.opened c.in-Ok.bytes c.in-Ok.is in
    let e : 8 * length c.in-Ok.bytes.now + 6 < t = omega (arith, less, c.decreases) in
    search (rules, e)

-- ---- how a polynomial begins

pub polynomial-returns-then-not-begins_with_zero_or_minus-clause-goes : goal.polynomial-returns-then-not-begins_with_zero_or_minus-clause-goes
polynomial-returns-then-not-begins_with_zero_or_minus-clause-goes t c = λ k. goes_after c.sum.result _
    (polynomial_starts c.args.bytes.now k (sym c.begins_with_zero_or_minus.ensures ∙ c.if-not-begins_with_zero_or_minus.true)) (c.sum.ensures.goes k)

pub polynomial-returns-then-not-begins_with_zero_or_minus-clause-shorter : goal.polynomial-returns-then-not-begins_with_zero_or_minus-clause-shorter
polynomial-returns-then-not-begins_with_zero_or_minus-clause-shorter t c = c.sum.ensures.shorter

-- ---- where a loop begins, and that it ends

pub atoms-loop-after-init : goal.atoms-loop-after-init
atoms-loop-after-init t c = (
  λ m k. ap (λ xs. term_reading c.args.bytes.now (after_monomial (times_all m (map written_atom_in xs)) k)) (sym c.new-atoms.ensures.items),
  omega arith,
)

pub writes-loop-after-init : goal.writes-loop-after-init
writes-loop-after-init t c = (
  λ k. ap (λ ws. term_reading c.args.bytes.now (after_array (written_all (base_in c.args.base) (map written_write_in ws)) k))
      (sym c.new-writes.ensures.items),
  omega arith,
)

pub atoms-loop-after-smaller : goal.atoms-loop-after-smaller
atoms-loop-after-smaller t c =
    let rest = c.loop-after.rest.now in
    let there = found c.rest_after.result c.in-Some.after 42 rest c.rest_after.ensures.rest c.in-Some.is in
    less_on c.atom.result _ _ c.in_ok-rest-in-Some.ensures c.atom.ensures.shorter
    (λ x n h. omega (arith, ap length n.1, h, rest_after_shorter 42 rest c.in-Some.after.now there))

pub sum-loop-after-smaller : goal.sum-loop-after-smaller
sum-loop-after-smaller t c =
    let rest = c.loop-after.rest.now in
    let there = found c.rest_after.result c.in-Some.after 32 rest c.rest_after.ensures.rest c.in-Some.is in
    less_on c.further.result _ _ c.in_ok-rest-in-Some.ensures c.further.ensures.shorter
    (λ x n h. omega (arith, ap length n.1, h, rest_after_shorter 32 rest c.in-Some.after.now there))

pub writes-loop-after-smaller : goal.writes-loop-after-smaller
writes-loop-after-smaller t c =
    let rest = c.loop-after.rest.now in
    let there = found c.rest_after.result c.in-Some.after 123 rest c.rest_after.ensures.rest c.in-Some.is in
    less_on c.beside.result _ _ c.in_ok-rest-in-Some.ensures
    (less_beside {b = rest_length c.expect_two.result} c.in_ok-index-in-Some.index c.inside.result c.beside.result c.beside.ensures (omega arith)
    c.inside.ensures.shorter)
    (λ x n h. omega (
      arith,
      ap length n.1,
      h,
      rest_shorter _ c.expect_two.result c.expect_two.ensures.shorter,
      c.in_ok-index-in-Some.ensures.shorter,
      rest_after_shorter 123 rest c.in-Some.after.now there,
    ))

-- ---- a number that is refused

pub head-returns-in_err-digits-clause-goes : goal.head-returns-in_err-digits-clause-goes
head-returns-in_err-digits-clause-goes t c = λ k. refused c.from_residual.result c.in_err-digits.field-0.0 _ _ c.from_residual.ensures.1 refl
    (c.in_err-digits.ensures.goes k)

pub head-returns-in_err-digits-clause-shorter : goal.head-returns-in_err-digits-clause-shorter
head-returns-in_err-digits-clause-shorter t c = none_left c.from_residual.result c.in_err-digits.field-0.0 _ c.from_residual.ensures.1

pub atom-read-requires : goal.atom-read-requires
atom-read-requires t c = (omega (arith, c.in_ok-start.ensures.shorter, c.decreases), tt)

pub atom-division-requires : goal.atom-division-requires
atom-division-requires t c = (omega (arith, c.in_ok-start.ensures.shorter, c.decreases), tt)

pub head-atom-requires : goal.head-atom-requires
head-atom-requires t c = (omega (arith, c.decreases), tt)

pub monomial-head-requires : goal.monomial-head-requires
monomial-head-requires t c = (omega (arith, c.decreases), tt)

pub monomial-atoms-requires : goal.monomial-atoms-requires
monomial-atoms-requires t c = (omega (arith, c.in_ok-first.ensures.shorter, c.decreases), tt)

pub further-monomial-requires : goal.further-monomial-requires
further-monomial-requires t c = (omega (arith, c.in_ok-minus.ensures.shorter, c.decreases), tt)

pub sum-monomial-requires : goal.sum-monomial-requires
sum-monomial-requires t c = (omega (arith, c.decreases), tt)

pub polynomial-sum-requires : goal.polynomial-sum-requires
polynomial-sum-requires t c = (omega (arith, c.decreases), tt)

pub read-writes-requires : goal.read-writes-requires
read-writes-requires t c = (omega (arith, c.decreases), tt)

pub division-polynomial-requires : goal.division-polynomial-requires
division-polynomial-requires t c = (omega (arith, c.decreases), tt)

pub atoms-atom-requires : goal.atoms-atom-requires
atoms-atom-requires t c =
    let there = found c.rest_after.result c.in-Some.after 42 c.loop-after.rest.now c.rest_after.ensures.rest c.in-Some.is in
    (omega (arith, rest_after_shorter 42 c.loop-after.rest.now c.in-Some.after.now there, c.loop-after.invariant.1, c.decreases), tt)

pub sum-further-requires : goal.sum-further-requires
sum-further-requires t c =
    let there = found c.rest_after.result c.in-Some.after 32 c.loop-after.rest.now c.rest_after.ensures.rest c.in-Some.is in
    (omega (arith, rest_after_shorter 32 c.loop-after.rest.now c.in-Some.after.now there, c.loop-after.invariant.1, c.decreases), tt)

pub writes-polynomial-requires : goal.writes-polynomial-requires
writes-polynomial-requires t c =
    let there = found c.rest_after.result c.in-Some.after 123 c.loop-after.rest.now c.rest_after.ensures.rest c.in-Some.is in
    (omega (arith, rest_after_shorter 123 c.loop-after.rest.now c.in-Some.after.now there, c.loop-after.invariant.1, c.decreases), tt)
