use Rattle.std.proofs.Common.{◌≡◌, ◌+◌, ◌*◌, ◌≤◌, Err, length, get_or, map, arith, ap, sym, subst, ◌∙◌}
use Rattle.std.proofs.lemmas.List.{at_drop_all}
use Rattle.nf_trees.specs.NormalTerms.{Polynomial, ArrayTerm, monomial_of, polynomial_of, writes_of}
use Rattle.nf_terms.specs.Computed.{Computed, Done, Answers, after}
use Rattle.nf_bank.specs.AtomNumbers.{atom_of_number, scaled_monomial_over, write_over, monomial_over, sum_over, array_over, bound_over, bound_of_number}
use Rattle.nf_bank.specs.AtomNumbers.{bound_of_node, bound_of_term, bound_of_write, atom_over}
use Rattle.nf_bank.specs.declared.node.AtomId.{AtomId}
use Rattle.nf_bank.proofs.Bounds.{bound_of_item}
use Rattle.nf_arrays.specs.NewAtoms.{quotient_of, remainder_of}
use Rattle.nf_arrays.specs.Writes.{read_at, write_array}
use Rattle.nf_substitution.specs.Substitution.{atom_substituted, atoms_substituted, terms_substituted, writes_substituted}
use Rattle.nf_substitution.specs.Substitution.{polynomial_substituted, array_substituted}
use Rattle.nf_substitution.proofs.Known.{known_found}
use Rattle.nf_substitution.proofs.FirstFactors.{from_first}
use Rattle.fs_model.proofs.Lists.{same_there}
use Rattle.nf_substitution.proofs.Following.{stops, passed_on, goes, factor_step, term_step, write_step}
use Rattle.nf_substitution.proofs.Following.{factor_stops, term_stops, write_stops}
use Rattle.nf_substitution.proofs.evaluation.+evaluation.Goals as goal

pub atom_value-array_value-requires : goal.atom_value-array_value-requires
atom_value-array_value-requires t c =
    let is = ap bound_of_node c.in-Read.is in
    (omega (arith, is, c.decreases), (omega (arith, is, c.requires.within), c.requires.known))

pub atom_value-sum_value-index-requires : goal.atom_value-sum_value-index-requires
atom_value-sum_value-index-requires t c =
    let is = ap bound_of_node c.in-Read.is in
    (omega (arith, is, c.decreases), (omega (arith, is, c.requires.within), c.in_ok-array-in-Read.ensures.known))

pub atom_value-sum_value-requires : goal.atom_value-sum_value-requires
atom_value-sum_value-requires t c =
    let is = ap bound_of_node c.in-Div.is in
    (omega (arith, is, c.decreases), (omega (arith, is, c.requires.within), c.requires.known))

pub atom_value-sum_value-right-requires : goal.atom_value-sum_value-right-requires
atom_value-sum_value-right-requires t c =
    let is = ap bound_of_node c.in-Div.is in
    (omega (arith, is, c.decreases), (omega (arith, is, c.requires.within), c.in_ok-left-in-Div.ensures.known))

pub atom_value-sum_value-requires-in-Rem : goal.atom_value-sum_value-requires-in-Rem
atom_value-sum_value-requires-in-Rem t c =
    let is = ap bound_of_node c.in-Rem.is in
    (omega (arith, is, c.decreases), (omega (arith, is, c.requires.within), c.requires.known))

pub atom_value-sum_value-right-requires-in-Rem : goal.atom_value-sum_value-right-requires-in-Rem
atom_value-sum_value-right-requires-in-Rem t c =
    let is = ap bound_of_node c.in-Rem.is in
    (omega (arith, is, c.decreases), (omega (arith, is, c.requires.within), c.in_ok-left-in-Rem.ensures.known))

pub atom_value-returns-in_ok-array-in-Read-clause-answers : goal.atom_value-returns-in_ok-array-in-Read-clause-answers
atom_value-returns-in_ok-array-in-Read-clause-answers t c =
    let v = c.args.vector.now in
    let bank = c.args.bank.now in
    subst (λ n. Answers {T = Polynomial} c.read_value.result (atom_substituted v (atom_over bank n))) (sym c.in-Read.is)
    (goes (array_substituted v (array_over bank c.in-Read.array)) (λ b. after (polynomial_substituted v (sum_over bank c.in-Read.index)) (λ j. read_at b j))
    c.in_ok-array-in-Read.array c.read_value.result c.in_ok-array-in-Read.ensures.answers (c.read_value.ensures _ c.sum_value-index.ensures.answers))

pub atom_value-returns-in_ok-left-in-Div-clause-answers : goal.atom_value-returns-in_ok-left-in-Div-clause-answers
atom_value-returns-in_ok-left-in-Div-clause-answers t c =
    let v = c.args.vector.now in
    let bank = c.args.bank.now in
    subst (λ n. Answers {T = Polynomial} c.quotient_value.result (atom_substituted v (atom_over bank n))) (sym c.in-Div.is)
    (goes (polynomial_substituted v (sum_over bank c.in-Div.left)) (λ l. after (polynomial_substituted v (sum_over bank c.in-Div.right)) (λ r. quotient_of l r))
    c.in_ok-left-in-Div.left c.quotient_value.result c.in_ok-left-in-Div.ensures.answers (c.quotient_value.ensures _ c.sum_value-right.ensures.answers))

pub atom_value-returns-in_ok-left-in-Rem-clause-answers : goal.atom_value-returns-in_ok-left-in-Rem-clause-answers
atom_value-returns-in_ok-left-in-Rem-clause-answers t c =
    let v = c.args.vector.now in
    let bank = c.args.bank.now in
    subst (λ n. Answers {T = Polynomial} c.remainder_value.result (atom_substituted v (atom_over bank n))) (sym c.in-Rem.is)
    (goes (polynomial_substituted v (sum_over bank c.in-Rem.left))
    (λ l. after (polynomial_substituted v (sum_over bank c.in-Rem.right)) (λ r. remainder_of l r))
    c.in_ok-left-in-Rem.left c.remainder_value.result c.in_ok-left-in-Rem.ensures.answers
    (c.remainder_value.ensures _ c.sum_value-right-in-Rem.ensures.answers))

pub monomial_value-returns-in_ok-first-in-len1-up-clause-answers : goal.monomial_value-returns-in_ok-first-in-len1-up-clause-answers
monomial_value-returns-in_ok-first-in-len1-up-clause-answers t c =
    from_first c.args.vector.now c.args.bank.now c.args.atoms.now _ c.in_ok-first-in-len1-up.first c.product_value.result c.in-len1-up.len_at_least
    c.number-number.ensures.normal c.in_ok-first-in-len1-up.ensures.answers c.product_value.ensures.answers

pub product_value-loop-id-preserved : goal.product_value-loop-id-preserved
product_value-loop-id-preserved t c = record {
  answers = factor_step c.args.vector.now c.args.bank.now c.args.atoms.now c.loop-id.id-index _ c.loop-id.so_far c.in_ok-so_far.so_far
      c.loop-id-test.true (c.in_ok-so_far.ensures _ c.number_value-factor.ensures.answers)
      ∙ c.loop-id.invariant.answers;
  known = c.number_value-factor.ensures.known;
}

pub sum_value-loop-term-preserved : goal.sum_value-loop-term-preserved
sum_value-loop-term-preserved t c = record {
  answers = term_step c.args.vector.now c.args.bank.now c.as_slice-term-items.result.now c.loop-term.term-index c.term-item.result c.loop-term.so_far
      c.in_ok-so_far.so_far c.loop-term-test.true c.term-item.is (c.in_ok-so_far.ensures _ c.term_value-value.ensures.answers)
      ∙ c.loop-term.invariant.answers;
  known = c.term_value-value.ensures.known;
}

pub array_value-loop-entry-preserved : goal.array_value-loop-entry-preserved
array_value-loop-entry-preserved t c = record {
  answers = write_step c.args.vector.now c.args.bank.now c.as_slice-entry-items.result.now c.loop-entry.entry-index c.entry-item.result c.loop-entry.so_far
      c.in_ok-so_far-2.so_far c.loop-entry-test.true c.entry-item.is c.in_ok-so_far-2.ensures.answers
      ∙ c.loop-entry.invariant.answers;
  known = c.in_ok-so_far-2.ensures.known;
}

pub product_value-returns-clause-answers : goal.product_value-returns-clause-answers
product_value-returns-clause-answers t c =
    sym c.loop-id.invariant.answers
    ∙ at_drop_all (λ ids. atoms_substituted c.args.vector.now (monomial_of (map (atom_of_number c.args.bank.now) ids)) c.loop-id.so_far)
    c.args.atoms.now c.loop-id.id-index c.loop-id-test.false

pub product_value-returns-in_err-so_far-clause-answers : goal.product_value-returns-in_err-so_far-clause-answers
product_value-returns-in_err-so_far-clause-answers t c =
    let event = c.in_err-so_far.field-0.0 in
    passed_on c.from_residual.result event (atoms_substituted c.args.vector.now (monomial_over c.args.bank.now c.args.atoms.now) c.args.first)
    c.from_residual.ensures.1
    (subst (Answers {T = Polynomial} (Err event)) c.loop-id.invariant.answers
    (factor_stops c.args.vector.now c.args.bank.now c.args.atoms.now c.loop-id.id-index _ c.loop-id.so_far event c.loop-id-test.true
    (c.in_err-so_far.ensures _ c.number_value-factor.ensures.answers)))

pub sum_value-returns-clause-answers : goal.sum_value-returns-clause-answers
sum_value-returns-clause-answers t c =
    sym c.loop-term.invariant.answers
    ∙ at_drop_all (λ terms. terms_substituted c.args.vector.now (polynomial_of (map (scaled_monomial_over c.args.bank.now) terms)) c.loop-term.so_far)
    c.as_slice-term-items.result.now c.loop-term.term-index c.loop-term-test.false
    ∙ ap Done (sym c.into_poly.ensures)

pub sum_value-returns-in_err-so_far-clause-answers : goal.sum_value-returns-in_err-so_far-clause-answers
sum_value-returns-in_err-so_far-clause-answers t c =
    let event = c.in_err-so_far.field-0.0 in
    passed_on c.from_residual.result event (polynomial_substituted c.args.vector.now (sum_over c.args.bank.now c.args.terms.now))
    c.from_residual.ensures.1
    (subst (Answers {T = Polynomial} (Err event)) c.loop-term.invariant.answers
    (term_stops c.args.vector.now c.args.bank.now c.as_slice-term-items.result.now c.loop-term.term-index c.term-item.result c.loop-term.so_far event
    c.loop-term-test.true c.term-item.is (c.in_err-so_far.ensures _ c.term_value-value.ensures.answers)))

pub array_value-returns-clause-answers : goal.array_value-returns-clause-answers
array_value-returns-clause-answers t c =
    sym c.loop-entry.invariant.answers
    ∙ at_drop_all (λ writes. writes_substituted c.args.vector.now (writes_of (map (write_over c.args.bank.now) writes)) c.loop-entry.so_far)
    c.as_slice-entry-items.result.now c.loop-entry.entry-index c.loop-entry-test.false

pub array_value-returns-in_err-so_far-2-clause-answers : goal.array_value-returns-in_err-so_far-2-clause-answers
array_value-returns-in_err-so_far-2-clause-answers t c =
    let event = c.in_err-so_far-2.field-0.0 in
    passed_on c.from_residual-in_err-so_far-2.result event (array_substituted c.args.vector.now (array_over c.args.bank.now c.args.array.now))
    c.from_residual-in_err-so_far-2.ensures.1
    (subst (Answers {T = ArrayTerm} (Err event)) c.loop-entry.invariant.answers
    (write_stops c.args.vector.now c.args.bank.now c.as_slice-entry-items.result.now c.loop-entry.entry-index c.entry-item.result c.loop-entry.so_far event
    c.loop-entry-test.true c.entry-item.is c.in_err-so_far-2.ensures.answers))

pub product_value-number_value-factor-requires : goal.product_value-number_value-factor-requires
product_value-number_value-factor-requires t c =
    let ids = c.args.atoms.now in
    let i = c.loop-id.id-index in
    let id : AtomId = get_or ids i (record { 0 = 0 }) in
    let below : id.0 + 1 ≤ bound_over bound_of_number ids =
    bound_of_item bound_of_number ids i id c.loop-id-test.true (same_there ids i (record { 0 = 0 }) id c.loop-id-test.true) in
    let measure : 8 * bound_over bound_of_number ids ≡ t = c.decreases in
    let within : bound_over bound_of_number ids ≤ length c.args.bank.now = c.requires.within in
    (omega (arith, below, measure), (omega (arith, below, within), c.loop-id.invariant.known))

-- ---- what is known of atoms is that of the last call

pub array_value-returns-in_err-so_far-clause-known : goal.array_value-returns-in_err-so_far-clause-known
array_value-returns-in_err-so_far-clause-known t c = c.requires.known

pub array_value-returns-in_err-so_far-2-clause-known : goal.array_value-returns-in_err-so_far-2-clause-known
array_value-returns-in_err-so_far-2-clause-known t c = c.in_err-so_far-2.ensures.known

pub array_value-returns-clause-known : goal.array_value-returns-clause-known
array_value-returns-clause-known t c = c.loop-entry.invariant.known

pub atom_value-returns-in_err-array-in-Read-clause-known : goal.atom_value-returns-in_err-array-in-Read-clause-known
atom_value-returns-in_err-array-in-Read-clause-known t c = c.in_err-array-in-Read.ensures.known

pub atom_value-returns-in_err-left-in-Div-clause-known : goal.atom_value-returns-in_err-left-in-Div-clause-known
atom_value-returns-in_err-left-in-Div-clause-known t c = c.in_err-left-in-Div.ensures.known

pub atom_value-returns-in_err-left-in-Rem-clause-known : goal.atom_value-returns-in_err-left-in-Rem-clause-known
atom_value-returns-in_err-left-in-Rem-clause-known t c = c.in_err-left-in-Rem.ensures.known

pub atom_value-returns-in-Sym-clause-known : goal.atom_value-returns-in-Sym-clause-known
atom_value-returns-in-Sym-clause-known t c = c.requires.known

pub atom_value-returns-in_ok-array-in-Read-clause-known : goal.atom_value-returns-in_ok-array-in-Read-clause-known
atom_value-returns-in_ok-array-in-Read-clause-known t c = c.sum_value-index.ensures.known

pub atom_value-returns-in_ok-left-in-Div-clause-known : goal.atom_value-returns-in_ok-left-in-Div-clause-known
atom_value-returns-in_ok-left-in-Div-clause-known t c = c.sum_value-right.ensures.known

pub atom_value-returns-in_ok-left-in-Rem-clause-known : goal.atom_value-returns-in_ok-left-in-Rem-clause-known
atom_value-returns-in_ok-left-in-Rem-clause-known t c = c.sum_value-right-in-Rem.ensures.known

pub monomial_value-returns-in_err-first-in-len1-up-clause-known : goal.monomial_value-returns-in_err-first-in-len1-up-clause-known
monomial_value-returns-in_err-first-in-len1-up-clause-known t c = c.in_err-first-in-len1-up.ensures.known

pub monomial_value-returns-in-empty-clause-known : goal.monomial_value-returns-in-empty-clause-known
monomial_value-returns-in-empty-clause-known t c = c.requires.known

pub monomial_value-returns-in_ok-first-in-len1-up-clause-known : goal.monomial_value-returns-in_ok-first-in-len1-up-clause-known
monomial_value-returns-in_ok-first-in-len1-up-clause-known t c = c.product_value.ensures.known

pub product_value-returns-in_err-so_far-clause-known : goal.product_value-returns-in_err-so_far-clause-known
product_value-returns-in_err-so_far-clause-known t c = c.number_value-factor.ensures.known

pub product_value-returns-clause-known : goal.product_value-returns-clause-known
product_value-returns-clause-known t c = c.loop-id.invariant.known

pub sum_value-returns-in_err-so_far-clause-known : goal.sum_value-returns-in_err-so_far-clause-known
sum_value-returns-in_err-so_far-clause-known t c = c.term_value-value.ensures.known

pub sum_value-returns-clause-known : goal.sum_value-returns-clause-known
sum_value-returns-clause-known t c = c.loop-term.invariant.known

pub term_value-returns-then-term-eq1-clause-known : goal.term_value-returns-then-term-eq1-clause-known
term_value-returns-then-term-eq1-clause-known t c = c.monomial_value.ensures.known

pub term_value-returns-in_err-first-clause-known : goal.term_value-returns-in_err-first-clause-known
term_value-returns-in_err-first-clause-known t c = c.requires.known

pub term_value-returns-clause-known : goal.term_value-returns-clause-known
term_value-returns-clause-known t c = c.product_value.ensures.known

pub written_value-returns-in_err-index-clause-known : goal.written_value-returns-in_err-index-clause-known
written_value-returns-in_err-index-clause-known t c = c.in_err-index.ensures.known

pub written_value-returns-clause-known : goal.written_value-returns-clause-known
written_value-returns-clause-known t c = c.sum_value-value.ensures.known

pub number_value-returns-in_err-value-clause-known : goal.number_value-returns-in_err-value-clause-known
number_value-returns-in_err-value-clause-known t c = c.requires.known

pub number_value-returns-in-Some-clause-known : goal.number_value-returns-in-Some-clause-known
number_value-returns-in-Some-clause-known t c = c.requires.known

pub number_value-returns-in_err-value-2-clause-known : goal.number_value-returns-in_err-value-2-clause-known
number_value-returns-in_err-value-2-clause-known t c = c.in_err-value-2.ensures.known

-- ---- a part that is refused

pub atom_value-returns-in_err-array-in-Read-clause-answers : goal.atom_value-returns-in_err-array-in-Read-clause-answers
atom_value-returns-in_err-array-in-Read-clause-answers t c =
    let v = c.args.vector.now in
    let bank = c.args.bank.now in
    let event = c.in_err-array-in-Read.field-0.0 in
    let array = array_substituted v (array_over bank c.in-Read.array) in
    let index = polynomial_substituted v (sum_over bank c.in-Read.index) in
    let next : ArrayTerm → Computed Polynomial = λ b. after index (λ j. read_at b j) in
    subst (λ n. Answers {T = Polynomial} c.from_residual.result (atom_substituted v (atom_over bank n))) (sym c.in-Read.is)
    (passed_on c.from_residual.result event (after array next) c.from_residual.ensures.1 (stops event array next c.in_err-array-in-Read.ensures.answers))

pub atom_value-returns-in_err-left-in-Div-clause-answers : goal.atom_value-returns-in_err-left-in-Div-clause-answers
atom_value-returns-in_err-left-in-Div-clause-answers t c =
    let v = c.args.vector.now in
    let bank = c.args.bank.now in
    let event = c.in_err-left-in-Div.field-0.0 in
    let left = polynomial_substituted v (sum_over bank c.in-Div.left) in
    let right = polynomial_substituted v (sum_over bank c.in-Div.right) in
    let next : Polynomial → Computed Polynomial = λ l. after right (λ r. quotient_of l r) in
    subst (λ n. Answers {T = Polynomial} c.from_residual-in_err-left-in-Div.result (atom_substituted v (atom_over bank n))) (sym c.in-Div.is)
    (passed_on c.from_residual-in_err-left-in-Div.result event (after left next) c.from_residual-in_err-left-in-Div.ensures.1
    (stops event left next c.in_err-left-in-Div.ensures.answers))

pub atom_value-returns-in_err-left-in-Rem-clause-answers : goal.atom_value-returns-in_err-left-in-Rem-clause-answers
atom_value-returns-in_err-left-in-Rem-clause-answers t c =
    let v = c.args.vector.now in
    let bank = c.args.bank.now in
    let event = c.in_err-left-in-Rem.field-0.0 in
    let left = polynomial_substituted v (sum_over bank c.in-Rem.left) in
    let right = polynomial_substituted v (sum_over bank c.in-Rem.right) in
    let next : Polynomial → Computed Polynomial = λ l. after right (λ r. remainder_of l r) in
    subst (λ n. Answers {T = Polynomial} c.from_residual-in_err-left-in-Rem.result (atom_substituted v (atom_over bank n))) (sym c.in-Rem.is)
    (passed_on c.from_residual-in_err-left-in-Rem.result event (after left next) c.from_residual-in_err-left-in-Rem.ensures.1
    (stops event left next c.in_err-left-in-Rem.ensures.answers))

pub written_value-returns-in_err-index-clause-answers : goal.written_value-returns-in_err-index-clause-answers
written_value-returns-in_err-index-clause-answers t c =
    let v = c.args.vector.now in
    let bank = c.args.bank.now in
    let event = c.in_err-index.field-0.0 in
    let index = polynomial_substituted v (sum_over bank c.args.entry.now.index) in
    let value = polynomial_substituted v (sum_over bank c.args.entry.now.value) in
    let next : Polynomial → Computed ArrayTerm = λ i. after value (λ x. write_array c.args.so_far.now i x) in
    passed_on c.from_residual.result event (after index next) c.from_residual.ensures.1 (stops event index next c.in_err-index.ensures.answers)

pub written_value-returns-clause-answers : goal.written_value-returns-clause-answers
written_value-returns-clause-answers t c =
    let v = c.args.vector.now in
    let bank = c.args.bank.now in
    goes (polynomial_substituted v (sum_over bank c.args.entry.now.index))
    (λ i. after (polynomial_substituted v (sum_over bank c.args.entry.now.value)) (λ x. write_array c.args.so_far.now i x))
    c.in_ok-index.index c.write_value.result c.in_ok-index.ensures.answers (c.write_value.ensures _ c.sum_value-value.ensures.answers)

-- ---- parts within a bound

pub sum_value-term_value-value-requires : goal.sum_value-term_value-value-requires
sum_value-term_value-value-requires t c =
    let terms = c.as_slice-term-items.result.now in
    let below : bound_of_term c.term-item.result ≤ bound_over bound_of_term terms =
    bound_of_item bound_of_term terms c.loop-term.term-index c.term-item.result c.loop-term-test.true c.term-item.is in
    let is = ap (bound_over bound_of_term) c.as_slice-term-items.ensures in
    (omega (arith, is, below, c.decreases), (omega (arith, is, below, c.requires.within), c.loop-term.invariant.known))

pub array_value-written_value-requires : goal.array_value-written_value-requires
array_value-written_value-requires t c =
    let writes = c.as_slice-entry-items.result.now in
    let below : bound_of_write c.entry-item.result ≤ bound_over bound_of_write writes =
    bound_of_item bound_of_write writes c.loop-entry.entry-index c.entry-item.result c.loop-entry-test.true c.entry-item.is in
    let is = ap (bound_over bound_of_write) c.as_slice-entry-items.ensures in
    (omega (arith, is, below, c.decreases), (omega (arith, is, below, c.requires.within), c.loop-entry.invariant.known))

pub written_value-sum_value-requires : goal.written_value-sum_value-requires
written_value-sum_value-requires t c = (omega (arith, c.decreases), (omega (arith, c.requires.within), c.requires.known))

pub written_value-sum_value-value-requires : goal.written_value-sum_value-value-requires
written_value-sum_value-value-requires t c = (omega (arith, c.decreases), (omega (arith, c.requires.within), c.in_ok-index.ensures.known))

pub term_value-monomial_value-requires : goal.term_value-monomial_value-requires
term_value-monomial_value-requires t c =
    let is = ap (bound_over bound_of_number) c.as_slice-atoms.ensures in
    (omega (arith, is, c.decreases), (omega (arith, is, c.requires.within), c.requires.known))

pub term_value-product_value-requires : goal.term_value-product_value-requires
term_value-product_value-requires t c =
    let is = ap (bound_over bound_of_number) c.as_slice-atoms.ensures in
    (omega (arith, is, c.decreases), (omega (arith, is, c.requires.within), c.requires.known))

pub number_value-atom_value-requires : goal.number_value-atom_value-requires
number_value-atom_value-requires t c =
    (omega (arith, c.node.ensures.within, c.decreases), (omega (arith, c.node.ensures.within, c.requires.within), c.requires.known))

pub number_value-returns-in-Some-clause-answers : goal.number_value-returns-in-Some-clause-answers
number_value-returns-in-Some-clause-answers t c =
    known_found c.args.vector.now c.args.bank.now c.args.memo.now c.args.id.0 c.in-Some.value c.requires.known
    (sym c.in-Some.is ∙ c.in_ok-value.ensures)
