use Rattle.std.proofs.Common.{refl, sym}
use Rattle.term_text.specs.Machine.{expect, at_atom, at_symbol, at_polynomial, after_array, in_atom, read_of, dividend, modulend, term_reading}
use Rattle.term_text.specs.AtomStarts.{after_start}
use Rattle.term_text.specs.TermTexts.{ZeroArray}
use Rattle.fs_model.specs.declared.sides.Side.TheVariants.{Left, Right}
use Rattle.term_text.proofs.FirstBytes.{first_leads, rest_less}
use Rattle.term_text.proofs.PassedOn.{goes_after, goes_made, less_left}
use Rattle.term_text.proofs.starts.begin_atom.Goals as goal

pub returns-in-76-clause-goes : goal.returns-in-76-clause-goes
returns-in-76-clause-goes c = λ k. goes_after c.begin_symbol.result _
    (first_leads c.args.bytes.now 76 (at_atom k) (expect 46 (at_symbol Left (in_atom k))) c.in-len1-up.len_at_least c.in-76.is refl)
    (c.begin_symbol.ensures.goes k)

pub returns-in-76-clause-shorter : goal.returns-in-76-clause-shorter
returns-in-76-clause-shorter c = less_left c.begin_symbol.result (rest_less c.args.bytes.now c.in-len1-up.len_at_least) c.begin_symbol.ensures.shorter

pub returns-in-82-clause-goes : goal.returns-in-82-clause-goes
returns-in-82-clause-goes c = λ k. goes_after c.begin_symbol-in-82.result _
    (first_leads c.args.bytes.now 82 (at_atom k) (expect 46 (at_symbol Right (in_atom k))) c.in-len1-up.len_at_least c.in-82.is refl)
    (c.begin_symbol-in-82.ensures.goes k)

pub returns-in-82-clause-shorter : goal.returns-in-82-clause-shorter
returns-in-82-clause-shorter c =
    less_left c.begin_symbol-in-82.result (rest_less c.args.bytes.now c.in-len1-up.len_at_least) c.begin_symbol-in-82.ensures.shorter

pub returns-in-100-clause-goes : goal.returns-in-100-clause-goes
returns-in-100-clause-goes c =
    λ k. goes_made c.expect_three.result c.begin_with.result _ _ c.begin_with.ensures
    (first_leads c.args.bytes.now 100 (at_atom k) (expect 105 (expect 118 (expect 40 (at_polynomial (dividend k))))) c.in-len1-up.len_at_least c.in-100.is refl)
    (c.expect_three.ensures.goes (at_polynomial (dividend k))) (λ r x m. λ j. term_reading (sym m.1 j) (after_start (sym m.0 j) k))

pub returns-in-114-clause-goes : goal.returns-in-114-clause-goes
returns-in-114-clause-goes c =
    λ k. goes_made c.expect_three-in-114.result c.begin_with-in-114.result _ _ c.begin_with-in-114.ensures
    (first_leads c.args.bytes.now 114 (at_atom k) (expect 101 (expect 109 (expect 40 (at_polynomial (modulend k))))) c.in-len1-up.len_at_least c.in-114.is refl)
    (c.expect_three-in-114.ensures.goes (at_polynomial (modulend k))) (λ r x m. λ j. term_reading (sym m.1 j) (after_start (sym m.0 j) k))

pub returns-in-122-clause-goes : goal.returns-in-122-clause-goes
returns-in-122-clause-goes c =
    λ k. goes_made c.expect_three-in-122.result c.begin_with-in-122.result _ _ c.begin_with-in-122.ensures
    (first_leads c.args.bytes.now 122 (at_atom k) (expect 101 (expect 114 (expect 111 (after_array ZeroArray (read_of k)))))
    c.in-len1-up.len_at_least c.in-122.is refl)
    (c.expect_three-in-122.ensures.goes (after_array ZeroArray (read_of k))) (λ r x m. λ j. term_reading (sym m.1 j) (after_start (sym m.0 j) k))
