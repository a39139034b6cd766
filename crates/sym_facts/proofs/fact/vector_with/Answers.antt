use Rattle.std.proofs.Common.{◌+◌, ◌++◌, ◌∷◌, map, drop, ap, sym, ◌∙◌, arith}
use Rattle.fs_model.proofs.Lists.{drop_next}
use Rattle.sym_facts.specs.Facts.{vector_of}
use Rattle.sym_facts.specs.View.{position_in}
use Rattle.sym_facts.proofs.Vectors.{put_last}
use Rattle.sym_facts.proofs.fact.vector_with.Goals as goal

pub loop-position-preserved : goal.loop-position-preserved
loop-position-preserved c =
    let xs = c.args.positions.now in
    let i = c.loop-position.position-index in
    let item = c.position-item.result in
    let rest = map position_in (drop (i + 1) xs) in
    let here = ap (λ g. c.loop-position.v ++ (item.pos, g) ∷ vector_of rest) c.in_ok-form_at.ensures
    ∙ sym (ap (λ l. c.loop-position.v ++ vector_of (map position_in l)) (drop_next xs i item (omega (arith, c.loop-position-test.true)) c.position-item.is))
    ∙ c.loop-position.invariant.rest in
    record {
      rest = put_last (map position_in xs) rest c.loop-position.v c.put_shared.new.self item.pos c.in_ok-form_at.field-0 c.requires here
          c.in_ok-put_shared.ensures.put;
    }
