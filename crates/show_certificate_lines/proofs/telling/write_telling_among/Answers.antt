use Rattle.std.proofs.Common.{◌++◌, map, ap, ◌∙◌, refl}
use Rattle.std.specs.List.{flat_map}
use Rattle.show_fact_text.proofs.Loops.{next_more_of}
use Rattle.show_certificate_lines.specs.Cases.{unless_shared}
use Rattle.show_certificate_lines.proofs.telling.write_telling_among.Goals as goal

pub loop-line-preserved : goal.loop-line-preserved
loop-line-preserved c =
    let one = unless_shared (map (λ lines. map (λ t. t.items) lines.items) c.args.facts.now) in
    next_more_of (flat_map one) one (λ b bs. refl) (λ t. t.items) c.args.lines.now c.loop-line.line-index c.line-item.result c.loop-line-test.true
    c.line-item.is _ _ _ (c.in_ok-write_unless_shared.ensures ∙ ap (λ line. c.loop-line.out.items ++ one line) c.as_slice.ensures.value)
    c.loop-line.invariant
