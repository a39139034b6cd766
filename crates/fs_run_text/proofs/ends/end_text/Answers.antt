use Rattle.std.proofs.Common.{◌≡◌, ◌∙◌, ap, subst, ◌++◌}
use Rattle.std.specs.Prelude.{map, codes, decimal}
use Rattle.std.specs.List.{flat_map}
use Rattle.fs_runs.specs.Outcomes.{output_names, told_by}
use Rattle.fs_run_text.specs.ItemTexts.{AreItems}
use Rattle.fs_run_text.specs.EndTexts.{reply_line}
use Rattle.fs_run_text.proofs.Adds.{end_spelled}
use Rattle.fs_run_text.proofs.ends.end_text.Goals as goal

pub returns : goal.returns
returns c =
    let texts = map (λ i. i.items) c.in_ok-items.items.items in
    let line = c.in_ok-text.text.items in
    let whole = c.append_lines.new.out.items in
    let added : whole ≡ line ++ flat_map reply_line texts = c.in_ok-append_lines.ensures
    ∙ ap (λ xs. line ++ flat_map reply_line (map (λ i. i.items) xs)) c.as_slice-2.ensures.value in
    record {
      text = record {
        items = texts;
        are_items = subst (λ vs. AreItems (told_by c.args.m.now vs) (output_names c.args.m.now.variables) texts) c.as_slice.ensures.value c.in_ok-items.ensures;
        spelled = end_spelled (codes "ended: ") (decimal c.args.ended.now.steps) (codes " steps\n")
            (flat_map reply_line texts) line whole c.in_ok-text.ensures added;
      };
    }
