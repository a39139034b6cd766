use Rattle.std.proofs.Common.{map, ap, sym, ◌∙◌}
use Rattle.std.specs.Prelude.{Some, None}
use Rattle.std.specs.List.{flat_map}
use Rattle.fs_cut.specs.Paths.{Path}
use Rattle.cert_model.specs.View.{node_of}
use Rattle.cert_check.specs.View.{move_in, owed_moves}
use Rattle.cert_check.proofs.Results.{answer_over}
use Rattle.cert_check.proofs.verify.check_moves.Goals as goal

pub returns-in-Both-clause-moves : goal.returns-in-Both-clause-moves
returns-in-Both-clause-moves c =
    let t = c.args.table.now in
    let n = node_of c.args.node.now in
    let judged = λ (p q : Path). move_in t n (Some p) (Some q) in
    answer_over c.args.first _ (owed_moves c.args.node.now.mode t n) c.both_moves.result
    ((λ k. flat_map (λ p. map (judged p) (c.paths-rights.ensures.paths k)) (c.paths-lefts.ensures.paths k)) ∙ ap (λ m. owed_moves m t n) (sym c.in-Both.is))
    c.both_moves.ensures.moves

pub returns-in-Left-clause-moves : goal.returns-in-Left-clause-moves
returns-in-Left-clause-moves c =
    let t = c.args.table.now in
    let n = node_of c.args.node.now in
    answer_over c.args.first _ (owed_moves c.args.node.now.mode t n) c.left_moves.result
    (ap (map (λ (p : Path). move_in t n (Some p) None)) c.paths-lefts.ensures.paths ∙ ap (λ m. owed_moves m t n) (sym c.in-Left.is))
    c.left_moves.ensures.moves

pub returns-in-Right-clause-moves : goal.returns-in-Right-clause-moves
returns-in-Right-clause-moves c =
    let t = c.args.table.now in
    let n = node_of c.args.node.now in
    answer_over c.args.first _ (owed_moves c.args.node.now.mode t n) c.right_moves.result
    (ap (map (λ (q : Path). move_in t n None (Some q))) c.paths-rights.ensures.paths ∙ ap (λ m. owed_moves m t n) (sym c.in-Right.is))
    c.right_moves.ensures.moves

pub returns-in-End-clause-moves : goal.returns-in-End-clause-moves
returns-in-End-clause-moves c =
    let t = c.args.table.now in
    let n = node_of c.args.node.now in
    answer_over c.args.first _ (owed_moves c.args.node.now.mode t n) c.check_outputs.result (ap (λ m. owed_moves m t n) (sym c.in-End.is))
    c.check_outputs.ensures.moves
