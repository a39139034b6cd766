use Rattle.std.proofs.Common.{◌≡◌, length, rules}
use Rattle.std.proofs.lemmas.List.{length-map}
use Rattle.std.specs.Prelude.{map}
use Rattle.cert_model.specs.View.{node_of}
use Rattle.fsmd_answers.proofs.Pairs.{equivalent}
use Rattle.fsmd_answers.proofs.compare.equivalent_answer.Goals as goal

pub returns : goal.returns
returns c =
    let count : c.len-nodes.result ≡ length (map node_of c.args.cert.now.nodes.items) = simp length-map (search rules) in
    λ limit. equivalent limit c.args.keeps c.args.pair.now.left c.args.pair.now.right
    (map node_of c.args.cert.now.nodes.items) c.len-nodes.result c.in_ok-cert.cert c.requires.same count c.in_ok-cert.ensures
