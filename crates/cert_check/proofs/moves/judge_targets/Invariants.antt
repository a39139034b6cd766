use Rattle.std.proofs.Common.{◌≡◌, map, drop, option_map}
use Rattle.sym_paths.specs.View.{post_in}
use Rattle.cert_model.specs.Obligations.{reaches}
use Rattle.cert_model.specs.View.{node_of}
use Rattle.cert_check.specs.View.{falls_from, behind}
use Rattle.cert_check.proofs.moves.judge_targets.Given as goal

abbrev pub invariant-loop-target : goal.invariant-loop-target
invariant-loop-target l =
    behind l.first
    (reaches l.none (map (λ t. node_of t.now) (drop l.target-index l.targets)) (falls_from (option_map (λ n. node_of n.now) l.from)) (post_in l.post))
    ≡ reaches l.none (map (λ t. node_of t.now) l.targets) (falls_from (option_map (λ n. node_of n.now) l.from)) (post_in l.post)
