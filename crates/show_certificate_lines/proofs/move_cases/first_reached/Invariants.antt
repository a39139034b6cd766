use Rattle.std.proofs.Common.{◌≡◌, ◌+◌, map, drop}
use Rattle.sym_paths.specs.View.{post_in}
use Rattle.cert_model.specs.View.{node_of}
use Rattle.show_certificate_lines.specs.MoveCases.{reaches_target, first_reached}
use Rattle.show_certificate_lines.proofs.move_cases.first_reached.Given as goal

abbrev pub invariant-loop-place : goal.invariant-loop-place
invariant-loop-place l =
    first_reached (l.place + 1) (map (reaches_target (node_of l.from) (post_in l.post)) (map (λ t. node_of t.now) (drop l.place l.targets)))
    ≡ first_reached 1 (map (reaches_target (node_of l.from) (post_in l.post)) (map (λ t. node_of t.now) l.targets))
