use Rattle.std.proofs.Common.{[], ap, ◌∙◌}
use Rattle.std.specs.Map.{lookup}
use Rattle.std.specs.Option.{option_map_or}
use Rattle.fs_cut.specs.View.{point_of}
use Rattle.cert_model.specs.PointKeys.{same_key}
use Rattle.cert_check.specs.Listing.{referred}
use Rattle.cert_check.proofs.Keyed.{by_reference}
use Rattle.cert_check.proofs.lookup.nodes_at.Goals as goal

pub returns : goal.returns
returns c =
    let index = c.args.index.now in
    by_reference referred c.get.result
    ∙ ap (λ o. option_map_or referred o []) (c.get.ensures.value ∙ ap (λ k. lookup (same_key k) index.by_points.entries) c.key_of.ensures)
    ∙ index.at (point_of c.args.left) (point_of c.args.right)
