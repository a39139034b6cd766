use Rattle.std.proofs.Common.{◌∙◌, ap, map}
use Rattle.fs_cut.specs.Paths.{Start}
use Rattle.fs_cut.specs.Covers.{paths_by}
use Rattle.fs_cut.specs.View.{point_of, path_of}
use Rattle.fs_cut.proofs.Listed.{cover_is, lists_points}
use Rattle.fs_cut.proofs.make_cover.cover.Goals as goal

pub of-requires : goal.of-requires
of-requires c =
    lists_points c.args.m.now (map path_of c.in_ok-start.start.items) (map (λ ps. map path_of ps.items) c.in_ok-forks.forks.items)
    (map point_of c.in_ok-points.points.items) c.in_ok-forks.ensures c.in_ok-points.ensures

pub returns : goal.returns
returns c =
    let m = c.args.m.now in
    c.of.ensures
    ∙ cover_is m (map path_of c.in_ok-start.start.items) (map (λ ps. map path_of ps.items) c.in_ok-forks.forks.items) (map point_of c.in_ok-points.points.items)
    (c.in_ok-start.ensures ∙ ap (paths_by m Start) c.reset.ensures.reset) c.in_ok-forks.ensures c.in_ok-points.ensures
