use Rattle.std.proofs.Common.{ap, sym, ◌∙◌, map}
use Rattle.fs_cut.specs.View.{point_of, path_of, listed_paths}
use Rattle.fs_cut.proofs.Listed.{points_are}
use Rattle.fs_cut.proofs.cover.Cover.points.Goals as goal

pub returns : goal.returns
returns c =
    let i = c.self.inside in
    ap (map point_of) c.as_slice.ensures.value
    ∙ sym (points_are (listed_paths (map path_of i.start.items) (map (λ ps. map path_of ps.items) i.forks.items)) (map point_of i.points.items))
    ∙ ap (map (λ e. e.point)) c.self.view_is
