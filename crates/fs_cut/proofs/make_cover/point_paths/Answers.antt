use Rattle.std.proofs.Common.{◌∙◌, ap, sym, map}
use Rattle.fs_cut.specs.Covers.{paths_from, cover_of}
use Rattle.fs_cut.specs.View.{point_of, path_of}
use Rattle.fs_cut.specs.declared.cover.Point.{Point}
use Rattle.fs_cut.proofs.Listed.{done_missing}
use Rattle.fs_cut.proofs.make_cover.point_paths.Goals as goal

pub returns-in-Done : goal.returns-in-Done
returns-in-Done c =
    let m = c.args.m.now in
    ap (map path_of) c.new.ensures.items
    ∙ sym (ap (λ (p : Point). paths_from (cover_of m) (point_of p)) c.in-Done.is ∙ done_missing m)
