use Rattle.std.proofs.Common.{ap, sym, ◌∙◌, map, Vec, Global}
use Rattle.fs_cut.specs.declared.cover.Path.{Path as CodePath}
use Rattle.fs_cut.specs.Paths.{Start, At, Done}
use Rattle.fs_cut.specs.View.{point_of, path_of}
use Rattle.fs_cut.proofs.Loops.{found_in, some_at, none_at}
use Rattle.fs_cut.proofs.cover.Cover.from.Goals as goal

pub returns-in-Start : goal.returns-in-Start
returns-in-Start c =
    let i = c.self.inside in
    ap (map path_of) c.as_slice.ensures.value
    ∙ found_in (map path_of i.start.items) (map (λ ps. map path_of ps.items) i.forks.items)
    (map point_of i.points.items) c.args.self.now (point_of c.args.p) Start c.self.invariant c.self.view_is (ap point_of c.in-Start.is)

pub returns-in-Some : goal.returns-in-Some
returns-in-Some c =
    let i = c.self.inside in
    let q = c.in-At.state.0 in
    let e = c.in-Some.ensures.lookup in
    ap (map path_of) c.as_slice-in-Some.ensures.value
    ∙ sym (some_at (λ (ps : Vec CodePath Global). map path_of ps.items) i.forks.items c.deref.result.now q c.in-Some.paths.now c.deref.ensures.value e.3.0 e.1)
    ∙ found_in (map path_of i.start.items) (map (λ ps. map path_of ps.items) i.forks.items) (map point_of i.points.items) c.args.self.now (point_of c.args.p)
    (At q) c.self.invariant c.self.view_is (ap point_of c.in-At.is)

pub returns-in-None : goal.returns-in-None
returns-in-None c =
    let i = c.self.inside in
    let q = c.in-At.state.0 in
    sym (none_at (λ (ps : Vec CodePath Global). map path_of ps.items) i.forks.items c.deref.result.now q c.deref.ensures.value c.in-None.ensures.lookup.3)
    ∙ found_in (map path_of i.start.items) (map (λ ps. map path_of ps.items) i.forks.items) (map point_of i.points.items) c.args.self.now (point_of c.args.p)
    (At q) c.self.invariant c.self.view_is (ap point_of c.in-At.is)

pub returns-in-Done : goal.returns-in-Done
returns-in-Done c =
    let i = c.self.inside in
    found_in (map path_of i.start.items) (map (λ ps. map path_of ps.items) i.forks.items)
    (map point_of i.points.items) c.args.self.now (point_of c.args.p) Done c.self.invariant c.self.view_is (ap point_of c.in-Done.is)
