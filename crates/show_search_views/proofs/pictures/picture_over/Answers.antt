use Rattle.std.proofs.Common.{sym, subst}
use Rattle.search_tables.specs.SearchTables.{machines}
use Rattle.show_search_views.specs.SearchPictures.{AreMarks}
use Rattle.show_search_views.proofs.pictures.picture_over.Goals as goal

pub picture_with-requires-clause-marks : goal.picture_with-requires-clause-marks
picture_with-requires-clause-marks c =
    subst (AreMarks (machines c.args.a.now c.args.b.now)) (sym c.as_slice.ensures.value) c.in_ok-marks.ensures
