use Rattle.std.proofs.Common.{◌∙◌, ap₂}
use Rattle.std.proofs.lemmas.Result.{IfOk-weaker}
use Rattle.search_tables.specs.View.{table_in}
use Rattle.search_tables.specs.SearchTables.{machines}
use Rattle.show_search_views.specs.SearchPictures.{search_picture}
use Rattle.show_search_views.proofs.pictures.picture_with.Goals as goal

pub returns : goal.returns
returns c =
    let m = machines c.args.a.now c.args.b.now in
    let e = c.in_ok-ended.ended in
    IfOk-weaker c.draw_with.result _ _
    (λ text told. record {
      outcome = c.requires.marks.outcome;
      searched = c.requires.marks.searched;
      moves = e.moves.items;
      table = table_in e.nodes.items;
      makes = c.in_ok-ended.ensures.makes;
      told = told ∙ ap₂ (search_picture m) c.requires.marks.are c.as_slice.ensures.value;
    })
    c.draw_with.ensures
