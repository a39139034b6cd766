use Rattle.std.proofs.Common.{◌≤◌, ◌++◌, length, map, ap, ◌∙◌, sym, subst, arith}
use Rattle.std.proofs.lemmas.List.{length-map}
use Rattle.fs_cut.specs.View.{path_of}
use Rattle.search_places.specs.Moves.{moves_in_mode, most_moves}
use Rattle.search_places.proofs.Moved.{moves_few}
use Rattle.search_places.proofs.moves.moves.Goals as goal

pub returns-clause-few : goal.returns-clause-few
returns-clause-few c =
    let lefts = c.args.lefts.now in
    let rights = c.args.rights.now in
    let listed = c.in_ok-push_moves.ensures
    ∙ ap (λ xs. xs ++ moves_in_mode c.args.node (map path_of lefts) (map path_of rights) c.args.mode) c.new-out.ensures.items in
    subst (λ xs. length xs ≤ most_moves) (sym listed)
    (moves_few c.args.node (map path_of lefts) (map path_of rights) c.args.mode (omega (arith, length-map lefts path_of, c.requires.few_left))
    (omega (arith, length-map rights path_of, c.requires.few_right)))
