use Rattle.fs_cut.specs.View.{point_of}
use Rattle.search_closing.proofs.Keys.{stands}
use Rattle.search_closing.proofs.places.place_of.Goals as goal

pub returns : goal.returns
returns c = λ T e. stands T (point_of c.args.left) (point_of c.args.right) c.key_of.result c.args.places.now.keys c.get_index_of.result c.key_of.ensures e
    c.get_index_of.ensures.index
