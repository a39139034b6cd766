use Rattle.search.proofs.Alike.{answers_where_alike}
use Rattle.search.proofs.searching.search.Goals as goal

pub returns-clause-alike : goal.returns-clause-alike
returns-clause-alike c = answers_where_alike c.args.a.now c.args.b.now c.search_by_covers.result c.search_by_covers.ensures
