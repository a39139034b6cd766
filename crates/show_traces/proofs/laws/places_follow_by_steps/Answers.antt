use Rattle.show_traces.proofs.Following.{places_follow}
use Rattle.show_traces.proofs.laws.places_follow_by_steps.Goals as goal

pub returns : goal.returns
returns c = places_follow
