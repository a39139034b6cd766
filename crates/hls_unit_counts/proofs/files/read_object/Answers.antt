use Rattle.std.proofs.Common.{rules}
use Rattle.serde_json.specs.View.{members_view}
use Rattle.hls_unit_counts.proofs.files.read_object.Goals as goal

pub returns-clause-spelled : goal.returns-clause-spelled
returns-clause-spelled c = record {
  members = members_view c.in-Some.members.now.entries;
  object = search rules;
  faultless = search rules;
  counts = c.counts_in.ensures;
}
