use Rattle.std.proofs.Common.{◌≡◌, ◌+◌, ◌≤◌, drop}
use Rattle.term_text.specs.Brackets.{openings}
use Rattle.term_condition_text.proofs.brackets.openings.Given as goal

abbrev pub invariant-loop-b : goal.invariant-loop-b
invariant-loop-b l = (l.count + openings (drop l.b-index l.bytes) ≡ openings l.bytes) × (l.count ≤ l.b-index)
