-- Why an obligation fails, in words.
use Rattle.std.specs.Prelude.{ℕ, List, [], ◌++◌, Option, Some, None, codes, decimal, slice_get}
use Rattle.fs_model.specs.Machines.{Fsmd}
use Rattle.fs_model.specs.VariableNames.{variable_name}
use Rattle.fs_pair.specs.declared.positions.Position.{Position}
use Rattle.fs_pair.specs.Partners.{variables_on}
use Rattle.fs_pair.specs.Positions.{positions}
use Rattle.term_text.specs.TermTexts.{symbol_text}
use Rattle.cert_model.specs.declared.reason.Reason.{Reason}
use Rattle.cert_model.specs.declared.reason.Reason.TheVariants as reasons

-- a position: its side and its name
abbrev pub position_text : (a b : Fsmd) → Option Position → List ℕ
position_text a b None = []
position_text a b (Some p) = symbol_text p.pos.side (variable_name (variables_on p.pos.side a b) p.pos.var)

-- why an obligation fails; conditions are counted from 0
abbrev pub reason_text : (a b : Fsmd) → Reason → List ℕ
reason_text a b reasons.NoStartNode = codes "no start node"
reason_text a b reasons.Mode = codes "mode"
reason_text a b reasons.NoTarget = codes "no target node"
reason_text a b (reasons.Equation place) = codes "equation " ++ position_text a b (slice_get (positions a b) place)
reason_text a b (reasons.Condition index) = codes "condition " ++ decimal index
reason_text a b reasons.Rank = codes "rank"
reason_text a b (reasons.Output x) = codes "output " ++ variable_name a.variables x
