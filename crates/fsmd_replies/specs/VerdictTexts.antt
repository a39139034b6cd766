-- The lines of verdicts on certificates.
use Rattle.std.specs.Prelude.{ℕ, List, ◌++◌, codes, decimal}
use Rattle.fs_model.specs.Machines.{Fsmd}
use Rattle.cert_model.specs.declared.reason.Reason.{Reason}
use Rattle.fsmd_replies.specs.Reasons.{reason_text}

-- the line of a certificate of which each obligation holds
abbrev pub yes_line : List ℕ
yes_line = codes "yes\n"

-- the line of an obligation that fails for a reason
abbrev pub failure_line : (a b : Fsmd) → (obligation : ℕ) → Reason → List ℕ
failure_line a b obligation reason =
    codes "no: obligation " ++ (decimal obligation ++ (codes ", " ++ (reason_text a b reason ++ codes "\n")))

-- the line of an obligation that has an event
abbrev pub undecided_line : (obligation : ℕ) → (event : List ℕ) → List ℕ
undecided_line obligation event = codes "undecided: obligation " ++ (decimal obligation ++ (codes ", " ++ (event ++ codes "\n")))
