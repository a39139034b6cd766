-- The path of a side is the one that is shown.
use Rattle.std.proofs.Common.{◌≡◌, ℕ, refl}
use Rattle.std.specs.Prelude.{Option, Some, None}
use Rattle.fs_model.specs.Machines.{Fsmd}
use Rattle.fs_cut.specs.Paths.{Point}
use Rattle.fsmd_replies.specs.ObstacleTexts.{side_text}
use Rattle.show_move_lines.specs.MoveReplays.{branch_path}
use Rattle.show_move_lines.specs.MoveLines.{shown_path}

pub side_shown : (m : Fsmd) (P : Point) (branch : Option ℕ) → shown_path m branch (branch_path m P branch) ≡ side_text m P branch
side_shown m P None = refl
side_shown m P (Some branch) = refl
