-- What holds of each branch of a sound machine.
use Rattle.std.specs.Prelude.{ℕ, ◌<◌, ◌≤◌, Bool, not, ◌&&◌, IsTrue, List}
use Rattle.std.specs.List.{list_all}
use Rattle.fs_model.specs.declared.parts.VarInfo.{VarInfo}
use Rattle.fs_model.specs.Limits.{most_emits}
use Rattle.fs_model.specs.Expressions.{Literal, Assignment}
use Rattle.fs_model.specs.Trees.{Branch}
use Rattle.fs_model.specs.PartFolds.{scalars, arrays, numbers, uses_in_literal}
use Rattle.fs_model.specs.SoundMachines.{scalar_at, array_at, port_at, input_at, is_text_number, scalars_in_assignment}
use Rattle.fs_model.specs.SoundMachines.{arrays_in_assignment, port_in, numbers_in_assignment, changed_by, assigned_in}
use Rattle.fs_model.specs.SoundMachines.{all_differ}
use Rattle.fs_model.specs.SoundMachines.{emit_count}

-- a literal uses scalars as scalars and arrays, and has numbers that a text can have
abbrev pub is_sound_literal : List VarInfo → Literal ℕ → Bool
is_sound_literal vs l = list_all (scalar_at vs) (uses_in_literal scalars l)
    && (list_all (array_at vs) (uses_in_literal arrays l) && list_all is_text_number (uses_in_literal numbers l))

-- so does an assignment, which uses ports as ports and changes no input
abbrev pub is_sound_assignment : List VarInfo → Assignment ℕ → Bool
is_sound_assignment vs a =
    list_all (scalar_at vs) (scalars_in_assignment a)
    && (list_all (array_at vs) (arrays_in_assignment a)
    && (list_all (port_at vs) (port_in a)
    && (list_all is_text_number (numbers_in_assignment a) && not (input_at vs (changed_by a)))))

pub record IsSoundBranch (vs : List VarInfo) (count : ℕ) (b : Branch) : Type 0 where
  pub literals : IsTrue (list_all (is_sound_literal vs) b.literals)
  pub assignments : IsTrue (list_all (is_sound_assignment vs) b.assignments)
  pub assigned_once : IsTrue (all_differ (assigned_in b.assignments))
  pub few_emits : emit_count b.assignments ≤ most_emits
  pub target_in : b.target < count
