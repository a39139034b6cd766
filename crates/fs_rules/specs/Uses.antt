-- What is wrong with uses of variables.
use Rattle.std.specs.Prelude.{ℕ, not, ◌&&◌, ◌||◌, List}
use Rattle.std.specs.List.{list_all, list_any}
use Rattle.fs_model.specs.declared.parts.VarInfo.{VarInfo}
use Rattle.fs_model.specs.Runs.{is_scalar, is_array, is_port}
use Rattle.fs_rules.specs.declared.rules.Uses.{Uses}
use Rattle.fs_model.specs.SoundMachines.{other_sort_at}
use Rattle.fs_rules.specs.Rules.{is_known}

-- of these uses as scalars, as arrays and as ports, whether one is of no variable, and whether one is of another sort
abbrev pub uses_of : List VarInfo → (scalars arrays ports : List ℕ) → Uses
uses_of vs scalars arrays ports = record {
  unknown = not (list_all (is_known vs) scalars && (list_all (is_known vs) arrays && list_all (is_known vs) ports));
  wrong_sort = list_any (other_sort_at is_scalar vs) scalars
      || (list_any (other_sort_at is_array vs) arrays || list_any (other_sort_at is_port vs) ports);
}

-- what is wrong with either
abbrev pub either_of : Uses → Uses → Uses
either_of u v = record { unknown = u.unknown || v.unknown; wrong_sort = u.wrong_sort || v.wrong_sort }
