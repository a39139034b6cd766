-- The parts of a machine text as plain data: variables and states by their names, and the line of each part.
use Rattle.std.specs.Prelude.{ℕ, List}
use Rattle.fs_model.specs.declared.parts.Role.{Role}
use Rattle.fs_model.specs.declared.parts.Sort.{Sort}
use Rattle.fs_model.specs.Expressions.{Transition}

pub record Declaration : Type 0 where
  pub line : ℕ
  pub role : Role
  pub sort : Sort
  pub names : List (List ℕ)

pub record SourceTransition : Type 0 where
  pub line : ℕ
  pub content : Transition (List ℕ) (List ℕ)

pub record SourceState : Type 0 where
  pub line : ℕ
  pub name : List ℕ
  pub transitions : List SourceTransition

pub record Source : Type 0 where
  pub declarations : List Declaration
  pub reset_line : ℕ
  pub reset : List ℕ
  pub states : List SourceState
