-- What a program does.
use Rattle.std.specs.Prelude.{◌≡◌, ℕ, true, false, List, Option}
use Rattle.fs_model.specs.declared.parts.VarInfo.{VarInfo}
use Rattle.fs_model.specs.Expressions.{Guard, Assignment}
use Rattle.fs_model.specs.Machines.{Fsmd}
use Rattle.fs_model.specs.Stores.{Store}
use Rattle.fs_model.specs.Meaning.{holds, act}
use Rattle.fs_model.specs.Runs.{Inputs, Content, Run, start_store, output_from}
use Rattle.fs_rules.specs.MachineOfParts.{variables_of, names_of, place_or_end}
use Rattle.hls_program_parts.specs.Programs.{Block, End, Do, If, While, Program, block_over}

-- a block that begins with one store ends with another
pub data Does : Block ℕ → Store → Store → Type 0 where
  nothing : (s : Store) → Does End s s
  assigns : (line : ℕ) (a : Assignment ℕ) {rest : Block ℕ} {s t : Store} → Does rest (act a s s) t → Does (Do line a rest) s t
  takes_yes : (line : ℕ) (g : Guard ℕ) {on_yes on_no rest : Block ℕ} {s u t : Store} → holds g s ≡ true → Does on_yes s u
      → Does rest u t → Does (If line g on_yes on_no rest) s t
  takes_no : (line : ℕ) (g : Guard ℕ) {on_yes on_no rest : Block ℕ} {s u t : Store} → holds g s ≡ false → Does on_no s u
      → Does rest u t → Does (If line g on_yes on_no rest) s t
  stops : (line : ℕ) (g : Guard ℕ) {body rest : Block ℕ} {s t : Store} → holds g s ≡ false → Does rest s t
      → Does (While line g body rest) s t
  repeats : (line : ℕ) (g : Guard ℕ) {body rest : Block ℕ} {s u t : Store} → holds g s ≡ true → Does body s u
      → Does (While line g body rest) u t → Does (While line g body rest) s t

abbrev pub program_variables : Program → List VarInfo
program_variables p = variables_of p.declarations

-- the outermost block over the numbers of variables
abbrev pub numbered_body : Program → Block ℕ
numbered_body p = block_over (place_or_end (names_of (program_variables p))) p.body

-- from these inputs the program ends with these outputs
pub record ProgRun (p : Program) (ins : Inputs) (outs : List ℕ → Option Content) : Type 0 where
  pub last : Store
  pub does : Does (numbered_body p) (start_store (program_variables p) ins) last
  pub gives : (name : List ℕ) → output_from (program_variables p) 0 last name ≡ outs name

-- a machine does what a program does: from the same inputs it has a run to the same outputs exactly where the program ends with
-- them
pub record DoesAs (p : Program) (m : Fsmd) : Type 0 where
  pub forth : (ins : Inputs) (outs : List ℕ → Option Content) (n : ℕ) → Run m ins outs n → ProgRun p ins outs
  pub back : (ins : Inputs) (outs : List ℕ → Option Content) → ProgRun p ins outs → (n : ℕ) × Run m ins outs n
