-- What the bytes of a file spell, by the grammar of machine texts and the rules of machines.
use Rattle.std.specs.Prelude.{◌≡◌, ℕ, ◌<◌, ◌≤◌, List, length}
use Rattle.fs_model.specs.Source.{Source}
use Rattle.fs_model.specs.Machines.{Fsmd}
use Rattle.fs_model.specs.Limits.{most_text_bytes}
use Rattle.fs_grammar.specs.declared.fault.TextFault.{TextFault}
use Rattle.fs_lex.specs.MachineTexts.{TextSpells, TextStops}
use Rattle.fs_rules.specs.declared.check.CheckFault.{CheckFault}
use Rattle.fs_rules.specs.MachineOfParts.{machine_of}
use Rattle.fs_rules.specs.Rules.{BreaksNoRule, IsFirstBroken}

-- there are more bytes than are read
abbrev pub IsTooLong : (limit : ℕ) → List ℕ → Type 0
IsTooLong limit bytes = limit < length bytes

-- the bytes spell these parts, which break no rule
pub record SpellsParts (parts : Source) (bytes : List ℕ) : Type 0 where
  pub few : length bytes ≤ most_text_bytes
  pub spells : TextSpells bytes parts
  pub lawful : BreaksNoRule parts

-- the bytes spell this machine
pub record SpellsMachine (m : Fsmd) (bytes : List ℕ) : Type 0 where
  pub parts : Source
  pub spells : SpellsParts parts bytes
  pub machine : m ≡ machine_of parts

-- the bytes spell no parts: they are faulty here
pub record HasTextFault (fault : TextFault) (bytes : List ℕ) : Type 0 where
  pub few : length bytes ≤ most_text_bytes
  pub stops : TextStops bytes fault

-- the bytes spell parts, and this is the rule that they break first
pub record HasCheckFault (fault : CheckFault) (bytes : List ℕ) : Type 0 where
  pub parts : Source
  pub few : length bytes ≤ most_text_bytes
  pub spells : TextSpells bytes parts
  pub broken : IsFirstBroken parts fault
