-- Laws of the chain of first reductions, and of what inputs are given.
use Rattle.std.specs.Prelude.{◌≡◌, ℕ, List, IsTrue}
use Rattle.fs_ast.specs.MachineOfParts.{machine_of}
use Rattle.fs_model.specs.SoundMachines.{IsSound}
use Rattle.fs_model.specs.Source.{Source}
use Rattle.fs_model.specs.Machines.{Fsmd}
use Rattle.fs_model.specs.Runs.{Content}
use Rattle.fs_model.specs.WellFormed.{is_well_formed}
use Rattle.fs_stores.specs.declared.inputs.Inputs.{Inputs}
use Rattle.fs_stores.specs.InputValues.{signatures_of, input_signatures, inputs_of}
use Rattle.hls_shrink.specs.declared.entries.InputEntry.{InputEntry}
use Rattle.hls_shrink.specs.InputEntries.{AreEntries, contents_in}
use Rattle.hls_shrink.specs.Given.{given_contents, has_no_input_port}
use Rattle.hls_shrink.specs.Shrunk.{ShowDifference, IsLeast, EndsIn}

-- contents have one list of entries
abbrev pub OneList : Type 0
OneList = (cs : List Content) (es fs : List InputEntry) → AreEntries 0 cs es → AreEntries 0 cs fs → es ≡ fs

-- a chain has one end
abbrev pub OneChainEnd : Type 0
OneChainEnd = (a b : Fsmd) (limit : ℕ) (cs x y : List Content) → EndsIn (ShowDifference a b limit) cs x
    → EndsIn (ShowDifference a b limit) cs y → x ≡ y

-- no reduction of the end of a chain shows a difference
abbrev pub EndIsLeast : Type 0
EndIsLeast = (a b : Fsmd) (limit : ℕ) (cs end : List Content) → EndsIn (ShowDifference a b limit) cs end
    → IsLeast (ShowDifference a b limit) end

-- where no input is a port, what inputs give in order is what they give the names of a machine's inputs
abbrev pub GivenByName : Type 0
GivenByName =
    (m : Fsmd) (ins : Inputs) → IsSound m → IsTrue (has_no_input_port m) → signatures_of ins ≡ input_signatures m.variables
    → contents_in ins ≡ given_contents m (inputs_of ins)

-- no input of the machine of well-formed parts is a port
abbrev pub NoInputPorts : Type 0
NoInputPorts = (p : Source) → IsTrue (is_well_formed p) → IsTrue (has_no_input_port (machine_of p))
