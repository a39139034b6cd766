-- What branches do to what is live, by the variables that they read and write.
use Rattle.std.specs.Prelude.{ℕ, zero, suc, Bool, false, List, [], ◌++◌, map}
use Rattle.fs_model.specs.Machines.{Fsmd, transitions_of}
use Rattle.fs_model.specs.Trees.{Branch, branches_of}
use Rattle.fs_model.specs.SoundMachines.{assigned_in}
use Rattle.fs_variable_sets.specs.Sets.{has_variable, also_all}
use Rattle.fs_variable_sets.specs.declared.flows.Flow.{Flow}
use Rattle.hls_bind.specs.Liveness.{read_by}

-- the variables of a list that are numbered below 128
abbrev pub has_below_128 : List ℕ → ℕ → Bool
has_below_128 xs = also_all xs (λ x. false)

-- a branch by its two states, and by what it reads and writes
pub record Transfer : Type 0 where
  pub from : ℕ
  pub target : ℕ
  pub reads : ℕ → Bool
  pub writes : ℕ → Bool

abbrev pub transfer_of : Flow → Transfer
transfer_of f = record { from = f.from; target = f.target; reads = has_variable f.reads; writes = has_variable f.writes }

-- what a branch of a state does
abbrev pub transfer_by : ℕ → Branch → Transfer
transfer_by q b = record {
  from = q;
  target = b.target;
  reads = has_below_128 (read_by b);
  writes = has_below_128 (assigned_in b.assignments);
}

-- what the branches of a state do
abbrev pub transfers_at : Fsmd → ℕ → List Transfer
transfers_at m q = map (transfer_by q) (branches_of (transitions_of m q))

-- what the branches of the states below a number do, from the last state to the first
abbrev pub transfers_below : Fsmd → ℕ → List Transfer
transfers_below m zero = []
transfers_below m (suc n) = transfers_at m n ++ transfers_below m n
