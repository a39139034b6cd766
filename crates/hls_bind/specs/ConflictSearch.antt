-- The first branch that loses a local, looked for in order.
use Rattle.std.specs.Prelude.{ℕ, zero, suc, ◌==◌, Bool, false, not, ◌&&◌, ◌||◌, cond, List, [], ◌∷◌, length, Option, Some, None}
use Rattle.std.specs.Prelude.{option_map}
use Rattle.std.specs.Option.{option_or}
use Rattle.std.specs.Str.{bytes_eq}
use Rattle.fs_model.specs.Machines.{Fsmd}
use Rattle.fs_model.specs.SoundMachines.{assigned_in, branch_count}
use Rattle.fs_cut.specs.Paths.{branch_at, target_of}
use Rattle.fs_variable_sets.specs.declared.VariableSet.{VariableSet}
use Rattle.fs_variable_sets.specs.Flows.{has_at}
use Rattle.hls_bind.specs.Conflicts.{Conflict}
use Rattle.hls_bind.specs.BranchFlows.{has_below_128}

-- two locals of which a branch loses the other by writing the first, and whether it writes both
pub record LostPair : Type 0 where
  pub written : ℕ
  pub other : ℕ
  pub twice : Bool

-- whether another local has the same register, and is written or live
abbrev pub is_lost : (writes live : ℕ → Bool) → (one other : ℕ × List ℕ) → Bool
is_lost writes live one other = not (other.0 == one.0) && ((writes other.0 || live other.0) && bytes_eq other.1 one.1)

-- the first local that is lost as one is written
abbrev pub lost_with : (writes live : ℕ → Bool) → ℕ × List ℕ → List (ℕ × List ℕ) → Option LostPair
lost_with writes live one [] = None
lost_with writes live one (e ∷ es) = cond (is_lost writes live one e)
    (Some (record { written = one.0; other = e.0; twice = writes e.0 })) (lost_with writes live one es)

-- the first pair, where the written one is among these
abbrev pub lost_by : (writes live : ℕ → Bool) → (all these : List (ℕ × List ℕ)) → Option LostPair
lost_by writes live all [] = None
lost_by writes live all (e ∷ es) = option_or (cond (writes e.0) (lost_with writes live e all) None) (lost_by writes live all es)

-- what a branch writes
abbrev pub written_at : Fsmd → ℕ → ℕ → ℕ → Bool
written_at m q k = has_below_128 (assigned_in (branch_at m q k).assignments)

-- what is live where a branch leads, nothing where it returns
abbrev pub live_after : Fsmd → List VariableSet → ℕ → ℕ → ℕ → Bool
live_after m sets q k = cond (target_of m q k == m.reset) (λ x. false) (has_at sets (target_of m q k))

-- a conflict, and whether it is twice
abbrev pub doubled_conflict : ℕ → ℕ → LostPair → Conflict × Bool
doubled_conflict q k p = (record { state = q; branch = k; written = p.written; other = p.other }, p.twice)

abbrev pub conflict_at : List (ℕ × List ℕ) → Fsmd → List VariableSet → ℕ → ℕ → Option (Conflict × Bool)
conflict_at b m sets q k = option_map (doubled_conflict q k) (lost_by (written_at m q k) (live_after m sets q k) b b)

-- the first answer for n numbers from k on
abbrev pub first_from : {A : Type 0} → (ℕ → Option A) → ℕ → ℕ → Option A
first_from f k zero = None
first_from f k (suc n) = option_or (f k) (first_from f (suc k) n)

abbrev pub conflict_in : List (ℕ × List ℕ) → Fsmd → List VariableSet → ℕ → Option (Conflict × Bool)
conflict_in b m sets q = first_from (conflict_at b m sets q) 0 (branch_count m q)

abbrev pub first_conflict : List (ℕ × List ℕ) → Fsmd → List VariableSet → Option (Conflict × Bool)
first_conflict b m sets = first_from (conflict_in b m sets) 0 (length m.states)
