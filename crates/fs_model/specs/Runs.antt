-- Steps and runs of a machine, and when two machines have the same behaviour.
use Rattle.std.specs.Prelude.{◌≡◌, ◌≢◌, ℕ, zero, suc, ◌+◌, Bool, true, false, ◌&&◌, cond, ℤ, pos, List, [], ◌∷◌, Option, Some}
use Rattle.std.specs.Prelude.{None, slice_get}
use Rattle.std.specs.Str.{bytes_eq}
use Rattle.fs_model.specs.declared.parts.Role.{Role}
use Rattle.fs_model.specs.declared.parts.Role.TheVariants.{Input, Output}
use Rattle.fs_model.specs.declared.parts.Sort.{Sort}
use Rattle.fs_model.specs.declared.parts.Sort.TheVariants.{Scalar, Array, Port}
use Rattle.fs_model.specs.declared.parts.VarInfo.{VarInfo}
use Rattle.fs_model.specs.Expressions.{Transition}
use Rattle.fs_model.specs.Machines.{Fsmd, transitions_of}
use Rattle.fs_model.specs.Stores.{Store}
use Rattle.fs_model.specs.Meaning.{transition_taken, act_all}

-- from state q and store s, the first transition whose guard holds leads to state r and store t
pub record Step (m : Fsmd) (q : ℕ) (s : Store) (r : ℕ) (t : Store) : Type 0 where
  pub transition : Transition ℕ ℕ
  pub taken : transition_taken (transitions_of m q) s ≡ Some transition
  pub target : r ≡ transition.target
  pub store : t ≡ act_all transition.assignments s s

-- one step, after which After stands
pub record AfterStep (m : Fsmd) (q : ℕ) (s : Store) (After : ℕ → Store → Type 0) : Type 0 where
  pub state : ℕ
  pub store : Store
  pub step : Step m q s state store
  pub after : After state store

-- from state q and store s, the reset state is reached for the first time after n steps, with store t
abbrev pub ReachesReset : Fsmd → ℕ → ℕ → Store → Store → Type 0
ReachesReset m zero q s t = (q ≡ m.reset) × (s ≡ t)
ReachesReset m (suc n) q s t = (q ≢ m.reset) × AfterStep m q s (λ r u. ReachesReset m n r u t)

-- the same with at least one step, whatever state it begins in
abbrev pub FirstReturn : Fsmd → ℕ → ℕ → Store → Store → Type 0
FirstReturn m zero q s t = ⊥
FirstReturn m (suc n) q s t = AfterStep m q s (λ r u. ReachesReset m n r u t)

-- a number and an array for each name, of which a machine takes what its inputs are
pub record Inputs : Type 0 where
  pub scalar : List ℕ → ℤ
  pub array : List ℕ → ℤ → ℤ

-- what an output holds at the end; of a port the numbers emitted to it, in order
pub data Content : Type 0 where
  Number : ℤ → Content
  Entries : (ℤ → ℤ) → Content
  Emitted : List ℤ → Content

abbrev pub is_input : Role → Bool
is_input Input = true
is_input _ = false

abbrev pub is_scalar : Sort → Bool
is_scalar Scalar = true
is_scalar _ = false

abbrev pub first_scalar : Inputs → Option VarInfo → ℤ
first_scalar ins None = pos 0
first_scalar ins (Some v) = cond (is_input v.role && is_scalar v.sort) (ins.scalar v.name) (pos 0)

abbrev pub is_array : Sort → Bool
is_array Array = true
is_array _ = false

abbrev pub first_array : Inputs → Option VarInfo → ℤ → ℤ
first_array ins None i = pos 0
first_array ins (Some v) i = cond (is_input v.role && is_array v.sort) (ins.array v.name i) (pos 0)

-- the store of these variables in which a run starts: the inputs as given, each port empty, all else 0
abbrev pub start_store : List VarInfo → Inputs → Store
start_store vs ins = record {
  scalar = λ x. first_scalar ins (slice_get vs x);
  array = λ x i. first_array ins (slice_get vs x) i;
  port = λ x. [];
}

abbrev pub start : Fsmd → Inputs → Store
start m ins = start_store m.variables ins

abbrev pub is_port : Sort → Bool
is_port Port = true
is_port _ = false

abbrev pub content : Sort → ℕ → Store → Content
content Scalar x s = Number (s.scalar x)
content Array x s = Entries (s.array x)
content Port x s = Emitted (s.port x)

abbrev pub is_output : Role → Bool
is_output Output = true
is_output _ = false

abbrev pub output_from : List VarInfo → ℕ → Store → List ℕ → Option Content
output_from [] x s name = None
output_from (v ∷ vs) x s name = cond (is_output v.role && bytes_eq v.name name) (Some (content v.sort x s))
    (output_from vs (x + 1) s name)

-- what the output of a name holds, and nothing where the name is no output
abbrev pub output : Fsmd → Store → List ℕ → Option Content
output m s name = output_from m.variables 0 s name

-- from these inputs the machine returns to its reset state for the first time after n steps, with these outputs
pub record Run (m : Fsmd) (ins : Inputs) (outs : List ℕ → Option Content) (n : ℕ) : Type 0 where
  pub end : Store
  pub goes : FirstReturn m n m.reset (start m ins) end
  pub gives : (name : List ℕ) → output m end name ≡ outs name

-- each run of one has a run of the other from the same inputs to the same outputs
pub record SameBehaviour (a b : Fsmd) : Type 0 where
  pub forth : (ins : Inputs) (outs : List ℕ → Option Content) (n : ℕ) → Run a ins outs n → (k : ℕ) × Run b ins outs k
  pub back : (ins : Inputs) (outs : List ℕ → Option Content) (n : ℕ) → Run b ins outs n → (k : ℕ) × Run a ins outs k
