-- Registers for locals, and the parts in which they stand for the locals that are bound to them.
use Rattle.std.specs.Prelude.{◌≡◌, ℕ, ◌==◌, nat_lt, Bool, true, false, not, ◌&&◌, cond, List, [], ◌∷◌, ◌++◌, map, filter, length}
use Rattle.std.specs.Prelude.{Option, Some, None, slice_get}
use Rattle.std.specs.List.{list_all, list_any}
use Rattle.std.specs.List.Sorted.{IsStrictlySortedBy}
use Rattle.std.specs.Option.{unwrap_or, is_some}
use Rattle.std.specs.Ordering.{nat_cmp}
use Rattle.std.specs.Cmp.Lexicographic.{slice_cmp}
use Rattle.std.specs.Str.{bytes_eq}
use Rattle.fs_ast.specs.MachineOfParts.{place_or_end, names_of, variables_of}
use Rattle.fs_model.specs.declared.parts.Role.{Role}
use Rattle.fs_model.specs.declared.parts.Role.TheVariants.{Local}
use Rattle.fs_model.specs.declared.parts.Sort.TheVariants.{Scalar}
use Rattle.fs_model.specs.declared.parts.VarInfo.{VarInfo}
use Rattle.fs_model.specs.Runs.{is_scalar}
use Rattle.fs_model.specs.Source.{Declaration, SourceTransition, SourceState, Source}
use Rattle.fs_model.specs.Renamed.{transition_over}

abbrev pub is_local : Role → Bool
is_local Local = true
is_local _ = false

abbrev pub is_scalar_local : Option VarInfo → Bool
is_scalar_local None = false
is_scalar_local (Some v) = is_local v.role && is_scalar v.sort

-- a binding: locals by their numbers, each with the name of its register; this is the register of a local, if it has one
abbrev pub register : List (ℕ × List ℕ) → ℕ → Option (List ℕ)
register [] x = None
register (e ∷ es) x = cond (e.0 == x) (Some e.1) (register es x)

abbrev pub is_bound : List (ℕ × List ℕ) → ℕ → Bool
is_bound b x = is_some (register b x)

-- each number once, and rising
abbrev pub is_rising : List (ℕ × List ℕ) → Bool
is_rising [] = true
is_rising (e ∷ es) = list_all (λ d. nat_lt e.0 d.0) es && is_rising es

-- a binding of these variables: scalar locals have registers, and no register has the name of a variable
pub record IsBindingOf (vs : List VarInfo) (b : List (ℕ × List ℕ)) : Type 0 where
  pub locals : (x : ℕ) (r : List ℕ) → register b x ≡ Some r → is_scalar_local (slice_get vs x) ≡ true
  pub fresh : (x : ℕ) (r : List ℕ) → register b x ≡ Some r → list_any (λ v. bytes_eq v.name r) vs ≡ false

-- the registers of a binding, each once, in the order of their bytes
pub record AreRegisters (b : List (ℕ × List ℕ)) (rs : List (List ℕ)) : Type 0 where
  pub all : (x : ℕ) (r : List ℕ) → register b x ≡ Some r → list_any (λ q. bytes_eq q r) rs ≡ true
  pub only : (q : List ℕ) → list_any (λ r. bytes_eq r q) rs ≡ true → (x : ℕ) × (register b x ≡ Some q)
  pub in_order : IsStrictlySortedBy (slice_cmp nat_cmp) rs

-- ---- parts

-- the name that stands for a name of these variables
abbrev pub bound_name : List (ℕ × List ℕ) → List (List ℕ) → List ℕ → List ℕ
bound_name b vs n = unwrap_or (register b (place_or_end vs n)) n

-- whether a name stays declared
abbrev pub stays : List (ℕ × List ℕ) → List (List ℕ) → List ℕ → Bool
stays b vs n = not (is_bound b (place_or_end vs n))

abbrev pub declaration_without_bound : List (ℕ × List ℕ) → List (List ℕ) → Declaration → Declaration
declaration_without_bound b vs d = record { line = d.line; role = d.role; sort = d.sort; names = filter (stays b vs) d.names }

-- the declarations without bound locals, those that are then empty left out
abbrev pub remaining_declarations : List (ℕ × List ℕ) → List (List ℕ) → List Declaration → List Declaration
remaining_declarations b vs ds = filter (λ d. not (length d.names == 0)) (map (declaration_without_bound b vs) ds)

-- one declaration of the registers, if there are any
abbrev pub of_registers : ℕ → List (List ℕ) → List Declaration
of_registers line rs = cond (length rs == 0) [] (record { line = line; role = Local; sort = Scalar; names = rs } ∷ [])

abbrev pub transition_renamed : (List ℕ → List ℕ) → SourceTransition → SourceTransition
transition_renamed f l = record { line = l.line; content = transition_over f (λ s. s) l.content }

abbrev pub state_renamed : (List ℕ → List ℕ) → SourceState → SourceState
state_renamed f s = record { line = s.line; name = s.name; transitions = map (transition_renamed f) s.transitions }

-- the parts with each bound local replaced by its register; the registers are declared last, at the line of the reset state
abbrev pub bound_parts : List (ℕ × List ℕ) → (registers : List (List ℕ)) → Source → Source
bound_parts b rs p =
    let vs = names_of (variables_of p.declarations) in
    record {
      declarations = remaining_declarations b vs p.declarations ++ of_registers p.reset_line rs;
      reset_line = p.reset_line;
      reset = p.reset;
      states = map (state_renamed (bound_name b vs)) p.states;
    }
