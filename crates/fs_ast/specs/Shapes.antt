-- What is looked at where no other rule is broken: branches and endless lines.
use Rattle.std.specs.Prelude.{◌≡◌, ℕ, ◌<◌, nat_lt, true, List, [], length, map, Option, Some, None, slice_get}
use Rattle.std.specs.List.{list_all, flat_map}
use Rattle.std.specs.Option.{option_to_list}
use Rattle.fs_model.specs.Limits.{most_branches}
use Rattle.fs_model.specs.Machines.{State, Fsmd, transitions_of}
use Rattle.fs_model.specs.Trees.{tree_of_transitions, count_leaves}
use Rattle.fs_rules.specs.declared.check.CheckRule.TheVariants.{TooManyBranches, EndlessLine}
use Rattle.fs_rules.specs.declared.check.CheckFault.{CheckFault}
use Rattle.fs_model.specs.SoundMachines.{first_transition_target, reaches_cutpoint}
use Rattle.fs_rules.specs.Rules.{at_lines, broken_where, IsEndless}
use Rattle.fs_rules.specs.FirstFault.{earliest}

-- the states of these, each with its line, that have too many branches
abbrev pub forked_faults : List (ℕ × State) → List CheckFault
forked_faults ss =
    flat_map (λ s. broken_where (nat_lt most_branches (count_leaves (tree_of_transitions s.1.transitions))) TooManyBranches s.0)
    ss

-- endless lines at states by their places
abbrev pub endless_faults : List (ℕ × State) → List ℕ → List CheckFault
endless_faults ss places = at_lines EndlessLine (flat_map (λ q. option_to_list (slice_get (map (λ s. s.0) ss) q)) places)

-- a machine of these states; which variables it has plays no part
abbrev pub skeleton : List (ℕ × State) → ℕ → Fsmd
skeleton ss reset = record { variables = []; reset = reset; states = map (λ s. s.1) ss }

-- each state's first transition leads to a state
abbrev pub LeadOn : List (ℕ × State) → Type 0
LeadOn ss = (q : ℕ) → q < length ss → first_transition_target (transitions_of (skeleton ss 0) q) < length ss

-- the first of the broken rules on branches and on endless lines
pub record IsFirstOfShapes (ss : List (ℕ × State)) (reset : ℕ) (first : Option CheckFault) : Type 0 where
  pub endless : List ℕ
  pub inside : list_all (λ q. nat_lt q (length ss)) endless ≡ true
  pub ends : length endless ≡ 0 → (q : ℕ) → q < length ss → reaches_cutpoint (skeleton ss reset) (length ss) q ≡ true
  pub rounds : (k q : ℕ) → slice_get endless k ≡ Some q → IsEndless (skeleton ss reset) q
  pub all : (q : ℕ) → q < length ss → IsEndless (skeleton ss reset) q → (k : ℕ) × (slice_get endless k ≡ Some q)
  pub is_first : first ≡ earliest (earliest None (forked_faults ss)) (endless_faults ss endless)
