-- What holds of the states of each round.
use Rattle.std.proofs.Common.{◌≡◌, ℕ, ◌+◌, ◌*◌, ◌<◌, ◌≤◌, Bool, true, false, List, [], ◌∷◌, ◌++◌, length, refl, arith, eqb}
use Rattle.std.specs.Prelude.{map, not, ◌||◌, nat_lt, pos, int_lt}
use Rattle.std.specs.List.{AllByRecursion}
use Rattle.std.proofs.lemmas.Bool.Decides.{nat_tests}
use Rattle.fs_model.specs.declared.parts.VarInfo.{VarInfo}
use Rattle.fs_model.specs.Expressions.{Transition}
use Rattle.fs_model.specs.Source.{SourceState}
use Rattle.fs_model.specs.Trees.{branches_of}
use Rattle.fs_model.specs.WellFormed.{is_well_formed_state}
use Rattle.fs_rules.specs.MachineOfParts.{variables_of, names_of, transition_spelled, place_or_end}
use Rattle.fs_model.specs.SoundMachines.{first_transition_target}
use Rattle.fs_rules.specs.Rules.{state_faults, branches_too_often, declared_states}
use Rattle.fs_generated.specs.declared.states.Side.{Side}
use Rattle.fs_generated.specs.declared.states.Side.TheVariants.{Left, Right}
use Rattle.fs_generated.specs.Sides.{round_of}
use Rattle.fs_generated.specs.Generated.{declarations, entry_name, head_name, body_name, entry_state, head, body_state, last_state, left_round, right_round}
use Rattle.fs_generated.specs.Generated.{take_summand, add_to_sum, count_down, summand}
use Rattle.fs_generated.proofs.Lists.{Has, place_low, first, second, third}
use Rattle.fs_generated.proofs.Ranks.{rank, Rises, rises_lower, entry_rank, head_rank, body_rank}

abbrev pub variables : List VarInfo
variables = variables_of declarations

-- the transitions of a state over the places of names
abbrev pub spelled : List (List ℕ) → SourceState → List (Transition ℕ ℕ)
spelled names s = map (transition_spelled (names_of variables) names) s.transitions

-- whether a state has more than one branch
abbrev pub forks : List (List ℕ) → SourceState → Bool
forks names s = nat_lt 1 (length (branches_of (spelled names s)))

abbrev pub is_head : List ℕ → Bool
is_head [] = false
is_head (c ∷ rest) = eqb c 104

-- paths are cut at a state or right behind it
pub data Leads (names : List (List ℕ)) (s : SourceState) : Type 0 where
  Forks : forks names s ≡ true → Leads names s
  ToHead : (t : List ℕ) → Has names t → is_head t ≡ true → first_transition_target (spelled names s) ≡ place_or_end names t → Leads names s
  ToReset : first_transition_target (spelled names s) ≡ place_or_end names (entry_name 0) → Leads names s

pub record IsFine (names : List (List ℕ)) (s : SourceState) : Type 0 where
  pub formed : is_well_formed_state s ≡ true
  pub faultless : state_faults variables names s ≡ []
  pub few : branches_too_often (names_of variables) names s ≡ false
  pub head_forks : (not (is_head s.name) || forks names s) ≡ true
  pub leads : Leads names s

known : (names : List (List ℕ)) (t : List ℕ) → Has names t → nat_lt (place_or_end names t) (length names) ≡ true
known names t h = let low = place_low names t h in grind (arith, nat_tests)

not_negative : (k : ℕ) → int_lt (pos k) (pos 0) ≡ false
not_negative k = grind (arith, nat_tests)

entry_fine : (names : List (List ℕ)) (k : ℕ) → Has names (head_name k) → IsFine names (entry_state k)
entry_fine names k h =
    let yes = known names (head_name k) h in
    record { formed = refl; faultless = rw yes refl; few = refl; head_forks = refl; leads = ToHead (head_name k) h refl refl }

body_fine : (names : List (List ℕ)) (k : ℕ) → Has names (head_name k) → IsFine names (body_state k)
body_fine names k h =
    let yes = known names (head_name k) h in
    record { formed = refl; faultless = rw yes refl; few = refl; head_forks = refl; leads = ToHead (head_name k) h refl refl }

pub last_fine : (names : List (List ℕ)) (n : ℕ) → Has names (entry_name 0) → IsFine names (last_state n)
last_fine names n h =
    let yes = known names (entry_name 0) h in
    record { formed = refl; faultless = rw yes refl; few = refl; head_forks = refl; leads = ToReset refl }

left_head_fine : (names : List (List ℕ)) (k : ℕ) → Has names (body_name k) → Has names (entry_name (k + 1))
    → IsFine names (head k (body_name k) (take_summand k ∷ []))
left_head_fine names k b e =
    let yes = known names (body_name k) b in
    let too = known names (entry_name (k + 1)) e in
    record { formed = rw (not_negative k) refl; faultless = rw (yes, too) refl; few = refl; head_forks = refl; leads = Forks refl }

right_head_fine : (names : List (List ℕ)) (k : ℕ) → Has names (head_name k) → Has names (entry_name (k + 1))
    → IsFine names (head k (head_name k) (take_summand k ∷ add_to_sum (summand k) ∷ count_down ∷ []))
right_head_fine names k b e =
    let yes = known names (head_name k) b in
    let too = known names (entry_name (k + 1)) e in
    record { formed = rw (not_negative k) refl; faultless = rw (yes, too) refl; few = refl; head_forks = refl; leads = Forks refl }

-- what holds of both machines' rounds
pub record IsRound (round : ℕ → List SourceState) : Type 0 where
  pub begins : (k : ℕ) → Has (round k) (entry_state k)
  pub short : (k : ℕ) → length (round k) ≤ 3
  pub rises : (k : ℕ) (rest : List SourceState) → k < 300 → Rises (3 * k + 3) (declared_states rest) → Rises (3 * k) (declared_states (round k ++ rest))
  pub fine : (names : List (List ℕ)) (k : ℕ) → ((s : SourceState) → Has (round k) s → Has names s.name) → Has names (entry_name (k + 1))
      → AllByRecursion (IsFine names) (round k)

left_rises : (k : ℕ) (rest : List SourceState) → k < 300 → Rises (3 * k + 3) (declared_states rest) → Rises (3 * k) (declared_states (left_round k ++ rest))
left_rises k rest h x =
    let a = entry_rank k (omega arith) in
    let b = head_rank k (omega arith) in
    let c = body_rank k (omega arith) in
    (omega arith, (omega arith, (omega arith, rises_lower (rank (body_name k) + 1) (3 * k + 3) (declared_states rest) (omega arith) x)))

right_rises : (k : ℕ) (rest : List SourceState) → k < 300 → Rises (3 * k + 3) (declared_states rest) → Rises (3 * k) (declared_states (right_round k ++ rest))
right_rises k rest h x =
    let a = entry_rank k (omega arith) in
    let b = head_rank k (omega arith) in
    (omega arith, (omega arith, rises_lower (rank (head_name k) + 1) (3 * k + 3) (declared_states rest) (omega arith) x))

left_fine : (names : List (List ℕ)) (k : ℕ) → ((s : SourceState) → Has (left_round k) s → Has names s.name) → Has names (entry_name (k + 1))
    → AllByRecursion (IsFine names) (left_round k)
left_fine names k has next =
    let one = entry_state k in
    let two = head k (body_name k) (take_summand k ∷ []) in
    let in_head = has two (second one two (body_state k ∷ [])) in
    let in_body = has (body_state k) (third one two (body_state k) []) in
    (entry_fine names k in_head, (left_head_fine names k in_body next, (body_fine names k in_head, tt)))

right_fine : (names : List (List ℕ)) (k : ℕ) → ((s : SourceState) → Has (right_round k) s → Has names s.name) → Has names (entry_name (k + 1))
    → AllByRecursion (IsFine names) (right_round k)
right_fine names k has next =
    let two = head k (head_name k) (take_summand k ∷ add_to_sum (summand k) ∷ count_down ∷ []) in
    let in_head = has two (second (entry_state k) two []) in
    (entry_fine names k in_head, (right_head_fine names k in_head next, tt))

left_is_round : IsRound left_round
left_is_round = record {
  begins = λ k. first (entry_state k) (head k (body_name k) (take_summand k ∷ []) ∷ body_state k ∷ []);
  short = λ k. omega arith;
  rises = left_rises;
  fine = left_fine;
}

right_is_round : IsRound right_round
right_is_round = record {
  begins = λ k. first (entry_state k) (head k (head_name k) (take_summand k ∷ add_to_sum (summand k) ∷ count_down ∷ []) ∷ []);
  short = λ k. omega arith;
  rises = right_rises;
  fine = right_fine;
}

pub is_round : (side : Side) → IsRound (round_of side)
is_round Left = left_is_round
is_round Right = right_is_round
