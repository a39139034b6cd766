-- The parts of both machines break no rule.
use Rattle.std.proofs.Common.{◌≡◌, ℕ, zero, suc, ◌+◌, ◌*◌, ◌<◌, ◌≤◌, Bool, true, false, List, [], ◌∷◌, ◌++◌, length, refl, sym, ◌∙◌, ap, subst, eqb, arith}
use Rattle.std.proofs.Common.{append_assoc, length-append, inl, inr}
use Rattle.std.specs.Prelude.{Some, not, ◌||◌, nat_lt, slice_get, IsTrue}
use Rattle.std.specs.List.{AllByRecursion, list_all, flat_map, range_with_len}
use Rattle.std.proofs.lemmas.Bool.{cases_lt}
use Rattle.std.proofs.lemmas.Bool.Decides.{nat_tests, Decides-eqb}
use Rattle.fs_model.proofs.Booleans.{or_true}
use Rattle.fs_model.proofs.Quantifiers.{each_weaker, each_append, each_at}
use Rattle.fs_model.proofs.Lists.{element_at, slice_get-of_map, length_map}
use Rattle.fs_model.specs.Limits.{most_states, most_variables}
use Rattle.fs_model.specs.Machines.{Fsmd, transitions_of}
use Rattle.fs_model.specs.Source.{SourceState, Source}
use Rattle.fs_model.specs.WellFormed.{is_well_formed_state, is_well_formed}
use Rattle.fs_model.specs.Trees.{branches_of}
use Rattle.fs_rules.specs.declared.check.CheckRule.TheVariants.{TooManyBranches}
use Rattle.fs_rules.specs.declared.check.CheckFault.{CheckFault}
use Rattle.fs_rules.specs.MachineOfParts.{variables_of, names_of, state_names, state_spelled, place_or_end, machine_of}
use Rattle.fs_model.specs.SoundMachines.{branch_count, is_cutpoint, reaches_cutpoint, first_transition_target}
use Rattle.fs_rules.specs.Rules.{repeated_lines, line_past_limit, declared_names, declared_states, state_faults, branches_too_often, broken_where, plain_faults}
use Rattle.fs_rules.specs.Rules.{branch_faults}
use Rattle.fs_rules.specs.Rules.{BreaksNoRule}
use Rattle.fs_rules.proofs.Unbroken.{none_past}
use Rattle.fs_ast.proofs.Kept.{lawful}
use Rattle.fs_generated.specs.Generated.{declarations, entry_name, entry_state, last_state, generated_states, source}
use Rattle.fs_generated.proofs.Lists.{Has, first, has_front, has_back, has_made, has_map, all_made, flat_none, index_map, place_at, place_low}
use Rattle.fs_generated.proofs.Ranks.{Rises, none_repeated, entry_rank}
use Rattle.fs_generated.proofs.Rounds.{variables, spelled, forks, is_head, Forks, ToHead, ToReset, IsFine, IsRound, last_fine}

-- ---- which states there are

has_state : (round : ℕ → List SourceState) (n k : ℕ) (s : SourceState) → k < n → Has (round k) s → Has (state_names (generated_states round n)) s.name
has_state round n k s h x =
    has_map (λ t. t.name) (generated_states round n) s
    (has_front (flat_map round (range_with_len 0 n)) (last_state n ∷ []) s (has_made round 0 n k s (omega arith) (omega arith) x))

has_entry : (round : ℕ → List SourceState) → IsRound round → (n k : ℕ) → k ≤ n → Has (state_names (generated_states round n)) (entry_name k)
has_entry round r n k h =
    elim (cases_lt k n) as (λ _. Has (state_names (generated_states round n)) (entry_name k)) [
      | inl less ↦ has_state round n k (entry_state k) less (r.begins k)
      | inr more ↦
          let same : n ≡ k = omega arith in
          subst (λ m. Has (state_names (generated_states round n)) (entry_name m)) same
          (has_map (λ t. t.name) (generated_states round n) (last_state n)
          (has_back (flat_map round (range_with_len 0 n)) (last_state n ∷ []) (last_state n) (first (last_state n) [])))
    ]

all_fine : (round : ℕ → List SourceState) → IsRound round → (n : ℕ)
    → AllByRecursion (IsFine (state_names (generated_states round n))) (generated_states round n)
all_fine round r n =
    let names = state_names (generated_states round n) in
    each_append (IsFine names) (flat_map round (range_with_len 0 n)) (last_state n ∷ [])
    (all_made (IsFine names) round 0 n
    (λ k low high. r.fine names k (λ s x. has_state round n k s (omega arith) x) (has_entry round r n (k + 1) (omega arith))))
    (last_fine names n (has_entry round r n 0 (omega arith)), tt)

few_states : (round : ℕ → List SourceState) → IsRound round → (a n : ℕ) → length (flat_map round (range_with_len a n)) ≤ 3 * n
few_states round r a zero = omega arith
few_states round r a (suc n) =
    let one = r.short a in
    let rest = few_states round r (a + 1) n in
    omega (arith, length-append (round a) (flat_map round (range_with_len (a + 1) n)))

rise : (round : ℕ → List SourceState) → IsRound round → (a n m : ℕ) → m ≡ a + n → m ≤ 300
    → Rises (3 * a) (declared_states (flat_map round (range_with_len a n) ++ last_state m ∷ []))
rise round r a zero m e h = let own = entry_rank m (omega arith) in (omega arith, tt)
rise round r a (suc n) m e h =
    let rest = flat_map round (range_with_len (a + 1) n) ++ last_state m ∷ [] in
    let three : 3 * (a + 1) ≡ 3 * a + 3 = omega arith in
    let up : Rises (3 * a + 3) (declared_states rest) = subst (λ q. Rises q (declared_states rest)) three (rise round r (a + 1) n m (omega arith) h) in
    subst (λ ss. Rises (3 * a) (declared_states ss)) (sym (append_assoc (round a) (flat_map round (range_with_len (a + 1) n)) (last_state m ∷ [])))
    (r.rises a rest (omega arith) up)

-- ---- no rule is broken

all_formed : (names : List (List ℕ)) (ss : List SourceState) → AllByRecursion (IsFine names) ss → list_all is_well_formed_state ss ≡ true
all_formed names [] all = refl
all_formed names (s ∷ ss) all = rw all.0.formed (all_formed names ss all.1)

plain_none : (p : Source) → repeated_lines [] (declared_names p.declarations) ≡ [] → line_past_limit most_variables (declared_names p.declarations) ≡ []
    → repeated_lines [] (declared_states p.states) ≡ [] → line_past_limit most_states (declared_states p.states) ≡ []
    → nat_lt (place_or_end (state_names p.states) p.reset) (length p.states) ≡ true
    → flat_map (state_faults (variables_of p.declarations) (state_names p.states)) p.states ≡ [] → plain_faults p ≡ []
plain_none p a b c d e f = rw (a, b, c, d, e, f) refl

plain : (round : ℕ → List SourceState) → IsRound round → (n : ℕ) → n ≤ 300 → plain_faults (source round n) ≡ []
plain round r n h =
    let ss = generated_states round n in
    let names = state_names ss in
    let count : length (declared_states ss) ≡ length ss = length_map (λ s. (s.line, s.name)) ss in
    let sum = length-append (flat_map round (range_with_len 0 n)) (last_state n ∷ []) in
    let few = few_states round r 0 n in
    let reset : place_or_end names (entry_name 0) < length names = place_low names (entry_name 0) (has_entry round r n 0 (omega arith)) in
    let same : length names ≡ length ss = length_map (λ s. s.name) ss in
    let inside : place_or_end names (entry_name 0) < length ss = omega arith in
    plain_none (source round n) refl refl (none_repeated [] (declared_states ss) 0 tt (rise round r 0 n n (omega arith) h))
    (none_past most_states (declared_states ss) (omega arith))
    (grind (arith, nat_tests))
    (flat_none (state_faults variables names) ss
    (each_weaker (IsFine names) (λ s. state_faults variables names s ≡ []) ss (λ s f. f.faultless) (all_fine round r n)))

one_branchless : (names : List (List ℕ)) (s : SourceState) → branches_too_often (names_of variables) names s ≡ false
    → broken_where (branches_too_often (names_of variables) names s) TooManyBranches s.line ≡ []
one_branchless names s e = ap (λ b. broken_where b TooManyBranches s.line) e

branches : (round : ℕ → List SourceState) → IsRound round → (n : ℕ) → branch_faults (source round n) ≡ []
branches round r n =
    let ss = generated_states round n in
    let names = state_names ss in
    let faults : SourceState → List CheckFault = λ s. broken_where (branches_too_often (names_of variables) names s) TooManyBranches s.line in
    flat_none faults ss (each_weaker (IsFine names) (λ s. faults s ≡ []) ss (λ s f. one_branchless names s f.few) (all_fine round r n))

-- ---- a cutpoint comes within a step

cut_here : (m : Fsmd) (n q : ℕ) → is_cutpoint m q ≡ true → reaches_cutpoint m n q ≡ true
cut_here m zero q h = h
cut_here m (suc n) q h = ap (λ b. b || reaches_cutpoint m n (first_transition_target (transitions_of m q))) h

cut_next : (m : Fsmd) (n q : ℕ) → 0 < n → is_cutpoint m (first_transition_target (transitions_of m q)) ≡ true → reaches_cutpoint m n q ≡ true
cut_next m zero q some h = absurd (omega arith)
cut_next m (suc n) q some h = ap (λ b. is_cutpoint m q || b) (cut_here m n (first_transition_target (transitions_of m q)) h) ∙ or_true (is_cutpoint m q)

lines_at : (round : ℕ → List SourceState) (n q : ℕ) (s : SourceState) → slice_get (generated_states round n) q ≡ Some s
    → transitions_of (machine_of (source round n)) q ≡ spelled (state_names (generated_states round n)) s
lines_at round n q s e =
    ap (λ t. t.transitions)
    (index_map (state_spelled (names_of variables) (state_names (generated_states round n)))
    (generated_states round n) q s (record { name = []; transitions = [] }) e)

forked : (round : ℕ → List SourceState) (n q : ℕ) (s : SourceState) → slice_get (generated_states round n) q ≡ Some s
    → forks (state_names (generated_states round n)) s ≡ true → is_cutpoint (machine_of (source round n)) q ≡ true
forked round n q s e f =
    let own = eqb q (machine_of (source round n)).reset in
    ap (λ b. own || b) (ap (λ ls. nat_lt 1 (length (branches_of ls))) (lines_at round n q s e) ∙ f) ∙ or_true own

at_reset : (m : Fsmd) (q : ℕ) → q ≡ m.reset → is_cutpoint m q ≡ true
at_reset m q e = ap (λ b. b || nat_lt 1 (branch_count m q)) ((Decides-eqb q m.reset).1 e)

or_rest : (a b : Bool) → a ≡ true → (not a || b) ≡ true → b ≡ true
or_rest true b e h = h
or_rest false b e h = absurd (cc)

-- a state with the name of a head is one
head_cut : (round : ℕ → List SourceState) → IsRound round → (n : ℕ) (t : List ℕ) → Has (state_names (generated_states round n)) t → is_head t ≡ true
    → is_cutpoint (machine_of (source round n)) (place_or_end (state_names (generated_states round n)) t) ≡ true
head_cut round r n t x head =
    let ss = generated_states round n in
    let names = state_names ss in
    let q = place_or_end names t in
    let same : length names ≡ length ss = length_map (λ s. s.name) ss in
    let low : q < length names = place_low names t x in
    let inside : q < length ss = omega arith in
    let s = element_at ss q inside in
    let there_named : slice_get names q ≡ Some s.0.name = slice_get-of_map (λ w. w.name) ss q s.0 s.1 in
    let named : slice_get names q ≡ Some t = place_at names t x in
    let alike : s.0.name ≡ t = cc in
    let fine = each_at (IsFine names) ss q s.0 (all_fine round r n) s.1 in
    forked round n q s.0 s.1 (or_rest (is_head s.0.name) (forks names s.0) (ap is_head alike ∙ head) fine.head_forks)

cut : (round : ℕ → List SourceState) → IsRound round → (n q : ℕ) → q < length (generated_states round n)
    → reaches_cutpoint (machine_of (source round n)) (length (generated_states round n)) q ≡ true
cut round r n q h =
    let ss = generated_states round n in
    let names = state_names ss in
    let m = machine_of (source round n) in
    let s = element_at ss q h in
    let some : 0 < length ss = omega arith in
    let target : first_transition_target (transitions_of m q) ≡ first_transition_target (spelled names s.0) =
    ap first_transition_target (lines_at round n q s.0 s.1) in
    elim ((each_at (IsFine names) ss q s.0 (all_fine round r n) s.1).leads) as (λ _. reaches_cutpoint m (length ss) q ≡ true) [
      | Forks f ↦ cut_here m (length ss) q (forked round n q s.0 s.1 f)
      | ToHead t x head e ↦ cut_next m (length ss) q some (ap (is_cutpoint m) (target ∙ e) ∙ head_cut round r n t x head)
      | ToReset e ↦ cut_next m (length ss) q some (at_reset m (first_transition_target (transitions_of m q)) (target ∙ e))
    ]

pub lawful_source : (round : ℕ → List SourceState) → IsRound round → (n : ℕ) → n ≤ 300 → BreaksNoRule (source round n)
lawful_source round r n h = lawful (source round n) (plain round r n h) (branches round r n) (cut round r n)

pub formed_source : (round : ℕ → List SourceState) → IsRound round → (n : ℕ) → is_well_formed (source round n) ≡ true
formed_source round r n = all_formed (state_names (generated_states round n)) (generated_states round n) (all_fine round r n)

-- parts with these states are those of the machine
pub formed_as : (round : ℕ → List SourceState) → IsRound round → (n : ℕ) (p : Source) (ss : List SourceState)
    → p ≡ record { declarations = declarations; reset_line = 1; reset = entry_name 0; states = ss } → ss ≡ generated_states round n
    → IsTrue (is_well_formed p)
formed_as round r n p ss e f = let same : p ≡ source round n = e
    ∙ ap (λ x. record { declarations = declarations; reset_line = 1; reset = entry_name 0; states = x }) f in
    subst (λ q. IsTrue (is_well_formed q)) (sym same) (formed_source round r n)

pub lawful_as : (round : ℕ → List SourceState) → IsRound round → (n : ℕ) (p : Source) (ss : List SourceState)
    → p ≡ record { declarations = declarations; reset_line = 1; reset = entry_name 0; states = ss } → ss ≡ generated_states round n
    → n ≤ 300 → BreaksNoRule p
lawful_as round r n p ss e f h = let same : p ≡ source round n = e
    ∙ ap (λ x. record { declarations = declarations; reset_line = 1; reset = entry_name 0; states = x }) f in
    subst BreaksNoRule (sym same) (lawful_source round r n h)
