-- Walks over the states of a machine.
use Rattle.std.proofs.Common.{◌≡◌, ℕ, zero, suc, ◌+◌, ◌<◌, ◌≤◌, Bool, true, List, [], ◌∷◌, ◌++◌, length, get_or, refl, sym, ◌∙◌, ap, ap₂, subst, arith, ⊎_elim}
use Rattle.std.specs.Prelude.{◌||◌, ◌==◌, nat_lt, Option, Some, None, map, slice_get, slice_index}
use Rattle.std.specs.List.{list_all}
use Rattle.std.specs.Option.{option_to_list}
use Rattle.std.proofs.lemmas.Bool.{cases_eq, and_parts, ltb-true}
use Rattle.fs_model.proofs.Lists.{length_map}
use Rattle.fs_model.specs.Machines.{State, Fsmd, transitions_of}
use Rattle.fs_model.specs.Trees.{tree_of_transitions, branches_of, count_leaves}
use Rattle.fs_rules.specs.declared.check.CheckRule.TheVariants.{EndlessLine}
use Rattle.fs_rules.specs.declared.check.CheckFault.{CheckFault}
use Rattle.fs_branches.specs.declared.resolve.State.{State as NumberedState}
use Rattle.fs_model.specs.SoundMachines.{first_transition_target, branch_count, is_cutpoint, reaches_cutpoint}
use Rattle.fs_rules.specs.Rules.{at_lines, after_steps, IsEndless}
use Rattle.fs_branches.specs.NumberedParts.{resolved_state, state_with_line}
use Rattle.fs_rules.specs.TargetWalks.{state_after_walk, is_cut, walk_reaches_cut, IsRound, IsTargetList}
use Rattle.fs_ast.specs.Shapes.{skeleton, forked_faults, endless_faults, LeadOn, IsFirstOfShapes}
use Rattle.fs_rules.specs.FirstFault.{earliest}
use Rattle.fs_branches.proofs.Leaves.{length_leaves}
use Rattle.fs_ast.proofs.Kept.{forks_at_cutpoint, passes_no_cutpoint}

-- the line of a state
pub line_there : (states : List NumberedState) (q : ℕ) (x : NumberedState) → q < length states → x ≡ get_or states q x
    → slice_get (map (λ s. s.0) (map state_with_line states)) q ≡ Some x.line
line_there [] q x h e = absurd (omega arith)
line_there (y ∷ ys) zero x h e = ap (λ s. Some s.line) (sym e)
line_there (y ∷ ys) (suc q) x h e = line_there ys q x (omega arith) e

pub line_past : (states : List NumberedState) (q : ℕ) → length states ≤ q → slice_get (map (λ s. s.0) (map state_with_line states)) q ≡ None
line_past [] q h = refl
line_past (y ∷ ys) zero h = absurd (omega arith)
line_past (y ∷ ys) (suc q) h = line_past ys q (omega arith)

pub endless_one : (ss : List (ℕ × State)) (q : ℕ) (o : Option ℕ) → slice_get (map (λ s. s.0) ss) q ≡ o
    → endless_faults ss (q ∷ []) ≡ at_lines EndlessLine (option_to_list o ++ [])
endless_one ss q o e = ap (λ l. at_lines EndlessLine (option_to_list l ++ [])) e

-- the transitions of a state
pub lines_there : (states : List NumberedState) (reset q : ℕ) (x : NumberedState) → q < length states → x ≡ get_or states q x
    → transitions_of (skeleton (map state_with_line states) reset) q ≡ (resolved_state x).transitions
lines_there [] reset q x h e = absurd (omega arith)
lines_there (y ∷ ys) reset zero x h e = ap (λ s. (resolved_state s).transitions) (sym e)
lines_there (y ∷ ys) reset (suc q) x h e = lines_there ys reset q x (omega arith) e

push_at : (bs : List Bool) (b : Bool) → is_cut (bs ++ b ∷ []) (length bs) ≡ b
push_at [] b = refl
push_at (c ∷ bs) b = push_at bs b

push_before : (bs : List Bool) (b : Bool) (q : ℕ) → q < length bs → is_cut (bs ++ b ∷ []) q ≡ is_cut bs q
push_before [] b q h = absurd (omega arith)
push_before (c ∷ bs) b zero h = refl
push_before (c ∷ bs) b (suc q) h = push_before bs b q (omega arith)

-- one more cut
pub cut_more : (states : List NumberedState) (reset place : ℕ) (x : NumberedState) (old new : List Bool) (b : Bool) → place < length states
    → x ≡ get_or states place x → length old ≡ place
    → ((q : ℕ) → q < place → is_cut old q ≡ is_cutpoint (skeleton (map state_with_line states) reset) q) → new ≡ old ++ b ∷ []
    → b ≡ (place == reset || nat_lt 1 (count_leaves (tree_of_transitions (resolved_state x).transitions)))
    → (q : ℕ) → q < place + 1 → is_cut new q ≡ is_cutpoint (skeleton (map state_with_line states) reset) q
cut_more states reset place x old new b h e count before put is q inside =
    let m = skeleton (map state_with_line states) reset in
    ⊎_elim
    (λ at.
    let branches : branch_count m place ≡ count_leaves (tree_of_transitions (resolved_state x).transitions) =
    ap (λ ls. length (branches_of ls)) (lines_there states reset place x h e) ∙ length_leaves (tree_of_transitions (resolved_state x).transitions) [] in
    ap₂ is_cut put at ∙ ap (is_cut (old ++ b ∷ [])) (sym count) ∙ push_at old b ∙ is ∙ ap (λ n. place == reset || nat_lt 1 n) (sym branches)
    ∙ ap (is_cutpoint m) (sym at))
    (λ apart. let low : q < length old = omega arith in ap (λ l. is_cut l q) put ∙ push_before old b q low ∙ before q (omega arith))
    (cases_eq q place)

-- where first transitions lead
next_at : (states : List NumberedState) (reset q : ℕ)
    → slice_index (map (λ s. first_transition_target (resolved_state s).transitions) states) q
    ≡ first_transition_target (transitions_of (skeleton (map state_with_line states) reset) q)
next_at [] reset q = refl
next_at (y ∷ ys) reset zero = refl
next_at (y ∷ ys) reset (suc q) = next_at ys reset q

-- a walk over the lists of a machine is one of the machine
pub reach_same : (m : Fsmd) (next : List ℕ) (cut : List Bool) (count : ℕ) → ((q : ℕ) → slice_index next q ≡ first_transition_target (transitions_of m q))
    → ((q : ℕ) → q < count → is_cut cut q ≡ is_cutpoint m q)
    → ((q : ℕ) → q < count → slice_index next q < count) → (n q : ℕ) → q < count → walk_reaches_cut next cut n q ≡ reaches_cutpoint m n q
reach_same m next cut count leads cuts within zero q h = cuts q h
reach_same m next cut count leads cuts within (suc n) q h =
    ap₂ (λ (a b : Bool). a || b) (cuts q h)
    (reach_same m next cut count leads cuts within n (slice_index next q) (within q h) ∙ ap (reaches_cutpoint m n) (leads q))

pub graph_of : (states : List NumberedState) (next : List ℕ) (cut : List Bool) → next ≡ map (λ s. first_transition_target (resolved_state s).transitions) states
    → length cut ≡ length states → LeadOn (map state_with_line states) → IsTargetList next cut
graph_of states next cut e count lead =
    let same : length next ≡ length states = ap length e ∙ length_map (λ s. first_transition_target (resolved_state s).transitions) states in
    let placed : length (map state_with_line states) ≡ length states = length_map state_with_line states in
    record {
      same = count ∙ sym same;
      leads = λ q h.
          let inside : q < length (map state_with_line states) = omega arith in
          let to : slice_index next q ≡ first_transition_target (transitions_of (skeleton (map state_with_line states) 0) q) = ap (λ l. slice_index l q) e
          ∙ next_at states 0 q in
          let low = lead q inside in
          omega arith;
    }

pub leads_of : (states : List NumberedState) (reset : ℕ) (next : List ℕ) → next ≡ map (λ s. first_transition_target (resolved_state s).transitions) states
    → (q : ℕ)
    → slice_index next q ≡ first_transition_target (transitions_of (skeleton (map state_with_line states) reset) q)
leads_of states reset next e q = ap (λ l. slice_index l q) e ∙ next_at states reset q

-- the steps of a machine and of its lists
steps_same : (m : Fsmd) (next : List ℕ) → ((q : ℕ) → slice_index next q ≡ first_transition_target (transitions_of m q)) → (n q : ℕ)
    → after_steps m n q ≡ state_after_walk next n q
steps_same m next leads zero q = refl
steps_same m next leads (suc n) q = steps_same m next leads n (first_transition_target (transitions_of m q)) ∙ ap (state_after_walk next n) (sym (leads q))

stays : (next : List ℕ) (count : ℕ) → ((q : ℕ) → q < count → slice_index next q < count) → (n q : ℕ) → q < count → state_after_walk next n q < count
stays next count within zero q h = h
stays next count within (suc n) q h = stays next count within n (slice_index next q) (within q h)

all_at : (p : ℕ → Bool) (xs : List ℕ) (k x : ℕ) → list_all p xs ≡ true → slice_get xs k ≡ Some x → p x ≡ true
all_at p [] k x e at = absurd (cc)
all_at p (y ∷ xs) zero x e at = let same : y ≡ x = cc in ap p (sym same) ∙ (and_parts (p y) (list_all p xs) e).0
all_at p (y ∷ xs) (suc k) x e at = all_at p xs k x (and_parts (p y) (list_all p xs) e).1 at

endless_of : (m : Fsmd) (next : List ℕ) (cut : List Bool) (count : ℕ) → ((q : ℕ) → slice_index next q ≡ first_transition_target (transitions_of m q))
    → ((q : ℕ) → q < count → is_cut cut q ≡ is_cutpoint m q) → ((q : ℕ) → q < count → slice_index next q < count)
    → (q : ℕ) → nat_lt q count ≡ true → IsRound next cut q → IsEndless m q
endless_of m next cut count leads cuts within q inside r = record {
  steps = r.steps;
  some = r.some;
  back = steps_same m next leads r.steps q ∙ r.back;
  uncut = λ k. forks_at_cutpoint m (after_steps m k q) ∙ ap (is_cutpoint m) (steps_same m next leads k q)
      ∙ sym (cuts (state_after_walk next k q) (stays next count within k q (ltb-true q count inside))) ∙ r.uncut k;
}

round_of : (m : Fsmd) (next : List ℕ) (cut : List Bool) (count : ℕ) → ((q : ℕ) → slice_index next q ≡ first_transition_target (transitions_of m q))
    → ((q : ℕ) → q < count → is_cut cut q ≡ is_cutpoint m q) → ((q : ℕ) → q < count → slice_index next q < count)
    → (q : ℕ) → q < count → IsEndless m q → IsRound next cut q
round_of m next cut count leads cuts within q low r = record {
  steps = r.steps;
  some = r.some;
  back = sym (steps_same m next leads r.steps q) ∙ r.back;
  uncut = λ k. cuts (state_after_walk next k q) (stays next count within k q low) ∙ sym (ap (is_cutpoint m) (steps_same m next leads k q))
      ∙ passes_no_cutpoint m q r k;
}

pub shapes_of : (states : List NumberedState) (reset : ℕ) (next : List ℕ) (cut : List Bool) (endless : List ℕ) (first : Option CheckFault)
    → next ≡ map (λ s. first_transition_target (resolved_state s).transitions) states → length cut ≡ length states
    → ((q : ℕ) → q < length states → is_cut cut q ≡ is_cutpoint (skeleton (map state_with_line states) reset) q) → LeadOn (map state_with_line states)
    → list_all (λ q. nat_lt q (length next)) endless ≡ true → ((k q : ℕ) → slice_get endless k ≡ Some q → IsRound next cut q)
    → ((q : ℕ) → q < length next → IsRound next cut q → (k : ℕ) × (slice_get endless k ≡ Some q))
    → (length endless ≡ 0 → (q : ℕ) → q < length next → walk_reaches_cut next cut (length next) q ≡ true)
    → first ≡ earliest (earliest None (forked_faults (map state_with_line states))) (endless_faults (map state_with_line states) endless)
    → IsFirstOfShapes (map state_with_line states) reset first
shapes_of states reset next cut endless first e count cuts lead inside rounds all reach is =
    let ss = map state_with_line states in
    let m = skeleton ss reset in
    let g = graph_of states next cut e count lead in
    let same : length next ≡ length ss = ap length e ∙ length_map (λ s. first_transition_target (resolved_state s).transitions) states
    ∙ sym (length_map state_with_line states) in
    let placed : length ss ≡ length states = length_map state_with_line states in
    let to = leads_of states reset next e in
    let cut_at : (k : ℕ) → k < length next → is_cut cut k ≡ is_cutpoint m k = λ k l. cuts k (omega arith) in
    record {
      endless = endless;
      rounds = λ k q at. endless_of m next cut (length next) to cut_at g.leads q (all_at (λ x. nat_lt x (length next)) endless k q inside at) (rounds k q at);
      all = λ q h r. let low : q < length next = omega arith in all q low (round_of m next cut (length next) to cut_at g.leads q low r);
      inside = subst (λ n. list_all (λ q. nat_lt q n) endless ≡ true) same inside;
      ends = λ none q h.
          let low : q < length next = omega arith in
          ap (λ n. reaches_cutpoint m n q) (sym same)
          ∙ sym (reach_same m next cut (length next) (leads_of states reset next e) (λ k l. cuts k (omega arith)) g.leads (length next) q low)
          ∙ reach none q low;
      is_first = is;
    }
