-- Lines are in no machine and in no rule.
use Rattle.std.proofs.Common.{◌≡◌, ℕ, List, [], ◌∷◌, ◌++◌, length, take, drop, map, refl, sym, ap, ap₂, subst, ◌∙◌, cond}
use Rattle.std.specs.Prelude.{Bool, true, false, not, nat_lt, Option, Some, None, option_map, is_some, slice_get}
use Rattle.std.specs.List.{flat_map, list_any}
use Rattle.std.specs.Str.{bytes_eq}
use Rattle.std.proofs.lemmas.List.{drop-map, take-map, map-append}
use Rattle.std.proofs.lemmas.Option.{slice_get-map}
use Rattle.fs_model.proofs.Lists.{length_map, map_map}
use Rattle.fs_model.specs.declared.parts.VarInfo.{VarInfo}
use Rattle.fs_model.specs.Limits.{most_variables, most_states, most_branches, most_emits}
use Rattle.fs_model.specs.Expressions.{Transition}
use Rattle.fs_model.specs.Source.{Declaration, SourceTransition, SourceState, Source}
use Rattle.fs_model.specs.Machines.{State, Fsmd}
use Rattle.fs_model.specs.Trees.{tree_of_transitions, count_leaves}
use Rattle.fs_rules.specs.declared.check.CheckRule.{CheckRule}
use Rattle.fs_rules.specs.declared.check.CheckRule.TheVariants.{TwiceNamed, UnknownName, WrongSort, AssignInput, AssignedTwice, NoElse, AfterElse}
use Rattle.fs_rules.specs.declared.check.CheckRule.TheVariants.{TooManyBranches, UnknownState, TooMany, TooManyEmits}
use Rattle.fs_rules.specs.declared.check.CheckFault.{CheckFault}
use Rattle.fs_rules.specs.MachineOfParts.{place_or_end, declared_by, variables_of, names_of, state_names, transition_spelled, state_spelled, machine_of}
use Rattle.fs_model.specs.SoundMachines.{all_differ, assigned_in, emit_count}
use Rattle.fs_rules.specs.Rules.{at_lines, broken_where, declared_names, declared_states, repeated_lines, line_past_limit, uses_unknown, uses_wrong_sort}
use Rattle.fs_rules.specs.Rules.{changes_input}
use Rattle.fs_rules.specs.Rules.{transition_faults, lacks_else, after_else, transitions_faults, state_faults, plain_faults, branches_too_often, branch_faults}
use Rattle.fs_rules.specs.Rules.{IsEndless}
use Rattle.fs_rules.specs.Rules.{EndlessAt, BreaksNoRule}
use Rattle.fs_rules.proofs.Turns.{flat_map_map}
use Rattle.fs_write.specs.CanonicalLines.{declaration_at_line_0, transition_at_line_0, state_at_line_0, without_lines}
use Rattle.fs_write.specs.CommentLines.{declaration_moved, transition_moved, state_moved, lines_moved}

-- ---- the machine

variables_stay : (ds : List Declaration) → variables_of (map declaration_at_line_0 ds) ≡ variables_of ds
variables_stay ds = flat_map_map declared_by declaration_at_line_0 ds

names_stay : (ss : List SourceState) → state_names (map state_at_line_0 ss) ≡ state_names ss
names_stay ss = map_map (λ (s : SourceState). s.name) state_at_line_0 ss

lines_stay : (vs ns : List (List ℕ)) (ls : List SourceTransition)
    → map (transition_spelled vs ns) (map transition_at_line_0 ls) ≡ map (transition_spelled vs ns) ls
lines_stay vs ns ls = map_map (transition_spelled vs ns) transition_at_line_0 ls

states_stay : (vs ns : List (List ℕ)) (ss : List SourceState) → map (state_spelled vs ns) (map state_at_line_0 ss) ≡ map (state_spelled vs ns) ss
states_stay vs ns [] = refl
states_stay vs ns (s ∷ ss) = ap₂ (λ (ls : List (Transition ℕ ℕ)) (rest : List State). record { name = s.name; transitions = ls } ∷ rest)
    (lines_stay vs ns s.transitions)
    (states_stay vs ns ss)

-- the machine of these variables and names of states
abbrev machine_with : List VarInfo → List (List ℕ) → Source → List State → Fsmd
machine_with vs ns s qs = record { variables = vs; reset = place_or_end ns s.reset; states = qs }

unlined_machine : (s : Source) → machine_of (without_lines s) ≡ machine_of s
unlined_machine s =
    let vs = variables_of s.declarations in
    let ns = state_names s.states in
    ap₂ (λ (ws : List VarInfo) (ms : List (List ℕ)). machine_with ws ms s (map (state_spelled (names_of ws) ms) (map state_at_line_0 s.states)))
    (variables_stay s.declarations) (names_stay s.states)
    ∙ ap (machine_with vs ns s) (states_stay (names_of vs) ns s.states)

-- parts that are the same but for lines spell one machine
pub same_machine : (s r : Source) → without_lines r ≡ without_lines s → machine_of r ≡ machine_of s
same_machine s r e = sym (unlined_machine r) ∙ ap machine_of e ∙ unlined_machine s

-- ---- broken rules without their lines

abbrev at_line_0 : CheckFault → CheckFault
at_line_0 f = record { rule = f.rule; line = 0 }

abbrev unlined : List CheckFault → List CheckFault
unlined fs = map at_line_0 fs

none_left : (fs : List CheckFault) → unlined fs ≡ [] → fs ≡ []
none_left [] e = refl
none_left (f ∷ fs) e = absurd cc

both_unlined : (a b c d : List CheckFault) → a ≡ unlined c → b ≡ unlined d → a ++ b ≡ unlined (c ++ d)
both_unlined a b c d e g = ap₂ (λ (x y : List CheckFault). x ++ y) e g ∙ sym (map-append at_line_0 c d)

flat_unlined : {A : Type 0} (f g : A → List CheckFault) → ((x : A) → f x ≡ unlined (g x)) → (xs : List A) → flat_map f xs ≡ unlined (flat_map g xs)
flat_unlined f g h [] = refl
flat_unlined f g h (x ∷ xs) = both_unlined (f x) (flat_map f xs) (g x) (flat_map g xs) (h x) (flat_unlined f g h xs)

one_unlined : (t : Bool) (rule : CheckRule) (n : ℕ) → broken_where t rule 0 ≡ unlined (broken_where t rule n)
one_unlined true rule n = refl
one_unlined false rule n = refl

same_unlined : (t u : Bool) (rule : CheckRule) (n : ℕ) → t ≡ u → broken_where t rule 0 ≡ unlined (broken_where u rule n)
same_unlined t u rule n e = ap (λ (b : Bool). broken_where b rule 0) e ∙ one_unlined u rule n

-- ---- rules at lines

abbrev zero_for : ℕ → ℕ
zero_for n = 0

lines_unlined : (rule : CheckRule) (ks : List ℕ) → at_lines rule (map zero_for ks) ≡ unlined (at_lines rule ks)
lines_unlined rule ks =
    map_map {C = CheckFault} (λ (n : ℕ). record { rule = rule; line = n }) zero_for ks
    ∙ sym (map_map at_line_0 (λ (n : ℕ). record { rule = rule; line = n }) ks)

listed_unlined : (rule : CheckRule) (ks js : List ℕ) → ks ≡ map zero_for js → at_lines rule ks ≡ unlined (at_lines rule js)
listed_unlined rule ks js e = ap (at_lines rule) e ∙ lines_unlined rule js

-- ---- names with their lines

abbrev named_at_0 : ℕ × List ℕ → ℕ × List ℕ
named_at_0 n = (0, n.1)

abbrev on_line : ℕ → List ℕ → ℕ × List ℕ
on_line n name = (n, name)

declared_unlined : (ds : List Declaration) → declared_names (map declaration_at_line_0 ds) ≡ map named_at_0 (declared_names ds)
declared_unlined [] = refl
declared_unlined (d ∷ ds) =
    ap₂ (λ (a b : List (ℕ × List ℕ)). a ++ b) (sym (map_map named_at_0 (on_line d.line) d.names)) (declared_unlined ds)
    ∙ sym (map-append named_at_0 (map (on_line d.line) d.names) (declared_names ds))

stated_unlined : (ss : List SourceState) → declared_states (map state_at_line_0 ss) ≡ map named_at_0 (declared_states ss)
stated_unlined ss =
    map_map {C = ℕ × List ℕ} (λ (s : SourceState). (s.line, s.name)) state_at_line_0 ss ∙ sym (map_map named_at_0 (λ (s : SourceState). (s.line, s.name)) ss)

repeated_by : (t : Bool) (n : ℕ) (ks js : List ℕ) → ks ≡ map zero_for js → cond t (0 ∷ ks) ks ≡ map zero_for (cond t (n ∷ js) js)
repeated_by true n ks js e = ap (λ (l : List ℕ). 0 ∷ l) e
repeated_by false n ks js e = e

repeated_unlined : (before : List (List ℕ)) (ns : List (ℕ × List ℕ)) → repeated_lines before (map named_at_0 ns) ≡ map zero_for (repeated_lines before ns)
repeated_unlined before [] = refl
repeated_unlined before (n ∷ ns) =
    repeated_by (list_any (λ m. bytes_eq m n.1) before) n.0 (repeated_lines (n.1 ∷ before) (map named_at_0 ns)) (repeated_lines (n.1 ∷ before) ns)
    (repeated_unlined (n.1 ∷ before) ns)

past_unlined : (most : ℕ) (ns : List (ℕ × List ℕ)) → line_past_limit most (map named_at_0 ns) ≡ map zero_for (line_past_limit most ns)
past_unlined most ns =
    let line : ℕ × List ℕ → ℕ = λ n. n.0 in
    ap (λ (l : List (ℕ × List ℕ)). map line (take 1 l)) (drop-map named_at_0 most ns) ∙ ap (map line) (take-map named_at_0 1 (drop most ns))
    ∙ map_map line named_at_0 (take 1 (drop most ns)) ∙ sym (map_map zero_for line (take 1 (drop most ns)))

-- ---- transitions and states

transition_unlined : (vs : List VarInfo) (count n : ℕ) (l : Transition ℕ ℕ) → transition_faults vs count 0 l ≡ unlined (transition_faults vs count n l)
transition_unlined vs count n l =
    both_unlined _ _ _ _ (one_unlined (uses_unknown vs l) UnknownName n)
    (both_unlined _ _ _ _ (one_unlined (uses_wrong_sort vs l) WrongSort n)
    (both_unlined _ _ _ _ (one_unlined (changes_input vs l) AssignInput n)
    (both_unlined _ _ _ _ (one_unlined (not (all_differ (assigned_in l.assignments))) AssignedTwice n)
    (both_unlined _ _ _ _ (one_unlined (not (nat_lt l.target count)) UnknownState n)
    (one_unlined (nat_lt most_emits (emit_count l.assignments)) TooManyEmits n)))))

lacks_unlined : (ls : List SourceTransition) → lacks_else (map transition_at_line_0 ls) ≡ lacks_else ls
lacks_unlined [] = refl
lacks_unlined (l ∷ []) = refl
lacks_unlined (l ∷ k ∷ ls) = lacks_unlined (k ∷ ls)

after_unlined : (seen : Bool) (ls : List SourceTransition) → after_else seen (map transition_at_line_0 ls) ≡ map zero_for (after_else seen ls)
after_unlined seen [] = refl
after_unlined true (l ∷ ls) = ap (λ (ks : List ℕ). 0 ∷ ks) (after_unlined true ls)
after_unlined false (l ∷ ls) = after_unlined (not (is_some l.content.guard)) ls

transitions_unlined : (vs : List VarInfo) (ns : List (List ℕ)) (ls : List SourceTransition)
    → transitions_faults vs ns (map transition_at_line_0 ls) ≡ unlined (transitions_faults vs ns ls)
transitions_unlined vs ns ls =
    flat_map_map (λ (l : SourceTransition). transition_faults vs (length ns) l.line (transition_spelled (names_of vs) ns l)) transition_at_line_0 ls
    ∙ flat_unlined (λ (l : SourceTransition). transition_faults vs (length ns) 0 (transition_spelled (names_of vs) ns l))
    (λ (l : SourceTransition). transition_faults vs (length ns) l.line (transition_spelled (names_of vs) ns l))
    (λ l. transition_unlined vs (length ns) l.line (transition_spelled (names_of vs) ns l)) ls

state_unlined : (vs : List VarInfo) (ns : List (List ℕ)) (s : SourceState) → state_faults vs ns (state_at_line_0 s) ≡ unlined (state_faults vs ns s)
state_unlined vs ns s =
    both_unlined _ _ _ _ (same_unlined (lacks_else (map transition_at_line_0 s.transitions)) (lacks_else s.transitions) NoElse s.line
    (lacks_unlined s.transitions))
    (both_unlined _ _ _ _
    (listed_unlined AfterElse (after_else false (map transition_at_line_0 s.transitions)) (after_else false s.transitions) (after_unlined false s.transitions))
    (transitions_unlined vs ns s.transitions))

states_unlined : (vs : List VarInfo) (ns : List (List ℕ)) (ss : List SourceState)
    → flat_map (state_faults vs ns) (map state_at_line_0 ss) ≡ unlined (flat_map (state_faults vs ns) ss)
states_unlined vs ns ss =
    flat_map_map (state_faults vs ns) state_at_line_0 ss ∙ flat_unlined (λ (s : SourceState). state_faults vs ns (state_at_line_0 s)) (state_faults vs ns)
    (state_unlined vs ns) ss

-- ---- all rules

declarations_repeated : (ds : List Declaration) → repeated_lines [] (declared_names (map declaration_at_line_0 ds))
    ≡ map zero_for (repeated_lines [] (declared_names ds))
declarations_repeated ds = ap (repeated_lines []) (declared_unlined ds) ∙ repeated_unlined [] (declared_names ds)

declarations_past : (ds : List Declaration) → line_past_limit most_variables (declared_names (map declaration_at_line_0 ds))
    ≡ map zero_for (line_past_limit most_variables (declared_names ds))
declarations_past ds = ap (line_past_limit most_variables) (declared_unlined ds) ∙ past_unlined most_variables (declared_names ds)

states_repeated : (ss : List SourceState) → repeated_lines [] (declared_states (map state_at_line_0 ss)) ≡ map zero_for (repeated_lines [] (declared_states ss))
states_repeated ss = ap (repeated_lines []) (stated_unlined ss) ∙ repeated_unlined [] (declared_states ss)

states_past : (ss : List SourceState) → line_past_limit most_states (declared_states (map state_at_line_0 ss))
    ≡ map zero_for (line_past_limit most_states (declared_states ss))
states_past ss = ap (line_past_limit most_states) (stated_unlined ss) ∙ past_unlined most_states (declared_states ss)

reset_unknown : (s : Source) → not (nat_lt (place_or_end (state_names (map state_at_line_0 s.states)) s.reset) (length (map state_at_line_0 s.states)))
    ≡ not (nat_lt (place_or_end (state_names s.states) s.reset) (length s.states))
reset_unknown s = ap₂ (λ (ns : List (List ℕ)) (n : ℕ). not (nat_lt (place_or_end ns s.reset) n)) (names_stay s.states) (length_map state_at_line_0 s.states)

plain_unlined : (s : Source) → plain_faults (without_lines s) ≡ unlined (plain_faults s)
plain_unlined s =
    both_unlined _ _ _ _ (listed_unlined TwiceNamed _ (repeated_lines [] (declared_names s.declarations)) (declarations_repeated s.declarations))
    (both_unlined _ _ _ _ (listed_unlined TooMany _ (line_past_limit most_variables (declared_names s.declarations)) (declarations_past s.declarations))
    (both_unlined _ _ _ _ (listed_unlined TwiceNamed _ (repeated_lines [] (declared_states s.states)) (states_repeated s.states))
    (both_unlined _ _ _ _ (listed_unlined TooMany _ (line_past_limit most_states (declared_states s.states)) (states_past s.states))
    (both_unlined _ _ _ _
    (same_unlined _ (not (nat_lt (place_or_end (state_names s.states) s.reset) (length s.states))) UnknownState s.reset_line (reset_unknown s))
    (ap₂ (λ (vs : List VarInfo) (ns : List (List ℕ)). flat_map (state_faults vs ns) (map state_at_line_0 s.states)) (variables_stay s.declarations)
    (names_stay s.states)
    ∙ states_unlined (variables_of s.declarations) (state_names s.states) s.states)))))

-- the rule on branches at one state
abbrev branch_fault : List (List ℕ) → List (List ℕ) → SourceState → List CheckFault
branch_fault vs ns s = broken_where (branches_too_often vs ns s) TooManyBranches s.line

branch_unlined : (vs ns : List (List ℕ)) (s : SourceState) → branch_fault vs ns (state_at_line_0 s) ≡ unlined (branch_fault vs ns s)
branch_unlined vs ns s =
    same_unlined (branches_too_often vs ns (state_at_line_0 s)) (branches_too_often vs ns s) TooManyBranches s.line
    (ap (λ (ls : List (Transition ℕ ℕ)). nat_lt most_branches (count_leaves (tree_of_transitions ls))) (lines_stay vs ns s.transitions))

branches_unlined : (s : Source) → branch_faults (without_lines s) ≡ unlined (branch_faults s)
branches_unlined s =
    let vs = names_of (variables_of s.declarations) in
    let ns = state_names s.states in
    ap₂ (λ (ws : List VarInfo) (ms : List (List ℕ)). flat_map (branch_fault (names_of ws) ms) (map state_at_line_0 s.states)) (variables_stay s.declarations)
    (names_stay s.states)
    ∙ flat_map_map (branch_fault vs ns) state_at_line_0 s.states
    ∙ flat_unlined (λ (t : SourceState). branch_fault vs ns (state_at_line_0 t)) (branch_fault vs ns) (branch_unlined vs ns) s.states

some_there : (o : Option SourceState) (s : SourceState) → option_map state_at_line_0 o ≡ Some s → (t : SourceState) × (o ≡ Some t)
some_there None s e = absurd cc
some_there (Some t) s e = (t, refl)

-- a state on an endless line is one in parts that are the same but for lines
endless_there : (s r : Source) (n : ℕ) → without_lines r ≡ without_lines s → EndlessAt r n → (m : ℕ) × EndlessAt s m
endless_there s r n e x =
    let states : map state_at_line_0 s.states ≡ map state_at_line_0 r.states = ap (λ (p : Source). p.states) (sym e) in
    let found : option_map state_at_line_0 (slice_get s.states x.place) ≡ Some (state_at_line_0 x.state) =
    sym (slice_get-map state_at_line_0 s.states x.place) ∙ ap (λ (ss : List SourceState). slice_get ss x.place) states
    ∙ slice_get-map state_at_line_0 r.states x.place ∙ ap (option_map state_at_line_0) x.is_there in
    let t = some_there (slice_get s.states x.place) (state_at_line_0 x.state) found in (
      t.0.line,
      record { place = x.place; state = t.0; is_there = t.1; line = refl; endless = subst (λ (m : Fsmd). IsEndless m x.place) (same_machine s r e) x.endless },
    )

-- parts keep the rules where others do that are the same but for lines
pub same_law : (s r : Source) → without_lines r ≡ without_lines s → BreaksNoRule s → BreaksNoRule r
same_law s r e l =
    record {
      plain = none_left (plain_faults r) (sym (plain_unlined r) ∙ ap plain_faults e ∙ plain_unlined s ∙ ap unlined l.plain);
      branches = none_left (branch_faults r) (sym (branches_unlined r) ∙ ap branch_faults e ∙ branches_unlined s ∙ ap unlined l.branches);
      ends = λ n x. (let t = endless_there s r n e x in l.ends t.0 t.1);
    }

-- ---- parts further down are the same but for lines

transitions_same : (n : ℕ) (ls : List SourceTransition) → map transition_at_line_0 (map (transition_moved n) ls) ≡ map transition_at_line_0 ls
transitions_same n ls = map_map transition_at_line_0 (transition_moved n) ls

states_same : (n : ℕ) (ss : List SourceState) → map state_at_line_0 (map (state_moved n) ss) ≡ map state_at_line_0 ss
states_same n [] = refl
states_same n (s ∷ ss) = ap₂ (λ (ls : List SourceTransition) (rest : List SourceState). record { line = 0; name = s.name; transitions = ls } ∷ rest)
    (transitions_same n s.transitions) (states_same n ss)

pub moved_same : (n : ℕ) (s : Source) → without_lines (lines_moved n s) ≡ without_lines s
moved_same n s =
    ap₂ (λ (ds : List Declaration) (ss : List SourceState). record { declarations = ds; reset_line = 0; reset = s.reset; states = ss })
    (map_map declaration_at_line_0 (declaration_moved n) s.declarations) (states_same n s.states)
