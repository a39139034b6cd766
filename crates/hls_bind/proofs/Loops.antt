-- One turn of a loop.
use Rattle.std.proofs.Common.{◌≡◌, ℕ, zero, suc, ◌+◌, ◌-◌, ◌<◌, List, [], ◌∷◌, ◌++◌, length, get_or, drop, map, ap, ap₂, sym, ◌∙◌, subst, arith, append_assoc}
use Rattle.std.proofs.Common.{Bool, false, Option, Some, None}
use Rattle.std.specs.Option.{option_or}
use Rattle.std.specs.List.{flat_map, slice_index_or}
use Rattle.serde_json.specs.Data.{Members}
use Rattle.fs_model.specs.declared.parts.VarInfo.{VarInfo}
use Rattle.fs_model.specs.declared.parts.Branch.{Branch as CodeBranch}
use Rattle.fs_model.specs.Machines.{Fsmd, transitions_of}
use Rattle.fs_model.specs.Trees.{Branch, branches_of}
use Rattle.fs_model.specs.View.{branch_of}
use Rattle.std.proofs.lemmas.List.{get_or-map}
use Rattle.fs_model.proofs.Lists.{drop_next}
use Rattle.fs_model.specs.SoundMachines.{IsSound, branch_count, assigned_in}
use Rattle.fs_cut.specs.Paths.{branch_at}
use Rattle.fs_cut.proofs.Branches.{no_branch}
use Rattle.fs_cut.proofs.Loops.{target_is_in, count_is}
use Rattle.fs_ast.specs.MachineOfParts.{names_of, variables_of}
use Rattle.fs_model.specs.Source.{Source, Declaration, SourceState}
use Rattle.fs_model.specs.PartFolds.{scalars, uses_in_literal}
use Rattle.hls_bind.specs.Liveness.{read_by, read_by_assignment}
use Rattle.hls_bind.specs.Bindings.{bound_name, remaining_declarations, of_registers, state_renamed, bound_parts}
use Rattle.fs_variable_sets.specs.Sets.{also_all}
use Rattle.fs_variable_sets.proofs.Members.{also_joined}
use Rattle.hls_bind.specs.BindingMembers.{register_given, entry_at, binding_from}
use Rattle.hls_bind.specs.BranchFlows.{has_below_128, Transfer, transfer_by, transfers_at, transfers_below}
use Rattle.hls_bind.specs.ConflictSearch.{first_from}

dropped_suc : {A : Type 0} (xs : List A) (i : ℕ) (x : A) → i < length xs → x ≡ get_or xs i x → drop i xs ≡ x ∷ drop (suc i) xs
dropped_suc [] i x h e = absurd (omega arith)
dropped_suc (y ∷ ys) zero x h e = ap (λ z. z ∷ ys) (sym e)
dropped_suc (y ∷ ys) (suc i) x h e = dropped_suc ys i x (omega arith) e

-- ---- entries of a binding
pub entry_more : (vs : List VarInfo) (ms : Members) (k : ℕ) (v : VarInfo) (old new : List (ℕ × List ℕ)) (o : Option (List ℕ)) → k < length vs
    → v ≡ get_or vs k v → o ≡ register_given ms v.name → new ≡ old ++ entry_at k o
    → new ++ binding_from (k + 1) (drop (k + 1) vs) ms ≡ old ++ binding_from k (drop k vs) ms
entry_more vs ms k v old new o h e g put =
    let one : suc k ≡ k + 1 = omega arith in
    ap (λ es. es ++ binding_from (k + 1) (drop (k + 1) vs) ms) put
    ∙ append_assoc old (entry_at k o) (binding_from (k + 1) (drop (k + 1) vs) ms)
    ∙ ap (λ q. old ++ (entry_at k q ++ binding_from (k + 1) (drop (k + 1) vs) ms)) g
    ∙ ap (λ i. old ++ (entry_at k (register_given ms v.name) ++ binding_from i (drop (k + 1) vs) ms)) (sym one)
    ∙ ap (λ ws. old ++ binding_from k ws ms) (sym (drop_next vs k v h e))

-- ---- flows
pub transfers_more : (m : Fsmd) (k count n : ℕ) (old new : List Transfer) → count ≡ n → k < count → new ≡ old ++ transfers_at m (count - 1 - k)
    → new ++ transfers_below m (n - (k + 1)) ≡ old ++ transfers_below m (n - k)
transfers_more m k count n old new all h put =
    let at : n - k ≡ suc (count - 1 - k) = omega (arith, all, h) in
    let rest : n - (k + 1) ≡ count - 1 - k = omega (arith, all, h) in
    ap (λ fs. fs ++ transfers_below m (n - (k + 1))) put
    ∙ append_assoc old (transfers_at m (count - 1 - k)) (transfers_below m (n - (k + 1)))
    ∙ ap (λ i. old ++ (transfers_at m (count - 1 - k) ++ transfers_below m i)) rest
    ∙ ap (λ i. old ++ transfers_below m i) (sym at)

pub read_more : {A B : Type 0} (f : A → List ℕ) (view : B → A) (xs : List B) (i : ℕ) (x : B) (old new whole : ℕ → Bool) → i < length xs → x ≡ get_or xs i x
    → new ≡ also_all (f (view x)) old → also_all (flat_map f (map view (drop i xs))) old ≡ whole
    → also_all (flat_map f (map view (drop (i + 1) xs))) new ≡ whole
read_more f view xs i x old new whole h e put g =
    ap (also_all (flat_map f (map view (drop (i + 1) xs)))) put
    ∙ sym (also_joined (f (view x)) (flat_map f (map view (drop (i + 1) xs))) old)
    ∙ ap (λ ys. also_all (flat_map f (map view ys)) old) (sym (drop_next xs i x h e))
    ∙ g

abbrev pub made_transfer : (from target : ℕ) → (reads writes : ℕ → Bool) → Transfer
made_transfer from target reads writes = record { from = from; target = target; reads = reads; writes = writes }

pub transfer_is : (from : ℕ) (x : Branch) (lits reads writes : ℕ → Bool) → lits ≡ has_below_128 (flat_map (uses_in_literal scalars) x.literals)
    → reads ≡ also_all (flat_map read_by_assignment x.assignments) lits → writes ≡ has_below_128 (assigned_in x.assignments)
    → made_transfer from x.target reads writes ≡ transfer_by from x
transfer_is from x lits reads writes e f g =
    let all : reads ≡ has_below_128 (read_by x) = f ∙ ap (also_all (flat_map read_by_assignment x.assignments)) e
    ∙ sym (also_joined (flat_map (uses_in_literal scalars) x.literals) (flat_map read_by_assignment x.assignments) (λ y. false)) in
    ap₂ (λ (i j : ℕ → Bool). made_transfer from x.target i j) all g

-- ---- the first of several numbers
pub first_step : {A : Type 0} (f : ℕ → Option A) (k n : ℕ) → k < n → first_from f k (n - k) ≡ option_or (f k) (first_from f (k + 1) (n - (k + 1)))
first_step f k n h =
    let at : n - k ≡ suc (n - (k + 1)) = omega arith in
    let one : suc k ≡ k + 1 = omega arith in
    ap (first_from f k) at ∙ ap (λ i. option_or (f k) (first_from f i (n - (k + 1)))) one

pub first_none : {A : Type 0} (f : ℕ → Option A) (k n : ℕ) (o : Option A) → k < n → f k ≡ None → first_from f k (n - k) ≡ o
    → first_from f (k + 1) (n - (k + 1)) ≡ o
first_none f k n o h e g = sym (first_step f k n h ∙ ap (λ q. option_or q (first_from f (k + 1) (n - (k + 1)))) e) ∙ g

pub first_some : {A : Type 0} (f : ℕ → Option A) (k n : ℕ) (o : Option A) (a : A) → k < n → f k ≡ Some a → first_from f k (n - k) ≡ o → Some a ≡ o
first_some f k n o a h e g = sym (first_step f k n h ∙ ap (λ q. option_or q (first_from f (k + 1) (n - (k + 1)))) e) ∙ g

-- ---- a branch of the code

pub branch_is : (m : Fsmd) (q k : ℕ) (bs : List CodeBranch) (b : CodeBranch) → map branch_of bs ≡ branches_of (transitions_of m q) → k < length bs
    → b ≡ get_or bs k b → branch_of b ≡ branch_at m q k
branch_is m q k bs b e h i = ap branch_of i ∙ sym (get_or-map branch_of bs k b no_branch h) ∙ ap (λ (l : List Branch). slice_index_or l k no_branch) e

pub branch_low : (m : Fsmd) (q k : ℕ) (bs : List CodeBranch) → map branch_of bs ≡ branches_of (transitions_of m q) → k < branch_count m q → k < length bs
branch_low m q k bs e h = let n = count_is m q bs e in omega (arith, n, h)

pub target_low : (m : Fsmd) (q k : ℕ) (bs : List CodeBranch) (b : CodeBranch) → IsSound m → map branch_of bs ≡ branches_of (transitions_of m q)
    → k < branch_count m q → b ≡ get_or bs k b → b.target.0 < length m.states
target_low m q k bs b sound e h i = subst (λ (x : CodeBranch). x.target.0 < length m.states) (sym i) (target_is_in m q k bs b sound e h)

-- ---- the parts with registers
abbrev pub made_parts : List Declaration → ℕ → List ℕ → List SourceState → Source
made_parts ds line reset ss = record { declarations = ds; reset_line = line; reset = reset; states = ss }

pub parts_are : (b : List (ℕ × List ℕ)) (names : List (List ℕ)) (p : Source) (vs : List VarInfo) (ds : List Declaration) (reset : List ℕ)
    (ss : List SourceState) → vs ≡ variables_of p.declarations → ds ≡ remaining_declarations b (names_of vs) p.declarations ++ of_registers p.reset_line names
    → reset ≡ p.reset
    → ss ≡ map (state_renamed (bound_name b (names_of vs))) p.states → made_parts ds p.reset_line reset ss ≡ bound_parts b names p
parts_are b names p vs ds reset ss at e f g =
    let declared : ds ≡ remaining_declarations b (names_of (variables_of p.declarations)) p.declarations ++ of_registers p.reset_line names = e
    ∙ ap (λ (ws : List VarInfo). remaining_declarations b (names_of ws) p.declarations ++ of_registers p.reset_line names) at in
    let states : ss ≡ map (state_renamed (bound_name b (names_of (variables_of p.declarations)))) p.states = g
    ∙ ap (λ (ws : List VarInfo). map (state_renamed (bound_name b (names_of ws))) p.states) at in
    ap (λ (r : List ℕ). made_parts ds p.reset_line r ss) f
    ∙ ap₂ (λ (x : List Declaration) (y : List SourceState). made_parts x p.reset_line p.reset y) declared states
