-- What the outputs of a machine hold.
use Rattle.std.proofs.Common.{◌≡◌, get_or, ℕ, zero, suc, ◌+◌, ◌<◌, ◌≤◌, length, drop, Bool, true, false, cond, List, [], ◌∷◌, ◌++◌, refl, sym, ◌∙◌, ap, ap₂}
use Rattle.std.proofs.Common.{subst, append_assoc, append-nil, arith}
use Rattle.std.specs.Prelude.{◌&&◌, Option, Some, IsSome, map, filter, slice_get}
use Rattle.std.specs.List.{AllByRecursion}
use Rattle.std.proofs.lemmas.List.{length-map}
use Rattle.std.specs.Str.{bytes_eq}
use Rattle.base_laws.proofs.Lists.{bytes_eq-self}
use Rattle.base_laws.proofs.Numbers.{plus_suc}
use Rattle.fs_model.specs.declared.parts.VarInfo.{VarInfo}
use Rattle.fs_model.specs.Machines.{Fsmd}
use Rattle.fs_model.specs.Stores.{Store}
use Rattle.fs_model.specs.Runs.{Inputs, Run, Content, Number, Entries, Emitted, is_output, content, output_from, output}
use Rattle.fs_stores.specs.declared.values.Value.{Value}
use Rattle.fs_stores.specs.declared.values.Value.TheVariants.{Num, Arr}
use Rattle.fs_stores.specs.declared.values.Value.TheVariants as values
use Rattle.fs_stores.specs.Values.{value_number, entry_in, value_list, sort_of, content_of, store_from}
use Rattle.fs_runs.specs.Outcomes.{Outputs, output_names, outs_of, outputs_by_name, HoldsEach}
use Rattle.fs_stores.proofs.Slots.{left_cons}

held : (vs : List Value) (j : ℕ) (w : Value) → slice_get vs j ≡ Some w → content (sort_of w) j (store_from vs) ≡ content_of w
held vs j (Num n) e = ap (λ o. Number (value_number o)) e
held vs j (Arr m) e = ap (λ o. Entries (entry_in o)) e
held vs j (values.List l) e = ap (λ o. Emitted (value_list o)) e

one_out : (b : Bool) (c d : Content) (name : List ℕ) (v : VarInfo) (vars : List VarInfo) (outs : List Content) (o : Option Content) → c ≡ d
    → o ≡ outputs_by_name (map (λ v. v.name) vars) outs name
    → cond (b && bytes_eq v.name name) (Some c) o ≡ outputs_by_name (map (λ v. v.name) (cond b (v ∷ vars) vars)) (cond b (d ∷ outs) outs) name
one_out true c d name v vars outs o e f = ap₂ (λ (x : Content) (y : Option Content). cond (bytes_eq v.name name) (Some x) y) e f
one_out false c d name v vars outs o e f = f

told_from : (vars : List VarInfo) (vs : List Value) (x : ℕ) (s : Store) (name : List ℕ) → map sort_of vs ≡ map (λ v. v.sort) vars
    → ((j : ℕ) (w : Value) → slice_get vs j ≡ Some w → content (sort_of w) (x + j) s ≡ content_of w)
    → output_from vars x s name ≡ outputs_by_name (output_names vars) (outs_of vars vs) name
told_from [] vs x s name e f = refl
told_from (v ∷ vars) [] x s name e f = absurd (cc)
told_from (v ∷ vars) (w ∷ vs) x s name e f =
    let same : sort_of w ≡ v.sort = cc in
    let rest : map sort_of vs ≡ map (λ v. v.sort) vars = cc in
    let here : content v.sort x s ≡ content_of w = subst (λ t. content t x s ≡ content_of w) same
    (subst (λ k. content (sort_of w) k s ≡ content_of w) (last x) (f 0 w refl)) in
    one_out (is_output v.role) (content v.sort x s) (content_of w) name v (filter (λ u. is_output u.role) vars) (outs_of vars vs)
    (output_from vars (x + 1) s name) here
    (told_from vars vs (x + 1) s name rest (λ j u g. subst (λ k. content (sort_of u) k s ≡ content_of u) (plus_suc x j) (f (suc j) u g)))
  where
    last : (x : ℕ) → x + 0 ≡ x
    last x = omega arith

pub told_all : (m : Fsmd) (vs : List Value) (name : List ℕ) → map sort_of vs ≡ map (λ v. v.sort) m.variables
    → output m (store_from vs) name ≡ outputs_by_name (output_names m.variables) (outs_of m.variables vs) name
told_all m vs name e = told_from m.variables vs 0 (store_from vs) name e
    (λ j w g. subst (λ k. content (sort_of w) k (store_from vs) ≡ content_of w) (first j) (held vs j w g))
  where
    first : (j : ℕ) → j ≡ 0 + j
    first j = omega arith

cond_cons_append : (b : Bool) (c : Content) (outs : List Content) → cond b (c ∷ outs) outs ≡ cond b (c ∷ []) [] ++ outs
cond_cons_append true c outs = refl
cond_cons_append false c outs = refl

-- one more variable
pub outs_next : (vars : List VarInfo) (vs : List Value) (k : ℕ) (v : VarInfo) (w : Value) (done more total : List Content) → k < length vars → k < length vs
    → more ≡ done ++ outs_of (get_or vars k v ∷ []) (get_or vs k w ∷ []) → done ++ outs_of (drop k vars) (drop k vs) ≡ total
    → more ++ outs_of (drop (k + 1) vars) (drop (k + 1) vs) ≡ total
outs_next vars vs k v w done more total h g e f =
    ap (λ l. l ++ outs_of (drop (k + 1) vars) (drop (k + 1) vs)) e
    ∙ append_assoc done (outs_of (get_or vars k v ∷ []) (get_or vs k w ∷ [])) (outs_of (drop (k + 1) vars) (drop (k + 1) vs))
    ∙ ap (λ l. done ++ l) (sym (cond_cons_append (is_output (get_or vars k v).role) (content_of (get_or vs k w))
    (outs_of (drop (k + 1) vars) (drop (k + 1) vs))))
    ∙ ap₂ (λ (a : List VarInfo) (b : List Value). done ++ outs_of a b) (sym (left_cons vars k v h)) (sym (left_cons vs k w g))
    ∙ f

drop_past : {X : Type 0} (k : ℕ) (xs : List X) → length xs ≤ k → drop k xs ≡ []
drop_past zero [] h = refl
drop_past zero (x ∷ xs) h = absurd (omega arith)
drop_past (suc k) [] h = refl
drop_past (suc k) (x ∷ xs) h = drop_past k xs (omega arith)

-- all variables
pub outs_done : (vars : List VarInfo) (vs : List Value) (k : ℕ) (done : List Content) → length vars ≤ k
    → done ++ outs_of (drop k vars) (drop k vs) ≡ outs_of vars vs → done ≡ outs_of vars vs
outs_done vars vs k done h e = sym (append-nil done) ∙ sym (ap (λ l. done ++ outs_of l (drop k vs)) (drop_past k vars h)) ∙ e

count_one : (b : Bool) (v : VarInfo) (vars : List VarInfo) (c : Content) (cs : List Content) → length cs ≡ length (map (λ (u : VarInfo). u.name) vars)
    → length (cond b (c ∷ cs) cs) ≡ length (map (λ (u : VarInfo). u.name) (cond b (v ∷ vars) vars))
count_one true v vars c cs e = ap suc e
count_one false v vars c cs e = e

-- as many values as variables
pub as_long : (vars : List VarInfo) (vs : List Value) → map sort_of vs ≡ map (λ v. v.sort) vars → length vs ≡ length vars
as_long vars vs e = sym (length-map vs sort_of) ∙ ap length e ∙ length-map vars (λ v. v.sort)

-- as many values as outputs
pub outs_count : (vars : List VarInfo) (vs : List Value) → map sort_of vs ≡ map (λ v. v.sort) vars → length (outs_of vars vs) ≡ length (output_names vars)
outs_count [] vs e = refl
outs_count (v ∷ vars) [] e = absurd (cc)
outs_count (v ∷ vars) (w ∷ vs) e =
    let rest : map sort_of vs ≡ map (λ v. v.sort) vars = cc in
    count_one (is_output v.role) v (filter (λ u. is_output u.role) vars) (content_of w) (outs_of vars vs) (outs_count vars vs rest)

all_through : {X : Type 0} (P Q : X → Type 0) → ((x : X) → P x → Q x) → (xs : List X) → AllByRecursion P xs → AllByRecursion Q xs
all_through P Q f [] all = tt
all_through P Q f (x ∷ xs) all = (f x all.0, all_through P Q f xs all.1)

either : (b : Bool) (c : Content) (rest : Option Content) → IsSome rest → IsSome (cond b (Some c) rest)
either true c rest there = refl
either false c rest there = there

-- each output name of variables holds something in a store
each_held : (vs : List VarInfo) (x : ℕ) (s : Store) → AllByRecursion (λ n. IsSome (output_from vs x s n)) (output_names vs)
each_held [] x s = tt
each_held (v ∷ vs) x s =
    let c = content v.sort x s in
    let rest = each_held vs (x + 1) s in
    elim (is_output v.role) as (λ b. AllByRecursion (λ n. IsSome (cond (b && bytes_eq v.name n) (Some c) (output_from vs (x + 1) s n)))
    (map (λ (w : VarInfo). w.name) (cond b (v ∷ filter (λ w. is_output w.role) vs) (filter (λ w. is_output w.role) vs)))) [
      | true ↦ (
        rw (bytes_eq-self v.name) refl,
        all_through (λ n. IsSome (output_from vs (x + 1) s n)) (λ n. IsSome (cond (bytes_eq v.name n) (Some c) (output_from vs (x + 1) s n)))
            (λ n there. either (bytes_eq v.name n) c (output_from vs (x + 1) s n) there) (output_names vs) rest,
      )
      | false ↦ rest
    ]

-- what says what the outputs hold in a store says something of each
pub holds_each : (m : Fsmd) (s : Store) (outs : Outputs) → ((name : List ℕ) → output m s name ≡ outs name) → HoldsEach outs (output_names m.variables)
holds_each m s outs same =
    all_through (λ name. IsSome (output_from m.variables 0 s name)) (λ name. IsSome (outs name)) (λ name there. subst IsSome (same name) there)
    (output_names m.variables) (each_held m.variables 0 s)

-- the same of the outputs of a run
pub run_holds_each : (m : Fsmd) (ins : Inputs) (outs : Outputs) (n : ℕ) → Run m ins outs n → HoldsEach outs (output_names m.variables)
run_holds_each m ins outs n r = holds_each m r.end outs r.gives
