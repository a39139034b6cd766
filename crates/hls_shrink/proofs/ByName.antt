-- What inputs give in order, by the names of a machine's inputs.
use Rattle.std.proofs.Common.{◌≡◌, ℕ, zero, suc, ◌==◌, Bool, true, false, cond, List, [], ◌∷◌, length, refl, sym, ◌∙◌, ap, ap₂, subst}
use Rattle.std.specs.Prelude.{not, ◌&&◌, ◌||◌, Some, map, filter, slice_get}
use Rattle.std.specs.List.{list_all, list_any, AllByRecursion}
use Rattle.std.specs.Str.{bytes_eq}
use Rattle.std.proofs.lemmas.Bool.{and_from, not-true}
use Rattle.std.proofs.lemmas.List.Folds.{list_all-append}
use Rattle.std.proofs.lemmas.Slice.Eq.{bytes_eq-Decides}
use Rattle.fs_model.proofs.Booleans.{and_first, and_second, neither_first, neither_second}
use Rattle.fs_model.proofs.Lists.{bytes_eq-false_turned}
use Rattle.fs_model.specs.SoundMachines.{names_differ}
use Rattle.fs_ast.specs.MachineOfParts.{declared_by, variables_of}
use Rattle.fs_model.specs.declared.parts.Role.{Role}
use Rattle.fs_model.specs.declared.parts.Role.TheVariants as roles
use Rattle.fs_model.specs.declared.parts.Sort.{Sort}
use Rattle.fs_model.specs.declared.parts.Sort.TheVariants.{Scalar, Array, Port}
use Rattle.fs_model.specs.declared.parts.VarInfo.{VarInfo}
use Rattle.fs_model.specs.Runs.{Content, is_input, is_output, is_port}
use Rattle.fs_model.specs.Source.{Declaration}
use Rattle.fs_model.specs.WellFormed.{is_well_formed_declaration, is_well_formed_state}
use Rattle.fs_stores.specs.declared.inputs.Input.{Input}
use Rattle.fs_stores.specs.declared.inputs.Inputs.{Inputs}
use Rattle.fs_stores.specs.Values.{content_of, sort_of}
use Rattle.fs_stores.specs.InputValues.{Signature, signature, value_named, inputs_of, is_given, first_content}
use Rattle.fs_stores.proofs.InputValues.{begins_given}
use Rattle.hls_shrink.specs.ReductionLaws.{GivenByName, NoInputPorts}

abbrev names : List VarInfo → List (List ℕ)
names vs = map (λ (v : VarInfo). v.name) vs

abbrev names_given : List Input → List (List ℕ)
names_given items = map (λ (i : Input). i.name) items

abbrev inputs_among : List VarInfo → List VarInfo
inputs_among vs = filter (λ (v : VarInfo). is_input v.role) vs

abbrev signatures_among : List VarInfo → List Signature
signatures_among vs = map (λ (v : VarInfo). (v.name, v.sort)) vs

abbrev is_among : List ℕ → List (List ℕ) → Bool
is_among n ns = list_any (λ m. bytes_eq m n) ns

abbrev is_no_input_port : VarInfo → Bool
is_no_input_port v = not (is_input v.role && is_port v.sort)

-- ---- the names of inputs differ

not_first : (n m : List ℕ) (ms : List (List ℕ)) → is_among n (m ∷ ms) ≡ false → bytes_eq m n ≡ false
not_first n m ms h = neither_first (bytes_eq m n) (is_among n ms) h

not_later : (n m : List ℕ) (ms : List (List ℕ)) → is_among n (m ∷ ms) ≡ false → is_among n ms ≡ false
not_later n m ms h = neither_second (bytes_eq m n) (is_among n ms) h

first_alone : (n : List ℕ) (ns : List (List ℕ)) → names_differ (n ∷ ns) ≡ true → is_among n ns ≡ false
first_alone n ns d = not-true (is_among n ns) (and_first (not (is_among n ns)) (names_differ ns) d)

others_differ : (n : List ℕ) (ns : List (List ℕ)) → names_differ (n ∷ ns) ≡ true → names_differ ns ≡ true
others_differ n ns d = and_second (not (is_among n ns)) (names_differ ns) d

kept_among : (b : Bool) (n : List ℕ) (v : VarInfo) (vs : List VarInfo) → bytes_eq v.name n ≡ false → is_among n (names vs) ≡ false
    → is_among n (names (cond b (v ∷ vs) vs)) ≡ false
kept_among true n v vs away none = ap (λ t. t || is_among n (names vs)) away ∙ none
kept_among false n v vs away none = none

none_among : (n : List ℕ) (vs : List VarInfo) → is_among n (names vs) ≡ false → is_among n (names (inputs_among vs)) ≡ false
none_among n [] h = refl
none_among n (v ∷ vs) h =
    let rest = none_among n vs (not_later n v.name (names vs) h) in
    kept_among (is_input v.role) n v (inputs_among vs) (not_first n v.name (names vs) h) rest

kept_differ : (b : Bool) (v : VarInfo) (vs : List VarInfo) → is_among v.name (names vs) ≡ false → names_differ (names vs) ≡ true
    → names_differ (names (cond b (v ∷ vs) vs)) ≡ true
kept_differ true v vs alone rest = and_from (not (is_among v.name (names vs))) (names_differ (names vs)) (ap not alone) rest
kept_differ false v vs alone rest = rest

inputs_differ : (vs : List VarInfo) → names_differ (names vs) ≡ true → names_differ (names (inputs_among vs)) ≡ true
inputs_differ [] h = refl
inputs_differ (v ∷ vs) h =
    let alone = none_among v.name vs (first_alone v.name (names vs) h) in
    let rest = inputs_differ vs (others_differ v.name (names vs) h) in
    kept_differ (is_input v.role) v (inputs_among vs) alone rest

names_signed : (items : List Input) → map (λ (f : Signature). f.0) (map signature items) ≡ names_given items
names_signed [] = refl
names_signed (i ∷ items) = ap (λ ns. i.name ∷ ns) (names_signed items)

names_among : (vs : List VarInfo) → map (λ (f : Signature). f.0) (signatures_among vs) ≡ names vs
names_among [] = refl
names_among (v ∷ vs) = ap (λ ns. v.name ∷ ns) (names_among vs)

same_names : (items : List Input) (vs : List VarInfo) → map signature items ≡ signatures_among vs → names_given items ≡ names vs
same_names items vs e = sym (names_signed items) ∙ ap (map (λ (f : Signature). f.0)) e ∙ names_among vs

-- ---- so each value is that of its name

other_name : (n : List ℕ) (items : List Input) (k : ℕ) (i : Input) → is_among n (names_given items) ≡ false → slice_get items k ≡ Some i
    → bytes_eq i.name n ≡ false
other_name n [] k i h e = absurd (cc)
other_name n (x ∷ items) zero i h e =
    let same : x ≡ i = cc in
    ap (λ (y : Input). bytes_eq y.name n) (sym same) ∙ not_first n x.name (names_given items) h
other_name n (x ∷ items) (suc k) i h e = other_name n items k i (not_later n x.name (names_given items) h) e

value_there : (items : List Input) (k : ℕ) (i : Input) → names_differ (names_given items) ≡ true → slice_get items k ≡ Some i
    → value_named items i.name ≡ Some i.value
value_there [] k i d e = absurd (cc)
value_there (x ∷ items) zero i d e =
    let same : x ≡ i = cc in
    let own : bytes_eq x.name x.name ≡ true = (bytes_eq-Decides x.name x.name).1 refl in
    let here : value_named (x ∷ items) x.name ≡ Some x.value = ap (λ b. cond b (Some x.value) (value_named items x.name)) own in
    subst (λ (y : Input). value_named (x ∷ items) y.name ≡ Some y.value) same here
value_there (x ∷ items) (suc k) i d e =
    let other = other_name x.name items k i (first_alone x.name (names_given items) d) e in
    ap (λ b. cond b (Some x.value) (value_named items i.name)) (bytes_eq-false_turned i.name x.name other)
    ∙ value_there items k i (others_differ x.name (names_given items) d) e

-- ---- and what it says is given by name

abbrev AreGiven : List VarInfo → Type 0
AreGiven vs = AllByRecursion (λ (v : VarInfo). is_given v ≡ true) vs

one_given : (b : Bool) (v : VarInfo) (vs : List VarInfo) → is_input v.role ≡ b → is_no_input_port v ≡ true → AreGiven vs → AreGiven (cond b (v ∷ vs) vs)
one_given true v vs e here rest =
    let no_port : not (is_port v.sort) ≡ true = ap (λ b. not (b && is_port v.sort)) (sym e) ∙ here in
    (and_from (is_input v.role) (not (is_port v.sort)) e no_port, rest)
one_given false v vs e here rest = rest

all_given : (vs : List VarInfo) → list_all is_no_input_port vs ≡ true → AreGiven (inputs_among vs)
all_given [] h = tt
all_given (v ∷ vs) h =
    let here = and_first (is_no_input_port v) (list_all is_no_input_port vs) h in
    let rest = all_given vs (and_second (is_no_input_port v) (list_all is_no_input_port vs) h) in
    one_given (is_input v.role) v (inputs_among vs) refl here rest

-- each of these has the value of its name among all
abbrev AreNamed : (all left : List Input) → Type 0
AreNamed all left = (k : ℕ) (i : Input) → slice_get left k ≡ Some i → value_named all i.name ≡ Some i.value

abbrev contents_of : List Input → List Content
contents_of items = map content_of (map (λ (i : Input). i.value) items)

each_given : (ins : Inputs) (items : List Input) (vs : List VarInfo) → map signature items ≡ signatures_among vs → AreGiven vs → AreNamed ins.items.items items
    → contents_of items ≡ map (first_content (inputs_of ins)) vs
each_given ins [] [] e given there = refl
each_given ins [] (v ∷ vs) e given there = absurd (cc)
each_given ins (i ∷ items) [] e given there = absurd (cc)
each_given ins (i ∷ items) (v ∷ vs) e given there =
    let head : signature i ≡ (v.name, v.sort) = cc in
    let name : i.name ≡ v.name = ap (λ (f : Signature). f.0) head in
    let sort : sort_of i.value ≡ v.sort = ap (λ (f : Signature). f.1) head in
    let rest : map signature items ≡ signatures_among vs = cc in
    let held = ap (value_named ins.items.items) (sym name) ∙ there 0 i refl in
    let first = begins_given ins v i.value held given.0 sort in
    ap₂ (λ (c : Content) (cs : List Content). c ∷ cs) first (each_given ins items vs rest given.1 (λ k j q. there (suc k) j q))

pub given_by_name : GivenByName
given_by_name m ins sound ports e =
    let items = ins.items.items in
    let vs = inputs_among m.variables in
    let differ = ap names_differ (same_names items vs e) ∙ inputs_differ m.variables sound.variables_differ in
    each_given ins items vs e (all_given m.variables ports) (λ k i q. value_there items k i differ q)

-- ---- no input of a text is a port

port_is_output : (r : Role) (s : Sort) → (not (is_port s) || is_output r) ≡ true → not (is_input r && is_port s) ≡ true
port_is_output roles.Input Scalar h = refl
port_is_output roles.Input Array h = refl
port_is_output roles.Input Port h = absurd (cc)
port_is_output roles.Output s h = refl
port_is_output roles.Local s h = refl

abbrev variable_of : Role → Sort → List ℕ → VarInfo
variable_of r s n = record { name = n; role = r; sort = s }

one_declaration : (r : Role) (s : Sort) (ns : List (List ℕ)) → not (is_input r && is_port s) ≡ true
    → list_all is_no_input_port (map (variable_of r s) ns) ≡ true
one_declaration r s [] h = refl
one_declaration r s (n ∷ ns) h =
    and_from (not (is_input r && is_port s)) (list_all is_no_input_port (map (variable_of r s) ns)) h (one_declaration r s ns h)

all_declarations : (ds : List Declaration) → list_all is_well_formed_declaration ds ≡ true → list_all is_no_input_port (variables_of ds) ≡ true
all_declarations [] h = refl
all_declarations (d ∷ ds) h =
    let formed = and_first (is_well_formed_declaration d) (list_all is_well_formed_declaration ds) h in
    let output = and_second (not (length d.names == 0)) (not (is_port d.sort) || is_output d.role) formed in
    let here : list_all is_no_input_port (declared_by d) ≡ true = one_declaration d.role d.sort d.names (port_is_output d.role d.sort output) in
    let rest = all_declarations ds (and_second (is_well_formed_declaration d) (list_all is_well_formed_declaration ds) h) in
    list_all-append is_no_input_port (declared_by d) (variables_of ds)
    ∙ and_from (list_all is_no_input_port (declared_by d)) (list_all is_no_input_port (variables_of ds)) here rest

pub no_input_ports : NoInputPorts
no_input_ports p h =
    all_declarations p.declarations (and_first (list_all is_well_formed_declaration p.declarations) (list_all is_well_formed_state p.states) h)
