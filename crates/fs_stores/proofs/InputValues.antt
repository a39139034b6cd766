-- What inputs give, and the store in which a run begins.
use Rattle.std.proofs.Common.{◌≡◌, get_or, ℕ, zero, suc, ◌+◌, ◌<◌, length, take, Bool, true, false, cond, List, [], ◌∷◌, ◌++◌, refl, sym, ◌∙◌, ap, ap₂, subst}
use Rattle.std.specs.Prelude.{not, ◌&&◌, ℤ, pos, Option, Some, None, option_map, map, filter, slice_get, slice_set}
use Rattle.std.specs.Str.{bytes_eq}
use Rattle.std.specs.List.{list_any, AllZip}
use Rattle.std.proofs.lemmas.List.{take_more, map-append}
use Rattle.std.proofs.lemmas.List.Elements.{filter-append}
use Rattle.std.proofs.lemmas.Slice.Eq.{bytes_eq-Decides}
use Rattle.std.proofs.lemmas.Option.{slice_get-map}
use Rattle.std.proofs.lemmas.Bool.{not-true}
use Rattle.base_laws.proofs.Booleans.{and_first, and_second, neither_first, neither_second, and_false}
use Rattle.base_laws.proofs.Lists.{bytes_eq-false_turned}
use Rattle.fs_model.specs.SoundMachines.{names_differ}
use Rattle.fs_model.specs.declared.parts.Sort.{Sort}
use Rattle.fs_model.specs.declared.parts.Sort.TheVariants.{Scalar, Array, Port}
use Rattle.fs_model.specs.declared.parts.VarInfo.{VarInfo}
use Rattle.fs_model.specs.Machines.{Fsmd}
use Rattle.fs_model.specs.Runs.{Inputs, Content, Number, Entries, Emitted, is_input, is_scalar, is_array, is_port, first_scalar, first_array, start}
use Rattle.fs_model.proofs.Stores.{store_ext}
use Rattle.fs_stores.specs.declared.values.Value.{Value}
use Rattle.fs_stores.specs.declared.values.Value.TheVariants.{Num, Arr}
use Rattle.fs_stores.specs.declared.values.Value.TheVariants as values
use Rattle.fs_stores.specs.declared.inputs.Input.{Input}
use Rattle.fs_stores.specs.declared.inputs.Inputs.{Inputs as InputValues}
use Rattle.fs_stores.specs.Values.{value_number, entry_in, value_list, sort_of, content_of, zero_content, store_from}
use Rattle.fs_stores.specs.InputValues.{value_named, inputs_of, Signature, sort_named, first_content, first_content_by, is_given, all_zero, signature, AllZero}

-- one value replaced by one of its sort
pub signatures_set : (items : List Input) (k : ℕ) (o n : Input) → o ≡ get_or items k o → n.name ≡ o.name
    → option_map (λ f. f.1) (slice_get (map signature items) k) ≡ Some (sort_of n.value)
    → map signature (slice_set items k n) ≡ map signature items
signatures_set [] k o n e h r = refl
signatures_set (x ∷ rest) zero o n e h r = ap₂ (λ (a : List ℕ) (b : Sort). (a, b) ∷ map signature rest) (h ∙ ap (λ i. i.name) e) (sym (cc))
signatures_set (x ∷ rest) (suc k) o n e h r = ap (λ l. signature x ∷ l) (signatures_set rest k o n e h r)

-- the sort of what is given
sort_cond : (b : Bool) (v : Value) (o : Option Value) → option_map sort_of (cond b (Some v) o) ≡ cond b (Some (sort_of v)) (option_map sort_of o)
sort_cond true v o = refl
sort_cond false v o = refl

pub sort_given : (items : List Input) (name : List ℕ) → option_map sort_of (value_named items name) ≡ sort_named (map signature items) name
sort_given [] name = refl
sort_given (i ∷ rest) name = sort_cond (bytes_eq i.name name) i.value (value_named rest name)
    ∙ ap (λ o. cond (bytes_eq i.name name) (Some (sort_of i.value)) o) (sort_given rest name)

-- contents

abbrev number_of : Content → ℤ
number_of (Number n) = n
number_of (Entries f) = pos 0
number_of (Emitted zs) = pos 0

abbrev entries_of : Content → ℤ → ℤ
entries_of (Number n) i = pos 0
entries_of (Entries f) i = f i
entries_of (Emitted zs) i = pos 0

abbrev pub list_of : Content → List ℤ
list_of (Number n) = []
list_of (Entries f) = []
list_of (Emitted zs) = zs

number_content : (v : Value) → value_number (Some v) ≡ number_of (content_of v)
number_content (Num n) = refl
number_content (Arr e) = refl
number_content (values.List l) = refl

entries_content : (v : Value) (i : ℤ) → entry_in (Some v) i ≡ entries_of (content_of v) i
entries_content (Num n) i = refl
entries_content (Arr e) i = refl
entries_content (values.List l) i = refl

list_content : (v : Value) → value_list (Some v) ≡ list_of (content_of v)
list_content (Num n) = refl
list_content (Arr e) = refl
list_content (values.List l) = refl

no_given : (b : Bool) (t : Sort) (test : Sort → Bool) (u : Sort) → t ≡ u → test u ≡ false → (b && test t) ≡ false
no_given b t test u e h = ap (λ x. b && test x) e ∙ ap (λ x. b && x) h ∙ and_false b

first_number : (ins : Inputs) (v : VarInfo) (s : Sort) → v.sort ≡ s → number_of (first_content_by ins v s) ≡ first_scalar ins (Some v)
first_number ins v Scalar e = refl
first_number ins v Array e = sym (ap (λ b. cond b (ins.scalar v.name) (pos 0)) (no_given (is_input v.role) v.sort is_scalar Array e refl))
first_number ins v Port e = sym (ap (λ b. cond b (ins.scalar v.name) (pos 0)) (no_given (is_input v.role) v.sort is_scalar Port e refl))

first_entries : (ins : Inputs) (v : VarInfo) (s : Sort) (i : ℤ) → v.sort ≡ s → entries_of (first_content_by ins v s) i ≡ first_array ins (Some v) i
first_entries ins v Array i e = refl
first_entries ins v Scalar i e = sym (ap (λ b. cond b (ins.array v.name i) (pos 0)) (no_given (is_input v.role) v.sort is_array Scalar e refl))
first_entries ins v Port i e = sym (ap (λ b. cond b (ins.array v.name i) (pos 0)) (no_given (is_input v.role) v.sort is_array Port e refl))

first_list : (ins : Inputs) (v : VarInfo) (s : Sort) → list_of (first_content_by ins v s) ≡ []
first_list ins v Scalar = refl
first_list ins v Array = refl
first_list ins v Port = refl

start_number : (ins : Inputs) (o : Option Value) (p : Option VarInfo) → option_map content_of o ≡ option_map (first_content ins) p
    → value_number o ≡ first_scalar ins p
start_number ins None None e = refl
start_number ins None (Some v) e = absurd (cc)
start_number ins (Some w) None e = absurd (cc)
start_number ins (Some w) (Some v) e = let q : content_of w ≡ first_content ins v = cc in number_content w ∙ ap number_of q ∙ first_number ins v v.sort refl

start_entries : (ins : Inputs) (o : Option Value) (p : Option VarInfo) (i : ℤ) → option_map content_of o ≡ option_map (first_content ins) p
    → entry_in o i ≡ first_array ins p i
start_entries ins None None i e = refl
start_entries ins None (Some v) i e = absurd (cc)
start_entries ins (Some w) None i e = absurd (cc)
start_entries ins (Some w) (Some v) i e = let q : content_of w ≡ first_content ins v = cc in
    entries_content w i ∙ ap (λ c. entries_of c i) q ∙ first_entries ins v v.sort i refl

start_list : (ins : Inputs) (o : Option Value) (p : Option VarInfo) → option_map content_of o ≡ option_map (first_content ins) p → value_list o ≡ []
start_list ins None p e = refl
start_list ins (Some w) None e = absurd (cc)
start_list ins (Some w) (Some v) e = let q : content_of w ≡ first_content ins v = cc in list_content w ∙ ap list_of q ∙ first_list ins v v.sort

pub starts : (m : Fsmd) (ins : Inputs) (vs : List Value) → map content_of vs ≡ map (first_content ins) m.variables → store_from vs ≡ start m ins
starts m ins vs e =
    let there : (x : ℕ) → option_map content_of (slice_get vs x) ≡ option_map (first_content ins) (slice_get m.variables x) =
    λ x. sym (slice_get-map content_of vs x) ∙ ap (λ l. slice_get l x) e ∙ slice_get-map (first_content ins) m.variables x in
    store_ext _ _ (λ x. start_number ins (slice_get vs x) (slice_get m.variables x) (there x))
    (λ x i. start_entries ins (slice_get vs x) (slice_get m.variables x) i (there x))
    (λ x. start_list ins (slice_get vs x) (slice_get m.variables x) (there x))

-- what one variable begins with

no_scalar : (ins : Inputs) (v : VarInfo) → is_given v ≡ false → v.sort ≡ Scalar → pos 0 ≡ first_scalar ins (Some v)
no_scalar ins v h e =
    sym (ap (λ b. cond b (ins.scalar v.name) (pos 0)) (ap (λ t. is_input v.role && is_scalar t) e ∙ sym (ap (λ t. is_input v.role && not (is_port t)) e) ∙ h))

no_array : (ins : Inputs) (v : VarInfo) → is_given v ≡ false → v.sort ≡ Array → (λ i. pos 0) ≡ first_array ins (Some v)
no_array ins v h e =
    λ k i.
    (sym (ap (λ b. cond b (ins.array v.name i) (pos 0)) (ap (λ t. is_input v.role && is_array t) e ∙ sym (ap (λ t. is_input v.role && not (is_port t)) e) ∙ h)))
    k

pub begins_zero : (ins : Inputs) (v : VarInfo) (s : Sort) → v.sort ≡ s → is_given v ≡ false → zero_content s ≡ first_content_by ins v s
begins_zero ins v Scalar e h = ap Number (no_scalar ins v h e)
begins_zero ins v Array e h = ap Entries (no_array ins v h e)
begins_zero ins v Port e h = refl

given_scalar : (ins : Inputs) (v : VarInfo) → is_input v.role ≡ true → v.sort ≡ Scalar → first_scalar ins (Some v) ≡ ins.scalar v.name
given_scalar ins v h e = ap₂ (λ (b : Bool) (t : Sort). cond (b && is_scalar t) (ins.scalar v.name) (pos 0)) h e

given_array : (ins : Inputs) (v : VarInfo) → is_input v.role ≡ true → v.sort ≡ Array → first_array ins (Some v) ≡ ins.array v.name
given_array ins v h e = λ k i. (ap₂ (λ (b : Bool) (t : Sort). cond (b && is_array t) (ins.array v.name i) (pos 0)) h e) k

pub given_input : (v : VarInfo) → is_given v ≡ true → is_input v.role ≡ true
given_input v h = and_first (is_input v.role) (not (is_port v.sort)) h

no_port : (b : Bool) (s : Sort) → (b && not (is_port s)) ≡ true → s ≡ Port → ⊥
no_port b s h e = absurd (cc (ap (λ t. b && not (is_port t)) e, and_false b))

pub begins_given : (ins : InputValues) (v : VarInfo) (w : Value) → value_named ins.items.items v.name ≡ Some w → is_given v ≡ true → sort_of w ≡ v.sort
    → content_of w ≡ first_content (inputs_of ins) v
begins_given ins v (Num n) g h e =
    ap Number (sym (given_scalar (inputs_of ins) v (given_input v h) (sym e) ∙ ap value_number g)) ∙ ap (first_content_by (inputs_of ins) v) e
begins_given ins v (Arr m) g h e =
    ap Entries (ap (λ o i. entry_in o i) (sym g) ∙ sym (given_array (inputs_of ins) v (given_input v h) (sym e))) ∙ ap (first_content_by (inputs_of ins) v) e
begins_given ins v (values.List l) g h e = absurd (no_port (is_input v.role) v.sort h (sym e))

pub given_some : (items : List Input) (name : List ℕ) (s : Sort) → sort_named (map signature items) name ≡ Some s → value_named items name ≡ None → ⊥
given_some items name s e g = absurd (cc (sort_given items name, ap (option_map sort_of) g))

pub given_sort : (items : List Input) (name : List ℕ) (s : Sort) (w : Value) → sort_named (map signature items) name ≡ Some s → value_named items name ≡ Some w
    → sort_of w ≡ s
given_sort items name s w e g = cc (sort_given items name, ap (option_map sort_of) g)

-- inputs of 0

pub zero_more : (items : List Input) (i : Input) → AllZero items → content_of i.value ≡ zero_content (sort_of i.value) → AllZero (items ++ i ∷ [])
zero_more [] i z e = (e, tt)
zero_more (x ∷ items) i z e = (z.0, zero_more items i z.1 e)

number_zero : (s : Sort) → number_of (zero_content s) ≡ pos 0
number_zero Scalar = refl
number_zero Array = refl
number_zero Port = refl

entries_zero : (s : Sort) (i : ℤ) → entries_of (zero_content s) i ≡ pos 0
entries_zero Scalar i = refl
entries_zero Array i = refl
entries_zero Port i = refl

number_cond : (b : Bool) (v : Value) (o : Option Value) → value_number (Some v) ≡ pos 0 → value_number o ≡ pos 0 → value_number (cond b (Some v) o) ≡ pos 0
number_cond true v o e f = e
number_cond false v o e f = f

entries_cond : (b : Bool) (v : Value) (o : Option Value) (i : ℤ) → entry_in (Some v) i ≡ pos 0 → entry_in o i ≡ pos 0 → entry_in (cond b (Some v) o) i ≡ pos 0
entries_cond true v o i e f = e
entries_cond false v o i e f = f

given_zero : (items : List Input) (name : List ℕ) → AllZero items → value_number (value_named items name) ≡ pos 0
given_zero [] name z = refl
given_zero (x ∷ rest) name z = number_cond (bytes_eq x.name name) x.value (value_named rest name)
    (number_content x.value ∙ ap number_of z.0 ∙ number_zero (sort_of x.value)) (given_zero rest name z.1)

given_zeros : (items : List Input) (name : List ℕ) (i : ℤ) → AllZero items → entry_in (value_named items name) i ≡ pos 0
given_zeros [] name i z = refl
given_zeros (x ∷ rest) name i z = entries_cond (bytes_eq x.name name) x.value (value_named rest name) i
    (entries_content x.value i ∙ ap (λ c. entries_of c i) z.0 ∙ entries_zero (sort_of x.value) i) (given_zeros rest name i z.1)

pub zeros_given : (ins : InputValues) → AllZero ins.items.items → inputs_of ins ≡ all_zero
zeros_given ins z = λ k. record { scalar = λ name. (given_zero ins.items.items name z) k; array = λ name i. (given_zeros ins.items.items name i z) k }

-- names differ, so each input has its sort

abbrev pub signatures_in : List VarInfo → List Signature
signatures_in vs = map (λ v. (v.name, v.sort)) (filter (λ v. is_input v.role) vs)

pub signatures_more : (vs : List VarInfo) (i : ℕ) (d : VarInfo) → i < length vs
    → signatures_in (take (i + 1) vs) ≡ signatures_in (take i vs) ++ signatures_in (get_or vs i d ∷ [])
signatures_more vs i d h = ap signatures_in (take_more vs i d h)
    ∙ ap (map (λ v. (v.name, v.sort))) (filter-append (λ v. is_input v.role) (take i vs) (get_or vs i d ∷ []))
    ∙ map-append (λ v. (v.name, v.sort)) (filter (λ v. is_input v.role) (take i vs)) (filter (λ v. is_input v.role) (get_or vs i d ∷ []))

pub signature_here : (v : VarInfo) → is_input v.role ≡ true → signatures_in (v ∷ []) ≡ (v.name, v.sort) ∷ []
signature_here v h = ap (λ b. map (λ (w : VarInfo). (w.name, w.sort)) (cond b (v ∷ []) [])) h

pub signature_not : (v : VarInfo) → is_input v.role ≡ false → signatures_in (v ∷ []) ≡ []
signature_not v h = ap (λ b. map (λ (w : VarInfo). (w.name, w.sort)) (cond b (v ∷ []) [])) h

name_is : (v : VarInfo) (rest : List VarInfo) (k : ℕ) (w : VarInfo) → list_any (λ m. bytes_eq m v.name) (map (λ u. u.name) rest) ≡ false
    → slice_get rest k ≡ Some w → bytes_eq w.name v.name ≡ false
name_is v [] k w n e = absurd (cc)
name_is v (x ∷ rest) zero w n e = let q : x ≡ w = cc in sym (ap (λ u. bytes_eq u.name v.name) q)
    ∙ neither_first (bytes_eq x.name v.name) (list_any (λ m. bytes_eq m v.name) (map (λ u. u.name) rest)) n
name_is v (x ∷ rest) (suc k) w n e =
    name_is v rest k w (neither_second (bytes_eq x.name v.name) (list_any (λ m. bytes_eq m v.name) (map (λ u. u.name) rest)) n) e

sort_first : (v : VarInfo) (rest : List VarInfo) → is_input v.role ≡ true → sort_named (signatures_in (v ∷ rest)) v.name ≡ Some v.sort
sort_first v rest h =
    ap (λ b. sort_named (map (λ (w : VarInfo). (w.name, w.sort)) (cond b (v ∷ filter (λ u. is_input u.role) rest) (filter (λ u. is_input u.role) rest))) v.name)
    h
    ∙ ap (λ b. cond b (Some v.sort) (sort_named (signatures_in rest) v.name)) ((bytes_eq-Decides v.name v.name).1 refl)

sort_later : (b : Bool) (v : VarInfo) (rest : List VarInfo) (w : VarInfo) → is_input v.role ≡ b → bytes_eq w.name v.name ≡ false
    → sort_named (signatures_in rest) w.name ≡ Some w.sort → sort_named (signatures_in (v ∷ rest)) w.name ≡ Some w.sort
sort_later true v rest w h n e =
    ap (λ b. sort_named (map (λ (w : VarInfo). (w.name, w.sort)) (cond b (v ∷ filter (λ u. is_input u.role) rest) (filter (λ u. is_input u.role) rest))) w.name)
    h
    ∙ ap (λ b. cond b (Some v.sort) (sort_named (signatures_in rest) w.name)) (bytes_eq-false_turned w.name v.name n) ∙ e
sort_later false v rest w h n e =
    ap (λ b. sort_named (map (λ (w : VarInfo). (w.name, w.sort)) (cond b (v ∷ filter (λ u. is_input u.role) rest) (filter (λ u. is_input u.role) rest))) w.name)
    h ∙ e

pub serves_own : (vs : List VarInfo) (k : ℕ) (w : VarInfo) → names_differ (map (λ v. v.name) vs) ≡ true → slice_get vs k ≡ Some w → is_input w.role ≡ true
    → sort_named (signatures_in vs) w.name ≡ Some w.sort
serves_own [] k w d e h = absurd (cc)
serves_own (v ∷ rest) zero w d e h = let q : v ≡ w = cc in
    subst (λ u. sort_named (signatures_in (v ∷ rest)) u.name ≡ Some u.sort) q (sort_first v rest (ap (λ u. is_input u.role) q ∙ h))
serves_own (v ∷ rest) (suc k) w d e h =
    let alone : list_any (λ m. bytes_eq m v.name) (map (λ u. u.name) rest) ≡ false =
    not-true _ (and_first (not (list_any (λ m. bytes_eq m v.name) (map (λ u. u.name) rest))) (names_differ (map (λ u. u.name) rest)) d) in
    sort_later (is_input v.role) v rest w refl (name_is v rest k w alone e)
    (serves_own rest k w (and_second (not (list_any (λ m. bytes_eq m v.name) (map (λ u. u.name) rest))) (names_differ (map (λ u. u.name) rest)) d) e h)

-- a copy of numbers
pub numbers_copied : (xs ys : List ℤ) → AllZip (λ p q. q ≡ p) xs ys → ys ≡ xs
numbers_copied [] [] z = refl
numbers_copied [] (y ∷ ys) z = absurd z
numbers_copied (x ∷ xs) [] z = absurd z
numbers_copied (x ∷ xs) (y ∷ ys) z = ap₂ (λ (a : ℤ) (b : List ℤ). a ∷ b) z.0 (numbers_copied xs ys z.1)

-- a copy of entries
pub entries_copied : (xs ys : List (ℤ × ℤ)) → AllZip (λ p q. (q.0 ≡ p.0) × (q.1 ≡ p.1)) xs ys → ys ≡ xs
entries_copied [] [] z = refl
entries_copied [] (y ∷ ys) z = absurd z
entries_copied (x ∷ xs) [] z = absurd z
entries_copied (x ∷ xs) (y ∷ ys) z = ap₂ (λ (a : ℤ × ℤ) (b : List (ℤ × ℤ)). a ∷ b) (ap₂ (λ (a b : ℤ). (a, b)) z.0.0 z.0.1) (entries_copied xs ys z.1)

sort_mapped : (o : Option Input) → option_map (λ (f : Signature). f.1) (option_map signature o) ≡ option_map (λ (i : Input). sort_of i.value) o
sort_mapped None = refl
sort_mapped (Some i) = refl

pub sort_at : (items : List Input) (k : ℕ) (o : Option Input) → o ≡ slice_get items k
    → option_map (λ (i : Input). sort_of i.value) o ≡ option_map (λ (f : Signature). f.1) (slice_get (map signature items) k)
sort_at items k o e = ap (option_map (λ (i : Input). sort_of i.value)) e
    ∙ sym (ap (option_map (λ (f : Signature). f.1)) (slice_get-map signature items k) ∙ sort_mapped (slice_get items k))
