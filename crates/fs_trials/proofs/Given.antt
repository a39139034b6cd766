-- What a candidate gives each input.
use Rattle.std.proofs.Common.{◌≡◌, ◌≢◌, ℕ, zero, suc, ◌+◌, ◌<◌, ◌≤◌, Bool, true, false, cond, List, [], ◌∷◌, length, refl, sym, ◌∙◌, ap, subst, arith, inl, inr}
use Rattle.std.proofs.Common.{add-zero}
use Rattle.std.specs.Prelude.{ℤ, pos, negsuc, Option, Some, None, map, slice_get, slice_set, nat_lt, option_map}
use Rattle.std.specs.List.{filter}
use Rattle.std.specs.Ordering.{int_eq}
use Rattle.std.specs.Str.{bytes_eq}
use Rattle.std.proofs.lemmas.Bool.{cases_lt, false≢true}
use Rattle.std.proofs.lemmas.Bool.Decides.{nat_tests, Decides-int_eq}
use Rattle.std.proofs.lemmas.List.{map-set}
use Rattle.std.proofs.lemmas.Option.{slice_get_within}
use Rattle.fs_model.proofs.Lists.{slice_get-none, length_map}
use Rattle.fs_model.proofs.Options.{none_from_map}
use Rattle.fs_model.specs.declared.parts.Sort.{Sort}
use Rattle.fs_model.specs.declared.parts.VarInfo.{VarInfo}
use Rattle.fs_model.specs.Runs.{Content, Entries, is_input}
use Rattle.fs_stores.specs.declared.values.Value.{Value}
use Rattle.fs_stores.specs.declared.values.Value.TheVariants as values
use Rattle.fs_stores.specs.declared.inputs.Input.{Input}
use Rattle.fs_stores.specs.declared.inputs.Inputs.{Inputs as InputValues}
use Rattle.fs_stores.specs.Values.{content_of, value_number, entry_in}
use Rattle.fs_stores.specs.InputValues.{Signature, input_signatures, signature, value_named, input_values, inputs_of, signatures_of}
use Rattle.fs_runs.specs.Outcomes.{outputs_by_name}
use Rattle.fs_trials.specs.Candidates.{Candidate, content_at, array_of, contents, number_told, array_told, inputs_told}

-- ---- values by name and contents in order

number_of_value : (v : Value) → value_number (Some v) ≡ number_told (Some (content_of v))
number_of_value (values.Num n) = refl
number_of_value (values.Arr e) = refl
number_of_value (values.List l) = refl

array_of_value : (v : Value) (i : ℤ) → entry_in (Some v) i ≡ array_told (Some (content_of v)) i
array_of_value (values.Num n) i = refl
array_of_value (values.Arr e) i = refl
array_of_value (values.List l) i = refl

abbrev names_in : List Input → List (List ℕ)
names_in items = map (λ (f : Signature). f.0) (map signature items)

abbrev contents_in : List Input → List Content
contents_in items = map content_of (map (λ (i : Input). i.value) items)

numbers_told : (items : List Input) (name : List ℕ)
    → value_number (value_named items name) ≡ number_told (outputs_by_name (names_in items) (contents_in items) name)
numbers_told [] name = refl
numbers_told (x ∷ rest) name =
    elim (bytes_eq x.name name) as (λ b. value_number (cond b (Some x.value) (value_named rest name))
    ≡ number_told (cond b (Some (content_of x.value)) (outputs_by_name (names_in rest) (contents_in rest) name))) [
      | true ↦ number_of_value x.value
      | false ↦ numbers_told rest name
    ]

arrays_told : (items : List Input) (name : List ℕ) (i : ℤ)
    → entry_in (value_named items name) i ≡ array_told (outputs_by_name (names_in items) (contents_in items) name) i
arrays_told [] name i = refl
arrays_told (x ∷ rest) name i =
    elim (bytes_eq x.name name) as (λ b. entry_in (cond b (Some x.value) (value_named rest name)) i
    ≡ array_told (cond b (Some (content_of x.value)) (outputs_by_name (names_in rest) (contents_in rest) name)) i) [
      | true ↦ array_of_value x.value i
      | false ↦ arrays_told rest name i
    ]

as_told : (ins : InputValues) → inputs_of ins ≡ inputs_told (signatures_of ins) (map content_of (input_values ins))
as_told ins = λ k. record { scalar = λ name. (numbers_told ins.items.items name) k; array = λ name i. (arrays_told ins.items.items name i) k }

-- values with these contents are these inputs
pub inputs_are : (ins : InputValues) (fs : List Signature) (cs : List Content) → signatures_of ins ≡ fs → map content_of (input_values ins) ≡ cs
    → inputs_of ins ≡ inputs_told fs cs
inputs_are ins fs cs e f = as_told ins ∙ ap (λ gs. inputs_told gs (map content_of (input_values ins))) e ∙ ap (inputs_told fs) f

-- ---- one input after another

-- the first k contents are those that a candidate gives
abbrev pub AreGiven : Candidate → (k : ℕ) → List Content → List Signature → Type 0
AreGiven g k cs fs = (i : ℕ) → i < k → slice_get cs i ≡ slice_get (contents g 0 fs) i

contents_get : (g : Candidate) (m k : ℕ) (fs : List Signature) (f : Signature) → slice_get fs k ≡ Some f
    → slice_get (contents g m fs) k ≡ Some (content_at g (m + k) f.1)
contents_get g m k [] f e = absurd (cc)
contents_get g m zero (h ∷ fs) f e = let same : h ≡ f = cc in ap (λ x. Some (content_at g m x.1)) same ∙ ap (λ n. Some (content_at g n f.1)) (sym (add-zero m))
contents_get g m (suc k) (h ∷ fs) f e =
    let place : (m + 1) + k ≡ m + suc k = omega arith in
    contents_get g (m + 1) k fs f e ∙ ap (λ n. Some (content_at g n f.1)) place

contents_count : (g : Candidate) (m : ℕ) (fs : List Signature) → length (contents g m fs) ≡ length fs
contents_count g m [] = refl
contents_count g m (f ∷ fs) = ap suc (contents_count g (m + 1) fs)

pub as_many : (items : List Input) → length (contents_in items) ≡ length (map signature items)
as_many items = length_map content_of (map (λ (i : Input). i.value) items) ∙ length_map (λ (i : Input). i.value) items ∙ sym (length_map signature items)

get_set_here : {A : Type 0} (xs : List A) (k : ℕ) (x : A) → k < length xs → slice_get (slice_set xs k x) k ≡ Some x
get_set_here [] k x h = absurd (omega arith)
get_set_here (y ∷ xs) zero x h = refl
get_set_here (y ∷ xs) (suc k) x h = get_set_here xs k x (omega arith)

get_set_before : {A : Type 0} (xs : List A) (k i : ℕ) (x : A) → i < k → slice_get (slice_set xs k x) i ≡ slice_get xs i
get_set_before [] k i x h = refl
get_set_before (y ∷ xs) zero i x h = absurd (omega arith)
get_set_before (y ∷ xs) (suc k) zero x h = refl
get_set_before (y ∷ xs) (suc k) (suc i) x h = get_set_before xs k i x (omega arith)

there : {A B : Type 0} (f : A → B) (o : Option A) (y : B) → option_map f o ≡ Some y → (x : A) × (o ≡ Some x) × (f x ≡ y)
there f None y e = absurd (cc)
there f (Some x) y e = let same : f x ≡ y = cc in (x, refl, same)

-- one more input gets what the candidate gives it
pub given_more : (g : Candidate) (k : ℕ) (old new : List Value) (fs : List Signature) (s : Sort) (v : Value) → length (map content_of old) ≡ length fs
    → option_map (λ (f : Signature). f.1) (slice_get fs k) ≡ Some s
    → content_of v ≡ content_at g k s → new ≡ slice_set old k v → AreGiven g k (map content_of old) fs → AreGiven g (k + 1) (map content_of new) fs
given_more g k old new fs s v count sort own put before i less =
    let cs = map content_of old in
    let f = there (λ (h : Signature). h.1) (slice_get fs k) s sort in
    let low : k < length fs = slice_get_within fs k f.0 f.1 in
    let all : map content_of new ≡ slice_set cs k (content_of v) = ap (map content_of) put ∙ map-set content_of old k v in
    let here : slice_get (slice_set cs k (content_of v)) k ≡ Some (content_of v) = get_set_here cs k (content_of v) (omega arith) in
    let wanted : slice_get (contents g 0 fs) k ≡ Some (content_at g (0 + k) f.0.1) = contents_get g 0 k fs f.0 f.1 in
    let zero_place : 0 + k ≡ k = omega arith in
    let given_here : slice_get (contents g 0 fs) k ≡ Some (content_at g k s) = wanted ∙ ap (λ n. Some (content_at g n f.0.1)) zero_place
    ∙ ap (λ t. Some (content_at g k t)) f.2 in
    ap (λ ds. slice_get ds i) all
    ∙ elim (cases_lt i k) as (λ _. slice_get (slice_set cs k (content_of v)) i ≡ slice_get (contents g 0 fs) i) [
      | inl earlier ↦ get_set_before cs k i (content_of v) earlier ∙ before i earlier
      | inr later ↦
          let same : k ≡ i = omega arith in
          subst (λ n. slice_get (slice_set cs k (content_of v)) n ≡ slice_get (contents g 0 fs) n) same (here ∙ ap Some own ∙ sym given_here)
    ]

same_lists : {A : Type 0} (xs ys : List A) → length xs ≡ length ys → ((i : ℕ) → i < length xs → slice_get xs i ≡ slice_get ys i) → xs ≡ ys
same_lists [] [] e each = refl
same_lists [] (y ∷ ys) e each = absurd (omega arith)
same_lists (x ∷ xs) [] e each = absurd (omega arith)
same_lists (x ∷ xs) (y ∷ ys) e each =
    let first : Some x ≡ Some y = each 0 (omega arith) in
    let head : x ≡ y = cc in
    let rest : xs ≡ ys = same_lists xs ys (omega arith) (λ i h. each (suc i) (omega arith)) in
    cc

-- all inputs have what the candidate gives them
pub given_all : (g : Candidate) (k : ℕ) (cs : List Content) (fs : List Signature) → length cs ≡ length fs → length fs ≤ k → AreGiven g k cs fs
    → cs ≡ contents g 0 fs
given_all g k cs fs count all each = same_lists cs (contents g 0 fs) (count ∙ sym (contents_count g 0 fs)) (λ i h. each i (omega arith))

pub past_all : (fs : List Signature) (k : ℕ) → option_map (λ (f : Signature). f.1) (slice_get fs k) ≡ None → length fs ≤ k
past_all fs k e = slice_get-none fs k (none_from_map (λ (f : Signature). f.1) (slice_get fs k) e)

-- ---- arrays

pub filled_more : (numbers : ℕ → ℤ) (k : ℕ) (v : ℤ) (old new : ℤ → ℤ) → v ≡ numbers k → ((x : ℤ) → new x ≡ cond (int_eq (pos k) x) v (old x))
    → ((x : ℤ) → old x ≡ array_of numbers k 0 x) → (x : ℤ) → new x ≡ array_of numbers (k + 1) 0 x
filled_more numbers k v old new e put before (negsuc i) =
    let none : nat_lt i 0 ≡ false = grind (arith, nat_tests) in
    put (negsuc i) ∙ before (negsuc i) ∙ ap (λ b. cond b (numbers (k + i)) (pos 0)) none ∙ sym (ap (λ b. cond b (numbers ((k + 1) + i)) (pos 0)) none)
filled_more numbers k v old new e put before (pos i) =
    put (pos i)
    ∙ elim (int_eq (pos k) (pos i)) as (λ b. int_eq (pos k) (pos i) ≡ b → cond b v (old (pos i)) ≡ cond (nat_lt i (k + 1)) (numbers i) (pos 0)) [
      | true ↦ λ same.
          let whole : pos k ≡ pos i = (Decides-int_eq (pos k) (pos i)).0 same in
          let number : k ≡ i = cc in
          let inside : nat_lt i (k + 1) ≡ true = grind (arith, nat_tests) in
          e ∙ ap numbers number ∙ ap (λ b. cond b (numbers i) (pos 0)) (sym inside)
      | false ↦ λ apart.
          let differ : k ≢ i = λ q. false≢true (sym apart ∙ (Decides-int_eq (pos k) (pos i)).1 (ap pos q)) in
          let test : nat_lt i k ≡ nat_lt i (k + 1) = grind (arith, nat_tests) in
          before (pos i) ∙ ap (λ b. cond b (numbers i) (pos 0)) test
    ] refl

-- one more index below 0 has a number
pub below_more : (numbers : ℕ → ℤ) (filled m : ℕ) (v : ℤ) (old new : ℤ → ℤ) → v ≡ numbers (filled + m)
    → ((x : ℤ) → new x ≡ cond (int_eq (negsuc m) x) v (old x)) → ((x : ℤ) → old x ≡ array_of numbers filled m x)
    → (x : ℤ) → new x ≡ array_of numbers filled (m + 1) x
below_more numbers filled m v old new e put before (pos i) = put (pos i) ∙ before (pos i)
below_more numbers filled m v old new e put before (negsuc i) =
    put (negsuc i)
    ∙ elim (int_eq (negsuc m) (negsuc i)) as (λ b. int_eq (negsuc m) (negsuc i) ≡ b
    → cond b v (old (negsuc i)) ≡ cond (nat_lt i (m + 1)) (numbers (filled + i)) (pos 0)) [
      | true ↦ λ same.
          let whole : negsuc m ≡ negsuc i = (Decides-int_eq (negsuc m) (negsuc i)).0 same in
          let number : m ≡ i = cc in
          let inside : nat_lt i (m + 1) ≡ true = grind (arith, nat_tests) in
          e ∙ ap (λ n. numbers (filled + n)) number ∙ ap (λ b. cond b (numbers (filled + i)) (pos 0)) (sym inside)
      | false ↦ λ apart.
          let differ : m ≢ i = λ q. false≢true (sym apart ∙ (Decides-int_eq (negsuc m) (negsuc i)).1 (ap negsuc q)) in
          let test : nat_lt i m ≡ nat_lt i (m + 1) = grind (arith, nat_tests) in
          before (negsuc i) ∙ ap (λ b. cond b (numbers (filled + i)) (pos 0)) test
    ] refl

pub entries_are : (f g : ℤ → ℤ) → ((i : ℤ) → f i ≡ g i) → Entries f ≡ Entries g
entries_are f g each = ap Entries (λ j i. each i j)

-- ---- which candidate it is

pub of_pool : {A : Type 0} (j n : ℕ) (x y : A) → j < n → cond (nat_lt j n) x y ≡ x
of_pool j n x y h = let test : nat_lt j n ≡ true = grind (arith, nat_tests) in ap (λ b. cond b x y) test

pub of_further : {A : Type 0} (j n : ℕ) (x y : A) → n ≤ j → cond (nat_lt j n) x y ≡ y
of_further j n x y h = let test : nat_lt j n ≡ false = grind (arith, nat_tests) in ap (λ b. cond b x y) test

-- ---- how many inputs there are

few_kept : (f : VarInfo → Bool) (vs : List VarInfo) → length (filter f vs) ≤ length vs
few_kept f [] = omega arith
few_kept f (v ∷ vs) =
    let rest = few_kept f vs in
    elim (f v) as (λ b. length (cond b (v ∷ filter f vs) (filter f vs)) ≤ suc (length vs)) [
      | true ↦ omega arith
      | false ↦ omega arith
    ]

abbrev variable_signature : VarInfo → Signature
variable_signature v = (v.name, v.sort)

pub few_inputs : (vs : List VarInfo) → length (input_signatures vs) ≤ length vs
few_inputs vs =
    let kept = few_kept (λ v. is_input v.role) vs in
    let count : length (input_signatures vs) ≡ length (filter (λ v. is_input v.role) vs) = length_map variable_signature (filter (λ v. is_input v.role) vs) in
    omega arith
