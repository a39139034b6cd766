-- The inputs that were told, and the text of a counterexample.
use Rattle.std.proofs.Common.{◌≡◌, ℕ, suc, ◌+◌, ◌<◌, ◌≤◌, true, false, List, [], ◌∷◌, ◌++◌, length, drop, get_or, refl, sym, ◌∙◌, ap, subst, arith}
use Rattle.std.proofs.Common.{append_assoc, append-nil, Vec, Global}
use Rattle.std.proofs.lemmas.List.{drop_all, length-map}
use Rattle.std.proofs.lemmas.Option.{slice_get_within, get_or_from_slice_get}
use Rattle.std.specs.Prelude.{Result, Ok, Err, IfOk, Some, map, slice_get}
use Rattle.fs_model.proofs.Lists.{drop_next}
use Rattle.fs_model.specs.declared.parts.VarInfo.{VarInfo}
use Rattle.fs_model.specs.Runs.{Content, is_input}
use Rattle.fs_stores.specs.declared.inputs.Inputs.{Inputs as InputValues}
use Rattle.fs_stores.specs.Values.{content_of}
use Rattle.fs_stores.specs.InputValues.{input_values, signatures_of, input_signatures}
use Rattle.fs_runs.specs.Outcomes.{Outputs}
use Rattle.fs_run_text.specs.ItemTexts.{AreItems, IsGiven, AreGiven, input_names}
use Rattle.fs_run_text.specs.EndTexts.{IsCounterexampleText, counterexample_text}

-- items that complete those that are told so far
abbrev pub Completes : (names : List (List ℕ)) → List Content → (items restnames : List (List ℕ)) → List Content → Type 0
Completes names cs items ns rest = (more : List (List ℕ)) → AreGiven ns rest more → AreGiven names cs (items ++ more)

names_here : (v : VarInfo) (vs : List VarInfo) → is_input v.role ≡ true → input_names (v ∷ vs) ≡ v.name ∷ input_names vs
names_here v vs e = rw e refl

names_away : (v : VarInfo) (vs : List VarInfo) → is_input v.role ≡ false → input_names (v ∷ vs) ≡ input_names vs
names_away v vs e = rw e refl

-- one more variable, with a number that counts the inputs among those before it
pub record Steps (names : List (List ℕ)) (cs : List Content) (items : List (List ℕ)) (vs : List VarInfo) (i k : ℕ) : Type 0 where
  pub told : Completes names cs items (input_names (drop i vs)) (drop k cs)
  pub left : k + length (input_names (drop i vs)) ≡ length cs
  pub counted : k ≤ i

pub first_step : (names : List (List ℕ)) (cs : List Content) (vs : List VarInfo) → names ≡ input_names vs → length names ≡ length cs → Steps names cs [] vs 0 0
first_step names cs vs e h = record {
  told = λ more rest. subst (λ ns. AreGiven ns cs more) (sym e) rest;
  left = omega (arith, ap length (sym e), h);
  counted = omega arith;
}

pub names_many : (ins : InputValues) (vs : List VarInfo) → signatures_of ins ≡ input_signatures vs
    → length (input_names vs) ≡ length (map content_of (input_values ins))
names_many ins vs e = simp length-map (simp length-map at (ap length (sym e)))

-- an input has a number among them
pub has_number : (names : List (List ℕ)) (ins : InputValues) (items : List (List ℕ)) (vs : List VarInfo) (i k : ℕ) (v : VarInfo)
    → Steps names (map content_of (input_values ins)) items vs i k → i < length vs → v ≡ get_or vs i v → is_input v.role ≡ true → k < length (signatures_of ins)
has_number names ins items vs i k v s h e r =
    let many : length (input_names (drop i vs)) ≡ suc (length (input_names (drop (i + 1) vs))) =
    ap length (ap input_names (drop_next vs i v h e) ∙ names_here v (drop (i + 1) vs) r) in
    let same : length (signatures_of ins) ≡ length (map content_of (input_values ins)) = simp length-map in
    omega (arith, s.left)

pub one_told : (names : List (List ℕ)) (cs : List Content) (items : List (List ℕ)) (vs : List VarInfo) (i k : ℕ) (v : VarInfo) (c : Content) (item : List ℕ)
    → Steps names cs items vs i k → i < length vs → v ≡ get_or vs i v → is_input v.role ≡ true → slice_get cs k ≡ Some c → IsGiven v.name c item
    → Steps names cs (items ++ item ∷ []) vs (i + 1) (k + 1)
one_told names cs items vs i k v c item s h e r g given =
    let here : input_names (drop i vs) ≡ v.name ∷ input_names (drop (i + 1) vs) = ap input_names (drop_next vs i v h e) ∙ names_here v (drop (i + 1) vs) r in
    let those : drop k cs ≡ c ∷ drop (k + 1) cs = drop_next cs k c (slice_get_within cs k c g) (sym (get_or_from_slice_get cs k c c g)) in
    let many : length (input_names (drop i vs)) ≡ suc (length (input_names (drop (i + 1) vs))) = ap length here in
    record {
      told = λ more rest.
          subst (AreGiven names cs) (sym (append_assoc items (item ∷ []) more))
          (s.told (item ∷ more)
          (subst (λ ns. AreGiven ns (drop k cs) (item ∷ more)) (sym here)
          (subst (λ xs. AreGiven (v.name ∷ input_names (drop (i + 1) vs)) xs (item ∷ more)) (sym those) (given, rest))));
      left = omega (arith, s.left);
      counted = omega (arith, s.counted);
    }

pub none_told : (names : List (List ℕ)) (cs : List Content) (items : List (List ℕ)) (vs : List VarInfo) (i k : ℕ) (v : VarInfo)
    → Steps names cs items vs i k → i < length vs → v ≡ get_or vs i v → is_input v.role ≡ false → Steps names cs items vs (i + 1) k
none_told names cs items vs i k v s h e r =
    let here : input_names (drop i vs) ≡ input_names (drop (i + 1) vs) = ap input_names (drop_next vs i v h e) ∙ names_away v (drop (i + 1) vs) r in
    record {
      told = λ more rest. s.told more (subst (λ ns. AreGiven ns (drop k cs) more) (sym here) rest);
      left = ap (λ ns. k + length ns) (sym here) ∙ s.left;
      counted = omega (arith, s.counted);
    }

-- with no variable left all are told
pub all_told : (names : List (List ℕ)) (cs : List Content) (items : List (List ℕ)) (vs : List VarInfo) (i k : ℕ) → Steps names cs items vs i k → length vs ≤ i
    → AreGiven names cs items
all_told names cs items vs i k s h =
    let none : input_names (drop i vs) ≡ [] = ap input_names (drop_all i vs h) in
    let few : length (input_names (drop i vs)) ≡ 0 = ap length none in
    let end : drop k cs ≡ [] = drop_all k cs (omega (arith, s.left)) in
    subst (AreGiven names cs) (append-nil items)
    (s.told [] (subst (λ ns. AreGiven ns (drop k cs) []) (sym none) (subst (λ xs. AreGiven [] xs []) (sym end) tt)))

pub is_text : {E : Type 0} (r : Result (Vec ℕ Global) E) (inputs : List (List ℕ)) (contents : List Content) (names : List (List ℕ)) (left right : Outputs)
    (items lefts rights : List (List ℕ)) (text : List ℕ)
    → AreGiven inputs contents items → AreItems left names lefts → AreItems right names rights → text ≡ counterexample_text items lefts rights
    → IfOk r (λ t. t.items ≡ text) → IfOk r (λ t. IsCounterexampleText inputs contents names left right t.items)
is_text (Ok t) inputs contents names left right items lefts rights text g l r e h =
    record { items = items; lefts = lefts; rights = rights; are_given = g; are_lefts = l; are_rights = r; spelled = h ∙ e }
is_text (Err x) inputs contents names left right items lefts rights text g l r e h = tt
