-- Bytes are one thing as a binding of a machine, which gets one answer by it.
use Rattle.std.proofs.Common.{◌≡◌, ℕ, Bool, true, false, List, [], ◌∷◌, Option, Some, refl, sym, ◌∙◌, ap, subst, arith}
use Rattle.std.specs.Prelude.{◌&&◌, ◌||◌, ◌==◌, nat_lt}
use Rattle.std.specs.declared.cmp.Ordering.TheVariants.{Less}
use Rattle.std.specs.Ordering.{nat_cmp}
use Rattle.std.specs.List.{list_any, AllByRecursion}
use Rattle.std.specs.List.Sorted.{IsStrictlySortedBy}
use Rattle.std.specs.Cmp.Lexicographic.{slice_cmp, nat_list_cmp_total}
use Rattle.std.specs.Str.{bytes_eq}
use Rattle.std.proofs.lemmas.Bool.Decides.{nat_tests}
use Rattle.std.proofs.lemmas.Slice.Eq.{bytes_eq-Decides}
use Rattle.std.proofs.lemmas.Bool.{or_right}
use Rattle.std.proofs.lemmas.Option.{same_Some}
use Rattle.fs_model.proofs.Lists.{bytes_eq-true}
use Rattle.serde_json.specs.Data.{Data}
use Rattle.serde_json.specs.Find.{as_object}
use Rattle.fs_model.specs.declared.parts.VarInfo.{VarInfo}
use Rattle.fs_model.specs.Machines.{Fsmd}
use Rattle.fs_model.specs.Source.{Source}
use Rattle.fs_rules.specs.MachineOfParts.{machine_of}
use Rattle.fs_write.specs.Canonical.{canonical}
use Rattle.hls_bind.specs.Bindings.{AreRegisters, bound_parts}
use Rattle.hls_bind.specs.Conflicts.{Conflict, IsTwice, IsFirstConflict, conflict_is_before}
use Rattle.hls_bind.specs.declared.faults.Fault.{Fault}
use Rattle.base_json_files.proofs.Once.{one_value}
use Rattle.hls_bind.specs.BindingMembers.{GivenBy, GivesBinding, HasFaultyBinding, binding_file_fault, binding_from}
use Rattle.hls_bind.specs.Results.{IsBoundParts}
use Rattle.fsmd_replies.specs.declared.answer.Answer.{Answer}
use Rattle.fsmd_replies.specs.declared.answer.Answer.TheVariants.{Text, Differs}
use Rattle.fsmd_synthesis_answers.specs.BindingAnswers.{Binding, conflict_text}
use Rattle.fsmd_tool.specs.BindingFiles.{binding_fault, HasBindingFault, SpellsBinding, RefusesBinding, IsOfBinding, IsBound, Loses}
use Rattle.fsmd_tool_laws.proofs.Contents.{some_none, OpensInOneWay}
use Rattle.fsmd_tool_laws.proofs.Keys.{AreOneThing, keys_open}

-- ---- files

given_once : (vs : List VarInfo) (d : Data) (x y : Binding) → GivenBy vs d x → GivenBy vs d y → x ≡ y
given_once vs d x y p q = p.binding ∙ ap (binding_from 0 vs) (same_Some p.members q.members (sym p.object ∙ q.object)) ∙ sym q.binding

gives_once : (vs : List VarInfo) (bytes : List ℕ) (x y : Binding) → GivesBinding vs bytes x → GivesBinding vs bytes y → x ≡ y
gives_once vs bytes x y p q = given_once vs q.value x y (subst (λ d. GivenBy vs d x) (one_value bytes p.value q.value p.json q.json) p.given) q.given

faulty_once : (vs : List VarInfo) (bytes n k : List ℕ) (f g : Fault) → HasFaultyBinding vs bytes n f → HasFaultyBinding vs bytes k g
    → Path (List ℕ × Fault) (n, f) (k, g)
faulty_once vs bytes n k f g p q =
    let value : p.value ≡ q.value = one_value bytes p.value q.value p.json q.json in
    let first : Path (Option (List ℕ × Fault)) (Some (n, f)) (Some (k, g)) = sym p.first ∙ ap (λ d. binding_file_fault vs (as_object d)) value ∙ q.first in
    same_Some (n, f) (k, g) first

faultless : (vs : List VarInfo) (d : Data) (b : Binding) (name : List ℕ) (f : Fault) → GivenBy vs d b → binding_file_fault vs (as_object d) ≡ Some (name, f) → ⊥
faultless vs d b name f p e = some_none (name, f) (binding_file_fault vs (as_object d)) e (ap (binding_file_fault vs) p.object ∙ p.faultless)

given_or_faulty : (vs : List VarInfo) (bytes : List ℕ) (b : Binding) (name : List ℕ) (f : Fault) → GivesBinding vs bytes b
    → HasFaultyBinding vs bytes name f → ⊥
given_or_faulty vs bytes b name f p q = faultless vs q.value b name f
    (subst (λ d. GivenBy vs d b) (one_value bytes p.value q.value p.json q.json) p.given) q.first

-- bytes are one thing as a binding of a machine
bindings_are_one : (m : Fsmd) → AreOneThing Binding (HasBindingFault m) (SpellsBinding m)
bindings_are_one m = record {
  few_without = λ b p. p.few;
  few_faulty = λ b f k p. p.few;
  few_spelled = λ b v p. p.few;
  without_or_faulty = λ b f k p q. p.refused q.faulty.value q.faulty.json;
  without_or_spelled = λ b v p q. p.refused q.gives.value q.gives.json;
  faulty_or_spelled = λ b f k v p q. given_or_faulty m.variables b v k p.kind q.gives p.faulty;
  one_fault = λ b f g k j p q.
      let same = faulty_once m.variables b k j p.kind q.kind p.faulty q.faulty in
      ap (λ h. (h, k)) p.is ∙ ap (λ (t : List ℕ × Fault). (binding_fault t.1, t.0)) same ∙ ap (λ h. (h, j)) (sym q.is);
  one_value = λ b v w p q. gives_once m.variables b v w p.gives q.gives;
}

-- the file of a machine's binding is one thing
pub binding_opens : (m : Fsmd) → OpensInOneWay Binding (RefusesBinding m) (SpellsBinding m)
binding_opens m = keys_open Binding (HasBindingFault m) (SpellsBinding m) (bindings_are_one m)

-- ---- sorted names are one list

abbrev is_among : List ℕ → List (List ℕ) → Bool
is_among n ns = list_any (λ m. bytes_eq m n) ns

not_below : (x : List ℕ) → slice_cmp nat_cmp x x ≡ Less → ⊥
not_below x h = let a = nat_list_cmp_total.antisymm x x in cc

less_is_one_way : (x y : List ℕ) → slice_cmp nat_cmp x y ≡ Less → slice_cmp nat_cmp y x ≡ Less → ⊥
less_is_one_way x y g h = let a = nat_list_cmp_total.antisymm x y in cc

first_among : (n : List ℕ) (ns : List (List ℕ)) → is_among n (n ∷ ns) ≡ true
first_among n ns = ap (λ b. b || is_among n ns) ((bytes_eq-Decides n n).1 refl)

-- a name that is among others is the first of them, or among the rest
split_by : (R : Type 0) (n m : List ℕ) (ms : List (List ℕ)) (t : Bool) → bytes_eq m n ≡ t → (t || is_among n ms) ≡ true → (m ≡ n → R)
    → (is_among n ms ≡ true → R) → R
split_by R n m ms true e h f g = f (bytes_eq-true m n e)
split_by R n m ms false e h f g = g h

split : (R : Type 0) (n m : List ℕ) (ms : List (List ℕ)) → is_among n (m ∷ ms) ≡ true → (m ≡ n → R) → (is_among n ms ≡ true → R) → R
split R n m ms h f g = split_by R n m ms (bytes_eq m n) refl h f g

below_all : (x : List ℕ) (ys : List (List ℕ)) → AllByRecursion (λ y. slice_cmp nat_cmp x y ≡ Less) ys → (n : List ℕ) → is_among n ys ≡ true
    → slice_cmp nat_cmp x n ≡ Less
below_all x [] h n t = absurd (cc t)
below_all x (y ∷ ys) h n t = split (slice_cmp nat_cmp x n ≡ Less) n y ys t (λ e. subst (λ z. slice_cmp nat_cmp x z ≡ Less) e h.0) (λ u. below_all x ys h.1 n u)

same_heads : (x y : List ℕ) (xs ys : List (List ℕ)) → AllByRecursion (λ z. slice_cmp nat_cmp x z ≡ Less) xs
    → AllByRecursion (λ z. slice_cmp nat_cmp y z ≡ Less) ys → is_among x (y ∷ ys) ≡ true → is_among y (x ∷ xs) ≡ true → x ≡ y
same_heads x y xs ys p q f g =
    split (x ≡ y) x y ys f (λ e. sym e)
    (λ u. split (x ≡ y) y x xs g (λ e. e) (λ v. absurd (less_is_one_way x y (below_all x xs p y v) (below_all y ys q x u))))

-- what is behind the first of one list is behind that of the other
behind : (x y : List ℕ) (xs ys : List (List ℕ)) → x ≡ y → AllByRecursion (λ z. slice_cmp nat_cmp x z ≡ Less) xs
    → ((n : List ℕ) → is_among n (x ∷ xs) ≡ true → is_among n (y ∷ ys) ≡ true) → (n : List ℕ) → is_among n xs ≡ true → is_among n ys ≡ true
behind x y xs ys e p f n h =
    split (is_among n ys ≡ true) n y ys (f n (or_right (bytes_eq x n) (is_among n xs) h))
    (λ g. absurd (not_below x (subst (λ z. slice_cmp nat_cmp x z ≡ Less) (sym (e ∙ g)) (below_all x xs p n h))))
    (λ u. u)

sorted_once : (xs ys : List (List ℕ)) → IsStrictlySortedBy (slice_cmp nat_cmp) xs → IsStrictlySortedBy (slice_cmp nat_cmp) ys
    → ((n : List ℕ) → is_among n xs ≡ true → is_among n ys ≡ true) → ((n : List ℕ) → is_among n ys ≡ true → is_among n xs ≡ true) → xs ≡ ys
unfolding IsStrictlySortedBy
sorted_once [] [] s t f g = refl
sorted_once [] (y ∷ ys) s t f g = absurd (let h = g y (first_among y ys) in cc h)
sorted_once (x ∷ xs) [] s t f g = absurd (let h = f x (first_among x xs) in cc h)
sorted_once (x ∷ xs) (y ∷ ys) s t f g =
    let head = same_heads x y xs ys s.0 t.0 (f x (first_among x xs)) (g y (first_among y ys)) in
    let tail = sorted_once xs ys s.1 t.1 (behind x y xs ys head s.0 f) (behind y x ys xs (sym head) t.0 g) in
    ap (λ z. z ∷ xs) head ∙ ap (λ zs. y ∷ zs) tail

registers_once : (b : Binding) (rs ss : List (List ℕ)) → AreRegisters b rs → AreRegisters b ss → rs ≡ ss
registers_once b rs ss p q =
    sorted_once rs ss p.in_order q.in_order (λ n h. let r = p.only n h in q.all r.0 n r.1) (λ n h. let r = q.only n h in p.all r.0 n r.1)

bound_once : (b : Binding) (p q r : Source) → IsBoundParts b p q → IsBoundParts b p r → q ≡ r
bound_once b p q r s t = s.parts ∙ ap (λ rs. bound_parts b rs p) (registers_once b s.registers t.registers s.are t.are) ∙ sym t.parts

-- ---- the first conflict is one

level_same : (a b : ℕ) (t u : Bool) → (nat_lt a b || (a == b && t)) ≡ false → (nat_lt b a || (b == a && u)) ≡ false → a ≡ b
level_same a b t u e f = grind (arith, nat_tests)

level_left : (a b : ℕ) (t u : Bool) → (nat_lt a b || (a == b && t)) ≡ false → (nat_lt b a || (b == a && u)) ≡ false → t ≡ false
level_left a b t u e f = grind (arith, nat_tests)

level_right : (a b : ℕ) (t u : Bool) → (nat_lt a b || (a == b && t)) ≡ false → (nat_lt b a || (b == a && u)) ≡ false → u ≡ false
level_right a b t u e f = grind (arith, nat_tests)

last_same : (a b : ℕ) → nat_lt a b ≡ false → nat_lt b a ≡ false → a ≡ b
last_same a b e f = grind (arith, nat_tests)

conflict_once : (c d : Conflict) → conflict_is_before c d ≡ false → conflict_is_before d c ≡ false → c ≡ d
conflict_once c d e f =
    let l = level_left c.state d.state _ _ e f in
    let r = level_right c.state d.state _ _ e f in
    let l2 = level_left c.branch d.branch _ _ l r in
    let r2 = level_right c.branch d.branch _ _ l r in
    let l3 = level_left c.written d.written _ _ l2 r2 in
    let r3 = level_right c.written d.written _ _ l2 r2 in
    let state = level_same c.state d.state _ _ e f in
    let branch = level_same c.branch d.branch _ _ l r in
    let written = level_same c.written d.written _ _ l2 r2 in
    let other = last_same c.other d.other l3 r3 in
    λ i. record { state = state i; branch = branch i; written = written i; other = other i }

twice_once : (t u : Bool) (P : Type 0) → (t ≡ true → P) → (t ≡ false → P → ⊥) → (u ≡ true → P) → (u ≡ false → P → ⊥) → t ≡ u
twice_once true true P f g h k = refl
twice_once true false P f g h k = absurd (k refl (f refl))
twice_once false true P f g h k = absurd (g refl (h refl))
twice_once false false P f g h k = refl

first_once : (b : Binding) (m : Fsmd) (c d : Conflict) (t u : Bool) → IsFirstConflict b m c t → IsFirstConflict b m d u
    → conflict_text m c t ≡ conflict_text m d u
first_once b m c d t u p q =
    let same = conflict_once c d (q.first c p.conflict) (p.first d q.conflict) in
    let r : IsFirstConflict b m d t = subst (λ k. IsFirstConflict b m k t) same p in
    ap (λ k. conflict_text m k t) same ∙ ap (conflict_text m d) (twice_once t u (IsTwice b m d) r.is_twice r.not_twice q.is_twice q.not_twice)

-- the machine of parts gets one answer by a binding
pub binding_once : (p : Source) (b : Binding) (x y : Answer) → IsOfBinding p b x → IsOfBinding p b y → x ≡ y
binding_once p b x y (IsBound l) (IsBound n) =
    let same = bound_once b p l.holds.bound n.holds.bound l.holds.yes.parts n.holds.yes.parts in
    l.is ∙ ap Text (l.holds.is ∙ ap canonical same ∙ sym n.holds.is) ∙ sym n.is
binding_once p b x y (IsBound l) (Loses n) = absurd (l.holds.yes.free.none n.holds.conflict n.holds.first.conflict)
binding_once p b x y (Loses l) (IsBound n) = absurd (n.holds.yes.free.none l.holds.conflict l.holds.first.conflict)
binding_once p b x y (Loses l) (Loses n) =
    let same = first_once b (machine_of p) l.holds.conflict n.holds.conflict l.holds.twice n.holds.twice l.holds.first n.holds.first in
    l.is ∙ ap Differs (l.holds.is ∙ same ∙ sym n.holds.is) ∙ sym n.is
