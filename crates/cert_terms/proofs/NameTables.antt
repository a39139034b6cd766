-- Tables of names.
use Rattle.std.proofs.Common.{◌≡◌, ℕ, zero, suc, ◌+◌, ◌^◌, ◌<◌, ◌≤◌, Bool, true, false, cond, refl, ap, sym, ◌∙◌, subst, List, [], ◌∷◌, ◌++◌, length, take}
use Rattle.std.proofs.Common.{get_or, Option, Some, None, arith}
use Rattle.std.specs.Prelude.{map}
use Rattle.std.specs.Option.{is_some}
use Rattle.std.specs.Map.{lookup}
use Rattle.std.specs.Str.{bytes_eq}
use Rattle.std.proofs.lemmas.Cmp.{nat_list_eq_equiv}
use Rattle.std.proofs.lemmas.List.{map_push, length-map}
use Rattle.std.proofs.Math.Seq.{take-suc}
use Rattle.indexmap.specs.IndexMap.{insert_entry}
use Rattle.fs_model.proofs.Lists.{map_grown}
use Rattle.fs_model.specs.Limits.{most_states}
use Rattle.fs_model.specs.Machines.{State, Fsmd}
use Rattle.fs_model.specs.SoundMachines.{IsSound}
use Rattle.fs_pair.specs.declared.positions.Position.{Position}
use Rattle.fs_pair.specs.Paired.{IsPairing}
use Rattle.fs_pair.specs.Partners.{position_name}
use Rattle.fs_model.specs.declared.sides.Side.{Side}
use Rattle.fs_model.specs.Sides.{same_side}
use Rattle.sym_facts.specs.FactParts.{most_sorted_positions}
use Rattle.sym_facts.proofs.Kept.{few_positions}
use Rattle.fs_ast.specs.Places.{first_place}
use Rattle.fs_ast.proofs.FirstFaults.{found_push}
use Rattle.cert_terms.specs.declared.table.NameTable.{NameTable}
use Rattle.cert_terms.specs.CertificateNames.{names_on, machine_state_names, state_named, place_named}
use Rattle.cert_terms.specs.NameTables.{name_number, HasFirst}

bytes_sym : (x y : List ℕ) → bytes_eq x y ≡ bytes_eq y x
bytes_sym x y = nat_list_eq_equiv.symm x y

module _ {K : Type 0} (seen : K → List ℕ) where
  -- a name put behind those there
  put_last : (es : List (K × ℕ)) (k : K) (v : ℕ) → is_some (lookup (λ e. bytes_eq (seen k) (seen e)) es) ≡ false
      → insert_entry (λ x y. bytes_eq (seen x) (seen y)) es k v ≡ es ++ (k, v) ∷ []
  put_last [] k v e = refl
  put_last (x ∷ es) k v e = by_test (bytes_eq (seen k) (seen x.0)) (put_last es k v) e
    where
      by_test : (t : Bool)
          → (is_some (lookup (λ e. bytes_eq (seen k) (seen e)) es) ≡ false → insert_entry (λ x y. bytes_eq (seen x) (seen y)) es k v ≡ es ++ (k, v) ∷ [])
          → is_some (cond {A = Option ℕ} t (Some x.1) (lookup (λ e. bytes_eq (seen k) (seen e)) es)) ≡ false
          → cond t ((x.0, v) ∷ es) (x ∷ insert_entry (λ x y. bytes_eq (seen x) (seen y)) es k v) ≡ x ∷ (es ++ (k, v) ∷ [])
      by_test true again f = absurd (cc f)
      by_test false again f = ap (λ t. x ∷ t) (again f)

  found_last : (es : List (K × ℕ)) (k : K) (v : ℕ) (x : List ℕ)
      → lookup (λ e. bytes_eq x (seen e)) (es ++ (k, v) ∷ []) ≡ cond (is_some (lookup (λ e. bytes_eq x (seen e)) es)) (lookup (λ e. bytes_eq x (seen e)) es)
      (cond (bytes_eq (seen k) x) (Some v) None)
  found_last [] k v x = ap (λ t. cond {A = Option ℕ} t (Some v) None) (bytes_sym x (seen k))
  found_last (e ∷ es) k v x = by_test (bytes_eq x (seen e.0)) (found_last es k v x)
    where
      by_test : (t : Bool) → lookup (λ e. bytes_eq x (seen e)) (es ++ (k, v) ∷ [])
          ≡ cond (is_some (lookup (λ e. bytes_eq x (seen e)) es)) (lookup (λ e. bytes_eq x (seen e)) es) (cond (bytes_eq (seen k) x) (Some v) None)
          → cond {A = Option ℕ} t (Some e.1) (lookup (λ e. bytes_eq x (seen e)) (es ++ (k, v) ∷ []))
          ≡ cond (is_some (cond {A = Option ℕ} t (Some e.1) (lookup (λ e. bytes_eq x (seen e)) es)))
          (cond {A = Option ℕ} t (Some e.1) (lookup (λ e. bytes_eq x (seen e)) es)) (cond (bytes_eq (seen k) x) (Some v) None)
      by_test true again = refl
      by_test false again = again

  pub put_new : (es new : List (K × ℕ)) (k : K) (v : ℕ) → is_some (lookup (λ e. bytes_eq (seen k) (seen e)) es) ≡ false
      → new ≡ insert_entry (λ x y. bytes_eq (seen x) (seen y)) es k v → (x : List ℕ)
      → lookup (λ e. bytes_eq x (seen e)) new ≡ cond (is_some (lookup (λ e. bytes_eq x (seen e)) es)) (lookup (λ e. bytes_eq x (seen e)) es)
      (cond (bytes_eq (seen k) x) (Some v) None)
  put_new es new k v absent e x = ap (lookup (λ e. bytes_eq x (seen e))) (e ∙ put_last es k v absent) ∙ found_last es k v x

-- one name more of a list
taken : {X Y : Type 0} (f : X → Y) (xs : List X) (k : ℕ) (d : X) → k < length xs → map f (take (suc k) xs) ≡ map f (take k xs) ++ f (get_or xs k d) ∷ []
taken f xs k d h = ap (map f) (take-suc xs k d h) ∙ map_push f (take k xs) (get_or xs k d)

pub one_taken : {K X : Type 0} (seen : K → List ℕ) (f : X → List ℕ) (old new : List K) (name : K) (xs : List X) (k : ℕ) (d : X) → k < length xs
    → map seen old ≡ map f (take k xs) → new ≡ old ++ name ∷ [] → seen name ≡ f (get_or xs k d) → map seen new ≡ map f (take (k + 1) xs)
one_taken seen f old new name xs k d low h n e =
    let one : suc k ≡ k + 1 = omega arith in
    map_grown seen old new name (f (get_or xs k d)) n e ∙ ap (λ l. l ++ f (get_or xs k d) ∷ []) h
    ∙ sym (taken f xs k d low) ∙ ap (λ j. map f (take j xs)) one

length_taken : {X Y : Type 0} (f : X → Y) (xs : List X) (k : ℕ) → k ≤ length xs → length (map f (take k xs)) ≡ k
length_taken f xs zero h = refl
length_taken f [] (suc k) h = absurd (omega arith)
length_taken f (x ∷ xs) (suc k) h = ap suc (length_taken f xs k (omega arith))

-- the table of one name more
pub first_more : {K : Type 0} (seen : K → List ℕ) (old new : NameTable) (names : List K) (k : ℕ) (d : K) → k < length names
    → HasFirst old (map seen (take k names))
    → ((c : ℕ) (cs : List ℕ) → name_number new (c ∷ cs) ≡ cond (is_some (name_number old (c ∷ cs))) (name_number old (c ∷ cs))
    (cond (bytes_eq (seen (get_or names k d)) (c ∷ cs)) (Some k) None))
    → HasFirst new (map seen (take (k + 1) names))
first_more seen old new names k d low h put =
    let name : List ℕ = seen (get_or names k d) in
    let n : suc k ≡ k + 1 = omega arith in
    let before : List (List ℕ) = map seen (take k names) in
    let more : map seen (take (suc k) names) ≡ before ++ name ∷ [] = taken seen names k d low in
    let many : length before ≡ k = length_taken seen names k (omega (arith, low)) in
    subst (λ j. HasFirst new (map seen (take j names))) n record {
      first = λ c cs.
          put c cs ∙ ap (λ o. cond (is_some o) o (cond (bytes_eq name (c ∷ cs)) (Some k) None)) (h.first c cs)
          ∙ sym
          (ap (λ ns. first_place ns (c ∷ cs)) more ∙ found_push before name (c ∷ cs)
          ∙ ap (λ j. cond (is_some (first_place before (c ∷ cs))) (first_place before (c ∷ cs)) (cond (bytes_eq name (c ∷ cs)) (Some j) None)) many);
    }

-- ---- few names

pub few_states : {K : Type 0} (seen : K → List ℕ) (m : Fsmd) (names : List K) → IsSound m → map seen names ≡ map (λ q. q.name) m.states
    → length names ≤ most_states
few_states seen m names h e = let n : length names ≡ length m.states = sym (length-map names seen) ∙ ap length e
    ∙ length-map m.states (λ (q : State). q.name) in omega (arith, n, h.few_states)

pub few_names : {K : Type 0} (seen : K → List ℕ) (a b : Fsmd) (side : Side) (ps : List Position) (names : List K) → IsPairing ps
    → map seen names ≡ names_on a b side ps → length names < 2 ^ 32
few_names seen a b side ps names h e =
    let n : length names ≡ length ps = sym (length-map names seen) ∙ ap length e
    ∙ length-map ps (λ (p : Position). cond (same_side p.pos.side side) (position_name a b p.pos) []) in
    let few : length ps ≤ most_sorted_positions = few_positions ps h in
    omega (arith, n, few)

-- ---- what tables find

pub states_found : (m : Fsmd) (t : NameTable) (names : List (List ℕ)) → HasFirst t names → names ≡ machine_state_names m → (x : List ℕ)
    → name_number t x ≡ state_named m x
states_found m t names h e [] = refl
states_found m t names h e (c ∷ cs) = h.first c cs ∙ ap (λ ns. first_place ns (c ∷ cs)) e

pub positions_found : (a b : Fsmd) (side : Side) (ps : List Position) (t : NameTable) (names : List (List ℕ)) → HasFirst t names → names ≡ names_on a b side ps
    → (x : List ℕ) → name_number t x ≡ place_named a b ps side x
positions_found a b side ps t names h e [] = refl
positions_found a b side ps t names h e (c ∷ cs) = h.first c cs ∙ ap (λ ns. first_place ns (c ∷ cs)) e
