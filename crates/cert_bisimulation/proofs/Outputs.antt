-- An output of a name, where the names of variables differ.
use Rattle.std.proofs.Common.{◌≡◌, ℕ, zero, suc, ◌+◌, List, [], ◌∷◌, map, ap, sym, refl, ◌∙◌, arith, Option, Some, None, Bool, true, false, cond, inl, inr}
use Rattle.std.specs.Prelude.{not, ◌&&◌, ◌||◌, ◌⊎◌, slice_get}
use Rattle.std.specs.List.{list_any}
use Rattle.std.specs.Str.{bytes_eq}
use Rattle.std.proofs.lemmas.Slice.Eq.{bytes_eq-Decides}
use Rattle.std.proofs.lemmas.Bool.{and_from, or_right, not-true}
use Rattle.fs_model.proofs.Booleans.{and_first, and_second}
use Rattle.fs_model.specs.SoundMachines.{names_differ}
use Rattle.fs_model.specs.declared.parts.VarInfo.{VarInfo}
use Rattle.fs_model.specs.Stores.{Store}
use Rattle.fs_model.specs.Runs.{Content, is_output, content, output_from}

-- an output of a name among variables
pub record IsOutputOf (vs : List VarInfo) (name : List ℕ) : Type 0 where
  pub place : ℕ
  pub variable : VarInfo
  pub at : slice_get vs place ≡ Some variable
  pub role : is_output variable.role ≡ true
  pub named : variable.name ≡ name

pub output_or_none : (vs : List VarInfo) (x : ℕ) (s : Store) (name : List ℕ) → IsOutputOf vs name ⊎ (output_from vs x s name ≡ None)
output_or_none [] x s name = inr refl
output_or_none (v ∷ vs) x s name = by_test (is_output v.role && bytes_eq v.name name) refl (output_or_none vs (x + 1) s name)
  where
    by_test : (b : Bool) → is_output v.role && bytes_eq v.name name ≡ b → IsOutputOf vs name ⊎ (output_from vs (x + 1) s name ≡ None)
        → IsOutputOf (v ∷ vs) name ⊎ (cond b (Some (content v.sort x s)) (output_from vs (x + 1) s name) ≡ None)
    by_test true t r =
        inl
        (record {
          place = 0;
          variable = v;
          at = refl;
          role = and_first (is_output v.role) (bytes_eq v.name name) t;
          named = (bytes_eq-Decides v.name name).0 (and_second (is_output v.role) (bytes_eq v.name name) t);
        })
    by_test false t (inl o) = inl (record { place = suc o.place; variable = o.variable; at = o.at; role = o.role; named = o.named })
    by_test false t (inr e) = inr e

name_of : VarInfo → List ℕ
name_of v = v.name

-- a name that stands among variables is found
pub listed : (vs : List VarInfo) (k : ℕ) (v : VarInfo) (name : List ℕ) → slice_get vs k ≡ Some v → v.name ≡ name
    → list_any (λ m. bytes_eq m name) (map (λ (w : VarInfo). w.name) vs) ≡ true
listed [] k v name e n = absurd (cc e)
listed (w ∷ vs) zero v name e n =
    let same : w ≡ v = cc e in
    let t : bytes_eq w.name name ≡ true = (bytes_eq-Decides w.name name).1 (ap (λ (z : VarInfo). z.name) same ∙ n) in
    ap (λ b. b || list_any (λ m. bytes_eq m name) (map (λ (z : VarInfo). z.name) vs)) t
listed (w ∷ vs) (suc k) v name e n = or_right (bytes_eq w.name name) (list_any (λ m. bytes_eq m name) (map (λ (z : VarInfo). z.name) vs))
    (listed vs k v name e n)

pub output_there : (vs : List VarInfo) (x : ℕ) (s : Store) (name : List ℕ) → names_differ (map (λ (w : VarInfo). w.name) vs) ≡ true → (o : IsOutputOf vs name)
    → output_from vs x s name ≡ Some (content o.variable.sort (x + o.place) s)
output_there vs x s name d o = by_place vs x o.place o.variable d o.at o.role o.named
  where
    by_place : (vs : List VarInfo) (x k : ℕ) (v : VarInfo) → names_differ (map (λ (w : VarInfo). w.name) vs) ≡ true → slice_get vs k ≡ Some v
        → is_output v.role ≡ true → v.name ≡ name → output_from vs x s name ≡ Some (content v.sort (x + k) s)
    by_place [] x k v d e r n = absurd (cc e)
    by_place (w ∷ vs) x zero v d e r n =
        let same : w ≡ v = cc e in
        let t : is_output w.role && bytes_eq w.name name ≡ true =
        and_from (is_output w.role) (bytes_eq w.name name) (ap (λ (z : VarInfo). is_output z.role) same ∙ r)
        ((bytes_eq-Decides w.name name).1 (ap (λ (z : VarInfo). z.name) same ∙ n)) in
        let p : x ≡ x + 0 = omega arith in
        ap (λ b. cond {A = Option Content} b (Some (content w.sort x s)) (output_from vs (x + 1) s name)) t ∙ (λ j. Some (content (same j).sort (p j) s))
    by_place (w ∷ vs) x (suc k) v d e r n =
        let again = by_place vs (x + 1) k v
        (and_second (not (list_any (λ m. bytes_eq m w.name) (map (λ (z : VarInfo). z.name) vs))) (names_differ (map (λ (z : VarInfo). z.name) vs)) d) e r n in
        let p : (x + 1) + k ≡ x + suc k = omega arith in
        skip (bytes_eq w.name name) refl ∙ again ∙ ap (λ z. Some (content v.sort z s)) p
      where
        fresh : list_any (λ m. bytes_eq m w.name) (map (λ (z : VarInfo). z.name) vs) ≡ false
        fresh = not-true (list_any (λ m. bytes_eq m w.name) (map (λ (z : VarInfo). z.name) vs))
            (and_first (not (list_any (λ m. bytes_eq m w.name) (map (λ (z : VarInfo). z.name) vs))) (names_differ (map (λ (z : VarInfo). z.name) vs)) d)

        none : (c b : Bool) → b ≡ false → cond {A = Option Content} (c && b) (Some (content w.sort x s)) (output_from vs (x + 1) s name)
            ≡ output_from vs (x + 1) s name
        none true b h = ap (λ z. cond {A = Option Content} z (Some (content w.sort x s)) (output_from vs (x + 1) s name)) h
        none false b h = refl

        skip : (b : Bool) → bytes_eq w.name name ≡ b → output_from (w ∷ vs) x s name ≡ output_from vs (x + 1) s name
        skip true t = absurd (let c : true ≡ false = sym (listed vs k v w.name e (n ∙ sym ((bytes_eq-Decides w.name name).0 t))) ∙ fresh in cc c)
        skip false t = none (is_output w.role) (bytes_eq w.name name) t
