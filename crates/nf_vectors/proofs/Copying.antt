-- Entries that are inserted one after another.
use Rattle.std.proofs.Common.{◌≡◌, false, List, [], ◌∷◌, ◌++◌, refl, ap, sym, subst, ◌∙◌, append_assoc}
use Rattle.std.specs.Prelude.{if◌then◌else◌}
use Rattle.std.specs.List.{IsDistinct, AllByRecursion}
use Rattle.std.specs.Map.{keys_of}
use Rattle.indexmap.specs.IndexMap.{insert_entry}
use Rattle.nf_terms.specs.declared.form.Nf.{Nf}
use Rattle.nf_vectors.specs.SamePlaces.{same_place, places_same}
use Rattle.nf_vectors.specs.declared.place.Place.{Place}

at_end : (P : Place → Type 0) (done rest : List (Place × Nf)) (k : Place) (f : Nf) → AllByRecursion P (keys_of (done ++ (k, f) ∷ rest)) → P k
at_end P [] rest k f h = h.0
at_end P (e ∷ done) rest k f h = at_end P done rest k f h.1

inserted_last : (done rest : List (Place × Nf)) (k : Place) (f : Nf) → IsDistinct same_place (keys_of (done ++ (k, f) ∷ rest))
    → insert_entry same_place done k f ≡ done ++ (k, f) ∷ []
unfolding IsDistinct
inserted_last [] rest k f h = refl
inserted_last (e ∷ done) rest k f h =
    let other : same_place k e.0 ≡ false = places_same.symm k e.0 ∙ at_end (λ y. same_place e.0 y ≡ false) done rest k f h.0 in
    ap (λ b. if b then (e.0, f) ∷ done else e ∷ insert_entry same_place done k f) other ∙ ap (λ es. e ∷ es) (inserted_last done rest k f h.1)

-- one more entry of a map is copied
pub insert_moves_entry : (done rest all new : List (Place × Nf)) (k : Place) (f : Nf) → IsDistinct same_place (keys_of all) → done ++ (k, f) ∷ rest ≡ all
    → new ≡ insert_entry same_place done k f → new ++ rest ≡ all
insert_moves_entry done rest all new k f h e n =
    ap (λ es. es ++ rest) (n ∙ inserted_last done rest k f (subst (λ es. IsDistinct same_place (keys_of es)) (sym e) h))
    ∙ append_assoc done ((k, f) ∷ []) rest ∙ e
