-- Entries of vectors.
use Rattle.std.proofs.Common.{◌≡◌, Bool, true, false, ◌&&◌, cond, Option, Some, List, [], ◌∷◌, map, refl, ap, sym, subst, ◌∙◌}
use Rattle.std.specs.Map.{lookup}
use Rattle.std.proofs.lemmas.Bool.{and_from}
use Rattle.fs_model.proofs.Booleans.{and_first, and_second}
use Rattle.indexmap.specs.IndexMap.{insert_entry}
use Rattle.nf_trees.specs.Mentions.{same_pos}
use Rattle.nf_terms.specs.Forms.{IsNormalForm, sort_of_form}
use Rattle.fs_model.specs.declared.sides.Pos.{Pos}
use Rattle.nf_terms.specs.declared.symbols.Sort.{Sort}
use Rattle.nf_terms.specs.declared.form.Nf.{Nf}
use Rattle.nf_terms.specs.TermSorts.{same_term_sort}
use Rattle.nf_vectors.specs.Vectors.{is_entry_at, form_at, with_form, AreNormalForms}
use Rattle.nf_vectors.specs.VectorPlaces.{position_entry, ArePlaced}
use Rattle.nf_vectors.specs.SamePlaces.{same_place, places_equal, pos_equal, own_pos, sorts_equal, own_sort}
use Rattle.nf_vectors.specs.declared.place.Place.{Place}

pub normal_forms : (es : List (Place × Nf)) → ArePlaced es → AreNormalForms (map position_entry es)
normal_forms [] h = tt
normal_forms (e ∷ es) h = (h.1, normal_forms es h.2)

-- a place is found as its position and sort are
pub found : (s : Sort) (p : Pos) (es : List (Place × Nf)) → ArePlaced es
    → lookup (same_place (record { pos = p; sort = s })) es ≡ form_at s p (map position_entry es)
found s p [] h = refl
found s p (e ∷ es) h = λ k. cond (same_pos p e.0.pos && same_term_sort s (h.0 k)) (Some e.1) (found s p es h.2 k)

module _ (p : Pos) (f : Nf) (s : Sort) (q : s ≡ sort_of_form f) where
  abbrev key : Place
  key = record { pos = p; sort = s }

  seen : (es : List (Place × Nf)) → ArePlaced es → map position_entry (insert_entry same_place es key f) ≡ with_form p f (map position_entry es)
  seen [] h = refl
  seen (e ∷ es) h = (λ k. map position_entry (cond (same_pos p e.0.pos && same_term_sort (q k) (h.0 k)) ((e.0, f) ∷ es) (e ∷ insert_entry same_place es key f)))
      ∙ by_test (is_entry_at (sort_of_form f) p (position_entry e)) (seen es h.2)
    where
      by_test : (t : Bool) → map position_entry (insert_entry same_place es key f) ≡ with_form p f (map position_entry es)
          → map position_entry (cond t ((e.0, f) ∷ es) (e ∷ insert_entry same_place es key f))
          ≡ cond t ((e.0.pos, f) ∷ map position_entry es) (position_entry e ∷ with_form p f (map position_entry es))
      by_test true again = refl
      by_test false again = ap (λ t. position_entry e ∷ t) again

  placed : (es : List (Place × Nf)) → IsNormalForm f → ArePlaced es → ArePlaced (insert_entry same_place es key f)
  placed [] n h = (q, n, tt)
  placed (e ∷ es) n h = by_test (same_place key e.0) refl (placed es n h.2)
    where
      by_test : (t : Bool) → same_place key e.0 ≡ t → ArePlaced (insert_entry same_place es key f)
          → ArePlaced (cond t ((e.0, f) ∷ es) (e ∷ insert_entry same_place es key f))
      by_test true g again = (sym (ap (λ z. z.sort) (places_equal key e.0 g)) ∙ q, n, h.2)
      by_test false g again = (h.0, h.1, again)

  -- the entries after a form is put
  pub put_seen : (es new : List (Place × Nf)) → ArePlaced es → new ≡ insert_entry same_place es (record { pos = p; sort = s }) f
      → map position_entry new ≡ with_form p f (map position_entry es)
  put_seen es new h e = ap (map position_entry) e ∙ seen es h

  pub put_placed : (es new : List (Place × Nf)) → IsNormalForm f → ArePlaced es → new ≡ insert_entry same_place es (record { pos = p; sort = s }) f
      → ArePlaced new
  put_placed es new n h e = subst ArePlaced (sym e) (placed es n h)

-- ---- what is found after a form is put

find_again : {T : Type 0} (s : Sort) (q p : Pos) (t : Sort) (e : Pos × Nf) (x : T) (y rest : T) (b : Bool) → is_entry_at t p e ≡ b
    → cond b (cond (same_pos q e.0 && same_term_sort s t) x rest) (cond (is_entry_at s q e) y (cond (same_pos q p && same_term_sort s t) x rest))
    ≡ cond (same_pos q p && same_term_sort s t) x (cond (is_entry_at s q e) y rest)
find_again {T} s q p t e x y rest true g =
    let i : p ≡ e.0 = pos_equal p e.0 (and_first (same_pos p e.0) (same_term_sort t (sort_of_form e.1)) g) in
    let j : t ≡ sort_of_form e.1 = sorts_equal t (sort_of_form e.1) (and_second (same_pos p e.0) (same_term_sort t (sort_of_form e.1)) g) in
    (λ k. cond {A = T} (same_pos q (sym i k) && same_term_sort s t) x rest)
    ∙ twice (same_pos q p && same_term_sort s t)
    ∙ (λ k. cond {A = T} (same_pos q p && same_term_sort s t) x (cond {A = T} (same_pos q (i k) && same_term_sort s (j k)) y rest))
  where
    twice : (c : Bool) → cond {A = T} c x rest ≡ cond {A = T} c x (cond {A = T} c y rest)
    twice true = refl
    twice false = refl
find_again {T} s q p t e x y rest false g = by_tests (is_entry_at s q e) refl (same_pos q p && same_term_sort s t) refl
  where
    by_tests : (c : Bool) → is_entry_at s q e ≡ c → (d : Bool) → same_pos q p && same_term_sort s t ≡ d
        → cond {A = T} c y (cond {A = T} d x rest) ≡ cond {A = T} d x (cond {A = T} c y rest)
    by_tests true i true j =
        let a : q ≡ e.0 = pos_equal q e.0 (and_first (same_pos q e.0) (same_term_sort s (sort_of_form e.1)) i) in
        let b : s ≡ sort_of_form e.1 = sorts_equal s (sort_of_form e.1) (and_second (same_pos q e.0) (same_term_sort s (sort_of_form e.1)) i) in
        let c : q ≡ p = pos_equal q p (and_first (same_pos q p) (same_term_sort s t) j) in
        let d : s ≡ t = sorts_equal s t (and_second (same_pos q p) (same_term_sort s t) j) in
        let u : p ≡ e.0 = sym c ∙ a in
        let v : t ≡ sort_of_form e.1 = sym d ∙ b in
        let own : is_entry_at t p e ≡ true = (λ k. same_pos p (sym u k) && same_term_sort t (sym v k))
        ∙ and_from (same_pos p p) (same_term_sort t t) (own_pos p) (own_sort t) in
        absurd (let m : true ≡ false = sym own ∙ g in cc m)
    by_tests true i false j = refl
    by_tests false i true j = refl
    by_tests false i false j = refl

pub form_put : (v : List (Pos × Nf)) (p q : Pos) (f : Nf) (s : Sort)
    → form_at s q (with_form p f v) ≡ cond (same_pos q p && same_term_sort s (sort_of_form f)) (Some f) (form_at s q v)
form_put [] p q f s = refl
form_put (e ∷ v) p q f s = by_test (is_entry_at (sort_of_form f) p e) refl (form_put v p q f s)
  where
    by_test : (t : Bool) → is_entry_at (sort_of_form f) p e ≡ t
        → form_at s q (with_form p f v) ≡ cond (same_pos q p && same_term_sort s (sort_of_form f)) (Some f) (form_at s q v)
        → form_at s q (cond t ((e.0, f) ∷ v) (e ∷ with_form p f v)) ≡ cond (same_pos q p && same_term_sort s (sort_of_form f)) (Some f) (form_at s q (e ∷ v))
    by_test true g again = find_again s q p (sort_of_form f) e (Some f) (Some e.1) (form_at s q v) true g
    by_test false g again = ap (λ z. cond {A = Option Nf} (is_entry_at s q e) (Some e.1) z) again
        ∙ find_again s q p (sort_of_form f) e (Some f) (Some e.1) (form_at s q v) false g
