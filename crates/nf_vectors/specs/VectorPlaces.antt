-- The entries of a vector by position and sort.
use Rattle.std.specs.Prelude.{◌≡◌, List, [], ◌∷◌}
use Rattle.std.specs.Coded.{Coded, coded×, coded_list}
use Rattle.nf_terms.specs.Codes.{coded_pos}
use Rattle.nf_terms.specs.FormCodes.{coded_form}
use Rattle.nf_terms.specs.Forms.{IsNormalForm, sort_of_form}
use Rattle.fs_model.specs.declared.sides.Pos.{Pos}
use Rattle.nf_terms.specs.declared.form.Nf.{Nf}
use Rattle.nf_vectors.specs.declared.place.Place.{Place}

-- an entry with its position alone
abbrev pub position_entry : Place × Nf → Pos × Nf
position_entry e = (e.0.pos, e.1)

-- each form is normal and of the sort that it is kept by
abbrev pub ArePlaced : List (Place × Nf) → Type 0
ArePlaced [] = Unit {0}
ArePlaced (e ∷ es) = (e.0.sort ≡ sort_of_form e.1) × IsNormalForm e.1 × ArePlaced es

-- a vector as a tree of numbers
abbrev pub coded_vector : Coded (List (Pos × Nf))
coded_vector = coded_list (coded× coded_pos coded_form)
