-- What tests of names, sorts and sides say.
use Rattle.std.proofs.Common.{◌≡◌, sym, refl, ◌∙◌, ap, Bool, true, false}
use Rattle.std.specs.Str.{bytes_eq}
use Rattle.std.proofs.lemmas.Slice.Eq.{bytes_eq-Decides}
use Rattle.std.proofs.lemmas.Bool.{and_from}
use Rattle.fs_model.proofs.Booleans.{and_first, and_second}
use Rattle.fs_model.specs.declared.parts.Sort.{Sort}
use Rattle.fs_model.specs.declared.parts.Sort.TheVariants.{Scalar, Array, Port}
use Rattle.fs_model.specs.declared.parts.VarInfo.{VarInfo}
use Rattle.fs_model.specs.declared.sides.Side.{Side}
use Rattle.fs_model.specs.declared.sides.Side.TheVariants.{Left, Right}
use Rattle.fs_model.specs.Sides.{same_side}
use Rattle.fs_pair.specs.Interfaces.{same_sort}
use Rattle.fs_pair.specs.SidedVariables.{same_name_and_sort}

-- a test that is true only where another is, and the other way round
pub as_often : (a b : Bool) → (a ≡ true → b ≡ true) → (b ≡ true → a ≡ true) → a ≡ b
as_often true b f g = sym (f refl)
as_often false true f g = g refl
as_often false false f g = refl

pub same_sort_is : (s t : Sort) → same_sort s t ≡ true → s ≡ t
same_sort_is Scalar Scalar e = refl
same_sort_is Scalar Array e = absurd (cc e)
same_sort_is Scalar Port e = absurd (cc e)
same_sort_is Array Scalar e = absurd (cc e)
same_sort_is Array Array e = refl
same_sort_is Array Port e = absurd (cc e)
same_sort_is Port Scalar e = absurd (cc e)
same_sort_is Port Array e = absurd (cc e)
same_sort_is Port Port e = refl

pub same_sort_self : (s : Sort) → same_sort s s ≡ true
same_sort_self Scalar = refl
same_sort_self Array = refl
same_sort_self Port = refl

-- of two sides, both others of a third are one
pub third_side : (d e f : Side) → same_side d e ≡ false → same_side e f ≡ false → d ≡ f
third_side Left Left f h g = absurd (cc h)
third_side Left Right Left h g = refl
third_side Left Right Right h g = absurd (cc g)
third_side Right Left Left h g = absurd (cc g)
third_side Right Left Right h g = refl
third_side Right Right f h g = absurd (cc h)

pub same_name : (v u : VarInfo) → same_name_and_sort v u ≡ true → u.name ≡ v.name
same_name v u h = (bytes_eq-Decides u.name v.name).0 (and_first (bytes_eq u.name v.name) (same_sort u.sort v.sort) h)

pub same_sorts : (v u : VarInfo) → same_name_and_sort v u ≡ true → u.sort ≡ v.sort
same_sorts v u h = same_sort_is u.sort v.sort (and_second (bytes_eq u.name v.name) (same_sort u.sort v.sort) h)

pub are_same : (v u : VarInfo) → u.name ≡ v.name → u.sort ≡ v.sort → same_name_and_sort v u ≡ true
are_same v u n s = and_from (bytes_eq u.name v.name) (same_sort u.sort v.sort) ((bytes_eq-Decides u.name v.name).1 n)
    (ap (λ (t : Sort). same_sort t v.sort) s ∙ same_sort_self v.sort)

pub same_back : (v u : VarInfo) → same_name_and_sort v u ≡ true → same_name_and_sort u v ≡ true
same_back v u h = are_same u v (sym (same_name v u h)) (sym (same_sorts v u h))

pub same_both_ways : (v u : VarInfo) → same_name_and_sort v u ≡ same_name_and_sort u v
same_both_ways v u = as_often (same_name_and_sort v u) (same_name_and_sort u v) (same_back v u) (same_back u v)

pub same_chain : (v u w : VarInfo) → same_name_and_sort v u ≡ true → same_name_and_sort u w ≡ true → same_name_and_sort v w ≡ true
same_chain v u w h g = are_same v w (same_name u w g ∙ same_name v u h) (same_sorts u w g ∙ same_sorts v u h)
