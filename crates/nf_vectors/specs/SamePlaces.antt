-- Places that are the same are equal.
use Rattle.std.specs.Prelude.{◌≡◌, Bool, true, false, ◌&&◌, ◌==◌}
use Rattle.std.proofs.Common.{refl, ap, sym, ◌∙◌}
use Rattle.std.proofs.lemmas.Bool.{eqb-true, eq-eqb, and_from}
use Rattle.std.specs.Bool.{Decides}
use Rattle.std.specs.Cmp.{IsPartialEquivalence, IsEquivalence}
use Rattle.fs_model.proofs.Booleans.{and_first, and_second}
use Rattle.fs_model.proofs.SameSides.{same_side_self, same_side_is}
use Rattle.nf_trees.specs.Mentions.{same_pos}
use Rattle.fs_model.specs.declared.sides.Pos.{Pos}
use Rattle.fs_model.specs.Sides.{same_side}
use Rattle.nf_terms.specs.declared.symbols.Sort.{Sort}
use Rattle.nf_terms.specs.declared.symbols.Sort.TheVariants as sort
use Rattle.nf_terms.specs.TermSorts.{same_term_sort}
use Rattle.nf_vectors.specs.declared.place.Place.{Place}

-- whether two places are the same
abbrev pub same_place : Place → Place → Bool
same_place a b = same_pos a.pos b.pos && same_term_sort a.sort b.sort

pub pos_equal : (a b : Pos) → same_pos a b ≡ true → a ≡ b
pos_equal a b e = λ k. record {
  side = same_side_is a.side b.side (and_first (same_side a.side b.side) (a.var == b.var) e) k;
  var = eqb-true a.var b.var (and_second (same_side a.side b.side) (a.var == b.var) e) k;
}

pub own_pos : (p : Pos) → same_pos p p ≡ true
own_pos p = and_from (same_side p.side p.side) (p.var == p.var) (same_side_self p.side) (eq-eqb p.var p.var refl)

pub sorts_equal : (a b : Sort) → same_term_sort a b ≡ true → a ≡ b
sorts_equal sort.Scalar sort.Scalar e = refl
sorts_equal sort.Scalar sort.Array e = cc
sorts_equal sort.Scalar sort.List e = cc
sorts_equal sort.Array sort.Scalar e = cc
sorts_equal sort.Array sort.Array e = refl
sorts_equal sort.Array sort.List e = cc
sorts_equal sort.List sort.Scalar e = cc
sorts_equal sort.List sort.Array e = cc
sorts_equal sort.List sort.List e = refl

pub own_sort : (s : Sort) → same_term_sort s s ≡ true
own_sort sort.Scalar = refl
own_sort sort.Array = refl
own_sort sort.List = refl

pub places_equal : (a b : Place) → same_place a b ≡ true → a ≡ b
places_equal a b e = λ k. record {
  pos = pos_equal a.pos b.pos (and_first (same_pos a.pos b.pos) (same_term_sort a.sort b.sort) e) k;
  sort = sorts_equal a.sort b.sort (and_second (same_pos a.pos b.pos) (same_term_sort a.sort b.sort) e) k;
}

own_place : (a : Place) → same_place a a ≡ true
own_place a = and_from (same_pos a.pos a.pos) (same_term_sort a.sort a.sort) (own_pos a.pos) (own_sort a.sort)

same_turned : (a b : Place) → same_place a b ≡ same_place b a
same_turned a b = by_values (same_place a b) (same_place b a) refl refl
  where
    by_values : (t u : Bool) → same_place a b ≡ t → same_place b a ≡ u → t ≡ u
    by_values true true e f = refl
    by_values true false e f = sym (ap (λ n. same_place b n) (places_equal a b e) ∙ own_place b) ∙ f
    by_values false true e f = sym e ∙ (ap (same_place a) (places_equal b a f) ∙ own_place a)
    by_values false false e f = refl

pub places_partly : IsPartialEquivalence same_place
places_partly = record { symm = same_turned; trans = λ a b d e f. ap (λ n. same_place n d) (places_equal a b e) ∙ f }

pub places_same : IsEquivalence same_place
places_same = record { refl = own_place; symm = same_turned; congr = λ a b d e. ap (λ n. same_place n d) (places_equal a b e) }

pub places_decide : (a b : Place) → Decides (same_place a b) (a ≡ b)
places_decide a b = (places_equal a b, (λ e. ap (same_place a) (sym e) ∙ own_place a))
