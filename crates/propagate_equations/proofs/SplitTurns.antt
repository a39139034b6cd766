-- A symbol that is split off in the turn of the terms is the one that is split off.
use Rattle.std.proofs.Common.{◌≡◌, Bool, true, false, ℤ, pos, refl, ap, sym, ◌∙◌, List, [], ◌∷◌, ◌++◌, Option, Some, None}
use Rattle.std.specs.Prelude.{neg_ℤ}
use Rattle.std.specs.Option.{option_map}
use Rattle.std.specs.Ordering.{int_eq}
use Rattle.nf_trees.specs.NormalTerms.{Monomial, polynomial_of}
use Rattle.nf_terms.specs.declared.symbols.Sort.TheVariants as term
use Rattle.fs_model.specs.declared.sides.Pos.{Pos}
use Rattle.nf_terms.specs.declared.form.Nf.{Nf}
use Rattle.propagate_equations.specs.Equations.{is_held, lone_symbol, Split, with_more_of_split, split_by, split_at}
use Rattle.propagate_equations.specs.Equations.{split_off_symbol}
use Rattle.propagate_equations.specs.EquationSteps.{signed_at, signed_by, split_behind, split_from}

abbrev mores : List (Monomial × ℤ) → Split → Split
mores [] x = x
mores (t ∷ ts) x = with_more_of_split t.0 t.1 (mores ts x)

more_behind : (before : List (Monomial × ℤ)) (t : Monomial × ℤ) (o : Option Split)
    → option_map (mores (before ++ t ∷ [])) o ≡ option_map (mores before) (option_map (with_more_of_split t.0 t.1) o)
more_behind before t None = refl
more_behind before t (Some x) = ap Some (one before)
  where
    one : (before : List (Monomial × ℤ)) → mores (before ++ t ∷ []) x ≡ mores before (with_more_of_split t.0 t.1 x)
    one [] = refl
    one (s ∷ before) = ap (with_more_of_split s.0 s.1) (one before)

rest_behind : (before ts : List (Monomial × ℤ)) (s : Pos) (b : Bool)
    → mores before (record { symbol = s; positive = b; rest = polynomial_of ts }) ≡ record { symbol = s; positive = b; rest = polynomial_of (before ++ ts) }
rest_behind [] ts s b = refl
rest_behind (t ∷ before) ts s b = ap (with_more_of_split t.0 t.1) (rest_behind before ts s b)

split_all : (ms : List (Pos × Nf)) (before ts : List (Monomial × ℤ))
    → split_from ms before ts ≡ option_map (mores before) (split_off_symbol ms (polynomial_of ts))
split_all ms before [] = refl
split_all ms before (t ∷ ts) = by_symbol (lone_symbol t.0) (split_all ms (before ++ t ∷ []) ts ∙ more_behind before t (split_off_symbol ms (polynomial_of ts)))
  where
    by_tests : (held one minus : Bool) (s : Pos) (x y : Option Split) → x ≡ option_map (mores before) y
        → split_behind (signed_by held one minus s) before ts x ≡ option_map (mores before) (split_by held one minus s (polynomial_of ts) y)
    by_tests true one minus s x y h = h
    by_tests false true minus s x y h = ap Some (sym (rest_behind before ts s true))
    by_tests false false true s x y h = ap Some (sym (rest_behind before ts s false))
    by_tests false false false s x y h = h

    by_symbol : (o : Option Pos) → split_from ms (before ++ t ∷ []) ts ≡ option_map (mores before)
        (option_map (with_more_of_split t.0 t.1) (split_off_symbol ms (polynomial_of ts)))
        → split_behind (signed_at ms t.1 o) before ts (split_from ms (before ++ t ∷ []) ts)
        ≡ option_map (mores before) (split_at ms t.1 o (polynomial_of ts) (option_map (with_more_of_split t.0 t.1) (split_off_symbol ms (polynomial_of ts))))
    by_symbol None h = h
    by_symbol (Some s) h = by_tests (is_held ms (s, term.Scalar)) (int_eq t.1 (pos 1)) (int_eq t.1 (neg_ℤ (pos 1))) s (split_from ms (before ++ t ∷ []) ts)
        (option_map (with_more_of_split t.0 t.1) (split_off_symbol ms (polynomial_of ts))) h

none_more : (o : Option Split) → option_map (mores []) o ≡ o
none_more None = refl
none_more (Some x) = refl

pub splits_in_turn : (ms : List (Pos × Nf)) (ts : List (Monomial × ℤ)) → split_from ms [] ts ≡ split_off_symbol ms (polynomial_of ts)
splits_in_turn ms ts = split_all ms [] ts ∙ none_more (split_off_symbol ms (polynomial_of ts))
