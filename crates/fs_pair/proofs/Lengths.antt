-- How many variables two machines have.
use Rattle.std.proofs.Common.{◌≡◌, ℕ, ◌+◌, ◌*◌, ◌≤◌, List, [], ◌∷◌, length, map, ap, arith, refl, length-append}
use Rattle.std.proofs.lemmas.List.{length-map}
use Rattle.std.specs.Prelude.{Option, Some, None}
use Rattle.std.specs.List.{filter}
use Rattle.std.specs.Option.{option_to_list}
use Rattle.fs_model.proofs.Lists.{length_filter}
use Rattle.fs_model.specs.declared.parts.VarInfo.{VarInfo}
use Rattle.fs_model.specs.declared.sides.Side.{Side}
use Rattle.fs_model.specs.declared.sides.Side.TheVariants.{Left, Right}
use Rattle.fs_pair.specs.declared.sided_variables.Member.{Member}
use Rattle.fs_pair.specs.SidedVariables.{SidedVariable, sided_variables, partner_among, with_partners, is_alone, all_sided_variables}
use Rattle.fs_pair.specs.View.{sided_variable_of}

pub length-sided_variables : (side : Side) (x : ℕ) (vs : List VarInfo) → length (sided_variables side x vs) ≡ length vs
length-sided_variables side x [] = refl
length-sided_variables side x (v ∷ vs) = grind (arith, length-sided_variables side (x + 1) vs)

length-option : {X : Type 0} (o : Option X) → length (option_to_list o) ≤ 1
length-option None = omega arith
length-option (Some x) = omega arith

length-with_partners : (ss others : List SidedVariable) → length (with_partners ss others) ≤ 2 * length ss
length-with_partners [] others = omega arith
length-with_partners (s ∷ ss) others =
    omega (
      arith,
      length-append (option_to_list (partner_among others s.variable)) (with_partners ss others),
      length-option (partner_among others s.variable),
      length-with_partners ss others,
    )

pub length_sided : (left right : List VarInfo) → length (all_sided_variables left right) ≤ 2 * length left + length right
length_sided left right =
    let ls = sided_variables Left 0 left in
    let rs = sided_variables Right 0 right in
    omega (
      arith,
      length-append (with_partners ls rs) (filter (is_alone ls) rs),
      length-with_partners ls rs,
      length_filter (is_alone ls) rs,
      length-sided_variables Left 0 left,
      length-sided_variables Right 0 right,
    )

pub length_all : (members : List Member) (left right : List VarInfo) → map sided_variable_of members ≡ all_sided_variables left right
    → length members ≤ 2 * length left + length right
length_all members left right e = omega (arith, length-map members sided_variable_of, ap length e, length_sided left right)
