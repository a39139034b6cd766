-- The equations and the conditions of a rebased fact, and what a position holds.
use Rattle.std.specs.Prelude.{Bool, true, false, ◌||◌, cond, is_some, ℤ, pos, neg_ℤ, filter, List, [], ◌∷◌, ◌++◌, Option, Some}
use Rattle.std.specs.Prelude.{None}
use Rattle.std.specs.Option.{option_map}
use Rattle.std.specs.List.{list_all, list_any}
use Rattle.std.specs.Ordering.{int_eq}
use Rattle.fs_model.specs.declared.parts.Sort.{Sort}
use Rattle.fs_model.specs.declared.parts.Sort.TheVariants as sort
use Rattle.fs_pair.specs.declared.positions.Position.{Position}
use Rattle.nf_trees.specs.NormalTerms.{Monomial, Polynomial, ArrayTerm, Zero, Plus, Over, NoWrites, Write, polynomial_of_symbol}
use Rattle.nf_terms.specs.Forms.{same_form}
use Rattle.nf_terms.specs.Symbols.{symbols_of}
use Rattle.nf_terms.specs.Computed.{Computed, Done, after}
use Rattle.fs_model.specs.declared.sides.Pos.{Pos}
use Rattle.nf_trees.specs.declared.tree.Base.{Base}
use Rattle.nf_trees.specs.declared.tree.Base.TheVariants as base
use Rattle.nf_terms.specs.declared.tree.SeqBase.{SeqBase}
use Rattle.nf_terms.specs.declared.tree.SeqBase.TheVariants as list
use Rattle.nf_terms.specs.declared.symbols.Sort.{Sort as TermSort}
use Rattle.nf_terms.specs.declared.symbols.Sort.TheVariants as term
use Rattle.nf_terms.specs.declared.form.Nf.{Nf}
use Rattle.nf_terms.specs.declared.form.Nf.TheVariants.{Num, Arr, Seq}
use Rattle.nf_sums.specs.Operations.{normal_sum, normal_difference}
pub use Rattle.nf_substitution.specs.BareNumbers.{lone_atom, lone_symbol, bare_number}
use Rattle.nf_substitution.specs.Vectors.{form_at, number_at, array_form, list_at}
use Rattle.nf_substitution.specs.Substitution.{polynomial_substituted}
use Rattle.nf_rel.specs.Literals.{NormalLiteral, True}
use Rattle.nf_rel.specs.NormalLiterals.{same_literal}
use Rattle.sym_paths.specs.Sequences.{each}
use Rattle.sym_facts.specs.Facts.{own_symbol}
use Rattle.sym_facts.specs.Entailment.{form_substituted, literal_substituted}
use Rattle.sym_facts.specs.Pairings.{form_within, literal_within}

-- what a vector has at a position of a sort
abbrev pub value_at : List (Pos × Nf) → Sort → Pos → Nf
value_at v sort.Scalar p = Num (number_at v p)
value_at v sort.Array p = Arr (array_form v p)
value_at v sort.Port p = Seq (list_at v p)

-- whether a symbol is held: a new meaning stands for it
abbrev pub is_held : List (Pos × Nf) → Pos × TermSort → Bool
is_held ms x = is_some (form_at x.1 x.0 ms)

-- whether all symbols of a polynomial, of a form, of a literal are held
abbrev pub number_held : List (Pos × Nf) → Polynomial → Bool
number_held ms p = list_all (is_held ms) (symbols_of p)

abbrev pub form_held : List (Pos × Nf) → Nf → Bool
form_held ms f = form_within (is_held ms) f

abbrev pub literal_held : List (Pos × Nf) → NormalLiteral → Bool
literal_held ms l = literal_within (is_held ms) l

-- ---- symbols alone
abbrev pub bare_base : Base → Option Pos
bare_base base.Zero = None
bare_base (base.Sym p) = Some p

abbrev pub symbol_of_array : ArrayTerm → Option Pos
symbol_of_array (Over b NoWrites) = bare_base b
symbol_of_array (Over b (Write i x ws)) = None

abbrev pub bare_list_base : SeqBase → Option Pos
bare_list_base list.Empty = None
bare_list_base (list.Sym p) = Some p

abbrev pub symbol_of_list : SeqBase → List Polynomial → Option Pos
symbol_of_list b [] = bare_list_base b
symbol_of_list b (p ∷ ps) = None

-- the symbol that a form is
abbrev pub bare_symbol : Nf → Option Pos
bare_symbol (Num p) = bare_number p
bare_symbol (Arr a) = symbol_of_array a
bare_symbol (Seq l) = symbol_of_list l.base l.items

-- ---- the second pass: a number that is a symbol that is not held, as it is or negated, and held symbols
pub record Split : Type 0 where
  pub symbol : Pos
  pub positive : Bool
  pub rest : Polynomial

abbrev pub with_more_of_split : Monomial → ℤ → Split → Split
with_more_of_split m c x = record { symbol = x.symbol; positive = x.positive; rest = Plus m c x.rest }

abbrev pub split_by : (held is_one is_minus : Bool) → Pos → Polynomial → (later : Option Split) → Option Split
split_by true one minus s p later = later
split_by false true minus s p later = Some (record { symbol = s; positive = true; rest = p })
split_by false false true s p later = Some (record { symbol = s; positive = false; rest = p })
split_by false false false s p later = later

abbrev pub split_at : List (Pos × Nf) → ℤ → Option Pos → Polynomial → (later : Option Split) → Option Split
split_at ms c None p later = later
split_at ms c (Some s) p later = split_by (is_held ms (s, term.Scalar)) (int_eq c (pos 1)) (int_eq c (neg_ℤ (pos 1))) s p later

-- the first symbol alone that is not held, with the coefficient 1 or -1, and the rest
abbrev pub split_off_symbol : List (Pos × Nf) → Polynomial → Option Split
split_off_symbol ms Zero = None
split_off_symbol ms (Plus m c p) = split_at ms c (lone_symbol m) p (option_map (with_more_of_split m c) (split_off_symbol ms p))

-- the position's symbol less the rest, or the rest less it
abbrev pub less_rest : (positive : Bool) → Pos → Polynomial → Computed Polynomial
less_rest true p r = normal_difference (polynomial_of_symbol p) r
less_rest false p r = normal_difference r (polynomial_of_symbol p)

-- a symbol with its new meaning
pub record Solution : Type 0 where
  pub symbol : Pos
  pub meaning : Polynomial

-- the symbol that is split off with its new meaning, where all symbols of the rest are held
abbrev pub solution : List (Pos × Nf) → Pos → Option Split → Computed (Option Solution)
solution ms p None = Done None
solution ms p (Some x) =
    cond (number_held ms x.rest)
    (after (polynomial_substituted ms x.rest)
    (λ r. after (less_rest x.positive p r) (λ t. Done (Some (record { symbol = x.symbol; meaning = t }))))) (Done None)

abbrev pub second_pass_solution : (free : Bool) → (v ms : List (Pos × Nf)) → Sort → Pos → Computed (Option Solution)
second_pass_solution true v ms s p = Done None
second_pass_solution false v ms sort.Scalar p = solution ms p (split_off_symbol ms (number_at v p))
second_pass_solution false v ms sort.Array p = Done None
second_pass_solution false v ms sort.Port p = Done None

-- ---- the third pass: each other position gets its value over held symbols, is tied, or is freed
-- a number is tied to the first number freed in this pass from which it differs by held symbols alone
abbrev pub number_tied_to : (v ms : List (Pos × Nf)) → Polynomial → Sort → Pos → (later : Computed (Option Nf))
    → Computed (Option Nf)
number_tied_to v ms t sort.Scalar q later =
    after (normal_difference t (number_at v q))
    (λ d. cond (number_held ms d)
    (after (polynomial_substituted ms d) (λ e. after (normal_sum (polynomial_of_symbol q) e) (λ r. Done (Some (Num r))))) later)
number_tied_to v ms t sort.Array q later = later
number_tied_to v ms t sort.Port q later = later

abbrev pub number_tied : (v ms : List (Pos × Nf)) → Polynomial → List Position → Computed (Option Nf)
number_tied v ms t [] = Done None
number_tied v ms t (q ∷ qs) = number_tied_to v ms t q.sort q.pos (number_tied v ms t qs)

-- an array or a list is tied to the first position freed in this pass that has the same
abbrev pub form_tied : List (Pos × Nf) → Nf → List Position → Option Nf
form_tied v t [] = None
form_tied v t (q ∷ qs) = cond (same_form t (value_at v q.sort q.pos)) (Some (own_symbol q.sort q.pos)) (form_tied v t qs)

abbrev pub rebase_tied_equation : (v ms : List (Pos × Nf)) → Nf → List Position → Computed (Option Nf)
rebase_tied_equation v ms (Num t) qs = number_tied v ms t qs
rebase_tied_equation v ms (Arr a) qs = Done (form_tied v (Arr a) qs)
rebase_tied_equation v ms (Seq l) qs = Done (form_tied v (Seq l) qs)

-- the equation of a position with this value, where it gets one
abbrev pub equation_found : (v ms : List (Pos × Nf)) → Nf → List Position → Computed (Option Nf)
equation_found v ms t qs = cond (form_held ms t) (after (form_substituted ms t) (λ r. Done (Some r)))
    (rebase_tied_equation v ms t qs)

-- ---- conditions
-- whether a literal says nothing, or nothing new
abbrev pub is_needless : List NormalLiteral → NormalLiteral → Bool
is_needless before l = same_literal l True || list_any (same_literal l) before

-- the literals so far, and those of the others that are needed
abbrev pub with_needed : List NormalLiteral → List NormalLiteral → List NormalLiteral
with_needed before [] = before
with_needed before (l ∷ ls) = with_needed (cond (is_needless before l) before (before ++ l ∷ [])) ls

-- the conditions whose symbols are all held, over the new meanings
abbrev pub conditions_over : List (Pos × Nf) → List NormalLiteral → Computed (List NormalLiteral)
conditions_over ms ls = each (literal_substituted ms) (filter (literal_held ms) ls)
