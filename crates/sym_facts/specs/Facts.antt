-- Facts on a pair of stores.
use Rattle.std.specs.Prelude.{◌≡◌, ℕ, ◌≤◌, ◌+◌, Bool, true, false, not, ◌&&◌, ◌||◌, IsTrue, is_none, List, [], ◌∷◌, length, map}
use Rattle.std.specs.Prelude.{Option, Some, None}
use Rattle.std.specs.List.{list_all, list_any}
use Rattle.fs_model.specs.declared.parts.Sort.{Sort}
use Rattle.fs_model.specs.declared.parts.Sort.TheVariants as sort
use Rattle.fs_model.specs.Stores.{Store}
use Rattle.nf_trees.specs.NormalTerms.{polynomial_of_symbol, bare_array}
use Rattle.nf_terms.specs.Lists.{bare_list}
use Rattle.nf_trees.specs.Mentions.{mentions}
use Rattle.nf_terms.specs.Forms.{mentions_form, size_of_form, sort_of_form}
use Rattle.nf_terms.specs.TermMeaning.{Valuation, value_of, contents, items_in}
use Rattle.nf_terms.specs.declared.symbols.Sort.{Sort as TermSort}
use Rattle.nf_terms.specs.declared.symbols.Sort.TheVariants as term
use Rattle.fs_model.specs.declared.sides.Pos.{Pos}
use Rattle.nf_trees.specs.declared.tree.Base.TheVariants as base
use Rattle.nf_terms.specs.declared.tree.SeqBase.TheVariants as list
use Rattle.nf_terms.specs.declared.form.Nf.{Nf}
use Rattle.nf_terms.specs.declared.form.Nf.TheVariants.{Num, Arr, Seq}
use Rattle.nf_terms.specs.TermSorts.{same_term_sort}
use Rattle.nf_rel.specs.Literals.{NormalLiteral, True, False, Is, all_true_in}
use Rattle.nf_rel.specs.NormalLiterals.{is_normal_literal, same_literal, size_of_literal}
use Rattle.sym_paths.specs.ValuationStores.{pair}

-- a position, with an equation or free
pub record FactPosition : Type 0 where
  pub pos : Pos
  pub sort : Sort
  pub equation : Option Nf

pub record Fact : Type 0 where
  pub positions : List FactPosition
  pub literals : List NormalLiteral

-- the sort of the terms that stand for variables of a sort
abbrev pub sort_of_terms : Sort → TermSort
sort_of_terms sort.Scalar = term.Scalar
sort_of_terms sort.Array = term.Array
sort_of_terms sort.Port = term.List

abbrev pub own_symbol : Sort → Pos → Nf
own_symbol sort.Scalar p = Num (polynomial_of_symbol p)
own_symbol sort.Array p = Arr (bare_array (base.Sym p))
own_symbol sort.Port p = Seq (bare_list (list.Sym p))

-- a free position has its own symbol, another the form of its equation
abbrev pub form_or_symbol : Sort → Pos → Option Nf → Nf
form_or_symbol s p None = own_symbol s p
form_or_symbol s p (Some f) = f

-- the vector of a fact: a form for each of its positions
abbrev pub vector_of : List FactPosition → List (Pos × Nf)
vector_of ps = map (λ p. (p.pos, form_or_symbol p.sort p.pos p.equation)) ps

-- an equation is true in a valuation; nothing is asked of a free position
abbrev pub EquationHolds : Valuation → Pos → Option Nf → Type 0
EquationHolds w p None = Unit {0}
EquationHolds w p (Some (Num q)) = w.scalar p ≡ value_of w q
EquationHolds w p (Some (Arr a)) = w.array p ≡ contents w a
EquationHolds w p (Some (Seq l)) = w.list p ≡ items_in w l

abbrev pub EquationsHold : Valuation → List FactPosition → Type 0
EquationsHold w [] = Unit {0}
EquationsHold w (p ∷ ps) = EquationHolds w p.pos p.equation × EquationsHold w ps

-- all equations and all literals of a fact are true in a valuation
pub record HoldsIn (w : Valuation) (f : Fact) : Type 0 where
  pub equations : EquationsHold w f.positions
  pub literals : all_true_in w f.literals ≡ true

-- a fact holds of two stores
abbrev pub Holds : Fact → Store → Store → Type 0
Holds f s u = HoldsIn (pair s u) f

-- whether a position is mentioned in an equation, in a literal, in a fact
abbrev pub equation_mentions : Pos → Option Nf → Bool
equation_mentions p None = false
equation_mentions p (Some f) = mentions_form p f

abbrev pub literal_mentions : Pos → NormalLiteral → Bool
literal_mentions p True = false
literal_mentions p False = false
literal_mentions p (Is d k b) = mentions p d

abbrev pub is_mentioned : Fact → Pos → Bool
is_mentioned f p = list_any (λ q. equation_mentions p q.equation) f.positions || list_any (literal_mentions p) f.literals

-- whether a position that has an equation is mentioned
abbrev pub is_unsolved : Fact → FactPosition → Bool
is_unsolved f q = not (is_none q.equation) && is_mentioned f q.pos

-- no position with an equation is mentioned
abbrev pub is_solved : Fact → Bool
is_solved f = list_all (λ q. not (is_unsolved f q)) f.positions

-- whether the form of an equation is of the sort of its position
abbrev pub has_its_sort : Sort → Option Nf → Bool
has_its_sort s None = true
has_its_sort s (Some f) = same_term_sort (sort_of_terms s) (sort_of_form f)

-- the size of a fact: 1, the sizes of its equations, and for each literal 1 and the size of its direction
abbrev pub size_of_equation : Option Nf → ℕ
size_of_equation None = 0
size_of_equation (Some f) = size_of_form f

abbrev pub size_of_equations : List FactPosition → ℕ
size_of_equations [] = 0
size_of_equations (p ∷ ps) = size_of_equation p.equation + size_of_equations ps

abbrev pub size_of_literals : List NormalLiteral → ℕ
size_of_literals [] = 0
size_of_literals (l ∷ ls) = size_of_literal l + size_of_literals ls

abbrev pub size_of_fact : Fact → ℕ
size_of_fact f = 1 + size_of_equations f.positions + size_of_literals f.literals

-- how many literals a fact has at most
abbrev pub most_literals : ℕ
most_literals = 64

-- a literal that a fact may have: in normal form and not True
abbrev pub may_be_kept : NormalLiteral → Bool
may_be_kept l = not (same_literal l True) && is_normal_literal l

-- what holds of each fact: its equations are of their positions' sorts, it is solved, and it has few literals, none of them True
-- and each in normal form
pub record IsFact (f : Fact) : Type 0 where
  pub sorts : IsTrue (list_all (λ q. has_its_sort q.sort q.equation) f.positions)
  pub solved : IsTrue (is_solved f)
  pub few : length f.literals ≤ most_literals
  pub literals : IsTrue (list_all may_be_kept f.literals)
