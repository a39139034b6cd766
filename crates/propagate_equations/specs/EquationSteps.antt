-- Equations and conditions as they are made: one term, one freed position, one condition after the other.
use Rattle.std.specs.Prelude.{cond, Bool, true, false, List, [], ◌∷◌, Option, Some, None, ℤ, pos, neg_ℤ, take, ◌++◌}
use Rattle.nf_trees.specs.NormalTerms.{Polynomial, Monomial, polynomial_of}
use Rattle.nf_terms.specs.Computed.{Computed, Done, after}
use Rattle.fs_model.specs.declared.sides.Pos.{Pos}
use Rattle.nf_terms.specs.declared.form.Nf.{Nf}
use Rattle.nf_rel.specs.Literals.{NormalLiteral}
use Rattle.std.specs.Ordering.{int_eq}
use Rattle.fs_pair.specs.declared.positions.Position.{Position}
use Rattle.nf_terms.specs.declared.symbols.Sort.TheVariants as term
use Rattle.sym_facts.specs.Facts.{most_literals}
use Rattle.sym_facts.specs.Entailment.{literal_substituted}
use Rattle.propagate_equations.specs.declared.splits.Signed.{Signed}
use Rattle.propagate_equations.specs.Equations.{is_held, lone_symbol, Split, number_tied_to, literal_held, is_needless}
use Rattle.propagate_equations.specs.Equations.{with_needed, conditions_over}
use Rattle.propagate_equations.specs.TieSteps.{or_later}

-- ---- a symbol that is split off
abbrev pub signed_by : (held is_one is_minus : Bool) → Pos → Option Signed
signed_by true one minus s = None
signed_by false true minus s = Some (record { symbol = s; positive = true })
signed_by false false true s = Some (record { symbol = s; positive = false })
signed_by false false false s = None

abbrev pub signed_at : List (Pos × Nf) → ℤ → Option Pos → Option Signed
signed_at ms c None = None
signed_at ms c (Some s) = signed_by (is_held ms (s, term.Scalar)) (int_eq c (pos 1)) (int_eq c (neg_ℤ (pos 1))) s

-- a symbol alone that is not held, with the coefficient 1 or -1
abbrev pub signed_term : List (Pos × Nf) → Monomial × ℤ → Option Signed
signed_term ms t = signed_at ms t.1 (lone_symbol t.0)

abbrev pub split_behind : Option Signed → (before rest : List (Monomial × ℤ)) → (later : Option Split) → Option Split
split_behind None before rest later = later
split_behind (Some x) before rest later =
    Some (record { symbol = x.symbol; positive = x.positive; rest = polynomial_of (before ++ rest) })

-- the first such symbol of these terms, with what stands before and behind it
abbrev pub split_from : List (Pos × Nf) → (before ts : List (Monomial × ℤ)) → Option Split
split_from ms before [] = None
split_from ms before (t ∷ ts) = split_behind (signed_term ms t) before ts (split_from ms (before ++ t ∷ []) ts)

-- ---- ties over held symbols
-- a number tied to the first of the freed positions that it can be tied to
abbrev pub rebase_tie : (v ms : List (Pos × Nf)) → Polynomial → List Position → Computed (Option Nf)
rebase_tie v ms t [] = Done None
rebase_tie v ms t (q ∷ qs) = after (number_tied_to v ms t q.sort q.pos (Done None)) (λ o. or_later o (rebase_tie v ms t qs))

-- ---- the literals
-- the conditions so far, and this one over the new meanings, where all its symbols are held and it is needed
abbrev pub with_condition : List (Pos × Nf) → NormalLiteral → (before : List NormalLiteral) → Computed (List NormalLiteral)
with_condition ms l before =
    cond (literal_held ms l)
    (after (literal_substituted ms l) (λ m. Done (cond (is_needless before m) before (before ++ m ∷ [])))) (Done before)

-- the same of each condition in turn
abbrev pub conditions_from : List (Pos × Nf) → (before : List NormalLiteral) → List NormalLiteral → Computed (List NormalLiteral)
conditions_from ms before [] = Done before
conditions_from ms before (l ∷ ls) = after (with_condition ms l before) (λ ks. conditions_from ms ks ls)

abbrev pub conditions_kept : List (Pos × Nf) → List NormalLiteral → Computed (List NormalLiteral)
conditions_kept ms ls = after (conditions_over ms ls) (λ ks. Done (take most_literals (with_needed [] ks)))
