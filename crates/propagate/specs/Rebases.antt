-- The rebase of a post: the fact whose symbols are the values where the post leads.
use Rattle.std.specs.Prelude.{Bool, true, false, cond, pos, take, List, [], ◌∷◌, ◌++◌, Option}
use Rattle.std.specs.Prelude.{Some, None}
use Rattle.fs_model.specs.declared.parts.Sort.{Sort}
use Rattle.fs_pair.specs.declared.positions.Position.{Position}
use Rattle.nf_terms.specs.Computed.{Computed, Done, after}
use Rattle.fs_model.specs.declared.sides.Pos.{Pos}
use Rattle.nf_terms.specs.declared.symbols.Sort.{Sort as TermSort}
use Rattle.nf_terms.specs.declared.form.Nf.{Nf}
use Rattle.nf_terms.specs.declared.form.Nf.TheVariants.{Num}
use Rattle.nf_substitution.specs.Vectors.{with_form}
use Rattle.sym_paths.specs.Execution.{Post}
use Rattle.sym_facts.specs.Facts.{FactPosition, Fact, sort_of_terms, own_symbol, most_literals}
pub use Rattle.propagate_equations.specs.Equations.{lone_atom, lone_symbol, bare_number, value_at, is_held, number_held}
pub use Rattle.propagate_equations.specs.Equations.{form_held, literal_held, bare_base, symbol_of_array, bare_list_base}
pub use Rattle.propagate_equations.specs.Equations.{symbol_of_list, bare_symbol, Split, with_more_of_split, split_by, split_at}
pub use Rattle.propagate_equations.specs.Equations.{split_off_symbol, less_rest, Solution, solution, second_pass_solution}
pub use Rattle.propagate_equations.specs.Equations.{number_tied_to, number_tied, form_tied, rebase_tied_equation, equation_found}
pub use Rattle.propagate_equations.specs.Equations.{is_needless, with_needed, conditions_over}

-- ---- the first pass: a position whose value is a symbol that is not held holds it
-- which positions are free so far, and the new meanings
pub record RebaseState : Type 0 where
  pub free : List Bool
  pub meanings : List (Pos × Nf)

abbrev pub with_mark : Bool → RebaseState → RebaseState
with_mark b h = record { free = b ∷ h.free; meanings = h.meanings }

-- the symbol that is not held and that the value of a position is
abbrev pub unheld_symbol : List (Pos × Nf) → TermSort → Option Pos → Option Pos
unheld_symbol ms s None = None
unheld_symbol ms s (Some x) = cond (is_held ms (x, s)) None (Some x)

abbrev pub symbol_found : (v ms : List (Pos × Nf)) → Sort → Pos → Option Pos
symbol_found v ms s p = unheld_symbol ms (sort_of_terms s) (bare_symbol (value_at v s p))

-- a position that has found a symbol is free, and its own symbol is the new meaning
abbrev pub first_by : Option Pos → Sort → Pos → List (Pos × Nf) → (later : List (Pos × Nf) → RebaseState) → RebaseState
first_by None s p ms later = with_mark false (later ms)
first_by (Some x) s p ms later = with_mark true (later (with_form x (own_symbol s p) ms))

abbrev pub first_pass : List (Pos × Nf) → List Position → List (Pos × Nf) → RebaseState
first_pass v [] ms = record { free = []; meanings = ms }
first_pass v (p ∷ ps) ms = first_by (symbol_found v ms p.sort p.pos) p.sort p.pos ms (λ ns. first_pass v ps ns)

abbrev pub second_by : (free : Bool) → Option Solution → List (Pos × Nf) → (later : List (Pos × Nf) → Computed RebaseState)
    → Computed RebaseState
second_by free None ms later = after (later ms) (λ h. Done (with_mark free h))
second_by free (Some x) ms later = after (later (with_form x.symbol (Num x.meaning) ms)) (λ h. Done (with_mark true h))

abbrev pub second_pass : List (Pos × Nf) → List Position → List Bool → List (Pos × Nf) → Computed RebaseState
second_pass v [] bs ms = Done (record { free = []; meanings = ms })
second_pass v (p ∷ ps) [] ms = Done (record { free = []; meanings = ms })
second_pass v (p ∷ ps) (b ∷ bs) ms = after (second_pass_solution b v ms p.sort p.pos)
    (λ o. second_by b o ms (λ ns. second_pass v ps bs ns))

-- the positions that are freed in this pass, with one more where it gets no equation
abbrev pub freed_in_pass : Position → (equation : Option Nf) → List Position → List Position
freed_in_pass p None qs = qs ++ p ∷ []
freed_in_pass p (Some r) qs = qs

abbrev pub position_with_equation : Position → Option Nf → FactPosition
position_with_equation p o = record { pos = p.pos; sort = p.sort; equation = o }

abbrev pub third_by : (free : Bool) → (v ms : List (Pos × Nf)) → Position → List Position
    → (later : List Position → Computed (List FactPosition)) → Computed (List FactPosition)
third_by true v ms p qs later = after (later qs) (λ rest. Done (position_with_equation p None ∷ rest))
third_by false v ms p qs later =
    after (equation_found v ms (value_at v p.sort p.pos) qs)
    (λ o. after (later (freed_in_pass p o qs)) (λ rest. Done (position_with_equation p o ∷ rest)))

abbrev pub third_pass : (v ms : List (Pos × Nf)) → List Position → List Bool → (freed : List Position)
    → Computed (List FactPosition)
third_pass v ms [] bs qs = Done []
third_pass v ms (p ∷ ps) [] qs = Done []
third_pass v ms (p ∷ ps) (b ∷ bs) qs = third_by b v ms p qs (λ gs. third_pass v ms ps bs gs)

abbrev pub rebase : Post → List Position → Computed Fact
rebase post ps =
    let first = first_pass post.vector ps [] in
    after (second_pass post.vector ps first.free first.meanings)
    (λ h. after (third_pass post.vector h.meanings ps h.free []) (λ qs. after (conditions_over h.meanings post.conditions) (λ ls.
    Done (record { positions = qs; literals = take most_literals (with_needed [] ls) }))))
