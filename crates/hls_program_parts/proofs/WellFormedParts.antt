-- The parts of a well-formed program are well formed.
use Rattle.std.proofs.Common.{◌≡◌, ℕ, suc, ◌+◌, List, [], ◌∷◌, ◌++◌, map, refl, ◌∙◌, Bool, true}
use Rattle.std.specs.Prelude.{◌&&◌, nat_le, not, Some, IsTrue}
use Rattle.std.specs.List.{list_all}
use Rattle.std.proofs.lemmas.List.Folds.{list_all-append}
use Rattle.std.proofs.lemmas.Bool.{and_from}
use Rattle.fs_model.proofs.Booleans.{and_first, and_second}
use Rattle.fs_model.specs.Limits.{most_operators}
use Rattle.fs_model.specs.Expressions.{Expression, Number, Variable, Read, Sum, Difference, Product, Quotient, Remainder, Negative, Guard, Test, Not, And, Or}
use Rattle.fs_model.specs.Expressions.{Assignment}
use Rattle.fs_model.specs.Expressions.{Assign, ArrayWrite, Emit}
use Rattle.fs_model.specs.Source.{Declaration}
use Rattle.fs_model.specs.Runs.{is_port}
use Rattle.fs_model.specs.WellFormed.{operators_of_guard, operators_of_assignment, is_natural_expression, is_natural_guard, is_natural_assignment}
use Rattle.fs_model.specs.WellFormed.{is_well_formed_condition, is_well_formed_assignment, is_well_formed_transition, is_well_formed_state}
use Rattle.fs_model.specs.WellFormed.{is_well_formed_declaration}
use Rattle.fs_model.specs.WellFormed as parts
use Rattle.hls_program_parts.specs.Programs.{Block, End, Do, If, While, Program}
use Rattle.hls_program_parts.specs.Compiled.{count, first, always, where_holds, states_of, state_name, numbered_states, entry_block, parts_of}
use Rattle.hls_program_parts.specs.WellFormedPrograms.{most_depth, is_free, is_program_expression, has_program_expressions, assigns_program_expressions}
use Rattle.hls_program_parts.specs.WellFormedPrograms.{is_program_guard}
use Rattle.hls_program_parts.specs.WellFormedPrograms.{is_program_assignment, is_program_declaration, is_program_block, depth, is_well_formed_program}
use Rattle.hls_program_parts.proofs.Numbers.{Row}

declarations_fine : (ds : List Declaration) → list_all is_program_declaration ds ≡ true → list_all is_well_formed_declaration ds ≡ true
declarations_fine [] h = refl
declarations_fine (d ∷ ds) h =
    and_from (is_well_formed_declaration d) (list_all is_well_formed_declaration ds)
    (and_first (is_well_formed_declaration d) (not (is_port d.sort) && list_all is_free d.names)
    (and_first (is_program_declaration d) (list_all is_program_declaration ds) h))
    (declarations_fine ds (and_second (is_program_declaration d) (list_all is_program_declaration ds) h))

-- the transitions of a state are well formed
abbrev is_fine : Row → Bool
is_fine s = list_all is_well_formed_transition (map (λ l. record { line = s.0; content = l }) s.1)

states_fine : (n : ℕ) (rows : List Row) → list_all is_fine rows ≡ true → list_all is_well_formed_state (numbered_states n rows) ≡ true
states_fine n [] h = refl
states_fine n (r ∷ rows) h = and_from (is_fine r) (list_all is_well_formed_state (numbered_states (suc n) rows))
    (and_first (is_fine r) (list_all is_fine rows) h) (states_fine (suc n) rows (and_second (is_fine r) (list_all is_fine rows) h))

-- both operands, where both are fit
operands : (a b : Expression (List ℕ)) → (is_program_expression a && is_program_expression b) ≡ true
    → (is_program_expression a ≡ true → is_natural_expression a ≡ true)
    → (is_program_expression b ≡ true → is_natural_expression b ≡ true) → (is_natural_expression a && is_natural_expression b) ≡ true
operands a b h f g = and_from (is_natural_expression a) (is_natural_expression b) (f (and_first (is_program_expression a) (is_program_expression b) h))
    (g (and_second (is_program_expression a) (is_program_expression b) h))

natural_expression : (t : Expression (List ℕ)) → is_program_expression t ≡ true → is_natural_expression t ≡ true
natural_expression (Number n) h = h
natural_expression (Variable x) h = refl
natural_expression (Read x i) h = natural_expression i (and_second (is_free x) (is_program_expression i) h)
natural_expression (Sum a b) h = operands a b h (natural_expression a) (natural_expression b)
natural_expression (Difference a b) h = operands a b h (natural_expression a) (natural_expression b)
natural_expression (Product a b) h = operands a b h (natural_expression a) (natural_expression b)
natural_expression (Quotient a b) h = operands a b h (natural_expression a) (natural_expression b)
natural_expression (Remainder a b) h = operands a b h (natural_expression a) (natural_expression b)
natural_expression (Negative a) h = natural_expression a h

natural_guard : (g : Guard (List ℕ)) → has_program_expressions g ≡ true → is_natural_guard g ≡ true
natural_guard (Test l) h = operands l.left l.right h (natural_expression l.left) (natural_expression l.right)
natural_guard (Not g) h = natural_guard g h
natural_guard (And a b) h = and_from (is_natural_guard a) (is_natural_guard b)
    (natural_guard a (and_first (has_program_expressions a) (has_program_expressions b) h))
    (natural_guard b (and_second (has_program_expressions a) (has_program_expressions b) h))
natural_guard (Or a b) h = and_from (is_natural_guard a) (is_natural_guard b)
    (natural_guard a (and_first (has_program_expressions a) (has_program_expressions b) h))
    (natural_guard b (and_second (has_program_expressions a) (has_program_expressions b) h))

natural_assignment : (a : Assignment (List ℕ)) → assigns_program_expressions a ≡ true → is_natural_assignment a ≡ true
natural_assignment (Assign x e) h = natural_expression e (and_second (is_free x) (is_program_expression e) h)
natural_assignment (ArrayWrite x i e) h =
    operands i e (and_second (is_free x) (is_program_expression i && is_program_expression e) h) (natural_expression i) (natural_expression e)
natural_assignment (Emit x e) h = absurd (cc h)

assigned : (line : ℕ) (a : Assignment (List ℕ)) (to : List ℕ) → is_program_assignment a ≡ true → is_fine (line, always to (a ∷ []) ∷ []) ≡ true
assigned line a to h =
    let few = nat_le (operators_of_assignment a) most_operators in
    let w : is_well_formed_assignment a ≡ true = and_from (is_natural_assignment a) few (natural_assignment a (and_first (assigns_program_expressions a) few h))
    (and_second (assigns_program_expressions a) few h) in
    and_from (is_well_formed_assignment a && true) true (and_from (is_well_formed_assignment a) true w refl) refl

chosen : (line : ℕ) (g : Guard (List ℕ)) (to other : List ℕ) → is_program_guard g ≡ true → is_fine (line, where_holds g to ∷ always other [] ∷ []) ≡ true
chosen line g to other h =
    let few = nat_le (operators_of_guard g) most_operators in
    let w : is_well_formed_condition (Some g) ≡ true = and_from (is_natural_guard g) few (natural_guard g (and_first (has_program_expressions g) few h))
    (and_second (has_program_expressions g) few h) in
    and_from (is_well_formed_condition (Some g) && true) true (and_from (is_well_formed_condition (Some g)) true w refl) refl

two : (a b : List Row) → list_all is_fine a ≡ true → list_all is_fine b ≡ true → list_all is_fine (a ++ b) ≡ true
two a b h i = list_all-append is_fine a b ∙ and_from (list_all is_fine a) (list_all is_fine b) h i

block_fine : (b : Block (List ℕ)) (n k : ℕ) → is_program_block b ≡ true → list_all is_fine (states_of state_name b n k) ≡ true
block_fine End n k h = refl
block_fine (Do line a rest) n k h =
    and_from (is_fine (line, always (state_name (first rest (suc n) k)) (a ∷ []) ∷ [])) (list_all is_fine (states_of state_name rest (suc n) k))
    (assigned line a (state_name (first rest (suc n) k)) (and_first (is_program_assignment a) (is_program_block rest) h))
    (block_fine rest (suc n) k (and_second (is_program_assignment a) (is_program_block rest) h))
block_fine (If line g y z rest) n k h =
    let other = suc n + count y in
    let after = other + count z in
    let next = first rest after k in
    let hs = and_second (is_program_guard g) (is_program_block y && (is_program_block z && is_program_block rest)) h in
    let zs = and_second (is_program_block y) (is_program_block z && is_program_block rest) hs in
    let behind = states_of state_name z other next ++ states_of state_name rest after k in
    and_from (is_fine (line, where_holds g (state_name (first y (suc n) next)) ∷ always (state_name (first z other next)) [] ∷ []))
    (list_all is_fine (states_of state_name y (suc n) next ++ behind))
    (chosen line g (state_name (first y (suc n) next)) (state_name (first z other next))
    (and_first (is_program_guard g) (is_program_block y && (is_program_block z && is_program_block rest)) h))
    (two (states_of state_name y (suc n) next) behind
    (block_fine y (suc n) next (and_first (is_program_block y) (is_program_block z && is_program_block rest) hs))
    (two (states_of state_name z other next) (states_of state_name rest after k)
    (block_fine z other next (and_first (is_program_block z) (is_program_block rest) zs))
    (block_fine rest after k (and_second (is_program_block z) (is_program_block rest) zs))))
block_fine (While line g body rest) n k h =
    let after = suc n + count body in
    let hs = and_second (is_program_guard g) (is_program_block body && is_program_block rest) h in
    and_from (is_fine (line, where_holds g (state_name (first body (suc n) n)) ∷ always (state_name (first rest after k)) [] ∷ []))
    (list_all is_fine (states_of state_name body (suc n) n ++ states_of state_name rest after k))
    (chosen line g (state_name (first body (suc n) n)) (state_name (first rest after k))
    (and_first (is_program_guard g) (is_program_block body && is_program_block rest) h))
    (two (states_of state_name body (suc n) n) (states_of state_name rest after k)
    (block_fine body (suc n) n (and_first (is_program_block body) (is_program_block rest) hs))
    (block_fine rest after k (and_second (is_program_block body) (is_program_block rest) hs)))

pub parts_fine : (p : Program) → IsTrue (is_well_formed_program p) → IsTrue (parts.is_well_formed (parts_of p))
parts_fine p h =
    let ds = list_all is_program_declaration p.declarations in
    let body = is_program_block p.body in
    let deep = nat_le (depth p.body) most_depth in
    let rows = entry_block p.body ∷ states_of state_name p.body 1 0 in
    let fine : list_all is_fine rows ≡ true = and_from (is_fine (entry_block p.body))
    (list_all is_fine (states_of state_name p.body 1 0)) refl (block_fine p.body 1 0 (and_first body deep (and_second ds (body && deep) h))) in
    and_from (list_all is_well_formed_declaration p.declarations) (list_all is_well_formed_state (numbered_states 0 rows))
    (declarations_fine p.declarations (and_first ds (body && deep) h)) (states_fine 0 rows fine)
