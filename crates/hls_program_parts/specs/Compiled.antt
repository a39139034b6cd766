-- The parts to which a program is compiled: a state for each statement, by its number in order of the text, from 1 on.
use Rattle.std.specs.Prelude.{ℕ, suc, ◌+◌, List, [], ◌∷◌, ◌++◌, map, codes, decimal, Some, None}
use Rattle.fs_model.specs.Expressions.{Guard, Assignment, Transition}
use Rattle.fs_model.specs.Source.{SourceState, Source}
use Rattle.hls_program_parts.specs.Programs.{Block, End, Do, If, While, Program}

-- the number of statements, with those in them
abbrev pub count : {X : Type 0} → Block X → ℕ
count End = 0
count (Do line a rest) = suc (count rest)
count (If line g on_yes on_no rest) = suc (count on_yes + (count on_no + count rest))
count (While line g body rest) = suc (count body + count rest)

-- the first of a block, of which n is the first number and k is what follows its end
abbrev pub first : {X : Type 0} → Block X → (n k : ℕ) → ℕ
first End n k = k
first (Do line a rest) n k = n
first (If line g on_yes on_no rest) n k = n
first (While line g body rest) n k = n

-- a transition that is always taken
abbrev pub always : {X S : Type 0} → S → List (Assignment X) → Transition X S
always target assignments = record { guard = None; target = target; assignments = assignments }

-- a transition that is taken where a guard holds
abbrev pub where_holds : {X S : Type 0} → Guard X → S → Transition X S
where_holds g target = record { guard = Some g; target = target; assignments = [] }

-- the states of a block, of which n is the first number and k is what follows its end, each by its line and its transitions;
-- at tells the state of a number
abbrev pub states_of : {X S : Type 0} → (at : ℕ → S) → Block X → (n k : ℕ) → List (ℕ × List (Transition X S))
states_of at End n k = []
states_of at (Do line a rest) n k = (line, always (at (first rest (suc n) k)) (a ∷ []) ∷ []) ∷ states_of at rest (suc n) k
states_of at (If line g on_yes on_no rest) n k =
    let other = suc n + count on_yes in
    let after = other + count on_no in
    let next = first rest after k in
    (line, where_holds g (at (first on_yes (suc n) next)) ∷ always (at (first on_no other next)) [] ∷ [])
    ∷ (states_of at on_yes (suc n) next ++ (states_of at on_no other next ++ states_of at rest after k))
states_of at (While line g body rest) n k =
    let after = suc n + count body in
    (line, where_holds g (at (first body (suc n) n)) ∷ always (at (first rest after k)) [] ∷ [])
    ∷ (states_of at body (suc n) n ++ states_of at rest after k)

-- the name of the state of a number
abbrev pub state_name : ℕ → List ℕ
state_name n = codes "k" ++ decimal n

-- a state with its name; its transitions stand on its line
abbrev pub named_state : ℕ → ℕ × List (Transition (List ℕ) (List ℕ)) → SourceState
named_state n s = record { line = s.0; name = state_name n; transitions = map (λ l. record { line = s.0; content = l }) s.1 }

-- the states with their names, of which n is the first number
abbrev pub numbered_states : ℕ → List (ℕ × List (Transition (List ℕ) (List ℕ))) → List SourceState
numbered_states n [] = []
numbered_states n (s ∷ ss) = named_state n s ∷ numbered_states (suc n) ss

-- state 0, which goes to the first of the outermost block
abbrev pub entry_block : Block (List ℕ) → ℕ × List (Transition (List ℕ) (List ℕ))
entry_block body = (1, always (state_name (first body 1 0)) [] ∷ [])

-- the parts of a program
abbrev pub parts_of : Program → Source
parts_of p = record {
  declarations = p.declarations;
  reset_line = 1;
  reset = state_name 0;
  states = numbered_states 0 (entry_block p.body ∷ states_of state_name p.body 1 0);
}
