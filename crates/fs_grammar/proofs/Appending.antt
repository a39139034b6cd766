-- What is appended to an open transition and to an open state, twice and at once.
use Rattle.std.proofs.Common.{◌≡◌, ℕ, List, ◌++◌, ap, append_assoc}
use Rattle.fs_model.specs.Source.{SourceTransition}
use Rattle.fs_model.specs.Expressions.{Assignment}
use Rattle.fs_grammar.specs.Grammar.{OpenState, OpenTransition, with_transitions, with_assignments}

pub assignments_twice : (o : OpenTransition) (xs ys : List (Assignment (List ℕ)))
    → with_assignments (with_assignments o xs) ys ≡ with_assignments o (xs ++ ys)
assignments_twice o xs ys = ap (λ l. record o { assignments = l }) (append_assoc o.assignments xs ys)

pub transitions_twice : (d : OpenState) (xs ys : List SourceTransition) → with_transitions (with_transitions d xs) ys ≡ with_transitions d (xs ++ ys)
transitions_twice d xs ys = ap (λ l. record d { state = record d.state { transitions = l } }) (append_assoc d.state.transitions xs ys)
