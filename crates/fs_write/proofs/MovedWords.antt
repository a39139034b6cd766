-- Words that are further down spell the same parts further down.
use Rattle.std.proofs.Common.{ℕ, ◌+◌, List, [], ◌∷◌, ◌++◌, map, sym, subst, Option, Some}
use Rattle.std.proofs.lemmas.List.{map-append}
use Rattle.fs_model.specs.declared.parts.Role.{Role}
use Rattle.fs_model.specs.declared.parts.Sort.{Sort}
use Rattle.fs_model.specs.Expressions.{Expression, Read, Sum, Difference, Product, Quotient, Remainder, Guard, Test, And, Or, Assignment}
use Rattle.fs_model.specs.Source.{Declaration, SourceTransition, SourceState, Source}
use Rattle.fs_grammar.specs.declared.format.Format.{Format}
use Rattle.fs_grammar.specs.declared.token.TokenKind.TheVariants.{Fsmd, Number, Reset, Goto, When, Name, Semicolon, Comma, Equals, OpenParen, CloseParen}
use Rattle.fs_grammar.specs.declared.token.TokenKind.TheVariants.{OpenBracket, CloseBracket, OpenBrace, CloseBrace, Plus, Minus, Star, Slash, Percent, AndAnd}
use Rattle.fs_grammar.specs.declared.token.TokenKind.TheVariants.{OrOr, Relation}
use Rattle.fs_grammar.specs.Formats.{format_number}
use Rattle.fs_grammar.specs.Grammar.{Destination, element, destination_assignment}
use Rattle.fs_grammar.specs.Spelling.{Word, at, IsFactor, number, variable, read, negative, group, IsProduct, factor, times, divides, remainder_of, IsSum}
use Rattle.fs_grammar.specs.Spelling.{product, plus, minus, IsUnit, not as negated, braces, literal, IsConjunction, unit, and, IsGuard, conjunction, or}
use Rattle.fs_grammar.specs.Spelling.{IsDestination, scalar_name, element_at, IsAssignment, assign, emit, AreAssignments, one_assignment, more_assignments}
use Rattle.fs_grammar.specs.Spelling.{AreEffects, no_effects, effects, IsCondition, always, when, IsTransition, transition, AreTransitions, no_transitions}
use Rattle.fs_grammar.specs.Spelling.{more_transitions, IsState, state, AreStates, no_states, more_states, AreNames, one_name, more_names, IsKind, scalars}
use Rattle.fs_grammar.specs.Spelling.{arrays, ports, IsDeclaration, declaration, AreDeclarations, no_declarations, more_declarations, IsFile, file}
use Rattle.fs_write.specs.CommentLines.{declaration_moved, transition_moved, state_moved, lines_moved}

-- a word, n lines further down
abbrev pub word_moved : ℕ → Word → Word
word_moved n (at line kind) = at (n + line) kind

abbrev pub words_moved : ℕ → List Word → List Word
words_moved n ws = map (word_moved n) ws

-- what holds of two lists of words that are moved holds of the moved words of both
joined : (P : List Word → Type 0) (n : ℕ) (a b : List Word) → P (words_moved n a ++ words_moved n b) → P (words_moved n (a ++ b))
joined P n a b h = subst P (sym (map-append (word_moved n) a b)) h

-- ---- sums

mutual
  factor_moves : (n : ℕ) (f : Expression (List ℕ)) (a : List Word) → IsFactor f a → IsFactor f (words_moved n a)
  factor_moves n _ _ (number i v) = number (n + i) v
  factor_moves n _ _ (variable i x) = variable (n + i) x
  factor_moves n _ _ (read i j k x {s} {a} d) =
      joined (λ ws. IsFactor (Read x s) (at (n + i) (Name x) ∷ at (n + j) OpenBracket ∷ ws)) n a (at k CloseBracket ∷ [])
      (read (n + i) (n + j) (n + k) x (sum_moves n s a d))
  factor_moves n _ _ (negative i {f} {a} d) = negative (n + i) (factor_moves n f a d)
  factor_moves n _ _ (group i j {s} {a} d) = joined (λ ws. IsFactor s (at (n + i) OpenParen ∷ ws)) n a (at j CloseParen ∷ [])
      (group (n + i) (n + j) (sum_moves n s a d))

  product_moves : (n : ℕ) (p : Expression (List ℕ)) (a : List Word) → IsProduct p a → IsProduct p (words_moved n a)
  product_moves n _ _ (factor {f} {a} d) = factor (factor_moves n f a d)
  product_moves n _ _ (times i {p} {f} {a} {b} d e) = joined (IsProduct (Product p f)) n a (at i Star ∷ b)
      (times (n + i) (product_moves n p a d) (factor_moves n f b e))
  product_moves n _ _ (divides i {p} {f} {a} {b} d e) = joined (IsProduct (Quotient p f)) n a (at i Slash ∷ b)
      (divides (n + i) (product_moves n p a d) (factor_moves n f b e))
  product_moves n _ _ (remainder_of i {p} {f} {a} {b} d e) = joined (IsProduct (Remainder p f)) n a (at i Percent ∷ b)
      (remainder_of (n + i) (product_moves n p a d) (factor_moves n f b e))

  sum_moves : (n : ℕ) (s : Expression (List ℕ)) (a : List Word) → IsSum s a → IsSum s (words_moved n a)
  sum_moves n _ _ (product {p} {a} d) = product (product_moves n p a d)
  sum_moves n _ _ (plus i {s} {p} {a} {b} d e) = joined (IsSum (Sum s p)) n a (at i Plus ∷ b) (plus (n + i) (sum_moves n s a d) (product_moves n p b e))
  sum_moves n _ _ (minus i {s} {p} {a} {b} d e) = joined (IsSum (Difference s p)) n a (at i Minus ∷ b)
      (minus (n + i) (sum_moves n s a d) (product_moves n p b e))

-- ---- guards

mutual
  unit_moves : (n : ℕ) (u : Guard (List ℕ)) (a : List Word) → IsUnit u a → IsUnit u (words_moved n a)
  unit_moves n _ _ (negated i {u} {a} d) = negated (n + i) (unit_moves n u a d)
  unit_moves n _ _ (braces i j {g} {a} d) = joined (λ ws. IsUnit g (at (n + i) OpenBrace ∷ ws)) n a (at j CloseBrace ∷ [])
      (braces (n + i) (n + j) (guard_moves n g a d))
  unit_moves n _ _ (literal i r {l} {s} {a} {b} d e) =
      joined (IsUnit (Test (record { relation = r; left = l; right = s }))) n a (at i (Relation r) ∷ b)
      (literal (n + i) r (sum_moves n l a d) (sum_moves n s b e))

  conjunction_moves : (n : ℕ) (c : Guard (List ℕ)) (a : List Word) → IsConjunction c a → IsConjunction c (words_moved n a)
  conjunction_moves n _ _ (unit {u} {a} d) = unit (unit_moves n u a d)
  conjunction_moves n _ _ (and i {c} {u} {a} {b} d e) = joined (IsConjunction (And c u)) n a (at i AndAnd ∷ b)
      (and (n + i) (conjunction_moves n c a d) (unit_moves n u b e))

  guard_moves : (n : ℕ) (g : Guard (List ℕ)) (a : List Word) → IsGuard g a → IsGuard g (words_moved n a)
  guard_moves n _ _ (conjunction {c} {a} d) = conjunction (conjunction_moves n c a d)
  guard_moves n _ _ (or i {g} {c} {a} {b} d e) = joined (IsGuard (Or g c)) n a (at i OrOr ∷ b) (or (n + i) (guard_moves n g a d) (conjunction_moves n c b e))

-- ---- assignments

destination_moves : (n : ℕ) (d : Destination) (a : List Word) → IsDestination d a → IsDestination d (words_moved n a)
destination_moves n _ _ (scalar_name i x) = scalar_name (n + i) x
destination_moves n _ _ (element_at i j k x {s} {a} p) =
    joined (λ ws. IsDestination (element x s) (at (n + i) (Name x) ∷ at (n + j) OpenBracket ∷ ws)) n a (at k CloseBracket ∷ [])
    (element_at (n + i) (n + j) (n + k) x (sum_moves n s a p))

assignment_moves : (n : ℕ) (f : Format) (x : Assignment (List ℕ)) (a : List Word) → IsAssignment f x a → IsAssignment f x (words_moved n a)
assignment_moves n _ _ _ (assign f i {d} {e} {a} {b} p q) = joined (IsAssignment f (destination_assignment d e)) n a (at i Equals ∷ b)
    (assign f (n + i) (destination_moves n d a p) (sum_moves n e b q))
assignment_moves n _ _ _ (emit i j x {e} {a} p) = emit (n + i) (n + j) x (sum_moves n e a p)

assignments_move : (n : ℕ) (f : Format) (xs : List (Assignment (List ℕ))) (a : List Word) → AreAssignments f xs a → AreAssignments f xs (words_moved n a)
assignments_move n _ _ _ (one_assignment f {x} {a} p) = one_assignment f (assignment_moves n f x a p)
assignments_move n _ _ _ (more_assignments f i {xs} {x} {a} {b} p q) =
    joined (AreAssignments f (xs ++ x ∷ [])) n a (at i Comma ∷ b) (more_assignments f (n + i) (assignments_move n f xs a p) (assignment_moves n f x b q))

effects_move : (n : ℕ) (f : Format) (xs : List (Assignment (List ℕ))) (a : List Word) → AreEffects f xs a → AreEffects f xs (words_moved n a)
effects_move n _ _ _ (no_effects f) = no_effects f
effects_move n _ _ _ (effects f i {xs} {a} p) = effects f (n + i) (assignments_move n f xs a p)

-- ---- transitions and states

condition_moves : (n line : ℕ) (g : Option (Guard (List ℕ))) (a : List Word) → IsCondition line g a → IsCondition (n + line) g (words_moved n a)
condition_moves n _ _ _ (always i) = always (n + i)
condition_moves n _ _ _ (when i j {g} {a} p) = joined (λ ws. IsCondition (n + i) (Some g) (at (n + i) When ∷ ws)) n a (at j Goto ∷ [])
    (when (n + i) (n + j) (guard_moves n g a p))

transition_moves : (n : ℕ) (f : Format) (l : SourceTransition) (a : List Word) → IsTransition f l a → IsTransition f (transition_moved n l) (words_moved n a)
transition_moves n _ _ _ (transition f i j k g x xs {a} {b} p q) =
    let l : SourceTransition = record { line = i; content = record { guard = g; target = x; assignments = xs } } in
    joined (IsTransition f (transition_moved n l)) n a (at j (Name x) ∷ (b ++ at k Semicolon ∷ []))
    (joined (λ ws. IsTransition f (transition_moved n l) (words_moved n a ++ (at (n + j) (Name x) ∷ ws))) n b (at k Semicolon ∷ [])
    (transition f (n + i) (n + j) (n + k) g x xs (condition_moves n i g a p) (effects_move n f xs b q)))

transitions_move : (n : ℕ) (f : Format) (ls : List SourceTransition) (a : List Word) → AreTransitions f ls a
    → AreTransitions f (map (transition_moved n) ls) (words_moved n a)
transitions_move n _ _ _ (no_transitions f) = no_transitions f
transitions_move n _ _ _ (more_transitions f {ls} {l} {a} {b} p q) =
    subst (λ ks. AreTransitions f ks (words_moved n (a ++ b))) (sym (map-append (transition_moved n) ls (l ∷ [])))
    (joined (AreTransitions f (map (transition_moved n) ls ++ transition_moved n l ∷ [])) n a b
    (more_transitions f (transitions_move n f ls a p) (transition_moves n f l b q)))

state_moves : (n : ℕ) (f : Format) (s : SourceState) (a : List Word) → IsState f s a → IsState f (state_moved n s) (words_moved n a)
state_moves n _ _ _ (state f i j k x ls {a} p) = state f (n + i) (n + j) (n + k) x (map (transition_moved n) ls) (transitions_move n f ls a p)

states_move : (n : ℕ) (f : Format) (ss : List SourceState) (a : List Word) → AreStates f ss a → AreStates f (map (state_moved n) ss) (words_moved n a)
states_move n _ _ _ (no_states f) = no_states f
states_move n _ _ _ (more_states f {ss} {s} {a} {b} p q) =
    subst (λ rs. AreStates f rs (words_moved n (a ++ b))) (sym (map-append (state_moved n) ss (s ∷ [])))
    (joined (AreStates f (map (state_moved n) ss ++ state_moved n s ∷ [])) n a b (more_states f (states_move n f ss a p) (state_moves n f s b q)))

-- ---- declarations

names_move : (n : ℕ) (xs : List (List ℕ)) (a : List Word) → AreNames xs a → AreNames xs (words_moved n a)
names_move n _ _ (one_name i x) = one_name (n + i) x
names_move n _ _ (more_names i j x {xs} {a} p) = joined (AreNames (xs ++ x ∷ [])) n a (at i Comma ∷ at j (Name x) ∷ [])
    (more_names (n + i) (n + j) x (names_move n xs a p))

kind_moves : (n : ℕ) (f : Format) (line : ℕ) (r : Role) (s : Sort) (a : List Word) → IsKind f line r s a → IsKind f (n + line) r s (words_moved n a)
kind_moves n _ _ _ _ _ (scalars f i r) = scalars f (n + i) r
kind_moves n _ _ _ _ _ (arrays f i j r) = arrays f (n + i) (n + j) r
kind_moves n _ _ _ _ _ (ports i) = ports (n + i)

declaration_moves : (n : ℕ) (f : Format) (d : Declaration) (a : List Word) → IsDeclaration f d a → IsDeclaration f (declaration_moved n d) (words_moved n a)
declaration_moves n _ _ _ (declaration f i j r s xs {a} {b} p q) =
    let d : Declaration = record { line = i; role = r; sort = s; names = xs } in
    joined (IsDeclaration f (declaration_moved n d)) n a (b ++ at j Semicolon ∷ [])
    (joined (λ ws. IsDeclaration f (declaration_moved n d) (words_moved n a ++ ws)) n b (at j Semicolon ∷ [])
    (declaration f (n + i) (n + j) r s xs (kind_moves n f i r s a p) (names_move n xs b q)))

declarations_move : (n : ℕ) (f : Format) (ds : List Declaration) (a : List Word) → AreDeclarations f ds a
    → AreDeclarations f (map (declaration_moved n) ds) (words_moved n a)
declarations_move n _ _ _ (no_declarations f) = no_declarations f
declarations_move n _ _ _ (more_declarations f {ds} {d} {a} {b} p q) =
    subst (λ es. AreDeclarations f es (words_moved n (a ++ b))) (sym (map-append (declaration_moved n) ds (d ∷ [])))
    (joined (AreDeclarations f (map (declaration_moved n) ds ++ declaration_moved n d ∷ [])) n a b
    (more_declarations f (declarations_move n f ds a p) (declaration_moves n f d b q)))

-- words that spell a source spell it further down where they are moved
pub file_moves : (n : ℕ) (f : Format) (s : Source) (a : List Word) → IsFile f s a → IsFile f (lines_moved n s) (words_moved n a)
file_moves n _ _ _ (file f i j k l m o ds x ss {a} {b} p q) =
    let s : Source = record { declarations = ds; reset_line = l; reset = x; states = ss } in
    joined (λ ws. IsFile f (lines_moved n s) (at (n + i) Fsmd ∷ at (n + j) (Number (format_number f)) ∷ at (n + k) Semicolon ∷ ws)) n a
    (at l Reset ∷ at m (Name x) ∷ at o Semicolon ∷ b)
    (file f (n + i) (n + j) (n + k) (n + l) (n + m) (n + o) (map (declaration_moved n) ds) x (map (state_moved n) ss) (declarations_move n f ds a p)
    (states_move n f ss b q))
