-- What is spelled is read.
use Rattle.std.proofs.Common.{◌≡◌, ℕ, List, [], ◌∷◌, ◌++◌, Option, Some, refl, sym, ap, ◌∙◌, append_assoc}
use Rattle.std.proofs.lemmas.List.{append-nil}
use Rattle.fs_model.specs.declared.parts.Rel.{Rel}
use Rattle.fs_model.specs.declared.parts.Role.{Role}
use Rattle.fs_model.specs.declared.parts.Role.TheVariants.{Output}
use Rattle.fs_model.specs.declared.parts.Sort.{Sort}
use Rattle.fs_model.specs.declared.parts.Sort.TheVariants as sorts
use Rattle.fs_model.specs.Expressions.{Expression, Variable, Guard, Assignment}
use Rattle.fs_model.specs.Source.{Declaration, SourceTransition, SourceState, Source}
use Rattle.fs_grammar.specs.declared.format.Format.{Format}
use Rattle.fs_grammar.specs.declared.format.Format.TheVariants.{One, Two}
use Rattle.fs_grammar.specs.declared.token.TokenKind.{TokenKind}
use Rattle.fs_grammar.specs.declared.token.TokenKind.TheVariants.{Fsmd, Number, Reset, State, Goto, Name, Semicolon, Colon, Comma, Equals, CloseParen}
use Rattle.fs_grammar.specs.declared.token.TokenKind.TheVariants.{CloseBracket, CloseBrace, Plus, Minus, Star, Slash, Percent, AndAnd, OrOr, Relation}
use Rattle.fs_grammar.specs.PartEnds.{IsNoSum, IsNoProduct, IsNoAnd, IsNoIndex}
use Rattle.fs_grammar.specs.Formats.{format_number}
use Rattle.fs_grammar.specs.Grammar as machine
use Rattle.fs_grammar.specs.Grammar.{Destination, scalar, element, port, destination_assignment, OpenState, OpenTransition, with_transitions, with_assignments}
use Rattle.fs_grammar.specs.Grammar.{close_transition, FactorContext, ProductContext, SumContext, UnitContext, ConjunctionContext, GuardContext, first_factor}
use Rattle.fs_grammar.specs.Grammar.{first_product, first_of_all, first_of_any, parens, index, left, right, write_index, value, ParseState, at_start}
use Rattle.fs_grammar.specs.Grammar.{at_declaration, at_sort, at_declared, after_declared, at_state, at_state_name, at_transition, at_target, after_target}
use Rattle.fs_grammar.specs.Grammar.{at_assignment, at_port, at_unit, after_conjunction, after_guard, at_factor, after_name, after_product, after_sum, at_sum}
use Rattle.fs_grammar.specs.Grammar.{at_guard, factor_done, product_done, unit_done, conjunction_done, literal_done, step, in_format_two, finish_source}
use Rattle.fs_grammar.proofs.PartEnds.{name_steps, product_steps, literal_steps, conjunction_steps}
use Rattle.fs_grammar.specs.Spelling.{Word, at, IsFactor, number, variable, read, negative, group, IsProduct, factor, times, divides, remainder_of, IsSum}
use Rattle.fs_grammar.specs.Spelling.{product, plus, minus, IsUnit, not, braces, literal, IsConjunction, unit, and, IsGuard, conjunction, or, scalar_name}
use Rattle.fs_grammar.specs.Spelling.{element_at, IsAssignment, assign, emit, AreAssignments, one_assignment, more_assignments, AreEffects, no_effects}
use Rattle.fs_grammar.specs.Spelling.{effects, IsCondition, always, when, IsTransition, transition, AreTransitions, no_transitions, more_transitions}
use Rattle.fs_grammar.specs.Spelling.{state, AreStates, no_states, more_states, AreNames, one_name, more_names, IsKind, scalars, arrays, ports}
use Rattle.fs_grammar.specs.Spelling.{IsDeclaration, declaration, AreDeclarations, no_declarations, more_declarations, IsFile, file}
use Rattle.fs_grammar.specs.WordWalks.{and_then, walk, source_at}

regroup : (a b rest : List Word) (s : ParseState) → walk ((a ++ b) ++ rest) s ≡ walk (a ++ (b ++ rest)) s
regroup a b rest s = ap (λ (l : List Word). walk l s) (append_assoc a b rest)

-- ---- where a part ends without a word of its own

alike : (n : ℕ) (t : TokenKind) (rest : List Word) (r s : ParseState) → step r n t ≡ step s n t → walk (at n t ∷ rest) r ≡ walk (at n t ∷ rest) s
alike n t rest r s e = ap (λ (o : Option ParseState). and_then o (walk rest)) e

name_ends : (n : ℕ) (t : TokenKind) (rest : List Word) (x : List ℕ) (k : FactorContext) → IsNoIndex (Some t)
    → walk (at n t ∷ rest) (after_name x k) ≡ walk (at n t ∷ rest) (factor_done (Variable x) k)
name_ends n t rest x k h = alike n t rest (after_name x k) (factor_done (Variable x) k) (name_steps n t x k h)

product_ends : (n : ℕ) (t : TokenKind) (rest : List Word) (p : Expression (List ℕ)) (k : ProductContext) → IsNoProduct (Some t)
    → walk (at n t ∷ rest) (after_product p k) ≡ walk (at n t ∷ rest) (product_done p k)
product_ends n t rest p k h = alike n t rest (after_product p k) (product_done p k) (product_steps n t p k h)

literal_ends : (n : ℕ) (t : TokenKind) (rest : List Word) (r : Rel) (l s : Expression (List ℕ)) (k : UnitContext) → IsNoSum (Some t)
    → walk (at n t ∷ rest) (after_sum s (right r l k)) ≡ walk (at n t ∷ rest) (literal_done r l s k)
literal_ends n t rest r l s k h = alike n t rest (after_sum s (right r l k)) (literal_done r l s k) (literal_steps n t r l s k h)

conjunction_ends : (n : ℕ) (t : TokenKind) (rest : List Word) (c : Guard (List ℕ)) (k : ConjunctionContext) → IsNoAnd (Some t)
    → walk (at n t ∷ rest) (after_conjunction c k) ≡ walk (at n t ∷ rest) (conjunction_done c k)
conjunction_ends n t rest c k h = alike n t rest (after_conjunction c k) (conjunction_done c k) (conjunction_steps n t c k h)

-- ---- sums

mutual
  pub factor_walks : (f : Expression (List ℕ)) (a : List Word) → IsFactor f a → (n : ℕ) (t : TokenKind) (rest : List Word) (k : FactorContext)
      → IsNoIndex (Some t)
      → walk (a ++ (at n t ∷ rest)) (at_factor k) ≡ walk (at n t ∷ rest) (factor_done f k)
  factor_walks _ _ (number i v) n t rest k h = refl
  factor_walks _ _ (variable i x) n t rest k h = name_ends n t rest x k h
  factor_walks _ _ (read i j m x {s} {a} d) n t rest k h = regroup a (at m CloseBracket ∷ []) (at n t ∷ rest) (at_sum (index x k))
      ∙ sum_walks s a d m CloseBracket (at n t ∷ rest) (index x k) tt tt
  factor_walks _ _ (negative i {f} {a} d) n t rest k h = factor_walks f a d n t rest (machine.negative k) h
  factor_walks _ _ (group i m {s} {a} d) n t rest k h = regroup a (at m CloseParen ∷ []) (at n t ∷ rest) (at_sum (parens k))
      ∙ sum_walks s a d m CloseParen (at n t ∷ rest) (parens k) tt tt

  pub product_walks : (p : Expression (List ℕ)) (a : List Word) → IsProduct p a → (n : ℕ) (t : TokenKind) (rest : List Word) (k : ProductContext)
      → IsNoIndex (Some t)
      → walk (a ++ (at n t ∷ rest)) (at_factor (first_factor k)) ≡ walk (at n t ∷ rest) (after_product p k)
  product_walks _ _ (factor {f} {a} d) n t rest k h = factor_walks f a d n t rest (first_factor k) h
  product_walks _ _ (times m {p} {f} {a} {b} d e) n t rest k h = regroup a (at m Star ∷ b) (at n t ∷ rest) (at_factor (first_factor k))
      ∙ product_walks p a d m Star (b ++ (at n t ∷ rest)) k tt ∙ factor_walks f b e n t rest (machine.times p k) h
  product_walks _ _ (divides m {p} {f} {a} {b} d e) n t rest k h = regroup a (at m Slash ∷ b) (at n t ∷ rest) (at_factor (first_factor k))
      ∙ product_walks p a d m Slash (b ++ (at n t ∷ rest)) k tt ∙ factor_walks f b e n t rest (machine.divides p k) h
  product_walks _ _ (remainder_of m {p} {f} {a} {b} d e) n t rest k h = regroup a (at m Percent ∷ b) (at n t ∷ rest) (at_factor (first_factor k))
      ∙ product_walks p a d m Percent (b ++ (at n t ∷ rest)) k tt ∙ factor_walks f b e n t rest (machine.remainder_of p k) h

  pub sum_walks : (s : Expression (List ℕ)) (a : List Word) → IsSum s a → (n : ℕ) (t : TokenKind) (rest : List Word) (k : SumContext) → IsNoIndex (Some t)
      → IsNoProduct (Some t) → walk (a ++ (at n t ∷ rest)) (at_sum k) ≡ walk (at n t ∷ rest) (after_sum s k)
  sum_walks _ _ (product {p} {a} d) n t rest k h i = product_walks p a d n t rest (first_product k) h ∙ product_ends n t rest p (first_product k) i
  sum_walks _ _ (plus m {s} {p} {a} {b} d e) n t rest k h i = regroup a (at m Plus ∷ b) (at n t ∷ rest) (at_sum k)
      ∙ sum_walks s a d m Plus (b ++ (at n t ∷ rest)) k tt tt ∙ product_walks p b e n t rest (machine.plus s k) h ∙ product_ends n t rest p (machine.plus s k) i
  sum_walks _ _ (minus m {s} {p} {a} {b} d e) n t rest k h i = regroup a (at m Minus ∷ b) (at n t ∷ rest) (at_sum k)
      ∙ sum_walks s a d m Minus (b ++ (at n t ∷ rest)) k tt tt ∙ product_walks p b e n t rest (machine.minus s k) h
      ∙ product_ends n t rest p (machine.minus s k) i

-- ---- a sum begins a unit as it begins a literal

factor_opens : (f : Expression (List ℕ)) (a : List Word) → IsFactor f a → (rest : List Word) (k : UnitContext)
    → walk (a ++ rest) (at_unit k) ≡ walk (a ++ rest) (at_sum (left k))
factor_opens _ _ (number n i) rest k = refl
factor_opens _ _ (variable n x) rest k = refl
factor_opens _ _ (read n m l x d) rest k = refl
factor_opens _ _ (negative n d) rest k = refl
factor_opens _ _ (group n m d) rest k = refl

opens_longer : (a b rest : List Word) (k : UnitContext) → walk (a ++ (b ++ rest)) (at_unit k) ≡ walk (a ++ (b ++ rest)) (at_sum (left k))
    → walk ((a ++ b) ++ rest) (at_unit k) ≡ walk ((a ++ b) ++ rest) (at_sum (left k))
opens_longer a b rest k e = regroup a b rest (at_unit k) ∙ e ∙ sym (regroup a b rest (at_sum (left k)))

product_opens : (p : Expression (List ℕ)) (a : List Word) → IsProduct p a → (rest : List Word) (k : UnitContext)
    → walk (a ++ rest) (at_unit k) ≡ walk (a ++ rest) (at_sum (left k))
product_opens _ _ (factor {f} {a} d) rest k = factor_opens f a d rest k
product_opens _ _ (times m {p} {f} {a} {b} d e) rest k = opens_longer a (at m Star ∷ b) rest k (product_opens p a d (at m Star ∷ (b ++ rest)) k)
product_opens _ _ (divides m {p} {f} {a} {b} d e) rest k = opens_longer a (at m Slash ∷ b) rest k (product_opens p a d (at m Slash ∷ (b ++ rest)) k)
product_opens _ _ (remainder_of m {p} {f} {a} {b} d e) rest k = opens_longer a (at m Percent ∷ b) rest k (product_opens p a d (at m Percent ∷ (b ++ rest)) k)

sum_opens : (s : Expression (List ℕ)) (a : List Word) → IsSum s a → (rest : List Word) (k : UnitContext)
    → walk (a ++ rest) (at_unit k) ≡ walk (a ++ rest) (at_sum (left k))
sum_opens _ _ (product {p} {a} d) rest k = product_opens p a d rest k
sum_opens _ _ (plus m {s} {p} {a} {b} d e) rest k = opens_longer a (at m Plus ∷ b) rest k (sum_opens s a d (at m Plus ∷ (b ++ rest)) k)
sum_opens _ _ (minus m {s} {p} {a} {b} d e) rest k = opens_longer a (at m Minus ∷ b) rest k (sum_opens s a d (at m Minus ∷ (b ++ rest)) k)

-- ---- guards

-- a token with which no expression goes on
abbrev EndsExpressions : TokenKind → Type 0
EndsExpressions t = IsNoIndex (Some t) × IsNoProduct (Some t) × IsNoSum (Some t)

mutual
  pub unit_walks : (u : Guard (List ℕ)) (a : List Word) → IsUnit u a → (n : ℕ) (t : TokenKind) (rest : List Word) (k : UnitContext) → EndsExpressions t
      → walk (a ++ (at n t ∷ rest)) (at_unit k) ≡ walk (at n t ∷ rest) (unit_done u k)
  unit_walks _ _ (not i {u} {a} d) n t rest k h = unit_walks u a d n t rest (machine.negates k) h
  unit_walks _ _ (braces i m {g} {a} d) n t rest k h = regroup a (at m CloseBrace ∷ []) (at n t ∷ rest) (at_guard (machine.braces k))
      ∙ guard_walks g a d m CloseBrace (at n t ∷ rest) (machine.braces k) (tt, tt, tt) tt
  unit_walks _ _ (literal m r {l} {s} {a} {b} d e) n t rest k h =
      regroup a (at m (Relation r) ∷ b) (at n t ∷ rest) (at_unit k) ∙ sum_opens l a d (at m (Relation r) ∷ (b ++ (at n t ∷ rest))) k
      ∙ sum_walks l a d m (Relation r) (b ++ (at n t ∷ rest)) (left k) tt tt
      ∙ sum_walks s b e n t rest (right r l k) h.0 h.1 ∙ literal_ends n t rest r l s k h.2

  pub conjunction_walks : (c : Guard (List ℕ)) (a : List Word) → IsConjunction c a → (n : ℕ) (t : TokenKind) (rest : List Word) (k : ConjunctionContext)
      → EndsExpressions t → walk (a ++ (at n t ∷ rest)) (at_unit (first_of_all k)) ≡ walk (at n t ∷ rest) (after_conjunction c k)
  conjunction_walks _ _ (unit {u} {a} d) n t rest k h = unit_walks u a d n t rest (first_of_all k) h
  conjunction_walks _ _ (and m {c} {u} {a} {b} d e) n t rest k h = regroup a (at m AndAnd ∷ b) (at n t ∷ rest) (at_unit (first_of_all k))
      ∙ conjunction_walks c a d m AndAnd (b ++ (at n t ∷ rest)) k (tt, tt, tt) ∙ unit_walks u b e n t rest (machine.and_after c k) h

  pub guard_walks : (g : Guard (List ℕ)) (a : List Word) → IsGuard g a → (n : ℕ) (t : TokenKind) (rest : List Word) (k : GuardContext) → EndsExpressions t
      → IsNoAnd (Some t) → walk (a ++ (at n t ∷ rest)) (at_guard k) ≡ walk (at n t ∷ rest) (after_guard g k)
  guard_walks _ _ (conjunction {c} {a} d) n t rest k h i = conjunction_walks c a d n t rest (first_of_any k) h ∙ conjunction_ends n t rest c (first_of_any k) i
  guard_walks _ _ (or m {g} {c} {a} {b} d e) n t rest k h i =
      regroup a (at m OrOr ∷ b) (at n t ∷ rest) (at_guard k) ∙ guard_walks g a d m OrOr (b ++ (at n t ∷ rest)) k (tt, tt, tt) tt
      ∙ conjunction_walks c b e n t rest (machine.or_after g k) h ∙ conjunction_ends n t rest c (machine.or_after g k) i

-- ---- assignments

-- what follows a value is read as after the assignment, whether a comma or a semicolon
assignment_walks : (f : Format) (x : Assignment (List ℕ)) (a : List Word) → IsAssignment f x a
    → (n : ℕ) (t : TokenKind) (rest : List Word) (o : OpenTransition) (r : Option ParseState) → f ≡ o.state.format → IsNoIndex (Some t) → IsNoProduct (Some t)
    → ((d : Destination) (e : Expression (List ℕ)) → destination_assignment d e ≡ x → walk (at n t ∷ rest) (after_sum e (value o d)) ≡ r)
    → walk (a ++ (at n t ∷ rest)) (at_assignment o) ≡ r
assignment_walks _ _ _ (assign f m {e = e} {b = b} (scalar_name i x) q) n t rest o r g h k go = sum_walks e b q n t rest (value o (scalar x)) h k
    ∙ go (scalar x) e refl
assignment_walks _ _ _ (assign f m {e = e} {b = b} (element_at i j l x {s} {a} p) q) n t rest o r g h k go =
    regroup (a ++ at l CloseBracket ∷ []) (at m Equals ∷ b) (at n t ∷ rest) (at_sum (write_index o x))
    ∙ regroup a (at l CloseBracket ∷ []) (at m Equals ∷ (b ++ (at n t ∷ rest))) (at_sum (write_index o x))
    ∙ sum_walks s a p l CloseBracket (at m Equals ∷ (b ++ (at n t ∷ rest))) (write_index o x) tt tt ∙ sum_walks e b q n t rest (value o (element x s)) h k
    ∙ go (element x s) e refl
assignment_walks _ _ _ (emit i j x {e} {a} q) n t rest o r g h k go =
    ap (λ (f : Format). and_then (in_format_two f (at_port o)) (walk (at j (Name x) ∷ (a ++ (at n t ∷ rest))))) (sym g)
    ∙ sum_walks e a q n t rest (value o (port x)) h k ∙ go (port x) e refl

comma_walks : (x : Assignment (List ℕ)) (a : List Word) (o : OpenTransition) → IsAssignment o.state.format x a → (n : ℕ) (rest : List Word)
    → walk (a ++ (at n Comma ∷ rest)) (at_assignment o) ≡ walk rest (at_assignment (with_assignments o (x ∷ [])))
comma_walks x a o h n rest = assignment_walks o.state.format x a h n Comma rest o (walk rest (at_assignment (with_assignments o (x ∷ [])))) refl tt tt
    (λ d e i. ap (λ (y : Assignment (List ℕ)). walk rest (at_assignment (with_assignments o (y ∷ [])))) i)

semicolon_walks : (x : Assignment (List ℕ)) (a : List Word) (o : OpenTransition) → IsAssignment o.state.format x a → (n : ℕ) (rest : List Word)
    → walk (a ++ (at n Semicolon ∷ rest)) (at_assignment o) ≡ walk rest (at_transition (close_transition (with_assignments o (x ∷ []))))
semicolon_walks x a o h n rest = assignment_walks o.state.format x a h n Semicolon rest o
    (walk rest (at_transition (close_transition (with_assignments o (x ∷ []))))) refl tt tt
    (λ d e i. ap (λ (y : Assignment (List ℕ)). walk rest (at_transition (close_transition (with_assignments o (y ∷ []))))) i)

-- a state of a format that is being read
abbrev open_state : Format → Source → ℕ → List ℕ → List SourceTransition → OpenState
open_state f s n x ls = record { format = f; source = s; state = record { line = n; name = x; transitions = ls } }

abbrev open_transition : OpenState → ℕ → Option (Guard (List ℕ)) → List ℕ → List (Assignment (List ℕ)) → OpenTransition
open_transition d n g x xs = record { state = d; line = n; guard = g; target = x; assignments = xs }

assignments_go_on : (f : Format) (xs : List (Assignment (List ℕ))) (a : List Word) → AreAssignments f xs a
    → (n : ℕ) (rest : List Word) (s : Source) (t : SourceState) (i : ℕ) (g : Option (Guard (List ℕ))) (x : List ℕ)
    → let d : OpenState = record { format = f; source = s; state = t } in
    walk (a ++ (at n Comma ∷ rest)) (at_assignment (open_transition d i g x [])) ≡ walk rest (at_assignment (open_transition d i g x xs))
assignments_go_on _ _ _ (one_assignment f {x = y} {a} p) n rest s t i g x =
    comma_walks y a (open_transition (record { format = f; source = s; state = t }) i g x []) p n rest
assignments_go_on _ _ _ (more_assignments f m {xs} {x = y} {a} {b} p q) n rest s t i g x =
    let d : OpenState = record { format = f; source = s; state = t } in
    regroup a (at m Comma ∷ b) (at n Comma ∷ rest) (at_assignment (open_transition d i g x []))
    ∙ assignments_go_on f xs a p m (b ++ (at n Comma ∷ rest)) s t i g x ∙ comma_walks y b (open_transition d i g x xs) q n rest

assignments_end : (f : Format) (xs : List (Assignment (List ℕ))) (a : List Word) → AreAssignments f xs a
    → (n : ℕ) (rest : List Word) (s : Source) (t : SourceState) (i : ℕ) (g : Option (Guard (List ℕ))) (x : List ℕ)
    → let d : OpenState = record { format = f; source = s; state = t } in
    walk (a ++ (at n Semicolon ∷ rest)) (at_assignment (open_transition d i g x [])) ≡ walk rest (at_transition (close_transition (open_transition d i g x xs)))
assignments_end _ _ _ (one_assignment f {x = y} {a} p) n rest s t i g x =
    semicolon_walks y a (open_transition (record { format = f; source = s; state = t }) i g x []) p n rest
assignments_end _ _ _ (more_assignments f m {xs} {x = y} {a} {b} p q) n rest s t i g x =
    let d : OpenState = record { format = f; source = s; state = t } in
    regroup a (at m Comma ∷ b) (at n Semicolon ∷ rest) (at_assignment (open_transition d i g x []))
    ∙ assignments_go_on f xs a p m (b ++ (at n Semicolon ∷ rest)) s t i g x ∙ semicolon_walks y b (open_transition d i g x xs) q n rest

effects_end : (f : Format) (xs : List (Assignment (List ℕ))) (a : List Word) → AreEffects f xs a
    → (n : ℕ) (rest : List Word) (s : Source) (t : SourceState) (i : ℕ) (g : Option (Guard (List ℕ))) (x : List ℕ)
    → let d : OpenState = record { format = f; source = s; state = t } in
    walk (a ++ (at n Semicolon ∷ rest)) (after_target (open_transition d i g x [])) ≡ walk rest (at_transition (close_transition (open_transition d i g x xs)))
effects_end _ _ _ (no_effects f) n rest s t i g x = refl
effects_end _ _ _ (effects f m {xs} {a} p) n rest s t i g x = assignments_end f xs a p n rest s t i g x

-- ---- transitions and states

condition_walks : (n : ℕ) (g : Option (Guard (List ℕ))) (a : List Word) → IsCondition n g a → (rest : List Word) (d : OpenState)
    → walk (a ++ rest) (at_transition d) ≡ walk rest (at_target d n g)
condition_walks _ _ _ (always n) rest d = refl
condition_walks _ _ _ (when n m {g} {a} p) rest d = regroup a (at m Goto ∷ []) rest (at_guard (machine.transition_guard d n))
    ∙ guard_walks g a p m Goto rest (machine.transition_guard d n) (tt, tt, tt) tt

transition_walks : (f : Format) (l : SourceTransition) (a : List Word) → IsTransition f l a → (rest : List Word) (s : Source) (t : SourceState)
    → let d : OpenState = record { format = f; source = s; state = t } in
    walk (a ++ rest) (at_transition d) ≡ walk rest (at_transition (with_transitions d (l ∷ [])))
transition_walks _ _ _ (transition f n m k g x xs {a} {b} p q) rest s t =
    let d : OpenState = record { format = f; source = s; state = t } in
    regroup a (at m (Name x) ∷ (b ++ at k Semicolon ∷ [])) rest (at_transition d)
    ∙ condition_walks n g a p (at m (Name x) ∷ ((b ++ at k Semicolon ∷ []) ++ rest)) d
    ∙ regroup b (at k Semicolon ∷ []) rest (after_target (open_transition d n g x [])) ∙ effects_end f xs b q k rest s t n g x

-- lists that grow at their ends
transitions_walk : (f : Format) (ls : List SourceTransition) (a : List Word) → AreTransitions f ls a → (rest : List Word) (s : Source) (n : ℕ) (x : List ℕ)
    → walk (a ++ rest) (at_transition (open_state f s n x [])) ≡ walk rest (at_transition (open_state f s n x ls))
transitions_walk _ _ _ (no_transitions f) rest s n x = refl
transitions_walk _ _ _ (more_transitions f {ls} {l} {a} {b} p q) rest s n x =
    regroup a b rest (at_transition (open_state f s n x [])) ∙ transitions_walk f ls a p (b ++ rest) s n x
    ∙ transition_walks f l b q rest s (record { line = n; name = x; transitions = ls })

abbrev stated : List Declaration → ℕ → List ℕ → List SourceState → Source
stated ds n x ss = record { declarations = ds; reset_line = n; reset = x; states = ss }

-- the next state begins
states_go_on : (f : Format) (ss : List SourceState) (a : List Word) → AreStates f ss a → (k : ℕ) (rest : List Word) (ds : List Declaration) (n : ℕ) (x : List ℕ)
    → walk (a ++ (at k State ∷ rest)) (at_state f (stated ds n x [])) ≡ walk rest (at_state_name f (stated ds n x ss) k)
states_go_on _ _ _ (no_states f) k rest ds n x = refl
states_go_on _ _ _ (more_states _ {ss} {a = a} p (state f i j l y ls {a = b} q)) k rest ds n x =
    regroup a (at i State ∷ at j (Name y) ∷ at l Colon ∷ b) (at k State ∷ rest) (at_state f (stated ds n x []))
    ∙ states_go_on f ss a p i (at j (Name y) ∷ at l Colon ∷ (b ++ (at k State ∷ rest))) ds n x
    ∙ transitions_walk f ls b q (at k State ∷ rest) (stated ds n x ss) i y

states_end : (f : Format) (ss : List SourceState) (a : List Word) → AreStates f ss a → (ds : List Declaration) (n : ℕ) (x : List ℕ)
    → and_then (walk a (at_state f (stated ds n x []))) finish_source ≡ Some (stated ds n x ss)
states_end _ _ _ (no_states f) ds n x = refl
states_end _ _ _ (more_states _ {ss} {a = a} p (state f i j l y ls {a = b} q)) ds n x =
    ap (λ (o : Option ParseState). and_then o finish_source)
    (states_go_on f ss a p i (at j (Name y) ∷ at l Colon ∷ b) ds n x
    ∙ ap (λ (w : List Word). walk w (at_transition (open_state f (stated ds n x ss) i y []))) (sym (append-nil b))
    ∙ transitions_walk f ls b q [] (stated ds n x ss) i y)

-- ---- declarations

abbrev declared : ℕ → Role → Sort → List (List ℕ) → Declaration
declared n r s xs = record { line = n; role = r; sort = s; names = xs }

names_walk : (xs : List (List ℕ)) (a : List Word) → AreNames xs a → (rest : List Word) (f : Format) (ds : List Declaration) (n : ℕ) (r : Role) (s : Sort)
    → walk (a ++ rest) (at_declared f ds (declared n r s [])) ≡ walk rest (after_declared f ds (declared n r s xs))
names_walk _ _ (one_name i x) rest f ds n r s = refl
names_walk _ _ (more_names i j x {xs} {a} p) rest f ds n r s =
    regroup a (at i Comma ∷ at j (Name x) ∷ []) rest (at_declared f ds (declared n r s [])) ∙ names_walk xs a p (at i Comma ∷ at j (Name x) ∷ rest) f ds n r s

scalars_walk : (xs : List (List ℕ)) (a : List Word) → AreNames xs a → (rest : List Word) (f : Format) (ds : List Declaration) (n : ℕ) (r : Role)
    → walk (a ++ rest) (at_sort f ds n r) ≡ walk rest (after_declared f ds (declared n r sorts.Scalar xs))
scalars_walk _ _ (one_name i x) rest f ds n r = refl
scalars_walk _ _ (more_names i j x {xs} {a} p) rest f ds n r = regroup a (at i Comma ∷ at j (Name x) ∷ []) rest (at_sort f ds n r)
    ∙ scalars_walk xs a p (at i Comma ∷ at j (Name x) ∷ rest) f ds n r

kind_walks : (f : Format) (n : ℕ) (r : Role) (s : Sort) (a : List Word) → IsKind f n r s a → (xs : List (List ℕ)) (b : List Word) → AreNames xs b
    → (rest : List Word) (ds : List Declaration)
    → walk (a ++ (b ++ rest)) (at_declaration f ds) ≡ walk rest (after_declared f ds (declared n r s xs))
kind_walks _ _ _ _ _ (scalars f n r) xs b q rest ds = scalars_walk xs b q rest f ds n r
kind_walks _ _ _ _ _ (arrays f n m r) xs b q rest ds = names_walk xs b q rest f ds n r sorts.Array
kind_walks _ _ _ _ _ (ports n) xs b q rest ds = names_walk xs b q rest Two ds n Output sorts.Port

declaration_walks : (f : Format) (d : Declaration) (a : List Word) → IsDeclaration f d a → (rest : List Word) (ds : List Declaration)
    → walk (a ++ rest) (at_declaration f ds) ≡ walk rest (at_declaration f (ds ++ d ∷ []))
declaration_walks _ _ _ (declaration f n m r s xs {a} {b} p q) rest ds =
    regroup a (b ++ at m Semicolon ∷ []) rest (at_declaration f ds)
    ∙ ap (λ (l : List Word). walk (a ++ l) (at_declaration f ds)) (append_assoc b (at m Semicolon ∷ []) rest)
    ∙ kind_walks f n r s a p xs b q (at m Semicolon ∷ rest) ds

declarations_walk : (f : Format) (ds : List Declaration) (a : List Word) → AreDeclarations f ds a → (rest : List Word)
    → walk (a ++ rest) (at_declaration f []) ≡ walk rest (at_declaration f ds)
declarations_walk _ _ _ (no_declarations f) rest = refl
declarations_walk _ _ _ (more_declarations f {ds} {d} {a} {b} p q) rest = regroup a b rest (at_declaration f []) ∙ declarations_walk f ds a p (b ++ rest)
    ∙ declaration_walks f d b q rest ds

-- the head of a file
head_walks : (f : Format) (i j k : ℕ) (rest : List Word)
    → walk (at i Fsmd ∷ at j (Number (format_number f)) ∷ at k Semicolon ∷ rest) at_start ≡ walk rest (at_declaration f [])
head_walks One i j k rest = refl
head_walks Two i j k rest = refl

-- What spells a source leads to it.
pub complete : (f : Format) (s : Source) (ws : List Word) → IsFile f s ws → source_at ws ≡ Some s
complete _ _ _ (file f i j k n m l ds x ss {a} {b} p q) =
    let rest : List Word = at n Reset ∷ at m (Name x) ∷ at l Semicolon ∷ b in
    ap (λ (o : Option ParseState). and_then o finish_source) (head_walks f i j k (a ++ rest) ∙ declarations_walk f ds a p rest) ∙ states_end f ss b q ds n x
