-- The relations spell what the alternatives spell, and what begins a rule is whole with more words.
use Rattle.std.proofs.Common.{◌≡◌, ℕ, pos, List, [], ◌∷◌, ◌++◌, Option, None, refl, sym, subst, append_assoc}
use Rattle.std.proofs.lemmas.List.{append-nil}
use Rattle.fs_model.specs.declared.parts.Rel.TheVariants.{Eq}
use Rattle.fs_model.specs.declared.parts.Role.{Role}
use Rattle.fs_model.specs.declared.parts.Role.TheVariants.{Local}
use Rattle.fs_model.specs.declared.parts.Sort.{Sort}
use Rattle.fs_model.specs.declared.parts.Sort.TheVariants as sorts
use Rattle.fs_model.specs.Expressions.{Expression, Guard, Test, Assignment, Assign}
use Rattle.fs_model.specs.Expressions as expressions
use Rattle.fs_model.specs.Source.{Declaration, SourceTransition, SourceState, Source}
use Rattle.fs_grammar.specs.Formats.{format_number}
use Rattle.fs_grammar.specs.Grammar.{Destination}
use Rattle.fs_grammar.specs.declared.format.Format.{Format}
use Rattle.fs_grammar.specs.declared.format.Format.TheVariants.{One, Two}
use Rattle.fs_grammar.specs.declared.token.TokenKind.{TokenKind}
use Rattle.fs_grammar.specs.declared.token.TokenKind.TheVariants.{Fsmd, Declare, Array, Reset, State, When, Goto, Emit, Port, Name, Number, Semicolon, Colon}
use Rattle.fs_grammar.specs.declared.token.TokenKind.TheVariants.{Comma, Equals, OpenParen, CloseParen, OpenBracket, CloseBracket, OpenBrace, CloseBrace, Plus}
use Rattle.fs_grammar.specs.declared.token.TokenKind.TheVariants.{Minus, Star, Slash, Percent, Bang, AndAnd, OrOr, Relation}
use Rattle.fs_grammar.specs.Spelling as spelling
use Rattle.fs_grammar.specs.Spelling.{Word, at, IsFactor, IsProduct, IsSum, IsUnit, IsConjunction, IsGuard, IsDestination, IsAssignment, AreAssignments}
use Rattle.fs_grammar.specs.Spelling.{AreEffects, IsCondition, IsTransition, AreTransitions, IsState, AreStates, AreNames, IsKind, IsDeclaration}
use Rattle.fs_grammar.specs.Spelling.{AreDeclarations, IsFile}
use Rattle.fs_grammar.specs.Beginnings as rules
use Rattle.fs_grammar.specs.Beginnings.{Rule, Part, token, rule, IsAlternative, SpellsWhole, AreSpelled, no_part, token_first, rule_first, Begins, nothing}
use Rattle.fs_grammar.specs.Beginnings.{by_parts, BeginParts, by_nothing, by_next, token_whole, rule_whole}

-- parts in order, where the last one has nothing behind it
data Row : List Part → List Word → Type 0 where
  none : Row [] []
  tok : (n : ℕ) {t : TokenKind} {ps : List Part} {ws : List Word} → Row ps ws → Row (token t ∷ ps) (at n t ∷ ws)
  last : {r : Rule} {ws : List Word} → SpellsWhole r ws → Row (rule r ∷ []) ws
  seq : (a : List Word) {r : Rule} {p : Part} {ps : List Part} {b : List Word} → SpellsWhole r a → Row (p ∷ ps) b → Row (rule r ∷ p ∷ ps) (a ++ b)

in_front : (r : Rule) (a : List Word) → SpellsWhole r a → (ps : List Part) (b : List Word) → Row ps b → Row (rule r ∷ ps) (a ++ b)
in_front r a s _ _ none = subst (λ (l : List Word). Row (rule r ∷ []) l) (sym (append-nil a)) (last s)
in_front r a s _ _ (tok n h) = seq a s (tok n h)
in_front r a s _ _ (last h) = seq a s (last h)
in_front r a s _ _ (seq b h k) = seq a s (seq b h k)

row : (ps : List Part) (ws : List Word) → AreSpelled ps ws → Row ps ws
row _ _ no_part = none
row _ _ (token_first n t {ps} {ws} h) = tok n (row ps ws h)
row _ _ (rule_first r a {ps} {b} s h) = in_front r a s ps b (row ps b h)

of_row : (r : Rule) (ps : List Part) (ws : List Word) → IsAlternative r ps → Row ps ws → SpellsWhole r ws
of_row _ _ _ (rules.number i) (tok n none) = (_, spelling.number n i)
of_row _ _ _ (rules.variable x) (tok n none) = (_, spelling.variable n x)
of_row _ _ _ (rules.read x) (tok n (tok m (seq _ s (tok k none)))) = (_, spelling.read n m k x s.1)
of_row _ _ _ rules.negative (tok n (last f)) = (_, spelling.negative n f.1)
of_row _ _ _ rules.group (tok n (seq _ s (tok m none))) = (_, spelling.group n m s.1)
of_row _ _ _ rules.one_factor (last f) = (_, spelling.factor f.1)
of_row _ _ _ rules.times (seq _ p (tok n (last f))) = (_, spelling.times n p.1 f.1)
of_row _ _ _ rules.divides (seq _ p (tok n (last f))) = (_, spelling.divides n p.1 f.1)
of_row _ _ _ rules.remainder_of (seq _ p (tok n (last f))) = (_, spelling.remainder_of n p.1 f.1)
of_row _ _ _ rules.one_product (last p) = (_, spelling.product p.1)
of_row _ _ _ rules.plus (seq _ s (tok n (last p))) = (_, spelling.plus n s.1 p.1)
of_row _ _ _ rules.minus (seq _ s (tok n (last p))) = (_, spelling.minus n s.1 p.1)
of_row _ _ _ rules.not (tok n (last u)) = (_, spelling.not n u.1)
of_row _ _ _ rules.braces (tok n (seq _ g (tok m none))) = (_, spelling.braces n m g.1)
of_row _ _ _ (rules.literal r) (seq _ l (tok n (last s))) = (_, spelling.literal n r l.1 s.1)
of_row _ _ _ rules.one_unit (last u) = (_, spelling.unit u.1)
of_row _ _ _ rules.and (seq _ c (tok n (last u))) = (_, spelling.and n c.1 u.1)
of_row _ _ _ rules.one_conjunction (last c) = (_, spelling.conjunction c.1)
of_row _ _ _ rules.or (seq _ g (tok n (last c))) = (_, spelling.or n g.1 c.1)
of_row _ _ _ (rules.scalar_name x) (tok n none) = (_, spelling.scalar_name n x)
of_row _ _ _ (rules.element_at x) (tok n (tok m (seq _ s (tok k none)))) = (_, spelling.element_at n m k x s.1)
of_row _ _ _ (rules.assigned f) (seq _ d (tok n (last e))) = (_, spelling.assign f n d.1 e.1)
of_row _ _ _ (rules.emitted x) (tok n (tok m (last e))) = (_, spelling.emit n m x e.1)
of_row _ _ _ (rules.one_assignment f) (last x) = (_, spelling.one_assignment f x.1)
of_row _ _ _ (rules.more_assignments f) (seq _ xs (tok n (last x))) = (_, spelling.more_assignments f n xs.1 x.1)
of_row _ _ _ (rules.no_effects f) none = (_, spelling.no_effects f)
of_row _ _ _ (rules.some_effects f) (tok n (last xs)) = (_, spelling.effects f n xs.1)
of_row _ _ _ rules.always (tok n none) = (_, _, spelling.always n)
of_row _ _ _ rules.when (tok n (seq _ g (tok m none))) = (_, _, spelling.when n m g.1)
of_row _ _ _ (rules.one_transition f x) (seq _ c (tok m (seq _ e (tok k none)))) = (_, spelling.transition f c.0 m k c.1 x e.0 c.2 e.1)
of_row _ _ _ (rules.no_transitions f) none = (_, spelling.no_transitions f)
of_row _ _ _ (rules.more_transitions f) (seq _ ls (last l)) = (_, spelling.more_transitions f ls.1 l.1)
of_row _ _ _ (rules.one_state f x) (tok n (tok m (tok k (last ls)))) = (_, spelling.state f n m k x ls.0 ls.1)
of_row _ _ _ (rules.no_states f) none = (_, spelling.no_states f)
of_row _ _ _ (rules.more_states f) (seq _ ss (last s)) = (_, spelling.more_states f ss.1 s.1)
of_row _ _ _ (rules.one_name x) (tok n none) = (_, spelling.one_name n x)
of_row _ _ _ (rules.more_names x) (seq _ xs (tok n (tok m none))) = (_, spelling.more_names n m x xs.1)
of_row _ _ _ (rules.scalars f r) (tok n none) = (_, _, _, spelling.scalars f n r)
of_row _ _ _ (rules.arrays f r) (tok n (tok m none)) = (_, _, _, spelling.arrays f n m r)
of_row _ _ _ rules.ports (tok n none) = (_, _, _, spelling.ports n)
of_row _ _ _ (rules.one_declaration f) (seq _ k (seq _ xs (tok m none))) = (_, spelling.declaration f k.0 m k.1 k.2 xs.0 k.3 xs.1)
of_row _ _ _ (rules.no_declarations f) none = (_, spelling.no_declarations f)
of_row _ _ _ (rules.more_declarations f) (seq _ ds (last d)) = (_, spelling.more_declarations f ds.1 d.1)
of_row _ _ _ (rules.one_file f x) (tok i (tok j (tok k (seq _ ds (tok n (tok m (tok l (last ss)))))))) =
    (_, _, spelling.file f i j k n m l ds.0 x ss.0 ds.1 ss.1)

-- Whole spellings of an alternative's parts are one of its rule.
pub composed : (r : Rule) (ps : List Part) (ws : List Word) → IsAlternative r ps → AreSpelled ps ws → SpellsWhole r ws
composed r ps ws h s = of_row r ps ws h (row ps ws s)

-- ---- each spelling is one of an alternative

-- whole spellings down to the tokens
mutual
  data Tree : Rule → List Word → Type 0 where
    node : (r : Rule) {ps : List Part} {ws : List Word} → IsAlternative r ps → Trees ps ws → Tree r ws

  data Trees : List Part → List Word → Type 0 where
    no_tree : Trees [] []
    token_tree : (n : ℕ) (t : TokenKind) {ps : List Part} {ws : List Word} → Trees ps ws → Trees (token t ∷ ps) (at n t ∷ ws)
    rule_tree : (r : Rule) {ps : List Part} {a b : List Word} → Tree r a → Trees ps b → Trees (rule r ∷ ps) (a ++ b)

end_tree : (r : Rule) (a : List Word) → Tree r a → Trees (rule r ∷ []) a
end_tree r a s = subst (λ (l : List Word). Trees (rule r ∷ []) l) (append-nil a) (rule_tree r s no_tree)

-- two parts with a token between
between : (r q : Rule) (n : ℕ) (t : TokenKind) (a b : List Word) → Tree r a → Tree q b → Trees (rule r ∷ token t ∷ rule q ∷ []) (a ++ (at n t ∷ b))
between r q n t a b s u = rule_tree r s (token_tree n t (end_tree q b u))

mutual
  factor_tree : (f : Expression (List ℕ)) (a : List Word) → IsFactor f a → Tree rules.factor a
  factor_tree _ _ (spelling.number n i) = node rules.factor (rules.number i) (token_tree n (Number i) no_tree)
  factor_tree _ _ (spelling.variable n x) = node rules.factor (rules.variable x) (token_tree n (Name x) no_tree)
  factor_tree _ _ (spelling.read n m k x {s} {a} d) = node rules.factor (rules.read x)
      (token_tree n (Name x) (token_tree m OpenBracket (rule_tree rules.sum (sum_tree s a d) (token_tree k CloseBracket no_tree))))
  factor_tree _ _ (spelling.negative n {f} {a} d) = node rules.factor rules.negative (token_tree n Minus (end_tree rules.factor a (factor_tree f a d)))
  factor_tree _ _ (spelling.group n m {s} {a} d) = node rules.factor rules.group
      (token_tree n OpenParen (rule_tree rules.sum (sum_tree s a d) (token_tree m CloseParen no_tree)))

  product_tree : (p : Expression (List ℕ)) (a : List Word) → IsProduct p a → Tree rules.product a
  product_tree _ _ (spelling.factor {f} {a} d) = node rules.product rules.one_factor (end_tree rules.factor a (factor_tree f a d))
  product_tree _ _ (spelling.times n {p} {f} {a} {b} d e) =
      node rules.product rules.times (between rules.product rules.factor n Star a b (product_tree p a d) (factor_tree f b e))
  product_tree _ _ (spelling.divides n {p} {f} {a} {b} d e) =
      node rules.product rules.divides (between rules.product rules.factor n Slash a b (product_tree p a d) (factor_tree f b e))
  product_tree _ _ (spelling.remainder_of n {p} {f} {a} {b} d e) =
      node rules.product rules.remainder_of (between rules.product rules.factor n Percent a b (product_tree p a d) (factor_tree f b e))

  sum_tree : (s : Expression (List ℕ)) (a : List Word) → IsSum s a → Tree rules.sum a
  sum_tree _ _ (spelling.product {p} {a} d) = node rules.sum rules.one_product (end_tree rules.product a (product_tree p a d))
  sum_tree _ _ (spelling.plus n {s} {p} {a} {b} d e) = node rules.sum rules.plus
      (between rules.sum rules.product n Plus a b (sum_tree s a d) (product_tree p b e))
  sum_tree _ _ (spelling.minus n {s} {p} {a} {b} d e) = node rules.sum rules.minus
      (between rules.sum rules.product n Minus a b (sum_tree s a d) (product_tree p b e))

mutual
  unit_tree : (u : Guard (List ℕ)) (a : List Word) → IsUnit u a → Tree rules.unit a
  unit_tree _ _ (spelling.not n {u} {a} d) = node rules.unit rules.not (token_tree n Bang (end_tree rules.unit a (unit_tree u a d)))
  unit_tree _ _ (spelling.braces n m {g} {a} d) = node rules.unit rules.braces
      (token_tree n OpenBrace (rule_tree rules.guard (guard_tree g a d) (token_tree m CloseBrace no_tree)))
  unit_tree _ _ (spelling.literal n r {l} {s} {a} {b} d e) = node rules.unit (rules.literal r)
      (between rules.sum rules.sum n (Relation r) a b (sum_tree l a d) (sum_tree s b e))

  conjunction_tree : (c : Guard (List ℕ)) (a : List Word) → IsConjunction c a → Tree rules.conjunction a
  conjunction_tree _ _ (spelling.unit {u} {a} d) = node rules.conjunction rules.one_unit (end_tree rules.unit a (unit_tree u a d))
  conjunction_tree _ _ (spelling.and n {c} {u} {a} {b} d e) =
      node rules.conjunction rules.and (between rules.conjunction rules.unit n AndAnd a b (conjunction_tree c a d) (unit_tree u b e))

  guard_tree : (g : Guard (List ℕ)) (a : List Word) → IsGuard g a → Tree rules.guard a
  guard_tree _ _ (spelling.conjunction {c} {a} d) = node rules.guard rules.one_conjunction (end_tree rules.conjunction a (conjunction_tree c a d))
  guard_tree _ _ (spelling.or n {g} {c} {a} {b} d e) = node rules.guard rules.or
      (between rules.guard rules.conjunction n OrOr a b (guard_tree g a d) (conjunction_tree c b e))

destination_tree : (d : Destination) (a : List Word) → IsDestination d a → Tree rules.destination a
destination_tree _ _ (spelling.scalar_name n x) = node rules.destination (rules.scalar_name x) (token_tree n (Name x) no_tree)
destination_tree _ _ (spelling.element_at n m k x {s} {a} d) =
    node rules.destination (rules.element_at x)
    (token_tree n (Name x) (token_tree m OpenBracket (rule_tree rules.sum (sum_tree s a d) (token_tree k CloseBracket no_tree))))

assignment_tree : (f : Format) (x : Assignment (List ℕ)) (a : List Word) → IsAssignment f x a → Tree (rules.assignment f) a
assignment_tree _ _ _ (spelling.assign f n {d} {e} {a} {b} p q) =
    node (rules.assignment f) (rules.assigned f) (between rules.destination rules.sum n Equals a b (destination_tree d a p) (sum_tree e b q))
assignment_tree _ _ _ (spelling.emit n m x {e} {a} p) = node (rules.assignment Two) (rules.emitted x)
    (token_tree n Emit (token_tree m (Name x) (end_tree rules.sum a (sum_tree e a p))))

assignments_tree : (f : Format) (xs : List (Assignment (List ℕ))) (a : List Word) → AreAssignments f xs a → Tree (rules.assignments f) a
assignments_tree _ _ _ (spelling.one_assignment f {x} {a} d) =
    node (rules.assignments f) (rules.one_assignment f) (end_tree (rules.assignment f) a (assignment_tree f x a d))
assignments_tree _ _ _ (spelling.more_assignments f n {xs} {x} {a} {b} d e) =
    node (rules.assignments f) (rules.more_assignments f)
    (between (rules.assignments f) (rules.assignment f) n Comma a b (assignments_tree f xs a d) (assignment_tree f x b e))

effects_tree : (f : Format) (xs : List (Assignment (List ℕ))) (a : List Word) → AreEffects f xs a → Tree (rules.effects f) a
effects_tree _ _ _ (spelling.no_effects f) = node (rules.effects f) (rules.no_effects f) no_tree
effects_tree _ _ _ (spelling.effects f n {xs} {a} d) = node (rules.effects f) (rules.some_effects f)
    (token_tree n Colon (end_tree (rules.assignments f) a (assignments_tree f xs a d)))

condition_tree : (n : ℕ) (g : Option (Guard (List ℕ))) (a : List Word) → IsCondition n g a → Tree rules.condition a
condition_tree _ _ _ (spelling.always n) = node rules.condition rules.always (token_tree n Goto no_tree)
condition_tree _ _ _ (spelling.when n m {g} {a} d) = node rules.condition rules.when
    (token_tree n When (rule_tree rules.guard (guard_tree g a d) (token_tree m Goto no_tree)))

transition_tree : (f : Format) (l : SourceTransition) (a : List Word) → IsTransition f l a → Tree (rules.transition f) a
transition_tree _ _ _ (spelling.transition f n m k g x xs {a} {b} p q) =
    node (rules.transition f) (rules.one_transition f x)
    (rule_tree rules.condition (condition_tree n g a p)
    (token_tree m (Name x) (rule_tree (rules.effects f) (effects_tree f xs b q) (token_tree k Semicolon no_tree))))

transitions_tree : (f : Format) (ls : List SourceTransition) (a : List Word) → AreTransitions f ls a → Tree (rules.transitions f) a
transitions_tree _ _ _ (spelling.no_transitions f) = node (rules.transitions f) (rules.no_transitions f) no_tree
transitions_tree _ _ _ (spelling.more_transitions f {ls} {l} {a} {b} p q) =
    node (rules.transitions f) (rules.more_transitions f)
    (rule_tree (rules.transitions f) (transitions_tree f ls a p) (end_tree (rules.transition f) b (transition_tree f l b q)))

state_tree : (f : Format) (s : SourceState) (a : List Word) → IsState f s a → Tree (rules.state f) a
state_tree _ _ _ (spelling.state f n m k x ls {a} p) = node (rules.state f) (rules.one_state f x)
    (token_tree n State (token_tree m (Name x) (token_tree k Colon (end_tree (rules.transitions f) a (transitions_tree f ls a p)))))

states_tree : (f : Format) (ss : List SourceState) (a : List Word) → AreStates f ss a → Tree (rules.states f) a
states_tree _ _ _ (spelling.no_states f) = node (rules.states f) (rules.no_states f) no_tree
states_tree _ _ _ (spelling.more_states f {ss} {s} {a} {b} p q) =
    node (rules.states f) (rules.more_states f) (rule_tree (rules.states f) (states_tree f ss a p) (end_tree (rules.state f) b (state_tree f s b q)))

names_tree : (xs : List (List ℕ)) (a : List Word) → AreNames xs a → Tree rules.names a
names_tree _ _ (spelling.one_name n x) = node rules.names (rules.one_name x) (token_tree n (Name x) no_tree)
names_tree _ _ (spelling.more_names n m x {xs} {a} p) = node rules.names (rules.more_names x)
    (rule_tree rules.names (names_tree xs a p) (token_tree n Comma (token_tree m (Name x) no_tree)))

kind_tree : (f : Format) (n : ℕ) (r : Role) (s : Sort) (a : List Word) → IsKind f n r s a → Tree (rules.kind f) a
kind_tree _ _ _ _ _ (spelling.scalars f n r) = node (rules.kind f) (rules.scalars f r) (token_tree n (Declare r) no_tree)
kind_tree _ _ _ _ _ (spelling.arrays f n m r) = node (rules.kind f) (rules.arrays f r) (token_tree n (Declare r) (token_tree m Array no_tree))
kind_tree _ _ _ _ _ (spelling.ports n) = node (rules.kind Two) rules.ports (token_tree n Port no_tree)

declaration_tree : (f : Format) (d : Declaration) (a : List Word) → IsDeclaration f d a → Tree (rules.declaration f) a
declaration_tree _ _ _ (spelling.declaration f n m r s xs {a} {b} p q) =
    node (rules.declaration f) (rules.one_declaration f)
    (rule_tree (rules.kind f) (kind_tree f n r s a p) (rule_tree rules.names (names_tree xs b q) (token_tree m Semicolon no_tree)))

declarations_tree : (f : Format) (ds : List Declaration) (a : List Word) → AreDeclarations f ds a → Tree (rules.declarations f) a
declarations_tree _ _ _ (spelling.no_declarations f) = node (rules.declarations f) (rules.no_declarations f) no_tree
declarations_tree _ _ _ (spelling.more_declarations f {ds} {d} {a} {b} p q) =
    node (rules.declarations f) (rules.more_declarations f)
    (rule_tree (rules.declarations f) (declarations_tree f ds a p) (end_tree (rules.declaration f) b (declaration_tree f d b q)))

file_tree : (f : Format) (s : Source) (a : List Word) → IsFile f s a → Tree rules.file a
file_tree _ _ _ (spelling.file f i j k n m l ds x ss {a} {b} p q) =
    node rules.file (rules.one_file f x)
    (token_tree i Fsmd
    (token_tree j (Number (format_number f))
    (token_tree k Semicolon
    (rule_tree (rules.declarations f) (declarations_tree f ds a p)
    (token_tree n Reset (token_tree m (Name x) (token_tree l Semicolon (end_tree (rules.states f) b (states_tree f ss b q)))))))))

tree : (r : Rule) (ws : List Word) → SpellsWhole r ws → Tree r ws
tree rules.factor ws h = factor_tree h.0 ws h.1
tree rules.product ws h = product_tree h.0 ws h.1
tree rules.sum ws h = sum_tree h.0 ws h.1
tree rules.unit ws h = unit_tree h.0 ws h.1
tree rules.conjunction ws h = conjunction_tree h.0 ws h.1
tree rules.guard ws h = guard_tree h.0 ws h.1
tree rules.destination ws h = destination_tree h.0 ws h.1
tree (rules.assignment f) ws h = assignment_tree f h.0 ws h.1
tree (rules.assignments f) ws h = assignments_tree f h.0 ws h.1
tree (rules.effects f) ws h = effects_tree f h.0 ws h.1
tree rules.condition ws h = condition_tree h.0 h.1 ws h.2
tree (rules.transition f) ws h = transition_tree f h.0 ws h.1
tree (rules.transitions f) ws h = transitions_tree f h.0 ws h.1
tree (rules.state f) ws h = state_tree f h.0 ws h.1
tree (rules.states f) ws h = states_tree f h.0 ws h.1
tree rules.names ws h = names_tree h.0 ws h.1
tree (rules.kind f) ws h = kind_tree f h.0 h.1 h.2 ws h.3
tree (rules.declaration f) ws h = declaration_tree f h.0 ws h.1
tree (rules.declarations f) ws h = declarations_tree f h.0 ws h.1
tree rules.file ws h = file_tree h.0 h.1 ws h.2

mutual
  spelled_by : (r : Rule) (ws : List Word) → Tree r ws → SpellsWhole r ws
  spelled_by _ _ (node r {ps} {ws} h t) = composed r ps ws h (all_spelled ps ws t)

  all_spelled : (ps : List Part) (ws : List Word) → Trees ps ws → AreSpelled ps ws
  all_spelled _ _ no_tree = no_part
  all_spelled _ _ (token_tree n t {ps} {ws} h) = token_first n t (all_spelled ps ws h)
  all_spelled _ _ (rule_tree r {ps} {a} {b} s h) = rule_first r a (spelled_by r a s) (all_spelled ps b h)

parts_of : (r : Rule) (ws : List Word) → Tree r ws → (ps : List Part) × IsAlternative r ps × AreSpelled ps ws
parts_of _ _ (node r {ps} {ws} h t) = (ps, h, all_spelled ps ws t)

-- A whole spelling of a rule is whole spellings of the parts of one of its alternatives.
pub parted : (r : Rule) (ws : List Word) → SpellsWhole r ws → (ps : List Part) × IsAlternative r ps × AreSpelled ps ws
parted r ws h = parts_of r ws (tree r ws h)

-- ---- the front of what a rule spells begins it

-- where a front of x ++ y ends
data Front : (x y a b : List Word) → Type 0 where
  within : {x y a b : List Word} (m : List Word) → x ≡ a ++ m → Front x y a b
  past : {x y a b : List Word} (m : List Word) → a ≡ x ++ m → y ≡ m ++ b → Front x y a b

longer : (u v : Word) (x y a b : List Word) → u ≡ v → Front x y a b → Front (u ∷ x) y (v ∷ a) b
longer u v _ _ _ _ h (within {x} {y} {a} {b} m e) = within m cc
longer u v _ _ _ _ h (past {x} {y} {a} {b} m e f) =
    let all : (v ∷ a) ≡ (u ∷ x) ++ m = cc in
    past m all f

front : (x y a b : List Word) → x ++ y ≡ a ++ b → Front x y a b
front [] y a b e = past a refl e
front (u ∷ x) y [] b e = within (u ∷ x) refl
front (u ∷ x) y (v ∷ a) b e =
    let heads : u ≡ v = cc in
    let tails : x ++ y ≡ a ++ b = cc in
    longer u v x y a b heads (front x y a b tails)

rule_front : (r : Rule) (ps : List Part) (x y a b : List Word) → SpellsWhole r x → ((c d : List Word) → x ≡ c ++ d → Begins r c)
    → ((c d : List Word) → y ≡ c ++ d → BeginParts ps c) → Front x y a b → BeginParts (rule r ∷ ps) a
rule_front r ps _ _ _ _ s h k (within {x} {y} {a} {b} m e) = by_next r ps (h a m e)
rule_front r ps _ _ _ _ s h k (past {x} {y} {a} {b} m e f) = subst (λ (l : List Word). BeginParts (rule r ∷ ps) l) (sym e) (rule_whole r x s (k m b f))

token_front : (n : ℕ) (t : TokenKind) (ps : List Part) (ws a b : List Word) → ((c d : List Word) → ws ≡ c ++ d → BeginParts ps c) → at n t ∷ ws ≡ a ++ b
    → BeginParts (token t ∷ ps) a
token_front n t ps ws [] b h e = by_nothing (token t ∷ ps)
token_front n t ps ws (w ∷ a) b h e =
    let heads : at n t ≡ w = cc in
    let tails : ws ≡ a ++ b = cc in
    subst (λ (u : Word). BeginParts (token t ∷ ps) (u ∷ a)) heads (token_whole n t (h a b tails))

no_front : (a b : List Word) → [] ≡ a ++ b → BeginParts [] a
no_front [] b e = by_nothing []
no_front (w ∷ a) b e = absurd cc

mutual
  tree_front : (r : Rule) (ws : List Word) → Tree r ws → (a b : List Word) → ws ≡ a ++ b → Begins r a
  tree_front _ _ (node r {ps} {ws} h t) a b e = by_parts r h (trees_front ps ws t a b e)

  trees_front : (ps : List Part) (ws : List Word) → Trees ps ws → (a b : List Word) → ws ≡ a ++ b → BeginParts ps a
  trees_front _ _ no_tree a b e = no_front a b e
  trees_front _ _ (token_tree n t {ps} {ws} h) a b e = token_front n t ps ws a b (trees_front ps ws h) e
  trees_front _ _ (rule_tree r {ps} {a = x} {b = y} s h) a b e =
      rule_front r ps x y a b (spelled_by r x s) (tree_front r x s) (trees_front ps y h) (front x y a b e)

-- The words before any others of a whole spelling begin the rule.
pub front_begins : (r : Rule) (a b : List Word) → SpellsWhole r (a ++ b) → Begins r a
front_begins r a b h = tree_front r (a ++ b) (tree r (a ++ b) h) a b refl

-- ---- what begins a rule is whole with more words

abbrev zero_word : Word
zero_word = at 0 (Number (pos 0))

zero_sum : IsSum (expressions.Number (pos 0)) (zero_word ∷ [])
zero_sum = spelling.product (spelling.factor (spelling.number 0 (pos 0)))

zero_unit : IsUnit (Test (record { relation = Eq; left = expressions.Number (pos 0); right = expressions.Number (pos 0) }))
    (zero_word ∷ at 0 (Relation Eq) ∷ zero_word ∷ [])
zero_unit = spelling.literal 0 Eq zero_sum zero_sum

zero_assignment : (f : Format) → IsAssignment f (Assign [] (expressions.Number (pos 0))) (at 0 (Name []) ∷ at 0 Equals ∷ zero_word ∷ [])
zero_assignment f = spelling.assign f 0 (spelling.scalar_name 0 []) zero_sum

-- some spelling of each rule
some_spelling : (r : Rule) → (ws : List Word) × SpellsWhole r ws
some_spelling rules.factor = (_, (_, spelling.number 0 (pos 0)))
some_spelling rules.product = (_, (_, spelling.factor (spelling.number 0 (pos 0))))
some_spelling rules.sum = (_, (_, zero_sum))
some_spelling rules.unit = (_, (_, zero_unit))
some_spelling rules.conjunction = (_, (_, spelling.unit zero_unit))
some_spelling rules.guard = (_, (_, spelling.conjunction (spelling.unit zero_unit)))
some_spelling rules.destination = (_, (_, spelling.scalar_name 0 []))
some_spelling (rules.assignment f) = (_, (_, zero_assignment f))
some_spelling (rules.assignments f) = (_, (_, spelling.one_assignment f (zero_assignment f)))
some_spelling (rules.effects f) = (_, (_, spelling.no_effects f))
some_spelling rules.condition = (_, (_, _, spelling.always 0))
some_spelling (rules.transition f) = (_, (_, spelling.transition f 0 0 0 None [] [] (spelling.always 0) (spelling.no_effects f)))
some_spelling (rules.transitions f) = (_, (_, spelling.no_transitions f))
some_spelling (rules.state f) = (_, (_, spelling.state f 0 0 0 [] [] (spelling.no_transitions f)))
some_spelling (rules.states f) = (_, (_, spelling.no_states f))
some_spelling rules.names = (_, (_, spelling.one_name 0 []))
some_spelling (rules.kind f) = (_, (_, _, _, spelling.scalars f 0 Local))
some_spelling (rules.declaration f) = (_, (_, spelling.declaration f 0 0 Local sorts.Scalar ([] ∷ []) (spelling.scalars f 0 Local) (spelling.one_name 0 [])))
some_spelling (rules.declarations f) = (_, (_, spelling.no_declarations f))
some_spelling rules.file = (_, (_, _, spelling.file One 0 0 0 0 0 0 [] [] [] (spelling.no_declarations One) (spelling.no_states One)))

some_parts : (ps : List Part) → (ws : List Word) × AreSpelled ps ws
some_parts [] = ([], no_part)
some_parts (token t ∷ ps) = let w = some_parts ps in (at 0 t ∷ w.0, token_first 0 t w.1)
some_parts (rule r ∷ ps) = let v = some_spelling r in let w = some_parts ps in (v.0 ++ w.0, rule_first r v.0 v.1 w.1)

mutual
  pub completed : (r : Rule) (ws : List Word) → Begins r ws → (m : List Word) × SpellsWhole r (ws ++ m)
  completed _ _ (nothing r) = some_spelling r
  completed _ _ (by_parts r {ps} {ws} h b) = let w = parts_completed ps ws b in (w.0, composed r ps (ws ++ w.0) h w.1)

  parts_completed : (ps : List Part) (ws : List Word) → BeginParts ps ws → (m : List Word) × AreSpelled ps (ws ++ m)
  parts_completed _ _ (by_nothing ps) = some_parts ps
  parts_completed _ _ (by_next r ps {ws} b) = let w = completed r ws b in let v = some_parts ps in
      (w.0 ++ v.0, subst (λ (l : List Word). AreSpelled (rule r ∷ ps) l) (append_assoc ws w.0 v.0) (rule_first r (ws ++ w.0) w.1 v.1))
  parts_completed _ _ (token_whole n t {ps} {ws} b) = let w = parts_completed ps ws b in (w.0, token_first n t w.1)
  parts_completed _ _ (rule_whole r a {ps} {b} s h) = let w = parts_completed ps b h in
      (w.0, subst (λ (l : List Word). AreSpelled (rule r ∷ ps) l) (sym (append_assoc a b w.0)) (rule_first r a s w.1))
