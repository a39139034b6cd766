-- A file says its format, and one of format 1 has neither ports nor emits.
use Rattle.std.proofs.Common.{◌≡◌, ℕ, Bool, true, false, List, [], ◌∷◌, ◌++◌, Option, refl, sym, subst, ◌∙◌, append_assoc}
use Rattle.std.specs.Prelude.{IsTrue}
use Rattle.std.specs.List.{AllByRecursion}
use Rattle.fs_model.specs.declared.parts.Role.{Role}
use Rattle.fs_model.specs.declared.parts.Sort.{Sort}
use Rattle.fs_model.specs.Expressions.{Guard, Assignment}
use Rattle.fs_model.specs.Source.{Declaration, SourceTransition, SourceState, Source}
use Rattle.fs_grammar.specs.declared.format.Format.{Format}
use Rattle.fs_grammar.specs.declared.format.Format.TheVariants.{One, Two}
use Rattle.fs_grammar.specs.declared.token.TokenKind.{TokenKind}
use Rattle.fs_grammar.specs.declared.token.TokenKind.TheVariants.{Emit, Port, Fsmd, Number, Reset, Name, Goto, Semicolon, Comma, Equals}
use Rattle.fs_grammar.specs.Formats.{format_number, is_of_format_two}
use Rattle.fs_grammar.specs.Spelling as spelling
use Rattle.fs_grammar.specs.Spelling.{Word, at, IsAssignment, AreAssignments, AreEffects, IsCondition, IsTransition, AreTransitions, IsState, AreStates}
use Rattle.fs_grammar.specs.Spelling.{AreNames, IsKind, IsDeclaration, AreDeclarations, IsFile}
use Rattle.fs_grammar.specs.Beginnings as rules
use Rattle.fs_grammar.specs.Beginnings.{BeginsFile}
use Rattle.fs_grammar.proofs.Alternatives.{completed}
use Rattle.fs_grammar.proofs.Inside.{is_inside, IsInside, AreInside, joined, each, sum_inside, guard_inside, destination_inside}

-- ---- a file says its format

-- the first words of a file
record IsHeaded (f : Format) (ws : List Word) : Type 0 where
  i : ℕ
  j : ℕ
  rest : List Word
  is : ws ≡ at i Fsmd ∷ at j (Number (format_number f)) ∷ rest

headed : (f : Format) (s : Source) (ws : List Word) → IsFile f s ws → IsHeaded f ws
headed _ _ _ (spelling.file f i j k n m l ds x ss {a} {b} p q) = record {
  i = i;
  j = j;
  rest = at k Semicolon ∷ (a ++ (at n Reset ∷ at m (Name x) ∷ at l Semicolon ∷ b));
  is = refl;
}

same_number : (f g : Format) → format_number f ≡ format_number g → f ≡ g
same_number One One e = refl
same_number One Two e = absurd cc
same_number Two One e = absurd cc
same_number Two Two e = refl

-- Words are a file of one format at most.
pub one_format : (f g : Format) (s r : Source) (ws : List Word) → IsFile f s ws → IsFile g r ws → f ≡ g
one_format f g s r ws h k =
    let a = headed f s ws h in
    let b = headed g r ws k in
    let w : at a.i Fsmd ∷ at a.j (Number (format_number f)) ∷ a.rest ≡ at b.i Fsmd ∷ at b.j (Number (format_number g)) ∷ b.rest = sym a.is ∙ b.is in
    let n : format_number f ≡ format_number g = cc in
    same_number f g n

-- ---- a file of format 1

abbrev is_two : Word → Bool
is_two (at n t) = is_of_format_two t

abbrev IsOne : Word → Type 0
IsOne w = is_two w ≡ false

abbrev AreOne : List Word → Type 0
AreOne ws = AllByRecursion IsOne ws

inside_one : (t : TokenKind) → is_inside t ≡ true → is_of_format_two t ≡ false
inside_one Emit h = absurd cc
inside_one Port h = absurd cc
inside_one _ h = refl

word_one : (w : Word) → IsInside w → IsOne w
word_one (at n t) h = inside_one t h

all_one : (ws : List Word) → AreInside ws → AreOne ws
all_one ws h = each IsInside IsOne word_one ws h

assignment_one : (f : Format) (x : Assignment (List ℕ)) (a : List Word) → IsAssignment f x a → f ≡ One → AreOne a
assignment_one _ _ _ (spelling.assign f n {d} {e} {a} {b} p q) v =
    joined IsOne a (at n Equals ∷ b) (all_one a (destination_inside d a p)) (refl, all_one b (sum_inside e b q))
assignment_one _ _ _ (spelling.emit n m x p) v = absurd cc

assignments_one : (f : Format) (xs : List (Assignment (List ℕ))) (a : List Word) → AreAssignments f xs a → f ≡ One → AreOne a
assignments_one _ _ _ (spelling.one_assignment f {x} {a} p) v = assignment_one f x a p v
assignments_one _ _ _ (spelling.more_assignments f n {xs} {x} {a} {b} p q) v =
    joined IsOne a (at n Comma ∷ b) (assignments_one f xs a p v) (refl, assignment_one f x b q v)

effects_one : (f : Format) (xs : List (Assignment (List ℕ))) (a : List Word) → AreEffects f xs a → f ≡ One → AreOne a
effects_one _ _ _ (spelling.no_effects f) v = tt
effects_one _ _ _ (spelling.effects f n {xs} {a} p) v = (refl, assignments_one f xs a p v)

condition_one : (n : ℕ) (g : Option (Guard (List ℕ))) (a : List Word) → IsCondition n g a → AreOne a
condition_one _ _ _ (spelling.always n) = (refl, tt)
condition_one _ _ _ (spelling.when n m {g} {a} p) = (refl, joined IsOne a (at m Goto ∷ []) (all_one a (guard_inside g a p)) (refl, tt))

transition_one : (f : Format) (l : SourceTransition) (a : List Word) → IsTransition f l a → f ≡ One → AreOne a
transition_one _ _ _ (spelling.transition f n m k g x xs {a} {b} p q) v =
    joined IsOne a (at m (Name x) ∷ (b ++ at k Semicolon ∷ [])) (condition_one n g a p)
    (refl, joined IsOne b (at k Semicolon ∷ []) (effects_one f xs b q v) (refl, tt))

transitions_one : (f : Format) (ls : List SourceTransition) (a : List Word) → AreTransitions f ls a → f ≡ One → AreOne a
transitions_one _ _ _ (spelling.no_transitions f) v = tt
transitions_one _ _ _ (spelling.more_transitions f {ls} {l} {a} {b} p q) v = joined IsOne a b (transitions_one f ls a p v) (transition_one f l b q v)

state_one : (f : Format) (s : SourceState) (a : List Word) → IsState f s a → f ≡ One → AreOne a
state_one _ _ _ (spelling.state f n m k x ls {a} p) v = (refl, (refl, (refl, transitions_one f ls a p v)))

states_one : (f : Format) (ss : List SourceState) (a : List Word) → AreStates f ss a → f ≡ One → AreOne a
states_one _ _ _ (spelling.no_states f) v = tt
states_one _ _ _ (spelling.more_states f {ss} {s} {a} {b} p q) v = joined IsOne a b (states_one f ss a p v) (state_one f s b q v)

names_one : (xs : List (List ℕ)) (a : List Word) → AreNames xs a → AreOne a
names_one _ _ (spelling.one_name n x) = (refl, tt)
names_one _ _ (spelling.more_names n m x {xs} {a} p) = joined IsOne a (at n Comma ∷ at m (Name x) ∷ []) (names_one xs a p) (refl, (refl, tt))

kind_one : (f : Format) (n : ℕ) (r : Role) (s : Sort) (a : List Word) → IsKind f n r s a → f ≡ One → AreOne a
kind_one _ _ _ _ _ (spelling.scalars f n r) v = (refl, tt)
kind_one _ _ _ _ _ (spelling.arrays f n m r) v = (refl, (refl, tt))
kind_one _ _ _ _ _ (spelling.ports n) v = absurd cc

declaration_one : (f : Format) (d : Declaration) (a : List Word) → IsDeclaration f d a → f ≡ One → AreOne a
declaration_one _ _ _ (spelling.declaration f n m r s xs {a} {b} p q) v =
    joined IsOne a (b ++ at m Semicolon ∷ []) (kind_one f n r s a p v) (joined IsOne b (at m Semicolon ∷ []) (names_one xs b q) (refl, tt))

declarations_one : (f : Format) (ds : List Declaration) (a : List Word) → AreDeclarations f ds a → f ≡ One → AreOne a
declarations_one _ _ _ (spelling.no_declarations f) v = tt
declarations_one _ _ _ (spelling.more_declarations f {ds} {d} {a} {b} p q) v = joined IsOne a b (declarations_one f ds a p v) (declaration_one f d b q v)

file_one : (f : Format) (s : Source) (ws : List Word) → IsFile f s ws → f ≡ One → AreOne ws
file_one _ _ _ (spelling.file f i j k n m l ds x ss {a} {b} p q) v = (
  refl,
  (refl, (refl, joined IsOne a (at n Reset ∷ at m (Name x) ∷ at l Semicolon ∷ b) (declarations_one f ds a p v) (refl, (refl, (refl, states_one f ss b q v))))),
)

none_after : (a : List Word) (w : Word) (b : List Word) → IsTrue (is_two w) → AreOne (a ++ w ∷ b) → ⊥
none_after [] w b h j = let e = j.0 in absurd cc
none_after (u ∷ a) w b h j = none_after a w b h j.1

-- Behind the head of a file of format 1 neither a port nor an emit can follow.
pub none_in_one : (i j k n : ℕ) (t : TokenKind) (ws : List Word) → IsTrue (is_of_format_two t)
    → BeginsFile (at i Fsmd ∷ at j (Number (format_number One)) ∷ at k Semicolon ∷ (ws ++ at n t ∷ [])) → ⊥
none_in_one i j k n t ws h b =
    let all : List Word = at i Fsmd ∷ at j (Number (format_number One)) ∷ at k Semicolon ∷ (ws ++ at n t ∷ []) in
    let w = completed rules.file all b in
    let d = headed w.1.0 w.1.1 (all ++ w.0) w.1.2 in
    let e : at i Fsmd ∷ at j (Number (format_number One)) ∷ at k Semicolon ∷ ((ws ++ at n t ∷ []) ++ w.0) ≡ at d.i Fsmd ∷ at d.j (Number (format_number w.1.0))
    ∷ d.rest = d.is in
    let m : format_number w.1.0 ≡ format_number One = cc in
    let one = file_one w.1.0 w.1.1 (all ++ w.0) w.1.2 (same_number w.1.0 One m) in
    none_after ws (at n t) w.0 h (subst (λ (l : List Word). AreOne l) (append_assoc ws (at n t ∷ []) w.0) one.1.1.1)
