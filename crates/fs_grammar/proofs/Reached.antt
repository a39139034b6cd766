-- What has been read at each place of the reading.
use Rattle.std.specs.Prelude.{◌≡◌, ℕ, List, [], ◌∷◌, ◌++◌, Option}
use Rattle.fs_model.specs.declared.parts.Rel.{Rel}
use Rattle.fs_model.specs.Expressions.{Expression, Guard, Assignment}
use Rattle.fs_model.specs.Source.{Declaration, Source}
use Rattle.fs_grammar.specs.declared.format.Format.{Format}
use Rattle.fs_grammar.specs.declared.format.Format.TheVariants.{Two}
use Rattle.fs_grammar.specs.declared.token.TokenKind.TheVariants.{Fsmd, Declare, Reset, State, When, Emit, Name, Number, Semicolon, Colon, Comma, Equals}
use Rattle.fs_grammar.specs.declared.token.TokenKind.TheVariants.{OpenParen, OpenBracket, OpenBrace, Plus, Minus, Star, Slash, Percent, Bang, AndAnd, OrOr}
use Rattle.fs_grammar.specs.declared.token.TokenKind.TheVariants.{Relation}
use Rattle.fs_grammar.specs.Formats.{format_number}
use Rattle.fs_grammar.specs.Grammar as machine
use Rattle.fs_grammar.specs.Grammar.{Destination, OpenState, OpenTransition, FactorContext, ProductContext, SumContext, UnitContext, ConjunctionContext}
use Rattle.fs_grammar.specs.Grammar.{GuardContext, ParseState, at_start, at_format, at_semicolon, at_declaration, at_sort, at_declared, after_declared}
use Rattle.fs_grammar.specs.Grammar.{at_reset, after_reset, at_state, at_state_name, after_state_name, at_transition, at_target, after_target, at_assignment}
use Rattle.fs_grammar.specs.Grammar.{at_port, after_assignment_name, at_equals, at_unit, after_conjunction, after_guard, at_factor, after_name, after_product}
use Rattle.fs_grammar.specs.Grammar.{after_sum}
use Rattle.fs_grammar.specs.Spelling.{Word, at, IsProduct, IsSum, IsConjunction, IsGuard, IsDestination, AreAssignments, IsCondition, IsState, AreNames}
use Rattle.fs_grammar.specs.Spelling.{IsKind, AreDeclarations, IsFile}

-- words in two parts
pub record Cut (P Q : List Word → Type 0) (ws : List Word) : Type 0 where
  pub a : List Word
  pub b : List Word
  pub front : P a
  pub back : Q b
  pub is : ws ≡ a ++ b

abbrev pub Is : List Word → List Word → Type 0
Is ws vs = vs ≡ ws

-- ---- the head

abbrev pub head : Format → ℕ → ℕ → ℕ → List Word
head f i j k = at i Fsmd ∷ at j (Number (format_number f)) ∷ at k Semicolon ∷ []

pub record IsHead (f : Format) (ds : List Declaration) (ws : List Word) : Type 0 where
  pub i : ℕ
  pub j : ℕ
  pub k : ℕ
  pub a : List Word
  pub declarations : AreDeclarations f ds a
  pub is : ws ≡ head f i j k ++ a

-- names up to the next one
pub data BeforeName : List (List ℕ) → List Word → Type 0 where
  no_name : BeforeName [] []
  comma : (n : ℕ) {xs : List (List ℕ)} {a : List Word} → AreNames xs a → BeforeName xs (a ++ at n Comma ∷ [])

-- a declaration up to its next name
abbrev pub Declares : Format → Declaration → List Word → Type 0
Declares f d ws = Cut (IsKind f d.line d.role d.sort) (BeforeName d.names) ws

-- a declaration up to its last name
abbrev pub Declared : Format → Declaration → List Word → Type 0
Declared f d ws = Cut (IsKind f d.line d.role d.sort) (AreNames d.names) ws

pub data AfterReset : Format → Source → List Word → Type 0 where
  reset : (f : Format) (n m : ℕ) (ds : List Declaration) (x : List ℕ) (a : List Word) → IsHead f ds a
      → AfterReset f (record { declarations = ds; reset_line = n; reset = x; states = [] }) (a ++ (at n Reset ∷ at m (Name x) ∷ []))

-- ---- states and transitions

pub data AfterState : OpenState → List Word → Type 0 where
  named : (f : Format) (n m : ℕ) (s : Source) (x : List ℕ) (a : List Word) → IsFile f s a
      → AfterState (record { format = f; source = s; state = record { line = n; name = x; transitions = [] } }) (a ++ (at n State ∷ at m (Name x) ∷ []))

abbrev pub IsOpenState : OpenState → List Word → Type 0
IsOpenState d ws = Cut (IsFile d.format d.source) (IsState d.format d.state) ws

pub data AfterTarget : OpenTransition → List Word → Type 0 where
  target : (n m : ℕ) (d : OpenState) (g : Option (Guard (List ℕ))) (x : List ℕ) (a b : List Word) → IsOpenState d a → IsCondition n g b
      → AfterTarget (record { state = d; line = n; guard = g; target = x; assignments = [] }) (a ++ (b ++ at m (Name x) ∷ []))

-- assignments up to the next one
pub data BeforeAssignment : Format → List (Assignment (List ℕ)) → List Word → Type 0 where
  colon : (f : Format) (n : ℕ) → BeforeAssignment f [] (at n Colon ∷ [])
  next : (f : Format) (n m : ℕ) {xs : List (Assignment (List ℕ))} {a : List Word} → AreAssignments f xs a
      → BeforeAssignment f xs (at n Colon ∷ (a ++ at m Comma ∷ []))

-- a transition up to its next assignment
pub record IsOpenTransition (o : OpenTransition) (ws : List Word) : Type 0 where
  pub a : List Word
  pub b : List Word
  pub c : List Word
  pub m : ℕ
  pub state : IsOpenState o.state a
  pub condition : IsCondition o.line o.guard b
  pub before : BeforeAssignment o.state.format o.assignments c
  pub is : ws ≡ a ++ (b ++ (at m (Name o.target) ∷ c))

-- ---- what was read before a part

mutual
  pub data BeforeUnit : UnitContext → List Word → Type 0 where
    negates : (n : ℕ) (k : UnitContext) (a : List Word) → BeforeUnit k a → BeforeUnit (machine.negates k) (a ++ at n Bang ∷ [])
    first_of_all : (k : ConjunctionContext) (a : List Word) → BeforeConjunction k a → BeforeUnit (machine.first_of_all k) a
    and_after : (n : ℕ) (c : Guard (List ℕ)) (k : ConjunctionContext) (a b : List Word) → BeforeConjunction k a → IsConjunction c b
        → BeforeUnit (machine.and_after c k) (a ++ (b ++ at n AndAnd ∷ []))

  pub data BeforeConjunction : ConjunctionContext → List Word → Type 0 where
    first_of_any : (k : GuardContext) (a : List Word) → BeforeGuard k a → BeforeConjunction (machine.first_of_any k) a
    or_after : (n : ℕ) (g : Guard (List ℕ)) (k : GuardContext) (a b : List Word) → BeforeGuard k a → IsGuard g b
        → BeforeConjunction (machine.or_after g k) (a ++ (b ++ at n OrOr ∷ []))

  pub data BeforeGuard : GuardContext → List Word → Type 0 where
    braces : (n : ℕ) (k : UnitContext) (a : List Word) → BeforeUnit k a → BeforeGuard (machine.braces k) (a ++ at n OpenBrace ∷ [])
    transition_guard : (n : ℕ) (d : OpenState) (a : List Word) → IsOpenState d a → BeforeGuard (machine.transition_guard d n) (a ++ at n When ∷ [])

mutual
  pub data BeforeFactor : FactorContext → List Word → Type 0 where
    first_factor : (k : ProductContext) (a : List Word) → BeforeProduct k a → BeforeFactor (machine.first_factor k) a
    times : (n : ℕ) (p : Expression (List ℕ)) (k : ProductContext) (a b : List Word) → BeforeProduct k a → IsProduct p b
        → BeforeFactor (machine.times p k) (a ++ (b ++ at n Star ∷ []))
    divides : (n : ℕ) (p : Expression (List ℕ)) (k : ProductContext) (a b : List Word) → BeforeProduct k a → IsProduct p b
        → BeforeFactor (machine.divides p k) (a ++ (b ++ at n Slash ∷ []))
    remainder_of : (n : ℕ) (p : Expression (List ℕ)) (k : ProductContext) (a b : List Word) → BeforeProduct k a → IsProduct p b
        → BeforeFactor (machine.remainder_of p k) (a ++ (b ++ at n Percent ∷ []))
    negative : (n : ℕ) (k : FactorContext) (a : List Word) → BeforeFactor k a → BeforeFactor (machine.negative k) (a ++ at n Minus ∷ [])

  pub data BeforeProduct : ProductContext → List Word → Type 0 where
    first_product : (k : SumContext) (a : List Word) → BeforeSum k a → BeforeProduct (machine.first_product k) a
    plus : (n : ℕ) (s : Expression (List ℕ)) (k : SumContext) (a b : List Word) → BeforeSum k a → IsSum s b
        → BeforeProduct (machine.plus s k) (a ++ (b ++ at n Plus ∷ []))
    minus : (n : ℕ) (s : Expression (List ℕ)) (k : SumContext) (a b : List Word) → BeforeSum k a → IsSum s b
        → BeforeProduct (machine.minus s k) (a ++ (b ++ at n Minus ∷ []))

  pub data BeforeSum : SumContext → List Word → Type 0 where
    parens : (n : ℕ) (k : FactorContext) (a : List Word) → BeforeFactor k a → BeforeSum (machine.parens k) (a ++ at n OpenParen ∷ [])
    index : (n m : ℕ) (x : List ℕ) (k : FactorContext) (a : List Word) → BeforeFactor k a
        → BeforeSum (machine.index x k) (a ++ (at n (Name x) ∷ at m OpenBracket ∷ []))
    left : (k : UnitContext) (a : List Word) → BeforeUnit k a → BeforeSum (machine.left k) a
    right : (n : ℕ) (r : Rel) (l : Expression (List ℕ)) (k : UnitContext) (a b : List Word) → BeforeUnit k a → IsSum l b
        → BeforeSum (machine.right r l k) (a ++ (b ++ at n (Relation r) ∷ []))
    write_index : (n m : ℕ) (o : OpenTransition) (x : List ℕ) (a : List Word) → IsOpenTransition o a
        → BeforeSum (machine.write_index o x) (a ++ (at n (Name x) ∷ at m OpenBracket ∷ []))
    value : (n : ℕ) (o : OpenTransition) (d : Destination) (a b : List Word) → IsOpenTransition o a → IsDestination d b
        → BeforeSum (machine.value o d) (a ++ (b ++ at n Equals ∷ []))
    emitted : (n m : ℕ) (o : OpenTransition) (x : List ℕ) (a : List Word) → o.state.format ≡ Two → IsOpenTransition o a
        → BeforeSum (machine.value o (machine.port x)) (a ++ (at n Emit ∷ at m (Name x) ∷ []))

abbrev pub Reached : ParseState → List Word → Type 0
Reached at_start ws = ws ≡ []
Reached at_format ws = (i : ℕ) × (ws ≡ at i Fsmd ∷ [])
Reached (at_semicolon f) ws = (i : ℕ) × (j : ℕ) × (ws ≡ at i Fsmd ∷ at j (Number (format_number f)) ∷ [])
Reached (at_declaration f ds) ws = IsHead f ds ws
Reached (at_sort f ds n r) ws = Cut (IsHead f ds) (Is (at n (Declare r) ∷ [])) ws
Reached (at_declared f ds d) ws = Cut (IsHead f ds) (Declares f d) ws
Reached (after_declared f ds d) ws = Cut (IsHead f ds) (Declared f d) ws
Reached (at_reset f ds n) ws = Cut (IsHead f ds) (Is (at n Reset ∷ [])) ws
Reached (after_reset f s) ws = AfterReset f s ws
Reached (at_state f s) ws = IsFile f s ws
Reached (at_state_name f s n) ws = Cut (IsFile f s) (Is (at n State ∷ [])) ws
Reached (after_state_name d) ws = AfterState d ws
Reached (at_transition d) ws = IsOpenState d ws
Reached (at_target d n g) ws = Cut (IsOpenState d) (IsCondition n g) ws
Reached (after_target o) ws = AfterTarget o ws
Reached (at_assignment o) ws = IsOpenTransition o ws
Reached (at_port o) ws = (n : ℕ) × (o.state.format ≡ Two) × Cut (IsOpenTransition o) (Is (at n Emit ∷ [])) ws
Reached (after_assignment_name o x) ws = (n : ℕ) × Cut (IsOpenTransition o) (Is (at n (Name x) ∷ [])) ws
Reached (at_equals o d) ws = Cut (IsOpenTransition o) (IsDestination d) ws
Reached (at_unit k) ws = BeforeUnit k ws
Reached (after_conjunction c k) ws = Cut (BeforeConjunction k) (IsConjunction c) ws
Reached (after_guard g k) ws = Cut (BeforeGuard k) (IsGuard g) ws
Reached (at_factor k) ws = BeforeFactor k ws
Reached (after_name x k) ws = (n : ℕ) × Cut (BeforeFactor k) (Is (at n (Name x) ∷ [])) ws
Reached (after_product p k) ws = Cut (BeforeProduct k) (IsProduct p) ws
Reached (after_sum s k) ws = Cut (BeforeSum k) (IsSum s) ws
