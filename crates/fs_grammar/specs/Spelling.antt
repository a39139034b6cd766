-- The grammar of machine texts: which words spell which parts, in texts of a format. Chains group to the left.
use Rattle.std.specs.Prelude.{ℕ, ℤ, List, [], ◌∷◌, ◌++◌, Option, Some, None}
use Rattle.fs_model.specs.declared.parts.Rel.{Rel}
use Rattle.fs_model.specs.declared.parts.Role.{Role}
use Rattle.fs_model.specs.declared.parts.Role.TheVariants.{Output}
use Rattle.fs_model.specs.declared.parts.Sort.{Sort}
use Rattle.fs_model.specs.declared.parts.Sort.TheVariants as sorts
use Rattle.fs_model.specs.Expressions.{Expression, Variable, Read, Sum, Difference, Product, Quotient, Remainder, Negative, Guard}
use Rattle.fs_model.specs.Expressions.{Test, Not}
use Rattle.fs_model.specs.Expressions.{And, Or, Assignment}
use Rattle.fs_model.specs.Expressions as expressions
use Rattle.fs_model.specs.Source.{Declaration, SourceTransition, SourceState, Source}
use Rattle.fs_grammar.specs.declared.format.Format.{Format}
use Rattle.fs_grammar.specs.declared.format.Format.TheVariants.{Two}
use Rattle.fs_grammar.specs.declared.token.TokenKind.{TokenKind}
use Rattle.fs_grammar.specs.declared.token.TokenKind.TheVariants.{Fsmd, Declare, Array, Reset, State, When, Goto, Emit, Port}
use Rattle.fs_grammar.specs.declared.token.TokenKind.TheVariants.{Name, Number, Semicolon, Colon, Comma, Equals, OpenParen}
use Rattle.fs_grammar.specs.declared.token.TokenKind.TheVariants.{CloseParen, OpenBracket, CloseBracket, OpenBrace, CloseBrace}
use Rattle.fs_grammar.specs.declared.token.TokenKind.TheVariants.{Plus, Minus, Star, Slash, Percent, Bang, AndAnd, OrOr, Relation}
use Rattle.fs_grammar.specs.Formats.{format_number}
use Rattle.fs_grammar.specs.Grammar.{Destination, scalar, element, destination_assignment}

-- a token without its column: the number of its line, and what it is
pub data Word : Type 0 where
  at : ℕ → TokenKind → Word

-- factor = number | name [ "[" sum "]" ] | "-" factor | "(" sum ")"
-- product = factor { ( "*" | "/" | "%" ) factor }
-- sum = product { ( "+" | "-" ) product }
mutual
  pub data IsFactor : Expression (List ℕ) → List Word → Type 0 where
    number : (n : ℕ) (i : ℤ) → IsFactor (expressions.Number i) (at n (Number i) ∷ [])
    variable : (n : ℕ) (x : List ℕ) → IsFactor (Variable x) (at n (Name x) ∷ [])
    read : (n m k : ℕ) (x : List ℕ) {s : Expression (List ℕ)} {a : List Word} → IsSum s a
        → IsFactor (Read x s) (at n (Name x) ∷ at m OpenBracket ∷ (a ++ at k CloseBracket ∷ []))
    negative : (n : ℕ) {f : Expression (List ℕ)} {a : List Word} → IsFactor f a → IsFactor (Negative f) (at n Minus ∷ a)
    group : (n m : ℕ) {s : Expression (List ℕ)} {a : List Word} → IsSum s a
        → IsFactor s (at n OpenParen ∷ (a ++ at m CloseParen ∷ []))

  pub data IsProduct : Expression (List ℕ) → List Word → Type 0 where
    factor : {f : Expression (List ℕ)} {a : List Word} → IsFactor f a → IsProduct f a
    times : (n : ℕ) {p f : Expression (List ℕ)} {a b : List Word} → IsProduct p a → IsFactor f b
        → IsProduct (Product p f) (a ++ (at n Star ∷ b))
    divides : (n : ℕ) {p f : Expression (List ℕ)} {a b : List Word} → IsProduct p a → IsFactor f b
        → IsProduct (Quotient p f) (a ++ (at n Slash ∷ b))
    remainder_of : (n : ℕ) {p f : Expression (List ℕ)} {a b : List Word} → IsProduct p a → IsFactor f b
        → IsProduct (Remainder p f) (a ++ (at n Percent ∷ b))

  pub data IsSum : Expression (List ℕ) → List Word → Type 0 where
    product : {p : Expression (List ℕ)} {a : List Word} → IsProduct p a → IsSum p a
    plus : (n : ℕ) {s p : Expression (List ℕ)} {a b : List Word} → IsSum s a → IsProduct p b
        → IsSum (Sum s p) (a ++ (at n Plus ∷ b))
    minus : (n : ℕ) {s p : Expression (List ℕ)} {a b : List Word} → IsSum s a → IsProduct p b
        → IsSum (Difference s p) (a ++ (at n Minus ∷ b))

-- unit = "!" unit | "{" guard "}" | sum relation sum
-- conjunction = unit { "&&" unit }
-- guard = conjunction { "||" conjunction }
mutual
  pub data IsUnit : Guard (List ℕ) → List Word → Type 0 where
    not : (n : ℕ) {u : Guard (List ℕ)} {a : List Word} → IsUnit u a → IsUnit (Not u) (at n Bang ∷ a)
    braces : (n m : ℕ) {g : Guard (List ℕ)} {a : List Word} → IsGuard g a
        → IsUnit g (at n OpenBrace ∷ (a ++ at m CloseBrace ∷ []))
    literal : (n : ℕ) (r : Rel) {l s : Expression (List ℕ)} {a b : List Word} → IsSum l a → IsSum s b
        → IsUnit (Test (record { relation = r; left = l; right = s })) (a ++ (at n (Relation r) ∷ b))

  pub data IsConjunction : Guard (List ℕ) → List Word → Type 0 where
    unit : {u : Guard (List ℕ)} {a : List Word} → IsUnit u a → IsConjunction u a
    and : (n : ℕ) {c u : Guard (List ℕ)} {a b : List Word} → IsConjunction c a → IsUnit u b
        → IsConjunction (And c u) (a ++ (at n AndAnd ∷ b))

  pub data IsGuard : Guard (List ℕ) → List Word → Type 0 where
    conjunction : {c : Guard (List ℕ)} {a : List Word} → IsConjunction c a → IsGuard c a
    or : (n : ℕ) {g c : Guard (List ℕ)} {a b : List Word} → IsGuard g a → IsConjunction c b
        → IsGuard (Or g c) (a ++ (at n OrOr ∷ b))

-- destination = name [ "[" sum "]" ]
pub data IsDestination : Destination → List Word → Type 0 where
  scalar_name : (n : ℕ) (x : List ℕ) → IsDestination (scalar x) (at n (Name x) ∷ [])
  element_at : (n m k : ℕ) (x : List ℕ) {s : Expression (List ℕ)} {a : List Word} → IsSum s a
      → IsDestination (element x s) (at n (Name x) ∷ at m OpenBracket ∷ (a ++ at k CloseBracket ∷ []))

-- assignment = destination "=" sum, in format 2 also "emit" name sum
pub data IsAssignment : Format → Assignment (List ℕ) → List Word → Type 0 where
  assign : (f : Format) (n : ℕ) {d : Destination} {e : Expression (List ℕ)} {a b : List Word} → IsDestination d a → IsSum e b
      → IsAssignment f (destination_assignment d e) (a ++ (at n Equals ∷ b))
  emit : (n m : ℕ) (x : List ℕ) {e : Expression (List ℕ)} {a : List Word} → IsSum e a
      → IsAssignment Two (expressions.Emit x e) (at n Emit ∷ at m (Name x) ∷ a)

-- assignments = assignment { "," assignment }
pub data AreAssignments : Format → List (Assignment (List ℕ)) → List Word → Type 0 where
  one_assignment : (f : Format) {x : Assignment (List ℕ)} {a : List Word} → IsAssignment f x a → AreAssignments f (x ∷ []) a
  more_assignments : (f : Format) (n : ℕ) {xs : List (Assignment (List ℕ))} {x : Assignment (List ℕ)} {a b : List Word}
      → AreAssignments f xs a → IsAssignment f x b → AreAssignments f (xs ++ x ∷ []) (a ++ (at n Comma ∷ b))

-- effects = [ ":" assignments ]
pub data AreEffects : Format → List (Assignment (List ℕ)) → List Word → Type 0 where
  no_effects : (f : Format) → AreEffects f [] []
  effects : (f : Format) (n : ℕ) {xs : List (Assignment (List ℕ))} {a : List Word} → AreAssignments f xs a
      → AreEffects f xs (at n Colon ∷ a)

-- condition = [ "when" guard ] "goto", with the line of its first word
pub data IsCondition : ℕ → Option (Guard (List ℕ)) → List Word → Type 0 where
  always : (n : ℕ) → IsCondition n None (at n Goto ∷ [])
  when : (n m : ℕ) {g : Guard (List ℕ)} {a : List Word} → IsGuard g a → IsCondition n (Some g) (at n When ∷ (a ++ at m Goto ∷ []))

-- transition = condition name effects ";"
pub data IsTransition : Format → SourceTransition → List Word → Type 0 where
  transition : (f : Format) (n m k : ℕ) (g : Option (Guard (List ℕ))) (x : List ℕ) (xs : List (Assignment (List ℕ)))
      {a b : List Word} → IsCondition n g a → AreEffects f xs b
      → IsTransition f (record { line = n; content = record { guard = g; target = x; assignments = xs } })
      (a ++ (at m (Name x) ∷ (b ++ at k Semicolon ∷ [])))

-- transitions = { transition }
pub data AreTransitions : Format → List SourceTransition → List Word → Type 0 where
  no_transitions : (f : Format) → AreTransitions f [] []
  more_transitions : (f : Format) {ls : List SourceTransition} {l : SourceTransition} {a b : List Word} → AreTransitions f ls a
      → IsTransition f l b → AreTransitions f (ls ++ l ∷ []) (a ++ b)

-- state = "state" name ":" transitions
pub data IsState : Format → SourceState → List Word → Type 0 where
  state : (f : Format) (n m k : ℕ) (x : List ℕ) (ls : List SourceTransition) {a : List Word} → AreTransitions f ls a
      → IsState f (record { line = n; name = x; transitions = ls }) (at n State ∷ at m (Name x) ∷ at k Colon ∷ a)

-- states = { state }
pub data AreStates : Format → List SourceState → List Word → Type 0 where
  no_states : (f : Format) → AreStates f [] []
  more_states : (f : Format) {ss : List SourceState} {s : SourceState} {a b : List Word} → AreStates f ss a → IsState f s b
      → AreStates f (ss ++ s ∷ []) (a ++ b)

-- names = name { "," name }
pub data AreNames : List (List ℕ) → List Word → Type 0 where
  one_name : (n : ℕ) (x : List ℕ) → AreNames (x ∷ []) (at n (Name x) ∷ [])
  more_names : (n m : ℕ) (x : List ℕ) {xs : List (List ℕ)} {a : List Word} → AreNames xs a
      → AreNames (xs ++ x ∷ []) (a ++ (at n Comma ∷ at m (Name x) ∷ []))

-- kind = ( "input" | "output" | "local" ) [ "array" ], in format 2 also "port", with the line of its first word
pub data IsKind : Format → ℕ → Role → Sort → List Word → Type 0 where
  scalars : (f : Format) (n : ℕ) (r : Role) → IsKind f n r sorts.Scalar (at n (Declare r) ∷ [])
  arrays : (f : Format) (n m : ℕ) (r : Role) → IsKind f n r sorts.Array (at n (Declare r) ∷ at m Array ∷ [])
  ports : (n : ℕ) → IsKind Two n Output sorts.Port (at n Port ∷ [])

-- declaration = kind names ";"
pub data IsDeclaration : Format → Declaration → List Word → Type 0 where
  declaration : (f : Format) (n m : ℕ) (r : Role) (s : Sort) (xs : List (List ℕ)) {a b : List Word} → IsKind f n r s a
      → AreNames xs b
      → IsDeclaration f (record { line = n; role = r; sort = s; names = xs }) (a ++ (b ++ at m Semicolon ∷ []))

-- declarations = { declaration }
pub data AreDeclarations : Format → List Declaration → List Word → Type 0 where
  no_declarations : (f : Format) → AreDeclarations f [] []
  more_declarations : (f : Format) {ds : List Declaration} {d : Declaration} {a b : List Word} → AreDeclarations f ds a
      → IsDeclaration f d b → AreDeclarations f (ds ++ d ∷ []) (a ++ b)

-- file = "fsmd" format ";" declarations "reset" name ";" states, where the format is the number 1 or 2
pub data IsFile : Format → Source → List Word → Type 0 where
  file : (f : Format) (i j k n m l : ℕ) (ds : List Declaration) (x : List ℕ) (ss : List SourceState) {a b : List Word}
      → AreDeclarations f ds a → AreStates f ss b
      → IsFile f (record { declarations = ds; reset_line = n; reset = x; states = ss })
      (at i Fsmd ∷ at j (Number (format_number f)) ∷ at k Semicolon ∷ (a ++ (at n Reset ∷ at m (Name x) ∷ at l Semicolon ∷ b)))
