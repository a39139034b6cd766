-- The guard or the assignment that words end in.
use Rattle.std.specs.Prelude.{◌≡◌, ℕ, Bool, true, false, List, ◌∷◌, ◌++◌}
use Rattle.std.specs.List.{AllByRecursion}
use Rattle.fs_model.specs.Expressions.{Assignment}
use Rattle.fs_grammar.specs.declared.format.Format.{Format}
use Rattle.fs_grammar.specs.declared.token.TokenKind.TheVariants.{When, Goto, Name, Colon, Comma}
use Rattle.fs_grammar.specs.declared.token.Token.{Token}
use Rattle.fs_grammar.specs.Operators.{starts_expression}
use Rattle.fs_grammar.specs.Spelling.{Word, at, AreAssignments}
use Rattle.fs_grammar.specs.WordWalks.{words}
use Rattle.fs_grammar.specs.Beginnings.{guard, assignment, Begins}

-- The words end in a part of one guard or one assignment: in what begins a guard, behind "when"; or in what begins an assignment,
-- behind the ":" after a target, or behind the "," after the assignments that follow such a ":".
pub data IsInExpression : List Word → List Word → Type 0 where
  in_guard : (before : List Word) (n : ℕ) {part : List Word} → Begins guard part
      → IsInExpression (before ++ (at n When ∷ part)) part
  in_first : (f : Format) (before : List Word) (n m k : ℕ) (x : List ℕ) {part : List Word} → Begins (assignment f) part
      → IsInExpression (before ++ (at n Goto ∷ at m (Name x) ∷ at k Colon ∷ part)) part
  in_next : (f : Format) (before : List Word) (n m k l : ℕ) (x : List ℕ) {xs : List (Assignment (List ℕ))} {a part : List Word}
      → AreAssignments f xs a → Begins (assignment f) part
      → IsInExpression (before ++ (at n Goto ∷ at m (Name x) ∷ at k Colon ∷ (a ++ (at l Comma ∷ part)))) part

-- a guard or an assignment begins after the word
abbrev pub starts : Word → Bool
starts (at n t) = starts_expression t

-- The part is what stands behind the last of the words after which a guard or an assignment begins.
pub record IsSince (ws part : List Word) : Type 0 where
  pub before : List Word
  pub word : Word
  pub is : ws ≡ before ++ word ∷ part
  pub begins : starts word ≡ true
  pub inside : AllByRecursion (λ w. starts w ≡ false) part

-- The part is what stands behind the last of the tokens after which a guard or an assignment begins.
pub record AreSince (ts part : List Token) : Type 0 where
  pub before : List Token
  pub token : Token
  pub is : ts ≡ before ++ token ∷ part
  pub begins : starts_expression token.kind ≡ true
  pub inside : AllByRecursion (λ t. starts_expression t.kind ≡ false) part

-- The tokens end in a part of one guard or one assignment, which is what stands behind the last of those after which one begins.
pub record EndInExpression (ts part : List Token) : Type 0 where
  pub since : AreSince ts part
  pub expression : IsInExpression (words ts) (words part)
