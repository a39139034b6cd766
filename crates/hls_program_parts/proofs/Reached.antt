-- What has been read at each parse state.
use Rattle.std.specs.Prelude.{◌≡◌, ℕ, Some, List, [], ◌∷◌, ◌++◌}
use Rattle.fs_model.specs.declared.parts.Role.{Role}
use Rattle.fs_model.specs.Expressions.{Guard}
use Rattle.fs_model.specs.Source.{Declaration}
use Rattle.fs_grammar.specs.declared.format.Format.TheVariants.{One}
use Rattle.fs_grammar.specs.declared.token.TokenKind.TheVariants.{Prog, If, Else, While, Declare, Name, Semicolon, Equals, OpenBracket, OpenBrace}
use Rattle.fs_grammar.specs.Grammar.{Destination}
use Rattle.fs_grammar.specs.Spelling.{Word, at, IsGuard, IsDestination, AreDeclarations}
use Rattle.fs_grammar.proofs.Reached.{Cut, Is}
use Rattle.fs_expression_text.specs.Inside.{Inside}
use Rattle.fs_phrase_text.specs.Expressions.{ExpressionKind, a_sum, a_guard, expression_start}
use Rattle.fs_phrase_text.proofs.SoundExpressions.{walk as walk_inside}
use Rattle.fs_phrase_text.specs.Declaring.{Declaring}
use Rattle.fs_phrase_text.specs.Declaring as declaring
use Rattle.fs_phrase_text.proofs.SoundDeclarations.{walk as walk_declaring}
use Rattle.hls_program_parts.specs.ProgramGrammar as machine
use Rattle.hls_program_parts.specs.ProgramGrammar.{Named, Open, Hole, for_if, for_while, for_index, for_value, ProgramParseState, at_prog, after_prog}
use Rattle.hls_program_parts.specs.ProgramGrammar.{at_declaration, in_declaration, at_block, at_statement, after_name, at_equals, after, after_yes, at_no}
use Rattle.hls_program_parts.specs.ProgramGrammar.{at_end}
use Rattle.hls_program_parts.specs.ProgramSpelling.{first_line, IsBlock, AreStatements, IsProgram}

-- the words up to the next declaration
pub record IsHead (ds : List Declaration) (ws : List Word) : Type 0 where
  pub n : ℕ
  pub m : ℕ
  pub a : List Word
  pub declarations : AreDeclarations One ds a
  pub is : ws ≡ at n Prog ∷ at m Semicolon ∷ a

mutual
  -- the words before the brace that opens the innermost block
  pub data BeforeBlock : Open → List Word → Type 0 where
    outermost : (ds : List Declaration) (a : List Word) → IsHead ds a → BeforeBlock (machine.outermost ds) a
    in_yes : (n : ℕ) (o : Open) (b : Named) (g : Guard (List ℕ)) (a c : List Word) → IsWithin o b a → IsGuard g c
        → BeforeBlock (machine.in_yes o b n g) (a ++ (at n If ∷ c))
    in_no : (n m : ℕ) (o : Open) (b : Named) (g : Guard (List ℕ)) (y : Named) (a c d : List Word) → IsWithin o b a → IsGuard g c → IsBlock y d
        → BeforeBlock (machine.in_no o b n g y) (a ++ (at n If ∷ (c ++ (d ++ at m Else ∷ []))))
    in_body : (n : ℕ) (o : Open) (b : Named) (g : Guard (List ℕ)) (a c : List Word) → IsWithin o b a → IsGuard g c
        → BeforeBlock (machine.in_body o b n g) (a ++ (at n While ∷ c))

  -- the words up to the next statement of the innermost block
  pub data IsWithin : Open → Named → List Word → Type 0 where
    opened : (n : ℕ) (o : Open) (b : Named) (a c : List Word) → BeforeBlock o a → AreStatements b c → IsWithin o b (a ++ (at n OpenBrace ∷ c))

-- the words up to the brace of the innermost block
pub record IsOpened (o : Open) (ws : List Word) : Type 0 where
  pub n : ℕ
  pub a : List Word
  pub before : BeforeBlock o a
  pub is : ws ≡ a ++ at n OpenBrace ∷ []

-- a destination, whose first word stands on a line
pub record IsDestinationAt (n : ℕ) (d : Destination) (ws : List Word) : Type 0 where
  pub spelled : IsDestination d ws
  pub line : first_line ws ≡ n

-- a choice without `else`
pub record IsChoice (n : ℕ) (g : Guard (List ℕ)) (y : Named) (ws : List Word) : Type 0 where
  pub a : List Word
  pub b : List Word
  pub guard : IsGuard g a
  pub block : IsBlock y b
  pub is : ws ≡ at n If ∷ (a ++ b)

-- words with one more behind them
pub record Follows (P : List Word → Type 0) (w : ℕ → Word) (ws : List Word) : Type 0 where
  pub a : List Word
  pub n : ℕ
  pub front : P a
  pub is : ws ≡ a ++ w n ∷ []

-- what is read in a hole
abbrev pub kind_of_hole : Hole → ExpressionKind
kind_of_hole (for_if o b n) = a_guard
kind_of_hole (for_while o b n) = a_guard
kind_of_hole (for_index o b n x) = a_sum
kind_of_hole (for_value o b n d) = a_sum

-- the words before a sum or a guard
abbrev pub BeforeHole : Hole → List Word → Type 0
BeforeHole (for_if o b n) ws = Cut (IsWithin o b) (Is (at n If ∷ [])) ws
BeforeHole (for_while o b n) ws = Cut (IsWithin o b) (Is (at n While ∷ [])) ws
BeforeHole (for_index o b n x) ws = Cut (IsWithin o b) (Follows (Is (at n (Name x) ∷ [])) (λ m. at m OpenBracket)) ws
BeforeHole (for_value o b n d) ws = Cut (IsWithin o b) (Follows (IsDestinationAt n d) (λ m. at m Equals)) ws

-- words that lead to this state inside
abbrev pub LeadsInside : Hole → Inside → List Word → Type 0
LeadsInside h i ws = walk_inside ws (expression_start (kind_of_hole h)) ≡ Some i

-- a declaration up to this state in it
pub record LeadsDeclaring (s : Declaring) (ws : List Word) : Type 0 where
  pub line : ℕ
  pub role : Role
  pub others : List Word
  pub leads : walk_declaring others (declaring.inside (declaring.at_sort line role)) ≡ Some (declaring.inside s)
  pub is : ws ≡ at line (Declare role) ∷ others

abbrev pub Reached : ProgramParseState → List Word → Type 0
Reached at_prog ws = ws ≡ []
Reached after_prog ws = (n : ℕ) × (ws ≡ at n Prog ∷ [])
Reached (at_declaration ds) ws = IsHead ds ws
Reached (in_declaration ds s) ws = Cut (IsHead ds) (LeadsDeclaring s) ws
Reached (at_block o) ws = IsOpened o ws
Reached (at_statement o b) ws = IsWithin o b ws
Reached (after_name o b n x) ws = Cut (IsWithin o b) (Is (at n (Name x) ∷ [])) ws
Reached (at_equals o b n d) ws = Cut (IsWithin o b) (IsDestinationAt n d) ws
Reached (machine.inside h i) ws = Cut (BeforeHole h) (LeadsInside h i) ws
Reached (after h w) ws = ⊥
Reached (after_yes o b n g y) ws = Cut (IsWithin o b) (IsChoice n g y) ws
Reached (at_no o b n g y) ws = Cut (IsWithin o b) (Follows (IsChoice n g y) (λ m. at m Else)) ws
Reached (at_end p) ws = IsProgram p ws
