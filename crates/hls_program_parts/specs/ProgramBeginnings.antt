-- Words that begin a program, the blocks that are open behind them, and the guard or the assignment that they end in.
use Rattle.std.specs.Prelude.{ℕ, suc, List, [], ◌∷◌, ◌++◌}
use Rattle.fs_model.specs.Expressions.{Guard, Assignment}
use Rattle.fs_model.specs.Source.{Declaration}
use Rattle.fs_grammar.specs.declared.format.Format.TheVariants.{One}
use Rattle.fs_grammar.specs.declared.token.TokenKind.TheVariants.{Prog, If, Else, While, Semicolon, OpenBrace}
use Rattle.fs_grammar.specs.Spelling.{Word, at, IsGuard, IsAssignment, AreDeclarations}
use Rattle.hls_program_parts.specs.Programs.{Block, Program}
use Rattle.hls_program_parts.specs.ProgramSpelling.{IsBlock, AreStatements, IsProgram}

-- Words that begin a program: with more words behind them they spell one.
pub record BeginsProgram (ws : List Word) : Type 0 where
  pub more : List Word
  pub whole : Program
  pub spelled : IsProgram whole (ws ++ more)

mutual
  -- Words behind which a block opens that stands in so many others.
  pub data OpensBlock : ℕ → List Word → Type 0 where
    outermost : (n m : ℕ) {ds : List Declaration} {a : List Word} → AreDeclarations One ds a
        → OpensBlock 0 (at n Prog ∷ at m Semicolon ∷ a)
    yes_block : (d n : ℕ) {g : Guard (List ℕ)} {a b : List Word} → IsInBlock d a → IsGuard g b
        → OpensBlock (suc d) (a ++ (at n If ∷ b))
    no_block : (d n m : ℕ) {g : Guard (List ℕ)} {y : Block (List ℕ)} {a b c : List Word} → IsInBlock d a → IsGuard g b
        → IsBlock y c → OpensBlock (suc d) (a ++ (at n If ∷ (b ++ (c ++ at m Else ∷ []))))
    body : (d n : ℕ) {g : Guard (List ℕ)} {a b : List Word} → IsInBlock d a → IsGuard g b
        → OpensBlock (suc d) (a ++ (at n While ∷ b))

  -- Words that end in such a block, between two of its statements.
  pub data IsInBlock : ℕ → List Word → Type 0 where
    opened : (d n : ℕ) {b : Block (List ℕ)} {a c : List Word} → OpensBlock d a → AreStatements b c
        → IsInBlock d (a ++ (at n OpenBrace ∷ c))

-- Words that end in a part of one guard or one assignment, which goes on with more words.
pub data IsInProgramExpression : (ws part more : List Word) → Type 0 where
  in_choice : (d n : ℕ) {g : Guard (List ℕ)} {a part more : List Word} → IsInBlock d a → IsGuard g (part ++ more)
      → IsInProgramExpression (a ++ (at n If ∷ part)) part more
  in_repetition : (d n : ℕ) {g : Guard (List ℕ)} {a part more : List Word} → IsInBlock d a → IsGuard g (part ++ more)
      → IsInProgramExpression (a ++ (at n While ∷ part)) part more
  in_assignment : (d : ℕ) {x : Assignment (List ℕ)} {a part more : List Word} → IsInBlock d a → IsAssignment One x (part ++ more)
      → IsInProgramExpression (a ++ part) part more
