-- The grammar of programs: which words spell which parts. Their declarations, sums, guards and assignments are those of machine
-- texts of format 1, which have no ports.
use Rattle.std.specs.Prelude.{ℕ, List, [], ◌∷◌, ◌++◌}
use Rattle.fs_model.specs.Expressions.{Guard, Assignment}
use Rattle.fs_model.specs.Source.{Declaration}
use Rattle.fs_grammar.specs.declared.format.Format.TheVariants.{One}
use Rattle.fs_grammar.specs.declared.token.TokenKind.TheVariants.{Prog, Else, Semicolon, OpenBrace, CloseBrace}
use Rattle.fs_grammar.specs.declared.token.TokenKind.TheVariants as kinds
use Rattle.fs_grammar.specs.Spelling.{Word, at, IsGuard, IsAssignment, AreDeclarations}
use Rattle.hls_program_parts.specs.Programs.{Block, End, Do, If, While, Program, join_blocks}

-- the line of the first word
abbrev pub first_line : List Word → ℕ
first_line [] = 0
first_line (at n t ∷ ws) = n

-- statement = assignment ";" | "if" guard block [ "else" block ] | "while" guard block
-- block = "{" statements "}"
-- statements = { statement }
mutual
  pub data IsStatement : Block (List ℕ) → List Word → Type 0 where
    assigns : (m : ℕ) {x : Assignment (List ℕ)} {a : List Word} → IsAssignment One x a
        → IsStatement (Do (first_line a) x End) (a ++ at m Semicolon ∷ [])
    chooses : (n : ℕ) {g : Guard (List ℕ)} {y : Block (List ℕ)} {a b : List Word} → IsGuard g a → IsBlock y b
        → IsStatement (If n g y End End) (at n kinds.If ∷ (a ++ b))
    chooses_else : (n m : ℕ) {g : Guard (List ℕ)} {y z : Block (List ℕ)} {a b c : List Word} → IsGuard g a
        → IsBlock y b → IsBlock z c
        → IsStatement (If n g y z End) (at n kinds.If ∷ (a ++ (b ++ (at m Else ∷ c))))
    repeats : (n : ℕ) {g : Guard (List ℕ)} {y : Block (List ℕ)} {a b : List Word} → IsGuard g a → IsBlock y b
        → IsStatement (While n g y End) (at n kinds.While ∷ (a ++ b))

  pub data IsBlock : Block (List ℕ) → List Word → Type 0 where
    block : (n m : ℕ) {b : Block (List ℕ)} {a : List Word} → AreStatements b a
        → IsBlock b (at n OpenBrace ∷ (a ++ at m CloseBrace ∷ []))

  pub data AreStatements : Block (List ℕ) → List Word → Type 0 where
    no_statements : AreStatements End []
    more_statements : {b s : Block (List ℕ)} {a c : List Word} → AreStatements b a → IsStatement s c
        → AreStatements (join_blocks b s) (a ++ c)

-- program = "prog" ";" declarations block
pub data IsProgram : Program → List Word → Type 0 where
  program : (n m : ℕ) {ds : List Declaration} {b : Block (List ℕ)} {a c : List Word} → AreDeclarations One ds a → IsBlock b c
      → IsProgram (record { declarations = ds; body = b }) (at n Prog ∷ at m Semicolon ∷ (a ++ c))
