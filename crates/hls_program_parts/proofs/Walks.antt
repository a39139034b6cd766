-- Where words lead in a program, word by word.
use Rattle.std.proofs.Common.{◌≡◌, ℕ, List, [], ◌∷◌, ◌++◌, Option, Some, None, refl, ◌∙◌}
use Rattle.fs_grammar.specs.declared.token.TokenKind.{TokenKind}
use Rattle.fs_grammar.specs.Spelling.{Word, at}
use Rattle.fs_grammar.specs.WordWalks.{and_then}
use Rattle.hls_program_parts.specs.ProgramGrammar.{ProgramParseState, program_step}

-- where words lead from a parse state, or none where one of them cannot follow
abbrev pub walk : List Word → ProgramParseState → Option ProgramParseState
walk [] s = Some s
walk (at n t ∷ ws) s = and_then (program_step s n t) (walk ws)

on_append : (o : Option ProgramParseState) (a b : List Word) → ((m : ProgramParseState) → walk (a ++ b) m ≡ and_then (walk a m) (walk b))
    → and_then o (walk (a ++ b)) ≡ and_then (and_then o (walk a)) (walk b)
on_append None a b h = refl
on_append (Some m) a b h = h m

pub walk_append : (a b : List Word) (s : ProgramParseState) → walk (a ++ b) s ≡ and_then (walk a s) (walk b)
walk_append [] b s = refl
walk_append (at n t ∷ a) b s = on_append (program_step s n t) a b (λ m. walk_append a b m)

on_some : (o : Option ProgramParseState) → and_then o (walk []) ≡ o
on_some None = refl
on_some (Some s) = refl

-- one more word
pub walk_more : (ws : List Word) (s r : ProgramParseState) (n : ℕ) (t : TokenKind) → walk ws s ≡ Some r → walk (ws ++ at n t ∷ []) s ≡ program_step r n t
walk_more ws s r n t e = walk_append ws (at n t ∷ []) s ∙ rw e (on_some (program_step r n t))
