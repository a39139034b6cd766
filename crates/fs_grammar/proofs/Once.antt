-- Words spell one part at most.
use Rattle.std.proofs.Common.{◌≡◌, ℕ, List, [], Some, sym, ◌∙◌}
use Rattle.fs_model.specs.Expressions.{Expression, Guard}
use Rattle.fs_model.specs.Source.{Source}
use Rattle.fs_grammar.specs.declared.format.Format.{Format}
use Rattle.fs_grammar.specs.declared.format.Format.TheVariants.{One}
use Rattle.fs_grammar.specs.declared.token.TokenKind.TheVariants.{CloseParen, CloseBrace}
use Rattle.fs_grammar.specs.declared.token.Token.{Token}
use Rattle.fs_grammar.specs.Grammar.{ConjunctionContext, ProductContext, first_factor, first_product, first_of_all, first_of_any, parens, left, braces}
use Rattle.fs_grammar.specs.Grammar.{transition_guard, after_product, after_conjunction}
use Rattle.fs_grammar.specs.Spelling.{Word, IsSum, IsGuard, IsFile}
use Rattle.fs_grammar.specs.Faults.{Spells}
use Rattle.fs_grammar.proofs.Complete.{complete, sum_walks, guard_walks}
use Rattle.fs_grammar.proofs.Exact.{spelled_is_read}

pub one_source : (s r : Source) (ts : List Token) → Spells s ts → Spells r ts → s ≡ r
one_source s r ts h k =
    let a = spelled_is_read s ts h in
    let b = spelled_is_read r ts k in
    cc

pub one_file : (f g : Format) (s r : Source) (ws : List Word) → IsFile f s ws → IsFile g r ws → s ≡ r
one_file f g s r ws h k =
    let a = complete f s ws h in
    let b = complete g r ws k in
    cc

-- some place to read a part at
abbrev some_conjunction : ConjunctionContext
some_conjunction =
    first_of_any
    (transition_guard
    (record {
      format = One;
      source = record { declarations = []; reset_line = 0; reset = []; states = [] };
      state = record { line = 0; name = []; transitions = [] };
    }) 0)

abbrev some_product : ProductContext
some_product = first_product (left (first_of_all some_conjunction))

pub one_sum : (s r : Expression (List ℕ)) (ws : List Word) → IsSum s ws → IsSum r ws → s ≡ r
one_sum s r ws h k =
    let same : Some (after_product s some_product) ≡ Some (after_product r some_product) =
    sym (sum_walks s ws h 0 CloseParen [] (parens (first_factor some_product)) tt tt)
    ∙ sum_walks r ws k 0 CloseParen [] (parens (first_factor some_product)) tt tt in
    cc

pub one_guard : (g h : Guard (List ℕ)) (ws : List Word) → IsGuard g ws → IsGuard h ws → g ≡ h
one_guard g h ws p q =
    let same : Some (after_conjunction g some_conjunction) ≡ Some (after_conjunction h some_conjunction) =
    sym (guard_walks g ws p 0 CloseBrace [] (braces (first_of_all some_conjunction)) (tt, tt, tt) tt)
    ∙ guard_walks h ws q 0 CloseBrace [] (braces (first_of_all some_conjunction)) (tt, tt, tt) tt in
    cc
