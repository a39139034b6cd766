use Rattle.std.proofs.Common.{◌≡◌, ◌<◌, ◌≤◌, ◌+◌, length, take, drop, false, sym, ◌∙◌, arith}
use Rattle.fs_lex.specs.declared.lexemes.Lexeme.TheVariants as lexemes
use Rattle.fs_lex.specs.Lexemes.{lexeme_of}
use Rattle.fs_lex.specs.Scan.{is_bad, tokens_of}
use Rattle.fs_lex.proofs.Scans.{goes_on}
use Rattle.fs_lex.proofs.scan.tokens.Goals as goal

pub each-preserved : goal.each-preserved
each-preserved c =
    let rest = c.each.rest.now in
    let w = c.in-Token.kind in
    let n = c.in-Token.n in
    let l : lexeme_of rest ≡ lexemes.Token w n = sym c.in_ok-n.ensures.is ∙ c.in-Token.is in
    let some : 0 < n = rw c.in-Token.is at c.in_ok-n.ensures.some in
    let fits : n ≤ length rest = rw c.in-Token.is at c.in_ok-n.ensures.fits in
    let good : is_bad w ≡ false = sym c.if-bad.ensures in
    let g = goes_on c.each.out.items rest w n c.each.place c.each.operators (tokens_of c.args.bytes.now) l some fits good c.each.invariant.0 in
    let front : c.split_at-in-Token.result.0.now ≡ take n rest = c.split_at-in-Token.ensures.front in
    let back : c.split_at-in-Token.result.1.now ≡ drop n rest = c.split_at-in-Token.ensures.back in
    let len : length c.split_at-in-Token.result.1.now + n ≡ length rest = c.split_at-in-Token.ensures.back_len in
    let front_len : length c.split_at-in-Token.result.0.now ≡ n = c.split_at-in-Token.ensures.front_len in (
      rw (
        c.in_ok-push-in-Token.ensures.items,
        c.is_past_limit-past_limit.ensures,
        c.count_operators-operators.ensures.is,
        c.move_place-place-in-Token.ensures.is,
        front,
        back,
      ) g,
      omega arith,
      omega arith,
      omega arith,
      omega arith,
    )
