use Rattle.std.proofs.Common.{◌≡◌, ℕ, List, ◌++◌, ap, ◌∙◌}
use Rattle.fs_model.specs.View.{source_of}
use Rattle.fs_grammar.specs.Grammar.{at_start, reading}
use Rattle.fs_lex.specs.Scan.{tokens_of}
use Rattle.fs_write.specs.Canonical.{canonical}
use Rattle.fs_write.proofs.WholeTexts.{reads_back}
use Rattle.fs_write.proofs.write_parts.Goals as goal

pub returns-in-Ok-clause-reads_back : goal.returns-in-Ok-clause-reads_back
returns-in-Ok-clause-reads_back c =
    let p = source_of c.args.parts.now in
    let same : c.write_source.new.out.items ≡ canonical p = c.in-Ok.ensures.text ∙ ap (λ (l : List ℕ). l ++ canonical p) c.new-out.ensures.items in
    ap (λ (bytes : List ℕ). reading (tokens_of bytes) at_start) same ∙ reads_back p c.requires c.in-Ok.ensures.words
