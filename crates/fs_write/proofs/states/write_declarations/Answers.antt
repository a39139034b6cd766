use Rattle.std.proofs.Common.{map, refl}
use Rattle.std.specs.List.{flat_map, list_all}
use Rattle.fs_model.specs.View.{declaration_of}
use Rattle.fs_write.specs.Canonical.{declaration_text}
use Rattle.fs_write.specs.Spellable.{is_spellable_declaration}
use Rattle.fs_write.proofs.Loops.{text_more, text_whole, words_more, words_whole, all_and_mapped}
use Rattle.fs_write.proofs.states.write_declarations.Goals as goal

pub loop-decl-preserved : goal.loop-decl-preserved
loop-decl-preserved c =
    let xs = c.args.decls.now in
    let i = c.loop-decl.decl-index in
    let x = c.decl-item.result in
    let h = c.loop-decl-test.true in
    let is = c.decl-item.is in
    let written = c.in_ok-write_declaration.ensures in (
      text_more (λ ys. flat_map declaration_text (map declaration_of ys)) (λ y. declaration_text (declaration_of y)) (λ y ys. refl)
          c.loop-decl.out.items _ _ xs i x h is written.text c.loop-decl.invariant.0,
      words_more (λ ys. list_all is_spellable_declaration (map declaration_of ys)) (λ y. is_spellable_declaration (declaration_of y))
          (all_and_mapped is_spellable_declaration declaration_of) xs i x h is c.loop-decl.invariant.1 written.words,
    )

pub returns-clause-text : goal.returns-clause-text
returns-clause-text c =
    text_whole (λ ys. flat_map declaration_text (map declaration_of ys)) refl c.loop-decl.out.items _ c.args.decls.now c.loop-decl.decl-index
    c.loop-decl-test.false c.loop-decl.invariant.0

pub returns-clause-words : goal.returns-clause-words
returns-clause-words c =
    words_whole (λ ys. list_all is_spellable_declaration (map declaration_of ys)) c.args.decls.now c.loop-decl.decl-index c.loop-decl-test.false
    c.loop-decl.invariant.1
