use Rattle.std.proofs.Common.{◌≡◌, ◌∙◌, rules, ap, sym, subst, map, inl, inr, string_bytes}
use Rattle.std.proofs.lemmas.Result.{IfOk-weaker, IfErr-weaker}
use Rattle.clap.specs.Words.{App, Kinds, HasKind, fault_of, found_of, kind_of, is_simple, is_simple_and_free, rows_of, subcommand_of}
use Rattle.clap.specs.declared.error.kind.ErrorKind.TheVariants.{OutOfMemory}
use Rattle.show_words.proofs.Limits.{view_within}
use Rattle.show_words.proofs.Named.{not_taken, refused_asks, sub_asks, taken_asks}
use Rattle.show_words.proofs.words.show.Goals as goal

pub returns-in-Some-clause-ok : goal.returns-in-Some-clause-ok
returns-in-Some-clause-ok c =
    let words = map string_bytes c.args.words.now in
    let line = c.in_ok-command.ensures in
    let same = (c.in-Ok.ensures.matches (ap is_simple line)).1 ∙ ap (λ (a : App). subcommand_of a words) line in
    let asks = sub_asks c.in-Ok.matches words c.in-Some.name.now (rows_of (found_of c.in-Some.found.now)) c.in-Some.ensures.name c.in-Some.ensures.rows same in
    let passes = ap (λ (a : App). fault_of a words) (sym line) ∙ c.in-Ok.ensures.kinds (ap is_simple_and_free line) in
    IfOk-weaker c.read.result _ _ (λ ask e. taken_asks words passes ∙ sym asks ∙ e) c.read.ensures.ok

pub returns-in-Some-clause-limits : goal.returns-in-Some-clause-limits
returns-in-Some-clause-limits c =
    IfOk-weaker c.read.result _ _ (λ ask e. view_within c.in-Some.name.now (rows_of (found_of c.in-Some.found.now)) _ e) c.read.ensures.ok

pub returns-in-Some-clause-none : goal.returns-in-Some-clause-none
returns-in-Some-clause-none c =
    let words = map string_bytes c.args.words.now in
    let line = c.in_ok-command.ensures in
    let same = (c.in-Ok.ensures.matches (ap is_simple line)).1 ∙ ap (λ (a : App). subcommand_of a words) line in
    let asks = sub_asks c.in-Ok.matches words c.in-Some.name.now (rows_of (found_of c.in-Some.found.now)) c.in-Some.ensures.name c.in-Some.ensures.rows same in
    IfErr-weaker c.read.result _ _ (λ error h is. refused_asks words (not_taken words _ asks (h is))) c.read.ensures.usage

pub returns-clause-none : goal.returns-clause-none
returns-clause-none c = λ _.
    let words = map string_bytes c.args.words.now in
    let line = c.in_ok-command.ensures in
    let no_memory_left : kind_of c.in-Err.error ≡ OutOfMemory → ⊥ = search rules in
    refused_asks words (λ taken.
    elim (subst (λ (kinds : Kinds). HasKind kinds c.in-Err.error) (ap (λ (a : App). fault_of a words) line ∙ taken)
    (c.in-Err.ensures.kinds (ap is_simple_and_free line))) [
      | inl memory ↦ no_memory_left memory
      | inr among ↦ among
    ])
