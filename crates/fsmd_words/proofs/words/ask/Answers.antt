use Rattle.std.proofs.Common.{◌≡◌, ◌∙◌, rules, ap, sym, subst, map, inl, inr, string_bytes}
use Rattle.std.proofs.lemmas.Result.{IfOk-weaker, IfErr-weaker}
use Rattle.clap.specs.Words.{App, Kinds, HasKind, fault_of, found_of, kind_of, is_simple, is_simple_and_free, rows_of, subcommand_of}
use Rattle.clap.specs.declared.error.kind.ErrorKind.TheVariants.{OutOfMemory}
use Rattle.fsmd_words.specs.AskedWords.{AreParsed, asked_of_ask, asked_by, matched_of}
use Rattle.fsmd_words.proofs.Named.{are_taken, not_taken, refused_asks, sub_asks, taken_asks}
use Rattle.fsmd_words.proofs.Limits.{is_within}
use Rattle.fsmd_words.proofs.words.ask.Goals as goal
use Rattle.fsmd_words.proofs.words.ask.Goals.{In-Some}

-- clap takes the words, and what the command asks by its name and its matches is what they ask
parsed : (c : In-Some) → AreParsed (map string_bytes c.args.words.now)
parsed c =
    let words = map string_bytes c.args.words.now in
    let line = c.in_ok-command.ensures in
    ap (λ (a : App). fault_of a words) (sym line) ∙ c.in-Ok.ensures.kinds (ap is_simple_and_free line)

asks : (c : In-Some) → asked_by c.in-Some.name.now (rows_of (found_of c.in-Some.found.now)) ≡ matched_of (map string_bytes c.args.words.now)
asks c =
    let words = map string_bytes c.args.words.now in
    let line = c.in_ok-command.ensures in
    let same = (c.in-Ok.ensures.matches (ap is_simple line)).1 ∙ ap (λ (a : App). subcommand_of a words) line in
    sub_asks c.in-Ok.matches words c.in-Some.name.now (rows_of (found_of c.in-Some.found.now)) c.in-Some.ensures.name c.in-Some.ensures.rows same

pub returns-in-Some-clause-ok : goal.returns-in-Some-clause-ok
returns-in-Some-clause-ok c =
    let words = map string_bytes c.args.words.now in
    let k = (goal.at.returns-in-Some-clause-ok c).In-Some in
    IfOk-weaker c.read.result _ _
    (λ ask h. taken_asks words (are_taken words (asked_of_ask ask) (parsed k) (sym (asks k) ∙ h.0) h.1) ∙ (sym (asks k) ∙ h.0)) c.read.ensures.ok

pub returns-in-Some-clause-taken : goal.returns-in-Some-clause-taken
returns-in-Some-clause-taken c =
    let words = map string_bytes c.args.words.now in
    let k = (goal.at.returns-in-Some-clause-taken c).In-Some in
    IfOk-weaker c.read.result _ _ (λ ask h. are_taken words (asked_of_ask ask) (parsed k) (sym (asks k) ∙ h.0) h.1) c.read.ensures.ok

pub returns-in-Some-clause-usage : goal.returns-in-Some-clause-usage
returns-in-Some-clause-usage c =
    let words = map string_bytes c.args.words.now in
    let k = (goal.at.returns-in-Some-clause-usage c).In-Some in
    IfErr-weaker c.read.result _ _ (λ error h is. not_taken words _ (asks k) (h is)) c.read.ensures.usage

pub returns-in-Some-clause-none : goal.returns-in-Some-clause-none
returns-in-Some-clause-none c =
    let words = map string_bytes c.args.words.now in
    let k = (goal.at.returns-in-Some-clause-none c).In-Some in
    IfErr-weaker c.read.result _ _ (λ error h is. refused_asks words (not_taken words _ (asks k) (h is))) c.read.ensures.usage

pub returns-in-Some-clause-limits : goal.returns-in-Some-clause-limits
returns-in-Some-clause-limits c =
    let words = map string_bytes c.args.words.now in
    let k = (goal.at.returns-in-Some-clause-limits c).In-Some in
    IfOk-weaker c.read.result _ _
    (λ ask h. is_within words _ (taken_asks words (are_taken words (asked_of_ask ask) (parsed k) (sym (asks k) ∙ h.0) h.1) ∙ (sym (asks k) ∙ h.0)))
    c.read.ensures.ok

pub returns-clause-usage : goal.returns-clause-usage
returns-clause-usage c = λ _ taken.
    let words = map string_bytes c.args.words.now in
    let line = c.in_ok-command.ensures in
    let no_memory_left : kind_of c.in-Err.error ≡ OutOfMemory → ⊥ = search rules in
    elim (subst (λ (kinds : Kinds). HasKind kinds c.in-Err.error) (ap (λ (a : App). fault_of a words) line ∙ taken.0)
    (c.in-Err.ensures.kinds (ap is_simple_and_free line))) [
      | inl memory ↦ no_memory_left memory
      | inr among ↦ among
    ]

pub returns-clause-none : goal.returns-clause-none
returns-clause-none c = λ usage. refused_asks (map string_bytes c.args.words.now) (returns-clause-usage c usage)
