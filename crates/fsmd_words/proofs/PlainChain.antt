-- Words that begin with no hyphen are the files of a chain.
use Rattle.std.proofs.Common.{◌≡◌, ◌∙◌, ◌≤◌, ◌%◌, All, ap, ap₂, sym, refl, ℕ, Bool, true, false, List, [], ◌∷◌, ◌++◌, length, Some, is_some, arith, append-nil}
use Rattle.std.proofs.Common.{append_assoc, codes, eq-eqb, fold, le-ltb, ne_eqb}
use Rattle.std.specs.Prelude.{◌==◌}
use Rattle.std.proofs.lemmas.List.Elements.{All-head, All-tail}
use Rattle.clap.specs.Kinds.{Kinds, or_else, range_kinds, values_kinds}
use Rattle.clap.specs.Simple.{entered}
use Rattle.clap.specs.Walk.{Held, Text, Walk, finished, nothing_held, settled, walked}
use Rattle.clap.specs.Faults.{check_fault, defaults_fault, level_fault, settle_fault, turn_fault, walk_fault}
use Rattle.clap.specs.declared.builder.value_parser.ValueParser.TheVariants as parsers
use Rattle.fsmd_words.proofs.Chained.{between, chain_built, chain_rules, held_files, positional_adds_file}
use Rattle.fsmd_words.proofs.CommandWalks.{NamesCommand, line, line_fault, line_walk, line_walk_fault}
use Rattle.fsmd_words.proofs.Named.{parsed_asks}
use Rattle.fsmd_words.proofs.Plain.{no_hyphens, no_long, no_short}
use Rattle.fsmd_words.specs.Examples.{Asks, IsPlainWord}
use Rattle.fsmd_words.specs.AskedWords.{AreParsed, Chain, IsChainLength, asked_in, chain_of_rows, matched_of}

-- ---- the words behind the command's name

plain_fault : (word : Text) → IsPlainWord word → (done : List Text) (waits : Bool) → turn_fault chain_built [] (between done waits false) word ≡ []
plain_fault word p [] false = rw (no_hyphens word p, no_long word p, no_short word p) refl
plain_fault word p [] true = rw (no_hyphens word p, no_long word p, no_short word p) refl
plain_fault word p (v ∷ vs) false = rw (no_hyphens word p, no_long word p, no_short word p) refl
plain_fault word p (v ∷ vs) true = rw (no_hyphens word p, no_long word p, no_short word p) refl

plain_step : (word : Text) → IsPlainWord word → (done : List Text) (waits : Bool)
    → walked chain_rules [] (between done waits false) word ≡ between (done ++ word ∷ []) true false
unfolding walked
plain_step word p done false = rw (no_hyphens word p, no_long word p, no_short word p) (positional_adds_file done false false word)
plain_step word p done true = rw (no_hyphens word p, no_long word p, no_short word p) (positional_adds_file done true false word)

plain_walk : (ws : List Text) → All IsPlainWord ws → (done : List Text) (waits : Bool)
    → (fold (walked chain_rules []) (between done waits false) ws).held ≡ held_files (done ++ ws)
plain_walk [] p done waits = ap held_files (sym (append-nil done))
plain_walk (w ∷ ws) p done waits =
    ap (λ (v : Walk). (fold (walked chain_rules []) v ws).held) (plain_step w (All-head IsPlainWord w ws p) done waits)
    ∙ plain_walk ws (All-tail IsPlainWord w ws p) (done ++ w ∷ []) true ∙ ap held_files (append_assoc done (w ∷ []) ws)

plain_walk_fault : (ws : List Text) → All IsPlainWord ws → (done : List Text) (waits : Bool) → walk_fault chain_built [] (between done waits false) ws ≡ []
unfolding walk_fault
plain_walk_fault [] p done waits = refl
plain_walk_fault (w ∷ ws) p done waits =
    ap₂ or_else (plain_fault w (All-head IsPlainWord w ws p) done waits)
    (ap (λ (v : Walk). walk_fault chain_built [] v ws) (plain_step w (All-head IsPlainWord w ws p) done waits)
    ∙ plain_walk_fault ws (All-tail IsPlainWord w ws p) (done ++ w ∷ []) true)

in_range : (n : ℕ) → 3 ≤ n → n ≤ 129 → range_kinds 3 129 n ≡ []
in_range n low high =
    let some : (n == 0) ≡ false = ne_eqb n 0 (λ e. omega arith) in
    rw (some, le-ltb n 3 low, le-ltb 129 n high) refl

texts_pass : (vs : List Text) → values_kinds false parsers.String vs ≡ []
texts_pass [] = refl
texts_pass (v ∷ vs) = texts_pass vs

-- what is left of the parse, by what is held behind the words
abbrev at_end : Held → Kinds
at_end h = or_else (settle_fault chain_rules false h)
    (or_else (defaults_fault (settled chain_rules h).rows chain_rules) (check_fault chain_built (finished chain_rules h) false))

none_left : (v : Text) (vs : List Text)
    → or_else (defaults_fault (settled chain_rules (held_files (v ∷ vs))).rows chain_rules)
    (check_fault chain_built (finished chain_rules (held_files (v ∷ vs))) false) ≡ []
unfolding defaults_fault
none_left v vs = refl

end_passes : (files : List Text) → 3 ≤ length files → length files ≤ 129 → at_end (held_files files) ≡ []
end_passes [] low high = absurd (omega arith)
end_passes (v ∷ vs) low high = ap₂ or_else (ap₂ or_else (in_range (length (v ∷ vs)) low high) (texts_pass (v ∷ vs))) (none_left v vs)

level_passes : (files : List Text) → All IsPlainWord files → 3 ≤ length files → length files ≤ 129 → level_fault chain_built [] nothing_held files false [] ≡ []
level_passes files p low high =
    ap₂ or_else (plain_walk_fault files p [] false) (ap at_end (plain_walk files p [] false) ∙ end_passes files low high)

-- ---- all words

is_chain : NamesCommand (codes "chain")
unfolding walked
is_chain = record { walks = refl; passes = refl }

none_above : (files : List Text)
    → or_else (defaults_fault (settled line.top.rules nothing_held).rows line.top.rules)
    (check_fault line.top (finished line.top.rules nothing_held) (is_some (entered line (Some (codes "chain", files))))) ≡ []
unfolding defaults_fault
none_above files = refl

is_parsed : (files : List Text) → All IsPlainWord files → 3 ≤ length files → length files ≤ 129 → AreParsed (codes "chain" ∷ files)
is_parsed files p low high =
    ap (line_fault (codes "chain" ∷ files)) (line_walk (codes "chain") is_chain files)
    ∙ ap₂ or_else (line_walk_fault (codes "chain") is_chain files) (ap₂ or_else (level_passes files p low high) (none_above files))

rows_hold : (files : List Text) → 3 ≤ length files → chain_of_rows (finished chain_rules (held_files files)) ≡ Chain files
rows_hold [] low = absurd (omega arith)
rows_hold (v ∷ vs) low = refl

is_matched : (files : List Text) → All IsPlainWord files → 3 ≤ length files → matched_of (codes "chain" ∷ files) ≡ Some (Chain files)
is_matched files p low =
    ap (λ (w : Walk). asked_in (entered line w.stopped)) (line_walk (codes "chain") is_chain files)
    ∙ ap (λ (h : Held). Some (chain_of_rows (finished chain_rules h))) (plain_walk files p [] false) ∙ ap (λ what. Some what) (rows_hold files low)

pub plain_chain : (files : List Text) → All IsPlainWord files → IsChainLength files → Asks (codes "chain" ∷ files) (Chain files)
plain_chain files p count =
    parsed_asks (codes "chain" ∷ files) (Chain files) (is_parsed files p count.0 count.1) (is_matched files p count.0)
    (eq-eqb (length files % 2) 1 count.2)
