-- Lines are in no text, and no part changes but for them.
use Rattle.std.proofs.Common.{◌≡◌, ℕ, ◌+◌, true, ◌&&◌, List, [], ◌∷◌, ◌++◌, length, map, Result, Ok, codes, refl, sym, ◌∙◌, ap, ap₂, ◌||◌, cond}
use Rattle.std.specs.List.{flat_map, list_all, list_any}
use Rattle.fs_model.specs.Source.{Declaration, SourceTransition, SourceState, Source}
use Rattle.fs_model.specs.WellFormed.{is_well_formed_transition, is_well_formed_state, is_well_formed_declaration, is_well_formed}
use Rattle.fs_model.specs.Words.{is_name}
use Rattle.fs_grammar.specs.declared.fault.TextFault.{TextFault}
use Rattle.fs_grammar.specs.Grammar.{at_start, reading}
use Rattle.fs_grammar.specs.declared.format.Format.TheVariants.{One, Two}
use Rattle.fs_lex.specs.Scan.{tokens_of}
use Rattle.fs_write.specs.Canonical.{line_text, state_text, declaration_text, head_text, canonical}
use Rattle.fs_write.specs.NeededFormats.{declares_ports, emits_in_transition, emits_in_state, has_ports, format_for}
use Rattle.fs_write.specs.CanonicalLines.{declarations_from, lines_from, states_from, with_canonical_lines, declaration_at_line_0, transition_at_line_0}
use Rattle.fs_write.specs.CanonicalLines.{state_at_line_0, without_lines}
use Rattle.fs_write.specs.Spellable.{is_spellable_transition, is_spellable_state, is_spellable_declaration, is_spellable}
use Rattle.fs_write.proofs.WholeTexts.{reads_back}

same_lines : (n : ℕ) (ls : List SourceTransition) → flat_map line_text (lines_from n ls) ≡ flat_map line_text ls
same_lines n [] = refl
same_lines n (l ∷ ls) = ap (λ (rest : List ℕ). line_text l ++ rest) (same_lines (n + 1) ls)

same_states : (n : ℕ) (ss : List SourceState) → flat_map state_text (states_from n ss) ≡ flat_map state_text ss
same_states n [] = refl
same_states n (s ∷ ss) = ap₂ (λ (lines rest : List ℕ). (codes "state " ++ (s.name ++ (codes ":\n" ++ lines))) ++ rest) (same_lines (n + 1) s.transitions)
    (same_states (n + 1 + length s.transitions) ss)

same_declarations : (n : ℕ) (ds : List Declaration) → flat_map declaration_text (declarations_from n ds) ≡ flat_map declaration_text ds
same_declarations n [] = refl
same_declarations n (d ∷ ds) = ap (λ (rest : List ℕ). declaration_text d ++ rest) (same_declarations (n + 1) ds)

lines_emit : (n : ℕ) (ls : List SourceTransition) → list_any emits_in_transition (lines_from n ls) ≡ list_any emits_in_transition ls
lines_emit n [] = refl
lines_emit n (l ∷ ls) = ap (λ b. emits_in_transition l || b) (lines_emit (n + 1) ls)

states_emit : (n : ℕ) (ss : List SourceState) → list_any emits_in_state (states_from n ss) ≡ list_any emits_in_state ss
states_emit n [] = refl
states_emit n (s ∷ ss) = ap₂ (λ a b. a || b) (lines_emit (n + 1) s.transitions) (states_emit (n + 1 + length s.transitions) ss)

ports_declared : (n : ℕ) (ds : List Declaration) → list_any declares_ports (declarations_from n ds) ≡ list_any declares_ports ds
ports_declared n [] = refl
ports_declared n (d ∷ ds) = ap (λ b. declares_ports d || b) (ports_declared (n + 1) ds)

same_ports : (s : Source) → has_ports (with_canonical_lines s) ≡ has_ports s
same_ports s = ap₂ (λ a b. a || b) (ports_declared 2 s.declarations) (states_emit (2 + length s.declarations + 1) s.states)

pub same_text : (s : Source) → canonical (with_canonical_lines s) ≡ canonical s
same_text s =
    ap
    (λ b. head_text (cond b Two One)
    ++ (flat_map declaration_text (declarations_from 2 s.declarations)
    ++ (codes "reset " ++ (s.reset ++ (codes ";\n" ++ flat_map state_text (states_from (2 + length s.declarations + 1) s.states)))))) (same_ports s)
    ∙ ap₂ (λ (ds ss : List ℕ). head_text (format_for s) ++ (ds ++ (codes "reset " ++ (s.reset ++ (codes ";\n" ++ ss)))))
    (same_declarations 2 s.declarations) (same_states (2 + length s.declarations + 1) s.states)

lines_form : (n : ℕ) (ls : List SourceTransition) → list_all is_well_formed_transition (lines_from n ls) ≡ list_all is_well_formed_transition ls
lines_form n [] = refl
lines_form n (l ∷ ls) = ap (λ b. is_well_formed_transition l && b) (lines_form (n + 1) ls)

states_form : (n : ℕ) (ss : List SourceState) → list_all is_well_formed_state (states_from n ss) ≡ list_all is_well_formed_state ss
states_form n [] = refl
states_form n (s ∷ ss) = ap₂ (λ a b. a && b) (lines_form (n + 1) s.transitions) (states_form (n + 1 + length s.transitions) ss)

declarations_form : (n : ℕ) (ds : List Declaration) → list_all is_well_formed_declaration (declarations_from n ds) ≡ list_all is_well_formed_declaration ds
declarations_form n [] = refl
declarations_form n (d ∷ ds) = ap (λ b. is_well_formed_declaration d && b) (declarations_form (n + 1) ds)

pub same_form : (s : Source) → is_well_formed (with_canonical_lines s) ≡ is_well_formed s
same_form s = ap₂ (λ a b. a && b) (declarations_form 2 s.declarations) (states_form (2 + length s.declarations + 1) s.states)

lines_words : (n : ℕ) (ls : List SourceTransition) → list_all is_spellable_transition (lines_from n ls) ≡ list_all is_spellable_transition ls
lines_words n [] = refl
lines_words n (l ∷ ls) = ap (λ b. is_spellable_transition l && b) (lines_words (n + 1) ls)

states_words : (n : ℕ) (ss : List SourceState) → list_all is_spellable_state (states_from n ss) ≡ list_all is_spellable_state ss
states_words n [] = refl
states_words n (s ∷ ss) = ap₂ (λ a b. (is_name s.name && a) && b) (lines_words (n + 1) s.transitions) (states_words (n + 1 + length s.transitions) ss)

declarations_words : (n : ℕ) (ds : List Declaration) → list_all is_spellable_declaration (declarations_from n ds) ≡ list_all is_spellable_declaration ds
declarations_words n [] = refl
declarations_words n (d ∷ ds) = ap (λ b. is_spellable_declaration d && b) (declarations_words (n + 1) ds)

pub same_words : (s : Source) → is_spellable (with_canonical_lines s) ≡ is_spellable s
same_words s = ap₂ (λ a b. a && (is_name s.reset && b)) (declarations_words 2 s.declarations) (states_words (2 + length s.declarations + 1) s.states)

lines_kept : (n : ℕ) (ls : List SourceTransition) → map transition_at_line_0 (lines_from n ls) ≡ map transition_at_line_0 ls
lines_kept n [] = refl
lines_kept n (l ∷ ls) = ap (λ (rest : List SourceTransition). transition_at_line_0 l ∷ rest) (lines_kept (n + 1) ls)

states_kept : (n : ℕ) (ss : List SourceState) → map state_at_line_0 (states_from n ss) ≡ map state_at_line_0 ss
states_kept n [] = refl
states_kept n (s ∷ ss) = ap₂ (λ (ls : List SourceTransition) (rest : List SourceState). record { line = 0; name = s.name; transitions = ls } ∷ rest)
    (lines_kept (n + 1) s.transitions) (states_kept (n + 1 + length s.transitions) ss)

declarations_kept : (n : ℕ) (ds : List Declaration) → map declaration_at_line_0 (declarations_from n ds) ≡ map declaration_at_line_0 ds
declarations_kept n [] = refl
declarations_kept n (d ∷ ds) = ap (λ (rest : List Declaration). declaration_at_line_0 d ∷ rest) (declarations_kept (n + 1) ds)

pub only_lines : (s : Source) → without_lines (with_canonical_lines s) ≡ without_lines s
only_lines s =
    ap₂ (λ (ds : List Declaration) (ss : List SourceState). record { declarations = ds; reset_line = 0; reset = s.reset; states = ss })
    (declarations_kept 2 s.declarations) (states_kept (2 + length s.declarations + 1) s.states)

pub one_meaning : (s t : Source) → is_well_formed s ≡ true → is_spellable s ≡ true → is_well_formed t ≡ true → is_spellable t ≡ true → canonical s ≡ canonical t
    → without_lines s ≡ without_lines t
one_meaning s t a b c d e =
    let left : Result Source TextFault = Ok (with_canonical_lines s) in
    let right : Result Source TextFault = Ok (with_canonical_lines t) in
    let read : left ≡ right = sym (reads_back s a b) ∙ ap (λ (bytes : List ℕ). reading (tokens_of bytes) at_start) e ∙ reads_back t c d in
    let same : with_canonical_lines s ≡ with_canonical_lines t = cc in
    sym (only_lines s) ∙ ap without_lines same ∙ only_lines t
