-- A parse goes from the name of a command to the words behind it, and from word to word there.
use Rattle.std.proofs.Common.{◌≡◌, ◌∙◌, ap, ap₂, refl, sym, ℕ, false, List, [], ◌∷◌, ◌++◌, Some, None, is_some, append-nil, fold}
use Rattle.clap.specs.Kinds.{Kinds, or_else}
use Rattle.clap.specs.Simple.{App, Shape, built, entered, names_of}
use Rattle.clap.specs.Walk.{Held, Text, Walk, arg_by_index, finished, idle, nothing_held, option, plain_word, settled, to_positional, value}
use Rattle.clap.specs.Walk.{after_step, walk, walk_from, walked}
use Rattle.clap.specs.Faults.{check_fault, defaults_fault, entered_fault, level_fault, settle_fault, step_fault, turn_fault, walk_fault}
use Rattle.clap.specs.Words.{fault_of}
use Rattle.clap.specs.declared.error.kind.ErrorKind.{ErrorKind}
use Rattle.clap.proofs.WalkLemmas.{walk_stopped}
use Rattle.fsmd_words.proofs.Plain.{no_hyphens, no_long, no_short}
use Rattle.fsmd_command_line.specs.CommandLine.{command_line}
use Rattle.fsmd_words.specs.Examples.{IsPlainWord}

-- ---- the name of a command

abbrev pub line : App
line = built command_line

-- behind the command's name the words are left to it
abbrev pub stopped_at : Text → List Text → Walk
stopped_at name words = record (walk_from nothing_held) { stopped = Some (name, words) }

-- the word names a command
pub record NamesCommand (name : Text) : Type 0 where
  pub walks : walked line.top.rules (names_of line) (walk_from nothing_held) name ≡ stopped_at name []
  pub passes : turn_fault line.top (names_of line) (walk_from nothing_held) name ≡ []

pub line_walk : (name : Text) → NamesCommand name → (words : List Text)
    → walk line.top.rules (names_of line) nothing_held (name ∷ words) ≡ stopped_at name words
line_walk name is words =
    ap (λ (w : Walk). fold (walked line.top.rules (names_of line)) w words) is.walks
    ∙ sym (walk_stopped line.top.rules (names_of line) (walk_from nothing_held) name [] words)

stopped_fault : (w : Walk) (name : Text) (seen words : List Text) → walk_fault line.top (names_of line) (record w { stopped = Some (name, seen) }) words ≡ []
unfolding walk_fault walked
stopped_fault w name seen [] = refl
stopped_fault w name seen (x ∷ xs) = stopped_fault w name (seen ++ x ∷ []) xs

pub line_walk_fault : (name : Text) → NamesCommand name → (words : List Text)
    → walk_fault line.top (names_of line) (walk_from nothing_held) (name ∷ words) ≡ []
unfolding walk_fault
line_walk_fault name is words =
    ap₂ or_else is.passes
    (ap (λ (w : Walk). walk_fault line.top (names_of line) w words) is.walks ∙ stopped_fault (walk_from nothing_held) name [] words)

-- the parse of all words, by where its walk stopped
abbrev pub line_fault : List Text → Walk → Kinds
line_fault words w =
    or_else (walk_fault line.top (names_of line) (walk_from nothing_held) words)
    (or_else (entered_fault line w.stopped) (or_else (settle_fault line.top.rules false w.held)
    (or_else (defaults_fault (settled line.top.rules w.held).rows line.top.rules)
    (check_fault line.top (finished line.top.rules w.held) (is_some (entered line w.stopped))))))

-- of two lists of kinds one after the other, the second comes where the first is empty
fails_second : (a b c : Kinds) (k : ErrorKind) → a ≡ [] → b ≡ k ∷ [] → or_else a (or_else b c) ≡ k ∷ []
fails_second a b c k e f = rw (e, f) refl

-- words fail as those behind the command's name do
pub line_fails : (name : Text) → NamesCommand name → (words : List Text) (k : ErrorKind) → entered_fault line (Some (name, words)) ≡ k ∷ []
    → fault_of command_line (name ∷ words) ≡ k ∷ []
line_fails name is words k e =
    ap (line_fault (name ∷ words)) (line_walk name is words)
    ∙ fails_second (walk_fault line.top (names_of line) (walk_from nothing_held) (name ∷ words)) (entered_fault line (Some (name, words))) _ k
    (line_walk_fault name is words) e

-- ---- the words behind it

-- a walk goes over the words, none of which fails, to this end
pub record Passes (s : Shape) (w : Walk) (words : List Text) (end : Walk) : Type 0 where
  pub none : (rest : List Text) → walk_fault s [] w (words ++ rest) ≡ walk_fault s [] end rest
  pub ends : fold (walked s.rules []) w words ≡ end

pub passes_none : (s : Shape) (w : Walk) → Passes s w [] w
passes_none s w = record { none = λ rest. refl; ends = refl }

pub passes_one : (s : Shape) (w : Walk) (word : Text) (more : List Text) (next end : Walk) → turn_fault s [] w word ≡ [] → walked s.rules [] w word ≡ next
    → Passes s next more end → Passes s w (word ∷ more) end
unfolding walk_fault
passes_one s w word more next end t e p = record {
  none = λ rest. ap₂ or_else t (ap (λ (v : Walk). walk_fault s [] v (more ++ rest)) e ∙ p.none rest);
  ends = ap (λ (v : Walk). fold (walked s.rules []) v more) e ∙ p.ends;
}

no_word : (s : Shape) (w : Walk) → walk_fault s [] w [] ≡ []
unfolding walk_fault
no_word s w = refl

-- where the last option fails with its values, the command does
pub level_fails : (s : Shape) (words : List Text) (end : Walk) (k : ErrorKind) → Passes s (walk_from nothing_held) words end
    → settle_fault s.rules s.args_override_self end.held ≡ k ∷ [] → level_fault s [] nothing_held words false [] ≡ k ∷ []
level_fails s words end k p e =
    fails_second (walk_fault s [] (walk_from nothing_held) words) (settle_fault s.rules s.args_override_self (walk s.rules [] nothing_held words).held) _ k
    (ap (walk_fault s [] (walk_from nothing_held)) (sym (append-nil words)) ∙ p.none [] ∙ no_word s end)
    (ap (λ (w : Walk). settle_fault s.rules s.args_override_self w.held) p.ends ∙ e)

fails_first : (a b : Kinds) (k : ErrorKind) → a ≡ k ∷ [] → or_else a b ≡ k ∷ []
fails_first a b k e = rw e refl

last_fails : (s : Shape) (w : Walk) (word : Text) (k : ErrorKind) → turn_fault s [] w word ≡ k ∷ [] → walk_fault s [] w (word ∷ []) ≡ k ∷ []
unfolding walk_fault
last_fails s w word k e = fails_first (turn_fault s [] w word) (walk_fault s [] (walked s.rules [] w word) []) k e

-- where the last word fails, the command does
pub level_fails_at : (s : Shape) (words : List Text) (end : Walk) (word : Text) (k : ErrorKind) → Passes s (walk_from nothing_held) words end
    → turn_fault s [] end word ≡ k ∷ [] → level_fault s [] nothing_held (words ++ word ∷ []) false [] ≡ k ∷ []
level_fails_at s words end word k p e =
    fails_first (walk_fault s [] (walk_from nothing_held) (words ++ word ∷ [])) _ k (p.none (word ∷ []) ∙ last_fails s end word k e)

-- ---- words that begin with no hyphen

-- nothing waits for a value
abbrev pub idle_at : Held → ℕ → Walk
idle_at h p = record { held = h; waiting = idle; position = p; is_trailing = false; stopped = None }

-- an option waits for its value
abbrev pub option_at : Text → Held → ℕ → Walk
option_at id h p = record { held = h; waiting = option id; position = p; is_trailing = false; stopped = None }

pub plain_turn : (s : Shape) (h : Held) (p : ℕ) (word : Text) → IsPlainWord word → turn_fault s [] (idle_at h p) word ≡ step_fault s p h value
plain_turn s h p word q = rw (no_hyphens word q, no_long word q, no_short word q) refl

pub plain_step : (s : Shape) (h : Held) (p : ℕ) (word : Text) → IsPlainWord word
    → walked s.rules [] (idle_at h p) word ≡ to_positional s.rules (arg_by_index s.rules p) word (idle_at h p) h
unfolding walked
plain_step s h p word q = rw (no_hyphens word q, no_long word q, no_short word q) refl

pub plain_value_turn : (s : Shape) (id : Text) (h : Held) (p : ℕ) (word : Text) → IsPlainWord word → turn_fault s [] (option_at id h p) word ≡ []
plain_value_turn s id h p word q = rw (no_hyphens word q, no_long word q, no_short word q) refl

pub plain_value_step : (s : Shape) (id : Text) (h : Held) (p : ℕ) (word : Text) → IsPlainWord word
    → walked s.rules [] (option_at id h p) word
    ≡ after_step s.rules word (option_at id h p) (plain_word s.rules (option id) word h).0 (plain_word s.rules (option id) word h).1
unfolding walked
plain_value_step s id h p word q = rw (no_hyphens word q, no_long word q, no_short word q) refl
