-- What the program does with its words.
use Rattle.std.proofs.Common.{◌≡◌, ℕ, List, [], ◌∷◌, Result, Ok, Err, String, refl, sym, ap, subst, map, drop, string_bytes}
use Rattle.std.specs.Prelude.{◌⊎◌, IfOk, IfErr}
use Rattle.fsmd_words.specs.AskedWords.{asked_of}
use Rattle.fs_base.specs.Outside.{FilesTold}
use Rattle.fsmd_replies.specs.declared.answer.Status.{Status}
use Rattle.fsmd_replies.specs.declared.answer.Status.TheVariants.{NoMemory, Fault}
use Rattle.fsmd_tool.specs.Asking.{asked_by_words}
use Rattle.fsmd_tool.specs.Calls.{call}
use Rattle.fsmd_tool.specs.SinkReplies.{Put, put_between}
use Rattle.fsmd_tool.specs.Running.{IsDriven, system_files, system_output, EndsSo, WithWords, WithoutWords}

-- what is said of a value, where the result is this value
pub if_ok : {A E : Type 0} (r : Result A E) (x : A) (P : A → Type 0) → r ≡ Ok x → P x → IfOk r P
if_ok r x P e p = subst (λ s. IfOk s P) (sym e) p

pub if_err : {A E : Type 0} (r : Result A E) (x : E) (P : E → Type 0) → r ≡ Err x → P x → IfErr r P
if_err r x P e p = subst (λ s. IfErr s P) (sym e) p

-- a call by the words behind the first is so driven
pub by_words : {A : Type 0} (all words : List (String A)) (before now : FilesTold) (p : Put) → words ≡ drop 1 all
    → IsDriven (call (asked_by_words words) before now) p
    → IsDriven (call (asked_by_words (drop 1 all)) before now) p
by_words all words before now p e d = subst (λ ws. IsDriven (call (asked_by_words ws) before now) p) e d

-- the words behind the first, as bytes
words_behind : {A : Type 0} (all : List (String A)) → map string_bytes (drop 1 all) ≡ drop 1 (map string_bytes all)
words_behind [] = refl
words_behind (first ∷ rest) = refl

-- the program ends as it is driven over the system, or there were no words
pub ends_so : {T E A : Type 0} (items : T → List (String A)) (r : Result T E) (n m x y : ℕ) (s : Status) → n ≡ 0 → x ≡ 0
    → IfOk r (λ all. IsDriven (call (asked_by_words (drop 1 (items all))) (system_files n) (system_files m))
    (put_between s (system_output x) (system_output y)))
    → IfErr r (λ e. (s ≡ NoMemory) ⊎ (s ≡ Fault)) → EndsSo s
ends_so items (Ok all) n m x y s none no_failure driven without =
    WithWords (map string_bytes (items all)) (call (asked_by_words (drop 1 (items all))) (system_files n) (system_files m))
    (put_between s (system_output x) (system_output y)) (ap asked_of (words_behind (items all))) refl
    (record {
      failures = m;
      output_failures = y;
      before = ap system_files none;
      now = refl;
      put = ap (λ k. put_between s (system_output k) (system_output y)) no_failure;
    }) driven
ends_so items (Err e) n m x y s none no_failure driven without = WithoutWords without
