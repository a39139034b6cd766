-- Which files were loaded, one after another.
use Rattle.std.proofs.Common.{◌≡◌, ◌≤◌, ◌+◌, ◌++◌, ◌∙◌, ℕ, zero, suc, List, [], ◌∷◌, Option, Some, None, refl, sym, ap, subst, length, arith}
use Rattle.std.proofs.lemmas.List.{append-nil, append_assoc}
use Rattle.fsmd_words.specs.AskedWords.{Asked}
use Rattle.fs_base.specs.Outside.{FilesTold, AreLoaded}
use Rattle.fsmd_replies.specs.declared.answer.Operand.{Operand}
use Rattle.fsmd_replies.specs.AskedFiles.{operand, files_of, file_word_of}
use Rattle.fsmd_tool.specs.Calls.{call, file_words, LoadsFrom, LoadsAtMost, LoadsNamed}

-- ---- names

none_loaded : (a : Option (List (List ℕ))) → AreLoaded [] a a
none_loaded None = tt
none_loaded (Some names) = sym (append-nil names)

both_loaded : (xs ys : List (List ℕ)) (a b c : Option (List (List ℕ))) → AreLoaded xs a b → AreLoaded ys b c → AreLoaded (xs ++ ys) a c
both_loaded xs ys a b None h k = tt
both_loaded xs ys a None (Some c) h k = absurd k
both_loaded xs ys None (Some b) (Some c) h k = absurd h
both_loaded xs ys (Some a) (Some b) (Some c) h k = k ∙ ap (λ names. names ++ ys) h ∙ append_assoc a xs ys

words_on : (o : Option Asked) (n i k m j : ℕ) → i ≡ n + k → j ≡ k + m → file_words o n j ≡ file_words o n k ++ file_words o i m
words_on o n i zero m j e f =
    let start : n ≡ i = omega (arith, e) in
    let all : j ≡ m = omega (arith, f) in
    ap (file_words o n) all ∙ ap (λ a. file_words o a m) start
words_on o n i (suc k) m zero e f = absurd (omega (arith, f))
words_on o n i (suc k) m (suc j) e f =
    let start : i ≡ n + 1 + k = omega (arith, e) in
    let all : j ≡ k + m = omega (arith, f) in
    ap (λ ws. file_word_of o (operand n) ∷ ws) (words_on o (n + 1) i k m j start all)

-- ---- files

-- no file was loaded
pub loads_none : (o : Option Asked) (n : ℕ) (t : FilesTold) → LoadsFrom o n 0 t t
loads_none o n t = record { loaded = none_loaded t.loaded }

-- a file was loaded by the word for it
pub loads_one : (o : Option Asked) (file : Operand) (word : List ℕ) (old new : FilesTold) → word ≡ file_word_of o file
    → AreLoaded (word ∷ []) old.loaded new.loaded → LoadsFrom o file.0 1 old new
loads_one o file word old new e h = record { loaded = subst (λ w. AreLoaded (w ∷ []) old.loaded new.loaded) e h }

-- files were loaded, and then those behind them
pub loads_on : (o : Option Asked) (n k m i j : ℕ) (old mid new : FilesTold) → i ≡ n + k → j ≡ k + m → LoadsFrom o n k old mid → LoadsFrom o i m mid new
    → LoadsFrom o n j old new
loads_on o n k m i j old mid new e f h l =
    let all = both_loaded (file_words o n k) (file_words o i m) old.loaded mid.loaded new.loaded h.loaded l.loaded in
    record { loaded = subst (λ ws. AreLoaded ws old.loaded new.loaded) (sym (words_on o n i k m j e f)) all }

-- no file was loaded from then on
pub loads_until : (o : Option Asked) (n k : ℕ) (old mid new : FilesTold) → new.loaded ≡ mid.loaded → LoadsFrom o n k old mid → LoadsFrom o n k old new
loads_until o n k old mid new e h = record { loaded = subst (AreLoaded (file_words o n k) old.loaded) (sym e) h.loaded }

-- ---- at most so many files

pub at_most : (o : Option Asked) (n k most : ℕ) (old new : FilesTold) → k ≤ most → LoadsFrom o n k old new → LoadsAtMost o n most old new
at_most o n k most old new e h = record { count = k; within = e; loads = h }

pub at_most_none : (o : Option Asked) (n most : ℕ) (t : FilesTold) → LoadsAtMost o n most t t
at_most_none o n most t = at_most o n 0 most t t (omega arith) (loads_none o n t)

pub fewer : (o : Option Asked) (n m most : ℕ) (old new : FilesTold) → m ≤ most → LoadsAtMost o n m old new → LoadsAtMost o n most old new
fewer o n m most old new e h = record { count = h.count; within = omega (arith, e, h.within); loads = h.loads }

pub at_most_on : (o : Option Asked) (n k m i j : ℕ) (old mid new : FilesTold) → i ≡ n + k → j ≡ k + m → LoadsFrom o n k old mid → LoadsAtMost o i m mid new
    → LoadsAtMost o n j old new
at_most_on o n k m i j old mid new e f h l = record {
  count = k + l.count;
  within = omega (arith, f, l.within);
  loads = loads_on o n k l.count i (k + l.count) old mid new e refl h l.loads;
}

pub at_most_until : (o : Option Asked) (n most : ℕ) (old mid new : FilesTold) → new.loaded ≡ mid.loaded → LoadsAtMost o n most old mid
    → LoadsAtMost o n most old new
at_most_until o n most old mid new e h = record { count = h.count; within = h.within; loads = loads_until o n h.count old mid new e h.loads }

-- of the files of a command
pub loads_named : (o w : Option Asked) (k : ℕ) (old new : FilesTold) → o ≡ w → k ≤ length (files_of w) → LoadsAtMost o 0 k old new
    → LoadsNamed (call o old new)
loads_named o w k old new e within h = fewer o 0 k (length (files_of o)) old new (subst (λ v. k ≤ length (files_of v)) (sym e) within) h
