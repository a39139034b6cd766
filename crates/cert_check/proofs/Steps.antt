-- Obligations one after another, and lists of them along a loop.
use Rattle.std.proofs.Common.{◌≡◌, ℕ, zero, suc, ◌+◌, ◌<◌, Bool, true, false, cond, List, [], ◌∷◌, ◌++◌, map, length, ap, sym, ◌∙◌, arith, refl}
use Rattle.std.specs.Prelude.{Some, None}
use Rattle.std.specs.List.{slice_index_or, list_all, position_from}
use Rattle.std.specs.Str.{bytes_eq}
use Rattle.fs_model.proofs.Booleans.{and_first, and_second}
use Rattle.fs_model.specs.declared.parts.VarInfo.{VarInfo}
use Rattle.fs_model.specs.Runs.{is_output}
use Rattle.fs_pair.specs.PairedOutputs.{OutputPair, output_pairs}
use Rattle.nf_terms.specs.Computed.{Done, Wide, Large}
use Rattle.cert_model.specs.Obligations.{Judged, Verdict, verdict_from, verdict_by}
use Rattle.cert_check.specs.Progress.{Progress, Held, Stopped, advance, progress_from, verdict_of}

by_advance : (k : ℕ) (r : Judged) (xs ys : List Judged) (j : ℕ) → advance k r (progress_from (k + 1) xs) ≡ Held j
    → (progress_from (k + 1) xs ≡ Held j → progress_from (k + 1) (xs ++ ys) ≡ progress_from j ys)
    → advance k r (progress_from (k + 1) (xs ++ ys)) ≡ progress_from j ys
by_advance k (Done None) xs ys j e next = next e
by_advance k (Done (Some x)) xs ys j e next = absurd (cc e)
by_advance k (Wide l r) xs ys j e next = absurd (cc e)
by_advance k (Large l r) xs ys j e next = absurd (cc e)

-- the first ones hold
some_held : (k : ℕ) (xs ys : List Judged) (j : ℕ) → progress_from k xs ≡ Held j → progress_from k (xs ++ ys) ≡ progress_from j ys
some_held k [] ys j e = let s : k ≡ j = cc e in ap (λ n. progress_from n ys) s
some_held k (r ∷ xs) ys j e = by_advance k r xs ys j e (λ f. some_held (k + 1) xs ys j f)

by_stop : (k : ℕ) (r : Judged) (xs ys : List Judged) (v : Verdict) → advance k r (progress_from (k + 1) xs) ≡ Stopped v
    → (progress_from (k + 1) xs ≡ Stopped v → progress_from (k + 1) (xs ++ ys) ≡ Stopped v)
    → advance k r (progress_from (k + 1) (xs ++ ys)) ≡ Stopped v
by_stop k (Done None) xs ys v e next = next e
by_stop k (Done (Some x)) xs ys v e next = e
by_stop k (Wide l r) xs ys v e next = e
by_stop k (Large l r) xs ys v e next = e

-- one of the first ones stops
some_stop : (k : ℕ) (xs ys : List Judged) (v : Verdict) → progress_from k xs ≡ Stopped v → progress_from k (xs ++ ys) ≡ Stopped v
some_stop k [] ys v e = absurd (cc e)
some_stop k (r ∷ xs) ys v e = by_stop k r xs ys v e (λ f. some_stop (k + 1) xs ys v f)

-- those that are left after some that hold
pub left_held : (k j : ℕ) (xs rs all whole : List Judged) (first : ℕ) (p : Progress) → all ≡ xs ++ rs → p ≡ Held j → p ≡ progress_from k xs
    → progress_from k all ≡ progress_from first whole → progress_from j rs ≡ progress_from first whole
left_held k j xs rs all whole first p e s h i = sym (some_held k xs rs j (sym h ∙ s)) ∙ ap (progress_from k) (sym e) ∙ i

-- the whole stops where some of those that are left do
pub left_stop : (k : ℕ) (v : Verdict) (xs rs all whole : List Judged) (first : ℕ) (p : Progress) → all ≡ xs ++ rs → p ≡ Stopped v → p ≡ progress_from k xs
    → progress_from k all ≡ progress_from first whole → Stopped v ≡ progress_from first whole
left_stop k v xs rs all whole first p e s h i = sym (some_stop k xs rs v (sym h ∙ s)) ∙ ap (progress_from k) (sym e) ∙ i

-- the verdict of obligations is that of where they lead
by_verdict : (k : ℕ) (r : Judged) (rs : List Judged) → verdict_of (progress_from (k + 1) rs) ≡ verdict_from (k + 1) rs
    → verdict_of (advance k r (progress_from (k + 1) rs)) ≡ verdict_by k r (verdict_from (k + 1) rs)
by_verdict k (Done None) rs again = again
by_verdict k (Done (Some x)) rs again = refl
by_verdict k (Wide l r) rs again = refl
by_verdict k (Large l r) rs again = refl

pub verdict_reached : (k : ℕ) (rs : List Judged) → verdict_of (progress_from k rs) ≡ verdict_from k rs
verdict_reached k [] = refl
verdict_reached k (r ∷ rs) = by_verdict k r rs (verdict_reached (k + 1) rs)

-- what passes for all passes for the one at hand
pub passes_at : {X Y : Type 0} (test : Y → Bool) (f : X → Y) (xs : List X) (i : ℕ) (x : X) → i < length xs → x ≡ slice_index_or xs i x
    → list_all test (map f xs) ≡ true → test (f x) ≡ true
passes_at test f [] i x h e a = absurd (omega arith)
passes_at test f (y ∷ xs) zero x h e a = ap (λ z. test (f z)) e ∙ and_first (test (f y)) (list_all test (map f xs)) a
passes_at test f (y ∷ xs) (suc i) x h e a = passes_at test f xs i x (omega arith) e (and_second (test (f y)) (list_all test (map f xs)) a)

-- the outputs among variables are those of the first and those of the rest
pub outputs_split : (f : OutputPair → Judged) (x : ℕ) (v : VarInfo) (vs rights : List VarInfo)
    → map f (output_pairs x (v ∷ vs) rights) ≡ map f (output_pairs x (v ∷ []) rights) ++ map f (output_pairs (x + 1) vs rights)
outputs_split f x v vs rights = by_test (is_output v.role)
  where
    here : OutputPair
    here = record { left = x; sort = v.sort; right = position_from (λ u. bytes_eq u.name v.name) 0 rights }

    by_test : (t : Bool) → map f (cond t (here ∷ output_pairs (x + 1) vs rights) (output_pairs (x + 1) vs rights)) ≡ map f (cond t (here ∷ []) [])
        ++ map f (output_pairs (x + 1) vs rights)
    by_test true = refl
    by_test false = refl
