-- Entries that are listed input after input.
use Rattle.std.proofs.Common.{◌≡◌, ℕ, zero, suc, ◌+◌, ◌≤◌, List, [], ◌∷◌, ◌++◌, drop, length, refl, sym, ◌∙◌, ap, subst, arith, append_assoc, append-nil}
use Rattle.std.specs.Prelude.{Some, slice_get}
use Rattle.fs_model.specs.Runs.{Content}
use Rattle.hls_shrink.specs.declared.entries.InputEntry.{InputEntry}
use Rattle.hls_shrink.specs.InputEntries.{AreEntries}
use Rattle.hls_shrink.specs.Growth.{AddsEntries}

-- with the entries of the inputs that are left, a list has those of all
abbrev pub Awaits : List Content → (k : ℕ) → List InputEntry → Type 0
Awaits cs k list = (rest : List InputEntry) → AreEntries k (drop k cs) rest → AreEntries 0 cs (list ++ rest)

drop_there : {A : Type 0} (xs : List A) (k : ℕ) (x : A) → slice_get xs k ≡ Some x → drop k xs ≡ x ∷ drop (k + 1) xs
drop_there [] k x e = absurd (cc)
drop_there (y ∷ xs) zero x e = let same : y ≡ x = cc in ap (λ z. z ∷ xs) same
drop_there (y ∷ xs) (suc k) x e = let next : suc k + 1 ≡ suc (k + 1) = omega arith in drop_there xs k x e ∙ ap (λ n. x ∷ drop n (y ∷ xs)) (sym next)

drop_past : {A : Type 0} (xs : List A) (k : ℕ) → length xs ≤ k → drop k xs ≡ []
drop_past [] zero h = refl
drop_past [] (suc k) h = refl
drop_past (x ∷ xs) zero h = absurd (omega arith)
drop_past (x ∷ xs) (suc k) h = drop_past xs k (omega arith)

pub awaits_next : (cs : List Content) (k : ℕ) (c : Content) (old new : List InputEntry) → slice_get cs k ≡ Some c → AddsEntries k c old new → Awaits cs k old
    → Awaits cs (k + 1) new
awaits_next cs k c old new there adds before rest h =
    let all : AreEntries k (c ∷ drop (k + 1) cs) (adds.own ++ rest) =
    record { own = adds.own; others = rest; of_first = adds.are; of_others = h; all = refl } in
    let whole : AreEntries 0 cs (old ++ (adds.own ++ rest)) = before (adds.own ++ rest)
    (subst (λ xs. AreEntries k xs (adds.own ++ rest)) (sym (drop_there cs k c there)) all) in
    subst (λ es. AreEntries 0 cs es) (sym (append_assoc old adds.own rest) ∙ ap (λ es. es ++ rest) (sym adds.all)) whole

pub awaits_none : (cs : List Content) (k : ℕ) (list : List InputEntry) → length cs ≤ k → Awaits cs k list → AreEntries 0 cs list
awaits_none cs k list h before =
    let none : AreEntries k (drop k cs) [] = subst (λ xs. AreEntries k xs []) (sym (drop_past cs k h)) refl in
    subst (λ es. AreEntries 0 cs es) (append-nil list) (before [] none)
