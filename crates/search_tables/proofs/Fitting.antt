-- The mode that is found at a node fits its points.
use Rattle.std.proofs.Common.{◌≡◌, ℕ, refl, ap, sym, ◌∙◌, Bool, true, false, cond}
use Rattle.std.specs.Prelude.{not, nat_le}
use Rattle.std.proofs.lemmas.Bool.{and_from}
use Rattle.fs_model.specs.Machines.{Fsmd}
use Rattle.fs_cut.specs.Paths.{Point}
use Rattle.fs_cut.specs.Covers.{paths_of}
use Rattle.cert_bisimulation.specs.declared.mode.Mode.{Mode}
use Rattle.cert_bisimulation.specs.declared.mode.Mode.TheVariants.{Both, Left, Right, End}
use Rattle.fs_model.specs.declared.sides.Side.TheVariants as side
use Rattle.cert_model.specs.Facts.{Fact}
use Rattle.propagate.specs.Modes.{Traced, Found, WideAt, LargeAt, traced_then, count_from, mode_of_counts, mode_by, mode_of}
use Rattle.cert_model.specs.Obligations.{is_done, mode_fits}

-- whether a machine moves
abbrev is_moving : Mode → Bool
is_moving Both = true
is_moving Left = true
is_moving Right = true
is_moving End = false

abbrev mode_found : Mode → Traced Mode
mode_found x = Found x

found_same : (x y : Mode) → mode_found x ≡ mode_found y → x ≡ y
found_same x y e = cc e

counts_move : (n k : ℕ) → is_moving (mode_of_counts n k) ≡ true
counts_move n k = by_tests (nat_le n 1) (nat_le k 1)
  where
    by_tests : (p q : Bool) → is_moving (cond p (cond q Both Left) (cond q Right Both)) ≡ true
    by_tests true true = refl
    by_tests true false = refl
    by_tests false true = refl
    by_tests false false = refl

-- what is found after counting is what is found after some count
followed_found : (P : Mode → Type 0) (x : Mode) (t : Traced ℕ) (next : ℕ → Traced Mode) → ((k : ℕ) → next k ≡ Found x → P x)
    → traced_then t next ≡ Found x → P x
followed_found P x (Found k) next h e = h k e
followed_found P x (WideAt d k l r) next h e = absurd (cc e)
followed_found P x (LargeAt d k u v) next h e = absurd (cc e)

moving_fits : (x : Mode) (P Q : Point) → is_moving x ≡ true → is_done P ≡ false → is_done Q ≡ false → mode_fits x P Q ≡ true
moving_fits Both P Q h l r = and_from (not (is_done P)) (not (is_done Q)) (ap not l) (ap not r)
moving_fits Left P Q h l r = ap not l
moving_fits Right P Q h l r = ap not r
moving_fits End P Q h l r = absurd (cc h)

fits_by : (u v : Bool) (x : Mode) (P Q : Point) (c : Traced Mode) → is_done P ≡ u → is_done Q ≡ v → (c ≡ Found x → is_moving x ≡ true) → mode_by u v c ≡ Found x
    → mode_fits x P Q ≡ true
fits_by true true x P Q c l r h e = ap (λ z. mode_fits z P Q) (sym (found_same End x e)) ∙ and_from (is_done P) (is_done Q) l r
fits_by true false x P Q c l r h e = ap (λ z. mode_fits z P Q) (sym (found_same Right x e)) ∙ ap not r
fits_by false true x P Q c l r h e = ap (λ z. mode_fits z P Q) (sym (found_same Left x e)) ∙ ap not l
fits_by false false x P Q c l r h e = moving_fits x P Q (h e) l r

pub mode_is_fit : (a b : Fsmd) (f : Fact) (P Q : Point) (x : Mode) → mode_of a b f P Q ≡ Found x → mode_fits x P Q ≡ true
mode_is_fit a b f P Q x e =
    let right = count_from b side.Right f (paths_of b Q) 0 in
    fits_by (is_done P) (is_done Q) x P Q
    (traced_then (count_from a side.Left f (paths_of a P) 0) (λ n. traced_then right (λ k. Found (mode_of_counts n k)))) refl refl
    (followed_found (λ y. is_moving y ≡ true) x (count_from a side.Left f (paths_of a P) 0) (λ n. traced_then right (λ k. Found (mode_of_counts n k)))
    (λ n. followed_found (λ y. is_moving y ≡ true) x right (λ k. Found (mode_of_counts n k))
    (λ k g. ap is_moving (sym (found_same (mode_of_counts n k) x g)) ∙ counts_move n k))) e
