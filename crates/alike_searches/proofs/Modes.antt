-- At alike points as many paths of one machine are open as of the other.
use Rattle.std.proofs.Common.{◌≡◌, ℕ, zero, suc, ◌+◌, ◌<◌, ◌≤◌, arith, refl, ap, ap₂, sym, subst, ◌∙◌, List, ◌++◌, map, Bool, true, false, cond}
use Rattle.std.specs.Prelude.{◌≢◌, not, nat_le}
use Rattle.std.specs.List.{range_with_len}
use Rattle.fs_model.specs.SoundMachines.{IsSound, branch_count}
use Rattle.fs_model.specs.Machines.{Fsmd}
use Rattle.fs_cut.specs.Paths.{Point, Start, At, Done, state_of}
use Rattle.fs_cut.specs.Covers.{path_by, paths_of, same_point}
use Rattle.fs_cut.proofs.Listed.{path_is, paths_are}
use Rattle.cert_bisimulation.specs.declared.mode.Mode.{Mode}
use Rattle.cert_bisimulation.specs.declared.mode.Mode.TheVariants.{Both, Left, Right}
use Rattle.nf_terms.specs.Computed as computed
use Rattle.nf_terms.specs.Computed.{Computed, Wide, Large, after}
use Rattle.fs_model.specs.declared.sides.Side.{Side}
use Rattle.fs_model.specs.declared.sides.Side.TheVariants as side
use Rattle.nf_rel.specs.Literals.{is_refuted}
use Rattle.sym_facts.specs.Facts.{Fact, vector_of}
use Rattle.search_tables.specs.Modes.{Traced, Found, WideAt, LargeAt, traced_then, on_path, is_open_path, count_open, count_from, mode_of_counts, mode_by}
use Rattle.search_tables.specs.Modes.{mode_of}
use Rattle.cert_bisimulation.specs.Alike.{AlikePoints}
use Rattle.alike_searches.specs.Evenness.{IsEven}
use Rattle.alike_searches.proofs.EvenPaths.{same_conditions}

-- what is found in two steps was found in the first
record Goes {S T : Type 0} (o : Traced S) (f : S → Traced T) (y : T) : Type 0 where
  middle : S
  first : o ≡ Found middle
  next : f middle ≡ Found y

goes_found : {S T : Type 0} (o : Traced S) (f : S → Traced T) (y : T) → traced_then o f ≡ Found y → Goes o f y
goes_found (Found x) f y e = record { middle = x; first = refl; next = e }
goes_found (WideAt d k l r) f y e = absurd (cc e)
goes_found (LargeAt d k u n) f y e = absurd (cc e)

found_on : {T : Type 0} (d : Side) (k : ℕ) (c : Computed T) (x : T) → on_path d k c ≡ Found x → c ≡ computed.Done x
found_on d k (computed.Done y) x e = let s : y ≡ x = cc e in ap computed.Done s
found_on d k (Wide l r) x e = absurd (cc e)
found_on d k (Large u n) x e = absurd (cc e)

done_is : {T : Type 0} (x y : T) → computed.Done x ≡ computed.Done y → x ≡ y
done_is x y e = cc e

pub found_is : {T : Type 0} (x y : T) → Found x ≡ Found y → x ≡ y
found_is x y e = cc e

not_done : (P : Point) → P ≢ Done → same_point P Done ≡ false
not_done Start n = refl
not_done (At q) n = refl
not_done Done n = absurd (n refl)

module _ (a b : Fsmd) (sound_a : IsSound a) (sound_b : IsSound b) (K : List (Point × Point)) (f : Fact) (even : IsEven a b (vector_of f.positions))
    (P Q : Point) (w : AlikePoints a b K P Q) where
  -- the paths of one number are open alike
  open_alike : (k : ℕ) → k < branch_count a (state_of a P)
      → is_open_path a side.Left f (path_by a P (state_of a P) k) ≡ is_open_path b side.Right f (path_by b Q (state_of b Q) k)
  open_alike k h =
      let p = path_by a P (state_of a P) k in
      let q = path_by b Q (state_of b Q) k in
      let g : k < branch_count b (state_of b Q) = subst (λ n. k < n) w.same_count h in
      let same = w.paths p q (path_is a P k sound_a w.left_point w.left_goes h) (path_is b Q k sound_b w.right_point w.right_goes g) refl refl refl in
      ap (λ c. after c (λ ls. computed.Done (not (is_refuted (f.literals ++ ls))))) (same_conditions a b (vector_of f.positions) even K p q same)

  counts_alike : (n i c x y : ℕ) → i + n ≤ branch_count a (state_of a P)
      → count_from a side.Left f (map (path_by a P (state_of a P)) (range_with_len i n)) c ≡ Found x
      → count_from b side.Right f (map (path_by b Q (state_of b Q)) (range_with_len i n)) c ≡ Found y → x ≡ y
  counts_alike zero i c x y h e g = sym (found_is c x e) ∙ found_is c y g
  counts_alike (suc n) i c x y h e g =
      let s = goes_found (on_path side.Left i (is_open_path a side.Left f (path_by a P (state_of a P) i)))
      (λ more. count_from a side.Left f (map (path_by a P (state_of a P)) (range_with_len (i + 1) n)) (count_open c more)) x e in
      let t = goes_found (on_path side.Right i (is_open_path b side.Right f (path_by b Q (state_of b Q) i)))
      (λ more. count_from b side.Right f (map (path_by b Q (state_of b Q)) (range_with_len (i + 1) n)) (count_open c more)) y g in
      let m = found_on side.Left i (is_open_path a side.Left f (path_by a P (state_of a P) i)) s.middle s.first in
      let k = found_on side.Right i (is_open_path b side.Right f (path_by b Q (state_of b Q) i)) t.middle t.first in
      let same : t.middle ≡ s.middle = done_is t.middle s.middle (sym k ∙ sym (open_alike i (omega (arith, h))) ∙ m) in
      counts_alike n (i + 1) (count_open c s.middle) x y (omega (arith, h)) s.next
      (ap (λ z. count_from b side.Right f (map (path_by b Q (state_of b Q)) (range_with_len (i + 1) n)) (count_open c z)) (sym same) ∙ t.next)

  same_counts : (n : ℕ) → mode_of_counts n n ≡ Both
  same_counts n = by_test (nat_le n 1)
    where
      by_test : (t : Bool) → cond t (cond t Both Left) (cond t Right Both) ≡ Both
      by_test true = refl
      by_test false = refl

  pub both_move : (mode : Mode) → mode_of a b f P Q ≡ Found mode → mode ≡ Both
  both_move mode e =
      let e' : traced_then (count_from a side.Left f (paths_of a P) 0)
      (λ n. traced_then (count_from b side.Right f (paths_of b Q) 0) (λ k. Found (mode_of_counts n k))) ≡ Found mode =
      sym
      (ap₂
      (λ x y. mode_by x y
      (traced_then (count_from a side.Left f (paths_of a P) 0)
      (λ n. traced_then (count_from b side.Right f (paths_of b Q) 0) (λ k. Found (mode_of_counts n k)))))
      (not_done P w.left_goes) (not_done Q w.right_goes)) ∙ e in
      let s = goes_found (count_from a side.Left f (paths_of a P) 0)
      (λ n. traced_then (count_from b side.Right f (paths_of b Q) 0) (λ k. Found (mode_of_counts n k))) mode e' in
      let t = goes_found (count_from b side.Right f (paths_of b Q) 0) (λ k. Found (mode_of_counts s.middle k)) mode s.next in
      let n = branch_count a (state_of a P) in
      let l : count_from a side.Left f (map (path_by a P (state_of a P)) (range_with_len 0 n)) 0 ≡ Found s.middle =
      sym (ap (λ z. count_from a side.Left f z 0) (paths_are a P w.left_goes)) ∙ s.first in
      let r : count_from b side.Right f (map (path_by b Q (state_of b Q)) (range_with_len 0 n)) 0 ≡ Found t.middle =
      ap (λ c. count_from b side.Right f (map (path_by b Q (state_of b Q)) (range_with_len 0 c)) 0) w.same_count
      ∙ sym (ap (λ z. count_from b side.Right f z 0) (paths_are b Q w.right_goes)) ∙ t.first in
      let same : s.middle ≡ t.middle = counts_alike n 0 0 s.middle t.middle (omega arith) l r in
      sym (found_is (mode_of_counts s.middle t.middle) mode t.next) ∙ ap (mode_of_counts s.middle) (sym same) ∙ same_counts s.middle
