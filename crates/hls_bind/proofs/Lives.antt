-- Each closed set has what is live by walks.
use Rattle.std.proofs.Common.{◌≡◌, ℕ, ◌<◌, List, [], ◌∷◌, sym, refl, subst, Bool, true, false}
use Rattle.std.specs.Prelude.{◌≢◌}
use Rattle.fs_model.specs.Machines.{Fsmd}
use Rattle.fs_model.specs.SoundMachines.{branch_count}
use Rattle.fs_cut.specs.Paths.{branch_at, target_of}
use Rattle.hls_bind.specs.Liveness.{reads, writes, PassesUnwritten, IsLive}
use Rattle.hls_bind.specs.Closed.{IsClosedUnderFlow}

module _ (m : Fsmd) (x : ℕ) where
  pub live_reads : (q k : ℕ) → k < branch_count m q → reads x (branch_at m q k) ≡ true → IsLive m x q
  live_reads q k h r = record { earlier = []; state = q; branch = k; passes = refl; numbered = h; read = r }

  pub live_passes : (q k : ℕ) → k < branch_count m q → writes x (branch_at m q k) ≡ false → target_of m q k ≢ m.reset
      → IsLive m x (target_of m q k) → IsLive m x q
  live_passes q k h w on l = record {
    earlier = k ∷ l.earlier;
    state = l.state;
    branch = l.branch;
    passes = (h, w, on, l.passes);
    numbered = l.numbered;
    read = l.read;
  }

  walk_in : (set : ℕ → Bool) → IsClosedUnderFlow m x set → (ks : List ℕ) (q r : ℕ) → PassesUnwritten m x q ks r → set r ≡ true → set q ≡ true
  walk_in set c [] q r h i = subst (λ z. set z ≡ true) (sym h) i
  walk_in set c (k ∷ ks) q r h i = c.passing q k h.0 h.1 h.2 (walk_in set c ks (target_of m q k) r h.3 i)

  -- each closed set has what is live
  pub has_live : (set : ℕ → Bool) → IsClosedUnderFlow m x set → (q : ℕ) → IsLive m x q → set q ≡ true
  has_live set c q l = walk_in set c l.earlier q l.state l.passes (c.reading l.state l.branch l.numbered l.read)
