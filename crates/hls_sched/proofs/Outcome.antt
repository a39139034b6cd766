-- What is scheduled keeps all that is promised.
use Rattle.std.proofs.Common.{◌≡◌, ℕ, ◌+◌, ◌<◌, ◌≤◌, List, length, get_or, map, sym, ap, ◌∙◌, subst, arith, true}
use Rattle.std.specs.List.{All}
use Rattle.std.proofs.lemmas.List.{get_or-map}
use Rattle.std.proofs.lemmas.List.Elements.{All-filter, All-map, filter_passes}
use Rattle.fs_model.proofs.Lists.{length_map}
use Rattle.fs_model.specs.Source.{Source}
use Rattle.fs_model.specs.Machines.{Fsmd}
use Rattle.fs_model.specs.Runs.{SameBehaviour}
use Rattle.fs_model.specs.SoundMachines.{IsSound}
use Rattle.hls_block_filling.specs.BasicBlocks.{all_states, is_first_of_block, firsts}
use Rattle.hls_block_filling.specs.RowMachines.{MoveOver}
use Rattle.hls_block_filling.proofs.Among.{range_within}
use Rattle.hls_block_filling.proofs.Trails.{member}
use Rattle.hls_block_filling.proofs.NewBlocks.{has_rows, is_first, name_kept}
use Rattle.hls_block_filling.specs.ItemUnits.{Units}
use Rattle.hls_block_filling.specs.Heights.{chain_of}
use Rattle.hls_block_filling.proofs.Chains.{no_shorter}
use Rattle.hls_block_filling.specs.Schedules.{IsWithin, rows_by, schedule_of}
use Rattle.hls_block_filling.proofs.Schedules.{no_longer, at_least_chain, chain_where_ample, keeps_stores, behaves}
use Rattle.hls_block_filling.proofs.Within.{stays_within}
use Rattle.hls_block_filling.specs.SourceRows.{named_moves, first_row_effect}
use Rattle.hls_block_filling.specs.Sources.{source_by_rows, scheduled_source}
use Rattle.hls_sched.specs.declared.scheduling.LineReport.{LineReport}
use Rattle.hls_sched.specs.Reports.{report_of, report_at, reports, KeepsLengths}

all_of : {X Z : Type 0} (P : Z → Type 0) (f : X → Z) (xs : List X) (zs : List Z) → map f xs ≡ zs → All P zs → All (λ x. P (f x)) xs
all_of P f xs zs e h k d low =
    let count : length zs ≡ length xs = ap length (sym e) ∙ length_map f xs in
    subst P (ap (λ l. get_or l k (f d)) (sym e) ∙ get_or-map f xs k d (f d) low) (h k (f d) (omega (arith, count, low)))

-- the parts with the moves of all blocks
pub parts_are : (units : Units) (p out : Source) (m : Fsmd) (ms : List (MoveOver (List ℕ))) → out ≡ source_by_rows p m (first_row_effect ms)
    → ms ≡ named_moves units p m → out ≡ scheduled_source units p m
parts_are units p out m ms e h = e ∙ ap (λ (xs : List (MoveOver (List ℕ))). source_by_rows p m (first_row_effect xs)) h

first_of_block : (m : Fsmd) (k d : ℕ) → k < length (firsts m) → (get_or (firsts m) k d < length m.states) × (is_first_of_block m (get_or (firsts m) k d) ≡ true)
first_of_block m k d low =
    let inside : All (λ (q : ℕ). q < length m.states) (all_states m) =
    λ i z h.
    (let w : get_or (all_states m) i z < 0 + length m.states = range_within 0 (length m.states) (get_or (all_states m) i z) (member (all_states m) i z h) in
    omega (arith, w)) in (
      All-filter (is_first_of_block m) (λ (q : ℕ). q < length m.states) (all_states m) inside k d low,
      filter_passes (is_first_of_block m) (all_states m) k d
          low,
    )

module _ (units : Units) (m : Fsmd) (sound : IsSound m) (within : IsWithin units m) where
  keeps_lengths : (q : ℕ) → q < length m.states → is_first_of_block m q ≡ true → KeepsLengths units m (report_at units m q)
  keeps_lengths q h e = record {
    name = name_kept m sound (rows_by units m) (keeps_stores m units sound within) q h e;
    begins = is_first m sound (rows_by units m) (keeps_stores m units sound within) q h e;
    length_now = has_rows m sound (rows_by units m) (keeps_stores m units sound within) q h e;
    no_longer = no_longer m units sound within q h e;
    no_shorter = at_least_chain m units sound within q h e;
    least = λ ps n same valid below. subst (λ z. chain_of z ≤ n) same (no_shorter ps n valid below);
    ample = λ a. chain_where_ample m units sound within q h e a;
  }

  -- each block keeps its lengths
  pub blocks_keep_lengths : (lines : List LineReport) → map report_of lines ≡ reports units m
      → All (λ (r : LineReport). KeepsLengths units m (report_of r)) lines
  blocks_keep_lengths lines e =
      all_of (KeepsLengths units m) report_of lines (reports units m) e
      (All-map (KeepsLengths units m) (report_at units m) (firsts m)
      (λ k d low. (let w = first_of_block m k d low in keeps_lengths (get_or (firsts m) k d) w.0 w.1)))

  pub new_behaves : (k : Fsmd) → k ≡ schedule_of units m → SameBehaviour m k
  new_behaves k e = subst (λ (z : Fsmd). SameBehaviour m z) (sym e) (behaves m units sound within)

  pub new_within : (k : Fsmd) → k ≡ schedule_of units m → IsWithin units k
  new_within k e = subst (λ (z : Fsmd). IsWithin units z) (sym e) (stays_within m units sound within)
