-- States, one after another.
use Rattle.std.proofs.Common.{◌≡◌, ℕ, suc, ◌+◌, ◌-◌, ◌<◌, List, ◌++◌, map, sym, ap, ◌∙◌, arith, append_assoc}
use Rattle.std.specs.List.{range_with_len, flat_map}
use Rattle.fs_model.specs.declared.parts.RawState.{RawState}
use Rattle.fs_model.specs.View.{source_state_of}
use Rattle.fs_model.specs.Source.{SourceState}

-- what a state becomes, and what is left
pub states_more : (g : ℕ → List SourceState) (n q : ℕ) (old new : List RawState) (whole : List SourceState) → q < n
    → map source_state_of new ≡ map source_state_of old ++ g q
    → map source_state_of old ++ flat_map g (range_with_len q (n - q)) ≡ whole
    → map source_state_of new ++ flat_map g (range_with_len (q + 1) (n - (q + 1))) ≡ whole
states_more g n q old new whole h put before =
    let more : n - q ≡ suc (n - (q + 1)) = omega (arith, h) in
    let rest : List SourceState = flat_map g (range_with_len (q + 1) (n - (q + 1))) in
    ap (λ xs. xs ++ rest) put
    ∙ append_assoc (map source_state_of old) (g q) rest
    ∙ ap (λ i. map source_state_of old ++ flat_map g (range_with_len q i)) (sym more)
    ∙ before
