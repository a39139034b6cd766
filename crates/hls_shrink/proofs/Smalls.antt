-- Inputs that show a difference, by their contents.
use Rattle.std.proofs.Common.{◌≡◌, ℕ, true, refl, sym, ◌∙◌, ap, subst}
use Rattle.std.specs.Prelude.{Option, Some, None, Result, Ok, Err, IfOk, IfSome}
use Rattle.fs_model.specs.Machines.{Fsmd}
use Rattle.fs_model.specs.Runs.{Content}
use Rattle.fs_stores.specs.declared.memory.NoMemory.{NoMemory}
use Rattle.fs_stores.specs.declared.inputs.Inputs.{Inputs as InputValues}
use Rattle.fs_stores.specs.InputValues.{inputs_of, signatures_of, input_signatures}
use Rattle.fs_runs.specs.Outcomes.{EndsWith, told_by}
use Rattle.fs_trials.specs.Candidates.{inputs_told}
use Rattle.fs_trials.specs.Differences.{ShowsDifference}
use Rattle.fs_trials.proofs.Given.{inputs_are}
use Rattle.hls_shrink.specs.InputEntries.{contents_in}
use Rattle.hls_shrink.specs.declared.shrinking.Small.{Small}
use Rattle.hls_shrink.specs.declared.entries.InputEntry.{InputEntry}
use Rattle.hls_shrink.specs.Reductions.{is_beyond_one, reductions_at}
use Rattle.hls_shrink.specs.Shrunk.{ShowDifference, IsSmall, IsFirst, NoneHas}
use Rattle.hls_shrink.proofs.First.{with_zero, with_half, first_half, none_either}
use Rattle.std.specs.Prelude.{List}

-- inputs of the left machine are what their contents say
pub by_contents : (a : Fsmd) (ins : InputValues) → signatures_of ins ≡ input_signatures a.variables
    → inputs_of ins ≡ inputs_told (input_signatures a.variables) (contents_in ins)
by_contents a ins e = inputs_are ins (input_signatures a.variables) (contents_in ins) e refl

-- what the contents of small inputs show, with how both runs end
pub small_shows : (a b : Fsmd) (limit : ℕ) (s : Small) → IsSmall a b limit s → ShowDifference a b limit (contents_in s.inputs)
small_shows a b limit s h =
    let told : inputs_of s.inputs ≡ inputs_told (input_signatures a.variables) (contents_in s.inputs) = by_contents a s.inputs h.signatures in
    record {
      left = told_by a s.left.outputs.items;
      right = told_by b s.right.outputs.items;
      left_steps = s.left.steps;
      right_steps = s.right.steps;
      left_ends = subst (λ x. EndsWith a x limit (told_by a s.left.outputs.items) s.left.steps) told h.apart.left_end.ends;
      right_ends = subst (λ x. EndsWith b x limit (told_by b s.right.outputs.items) s.right.steps) told h.apart.right_end.ends;
      differ = h.apart.differ;
    }

-- inputs with the same contents show the same
pub same_show : (a b : Fsmd) (limit : ℕ) (x y : InputValues) → signatures_of x ≡ input_signatures a.variables → signatures_of y ≡ input_signatures a.variables
    → contents_in x ≡ contents_in y → ShowsDifference a b (inputs_of y) limit → ShowsDifference a b (inputs_of x) limit
same_show a b limit x y e f same h =
    subst (λ i. ShowsDifference a b i limit) (by_contents a y f ∙ ap (inputs_told (input_signatures a.variables)) (sym same) ∙ sym (by_contents a x e)) h

pub none_shown : (a b : Fsmd) (limit : ℕ) (ins : InputValues) (cs : List Content) → signatures_of ins ≡ input_signatures a.variables → contents_in ins ≡ cs
    → ¬ ShowsDifference a b (inputs_of ins) limit → ¬ ShowDifference a b limit cs
none_shown a b limit ins cs e f none = subst (λ x. ¬ ShowDifference a b limit x) f (subst (λ i. ¬ ShowsDifference a b i limit) (by_contents a ins e) none)

-- what is found with half the number is the first reduction at an entry, where with 0 there is no difference
pub half_found : (a b : Fsmd) (limit : ℕ) (cs : List Content) (e : InputEntry) (r : Result (Option Small) NoMemory) → is_beyond_one e.number ≡ true
    → ¬ ShowDifference a b limit (with_zero cs e)
    → IfOk r (λ o. IfSome o (λ s. contents_in s.inputs ≡ with_half cs e)) → IfOk r (λ o. IfSome o (λ s. IsSmall a b limit s))
    → IfOk r (λ o. IfSome o (λ s. IsFirst (ShowDifference a b limit) (reductions_at cs e) (contents_in s.inputs)))
half_found a b limit cs e (Ok None) beyond none are small = tt
half_found a b limit cs e (Ok (Some s)) beyond none are small =
    first_half (ShowDifference a b limit) cs e (contents_in s.inputs) beyond none are (small_shows a b limit s small)
half_found a b limit cs e (Err x) beyond none are small = tt

pub half_none : (a b : Fsmd) (limit : ℕ) (cs : List Content) (e : InputEntry) (r : Result (Option Small) NoMemory) → ¬ ShowDifference a b limit (with_zero cs e)
    → IfOk r (λ o. o ≡ None → ¬ ShowDifference a b limit (with_half cs e)) → IfOk r (λ o. o ≡ None → NoneHas (ShowDifference a b limit) (reductions_at cs e))
half_none a b limit cs e (Ok o) none h = λ q. none_either (ShowDifference a b limit) cs e none (h q)
half_none a b limit cs e (Err x) none h = tt
