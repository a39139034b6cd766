-- The answers to inputs that are to be made small.
use Rattle.std.proofs.Common.{◌≡◌, ℕ, List, refl, sym, subst}
use Rattle.std.specs.Prelude.{Option, Some, IfSome}
use Rattle.fs_model.specs.Machines.{Fsmd}
use Rattle.fs_stores.specs.declared.inputs.Inputs.{Inputs as InputValues}
use Rattle.fs_runs.specs.declared.run.Ended.{Ended}
use Rattle.fs_stores.specs.InputValues.{inputs_of, signatures_of, input_signatures}
use Rattle.fs_runs.specs.Outcomes.{output_names, told_by}
use Rattle.fs_model.specs.Runs.{Inputs}
use Rattle.fs_run_text.specs.ItemTexts.{input_names}
use Rattle.fs_run_text.specs.EndTexts.{IsCounterexampleText}
use Rattle.fs_trials.specs.Candidates.{inputs_told}
use Rattle.fs_trials.specs.Differences.{ShowsDifference, AreApart}
use Rattle.fs_trials.proofs.Apart.{apart_shows}
use Rattle.hls_shrink.specs.declared.shrinking.Small.{Small}
use Rattle.hls_shrink.specs.InputEntries.{contents_in}
use Rattle.hls_shrink.specs.Given.{given_contents}
use Rattle.hls_shrink.specs.Shrunk.{ShowDifference, EndsIn}
use Rattle.hls_shrink.proofs.Smalls.{by_contents}
use Rattle.fsmd_replies.specs.declared.answer.Answer.TheVariants.{Differs}
use Rattle.fsmd_answers.specs.Shrinks.{IsSmallText, IsOfShrink, Smaller}

pub some_apart : (a b : Fsmd) (ins : Inputs) (limit : ℕ) (o : Option (Ended × Ended)) (p : Ended × Ended) → o ≡ Some p
    → IfSome o (λ q. AreApart a b ins limit q.0 q.1) → ShowsDifference a b ins limit
some_apart a b ins limit o p e h = apart_shows a b ins limit p.0 p.1 (subst (λ x. IfSome x (λ q. AreApart a b ins limit q.0 q.1)) e h)

-- the lines are those of a counterexample, of what small inputs are given
abbrev pub IsToldOf : (a b : Fsmd) → Small → List ℕ → Type 0
IsToldOf a b small lines =
    IsCounterexampleText (input_names a.variables) (contents_in small.inputs) (output_names a.variables)
    (told_by a small.left.outputs.items) (told_by b small.right.outputs.items) lines

small_text : (limit : ℕ) (a b : Fsmd) (small : Small) (lines : List ℕ) → signatures_of small.inputs ≡ input_signatures a.variables
    → AreApart a b (inputs_of small.inputs) limit small.left small.right → IsToldOf a b small lines → IsSmallText limit a b (contents_in small.inputs) lines
small_text limit a b small lines signed apart told =
    let ins = inputs_told (input_signatures a.variables) (contents_in small.inputs) in
    let there : AreApart a b ins limit small.left small.right =
    subst (λ (i : Inputs). AreApart a b i limit small.left small.right) (by_contents a small.inputs signed) apart in
    record {
      shows = record {
        left = told_by a small.left.outputs.items;
        right = told_by b small.right.outputs.items;
        left_steps = small.left.steps;
        right_steps = small.right.steps;
        left_ends = there.left_end.ends;
        right_ends = there.right_end.ends;
        differ = there.differ;
      };
      told = told;
    }

-- inputs that show a difference, and the end of the chain of first reductions from what they are given
pub is_smaller : (limit : ℕ) (a b : Fsmd) (ins : InputValues) (small : Small) (text lines : List ℕ) → ShowsDifference a b (inputs_of ins) limit
    → contents_in ins ≡ given_contents a (inputs_of ins) → EndsIn (ShowDifference a b limit) (contents_in ins) (contents_in small.inputs)
    → signatures_of small.inputs ≡ input_signatures a.variables → AreApart a b (inputs_of small.inputs) limit small.left small.right
    → IsToldOf a b small text → lines ≡ text → IsOfShrink limit a b (inputs_of ins) (Differs lines)
is_smaller limit a b ins small text lines shown given ends signed apart told e =
    let end = contents_in small.inputs in
    Smaller shown end (subst (λ cs. EndsIn (ShowDifference a b limit) cs end) given ends)
    (record {
      lines = lines;
      holds = subst (IsSmallText limit a b end) (sym e) (small_text limit a b small text signed apart told);
      is = refl;
    })
