-- The texts of ends and of stops.
use Rattle.std.specs.Prelude.{◌≡◌, ℕ, Bool, List, [], ◌∷◌, ◌++◌, cond, decimal, codes}
use Rattle.std.specs.Bool.{Decides}
use Rattle.std.specs.List.{flat_map}
use Rattle.fs_runs.specs.declared.run.RunStop.{RunStop}
use Rattle.fs_runs.specs.declared.run.RunStop.TheVariants.{StepsOver, PastWide, NoMemory}
use Rattle.fs_run_text.specs.declared.ends.Side.{Side}
use Rattle.fs_run_text.specs.declared.ends.Side.TheVariants.{Only, Left, Right}
use Rattle.fs_run_text.specs.ContentTexts.{join_texts}
use Rattle.fs_runs.specs.Outcomes.{Outputs}
use Rattle.fs_model.specs.Runs.{Content}
use Rattle.fs_run_text.specs.ItemTexts.{AreGiven, AreItems, SameOutputs}

abbrev pub reply_line : List ℕ → List ℕ
reply_line item = item ++ codes "\n"

abbrev pub end_text : (steps : ℕ) (items : List (List ℕ)) → List ℕ
end_text steps items = codes "ended: " ++ (decimal steps ++ (codes " steps\n" ++ flat_map reply_line items))

-- the text of a run that ended: its steps, and a line for each output
pub record IsEndText (names : List (List ℕ)) (outs : Outputs) (steps : ℕ) (text : List ℕ) : Type 0 where
  pub items : List (List ℕ)
  pub are_items : AreItems outs names items
  pub spelled : text ≡ end_text steps items

-- the word that says which of two runs stopped
abbrev pub side_word : Side → List ℕ
side_word Only = []
side_word Left = codes "left "
side_word Right = codes "right "

-- the text of a run without an end; out of memory has none
abbrev pub IsStopText : Side → RunStop → List ℕ → Type 0
IsStopText side (StepsOver limit) text = text ≡ codes "undecided: "
    ++ (side_word side ++ (codes "no return within " ++ (decimal limit ++ codes " steps\n")))
IsStopText side (PastWide step) text = text ≡ codes "undecided: "
    ++ (side_word side ++ (codes "number past 128 bits at step " ++ (decimal step ++ codes "\n")))
IsStopText side NoMemory text = ⊥

-- the items of one side, after one space where there are any
abbrev pub after_space : List (List ℕ) → List ℕ
after_space [] = []
after_space (first ∷ rest) = codes " " ++ join_texts (first ∷ rest)

abbrev pub verdict_line : Bool → List ℕ
verdict_line same = cond same (codes "same\n") (codes "differ\n")

-- the line of one side
abbrev pub side_line : (word : List ℕ) (items : List (List ℕ)) → List ℕ
side_line word items = word ++ (after_space items ++ codes "\n")

abbrev pub replay_text : (same : Bool) (lefts rights : List (List ℕ)) → List ℕ
replay_text same lefts rights = verdict_line same ++ (side_line (codes "left:") lefts ++ side_line (codes "right:") rights)

-- the text of two runs that ended: whether the outputs are the same, and both sides' in the order of the names
pub record IsReplayText (names : List (List ℕ)) (left right : Outputs) (text : List ℕ) : Type 0 where
  pub same : Bool
  pub decided : Decides same (SameOutputs left right)
  pub lefts : List (List ℕ)
  pub rights : List (List ℕ)
  pub are_lefts : AreItems left names lefts
  pub are_rights : AreItems right names rights
  pub spelled : text ≡ replay_text same lefts rights

abbrev pub counterexample_text : (inputs lefts rights : List (List ℕ)) → List ℕ
counterexample_text inputs lefts rights = codes "counterexample\n"
    ++ (flat_map reply_line inputs ++ (side_line (codes "left:") lefts ++ side_line (codes "right:") rights))

-- the text of inputs from which two runs ended with other outputs: a line for each input with what it is given, and both
-- sides' outputs in the order of the names
pub record IsCounterexampleText (inputs : List (List ℕ)) (contents : List Content) (names : List (List ℕ)) (left right : Outputs)
    (text : List ℕ) : Type 0 where
  pub items : List (List ℕ)
  pub lefts : List (List ℕ)
  pub rights : List (List ℕ)
  pub are_given : AreGiven inputs contents items
  pub are_lefts : AreItems left names lefts
  pub are_rights : AreItems right names rights
  pub spelled : text ≡ counterexample_text items lefts rights
