-- Which answer each view gives.
use Rattle.std.specs.Prelude.{◌≡◌, ℕ, false, List, ◌++◌}
use Rattle.fs_model.specs.Machines.{Fsmd}
use Rattle.fs_model.specs.Runs.{Inputs as RunInputs}
use Rattle.cert_bisimulation.specs.Tables.{Node}
use Rattle.sym_facts.specs.Facts.{Fact}
use Rattle.search_tables.specs.SearchTables.{machines}
use Rattle.show_machine_pictures.specs.Pictures.{picture_of}
use Rattle.show_search_views.specs.declared.why.Explanation.{Explanation}
use Rattle.show_search_views.specs.Why.{IsExplanation, answer_behind}
use Rattle.show_search_views.specs.SearchPictures.{IsPicture}
use Rattle.show_inputs_text.specs.InputTexts.{ShowsDifferenceOf}
use Rattle.show_search_views.specs.Demands.{obligation_lines}
use Rattle.show_traces.specs.Traces.{IsTrace}
use Rattle.fsmd_replies.specs.declared.answer.Answer.{Answer}
use Rattle.fsmd_replies.specs.declared.answer.Answer.TheVariants.{Text, Differs, Undecided}
use Rattle.fsmd_answers.specs.LineAnswers.{HasLines}
use Rattle.fsmd_answers.specs.ComparisonAnswers.{IsOfPair}
use Rattle.fsmd_answers.specs.Verdicts.{IsJudged}
use Rattle.fsmd_answers.specs.RunAnswers.{IsOfRun}
use Rattle.fsmd_answers.specs.Readings.{Reading}
use Rattle.fsmd_answers.specs.Follows.{Ends, OpensMachine, OpensPair, OpensInputs, OpensCertificate}
use Rattle.show_tool.specs.declared.views.PairView.{PairView}
use Rattle.show_tool.specs.declared.views.PairView.TheVariants as pair_views
use Rattle.show_words.specs.declared.asking.View.{View}
use Rattle.show_words.specs.declared.asking.View.TheVariants.{Machine, Pair, Why, Certificate, Inputs, Trace}

-- the picture of the search of two machines
abbrev pub IsOfPicture : (a b : Fsmd) → Answer → Type 0
IsOfPicture a b answer = HasLines (IsPicture (machines a b)) Text answer

-- what led to the answer that two machines get, and then the lines of `check`, with its status
pub record IsOfWhy (limit : ℕ) (a b : Fsmd) (answer : Answer) : Type 0 where
  pub why : Explanation
  pub is : IsExplanation limit a b why
  pub told : answer ≡ answer_behind (machines a b) why.lines.items why.answer

-- a file of inputs that show a difference, with the status of `check`; or what `check` answers
pub data IsOfInputs (limit : ℕ) (a b : Fsmd) (answer : Answer) : Type 0 where
  Given : HasLines (ShowsDifferenceOf limit a b) Differs answer → IsOfInputs limit a b answer
  Other : IsOfPair limit false a b answer → IsOfInputs limit a b answer

-- what is shown of two machines by their files alone
abbrev pub IsOfPairView : PairView → (a b : Fsmd) → Answer → Type 0
IsOfPairView pair_views.Picture = IsOfPicture
IsOfPairView pair_views.Why = IsOfWhy 10000
IsOfPairView pair_views.Inputs = IsOfInputs 10000

-- an answer that is lines, behind others
abbrev pub answer_behind_lines : (lines : List ℕ) → Answer → Answer
answer_behind_lines lines (Text more) = Text (lines ++ more)
answer_behind_lines lines (Differs more) = Differs (lines ++ more)
answer_behind_lines lines (Undecided more) = Undecided (lines ++ more)
answer_behind_lines lines other = other

-- the obligations of a certificate, and then the lines of `verify`, with its status
pub record IsOfCertificate (a b : Fsmd) (nodes : List (Node Fact)) (answer : Answer) : Type 0 where
  pub verdict : Answer
  pub judged : IsJudged a b nodes verdict
  pub told : answer ≡ answer_behind_lines (obligation_lines (machines a b) nodes) verdict

-- the trace of a run of at most so many steps from these inputs, and then the lines of `run`, with its status
pub record IsOfTrace (limit : ℕ) (m : Fsmd) (ins : RunInputs) (answer : Answer) : Type 0 where
  pub lines : List ℕ
  pub trace : IsTrace m ins limit lines
  pub end : Answer
  pub run : IsOfRun limit m ins end
  pub told : answer ≡ answer_behind_lines lines end

-- which answer follows for a view, from what was read of the files from a number on
abbrev pub ShownFrom : View → (file : ℕ) → Reading → Answer → Type 0
ShownFrom Machine = OpensMachine (λ m. Ends (λ answer. answer ≡ Text (picture_of m)))
ShownFrom Why = OpensPair (λ a b. Ends (IsOfWhy 10000 a b))
ShownFrom Certificate = OpensPair (λ a b. OpensCertificate a b (λ nodes. Ends (IsOfCertificate a b nodes)))
ShownFrom Inputs = OpensPair (λ a b. Ends (IsOfInputs 10000 a b))
ShownFrom Pair = OpensPair (λ a b. Ends (IsOfPicture a b))
ShownFrom (Trace steps) = OpensMachine (λ m. OpensInputs m (λ ins. Ends (IsOfTrace steps m ins)))
