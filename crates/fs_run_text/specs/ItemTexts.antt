-- What the inputs and outputs of a machine print as.
use Rattle.std.specs.Prelude.{◌≡◌, ℕ, List, [], ◌∷◌, ◌++◌, map, Some, codes}
use Rattle.std.specs.List.{AllByRecursion, AllZip}
use Rattle.fs_model.specs.Runs.{Content}
use Rattle.fs_model.specs.declared.parts.VarInfo.{VarInfo}
use Rattle.fs_stores.specs.InputValues.{Signature, input_signatures}
use Rattle.fs_runs.specs.Outcomes.{Outputs}
use Rattle.fs_run_text.specs.ContentTexts.{PrintsAs}

abbrev pub item_text : (name text : List ℕ) → List ℕ
item_text name text = name ++ (codes " = " ++ text)

-- the name of an output, and what it holds
pub record IsItem (outs : Outputs) (name item : List ℕ) : Type 0 where
  pub content : Content
  pub held : outs name ≡ Some content
  pub text : List ℕ
  pub shown : PrintsAs content text
  pub spelled : item ≡ item_text name text

-- an item for each name, in order
abbrev pub AreItems : Outputs → (names items : List (List ℕ)) → Type 0
AreItems outs names items = AllZip (IsItem outs) names items

-- the names of the inputs, in order of declaration
abbrev pub input_names : List VarInfo → List (List ℕ)
input_names vs = map (λ (f : Signature). f.0) (input_signatures vs)

-- a name, and what it is given
pub record IsGiven (name : List ℕ) (content : Content) (item : List ℕ) : Type 0 where
  pub text : List ℕ
  pub shown : PrintsAs content text
  pub spelled : item ≡ item_text name text

-- an item for each name with what it is given, in order
abbrev pub AreGiven : (names : List (List ℕ)) → List Content → (items : List (List ℕ)) → Type 0
AreGiven [] [] [] = Unit {0}
AreGiven [] [] (i ∷ is) = ⊥
AreGiven [] (c ∷ cs) is = ⊥
AreGiven (n ∷ ns) [] is = ⊥
AreGiven (n ∷ ns) (c ∷ cs) [] = ⊥
AreGiven (n ∷ ns) (c ∷ cs) (i ∷ is) = IsGiven n c i × AreGiven ns cs is

-- items for the names are appended
pub record AddsItems (outs : Outputs) (names old new : List (List ℕ)) : Type 0 where
  pub added : List (List ℕ)
  pub are_items : AreItems outs names added
  pub all : new ≡ old ++ added

-- each name holds the same in both
abbrev pub SameOutputs : Outputs → Outputs → Type 0
SameOutputs left right = (name : List ℕ) → left name ≡ right name

-- each of the names holds the same in both
abbrev pub AgreeOnNames : Outputs → Outputs → List (List ℕ) → Type 0
AgreeOnNames left right names = AllByRecursion (λ name. left name ≡ right name) names
