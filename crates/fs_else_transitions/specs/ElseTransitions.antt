-- Transitions of a state without guard: the last is one, and no other.
use Rattle.std.specs.Prelude.{ℕ, Bool, true, not, cond, List, [], ◌∷◌, is_some}
use Rattle.fs_model.specs.Source.{SourceTransition}

-- no transition is there, or the last has a guard
abbrev pub lacks_else : List SourceTransition → Bool
lacks_else [] = true
lacks_else (l ∷ []) = is_some l.content.guard
lacks_else (l ∷ k ∷ rest) = lacks_else (k ∷ rest)

-- the lines of the transitions after one without guard
abbrev pub after_else : Bool → List SourceTransition → List ℕ
after_else seen [] = []
after_else seen (l ∷ ls) = cond seen (l.line ∷ after_else true ls) (after_else (not (is_some l.content.guard)) ls)
