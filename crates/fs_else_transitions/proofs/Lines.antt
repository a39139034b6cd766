-- The transitions of a state as parts have them.
use Rattle.std.proofs.Common.{◌≡◌, ℕ, zero, suc, List, [], ◌∷◌, length, ◌∙◌, ap, arith}
use Rattle.std.specs.Prelude.{Some, map, slice_get}
use Rattle.std.specs.Option.{is_some}
use Rattle.fs_model.proofs.Options.{is_some-map}
use Rattle.fs_model.specs.declared.parts.RawLine.{RawLine}
use Rattle.fs_model.specs.View.{source_transition_of, named_guard}
use Rattle.fs_else_transitions.specs.ElseTransitions.{lacks_else}

pub lacks_last : (ls : List RawLine) (n : ℕ) (l : RawLine) → suc n ≡ length ls → slice_get ls n ≡ Some l
    → lacks_else (map source_transition_of ls) ≡ is_some l.guard
lacks_last [] n l h e = absurd (omega arith)
lacks_last (x ∷ []) zero l h e = let same : x ≡ l = cc in is_some-map named_guard x.guard ∙ ap (λ y. is_some y.guard) same
lacks_last (x ∷ []) (suc n) l h e = absurd (omega arith)
lacks_last (x ∷ y ∷ ls) zero l h e = absurd (omega arith)
lacks_last (x ∷ y ∷ ls) (suc n) l h e = lacks_last (y ∷ ls) n l (omega arith) e
