-- Several targets, of which the first ones fail.
use Rattle.std.proofs.Common.{◌≡◌, Bool, refl, ap, sym, ◌∙◌, Option, Some, None, List, ◌∷◌}
use Rattle.std.specs.Option.{option_or}
use Rattle.nf_terms.specs.Computed.{Done, Wide, Large}
use Rattle.cert_bisimulation.specs.Tables.{Node}
use Rattle.sym_paths.specs.Execution.{Post}
use Rattle.sym_facts.specs.Facts.{Fact}
use Rattle.cert_model.specs.declared.reason.Reason.{Reason}
use Rattle.cert_model.specs.Obligations.{Judged, or_else, judge_target, reaches}
use Rattle.cert_check.specs.View.{falls_from, behind}

-- where two fail, the reason is that of the first
failed_twice : (r s : Reason) (later : Judged) → or_else (Done (Some r)) later ≡ or_else (Done (Some r)) (or_else (Done (Some s)) later)
failed_twice r s (Done None) = refl
failed_twice r s (Done (Some x)) = refl
failed_twice r s (Wide u v) = refl
failed_twice r s (Large u v) = refl

failed_next : (first : Option Reason) (s : Reason) (later : Judged) → behind (option_or first (Some s)) later ≡ behind first (or_else (Done (Some s)) later)
failed_next None s later = refl
failed_next (Some r) s later = failed_twice r s later

-- the next target fails, too
pub next_fails : (none : Reason) (from : Option (Node Fact)) (post : Post) (first : Option Reason) (n : Node Fact) (left ns : List (Node Fact)) (falls : Bool)
    (s : Reason) (whole : Judged) → left ≡ n ∷ ns → falls ≡ falls_from from n → judge_target post n falls ≡ Done (Some s)
    → behind first (reaches none left (falls_from from) post) ≡ whole → behind (option_or first (Some s)) (reaches none ns (falls_from from) post) ≡ whole
next_fails none from post first n left ns falls s whole e f j h =
    failed_next first s (reaches none ns (falls_from from) post)
    ∙ ap (λ z. behind first (or_else z (reaches none ns (falls_from from) post))) (sym j ∙ ap (judge_target post n) f)
    ∙ sym (ap (λ z. behind first (reaches none z (falls_from from) post)) e) ∙ h
