-- Of lawful parts no rule is broken.
use Rattle.std.proofs.Common.{◌≡◌, refl, ℕ, ◌≤◌, List, [], length, inl, inr}
use Rattle.fs_model.specs.Source.{Source}
use Rattle.fs_rules.specs.declared.check.CheckFault.{CheckFault}
use Rattle.fs_rules.specs.Rules.{plain_faults, branch_faults, line_past_limit, Broken, BreaksNoRule}
use Rattle.std.proofs.Math.ListN.{drop_of_length-le}
use Rattle.fs_model.proofs.Lists.{nothing_in_none}

pub unbroken : (p : Source) (f : CheckFault) → BreaksNoRule p → Broken p f → ⊥
unbroken p f l (inl x) = nothing_in_none (plain_faults p) f l.plain x
unbroken p f l (inr (e, inl x)) = nothing_in_none (branch_faults p) f l.branches x
unbroken p f l (inr (e, inr (rule, x))) = l.ends f.line x

pub none_past : (most : ℕ) (ns : List (ℕ × List ℕ)) → length ns ≤ most → line_past_limit most ns ≡ []
none_past most ns h = rw (drop_of_length-le ns h) refl
