use Rattle.std.proofs.Common.{sym, ap, ◌∙◌}
use Rattle.std.specs.Option.{option_copied}
use Rattle.nf_refutation.proofs.Left.{open_below, open_above, between}
use Rattle.nf_refutation.proofs.bound_table.BoundTable.leaves_none.Goals as goal

pub returns-in-None : goal.returns-in-None
returns-in-None c =
    (λ e. absurd (cc e), λ n. absurd (open_below c.args.self.now c.args.dir.now (sym c.bound_in.ensures ∙ ap option_copied c.in-None.is) n))

pub returns-in-None-bound_in : goal.returns-in-None-bound_in
returns-in-None-bound_in c =
    (λ e. absurd (cc e), λ n. absurd (open_above c.args.self.now c.args.dir.now (sym c.bound_in-in-Some.ensures ∙ ap option_copied c.in-None-bound_in.is) n))

pub returns-in-Some-bound_in : goal.returns-in-Some-bound_in
returns-in-Some-bound_in c =
    between c.args.self.now c.args.dir.now c.in-Some.low.now c.in-Some-bound_in.high.now c.leaves_out.result
    (sym c.bound_in.ensures ∙ ap option_copied c.in-Some.is) (sym c.bound_in-in-Some.ensures ∙ ap option_copied c.in-Some-bound_in.is) c.leaves_out.ensures
