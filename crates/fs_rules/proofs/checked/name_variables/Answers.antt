use Rattle.std.proofs.Common.{◌≡◌, ◌∙◌, sym, ap, subst}
use Rattle.std.specs.Prelude.{map}
use Rattle.fs_model.specs.View.{declaration_of}
use Rattle.fs_model.specs.Limits.{most_variables}
use Rattle.fs_rules.specs.MachineOfParts.{names_of}
use Rattle.fs_rules.specs.FirstFault.{earliest}
use Rattle.fs_rules.specs.Places.{declared_of, declared_name_list, IsTableOf}
use Rattle.fs_rules.specs.Scopes.{table_faults}
use Rattle.fs_rules.proofs.Naming.{names_declared}
use Rattle.fs_rules.proofs.checked.name_variables.Goals as goal

pub returns-clause-table : goal.returns-clause-table
returns-clause-table c =
    let named : declared_name_list (map declared_of c.deref.result.now) ≡ names_of c.in_ok-variables.variables.vars.items =
    ap (λ l. declared_name_list (map declared_of l)) c.deref.ensures.value ∙ ap declared_name_list c.in_ok-variables.ensures.declared
    ∙ names_declared (map declaration_of c.args.decls.now) ∙ sym (ap names_of c.in_ok-variables.ensures.vars)
    in
    subst (IsTableOf c.in_ok-places.places) named c.in_ok-places.ensures.table

pub returns-clause-noted : goal.returns-clause-noted
returns-clause-noted c =
    c.in_ok-places.ensures.noted
    ∙ ap (λ l. earliest c.args.faults.now.first (table_faults most_variables l))
    (ap (map declared_of) c.deref.ensures.value ∙ c.in_ok-variables.ensures.declared)

pub returns-clause-vars : goal.returns-clause-vars
returns-clause-vars c = c.in_ok-variables.ensures.vars
