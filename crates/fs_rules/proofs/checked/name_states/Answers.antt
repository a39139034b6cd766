use Rattle.std.proofs.Common.{◌≡◌, ◌∙◌, ap, subst}
use Rattle.std.specs.Prelude.{map, IfOk, OnOk}
use Rattle.fs_model.specs.View.{source_state_of}
use Rattle.fs_model.specs.Limits.{most_states}
use Rattle.fs_rules.specs.Rules.{declared_states}
use Rattle.fs_rules.specs.FirstFault.{earliest}
use Rattle.fs_rules.specs.Places.{declared_of, declared_name_list, names_stated, IsTableOf}
use Rattle.fs_rules.specs.Scopes.{table_faults}
use Rattle.fs_rules.proofs.Naming.{names_of_declared}
use Rattle.fs_rules.proofs.checked.name_states.Goals as goal

pub returns-clause-table : goal.returns-clause-table
returns-clause-table c =
    let stated : declared_name_list (map declared_of c.deref.result.now) ≡ names_stated c.args.states.now =
    ap (λ l. declared_name_list (map declared_of l)) c.deref.ensures.value ∙ ap declared_name_list c.in_ok-declared.ensures
    ∙ names_of_declared (map source_state_of c.args.states.now)
    in
    subst (λ ns. IfOk c.noted_table.result (λ t. IsTableOf t ns)) stated c.noted_table.ensures.table

pub returns-clause-noted : goal.returns-clause-noted
returns-clause-noted c =
    let states : map declared_of c.deref.result.now ≡ declared_states (map source_state_of c.args.states.now) =
    ap (map declared_of) c.deref.ensures.value ∙ c.in_ok-declared.ensures
    in
    subst (λ l. OnOk c.noted_table.result (c.noted_table.new.faults.first ≡ earliest c.args.faults.now.first (table_faults most_states l))) states
    c.noted_table.ensures.noted
