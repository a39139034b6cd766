-- The parts of a program are well formed, and where they break no rule their machine does what the program does.
use Rattle.std.proofs.Common.{◌≡◌, ◌<◌, ◌∷◌, ap, sym, subst, arith, ◌∙◌}
use Rattle.std.specs.Prelude.{IsTrue}
use Rattle.fs_model.specs.Machines.{Fsmd}
use Rattle.fs_model.specs.Source.{Source}
use Rattle.fs_model.specs.WellFormed as parts
use Rattle.fs_model.specs.Limits.{most_states}
use Rattle.fs_rules.specs.declared.check.CheckFault.{CheckFault}
use Rattle.fs_rules.specs.MachineOfParts.{machine_of}
use Rattle.fs_rules.specs.Rules.{Broken, IsFirstBroken, BreaksNoRule}
use Rattle.fs_rules.proofs.Unbroken.{unbroken}
use Rattle.fs_ast.proofs.Kept.{all_kept, count_states}
use Rattle.hls_program_parts.specs.Programs.{Program}
use Rattle.hls_program_parts.specs.ProgramMeaning.{DoesAs}
use Rattle.hls_program_parts.specs.Compiled.{count, entry_block, parts_of, state_name, states_of}
use Rattle.hls_program_parts.specs.WellFormedPrograms.{is_well_formed_program}
use Rattle.hls_program_parts.proofs.WellFormedParts.{parts_fine}
use Rattle.hls_program_parts.proofs.Numbers.{length_numbered, length_states}
use Rattle.hls_program_parts.proofs.Programs.{does_as}
use Rattle.hls_program_text.specs.declared.fault.LangError.{LangError}
use Rattle.hls_program_text.specs.declared.fault.LangError.TheVariants.{NoMemory}
use Rattle.hls_lang.specs.Refusals.{IsRefusalOf}

few : (p : Program) → BreaksNoRule (parts_of p) → count p.body < most_states
few p lawful =
    let rows = states_of state_name p.body 1 0 in
    let most = count_states (parts_of p) (all_kept (parts_of p) lawful.plain) in
    let all = length_numbered 0 (entry_block p.body ∷ rows) in
    let each = length_states state_name p.body 1 0 in
    omega (arith, most, all, each)

-- of what is the parts of a program
pub formed : (p : Program) (s : Source) → s ≡ parts_of p → IsTrue (is_well_formed_program p) → IsTrue (parts.is_well_formed s)
formed p s e h = subst (λ (x : Source). IsTrue (parts.is_well_formed x)) (sym e) (parts_fine p h)

pub lawful : (p : Program) (s : Source) → s ≡ parts_of p → BreaksNoRule s → BreaksNoRule (parts_of p)
lawful p s e h = subst BreaksNoRule e h

pub does : (p : Program) (s : Source) (m : Fsmd) → s ≡ parts_of p → m ≡ machine_of s → BreaksNoRule s → DoesAs p m
does p s m e i h = subst (DoesAs p) (sym (i ∙ ap machine_of e)) (does_as p (few p (lawful p s e h)))

pub broken : (p : Program) (s : Source) (f : CheckFault) → s ≡ parts_of p → IsFirstBroken s f → IsFirstBroken (parts_of p) f
broken p s f e h = subst (λ (x : Source). IsFirstBroken x f) e h

pub no_memory : (p : Source) (e : LangError) → e ≡ NoMemory → IsRefusalOf p e
no_memory p e h = subst (IsRefusalOf p) (sym h) tt

-- of parts that break no rule none is the first broken one
pub not_refused : (p : Program) (s : Source) (f : CheckFault) → s ≡ parts_of p → BreaksNoRule (parts_of p) → IsFirstBroken s f → ⊥
not_refused p s f e h b = unbroken (parts_of p) f h (broken p s f e b).broken

-- parts of which a rule is broken have no machine
pub not_built : (p : Program) (s : Source) (f : CheckFault) → s ≡ parts_of p → Broken (parts_of p) f → BreaksNoRule s → ⊥
not_built p s f e b h = unbroken (parts_of p) f (lawful p s e h) b

-- what each answer of a compilation needs
pub ruleset answers = (lawful, does, broken, no_memory)
