-- Alike machines get the answer of a search that closes, or that a limit stops.
use Rattle.std.proofs.Common.{◌≡◌, ◌∙◌, ℕ, Bool, true, false, List, map, Some, None, ap, sym}
use Rattle.std.specs.Prelude.{is_some}
use Rattle.fsmd_words.specs.AskedWords.{Generate}
use Rattle.fs_model.specs.declared.parts.VarInfo.{VarInfo}
use Rattle.fs_model.specs.Machines.{Fsmd}
use Rattle.fs_model.specs.SoundMachines.{names_differ}
use Rattle.fs_rules.specs.Rules.{declared_names}
use Rattle.fs_rules.proofs.Naming.{names_declared}
use Rattle.fs_ast.proofs.Kept.{differ, all_kept}
use Rattle.fs_pair.specs.Interfaces.{interface_fault}
use Rattle.cert_bisimulation.specs.Alike.{WhereAlike}
use Rattle.search_laws.proofs.Interfaces.{OwnNames, one_interface}
use Rattle.fsmd_tool.proofs.Alike.{closes_where_same, has_limit, no_counterexample}
use Rattle.fsmd_replies.specs.declared.answer.Answer.{Answer}
use Rattle.fsmd_replies.specs.AskedFiles.{cert_of, is_check, step_limit, generated_steps}
use Rattle.fsmd_tool.specs.MachineFiles.{SpellsMachine}
use Rattle.fsmd_tool.specs.ComparisonAnswers.{IsOfPair, Same, Apart, Open, left_of, right_of}
use Rattle.fsmd_tool.specs.Calls.{Call}
use Rattle.fsmd_tool.specs.SinkReplies.{Put}
use Rattle.fsmd_tool.specs.Correct.{Outcome}
use Rattle.fsmd_tool_laws.specs.Settled.{IsKnown}
use Rattle.fsmd_tool_laws.specs.CallOutcomes.{NothingFailed, EndsBy}
use Rattle.fsmd_tool_laws.specs.AlikeAnswers.{IsClosedOrLimitAnswer, OfClosed, OfLimit}
use Rattle.fsmd_tool_laws.proofs.Correct.{machines_checked, loops_answered}
use Rattle.fsmd_tool_laws.proofs.Outcomes.{ends_by}

closed_or_limit : (limit : ℕ) (keeps : Bool) (a b : Fsmd) (x : Answer) → IsOfPair limit keeps a b x → WhereAlike a b (IsClosedOrLimitAnswer keeps a b x)
closed_or_limit limit keeps a b x (Same nodes same e) K alike = OfClosed nodes (closes_where_same a b K alike nodes same.shows) e
closed_or_limit limit keeps a b x (Apart l) K alike = absurd (no_counterexample a b K alike limit l.lines l.holds)
closed_or_limit limit keeps a b x (Open l) K alike = OfLimit (record { lines = l.lines; holds = has_limit a b K alike l.lines l.holds.obstacle; is = l.is })

-- a file spells no name twice
own_names : (m : Fsmd) (bytes : List ℕ) → SpellsMachine m bytes → OwnNames m
own_names m bytes h =
    let ds = h.parts.declarations in
    let once = (all_kept h.parts h.spells.lawful.plain).variables_once in
    ap its_names_differ h.machine ∙ (ap names_differ (sym (names_declared ds)) ∙ differ (declared_names ds) once)
  where
    its_names_differ : Fsmd → Bool
    its_names_differ z = names_differ (map (λ (v : VarInfo). v.name) z.variables)

pub alike_checked : (g : Call) (p : Put) (a b : Fsmd) → is_check g.asked ≡ true → IsKnown g 0 (SpellsMachine a) → IsKnown g 1 (SpellsMachine b)
    → NothingFailed g p → Outcome g p → WhereAlike a b (EndsBy (IsClosedOrLimitAnswer (is_some (cert_of g.asked)) a b) g p)
alike_checked g p a b e first second n o K alike =
    let limit = step_limit g.asked in
    let keeps = is_some (cert_of g.asked) in
    let one : interface_fault a b ≡ None =
    one_interface a b (own_names a first.bytes first.meet) (own_names b second.bytes second.meet) alike.declare_the_same in
    ends_by (IsClosedOrLimitAnswer keeps a b) g p n
    (λ x c. closed_or_limit limit keeps a b x (machines_checked g x a b e (record { left = first; right = second; alike = one }) c) K alike) o

pub alike_generated : (g : Call) (p : Put) (loops : ℕ) → g.asked ≡ Some (Generate loops) → NothingFailed g p → Outcome g p
    → WhereAlike (left_of loops) (right_of loops) (EndsBy (IsClosedOrLimitAnswer false (left_of loops) (right_of loops)) g p)
alike_generated g p loops e n o K alike =
    let a = left_of loops in
    let b = right_of loops in
    ends_by (IsClosedOrLimitAnswer false a b) g p n (λ x c. closed_or_limit generated_steps false a b x (loops_answered g x loops e c) K alike) o
