-- What the status of a call of synthesis tells.
use Rattle.std.proofs.Common.{◌≡◌, Option, Some, refl, ap}
use Rattle.std.specs.Prelude.{IsTrue}
use Rattle.std.proofs.lemmas.Bool.{false≢true}
use Rattle.fsmd_words.specs.AskedWords.{Asked, Compile, Schedule, Bind}
use Rattle.fs_model.specs.Source.{Source}
use Rattle.fs_ast.specs.MachineOfParts.{machine_of}
use Rattle.hls_unit_counts.specs.Counts.{Units}
use Rattle.hls_program_parts.specs.Programs.{Program}
use Rattle.fsmd_replies.specs.declared.answer.Status.TheVariants as statuses
use Rattle.fsmd_replies.specs.declared.answer.Answer.{Answer}
use Rattle.fsmd_replies.specs.declared.answer.Answer.TheVariants.{Text}
use Rattle.fsmd_answers.specs.LineAnswers.{HasLines}
use Rattle.fsmd_replies.specs.AskedFiles.{operand}
use Rattle.fsmd_answers.specs.MachineFiles.{SpellsParts}
use Rattle.fsmd_answers.specs.Refusals.{RefusesMachine}
use Rattle.fsmd_answers.specs.ProgramFiles.{RefusesProgram, SpellsProgram, IsOfProgram}
use Rattle.fsmd_answers.specs.ScheduleFiles.{HaveUnitFault, RefusesUnits, SpellUnits, IsOfSchedule, IsOver, InRows}
use Rattle.fsmd_answers.specs.ProgramAnswers.{IsCompiledText}
use Rattle.fsmd_answers.specs.ScheduleAnswers.{IsScheduleText}
use Rattle.fsmd_answers.specs.BindingAnswers.{Binding, IsBoundText}
use Rattle.fsmd_answers.specs.BindingFiles.{HasBindingFault, RefusesBinding, SpellsBinding, IsOfBinding, IsBound, Loses}
use Rattle.fsmd_replies.specs.Replies.{lines_of}
use Rattle.fsmd_answers.specs.Follows.{Ends, OpensParts, OpensProgram, OpensUnits, OpensBinding, FollowsFrom}
use Rattle.fsmd_tool.specs.Asking.{is_compile, is_schedule, is_bind}
use Rattle.fsmd_tool.specs.Calls.{Call, IsCorrectFrom}
use Rattle.fsmd_tool.specs.SinkReplies.{Put}
use Rattle.fsmd_tool.specs.Correct.{Answered}
use Rattle.fsmd_tool.specs.Clauses.{IsCompiled, IsInRows, IsInRegisters}
use Rattle.fsmd_tool.proofs.Statuses.{HasStatus, moved, not_refused, machine_refuses, program_refuses, keys_refuse}
use Rattle.fsmd_tool.proofs.Found.{open_next, end_of}
use Rattle.fsmd_tool.proofs.Says.{well, put_lines}

-- ---- programs

compile_follows : (g : Call) (x : Answer) (o : Option Asked) → IsTrue (is_compile o) → IsCorrectFrom (FollowsFrom o) 0 g x
    → IsCorrectFrom (OpensProgram (λ p. Ends (IsOfProgram p))) 0 g x
compile_follows g x (Some (Compile program)) t c = c
compile_follows g x _ t c = absurd (false≢true t)

pub is_compiled : (g : Call) (p : Put) → Answered g p → p.status ≡ statuses.Fine → IsTrue (is_compile g.asked) → IsCompiled g p
is_compiled g p a e t =
    let w = well g p statuses.Fine a refl e in
    let x = a.answer in
    let k = open_next Program RefusesProgram SpellsProgram (λ q. Ends (IsOfProgram q)) 0 g x
    (λ c r. not_refused statuses.Fine x refl (program_refuses (operand 0) c x r) w.meant_is) (compile_follows g x g.asked t a.correct) in
    let l : HasLines (IsCompiledText k.value) Text x = end_of (IsOfProgram k.value) 1 g x k.rest in
    record { program = k.value; text = l.lines; first = k.spells; is = l.holds; put = put_lines g p x l.lines w.got (ap (λ y. lines_of y g.asked) l.is) }

-- ---- machines with a second file

schedule_follows : (g : Call) (x : Answer) (o : Option Asked) → IsTrue (is_schedule o) → IsCorrectFrom (FollowsFrom o) 0 g x
    → IsCorrectFrom (OpensParts (λ parts. OpensUnits (λ counts. Ends (IsOfSchedule parts counts)))) 0 g x
schedule_follows g x (Some (Schedule machine units)) t c = c
schedule_follows g x _ t c = absurd (false≢true t)

in_schedule : (p : Source) (units : Units) (x : Answer) → IsOfSchedule p units x → HasStatus statuses.Fine x → HasLines (IsScheduleText units p) Text x
in_schedule p units x (IsOver q k o e) s = absurd (let h : statuses.BadInput ≡ statuses.Fine = moved statuses.Fine statuses.BadInput x _ e refl s in cc)
in_schedule p units x (InRows l) s = l

pub is_in_rows : (g : Call) (p : Put) → Answered g p → p.status ≡ statuses.Fine → IsTrue (is_schedule g.asked) → IsInRows g p
is_in_rows g p a e t =
    let w = well g p statuses.Fine a refl e in
    let x = a.answer in
    let k = open_next Source RefusesMachine SpellsParts (λ parts. OpensUnits (λ counts. Ends (IsOfSchedule parts counts))) 0 g x
    (λ c r. not_refused statuses.Fine x refl (machine_refuses (operand 0) c x r) w.meant_is) (schedule_follows g x g.asked t a.correct) in
    let u = open_next Units RefusesUnits SpellUnits (λ counts. Ends (IsOfSchedule k.value counts)) 1 g x
    (λ c r. not_refused statuses.Fine x refl (keys_refuse HaveUnitFault (operand 1) c x r) w.meant_is) k.rest in
    let l = in_schedule k.value u.value x (end_of (IsOfSchedule k.value u.value) 2 g x u.rest) w.meant_is in
    record {
      parts = k.value;
      units = u.value;
      text = l.lines;
      first = k.spells;
      second = u.spells;
      is = l.holds;
      put = put_lines g p x l.lines w.got
          (ap (λ y. lines_of y g.asked) l.is);
    }

bind_follows : (g : Call) (x : Answer) (o : Option Asked) → IsTrue (is_bind o) → IsCorrectFrom (FollowsFrom o) 0 g x
    → IsCorrectFrom (OpensParts (λ parts. OpensBinding (machine_of parts) (λ b. Ends (IsOfBinding parts b)))) 0 g x
bind_follows g x (Some (Bind machine binding)) t c = c
bind_follows g x _ t c = absurd (false≢true t)

in_registers : (p : Source) (b : Binding) (x : Answer) → IsOfBinding p b x → HasStatus statuses.Fine x → HasLines (IsBoundText p b) Text x
in_registers p b x (IsBound l) s = l
in_registers p b x (Loses l) s = absurd (let h : statuses.Differ ≡ statuses.Fine = moved statuses.Fine statuses.Differ x _ l.is refl s in cc)

pub is_in_registers : (g : Call) (p : Put) → Answered g p → p.status ≡ statuses.Fine → IsTrue (is_bind g.asked) → IsInRegisters g p
is_in_registers g p a e t =
    let w = well g p statuses.Fine a refl e in
    let x = a.answer in
    let k = open_next Source RefusesMachine SpellsParts (λ parts. OpensBinding (machine_of parts) (λ b. Ends (IsOfBinding parts b))) 0 g x
    (λ c r. not_refused statuses.Fine x refl (machine_refuses (operand 0) c x r) w.meant_is) (bind_follows g x g.asked t a.correct) in
    let m = machine_of k.value in
    let u = open_next Binding (RefusesBinding m) (SpellsBinding m) (λ b. Ends (IsOfBinding k.value b)) 1 g x
    (λ c r. not_refused statuses.Fine x refl (keys_refuse (HasBindingFault m) (operand 1) c x r) w.meant_is) k.rest in
    let l = in_registers k.value u.value x (end_of (IsOfBinding k.value u.value) 2 g x u.rest) w.meant_is in
    record {
      parts = k.value;
      binding = u.value;
      text = l.lines;
      first = k.spells;
      second = u.spells;
      is = l.holds;
      put = put_lines g p x l.lines w.got
          (ap (λ y. lines_of y g.asked) {y = Text l.lines} l.is);
    }
