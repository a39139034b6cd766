-- The broken rules of one transition and of one state, noted one after another.
use Rattle.std.proofs.Common.{◌≡◌, ℕ, Bool, List, ◌++◌, sym, ◌∙◌, ap}
use Rattle.std.specs.Prelude.{false, not, nat_lt, Option}
use Rattle.fs_model.specs.declared.parts.VarInfo.{VarInfo}
use Rattle.fs_model.specs.Expressions.{Transition}
use Rattle.fs_model.specs.Source.{SourceTransition, SourceState}
use Rattle.fs_rules.specs.declared.check.CheckRule.TheVariants.{UnknownName, WrongSort, AssignInput, AssignedTwice, UnknownState, TooManyEmits, NoElse}
use Rattle.fs_rules.specs.declared.check.CheckRule.TheVariants.{AfterElse}
use Rattle.fs_rules.specs.declared.check.CheckFault.{CheckFault}
use Rattle.fs_model.specs.Limits.{most_emits}
use Rattle.fs_model.specs.SoundMachines.{assigned_in, all_differ, emit_count}
use Rattle.fs_rules.specs.Rules.{uses_unknown, uses_wrong_sort, changes_input, transition_faults, transitions_faults, state_faults, at_lines, after_else}
use Rattle.fs_rules.specs.Rules.{lacks_else}
use Rattle.fs_rules.specs.Rules.{broken_where}
use Rattle.fs_rules.specs.FirstFault.{earliest}
use Rattle.fs_rules.proofs.FirstFaults.{earliest-append, earliest_three}

pub state_noted : (vs : List VarInfo) (ss : List (List ℕ)) (s : SourceState) (ls : List SourceTransition) → ls ≡ s.transitions
    → (known one two three : Option CheckFault) (b : Bool)
    → b ≡ lacks_else ls → one ≡ earliest known (broken_where b NoElse s.line) → two ≡ earliest one (at_lines AfterElse (after_else false ls))
    → three ≡ earliest two (transitions_faults vs ss ls)
    → three ≡ earliest known (state_faults vs ss s)
state_noted vs ss s ls same known one two three b e f g h =
    h ∙ ap (λ k. earliest k (transitions_faults vs ss ls))
    (g ∙ ap (λ k. earliest k (at_lines AfterElse (after_else false ls))) (f ∙ ap (λ t. earliest known (broken_where t NoElse s.line)) e))
    ∙ earliest_three known (broken_where (lacks_else ls) NoElse s.line) (at_lines AfterElse (after_else false ls)) (transitions_faults vs ss ls)
    ∙ ap (λ l. earliest known (broken_where (lacks_else l) NoElse s.line ++ (at_lines AfterElse (after_else false l) ++ transitions_faults vs ss l))) same

pub transition_noted : (vs : List VarInfo) (count n : ℕ) (l : Transition ℕ ℕ) (known one two three four five six : Option CheckFault)
    (unknown sort input twice target emits : Bool)
    → unknown ≡ uses_unknown vs l → sort ≡ uses_wrong_sort vs l → input ≡ changes_input vs l → twice ≡ not (all_differ (assigned_in l.assignments))
    → target ≡ not (nat_lt l.target count)
    → emits ≡ nat_lt most_emits (emit_count l.assignments)
    → one ≡ earliest known (broken_where unknown UnknownName n) → two ≡ earliest one (broken_where sort WrongSort n)
    → three ≡ earliest two (broken_where input AssignInput n)
    → four ≡ earliest three (broken_where twice AssignedTwice n) → five ≡ earliest four (broken_where target UnknownState n)
    → six ≡ earliest five (broken_where emits TooManyEmits n)
    → six ≡ earliest known (transition_faults vs count n l)
transition_noted vs count n l known one two three four five six unknown sort input twice target emits a b c d e m f g h i j o =
    let u = broken_where (uses_unknown vs l) UnknownName n in
    let w = broken_where (uses_wrong_sort vs l) WrongSort n in
    let p = broken_where (changes_input vs l) AssignInput n in
    let t = broken_where (not (all_differ (assigned_in l.assignments))) AssignedTwice n in
    let s = broken_where (not (nat_lt l.target count)) UnknownState n in
    let x = broken_where (nat_lt most_emits (emit_count l.assignments)) TooManyEmits n in
    let first : one ≡ earliest known u = f ∙ ap (λ y. earliest known (broken_where y UnknownName n)) a in
    let second : two ≡ earliest (earliest known u) w = g ∙ ap (λ y. earliest one (broken_where y WrongSort n)) b ∙ ap (λ k. earliest k w) first in
    let third : three ≡ earliest (earliest (earliest known u) w) p = h ∙ ap (λ y. earliest two (broken_where y AssignInput n)) c
    ∙ ap (λ k. earliest k p) second in
    let fourth : four ≡ earliest (earliest (earliest (earliest known u) w) p) t = i ∙ ap (λ y. earliest three (broken_where y AssignedTwice n)) d
    ∙ ap (λ k. earliest k t) third in
    let fifth : five ≡ earliest (earliest (earliest (earliest (earliest known u) w) p) t) s = j ∙ ap (λ y. earliest four (broken_where y UnknownState n)) e
    ∙ ap (λ k. earliest k s) fourth in
    o ∙ ap (λ y. earliest five (broken_where y TooManyEmits n)) m ∙ ap (λ k. earliest k x) fifth
    ∙ earliest_three (earliest (earliest (earliest known u) w) p) t s x
    ∙ earliest_three (earliest known u) w p (t ++ (s ++ x))
    ∙ sym (earliest-append known u (w ++ (p ++ (t ++ (s ++ x)))))
