-- At most one answer follows from files one after another, and from readings that agree and are then one.
use Rattle.std.proofs.Common.{◌≡◌, ℕ, zero, suc, ◌+◌, List, [], ◌∷◌, Option, Some, None, true, false, refl, sym, ◌∙◌, ap, subst}
use Rattle.std.specs.Prelude.{is_some}
use Rattle.std.proofs.lemmas.Option.{same_Some}
use Rattle.fs_model.proofs.Booleans.{true_and_false}
use Rattle.fsmd_words.specs.AskedWords.{Asked, Check, Verify, Run, Replay, Fmt, Cuts, Generate, Compile, Schedule, Bind, Shrink, Chain}
use Rattle.fs_model.specs.Machines.{Fsmd}
use Rattle.fs_model.specs.Runs.{Inputs}
use Rattle.fs_model.specs.Source.{Source}
use Rattle.fs_rules.specs.MachineOfParts.{machine_of}
use Rattle.fs_pair.specs.Interfaces.{interface_fault}
use Rattle.fs_write.specs.Canonical.{canonical}
use Rattle.fs_cut.specs.PathTexts.{paths_text}
use Rattle.hls_program_parts.specs.Programs.{Program}
use Rattle.hls_unit_counts.specs.Counts.{Units}
use Rattle.fsmd_synthesis_answers.specs.BindingAnswers.{Binding}
use Rattle.cert_bisimulation.specs.Tables.{Node}
use Rattle.sym_facts.specs.Facts.{Fact}
use Rattle.fsmd_replies.specs.declared.answer.Operand.{Operand}
use Rattle.fsmd_replies.specs.declared.answer.Answer.{Answer}
use Rattle.fsmd_replies.specs.declared.answer.Answer.TheVariants.{Usage, Text, Link, Interfaces}
use Rattle.fsmd_replies.specs.AskedFiles.{operand, is_check, compares, generated_steps}
use Rattle.fsmd_replies.specs.Statuses.{status_of}
use Rattle.fsmd_replies.specs.ChainTexts.{link_lines}
use Rattle.fsmd_tool.specs.MachineFiles.{SpellsParts, SpellsMachine}
use Rattle.fsmd_tool.specs.Readings.{FileContent, OfBytes, Reading}
use Rattle.fsmd_tool.specs.Refusals.{RefusesMachine, RefusesPair, RefusesCertificate, SpellsCertificate}
use Rattle.fsmd_tool.specs.InputFiles.{SpellsInputs, RefusesInputs}
use Rattle.fsmd_tool.specs.ProgramFiles.{RefusesProgram, SpellsProgram, IsOfProgram}
use Rattle.fsmd_tool.specs.ScheduleFiles.{RefusesUnits, SpellUnits, IsOfSchedule}
use Rattle.fsmd_tool.specs.BindingFiles.{RefusesBinding, SpellsBinding, IsOfBinding}
use Rattle.fsmd_tool.specs.ComparisonAnswers.{IsOfPair, IsOfLoops, left_of, right_of}
use Rattle.fsmd_tool.specs.Verdicts.{IsJudged}
use Rattle.fsmd_tool.specs.RunAnswers.{IsOfRun}
use Rattle.fsmd_tool.specs.Replays.{IsOfReplay}
use Rattle.fsmd_tool.specs.Shrinks.{IsOfShrink}
use Rattle.fsmd_tool.specs.Links.{AtLink, links_of, IsOfChain}
use Rattle.fsmd_tool.specs.Follows.{Ends, OpensWith, Refused, Spelled, Opens, OpensMachine, OpensInputs, OpensCertificate, OpensUnits, OpensBinding}
use Rattle.fsmd_tool.specs.Follows.{ComparesPairs, Other, SameInterface, OpensPair, Judges, Fails, Holds, OpensLinks, FollowsFrom}
use Rattle.fsmd_tool_laws.specs.Agreement.{Agree}
use Rattle.fsmd_tool_laws.specs.OneAnswer.{AreComparedIn, OfFiles, OfLoops, SaySame, One, OfPair}
use Rattle.fsmd_tool_laws.proofs.Contents.{some_none, OpensInOneWay, one_spelled}
use Rattle.fsmd_tool_laws.proofs.Files.{machine_opens, parts_open}
use Rattle.fsmd_tool_laws.proofs.Inputs.{inputs_open}
use Rattle.fsmd_tool_laws.proofs.UnitFiles.{units_open, schedule_once}
use Rattle.fsmd_tool_laws.proofs.BindingFiles.{binding_opens, binding_once}
use Rattle.fsmd_tool_laws.proofs.ProgramFiles.{program_opens, compiled_once}
use Rattle.fsmd_tool_laws.proofs.Certificates.{ReadInOneWay, certificate_opens}
use Rattle.fsmd_tool_laws.proofs.Pairs.{pair_once}
use Rattle.fsmd_tool_laws.proofs.Runs.{run_answer_once}
use Rattle.fsmd_tool_laws.proofs.Replays.{replay_answer_once}
use Rattle.fsmd_tool_laws.proofs.Shrinks.{shrink_answer_once}

-- which answer follows from what was read of the files from a number on
abbrev pub Rule : Type 1
Rule = (file : ℕ) → Reading → Answer → Type 0

-- what is said of two answers, of which the second follows from this reading
abbrev Said : Type 1
Said = Reading → Answer → Answer → Type 0

-- where two readings agree, they are one, and of the answers that follow by P from them this is said
abbrev pub IsOneBy : Said → Rule → Type 0
IsOneBy Say P = (file : ℕ) (r s : Reading) (x y : Answer) → Agree r s → P file r x → P file s y → (r ≡ s) × Say s x y

-- it is said of answers that are one
abbrev IsSaidOfOne : Said → Type 0
IsSaidOfOne Say = (s : Reading) (x y : Answer) → x ≡ y → Say s x y

-- the answers are one
abbrev AreEqual : Said
AreEqual s x y = x ≡ y

abbrev pub IsOne : Rule → Type 0
IsOne P = IsOneBy AreEqual P

said_of_one : (Say : Said) (P : Rule) → IsSaidOfOne Say → IsOne P → IsOneBy Say P
said_of_one Say P same one file r s x y a p q = let t = one file r s x y a p q in (t.0, same s x y t.1)

-- ---- a file behind another

ends_by : (Say : Said) (P : Answer → Type 0) → ((x y : Answer) → P x → P y → Say [] x y) → IsOneBy Say (Ends P)
ends_by Say P once file [] [] x y a p q = (refl, once x y p q)
ends_by Say P once file [] (d ∷ s) x y a p q = absurd q
ends_by Say P once file (c ∷ r) s x y a p q = absurd p

module _ (T : Type 0) (R : Operand → FileContent → Answer → Type 0) (S : T → List ℕ → Type 0) (o : OpensInOneWay T R S) (Say : Said) (same : IsSaidOfOne Say)
    (P : T → Rule)
    (once : (v : T) (c : FileContent) → OfBytes c (S v) → IsOneBy (λ s. Say (c ∷ s)) (P v)) where
  opened_by : (file : ℕ) (c : FileContent) (r s : Reading) (x y : Answer) → Agree r s → OpensWith T R S P file c r x → OpensWith T R S P file c s y
      → (r ≡ s) × Say (c ∷ s) x y
  opened_by file c r s x y a (Refused p e) (Refused q h) = (e ∙ sym h, same (c ∷ s) x y (o.one_refusal (operand file) c x y p q))
  opened_by file c r s x y a (Refused p e) (Spelled w k q) = absurd (o.spelled_is_not_refused (operand file) c w x k p)
  opened_by file c r s x y a (Spelled v l p) (Refused q h) = absurd (o.spelled_is_not_refused (operand file) c v y l q)
  opened_by file c r s x y a (Spelled v l p) (Spelled w k q) =
      once w c k (file + 1) r s x y a (subst (λ u. P u (file + 1) r x) (one_spelled T R S o c v w l k) p) q

  opens_by : IsOneBy Say (Opens T R S P)
  opens_by file [] s x y a p q = absurd p
  opens_by file (c ∷ r) [] x y a p q = absurd q
  opens_by file (c ∷ r) (d ∷ s) x y a p q =
      let t = opened_by file d r s x y a.1 (subst (λ k. OpensWith T R S P file k r x) a.0 p) q in
      (ap (λ k. k ∷ r) a.0 ∙ ap (λ u. d ∷ u) t.0, t.1)

pairs_by : (Say : Said) → IsSaidOfOne Say → (a b : Fsmd) (R : Answer → Type 0) (P : Rule) → ((x y : Answer) → R x → R y → x ≡ y)
    → ((x : Answer) → R x → interface_fault a b ≡ None → ⊥) → IsOneBy Say P → IsOneBy Say (ComparesPairs a b R P)
pairs_by Say same a b R P once apart one file r s x y g (Other p e) (Other q h) = (e ∙ sym h, same s x y (once x y p q))
pairs_by Say same a b R P once apart one file r s x y g (Other p e) (SameInterface i q) = absurd (apart x p i)
pairs_by Say same a b R P once apart one file r s x y g (SameInterface i p) (Other q h) = absurd (apart y q i)
pairs_by Say same a b R P once apart one file r s x y g (SameInterface i p) (SameInterface j q) = one file r s x y g p q

interfaces_once : (a b : Fsmd) (x y : Answer) → RefusesPair a b x → RefusesPair a b y → x ≡ y
interfaces_once a b x y l k = l.is ∙ ap Interfaces (same_Some l.lines k.lines (sym l.holds ∙ k.holds)) ∙ sym k.is

pub other_or_alike : (a b : Fsmd) (x : Answer) → RefusesPair a b x → interface_fault a b ≡ None → ⊥
other_or_alike a b x l i = some_none l.lines (interface_fault a b) l.holds i

-- ---- the same where answers are one

pub ends : (P : Answer → Type 0) → ((x y : Answer) → P x → P y → x ≡ y) → IsOne (Ends P)
ends P once = ends_by AreEqual P once

pub opens : (T : Type 0) (R : Operand → FileContent → Answer → Type 0) (S : T → List ℕ → Type 0) → OpensInOneWay T R S → (P : T → Rule)
    → ((v : T) → IsOne (P v))
    → IsOne (Opens T R S P)
opens T R S o P one = opens_by T R S o AreEqual (λ s x y e. e) P (λ v c l. one v)

-- what follows behind two machines with the same inputs and outputs
pair : (P : Fsmd → Fsmd → Rule) → ((a b : Fsmd) → IsOne (P a b)) → IsOne (OpensPair P)
pair P one =
    opens Fsmd RefusesMachine SpellsMachine machine_opens (λ a. OpensMachine (λ b. ComparesPairs a b (RefusesPair a b) (P a b))) (λ a.
    opens Fsmd RefusesMachine SpellsMachine machine_opens (λ b. ComparesPairs a b (RefusesPair a b) (P a b)) (λ b.
    pairs_by AreEqual (λ s x y e. e) a b (RefusesPair a b) (P a b) (interfaces_once a b) (other_or_alike a b) (one a b)))

inputs : (m : Fsmd) (P : Inputs → Answer → Type 0) → ((ins : Inputs) (x y : Answer) → P ins x → P ins y → x ≡ y) → IsOne (OpensInputs m (λ ins. Ends (P ins)))
inputs m P once = opens Inputs (RefusesInputs m) (SpellsInputs m) (inputs_open m) (λ ins. Ends (P ins)) (λ ins. ends (P ins) (once ins))

judged_once : (a b : Fsmd) (nodes : List (Node Fact)) (x y : Answer) → IsJudged a b nodes x → IsJudged a b nodes y → x ≡ y
judged_once a b nodes x y p q = p.is ∙ sym q.is

-- ---- chains

at_link_once : (o : Option Asked) (link : ℕ) (P : Answer → Type 0) → ((x y : Answer) → P x → P y → x ≡ y) → (x y : Answer) → AtLink o link P x
    → AtLink o link P y → x ≡ y
at_link_once o link P once x y p q = p.is ∙ ap (λ stop. Link (status_of stop) (link_lines o link stop)) (once p.stop q.stop p.meets q.meets) ∙ sym q.is

-- what is one thing is so where its refusals are told as those of a link
pub at_link : (o : Option Asked) (link : ℕ) (T : Type 0) (R : Operand → FileContent → Answer → Type 0) (S : T → List ℕ → Type 0) → OpensInOneWay T R S
    → OpensInOneWay T (λ f c. AtLink o link (R f c)) S
at_link o link T R S i = record {
  one_refusal = λ f c x y p q. at_link_once o link (R f c) (i.one_refusal f c) x y p q;
  one_value = i.one_value;
  spelled_is_not_refused = λ f c v x s p. i.spelled_is_not_refused f c v p.stop s p.meets;
}

judges : (o : Option Asked) (link : ℕ) (a b : Fsmd) (nodes : List (Node Fact)) (P : Rule) → IsOne P → IsOne (Judges o link a b nodes P)
judges o link a b nodes P one file r s x y g (Fails n p e) (Fails m q h) = (e ∙ sym h, at_link_once o link (IsJudged a b nodes) (judged_once a b nodes) x y p q)
judges o link a b nodes P one file r s x y g (Fails n p e) (Holds m q) = absurd (n m)
judges o link a b nodes P one file r s x y g (Holds n p) (Fails m q h) = absurd (m n)
judges o link a b nodes P one file r s x y g (Holds n p) (Holds m q) = one file r s x y g p q

-- what follows behind the machine, and behind the certificate, of a link
abbrev pub BehindCertificate : Option Asked → (link : ℕ) → (last next : Fsmd) → (P : Fsmd → Rule) → List (Node Fact) → Rule
BehindCertificate o link last next P nodes = Judges o link last next nodes (P next)

abbrev pub BehindPair : Option Asked → (link : ℕ) → (last next : Fsmd) → (P : Fsmd → Rule) → Rule
BehindPair o link last next P =
    Opens (List (Node Fact)) (λ f c. AtLink o link (RefusesCertificate last next f c)) (SpellsCertificate last next) (BehindCertificate o link last next P)

abbrev pub BehindMachine : Option Asked → (link : ℕ) → (last : Fsmd) → (P : Fsmd → Rule) → Fsmd → Rule
BehindMachine o link last P next = ComparesPairs last next (AtLink o link (RefusesPair last next)) (BehindPair o link last next P)

abbrev pub OpensLinkWith : Option Asked → (link : ℕ) → (last : Fsmd) → (P : Fsmd → Rule) → Rule
OpensLinkWith o link last P = Opens Fsmd (λ f c. AtLink o link (RefusesMachine f c)) SpellsMachine (BehindMachine o link last P)

link_one : (w : ReadInOneWay) → (o : Option Asked) (link : ℕ) (last : Fsmd) (P : Fsmd → Rule) → ((next : Fsmd) → IsOne (P next))
    → IsOne (OpensLinkWith o link last P)
link_one w o link last P one =
    opens Fsmd (λ f c. AtLink o link (RefusesMachine f c)) SpellsMachine (at_link o link Fsmd RefusesMachine SpellsMachine machine_opens)
    (BehindMachine o link last P) (λ next.
    pairs_by AreEqual (λ s x y e. e) last next (AtLink o link (RefusesPair last next)) (BehindPair o link last next P)
    (at_link_once o link (RefusesPair last next) (interfaces_once last next)) (λ x p i. other_or_alike last next p.stop p.meets i)
    (opens (List (Node Fact)) (λ f c. AtLink o link (RefusesCertificate last next f c)) (SpellsCertificate last next)
    (at_link o link (List (Node Fact)) (RefusesCertificate last next) (SpellsCertificate last next) (certificate_opens w last next))
    (BehindCertificate o link last next P) (λ nodes.
    judges o link last next nodes (P next) (one next))))

links_one : (w : ReadInOneWay) → (o : Option Asked) (first last : Fsmd) (held left : ℕ) → IsOne (OpensLinks o first last held left)
links_one w o first last held zero file r s x y a p q = ends (IsOfChain first last held) (λ x y p q. p.is ∙ sym q.is) file r s x y a p q
links_one w o first last held (suc left) file r s x y a p q =
    link_one w o (held + 1) last (λ next. OpensLinks o first next (held + 1) left) (λ next. links_one w o first next (held + 1) left) file r s x y a p q

-- ---- by commands

check : (left right : List ℕ) (cert : Option (List ℕ)) (steps : ℕ)
    → IsOneBy (SaySame (Some (Check left right cert steps))) (FollowsFrom (Some (Check left right cert steps)))
check left right cert steps =
    let Say : Said = SaySame (Some (Check left right cert steps)) in
    let P : Fsmd → Fsmd → Rule = λ a b. Ends (IsOfPair steps (is_some cert) a b) in
    opens_by Fsmd RefusesMachine SpellsMachine machine_opens Say (λ s x y e. One e)
    (λ a. OpensMachine (λ b. ComparesPairs a b (RefusesPair a b) (P a b))) (λ a c l.
    opens_by Fsmd RefusesMachine SpellsMachine machine_opens (λ s. Say (c ∷ s)) (λ s x y e. One e) (λ b. ComparesPairs a b (RefusesPair a b) (P a b)) (λ b d k.
    pairs_by (λ s. Say (c ∷ d ∷ s)) (λ s x y e. One e) a b (RefusesPair a b) (P a b) (interfaces_once a b) (other_or_alike a b)
    (ends_by (λ s. Say (c ∷ d ∷ s)) (IsOfPair steps (is_some cert) a b)
    (λ x y p q. OfPair a b (OfFiles refl (l, k)) (pair_once steps (is_some cert) a b x y p q)))))

verify : (w : ReadInOneWay) → IsOne (OpensPair (λ a b. OpensCertificate a b (λ nodes. Ends (IsJudged a b nodes))))
verify w =
    pair (λ a b. OpensCertificate a b (λ nodes. Ends (IsJudged a b nodes))) (λ a b.
    opens (List (Node Fact)) (RefusesCertificate a b) (SpellsCertificate a b) (certificate_opens w a b) (λ nodes. Ends (IsJudged a b nodes)) (λ nodes.
    ends (IsJudged a b nodes) (judged_once a b nodes)))

run : (steps : ℕ) → IsOne (OpensMachine (λ m. OpensInputs m (λ ins. Ends (IsOfRun steps m ins))))
run steps =
    opens Fsmd RefusesMachine SpellsMachine machine_opens (λ m. OpensInputs m (λ ins. Ends (IsOfRun steps m ins)))
    (λ m. inputs m (IsOfRun steps m) (run_answer_once steps m))

replay : (steps : ℕ) → IsOne (OpensPair (λ a b. OpensInputs a (λ ins. Ends (IsOfReplay steps a b ins))))
replay steps = pair (λ a b. OpensInputs a (λ ins. Ends (IsOfReplay steps a b ins))) (λ a b. inputs a (IsOfReplay steps a b) (replay_answer_once steps a b))

shrink : (steps : ℕ) → IsOne (OpensPair (λ a b. OpensInputs a (λ ins. Ends (IsOfShrink steps a b ins))))
shrink steps = pair (λ a b. OpensInputs a (λ ins. Ends (IsOfShrink steps a b ins))) (λ a b. inputs a (IsOfShrink steps a b) (shrink_answer_once steps a b))

format : IsOne (Opens Source RefusesMachine SpellsParts (λ parts. Ends (λ x. x ≡ Text (canonical parts))))
format =
    opens Source RefusesMachine SpellsParts parts_open (λ parts. Ends (λ x. x ≡ Text (canonical parts)))
    (λ parts. ends (λ x. x ≡ Text (canonical parts)) (λ x y p q. p ∙ sym q))

paths : IsOne (OpensMachine (λ m. Ends (λ x. x ≡ Text (paths_text m))))
paths =
    opens Fsmd RefusesMachine SpellsMachine machine_opens (λ m. Ends (λ x. x ≡ Text (paths_text m)))
    (λ m. ends (λ x. x ≡ Text (paths_text m)) (λ x y p q. p ∙ sym q))

compile : IsOne (Opens Program RefusesProgram SpellsProgram (λ p. Ends (IsOfProgram p)))
compile = opens Program RefusesProgram SpellsProgram program_opens (λ p. Ends (IsOfProgram p)) (λ p. ends (IsOfProgram p) (compiled_once p))

schedule : IsOne (Opens Source RefusesMachine SpellsParts (λ parts. OpensUnits (λ counts. Ends (IsOfSchedule parts counts))))
schedule =
    opens Source RefusesMachine SpellsParts parts_open (λ parts. OpensUnits (λ counts. Ends (IsOfSchedule parts counts))) (λ parts.
    opens Units RefusesUnits SpellUnits units_open (λ counts. Ends (IsOfSchedule parts counts)) (λ counts.
    ends (IsOfSchedule parts counts) (schedule_once parts counts)))

bind : IsOne (Opens Source RefusesMachine SpellsParts (λ parts. OpensBinding (machine_of parts) (λ b. Ends (IsOfBinding parts b))))
bind =
    opens Source RefusesMachine SpellsParts parts_open (λ parts. OpensBinding (machine_of parts) (λ b. Ends (IsOfBinding parts b))) (λ parts.
    opens Binding (RefusesBinding (machine_of parts)) (SpellsBinding (machine_of parts)) (binding_opens (machine_of parts)) (λ b. Ends (IsOfBinding parts b))
    (λ b.
    ends (IsOfBinding parts b) (binding_once parts b)))

chain : (w : ReadInOneWay) → (o : Option Asked) (left : ℕ) → IsOne (OpensMachine (λ m. OpensLinks o m m 0 left))
chain w o left = opens Fsmd RefusesMachine SpellsMachine machine_opens (λ m. OpensLinks o m m 0 left) (λ m. links_one w o m m 0 left)

-- readings that agree and from which answers follow are one, and the answers say the same
pub follows_one : (w : ReadInOneWay) → (o : Option Asked) → IsOneBy (SaySame o) (FollowsFrom o)
follows_one w None = said_of_one (SaySame None) (Ends (λ x. x ≡ Usage)) (λ s x y e. One e) (ends (λ x. x ≡ Usage) (λ x y p q. p ∙ sym q))
follows_one w (Some (Check left right cert steps)) = check left right cert steps
follows_one w (Some (Verify left right cert)) =
    said_of_one (SaySame (Some (Verify left right cert))) (FollowsFrom (Some (Verify left right cert))) (λ s x y e. One e) (verify w)
follows_one w (Some (Run machine ins steps)) =
    said_of_one (SaySame (Some (Run machine ins steps))) (FollowsFrom (Some (Run machine ins steps))) (λ s x y e. One e) (run steps)
follows_one w (Some (Replay left right ins steps)) =
    said_of_one (SaySame (Some (Replay left right ins steps))) (FollowsFrom (Some (Replay left right ins steps))) (λ s x y e. One e) (replay steps)
follows_one w (Some (Fmt machine)) = said_of_one (SaySame (Some (Fmt machine))) (FollowsFrom (Some (Fmt machine))) (λ s x y e. One e) format
follows_one w (Some (Cuts machine)) = said_of_one (SaySame (Some (Cuts machine))) (FollowsFrom (Some (Cuts machine))) (λ s x y e. One e) paths
follows_one w (Some (Generate loops)) =
    ends_by (SaySame (Some (Generate loops))) (IsOfLoops loops)
    (λ x y p q. OfPair (left_of loops) (right_of loops) (OfLoops loops refl refl refl)
    (pair_once generated_steps false (left_of loops) (right_of loops) x y p q))
follows_one w (Some (Compile program)) = said_of_one (SaySame (Some (Compile program))) (FollowsFrom (Some (Compile program))) (λ s x y e. One e) compile
follows_one w (Some (Schedule machine counts)) =
    said_of_one (SaySame (Some (Schedule machine counts))) (FollowsFrom (Some (Schedule machine counts))) (λ s x y e. One e) schedule
follows_one w (Some (Bind machine binding)) =
    said_of_one (SaySame (Some (Bind machine binding))) (FollowsFrom (Some (Bind machine binding))) (λ s x y e. One e) bind
follows_one w (Some (Shrink left right ins steps)) =
    said_of_one (SaySame (Some (Shrink left right ins steps))) (FollowsFrom (Some (Shrink left right ins steps))) (λ s x y e. One e) (shrink steps)
follows_one w (Some (Chain files)) =
    said_of_one (SaySame (Some (Chain files))) (FollowsFrom (Some (Chain files))) (λ s x y e. One e) (chain w (Some (Chain files)) (links_of files))

-- ---- what compares no machines

check_compares : (o : Option Asked) → is_check o ≡ true → compares o ≡ true
check_compares (Some (Check left right cert steps)) e = refl
check_compares (Some (Generate loops)) e = refl
check_compares o e = e

compared_compares : (o : Option Asked) (r : Reading) (a b : Fsmd) → AreComparedIn o r a b → compares o ≡ true
compared_compares o r a b (OfFiles checks c) = check_compares o checks
compared_compares o r a b (OfLoops loops is left right) = ap compares is

pub uncompared_one : (o : Option Asked) (r : Reading) (x y : Answer) → compares o ≡ false → SaySame o r x y → x ≡ y
uncompared_one o r x y e (One h) = h
uncompared_one o r x y e (OfPair a b c p) = absurd (true_and_false (compares o) (compared_compares o r a b c) e)
