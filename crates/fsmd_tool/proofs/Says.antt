-- What the status of a call tells.
use Rattle.std.proofs.Common.{◌≡◌, ◌∙◌, ℕ, Bool, true, false, List, ◌++◌, Option, Some, None, refl, sym, ap, subst, length, codes}
use Rattle.std.specs.Prelude.{IsTrue, is_some}
use Rattle.std.proofs.lemmas.Bool.{false≢true}
use Rattle.cert_model.specs.Obligations.{verdict_on}
use Rattle.fsmd_words.specs.AskedWords.{Asked, Check, Verify, Generate}
use Rattle.fs_base.specs.Outside.{got_after}
use Rattle.fs_model.specs.Machines.{Fsmd}
use Rattle.cert_bisimulation.specs.Tables.{Node}
use Rattle.sym_facts.specs.Facts.{Fact}
use Rattle.fsmd_answers.specs.WrittenCertificates.{certificate_text}
use Rattle.fsmd_answers.specs.PairAnswers.{IsCounterexample, IsUndecided}
use Rattle.fsmd_replies.specs.declared.answer.Status.{Status}
use Rattle.fsmd_replies.specs.declared.answer.Status.TheVariants as statuses
use Rattle.fsmd_replies.specs.declared.answer.Answer.{Answer}
use Rattle.fsmd_replies.specs.declared.answer.Answer.TheVariants.{Equivalent, Text, Differs, Undecided}
use Rattle.fsmd_replies.specs.Statuses.{status_of, certificate_in}
use Rattle.fsmd_replies.specs.AskedFiles.{operand, file_word_of, compares, is_check, is_verify, cert_of, step_limit}
use Rattle.fsmd_answers.specs.MachineFiles.{SpellsMachine}
use Rattle.fsmd_answers.specs.LineAnswers.{HasLines}
use Rattle.fsmd_answers.specs.ComparisonAnswers.{AreSame, IsOfPair, Same, Apart, Open, text_to_store}
use Rattle.fsmd_answers.specs.Verdicts.{answer_to}
use Rattle.fsmd_replies.specs.Replies.{opening_line, lines_of, reply, equivalent_text, unstored_reply}
use Rattle.fsmd_tool.specs.Asking.{is_generate}
use Rattle.fsmd_tool.specs.Calls.{Call, MayHold}
use Rattle.fsmd_tool.specs.SinkReplies.{Put, IsPut, Whole, Cut}
use Rattle.fsmd_tool.specs.CertificateStores.{FileChange, file_change, IsStoredUnder, FileToStore, file_to_store, file_to_store_of, to_store, Leaves, LeftAlone}
use Rattle.fsmd_tool.specs.CertificateStores.{LeftStored, LeftUnstored}
use Rattle.fsmd_tool.specs.Correct.{IsCorrectAnswer, IsDone, Kept, Stored, Unstored, Answered}
use Rattle.fsmd_tool.specs.Equivalent.{AreOfFiles, AreOfLoops, AreCompared, OfFiles, OfLoops, HasPut, ArePairedMachines}
use Rattle.fsmd_tool.specs.Equivalent.{AreEquivalent, AreGeneratedEquivalent, AreVerified}
use Rattle.fsmd_tool.specs.Clauses.{SaysSame, SaysDiffer, SaysUndecided, IsChecked, KeepsFiles, AllKept, CertificateStored, CertificateFailed}
use Rattle.fsmd_tool.proofs.Statuses.{HasStatus, moved, is_refusal, judged_yes}
use Rattle.fsmd_tool.proofs.Found.{compared, checked}

-- ---- what was put with a status that is none of a fault

pub record IsWell (e : Option FileToStore) (reply : List ℕ) (meant s : Status) (st : FileChange) (p : Put) : Type 0 where
  pub meant_is : meant ≡ s
  pub got : p.got_now ≡ got_after p.got_before reply
  pub stored : (x : FileToStore) → e ≡ Some x → IsStoredUnder x.name x.bytes st

cut_not : (s : Status) → is_refusal s ≡ false → statuses.Fault ≡ s → ⊥
cut_not s away e = false≢true (sym away ∙ ap is_refusal (sym e))

put_well : (e : Option FileToStore) (reply : List ℕ) (meant s : Status) (st : FileChange) (p : Put) → is_refusal s ≡ false → p.status ≡ s
    → ((x : FileToStore) → e ≡ Some x → IsStoredUnder x.name x.bytes st) → IsPut reply meant p → IsWell e reply meant s st p
put_well e reply meant s st p away is h (Whole w) = record { meant_is = sym w.status ∙ is; got = w.got; stored = h }
put_well e reply meant s st p away is h (Cut w) = absurd (cut_not s away (sym w.status ∙ is))

unstored_not : (reply : List ℕ) (s : Status) (p : Put) → is_refusal s ≡ false → p.status ≡ s → IsPut reply statuses.Fault p → ⊥
unstored_not reply s p away is (Whole w) = cut_not s away (sym w.status ∙ is)
unstored_not reply s p away is (Cut w) = cut_not s away (sym w.status ∙ is)

only_entry : (e : Option FileToStore) (x : FileToStore) (st : FileChange) → e ≡ Some x → IsStoredUnder x.name x.bytes st → (y : FileToStore) → e ≡ Some y
    → IsStoredUnder y.name y.bytes st
only_entry e x st is s y other = let same : Some x ≡ Some y = sym is ∙ other in let one : x ≡ y = cc in subst (λ z. IsStoredUnder z.name z.bytes st) one s

no_entry : (e : Option FileToStore) (st : FileChange) → e ≡ None → (y : FileToStore) → e ≡ Some y → IsStoredUnder y.name y.bytes st
no_entry e st none y some = absurd (let bad : None ≡ Some y = sym none ∙ some in cc)

done_well : (e : Option FileToStore) (reply : List ℕ) (meant s : Status) (st : FileChange) (p : Put) → is_refusal s ≡ false → p.status ≡ s
    → IsDone e reply meant st p
    → IsWell e reply meant s st p
done_well e reply meant s st p away is (Kept none k put) = put_well e reply meant s st p away is (no_entry e st none) put
done_well e reply meant s st p away is (Stored x some k put) = put_well e reply meant s st p away is (only_entry e x st some k) put
done_well e reply meant s st p away is (Unstored x some u put) = absurd (unstored_not (unstored_reply x.name) s p away is put)

pub well : (g : Call) (p : Put) (s : Status) (a : Answered g p) → is_refusal s ≡ false → p.status ≡ s
    → IsWell (to_store g.asked a.answer) (reply a.answer g.asked) (status_of a.answer) s (file_change g.before g.now) p
well g p s a away is = done_well (to_store g.asked a.answer) (reply a.answer g.asked) (status_of a.answer) s (file_change g.before g.now) p away is a.done

-- ---- the answer to two machines, by its status

record Alike (keeps : Bool) (a b : Fsmd) (x : Answer) : Type 0 where
  nodes : List (Node Fact)
  same : AreSame a b nodes
  is : x ≡ Equivalent (length nodes) (text_to_store keeps (certificate_text a b nodes))

fine : (limit : ℕ) (keeps : Bool) (a b : Fsmd) (x : Answer) → IsOfPair limit keeps a b x → HasStatus statuses.Fine x → Alike keeps a b x
fine limit keeps a b x (Same ns same e) s = record { nodes = ns; same = same; is = e }
fine limit keeps a b x (Apart l) s = absurd (let h : statuses.Differ ≡ statuses.Fine = moved statuses.Fine statuses.Differ x _ l.is refl s in cc)
fine limit keeps a b x (Open l) s = absurd (let h : statuses.Undecided ≡ statuses.Fine = moved statuses.Fine statuses.Undecided x _ l.is refl s in cc)

differ : (limit : ℕ) (keeps : Bool) (a b : Fsmd) (x : Answer) → IsOfPair limit keeps a b x → HasStatus statuses.Differ x
    → HasLines (IsCounterexample limit a b) Differs x
differ limit keeps a b x (Same ns same e) s = absurd (let h : statuses.Fine ≡ statuses.Differ = moved statuses.Differ statuses.Fine x _ e refl s in cc)
differ limit keeps a b x (Apart l) s = l
differ limit keeps a b x (Open l) s = absurd (let h : statuses.Undecided ≡ statuses.Differ = moved statuses.Differ statuses.Undecided x _ l.is refl s in cc)

undecided : (limit : ℕ) (keeps : Bool) (a b : Fsmd) (x : Answer) → IsOfPair limit keeps a b x → HasStatus statuses.Undecided x
    → HasLines (IsUndecided limit a b) Undecided x
undecided limit keeps a b x (Same ns same e) s = absurd (let h : statuses.Fine ≡ statuses.Undecided = moved statuses.Undecided statuses.Fine x _ e refl s in cc)
undecided limit keeps a b x (Apart l) s = absurd (let h : statuses.Differ ≡ statuses.Undecided = moved statuses.Undecided statuses.Differ x _ l.is refl s in cc)
undecided limit keeps a b x (Open l) s = l

-- what is to be stored of an equivalent answer
stores_text : (o : Option Asked) (x : Answer) (nodes : ℕ) (text name : List ℕ) → x ≡ Equivalent nodes (text_to_store (is_some (cert_of o)) text)
    → cert_of o ≡ Some name → to_store o x ≡ Some (file_to_store name text)
stores_text o x nodes text name is e = rw (is, e) refl

pub put_lines : (g : Call) (p : Put) (x : Answer) (lines : List ℕ) → p.got_now ≡ got_after p.got_before (reply x g.asked) → lines_of x g.asked ≡ lines
    → HasPut g p lines
put_lines g p x lines got is = got ∙ ap (λ l. got_after p.got_before (opening_line g.asked ++ l)) is

pub says_same : (g : Call) (p : Put) → Answered g p → p.status ≡ statuses.Fine → IsTrue (compares g.asked) → SaysSame g p
says_same g p a e t =
    let w = well g p statuses.Fine a refl e in
    let c = compared g statuses.Fine a.answer refl w.meant_is a.correct t in
    let k = fine (step_limit g.asked) (is_some (cert_of g.asked)) c.left c.right a.answer c.answer w.meant_is in
    record {
      left = c.left;
      right = c.right;
      paired = c.paired;
      nodes = k.nodes;
      shows = k.same.shows;
      holds = k.same.shows.certificate;
      same = k.same.same;
      put = put_lines g p a.answer (equivalent_text (length k.nodes)) w.got (ap (λ x. lines_of x g.asked) k.is);
      stored = λ name named. w.stored (file_to_store name (certificate_text c.left c.right k.nodes))
          (stores_text g.asked a.answer (length k.nodes) (certificate_text c.left c.right k.nodes) name k.is named);
    }

check_compares : (o : Option Asked) → IsTrue (is_check o) → IsTrue (compares o)
check_compares (Some (Check left right cert steps)) t = refl
check_compares _ t = absurd (false≢true t)

generate_compares : (o : Option Asked) → IsTrue (is_generate o) → IsTrue (compares o)
generate_compares (Some (Generate loops)) t = refl
generate_compares _ t = absurd (false≢true t)

-- what a check compares stands in files
of_files_alone : (g : Call) (a b : Fsmd) → IsTrue (is_check g.asked) → AreCompared g a b → AreOfFiles g a b
of_files_alone g a b t (OfFiles f) = f
of_files_alone g a b t (OfLoops l) = absurd (false≢true (subst (λ o. IsTrue (is_check o)) l.asked t))

of_loops_alone : (g : Call) (a b : Fsmd) → IsTrue (is_generate g.asked) → AreCompared g a b → AreOfLoops g a b
of_loops_alone g a b t (OfFiles f) = absurd (false≢true (subst (λ o. IsTrue (is_generate o)) f.asked t))
of_loops_alone g a b t (OfLoops l) = l

pub are_equivalent : (g : Call) (p : Put) → Answered g p → p.status ≡ statuses.Fine → IsTrue (is_check g.asked) → AreEquivalent g p
are_equivalent g p a e t = let s = says_same g p a e (check_compares g.asked t) in record {
  left = s.left;
  right = s.right;
  compared = of_files_alone g s.left s.right t s.paired.compared;
  alike = s.paired.alike;
  same = s.same;
  nodes = length s.nodes;
  put = s.put;
}

pub are_generated_equivalent : (g : Call) (p : Put) → Answered g p → p.status ≡ statuses.Fine → IsTrue (is_generate g.asked)
    → AreGeneratedEquivalent g p
are_generated_equivalent g p a e t = let s = says_same g p a e (generate_compares g.asked t) in record {
  left = s.left;
  right = s.right;
  compared = of_loops_alone g s.left s.right t s.paired.compared;
  alike = s.paired.alike;
  same = s.same;
  nodes = length s.nodes;
  put = s.put;
}

pub says_differ : (g : Call) (p : Put) → Answered g p → p.status ≡ statuses.Differ → IsTrue (compares g.asked) → SaysDiffer g p
says_differ g p a e t =
    let w = well g p statuses.Differ a refl e in
    let c = compared g statuses.Differ a.answer refl w.meant_is a.correct t in
    let l = differ (step_limit g.asked) (is_some (cert_of g.asked)) c.left c.right a.answer c.answer w.meant_is in
    record {
      left = c.left;
      right = c.right;
      paired = c.paired;
      lines = l.lines;
      shows = l.holds;
      put = put_lines g p a.answer l.lines w.got
          (ap (λ x. lines_of x g.asked) l.is);
    }

pub says_undecided : (g : Call) (p : Put) → Answered g p → p.status ≡ statuses.Undecided → IsTrue (compares g.asked) → SaysUndecided g p
says_undecided g p a e t =
    let w = well g p statuses.Undecided a refl e in
    let c = compared g statuses.Undecided a.answer refl w.meant_is a.correct t in
    let l = undecided (step_limit g.asked) (is_some (cert_of g.asked)) c.left c.right a.answer c.answer w.meant_is in
    record {
      left = c.left;
      right = c.right;
      paired = c.paired;
      lines = l.lines;
      is_undecided = l.holds;
      put = put_lines g p a.answer l.lines w.got
          (ap (λ x. lines_of x g.asked) l.is);
    }

-- the reply to a certificate begins with no other line
no_opening : (o : Option Asked) → IsTrue (is_verify o) → (x : Answer) → reply x o ≡ lines_of x o
no_opening (Some (Verify left right cert)) t x = refl
no_opening _ t x = absurd (false≢true t)

pub is_checked : (g : Call) (p : Put) → Answered g p → p.status ≡ statuses.Fine → IsTrue (is_verify g.asked) → IsChecked g p
is_checked g p a e t =
    let w = well g p statuses.Fine a refl e in
    let c = checked g statuses.Fine a.answer refl w.meant_is a.correct t in
    let yes = judged_yes c.left c.right (verdict_on c.left c.right c.nodes) a.answer c.judged.is w.meant_is in
    let is : a.answer ≡ Text (codes "yes\n") = c.judged.is ∙ ap (answer_to c.left c.right) yes in
    record {
      left = c.left;
      right = c.right;
      nodes = c.nodes;
      first = c.first;
      second = c.second;
      third = c.third;
      alike = c.alike;
      hold = yes;
      same = c.judged.same yes;
      put = w.got ∙ ap (got_after p.got_before) (no_opening g.asked t a.answer ∙ ap (λ x. lines_of x g.asked) is);
    }

-- the words that ask to check a certificate
record AskVerify (o : Option Asked) : Type 0 where
  left : List ℕ
  right : List ℕ
  cert : List ℕ
  is : o ≡ Some (Verify left right cert)

ask_verify : (o : Option Asked) → IsTrue (is_verify o) → AskVerify o
ask_verify (Some (Verify left right cert)) t = record { left = left; right = right; cert = cert; is = refl }
ask_verify _ t = absurd (false≢true t)

pub are_verified : (g : Call) (p : Put) → Answered g p → p.status ≡ statuses.Fine → IsTrue (is_verify g.asked) → AreVerified g p
are_verified g p a e t =
    let c = is_checked g p a e t in
    let w = ask_verify g.asked t in
    record {
      left_file = w.left;
      right_file = w.right;
      cert_file = w.cert;
      asked = w.is;
      left = c.left;
      right = c.right;
      first = subst (λ o. MayHold (g.before.holds (file_word_of o (operand 0))) (SpellsMachine c.left)) w.is c.first;
      second = subst (λ o. MayHold (g.before.holds (file_word_of o (operand 1))) (SpellsMachine c.right)) w.is c.second;
      alike = c.alike;
      same = c.same;
      put = c.put;
    }

-- ---- files that are changed

-- an answer with a certificate is an equivalent one
with_certificate : (x : Answer) (text : List ℕ) → certificate_in x ≡ Some text → HasStatus statuses.Fine x
with_certificate (Equivalent nodes cert) text e = refl
with_certificate _ text e = cc

record IsEntry (cert text : Option (List ℕ)) (x : FileToStore) : Type 0 where
  named : cert ≡ Some x.name
  told : text ≡ Some x.bytes

is_entry : (cert text : Option (List ℕ)) (x : FileToStore) → file_to_store_of cert text ≡ Some x → IsEntry cert text x
is_entry None text x e = absurd (cc)
is_entry (Some name) None x e = absurd (cc)
is_entry (Some name) (Some bytes) x e = let same : file_to_store name bytes ≡ x =
    cc in record { named = ap (λ z. Some z.name) same; told = ap (λ z. Some z.bytes) same }

named_compares : (o : Option Asked) (name : List ℕ) → cert_of o ≡ Some name → IsTrue (compares o)
named_compares (Some (Check left right cert steps)) name e = refl
named_compares _ name e = absurd (cc)

-- what is to be stored is the text of a certificate that shows that the machines have the same behaviour
record IsOfSearch (g : Call) (x : FileToStore) : Type 0 where
  named : cert_of g.asked ≡ Some x.name
  left : Fsmd
  right : Fsmd
  paired : ArePairedMachines g left right
  nodes : List (Node Fact)
  same : AreSame left right nodes
  text : x.bytes ≡ certificate_text left right nodes

kept_text : (keeps : Bool) (text bytes : List ℕ) → text_to_store keeps text ≡ Some bytes → bytes ≡ text
kept_text true text bytes e = cc
kept_text false text bytes e = absurd (cc)

of_search : (g : Call) (y : Answer) (x : FileToStore) → IsCorrectAnswer g y → to_store g.asked y ≡ Some x → IsOfSearch g x
of_search g y x c e =
    let i = is_entry (cert_of g.asked) (certificate_in y) x e in
    let f = with_certificate y x.bytes i.told in
    let m = compared g statuses.Fine y refl f c (named_compares g.asked x.name i.named) in
    let k = fine (step_limit g.asked) (is_some (cert_of g.asked)) m.left m.right y m.answer f in
    record {
      named = i.named;
      left = m.left;
      right = m.right;
      paired = m.paired;
      nodes = k.nodes;
      same = k.same;
      text = kept_text (is_some (cert_of g.asked)) (certificate_text m.left m.right k.nodes) x.bytes (sym (ap certificate_in k.is) ∙ i.told);
    }

pub keeps_files : (g : Call) (y : Answer) → IsCorrectAnswer g y → Leaves (to_store g.asked y) (file_change g.before g.now) → KeepsFiles g
keeps_files g y c (LeftAlone k) = AllKept k
keeps_files g y c (LeftStored x e h) = let o =
    of_search g y x c e in CertificateStored x.name o.named o.left o.right o.paired o.nodes o.same.shows
    (subst (λ t. IsStoredUnder x.name t (file_change g.before g.now)) o.text h)
keeps_files g y c (LeftUnstored x e h) = let o = of_search g y x c e in CertificateFailed x.name o.named o.left o.right o.paired o.nodes o.same.shows h
