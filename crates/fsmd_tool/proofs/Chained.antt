-- What the status of a call of `chain` tells.
use Rattle.std.proofs.Common.{◌≡◌, true, ℕ, zero, suc, ◌+◌, ◌-◌, ◌*◌, List, ◌++◌, Option, Some, None, refl, ap, subst, codes, decimal, arith}
use Rattle.std.specs.Prelude.{IsTrue}
use Rattle.std.proofs.lemmas.Bool.{false≢true}
use Rattle.fsmd_words.specs.AskedWords.{Asked, Chain}
use Rattle.fs_model.specs.Machines.{Fsmd}
use Rattle.fs_pair.specs.Interfaces.{interface_fault}
use Rattle.cert_bisimulation.specs.Tables.{Node}
use Rattle.sym_facts.specs.Facts.{Fact}
use Rattle.cert_model.specs.Obligations.{Yes, verdict_on}
use Rattle.fsmd_replies.specs.declared.answer.Status.TheVariants as statuses
use Rattle.fsmd_replies.specs.declared.answer.Answer.{Answer}
use Rattle.fsmd_replies.specs.Statuses.{status_of}
use Rattle.fsmd_replies.specs.AskedFiles.{operand}
use Rattle.fsmd_answers.specs.MachineFiles.{SpellsMachine}
use Rattle.fsmd_answers.specs.Readings.{Reading}
use Rattle.fsmd_answers.specs.Refusals.{RefusesMachine, RefusesPair, RefusesCertificate, SpellsCertificate}
use Rattle.fsmd_answers.specs.Verdicts.{IsJudged}
use Rattle.fsmd_answers.specs.Links.{AtLink, links_of, IsOfChain}
use Rattle.fsmd_replies.specs.Replies.{lines_of}
use Rattle.fsmd_answers.specs.Follows.{Judges, Fails, Holds, OpensMachine, OpensLink, OpensLinks, FollowsFrom}
use Rattle.fsmd_tool.specs.Asking.{is_chain}
use Rattle.fsmd_tool.specs.Calls.{Call, known_at_start, MayHold, MayRead, IsCorrectFrom}
use Rattle.fsmd_tool.specs.SinkReplies.{Put}
use Rattle.fsmd_tool.specs.Correct.{Answered}
use Rattle.fsmd_tool.specs.HoldingLinks.{LinksHold}
use Rattle.fsmd_tool.specs.Equivalent.{AreChained}
use Rattle.fsmd_tool.specs.Clauses.{IsChained}
use Rattle.fsmd_tool.proofs.Statuses.{HasStatus, is_refusal, not_refused, machine_refuses, pair_refuses, certificate_refuses, link_refuses, link_status}
use Rattle.fsmd_tool.proofs.Statuses.{judged_yes}
use Rattle.fsmd_tool.proofs.Linked.{judges, certificates, nexts}
use Rattle.fsmd_tool.proofs.Found.{open_next, end_of, alike_of}
use Rattle.fsmd_tool.proofs.Says.{well, put_lines}

-- ---- one link

-- the verdict on a certificate is yes, and this follows
record IsYes (a b : Fsmd) (nodes : List (Node Fact)) (P : (file : ℕ) → Reading → Answer → Type 0) (n : ℕ) (g : Call) (x : Answer) : Type 0 where
  hold : verdict_on a b nodes ≡ Yes
  rest : IsCorrectFrom P n g x

module _ (o : Option Asked) (k : ℕ) (a b : Fsmd) (nodes : List (Node Fact)) (P : (file : ℕ) → Reading → Answer → Type 0) (n : ℕ) (g : Call) (x : Answer) where
  judged : (r : Reading) → HasStatus statuses.Fine x → MayRead g n r → Judges o k a b nodes P n r x → IsYes a b nodes P n g x
  judged r s may (Fails other l e) = absurd (other (judged_yes a b (verdict_on a b nodes) l.stop l.meets.is
      (link_status statuses.Fine o k (IsJudged a b nodes) x l s)))
  judged r s may (Holds hold p) = record { hold = hold; rest = record { reading = r; may_be_read = may; follows = p } }

-- the files of a link, where its answer is none of its own, and what follows from the files behind it
record OfLink (g : Call) (n : ℕ) (last : Fsmd) (P : Fsmd → (file : ℕ) → Reading → Answer → Type 0) (x : Answer) : Type 0 where
  next : Fsmd
  nodes : List (Node Fact)
  machine : MayHold (known_at_start g (operand n)) (SpellsMachine next)
  alike : interface_fault last next ≡ None
  certificate : MayHold (known_at_start g (operand (n + 1))) (SpellsCertificate last next nodes)
  hold : verdict_on last next nodes ≡ Yes
  rest : IsCorrectFrom (P next) (n + 2) g x

module _ (o : Option Asked) (k : ℕ) (last : Fsmd) (P : Fsmd → (file : ℕ) → Reading → Answer → Type 0) (n : ℕ) (g : Call) (x : Answer)
    (s : HasStatus statuses.Fine x) where
  -- the answer is no refusal, told as that of the link
  no_own : (Q : Answer → Type 0) → ((y : Answer) → Q y → is_refusal (status_of y) ≡ true) → AtLink o k Q x → ⊥
  no_own Q refuses l = not_refused statuses.Fine x refl (link_refuses o k Q x refuses l) s

  of_link : IsCorrectFrom (OpensLink o k last P) n g x → OfLink g n last P x
  of_link c =
      let m = open_next Fsmd (λ f d. AtLink o k (RefusesMachine f d)) SpellsMachine (nexts o k last P) n g x
      (λ d r. no_own (RefusesMachine (operand n) d) (λ y p. machine_refuses (operand n) d y p) r) c in
      let b = m.value in
      let t = alike_of last b (AtLink o k (RefusesPair last b)) (certificates o k last b (P b)) (n + 1) g x
      (λ r. no_own (RefusesPair last b) (λ y p. pair_refuses last b y p) r) m.rest in
      let q = open_next (List (Node Fact)) (λ f d. AtLink o k (RefusesCertificate last b f d)) (SpellsCertificate last b) (judges o k last b (P b)) (n + 1) g x
      (λ d r. no_own (RefusesCertificate last b (operand (n + 1)) d) (λ y p. certificate_refuses last b (operand (n + 1)) d y p) r) t.rest in
      let y = judged o k last b q.value (P b) (n + 1 + 1) g x q.rest.reading s q.rest.may_be_read q.rest.follows in
      let two : n + 1 + 1 ≡ n + 2 = omega arith in
      let rest = subst (λ i. IsCorrectFrom (P b) i g x) two y.rest in
      record { next = b; nodes = q.value; machine = m.spells; alike = t.alike; certificate = q.spells; hold = y.hold; rest = rest }

-- ---- all links

-- all links that are left hold, up to this machine, and this is what the chain gets
record Linked (g : Call) (n left links : ℕ) (first last : Fsmd) (x : Answer) : Type 0 where
  end : Fsmd
  hold : LinksHold g n left last end
  told : IsOfChain first end links x

linked : (o : Option Asked) (g : Call) (x : Answer) → HasStatus statuses.Fine x → (links : ℕ) (first last : Fsmd) (have left n : ℕ) → have + left ≡ links
    → IsCorrectFrom (OpensLinks o first last have left) n g x
    → Linked g n left links first last x
linked o g x s links first last have zero n e c =
    let same : have ≡ links = omega (arith, e) in
    record { end = last; hold = refl; told = subst (λ i. IsOfChain first last i x) same (end_of (IsOfChain first last have) n g x c) }
linked o g x s links first last have (suc left) n e c =
    let k = of_link o (have + 1) last (λ next. OpensLinks o first next (have + 1) left) n g x s c in
    let r = linked o g x s links first k.next (have + 1) left (n + 2) (omega (arith, e)) k.rest in
    record {
      end = r.end;
      hold = record { next = k.next; nodes = k.nodes; machine = k.machine; alike = k.alike; certificate = k.certificate; hold = k.hold; rest = r.hold };
      told = r.told;
    }

-- ---- chains

record OfChain (g : Call) (o : Option Asked) (x : Answer) : Type 0 where
  words : List (List ℕ)
  asked : o ≡ Some (Chain words)
  follows : IsCorrectFrom (OpensMachine (λ m. OpensLinks o m m 0 (links_of words))) 0 g x

chain_follows : (g : Call) (x : Answer) (o : Option Asked) → IsTrue (is_chain o) → IsCorrectFrom (FollowsFrom o) 0 g x → OfChain g o x
chain_follows g x (Some (Chain files)) t c = record { words = files; asked = refl; follows = c }
chain_follows g x _ t c = absurd (false≢true t)

pub is_chained : (g : Call) (p : Put) → Answered g p → p.status ≡ statuses.Fine → IsTrue (is_chain g.asked) → IsChained g p
is_chained g p a e t =
    let w = well g p statuses.Fine a refl e in
    let x = a.answer in
    let f = chain_follows g x g.asked t a.correct in
    let k = open_next Fsmd RefusesMachine SpellsMachine (λ m. OpensLinks g.asked m m 0 (links_of f.words)) 0 g x
    (λ c r. not_refused statuses.Fine x refl (machine_refuses (operand 0) c x r) w.meant_is) f.follows in
    let zeros : 0 + links_of f.words ≡ links_of f.words = omega arith in
    let l = linked g.asked g x w.meant_is (links_of f.words) k.value k.value 0 (links_of f.words) 1 zeros k.rest in
    record {
      words = f.words;
      asked = f.asked;
      first = k.value;
      last = l.end;
      begins = k.spells;
      hold = l.hold;
      same = l.told.same;
      put = put_lines g p x (codes "yes: " ++ (decimal (links_of f.words + 1) ++ codes " machines\n")) w.got (ap (λ y. lines_of y g.asked) l.told.is);
    }

-- ---- the last machine

-- where links hold, the machine of the last one is spelled by its file
last_spelled : (g : Call) (links file : ℕ) (last end : Fsmd) → LinksHold g file (suc links) last end
    → MayHold (known_at_start g (operand (file + 2 * links))) (SpellsMachine end)
last_spelled g zero file last end h =
    let here : file ≡ file + 2 * 0 = omega arith in
    subst (λ n. MayHold (known_at_start g (operand n)) (SpellsMachine end)) here
    (subst (λ m. MayHold (known_at_start g (operand file)) (SpellsMachine m)) h.rest h.machine)
last_spelled g (suc links) file last end h =
    let here : file + 2 + 2 * links ≡ file + 2 * suc links = omega arith in
    subst (λ n. MayHold (known_at_start g (operand n)) (SpellsMachine end)) here (last_spelled g links (file + 2) h.next end h.rest)

end_spelled : (g : Call) (links : ℕ) (first end : Fsmd) → LinksHold g 1 links first end → MayHold (known_at_start g (operand 0)) (SpellsMachine first)
    → MayHold (known_at_start g (operand (2 * links - 1))) (SpellsMachine end)
end_spelled g zero first end h b =
    let here : 0 ≡ 2 * 0 - 1 = omega arith in
    subst (λ n. MayHold (known_at_start g (operand n)) (SpellsMachine end)) here
    (subst (λ m. MayHold (known_at_start g (operand 0)) (SpellsMachine m)) h b)
end_spelled g (suc links) first end h b =
    let here : 1 + 2 * links ≡ 2 * suc links - 1 = omega arith in
    subst (λ n. MayHold (known_at_start g (operand n)) (SpellsMachine end)) here (last_spelled g links 1 first end h)

pub are_chained : (g : Call) (p : Put) → Answered g p → p.status ≡ statuses.Fine → IsTrue (is_chain g.asked) → AreChained g p
are_chained g p a e t = let c = is_chained g p a e t in record {
  words = c.words;
  asked = c.asked;
  first = c.first;
  last = c.last;
  begins = c.begins;
  ends = end_spelled g (links_of c.words) c.first c.last c.hold c.begins;
  same = c.same;
  put = c.put;
}
