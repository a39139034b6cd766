-- What is correct of the links of a chain, from what was loaded of each.
use Rattle.std.proofs.Common.{◌≡◌, ◌≢◌, ◌∙◌, ℕ, zero, suc, ◌+◌, ◌-◌, ◌*◌, ◌/◌, ◌<◌, List, [], ◌∷◌, length, map, Option, refl, sym, ap, subst, arith}
use Rattle.std.specs.Prelude.{Result, Ok, Err, IfOk, OnOk, None}
use Rattle.std.proofs.lemmas.List.{length-map}
use Rattle.std.specs.Result.{IfErr}
use Rattle.fsmd_words.specs.AskedWords.{Asked}
use Rattle.fs_base.specs.Outside.{FilesTold}
use Rattle.fs_model.specs.Machines.{Fsmd}
use Rattle.fs_pair.specs.Interfaces.{interface_fault}
use Rattle.cert_bisimulation.specs.Tables.{Node}
use Rattle.sym_facts.specs.Facts.{Fact}
use Rattle.cert_model.specs.Obligations.{Yes, verdict_on}
use Rattle.hls_shrink.specs.Chains.{ChainEnds}
use Rattle.fsmd_replies.specs.declared.answer.Answer.{Answer}
use Rattle.fsmd_replies.specs.declared.answer.Answer.TheVariants.{Link}
use Rattle.fsmd_answers.specs.declared.refused.Refused.{Refused as Refusal}
use Rattle.fsmd_answers.specs.declared.refused.Refused.TheVariants.{Answered}
use Rattle.fsmd_replies.specs.Statuses.{status_of}
use Rattle.fsmd_replies.specs.ChainTexts.{link_lines}
use Rattle.fsmd_replies.specs.AskedFiles.{operand}
use Rattle.fsmd_answers.specs.MachineFiles.{SpellsMachine}
use Rattle.fsmd_answers.specs.Readings.{Readable, Reading}
use Rattle.fsmd_answers.specs.Refusals.{RefusesMachine, RefusesPair, RefusesCertificate, SpellsCertificate}
use Rattle.fsmd_answers.specs.Refusing.{WhereAnswered}
use Rattle.fsmd_answers.specs.Verdicts.{IsJudged}
use Rattle.fsmd_answers.specs.Links.{AtLink, links_in, links_of, IsOfChain}
use Rattle.fsmd_answers.specs.Follows.{Opens, Refused, Spelled, ComparesPairs, SameInterface, Judges, Fails, Holds}
use Rattle.fsmd_answers.specs.Follows.{OpensCertificate, OpensLink, OpensLinks}
use Rattle.fsmd_answers.proofs.Maps.{answer_map, err_map}
use Rattle.fsmd_tool.specs.Calls.{Call, call, OnlyRead, LoadsFrom, LoadsAtMost, known_at_start, MayHold, IsCorrectInOrder}
use Rattle.fsmd_tool.specs.Loading.{GivesContent, NothingFollows, RefusesNext, RefusesLink}
use Rattle.fsmd_tool.specs.HoldingLinks.{LinkHolds}
use Rattle.fsmd_tool.proofs.FromFiles.{opens_map, pairs_map}
use Rattle.fsmd_tool.proofs.Later.{read_both, read_map, each_since}
use Rattle.fsmd_tool.proofs.Loads.{loads_none, loads_on, at_most, at_most_on, fewer}
use Rattle.fsmd_tool.proofs.InOrder.{ended_in_order}

-- ---- the files of a link

-- what follows of a link behind its machine and its certificate
abbrev pub judges : Option Asked → (k : ℕ) → (last next : Fsmd) → ((file : ℕ) → Reading → Answer → Type 0) → List (Node Fact) → (file : ℕ) → Reading → Answer
    → Type 0
judges o k last next P nodes = Judges o k last next nodes P

abbrev pub certificates : Option Asked → (k : ℕ) → (last next : Fsmd) → ((file : ℕ) → Reading → Answer → Type 0) → (file : ℕ) → Reading → Answer → Type 0
certificates o k last next P = Opens (List (Node Fact)) (λ f c. AtLink o k (RefusesCertificate last next f c)) (SpellsCertificate last next)
    (judges o k last next P)

abbrev pub nexts : Option Asked → (k : ℕ) → (last : Fsmd) → (P : Fsmd → (file : ℕ) → Reading → Answer → Type 0) → Fsmd → (file : ℕ) → Reading → Answer → Type 0
nexts o k last P next = ComparesPairs last next (AtLink o k (RefusesPair last next)) (certificates o k last next (P next))

abbrev refused_nexts : (last next : Fsmd) → (file : ℕ) → Reading → Answer → Type 0
refused_nexts last next = ComparesPairs last next (RefusesPair last next) (OpensCertificate last next (λ nodes. NothingFollows))

-- a refusal of the next machine is one of the link
pub next_refused : (last : Fsmd) (n : ℕ) (r : Reading) (x : Answer) → RefusesNext last n r x → RefusesLink last n r x
next_refused last n r x h =
    opens_map Fsmd RefusesMachine RefusesMachine SpellsMachine (λ b. ComparesPairs last b (RefusesPair last b) NothingFollows)
    (refused_nexts last) x x (λ f c p. p)
    (λ b. pairs_map last b (RefusesPair last b) (RefusesPair last b) NothingFollows (OpensCertificate last b (λ nodes. NothingFollows)) x x (λ p. p)
    (λ m q p. absurd p)) n r h

pub next_refused_as : (last : Fsmd) (n : ℕ) (g : Call) (e : Refusal) → WhereAnswered (IsCorrectInOrder (RefusesNext last) n g) e
    → WhereAnswered (IsCorrectInOrder (RefusesLink last) n g) e
next_refused_as last n g e w =
    answer_map (IsCorrectInOrder (RefusesNext last) n g) (IsCorrectInOrder (RefusesLink last) n g)
    (λ x d. record {
      correct = record {
        reading = d.correct.reading;
        may_be_read = d.correct.may_be_read;
        follows = next_refused last n d.correct.reading x d.correct.follows;
      };
      loads = d.loads;
    }) e w

-- and so is a refusal of the certificate, which was loaded behind the machine
pub certificate_refused : (o : Option Asked) (old mid now : FilesTold) (last next : Fsmd) (n : ℕ) (e : Refusal) → OnlyRead old mid
    → LoadsFrom o n 1 old mid → LoadsFrom o (n + 1) 1 mid now
    → MayHold (known_at_start (call o old now) (operand n)) (SpellsMachine next) → interface_fault last next ≡ None
    → WhereAnswered (GivesContent (call o mid now) (operand (n + 1)) (RefusesCertificate last next (operand (n + 1)))) e
    → WhereAnswered (IsCorrectInOrder (RefusesLink last) n (call o old now)) e
certificate_refused o old mid now last next n e read first second machine same w =
    answer_map (GivesContent (call o mid now) (operand (n + 1)) (RefusesCertificate last next (operand (n + 1))))
    (IsCorrectInOrder (RefusesLink last) n (call o old now))
    (λ x m. record {
      correct = record {
        reading = Readable machine.bytes ∷ m.content ∷ [];
        may_be_read = (machine.may, (each_since o old mid now read (operand (n + 1)) m.content m.may, tt));
        follows = Spelled next machine.meet (SameInterface same (Refused m.meets refl));
      };
      loads = loads_on o n 1 1 (n + 1) 2 old mid now refl (omega arith) first second;
    }) e w

-- a refusal of the files of a link, told as that of the link
module _ (o : Option Asked) (k : ℕ) (last : Fsmd) (P : Fsmd → (file : ℕ) → Reading → Answer → Type 0) (stop x : Answer)
    (is : x ≡ Link (status_of stop) (link_lines o k stop)) where
  at : (Q : Answer → Type 0) → Q stop → AtLink o k Q x
  at Q q = record { stop = stop; meets = q; is = is }

  pub told_at_link : (n : ℕ) (r : Reading) → RefusesLink last n r stop → OpensLink o k last P n r x
  told_at_link n r h =
      opens_map Fsmd RefusesMachine (λ f c. AtLink o k (RefusesMachine f c)) SpellsMachine (refused_nexts last) (nexts o k last P) stop x
      (λ f c p. at (RefusesMachine f c) p)
      (λ b. pairs_map last b (RefusesPair last b) (AtLink o k (RefusesPair last b)) (OpensCertificate last b (λ nodes. NothingFollows))
      (certificates o k last b (P b)) stop x (λ p. at (RefusesPair last b) p)
      (λ i q p. opens_map (List (Node Fact)) (RefusesCertificate last b) (λ f c. AtLink o k (RefusesCertificate last b f c)) (SpellsCertificate last b)
      (λ nodes. NothingFollows) (judges o k last b (P b)) stop x
      (λ f c e. at (RefusesCertificate last b f c) e) (λ v j s e. absurd e) i q p)) n r h

pub link_refused : (o : Option Asked) (k : ℕ) (last : Fsmd) (P : Fsmd → (file : ℕ) → Reading → Answer → Type 0) (n : ℕ) (g : Call) (e told : Refusal)
    → WhereAnswered (IsCorrectInOrder (RefusesLink last) n g) e → WhereAnswered (AtLink o k (λ answer. e ≡ Answered answer)) told
    → WhereAnswered (IsCorrectInOrder (OpensLink o k last P) n g) told
link_refused o k last P n g e told h t =
    answer_map (AtLink o k (λ answer. e ≡ Answered answer)) (IsCorrectInOrder (OpensLink o k last P) n g)
    (λ x l.
    let d : IsCorrectInOrder (RefusesLink last) n g l.stop = subst (WhereAnswered (IsCorrectInOrder (RefusesLink last) n g)) l.meets h in
    record {
      correct = record {
        reading = d.correct.reading;
        may_be_read = d.correct.may_be_read;
        follows = told_at_link o k last P l.stop x l.is n d.correct.reading d.correct.follows;
      };
      loads = d.loads;
    }) told t

-- ---- a link

-- both files of a link were loaded, and the verdict on its certificate is not yes
pub link_fails : (o : Option Asked) (k : ℕ) (last : Fsmd) (P : Fsmd → (file : ℕ) → Reading → Answer → Type 0) (n : ℕ) (g : Call) (next : Fsmd)
    (nodes : List (Node Fact)) → MayHold (known_at_start g (operand n)) (SpellsMachine next) → interface_fault last next ≡ None
    → MayHold (known_at_start g (operand (n + 1))) (SpellsCertificate last next nodes) → LoadsFrom g.asked n 2 g.before g.now → (x : Answer)
    → (verdict_on last next nodes ≢ Yes) × AtLink o k (IsJudged last next nodes) x → IsCorrectInOrder (OpensLink o k last P) n g x
link_fails o k last P n g next nodes machine same cert both x h = record {
  correct = record {
    reading = Readable machine.bytes ∷ Readable cert.bytes ∷ [];
    may_be_read = (machine.may, (cert.may, tt));
    follows = Spelled next machine.meet (SameInterface same (Spelled nodes cert.meet (Fails h.0 h.1 refl)));
  };
  loads = both;
}

-- both files of a link were loaded, the link holds, and then what is behind it was loaded
pub link_holds : (o asked : Option Asked) (k : ℕ) (last : Fsmd) (P : Fsmd → (file : ℕ) → Reading → Answer → Type 0) (n : ℕ) (old mid now : FilesTold)
    (Q : Fsmd → Type 0) (h : LinkHolds (call o old mid) n last Q) (x : Answer) → OnlyRead old mid → LoadsFrom o n 2 old mid
    → IsCorrectInOrder (P h.next) (n + 1 + 1) (call o mid now) x → IsCorrectInOrder (OpensLink asked k last P) n (call o old now) x
link_holds o asked k last P n old mid now Q h x read both c = record {
  correct = record {
    reading = Readable h.machine.bytes ∷ Readable h.certificate.bytes ∷ c.correct.reading;
    may_be_read = (
      h.machine.may,
      (
        h.certificate.may,
        read_map (call o mid now) (call o old now) (each_since o old mid now read) (n + 1 + 1) c.correct.reading c.correct.may_be_read,
      ),
    );
    follows = Spelled h.next h.machine.meet (SameInterface h.alike (Spelled h.nodes h.certificate.meet (Holds h.hold c.correct.follows)));
  };
  loads = loads_on o n 2 (length c.correct.reading) (n + 1 + 1) (suc (suc (length c.correct.reading))) old mid now (omega arith) (omega arith) both c.loads;
}

-- a chain with one machine more has one link more that holds
pub link_made : {E : Type 0} (n : ℕ) (g : Call) (last loaded next : Fsmd) (nodes : List (Node Fact)) → loaded ≡ last
    → MayHold (known_at_start g (operand n)) (SpellsMachine next) → interface_fault loaded next ≡ None
    → MayHold (known_at_start g (operand (n + 1))) (SpellsCertificate loaded next nodes) → (r : Result ChainEnds E) → OnOk r (verdict_on last next nodes ≡ Yes)
    → IfOk r (λ c. c.last ≡ next) → IfOk r (λ c. LinkHolds g n last (λ b. b ≡ c.last))
link_made n g last loaded next nodes e machine same cert (Ok c) hold is = record {
  next = next;
  nodes = nodes;
  machine = machine;
  alike = subst (λ v. interface_fault v next ≡ None) e same;
  certificate = subst (λ v. MayHold (known_at_start g (operand (n + 1))) (SpellsCertificate v next nodes)) e cert;
  hold = hold;
  rest = sym is;
}
link_made n g last loaded next nodes e machine same cert (Err x) hold is = tt

-- and a chain that is given none has a link that fails
pub link_unmade : {T : Type 0} (o : Option Asked) (k n : ℕ) (g : Call) (last loaded next : Fsmd) (nodes : List (Node Fact)) → loaded ≡ last
    → MayHold (known_at_start g (operand n)) (SpellsMachine next) → interface_fault loaded next ≡ None
    → MayHold (known_at_start g (operand (n + 1))) (SpellsCertificate loaded next nodes) → LoadsFrom g.asked n 2 g.before g.now → (r : Result T Refusal)
    → IfErr r (WhereAnswered (λ x. (verdict_on last next nodes ≢ Yes) × AtLink o k (IsJudged last next nodes) x))
    → IfErr r (WhereAnswered (IsCorrectInOrder (OpensLink o k last (λ b. NothingFollows)) n g))
link_unmade o k n g last loaded next nodes e machine same cert both r h =
    let alike_too = subst (λ v. interface_fault v next ≡ None) e same in
    let certificate = subst (λ v. MayHold (known_at_start g (operand (n + 1))) (SpellsCertificate v next nodes)) e cert in
    let P : Answer → Type 0 = λ x. (verdict_on last next nodes ≢ Yes) × AtLink o k (IsJudged last next nodes) x in
    let Q : Answer → Type 0 = IsCorrectInOrder (OpensLink o k last (λ b. NothingFollows)) n g in
    err_map (WhereAnswered P) (WhereAnswered Q) (λ t w. answer_map P Q
    (λ x f. link_fails o k last (λ b. NothingFollows) n g next nodes machine alike_too certificate both x f) t w) r h

-- what follows of a link whatever follows behind it
judges_map : (o : Option Asked) (k : ℕ) (a b : Fsmd) (nodes : List (Node Fact)) (P : (file : ℕ) → Reading → Answer → Type 0) (n : ℕ) (r : Reading) (x : Answer)
    → Judges o k a b nodes NothingFollows n r x → Judges o k a b nodes P n r x
judges_map o k a b nodes P n r x (Fails other l e) = Fails other l e
judges_map o k a b nodes P n r x (Holds hold p) = absurd p

link_map : (o : Option Asked) (k : ℕ) (last : Fsmd) (P : Fsmd → (file : ℕ) → Reading → Answer → Type 0) (x : Answer) (n : ℕ) (r : Reading)
    → OpensLink o k last (λ b. NothingFollows) n r x → OpensLink o k last P n r x
link_map o k last P x n r h =
    opens_map Fsmd (λ f c. AtLink o k (RefusesMachine f c)) (λ f c. AtLink o k (RefusesMachine f c)) SpellsMachine (nexts o k last (λ b. NothingFollows))
    (nexts o k last P) x x (λ f c p. p)
    (λ b. pairs_map last b (AtLink o k (RefusesPair last b)) (AtLink o k (RefusesPair last b)) (certificates o k last b NothingFollows)
    (certificates o k last b (P b)) x x (λ p. p)
    (λ i q p. opens_map (List (Node Fact)) (λ f c. AtLink o k (RefusesCertificate last b f c)) (λ f c. AtLink o k (RefusesCertificate last b f c))
    (SpellsCertificate last b) (judges o k last b NothingFollows) (judges o k last b (P b)) x x
    (λ f c e. e) (λ v j s e. judges_map o k last b v (P b) j s x e) i q p)) n r h

-- ---- the links of a chain, one after another

-- of the links of a chain behind a machine so many hold, and their files were loaded: what follows from the files behind these, in
-- a call that begins there, follows from all
pub record LinksLead (o : Option Asked) (m : Fsmd) (links : ℕ) (old : FilesTold) (first last : Fsmd) (have : ℕ) (mid : FilesTold) : Type 0 where
  pub left : ℕ
  pub count : have + left ≡ links
  pub begin : first ≡ m
  pub read : OnlyRead old mid
  pub loads : LoadsFrom o 1 (2 * have) old mid
  pub leads : (now : FilesTold) (x : Answer) → IsCorrectInOrder (OpensLinks o m last have left) (2 * have + 1) (call o mid now) x
      → IsCorrectInOrder (OpensLinks o m m 0 links) 1 (call o old now) x

read_none : (old : FilesTold) → OnlyRead old old
read_none old = record { counts = λ name. omega arith; store_counts = λ name. omega arith; unchanged = λ name. refl }

module _ (o : Option Asked) (m : Fsmd) (links : ℕ) (old : FilesTold) where
  -- what follows behind the links that hold follows from all
  abbrev leads_from : (last : Fsmd) (have left : ℕ) (mid : FilesTold) → Type 0
  leads_from last have left mid = (now : FilesTold) (x : Answer) → IsCorrectInOrder (OpensLinks o m last have left) (2 * have + 1) (call o mid now) x
      → IsCorrectInOrder (OpensLinks o m m 0 links) 1 (call o old now) x

  pub links_begin : (first last : Fsmd) → first ≡ m → last ≡ m → LinksLead o m links old first last 0 old
  links_begin first last e f = record {
    left = links;
    count = omega arith;
    begin = e;
    read = read_none old;
    loads = loads_none o 1 old;
    leads = λ now x c. subst (λ v. IsCorrectInOrder (OpensLinks o m v 0 links) 1 (call o old now) x) f c;
  }

  module _ (first last : Fsmd) (have : ℕ) (mid : FilesTold) where
    -- one link more holds
    leads_on : (left : ℕ) → have + left ≡ links → have < links → first ≡ m → OnlyRead old mid → LoadsFrom o 1 (2 * have) old mid
        → leads_from last have left mid
        → (new : FilesTold) (begin end : Fsmd) → begin ≡ first → LinkHolds (call o mid new) (2 * have + 1) last (λ b. b ≡ end) → OnlyRead mid new
        → LoadsFrom o (2 * have + 1) 2 mid new
        → LinksLead o m links old begin end (have + 1) new
    leads_on zero e more same read loads leads new begin end f h r both = absurd (omega (arith, e, more))
    leads_on (suc left) e more same read loads leads new begin end f h r both = record {
      left = left;
      count = omega (arith, e);
      begin = f ∙ same;
      read = read_both old mid new read r;
      loads = loads_on o 1 (2 * have) 2 (2 * have + 1) (2 * (have + 1)) old mid new (omega arith) (omega arith) loads both;
      leads = λ now x c.
          let files : 2 * (have + 1) + 1 ≡ 2 * have + 1 + 1 + 1 = omega arith in
          let here : IsCorrectInOrder (OpensLinks o m end (have + 1) left) (2 * have + 1 + 1 + 1) (call o new now) x =
          subst (λ i. IsCorrectInOrder (OpensLinks o m end (have + 1) left) i (call o new now) x) files c in
          let from : IsCorrectInOrder (OpensLinks o m h.next (have + 1) left) (2 * have + 1 + 1 + 1) (call o new now) x =
          subst (λ v. IsCorrectInOrder (OpensLinks o m v (have + 1) left) (2 * have + 1 + 1 + 1) (call o new now) x) (sym h.rest) here in
          leads now x (link_holds o o (have + 1) last (λ b. OpensLinks o m b (have + 1) left) (2 * have + 1) mid new now (λ b. b ≡ end) h x r both from);
    }

    pub links_next : LinksLead o m links old first last have mid → have < links → (new : FilesTold) (begin end : Fsmd) → begin ≡ first
        → LinkHolds (call o mid new) (2 * have + 1) last (λ b. b ≡ end) → OnlyRead mid new → LoadsFrom o (2 * have + 1) 2 mid new
        → LinksLead o m links old begin end (have + 1) new
    links_next h more new begin end f k r both = leads_on h.left h.count more h.begin h.read h.loads h.leads new begin end f k r both

    -- the next link has an answer of its own
    stops_at : (left : ℕ) → have + left ≡ links → have < links → leads_from last have left mid
        → (now : FilesTold) (x : Answer) → IsCorrectInOrder (OpensLink o (have + 1) last (λ b. NothingFollows)) (2 * have + 1) (call o mid now) x
        → IsCorrectInOrder (OpensLinks o m m 0 links) 1 (call o old now) x
    stops_at zero e more leads now x d = absurd (omega (arith, e, more))
    stops_at (suc left) e more leads now x d =
        leads now x (record {
          correct = record {
            reading = d.correct.reading;
            may_be_read = d.correct.may_be_read;
            follows = link_map o (have + 1) last (λ b. OpensLinks o m b (have + 1) left) x
                (2 * have + 1) d.correct.reading d.correct.follows;
          };
          loads = d.loads;
        })

    pub links_stop : LinksLead o m links old first last have mid → have < links → (now : FilesTold) (e : Refusal)
        → WhereAnswered (IsCorrectInOrder (OpensLink o (have + 1) last (λ b. NothingFollows)) (2 * have + 1) (call o mid now)) e
        → WhereAnswered (IsCorrectInOrder (OpensLinks o m m 0 links) 1 (call o old now)) e
    links_stop h more now e w =
        answer_map (IsCorrectInOrder (OpensLink o (have + 1) last (λ b. NothingFollows)) (2 * have + 1) (call o mid now))
        (IsCorrectInOrder (OpensLinks o m m 0 links) 1 (call o old now))
        (λ x c. stops_at h.left h.count more h.leads now x c) e w

    -- no link is left
    ends_at : (left : ℕ) → have + left ≡ links → have ≡ links → leads_from last have left mid
        → (x : Answer) → IsOfChain m last have x → IsCorrectInOrder (OpensLinks o m m 0 links) 1 (call o old mid) x
    ends_at zero e all leads x p = leads mid x (ended_in_order (IsOfChain m last have) (2 * have + 1) o mid x p)
    ends_at (suc left) e all leads x p = absurd (omega (arith, e, all))

    pub links_end : LinksLead o m links old first last have mid → have ≡ links → (x : Answer) → IsOfChain first last links x
        → IsCorrectInOrder (OpensLinks o m m 0 links) 1 (call o old mid) x
    links_end h all x p =
        let own : IsOfChain m last links x = subst (λ v. IsOfChain v last links x) h.begin p in
        ends_at h.left h.count all h.leads x (subst (λ i. IsOfChain m last i x) (sym all) own)

    -- of the files of all links at most those of the links that hold were loaded
    pub links_most : LinksLead o m links old first last have mid → LoadsAtMost o 1 (2 * links) old mid
    links_most h = at_most o 1 (2 * have) (2 * links) old mid (omega (arith, h.count)) h.loads

    -- and some of the next one
    pub links_most_on : LinksLead o m links old first last have mid → have < links → (new : FilesTold) → LoadsAtMost o (2 * have + 1) 2 mid new
        → LoadsAtMost o 1 (2 * links) old new
    links_most_on h more new l =
        fewer o 1 (2 * (have + 1)) (2 * links) old new (omega (arith, more))
        (at_most_on o 1 (2 * have) 2 (2 * have + 1) (2 * (have + 1)) old mid new (omega arith) (omega arith) h.loads l)

-- ---- how many links there are

two_by_two : (words : List (List ℕ)) → length words / 2 ≡ links_in words
two_by_two [] = refl
two_by_two (c ∷ []) = refl
two_by_two (c ∷ m ∷ words) = omega (arith, two_by_two words)

links_by_words : (words : List (List ℕ)) → (length words - 1) / 2 ≡ links_of words
links_by_words [] = refl
links_by_words (m ∷ words) = omega (arith, two_by_two words)

pub link_count_is : {A : Type 0} (f : A → List ℕ) (words : List A) (n : ℕ) → n ≡ (length words - 1) / 2 → n ≡ links_of (map f words)
link_count_is f words n e = e ∙ ap (λ i. (i - 1) / 2) (sym (length-map words f)) ∙ links_by_words (map f words)
