-- Chains are answered: where all links are known to hold, and where one is known to fail.
use Rattle.std.proofs.Common.{◌≡◌, ℕ, zero, suc, ◌+◌, ◌*◌, ◌<◌, List, Option, Some, sym, subst, arith}
use Rattle.std.specs.Prelude.{◌≢◌}
use Rattle.fs_model.proofs.Numbers.{below_suc}
use Rattle.fsmd_words.specs.AskedWords.{Asked, Chain}
use Rattle.fs_model.specs.Machines.{Fsmd}
use Rattle.cert_bisimulation.specs.Tables.{Node}
use Rattle.sym_facts.specs.Facts.{Fact}
use Rattle.cert_model.specs.Obligations.{Yes, verdict_on}
use Rattle.fsmd_replies.specs.declared.answer.Answer.{Answer}
use Rattle.fsmd_tool.specs.MachineFiles.{SpellsMachine}
use Rattle.fsmd_tool.specs.Readings.{Reading}
use Rattle.fsmd_tool.specs.Refusals.{RefusesMachine, RefusesPair, RefusesCertificate, SpellsCertificate}
use Rattle.fsmd_tool.specs.Verdicts.{IsJudged}
use Rattle.fsmd_tool.specs.Links.{AtLink, links_of, IsOfChain}
use Rattle.fsmd_tool.specs.Follows.{Judges, Fails, Holds, OpensLinks}
use Rattle.fsmd_tool.specs.Calls.{Call, IsCorrectFrom}
use Rattle.fsmd_tool.specs.Correct.{IsCorrectAnswer}
use Rattle.fsmd_tool.proofs.Found.{end_of}
use Rattle.fsmd_tool_laws.specs.Settled.{IsKnown, SpellLink, AreKnownToHold}
use Rattle.fsmd_tool_laws.proofs.Files.{machine_opens}
use Rattle.fsmd_tool_laws.proofs.Certificates.{ReadInOneWay, certificate_opens}
use Rattle.fsmd_tool_laws.proofs.Following.{Rule, other_or_alike, at_link, BehindCertificate, BehindPair, BehindMachine, OpensLinkWith}
use Rattle.fsmd_tool_laws.proofs.Known.{opened, alike}
use Rattle.fsmd_tool_laws.proofs.Correct.{asked_so}

-- ---- one link

-- the certificate of a link whose files are known is judged
judged : (w : ReadInOneWay)
    → (o : Option Asked) (link : ℕ) (last : Fsmd) (P : Fsmd → Rule) (g : Call) (file : ℕ) (x : Answer) (next : Fsmd) (nodes : List (Node Fact))
    → SpellLink g file last next nodes
    → IsCorrectFrom (OpensLinkWith o link last P) file g x → IsCorrectFrom (Judges o link last next nodes (P next)) (file + 1 + 1) g x
judged w o link last P g file x next nodes k p =
    let behind : IsCorrectFrom (BehindMachine o link last P next) (file + 1) g x =
    opened Fsmd (λ f c. AtLink o link (RefusesMachine f c)) SpellsMachine (at_link o link Fsmd RefusesMachine SpellsMachine machine_opens)
    (BehindMachine o link last P) g file next x k.machine p in
    let pair : IsCorrectFrom (BehindPair o link last next P) (file + 1) g x =
    alike last next (AtLink o link (RefusesPair last next)) (BehindPair o link last next P) (file + 1) g x (λ y q i. other_or_alike last next q.stop q.meets i)
    k.alike behind in
    opened (List (Node Fact)) (λ f c. AtLink o link (RefusesCertificate last next f c)) (SpellsCertificate last next)
    (at_link o link (List (Node Fact)) (RefusesCertificate last next) (SpellsCertificate last next) (certificate_opens w last next))
    (BehindCertificate o link last next P) g (file + 1) nodes x k.certificate pair

holds_of : (o : Option Asked) (link : ℕ) (a b : Fsmd) (nodes : List (Node Fact)) (P : Rule) (file : ℕ) (r : Reading) (x : Answer) → verdict_on a b nodes ≡ Yes
    → Judges o link a b nodes P file r x → P file r x
holds_of o link a b nodes P file r x passes (Fails v p e) = absurd (v passes)
holds_of o link a b nodes P file r x passes (Holds v p) = p

holds : (o : Option Asked) (link : ℕ) (a b : Fsmd) (nodes : List (Node Fact)) (P : Rule) (file : ℕ) (g : Call) (x : Answer) → verdict_on a b nodes ≡ Yes
    → IsCorrectFrom (Judges o link a b nodes P) file g x → IsCorrectFrom P file g x
holds o link a b nodes P file g x passes p =
    record { reading = p.reading; may_be_read = p.may_be_read; follows = holds_of o link a b nodes P file p.reading x passes p.follows }

fails : (o : Option Asked) (link : ℕ) (a b : Fsmd) (nodes : List (Node Fact)) (P : Rule) (file : ℕ) (r : Reading) (x : Answer) → verdict_on a b nodes ≢ Yes
    → Judges o link a b nodes P file r x → AtLink o link (IsJudged a b nodes) x
fails o link a b nodes P file r x stops (Fails v p e) = p
fails o link a b nodes P file r x stops (Holds v p) = absurd (stops v)

two_files : (file : ℕ) → file + 1 + 1 ≡ file + 2
two_files file = omega arith

-- what follows behind a link that is known to hold
behind : (w : ReadInOneWay)
    → (o : Option Asked) (link : ℕ) (last : Fsmd) (P : Fsmd → Rule) (g : Call) (file : ℕ) (x : Answer) (next : Fsmd) (nodes : List (Node Fact))
    → SpellLink g file last next nodes
    → verdict_on last next nodes ≡ Yes → IsCorrectFrom (OpensLinkWith o link last P) file g x → IsCorrectFrom (P next) (file + 2) g x
behind w o link last P g file x next nodes k passes p =
    subst (λ n. IsCorrectFrom (P next) n g x) (two_files file)
    (holds o link last next nodes (P next) (file + 1 + 1) g x passes (judged w o link last P g file x next nodes k p))

-- ---- all links hold

pub none_left : (n : ℕ) → n ≡ n + zero
none_left n = omega arith

one_less : (n k : ℕ) → n + 1 + k ≡ n + suc k
one_less n k = omega arith

all_hold : (w : ReadInOneWay) → (o : Option Asked) (g : Call) (x : Answer) (first : Fsmd) (held left file : ℕ) (last end : Fsmd)
    → AreKnownToHold g file left last end → IsCorrectFrom (OpensLinks o first last held left) file g x
    → IsOfChain first end (held + left) x
all_hold w o g x first held zero file last end k p =
    subst (λ n. IsOfChain first end n x) (none_left held) (subst (λ m. IsOfChain first m held x) k (end_of (IsOfChain first last held) file g x p))
all_hold w o g x first held (suc left) file last end k p =
    subst (λ n. IsOfChain first end n x) (one_less held left)
    (all_hold w o g x first (held + 1) left (file + 2) k.next end k.rest
    (behind w o (held + 1) last (λ next. OpensLinks o first next (held + 1) left) g file x k.next k.nodes k.spelled k.holds p))

-- what follows behind the first machine
begun : (words : List (List ℕ)) (g : Call) (x : Answer) (first : Fsmd) → g.asked ≡ Some (Chain words) → IsKnown g 0 (SpellsMachine first) → IsCorrectAnswer g x
    → IsCorrectFrom (OpensLinks (Some (Chain words)) first first 0 (links_of words)) 1 g x
begun words g x first e k p =
    opened Fsmd RefusesMachine SpellsMachine machine_opens (λ m. OpensLinks (Some (Chain words)) m m 0 (links_of words)) g 0 first x k
    (asked_so g x (Some (Chain words)) e p)

from_zero : (n : ℕ) → 0 + n ≡ n
from_zero n = omega arith

pub chain_answered : (w : ReadInOneWay) → (g : Call) (x : Answer) (words : List (List ℕ)) (first last : Fsmd) → g.asked ≡ Some (Chain words)
    → IsKnown g 0 (SpellsMachine first) → AreKnownToHold g 1 (links_of words) first last → IsCorrectAnswer g x
    → IsOfChain first last (links_of words) x
chain_answered w g x words first last e k l p =
    subst (λ n. IsOfChain first last n x) (from_zero (links_of words))
    (all_hold w (Some (Chain words)) g x first 0 (links_of words) 1 first last l (begun words g x first e k p))

-- ---- a link fails

pub none_held : (k file : ℕ) → k ≡ file + 2 * zero → k ≡ file
none_held k file e = omega arith

one_held : (k file n : ℕ) → k ≡ file + 2 * suc n → k ≡ file + 2 + 2 * n
one_held k file n e = omega arith

pub this_link : (n : ℕ) → n + 1 ≡ n + zero + 1
this_link n = omega arith

pub next_link : (n k : ℕ) → n + 1 + k + 1 ≡ n + suc k + 1
next_link n k = omega arith

pub not_below : (n : ℕ) → n < zero → ⊥
not_below n h = omega arith

-- the link behind those that hold is spelled from file k on, and not all obligations of its certificate hold
module _ (w : ReadInOneWay) (o : Option Asked) (g : Call) (x : Answer) (first last next : Fsmd) (nodes : List (Node Fact)) (k : ℕ)
    (link : SpellLink g k last next nodes) (stops : verdict_on last next nodes ≢ Yes) where
  fails_here : (held file : ℕ) (P : Fsmd → Rule) → k ≡ file → IsCorrectFrom (OpensLinkWith o (held + 1) last P) file g x
      → AtLink o (held + 1) (IsJudged last next nodes) x
  fails_here held file P e p =
      let here : IsCorrectFrom (OpensLinkWith o (held + 1) last P) k g x = subst (λ n. IsCorrectFrom (OpensLinkWith o (held + 1) last P) n g x) (sym e) p in
      let j : IsCorrectFrom (Judges o (held + 1) last next nodes (P next)) (k + 1 + 1) g x = judged w o (held + 1) last P g k x next nodes link here in
      fails o (held + 1) last next nodes (P next) (k + 1 + 1) j.reading x stops j.follows

  one_fails : (held known left file : ℕ) (so_far : Fsmd) → known < left → k ≡ file + 2 * known → AreKnownToHold g file known so_far last
      → IsCorrectFrom (OpensLinks o first so_far held left) file g x
      → AtLink o (held + known + 1) (IsJudged last next nodes) x
  one_fails held known zero file so_far below e l p = absurd (not_below known below)
  one_fails held zero (suc left) file so_far below e l p =
      let P : Fsmd → Rule = λ m. OpensLinks o first m (held + 1) left in
      subst (λ n. AtLink o n (IsJudged last next nodes) x) (this_link held)
      (fails_here held file P (none_held k file e) (subst (λ m. IsCorrectFrom (OpensLinkWith o (held + 1) m P) file g x) l p))
  one_fails held (suc known) (suc left) file so_far below e l p =
      subst (λ n. AtLink o n (IsJudged last next nodes) x) (next_link held known)
      (one_fails (held + 1) known left (file + 2) l.next (below_suc known left below) (one_held k file known e) l.rest
      (behind w o (held + 1) so_far (λ m. OpensLinks o first m (held + 1) left) g file x l.next l.nodes l.spelled l.holds p))

pub odd_file : (n : ℕ) → 2 * n + 1 ≡ 1 + 2 * n
odd_file n = omega arith

pub chain_stopped : (w : ReadInOneWay) → (g : Call) (x : Answer) (words : List (List ℕ)) (held : ℕ) (first last next : Fsmd) (nodes : List (Node Fact))
    → g.asked ≡ Some (Chain words) → held < links_of words → IsKnown g 0 (SpellsMachine first)
    → AreKnownToHold g 1 held first last → SpellLink g (2 * held + 1) last next nodes → verdict_on last next nodes ≢ Yes → IsCorrectAnswer g x
    → AtLink g.asked (held + 1) (IsJudged last next nodes) x
chain_stopped w g x words held first last next nodes e below k l link stops p =
    let stopped : AtLink (Some (Chain words)) (0 + held + 1) (IsJudged last next nodes) x =
    one_fails w (Some (Chain words)) g x first last next nodes (2 * held + 1) link stops 0 held (links_of words) 1 first below (odd_file held) l
    (begun words g x first e k p) in
    subst (λ o. AtLink o (held + 1) (IsJudged last next nodes) x) (sym e)
    (subst (λ n. AtLink (Some (Chain words)) (n + 1) (IsJudged last next nodes) x) (from_zero held) stopped)
