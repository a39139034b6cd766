-- The files of a chain are settled up to a link that ends it, and what follows from that link follows from the chain.
use Rattle.std.proofs.Common.{◌≡◌, ℕ, zero, suc, ◌+◌, ◌*◌, ◌<◌, List, Option, Some, refl, sym, subst, arith}
use Rattle.std.specs.Prelude.{◌≢◌}
use Rattle.fs_model.proofs.Numbers.{below_suc}
use Rattle.fsmd_words.specs.AskedWords.{Asked, Chain}
use Rattle.fs_model.specs.Machines.{Fsmd}
use Rattle.cert_bisimulation.specs.Tables.{Node}
use Rattle.sym_facts.specs.Facts.{Fact}
use Rattle.cert_model.specs.Obligations.{Yes, verdict_on}
use Rattle.fsmd_replies.specs.declared.answer.Answer.{Answer}
use Rattle.fsmd_replies.specs.declared.answer.Answer.TheVariants.{Link}
use Rattle.fsmd_replies.specs.Statuses.{status_of}
use Rattle.fsmd_replies.specs.ChainTexts.{link_lines}
use Rattle.fsmd_tool.specs.MachineFiles.{SpellsMachine}
use Rattle.fsmd_tool.specs.Refusals.{SpellsCertificate}
use Rattle.fsmd_tool.specs.Verdicts.{IsJudged, answer_to}
use Rattle.fsmd_tool.specs.Links.{AtLink, links_of}
use Rattle.fsmd_tool.specs.Follows.{Spelled, SameInterface, Fails, Holds, OpensLinks, Follows}
use Rattle.fsmd_tool.specs.Calls.{Call}
use Rattle.fsmd_tool_laws.specs.Settled.{IsSettled, IsKnown, SpellLink, AreKnownToHold, read_from, AreSettledUpToRefused}
use Rattle.fsmd_tool_laws.proofs.Certificates.{ReadInOneWay}
use Rattle.fsmd_tool_laws.proofs.Following.{Rule, OpensLinkWith}
use Rattle.fsmd_tool_laws.proofs.Known.{known_settled, known_meets}
use Rattle.fsmd_tool_laws.proofs.Chains.{none_held, not_below, odd_file, none_left}
use Rattle.fsmd_tool_laws.proofs.Settling.{answered_settled}

-- how many files so many links are that hold, and so many files behind them
abbrev pub files_in : (count known : ℕ) → ℕ
files_in count zero = count
files_in count (suc known) = suc (suc (files_in count known))

two_files : (file : ℕ) → file + 2 ≡ file + 1 + 1
two_files file = omega arith

two_held : (k file n : ℕ) → k ≡ file + 2 * suc n → k ≡ file + 1 + 1 + 2 * n
two_held k file n e = omega arith

next_file : (file : ℕ) → file + 1 ≡ file + suc zero
next_file file = omega arith

later_file : (file i : ℕ) → file + 1 + 1 + i ≡ file + suc (suc i)
later_file file i = omega arith

two_less : (i n : ℕ) → suc (suc i) < suc (suc n) → i < n
two_less i n h = omega arith

-- a file is settled, by its number from itself on; and the one behind it
at_first : (g : Call) (file : ℕ) → IsSettled g file → IsSettled g (file + zero)
at_first g file s = subst (λ n. IsSettled g n) (none_left file) s

at_second : (g : Call) (file : ℕ) → IsSettled g (file + 1) → IsSettled g (file + suc zero)
at_second g file s = subst (λ n. IsSettled g n) (next_file file) s

pub one_settled : (g : Call) (file : ℕ) → IsSettled g file → (i : ℕ) → i < 1 → IsSettled g (file + i)
one_settled g file s zero b = at_first g file s
one_settled g file s (suc i) b = absurd (not_below i (below_suc i zero b))

pub both_settled : (g : Call) (file : ℕ) → IsSettled g file → IsSettled g (file + 1) → (i : ℕ) → i < 2 → IsSettled g (file + i)
both_settled g file s t zero b = at_first g file s
both_settled g file s t (suc zero) b = at_second g file t
both_settled g file s t (suc (suc i)) b = absurd (not_below i (two_less i zero b))

-- both files of a link are settled
first_settled : (g : Call) (file : ℕ) (last next : Fsmd) (nodes : List (Node Fact)) → SpellLink g file last next nodes → IsSettled g file
first_settled g file last next nodes k = known_settled g file (SpellsMachine next) k.machine

second_settled : (g : Call) (file : ℕ) (last next : Fsmd) (nodes : List (Node Fact)) → SpellLink g file last next nodes → IsSettled g (file + 1)
second_settled g file last next nodes k = known_settled g (file + 1) (SpellsCertificate last next nodes) k.certificate

-- the answer to the link of a number, by the verdict on its certificate
abbrev told : Option Asked → (a b : Fsmd) → List (Node Fact) → (link : ℕ) → Answer
told o a b nodes link = Link (status_of (answer_to a b (verdict_on a b nodes))) (link_lines o link (answer_to a b (verdict_on a b nodes)))

is_told : (o : Option Asked) (a b : Fsmd) (nodes : List (Node Fact)) (link : ℕ) → verdict_on a b nodes ≢ Yes
    → AtLink o link (IsJudged a b nodes) (told o a b nodes link)
is_told o a b nodes link stops = record {
  stop = answer_to a b (verdict_on a b nodes);
  meets = record { is = refl; same = λ e. absurd (stops e) };
  is = refl;
}

-- what follows from a link that does not hold
link_fails : (o : Option Asked) (g : Call) (link file : ℕ) (last next : Fsmd) (nodes : List (Node Fact)) (P : Fsmd → Rule) → SpellLink g file last next nodes
    → verdict_on last next nodes ≢ Yes → OpensLinkWith o link last P file (read_from g file 2) (told o last next nodes link)
link_fails o g link file last next nodes P k stops =
    Spelled next (known_meets g file (SpellsMachine next) k.machine)
    (SameInterface k.alike
    (Spelled nodes (known_meets g (file + 1) (SpellsCertificate last next nodes) k.certificate) (Fails stops (is_told o last next nodes link stops) refl)))

-- what follows behind a link that holds
link_holds : (o : Option Asked) (g : Call) (link file count : ℕ) (last next : Fsmd) (nodes : List (Node Fact)) (P : Fsmd → Rule) (x : Answer)
    → SpellLink g file last next nodes
    → verdict_on last next nodes ≡ Yes → P next (file + 1 + 1) (read_from g (file + 1 + 1) count) x
    → OpensLinkWith o link last P file (read_from g file (suc (suc count))) x
link_holds o g link file count last next nodes P x k holds p =
    Spelled next (known_meets g file (SpellsMachine next) k.machine)
    (SameInterface k.alike (Spelled nodes (known_meets g (file + 1) (SpellsCertificate last next nodes) k.certificate) (Holds holds p)))

rest_known : (g : Call) (file known : ℕ) (so_far last : Fsmd) → AreKnownToHold g (file + 2) known so_far last
    → AreKnownToHold g (file + 1 + 1) known so_far last
rest_known g file known so_far last h = subst (λ n. AreKnownToHold g n known so_far last) (two_files file) h

-- behind the links that hold so many files from file k on are settled
module _ (g : Call) (last : Fsmd) (k count : ℕ) (settled : (i : ℕ) → i < count → IsSettled g (k + i)) where
  all_settled : (known file : ℕ) (so_far : Fsmd) → k ≡ file + 2 * known → AreKnownToHold g file known so_far last → (i : ℕ) → i < files_in count known
      → IsSettled g (file + i)
  all_settled zero file so_far e h i b = subst (λ n. IsSettled g (n + i)) (none_held k file e) (settled i b)
  all_settled (suc known) file so_far e h zero b = at_first g file (first_settled g file so_far h.next h.nodes h.spelled)
  all_settled (suc known) file so_far e h (suc zero) b = at_second g file (second_settled g file so_far h.next h.nodes h.spelled)
  all_settled (suc known) file so_far e h (suc (suc i)) b =
      subst (λ n. IsSettled g n) (later_file file i)
      (all_settled known (file + 1 + 1) h.next (two_held k file known e) (rest_known g file known h.next last h.rest) i
      (two_less i (files_in count known) b))

last_link : (link held : ℕ) → link ≡ held + zero + 1 → link ≡ held + 1
last_link link held e = omega arith

later_link : (link held known : ℕ) → link ≡ held + suc known + 1 → link ≡ held + 1 + known + 1
later_link link held known e = omega arith

-- behind the links that hold an answer follows from what is read of so many files from file k on, as those of the link of a number
module _ (o : Option Asked) (g : Call) (first last : Fsmd) (link k count : ℕ) (x : Answer)
    (stops : (P : Fsmd → Rule) → OpensLinkWith o link last P k (read_from g k count) x) where
  stops_here : (held left file : ℕ) (so_far : Fsmd) → link ≡ held + 1 → k ≡ file → so_far ≡ last
      → OpensLinks o first so_far held (suc left) file (read_from g file count) x
  stops_here held left file so_far n e h =
      let P : Fsmd → Rule = λ m. OpensLinks o first m (held + 1) left in
      subst (λ m. OpensLinkWith o (held + 1) m P file (read_from g file count) x) (sym h)
      (subst (λ f. OpensLinkWith o (held + 1) last P f (read_from g f count) x) e
      (subst (λ u. OpensLinkWith o u last P k (read_from g k count) x) n (stops P)))

  stops_so : (held left known file : ℕ) (so_far : Fsmd) → known < left → link ≡ held + known + 1 → k ≡ file + 2 * known
      → AreKnownToHold g file known so_far last → OpensLinks o first so_far held left file (read_from g file (files_in count known)) x
  stops_so held zero known file so_far below n e h = absurd (not_below known below)
  stops_so held (suc left) zero file so_far below n e h = stops_here held left file so_far (last_link link held n) (none_held k file e) h
  stops_so held (suc left) (suc known) file so_far below n e h =
      let P : Fsmd → Rule = λ m. OpensLinks o first m (held + 1) left in
      let rest : P h.next (file + 1 + 1) (read_from g (file + 1 + 1) (files_in count known)) x =
      stops_so (held + 1) left known (file + 1 + 1) h.next (below_suc known left below) (later_link link held known n) (two_held k file known e)
      (rest_known g file known h.next last h.rest) in
      link_holds o g (held + 1) file (files_in count known) so_far h.next h.nodes P x h.spelled h.holds rest

behind_first : (n : ℕ) → 1 + n ≡ suc n
behind_first n = omega arith

first_link : (n : ℕ) → n + 1 ≡ 0 + n + 1
first_link n = omega arith

-- the files of a chain are settled up to so many behind the links that hold
pub chain_settled : (g : Call) (known count : ℕ) (first last : Fsmd) → IsKnown g 0 (SpellsMachine first) → AreKnownToHold g 1 known first last
    → ((i : ℕ) → i < count → IsSettled g (2 * known + 1 + i)) → (file : ℕ) → file < suc (files_in count known) → IsSettled g file
chain_settled g known count first last begins h settled zero b = known_settled g 0 (SpellsMachine first) begins
chain_settled g known count first last begins h settled (suc file) b =
    subst (λ n. IsSettled g n) (behind_first file)
    (all_settled g last (2 * known + 1) count settled known 1 first (odd_file known) h file (below_suc file (files_in count known) b))

-- what follows from the next link follows from the chain
pub chain_follows : (words : List (List ℕ)) (g : Call) (known count : ℕ) (first last : Fsmd) (x : Answer) → known < links_of words
    → IsKnown g 0 (SpellsMachine first) → AreKnownToHold g 1 known first last
    → ((P : Fsmd → Rule) → OpensLinkWith (Some (Chain words)) (known + 1) last P (2 * known + 1) (read_from g (2 * known + 1) count) x)
    → Follows (Some (Chain words)) (read_from g 0 (suc (files_in count known))) x
chain_follows words g known count first last x below begins h stops =
    Spelled first (known_meets g 0 (SpellsMachine first) begins)
    (stops_so (Some (Chain words)) g first last (known + 1) (2 * known + 1) count x stops 0 (links_of words) known 1 first below (first_link known)
    (odd_file known) h)

-- the files of a chain up to its first link that does not hold
pub link_settled : (w : ReadInOneWay) → (g : Call) (words : List (List ℕ)) (known : ℕ) (first last next : Fsmd) (nodes : List (Node Fact))
    → g.asked ≡ Some (Chain words) → known < links_of words → IsKnown g 0 (SpellsMachine first) → AreKnownToHold g 1 known first last
    → SpellLink g (2 * known + 1) last next nodes → verdict_on last next nodes ≢ Yes → AreSettledUpToRefused g
link_settled w g words known first last next nodes e below begins h link stops =
    let o : Option Asked = Some (Chain words) in
    let file : ℕ = 2 * known + 1 in
    let x : Answer = told o last next nodes (known + 1) in
    let count : ℕ = suc (files_in 2 known) in
    let both = both_settled g file (first_settled g file last next nodes link) (second_settled g file last next nodes link) in
    let follows : Follows o (read_from g 0 count) x =
    chain_follows words g known 2 first last x below begins h (λ P. link_fails o g (known + 1) file last next nodes P link stops) in
    answered_settled w g count x (chain_settled g known 2 first last begins h both) (subst (λ q. Follows q (read_from g 0 count) x) (sym e) follows)
