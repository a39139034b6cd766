-- Two machines get one answer, but for what is found beyond a search that is left open.
use Rattle.std.proofs.Common.{◌≡◌, ⊎_elim, ℕ, ◌<◌, length, Bool, sym, ◌∙◌, ap}
use Rattle.fs_model.specs.Machines.{Fsmd}
use Rattle.fs_trials.specs.Candidates.{stated_count}
use Rattle.fs_trials.specs.Differences.{DiffersAt}
use Rattle.cert_writer.specs.WrittenCertificates.{certificate_text}
use Rattle.fsmd_replies.specs.SearchTables.{machines}
use Rattle.fsmd_tool.specs.PairAnswers.{IsLeftOpen, IsUndecided}
use Rattle.fsmd_tool.proofs.Behaviour.{same_show_nothing, one_counterexample}
use Rattle.fsmd_tool.proofs.Once.{Nodes, one_or_beyond, only_beyond, one_line, not_open}
use Rattle.fsmd_replies.specs.declared.answer.Answer.{Answer}
use Rattle.fsmd_replies.specs.declared.answer.Answer.TheVariants.{Equivalent, Differs, Undecided}
use Rattle.fsmd_replies.specs.declared.answer.Status.TheVariants.{Differ}
use Rattle.fsmd_replies.specs.Statuses.{status_of}
use Rattle.fsmd_tool.specs.LineAnswers.{HasLines}
use Rattle.fsmd_tool.specs.ComparisonAnswers.{AreSame, IsOfPair, Same, Apart, Open, text_to_store}
use Rattle.fsmd_tool_laws.specs.OneAnswer.{IsBeyond, Found, NoneFound, AreOne, Equal, GoBeyond}

open_once : (limit : ℕ) (a b : Fsmd) (x y : Answer) → HasLines (IsUndecided limit a b) Undecided x → HasLines (IsUndecided limit a b) Undecided y
    → AreOne a b x y
open_once limit a b x y p q = Equal (p.is ∙ ap Undecided (one_line (machines a b) p.lines q.lines p.holds.obstacle q.holds.obstacle) ∙ sym q.is)

-- an answer that is left undecided
left_undecided : (limit : ℕ) (a b : Fsmd) (x : Answer) → HasLines (IsUndecided limit a b) Undecided x → IsBeyond a b x
left_undecided limit a b x p = NoneFound (record { lines = p.lines; holds = p.holds.obstacle; is = p.is })

certificates_once : (keeps : Bool) (a b : Fsmd) (n k : Nodes) (x y : Answer) → AreSame a b n → AreSame a b k
    → x ≡ Equivalent (length n) (text_to_store keeps (certificate_text a b n)) → y ≡ Equivalent (length k) (text_to_store keeps (certificate_text a b k))
    → AreOne a b x y
certificates_once keeps a b n k x y p q e f =
    ⊎_elim (λ s. Equal (e ∙ ap (λ (v : Nodes). Equivalent (length v) (text_to_store keeps (certificate_text a b v))) s ∙ sym f))
    (λ c. GoBeyond c.0.left_open (Found n c.0 keeps e) (Found k c.1 keeps f))
    (one_or_beyond (machines a b) n k p.shows q.shows)

-- a certificate beside a line is found beyond the search
beyond_once : (limit : ℕ) (keeps : Bool) (a b : Fsmd) (n : Nodes) (x y : Answer) → AreSame a b n
    → x ≡ Equivalent (length n) (text_to_store keeps (certificate_text a b n)) → HasLines (IsUndecided limit a b) Undecided y
    → IsLeftOpen (machines a b) × IsBeyond a b x × IsBeyond a b y
beyond_once limit keeps a b n x y p e q = let c = only_beyond (machines a b) n q.lines p.shows q.holds.obstacle in
    (c.left_open, Found n c keeps e, left_undecided limit a b y q)

pub pair_once : (limit : ℕ) (keeps : Bool) (a b : Fsmd) (x y : Answer) → IsOfPair limit keeps a b x → IsOfPair limit keeps a b y → AreOne a b x y
pair_once limit keeps a b x y (Same n p e) (Same k q f) = certificates_once keeps a b n k x y p q e f
pair_once limit keeps a b x y (Same n p e) (Apart q) = absurd (same_show_nothing limit a b q.holds.number p.same q.holds.shows)
pair_once limit keeps a b x y (Same n p e) (Open q) = let c = beyond_once limit keeps a b n x y p e q in GoBeyond c.0 c.1 c.2
pair_once limit keeps a b x y (Apart p) (Same k q f) = absurd (same_show_nothing limit a b p.holds.number q.same p.holds.shows)
pair_once limit keeps a b x y (Apart p) (Apart q) = Equal (p.is ∙ ap Differs (one_counterexample limit a b p.lines q.lines p.holds q.holds) ∙ sym q.is)
pair_once limit keeps a b x y (Apart p) (Open q) = absurd (not_open limit a b p.lines q.lines p.holds q.holds)
pair_once limit keeps a b x y (Open p) (Same k q f) = let c = beyond_once limit keeps a b k y x q f p in GoBeyond c.0 c.2 c.1
pair_once limit keeps a b x y (Open p) (Apart q) = absurd (not_open limit a b q.lines p.lines q.holds p.holds)
pair_once limit keeps a b x y (Open p) (Open q) = open_once limit a b x y p q

-- where a candidate shows a difference, the answer is one
pub difference_told : (limit : ℕ) (keeps : Bool) (a b : Fsmd) (x : Answer) (j : ℕ) → j < stated_count a b → DiffersAt a b limit j → IsOfPair limit keeps a b x
    → status_of x ≡ Differ
difference_told limit keeps a b x j among shows (Same n p e) = absurd (same_show_nothing limit a b j p.same shows)
difference_told limit keeps a b x j among shows (Apart p) = ap status_of p.is
difference_told limit keeps a b x j among shows (Open p) = absurd (p.holds.none_differ.none j among shows)
