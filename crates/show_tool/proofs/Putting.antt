-- What is shown, and what is put of it.
use Rattle.std.proofs.Common.{◌≡◌, ◌∙◌, ℕ, Bool, true, false, List, [], ◌∷◌, Option, Some, None, refl, sym, ap, subst}
use Rattle.std.specs.Prelude.{Result, Ok, Err, IfOk, IfSome, cond, codes}
use Rattle.std.specs.Str.{bytes_eq}
use Rattle.clap.specs.Words.{Kinds, Row, Text, fault_of, subcommand_of}
use Rattle.fs_base.specs.Outside.{FilesTold, NoneFell}
use Rattle.fsmd_replies.specs.declared.answer.Status.{Status}
use Rattle.fsmd_replies.specs.declared.answer.Answer.{Answer}
use Rattle.fsmd_replies.specs.Statuses.{status_of, certificate_in}
use Rattle.fsmd_replies.specs.AskedFiles.{cert_of}
use Rattle.fsmd_replies.specs.Replies.{reply}
use Rattle.fsmd_tool.specs.Calls.{call, OnlyRead, IsCorrectFrom}
use Rattle.fsmd_tool.specs.SinkReplies.{Put, IsPut}
use Rattle.fsmd_tool.specs.CertificateStores.{FileChange, file_change, IsUnchangedStore, FileToStore, file_to_store_of, to_store, Leaves, LeftAlone, LeftStored}
use Rattle.fsmd_tool.specs.CertificateStores.{LeftUnstored}
use Rattle.fsmd_tool.specs.Correct.{IsDone, IsDoneFor, Kept, Stored, Unstored}
use Rattle.fsmd_tool.proofs.Later.{correct_until}
use Rattle.fsmd_tool.proofs.LaterStores.{leaves_since}
use Rattle.show_words.specs.ViewCommandLine.{view_command_line}
use Rattle.show_words.specs.ViewWords.{ShownView, shown_by, shown_in, shown_of, where_taken}
use Rattle.show_words.proofs.Named.{asked_is}
use Rattle.show_tool.specs.Views.{ShownFrom}
use Rattle.show_tool.specs.ViewCalls.{IsShown, PutsOf}

-- ---- no view names a file for a certificate

abbrev NamesNone : ShownView → Type 0
NamesNone s = cert_of (Some s.asked) ≡ None

either : (b : Bool) (s : ShownView) (rest : Option ShownView) → NamesNone s → IfSome rest NamesNone → IfSome (cond b (Some s) rest) NamesNone
either true s rest here there = here
either false s rest here there = there

none_by : (name : Text) (rows : List Row) → IfSome (shown_by name rows) NamesNone
none_by name rows =
    either (bytes_eq name (codes "machine")) _ _ refl
    (either (bytes_eq name (codes "pair")) _ _ refl
    (either (bytes_eq name (codes "why")) _ _ refl
    (either (bytes_eq name (codes "certificate")) _ _ refl
    (either (bytes_eq name (codes "inputs")) _ _ refl
    (either (bytes_eq name (codes "trace")) _ _ refl tt)))))

none_in : (o : Option (Text × List Row)) → IfSome (shown_in o) NamesNone
none_in None = tt
none_in (Some p) = none_by p.0 p.1

none_taken : (kinds : Kinds) (o : Option ShownView) → IfSome o NamesNone → IfSome (where_taken kinds o) NamesNone
none_taken [] o h = h
none_taken (k ∷ ks) o h = tt

pub no_certificate : (words : List Text) (s : ShownView) → shown_of words ≡ Some s → cert_of (Some s.asked) ≡ None
no_certificate words s e =
    subst (λ (o : Option ShownView). IfSome o NamesNone) (sym (asked_is words) ∙ e)
    (none_taken (fault_of view_command_line words) (shown_in (subcommand_of view_command_line words)) (none_in (subcommand_of view_command_line words)))

-- ---- what is put

nothing_stored : (s : ShownView) (answer : Answer) → cert_of (Some s.asked) ≡ None → to_store (Some s.asked) answer ≡ None
nothing_stored s answer e = ap (λ o. file_to_store_of o (certificate_in answer)) e

put_alone : (e : Option FileToStore) (r : List ℕ) (meant : Status) (s : FileChange) (p : Put) → e ≡ None → IsDone e r meant s p → IsPut r meant p
put_alone e r meant s p none (Kept same k put) = put
put_alone e r meant s p none (Stored x is stored put) = absurd (let bad : Some x ≡ None = sym is ∙ none in cc)
put_alone e r meant s p none (Unstored x is stored put) = absurd (let bad : Some x ≡ None = sym is ∙ none in cc)

kept_alone : (e : Option FileToStore) (s : FileChange) → e ≡ None → Leaves e s → IsUnchangedStore s
kept_alone e s none (LeftAlone k) = k
kept_alone e s none (LeftStored x is stored) = absurd (let bad : Some x ≡ None = sym is ∙ none in cc)
kept_alone e s none (LeftUnstored x is stored) = absurd (let bad : Some x ≡ None = sym is ∙ none in cc)

-- what was put of an answer, over files that were loaded before
pub shown : {E : Type 0} (s : ShownView) (old mid now : FilesTold) (answer : Answer) (r : Result Status E) (p : Status → Put) → cert_of (Some s.asked) ≡ None
    → OnlyRead old mid
    → NoneFell mid.faults now.faults → IsCorrectFrom (ShownFrom s.view) 0 (call (Some s.asked) old mid) answer
    → IfOk r (λ t. IsDoneFor (Some s.asked) answer (file_change mid now) (p t))
    → IfOk r (λ t. IsShown s old now (p t))
shown s old mid now answer (Ok t) p none read fell correct done = record {
  answer = answer;
  correct = correct_until (Some s.asked) old mid now read.counts fell (ShownFrom s.view) 0 answer correct;
  put = put_alone (to_store (Some s.asked) answer) (reply answer (Some s.asked)) (status_of answer) (file_change mid now) (p t)
      (nothing_stored s answer none) done;
}
shown s old mid now answer (Err x) p none read fell correct done = tt

pub kept : (s : ShownView) (old mid now : FilesTold) (answer : Answer) → cert_of (Some s.asked) ≡ None → OnlyRead old mid
    → Leaves (to_store (Some s.asked) answer) (file_change mid now) → IsUnchangedStore (file_change old now)
kept s old mid now answer none read leaves =
    kept_alone (to_store (Some s.asked) answer) (file_change old now) (nothing_stored s answer none)
    (leaves_since (to_store (Some s.asked) answer) old mid now read leaves)

-- what is asked by words
pub to_words : {E : Type 0} (s : ShownView) (w : Option ShownView) (old now : FilesTold) (r : Result Status E) (p : Status → Put) → w ≡ Some s
    → IfOk r (λ t. IsShown s old now (p t)) → IfOk r (λ t. PutsOf w old now (p t))
to_words s w old now r p e h = subst (λ v. IfOk r (λ t. PutsOf v old now (p t))) (sym e) h
