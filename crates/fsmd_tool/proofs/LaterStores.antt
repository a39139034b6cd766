-- What became of a file in a call that began before, where files were only read until then.
use Rattle.std.proofs.Common.{◌≡◌, ◌∙◌, ℕ, List, Option, subst}
use Rattle.fs_base.specs.Outside.{FileKnowledge, FilesTold, SameHeld, OthersHeld, held_after}
use Rattle.fsmd_replies.specs.declared.answer.Status.{Status}
use Rattle.fsmd_tool.specs.Calls.{OnlyRead}
use Rattle.fsmd_tool.specs.SinkReplies.{Put}
use Rattle.fsmd_tool.specs.CertificateStores.{file_change, IsUnchangedStore, IsStoredUnder, IsUnstored, FileToStore}
use Rattle.fsmd_tool.specs.CertificateStores.{Leaves, LeftAlone, LeftStored, LeftUnstored}
use Rattle.fsmd_tool.specs.CertificateStores.{NotStored, Untouched, Failed}
use Rattle.fsmd_tool.specs.Correct.{IsDone, Kept, Stored, Unstored}
use Rattle.fsmd_tool.proofs.Later.{rose_since}

others_since : (name : List ℕ) (old mid now : List ℕ → FileKnowledge) → SameHeld old mid → OthersHeld name mid now → OthersHeld name old now
others_since name old mid now same o = λ other away. o other away ∙ same other

kept_since : (old mid now : FilesTold) → OnlyRead old mid → IsUnchangedStore (file_change mid now) → IsUnchangedStore (file_change old now)
kept_since old mid now r k = λ name. k name ∙ r.unchanged name

stored_since : (name bytes : List ℕ) (old mid now : FilesTold) → OnlyRead old mid → IsStoredUnder name bytes (file_change mid now)
    → IsStoredUnder name bytes (file_change old now)
stored_since name bytes old mid now r s =
    record {
      stored = subst (λ k. now.holds name ≡ held_after k bytes) (r.unchanged name) s.stored;
      others = others_since name old.holds mid.holds now.holds r.unchanged s.others;
    }

unstored_since : (name : List ℕ) (old mid now : FilesTold) → OnlyRead old mid → IsUnstored name (file_change mid now) → IsUnstored name (file_change old now)
unstored_since name old mid now r s = record {
  failed = rose_since (old.store_faults name) (mid.store_faults name) (now.store_faults name) (r.store_counts name) s.failed;
  others = others_since name old.holds mid.holds now.holds r.unchanged s.others;
}

-- what was held until the store
pub done_since : (e : Option FileToStore) (reply : List ℕ) (meant : Status) (old mid now : FilesTold) (p : Put) → OnlyRead old mid
    → IsDone e reply meant (file_change mid now) p → IsDone e reply meant (file_change old now) p
done_since e reply meant old mid now p r (Kept none k put) = Kept none (kept_since old mid now r k) put
done_since e reply meant old mid now p r (Stored x is s put) = Stored x is (stored_since x.name x.bytes old mid now r s) put
done_since e reply meant old mid now p r (Unstored x is u put) = Unstored x is (unstored_since x.name old mid now r u) put

pub not_stored_since : (e : Option FileToStore) (old mid now : FilesTold) → OnlyRead old mid → NotStored e (file_change mid now)
    → NotStored e (file_change old now)
not_stored_since e old mid now r (Untouched k) = Untouched (kept_since old mid now r k)
not_stored_since e old mid now r (Failed x is u) = Failed x is (unstored_since x.name old mid now r u)

pub leaves_since : (e : Option FileToStore) (old mid now : FilesTold) → OnlyRead old mid → Leaves e (file_change mid now) → Leaves e (file_change old now)
leaves_since e old mid now r (LeftAlone k) = LeftAlone (kept_since old mid now r k)
leaves_since e old mid now r (LeftStored x is s) = LeftStored x is (stored_since x.name x.bytes old mid now r s)
leaves_since e old mid now r (LeftUnstored x is u) = LeftUnstored x is (unstored_since x.name old mid now r u)
