-- Members whose keys rise, and one more of them.
use Rattle.std.proofs.Common.{◌≡◌, ℕ, List, Ordering, Less, Equal, Greater, refl, ap, ◌∙◌, IsUtf8}
use Rattle.std.specs.Ordering.{nat_cmp, match_ordering, ordering_reverse}
use Rattle.std.specs.Cmp.Lexicographic.{slice_cmp}
use Rattle.std.proofs.lemmas.Cmp.{nat_list_cmp_total}
use Rattle.serde_json.specs.Data.{Data, Members, no_members, member, put}
use Rattle.search_laws.specs.Orderly.{IsBefore, KeysRise, IsOrderly, MembersAreOrderly}

-- two keys the other way round
pub turned : (k l : List ℕ) (o : Ordering) → slice_cmp nat_cmp k l ≡ o → slice_cmp nat_cmp l k ≡ ordering_reverse o
turned k l o e = nat_list_cmp_total.antisymm l k ∙ ap ordering_reverse e

before_more : (k l : List ℕ) (ms : Members) → slice_cmp nat_cmp k l ≡ Less → IsBefore l ms → IsBefore k ms
before_more k l no_members h b = tt
before_more k l (member x d ms) h b = (nat_list_cmp_total.trans k l x h b.0, before_more k l ms h b.1)

before_put_at : (o : Ordering) (l k x : List ℕ) (d e : Data) (ms : Members) → slice_cmp nat_cmp l k ≡ Less → IsBefore l (member x e ms)
    → IsBefore l (put k d ms)
    → IsBefore l (match_ordering o (member k d (member x e ms)) (member x d ms) (member x e (put k d ms)))
before_put_at Less l k x d e ms h b later = (h, b)
before_put_at Equal l k x d e ms h b later = b
before_put_at Greater l k x d e ms h b later = (b.0, later)

before_put : (l k : List ℕ) (d : Data) (ms : Members) → slice_cmp nat_cmp l k ≡ Less → IsBefore l ms → IsBefore l (put k d ms)
before_put l k d no_members h b = (h, tt)
before_put l k d (member x e ms) h b = before_put_at (slice_cmp nat_cmp k x) l k x d e ms h b (before_put l k d ms h b.1)

rises_at : (o : Ordering) (k x : List ℕ) (d e : Data) (ms : Members) → slice_cmp nat_cmp k x ≡ o → KeysRise (member x e ms) → KeysRise (put k d ms)
    → KeysRise (match_ordering o (member k d (member x e ms)) (member x d ms) (member x e (put k d ms)))
rises_at Less k x d e ms h r later = ((h, before_more k x ms h r.0), r)
rises_at Equal k x d e ms h r later = r
rises_at Greater k x d e ms h r later = (before_put x k d ms (turned k x Greater h) r.0, later)

pub rises : (k : List ℕ) (d : Data) (ms : Members) → KeysRise ms → KeysRise (put k d ms)
rises k d no_members r = (tt, tt)
rises k d (member x e ms) r = rises_at (slice_cmp nat_cmp k x) k x d e ms refl r (rises k d ms r.1)

orderly_at : (o : Ordering) (k x : List ℕ) (d e : Data) (ms : Members) → IsUtf8 k → IsOrderly d → MembersAreOrderly (member x e ms)
    → MembersAreOrderly (put k d ms)
    → MembersAreOrderly (match_ordering o (member k d (member x e ms)) (member x d ms) (member x e (put k d ms)))
orderly_at Less k x d e ms u h r later = (u, h, r)
orderly_at Equal k x d e ms u h r later = (r.0, h, r.2)
orderly_at Greater k x d e ms u h r later = (r.0, r.1, later)

pub orderly : (k : List ℕ) (d : Data) (ms : Members) → IsUtf8 k → IsOrderly d → MembersAreOrderly ms → MembersAreOrderly (put k d ms)
orderly k d no_members u h r = (u, h, tt)
orderly k d (member x e ms) u h r = orderly_at (slice_cmp nat_cmp k x) k x d e ms u h r (orderly k d ms u h r.2)
