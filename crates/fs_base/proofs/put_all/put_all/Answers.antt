use Rattle.std.proofs.Common.{◌≡◌, ℕ, List, ◌+◌, ◌-◌, ◌≤◌, Option, Some, None, refl, ap, ◌∙◌, append_assoc, arith, take, drop, length, length-drop}
use Rattle.std.proofs.lemmas.List.{take_rest}
use Rattle.std.proofs.Math.Seq.{take-add}
use Rattle.fs_base.specs.Outside.{got_after, room_after}
use Rattle.fs_base.proofs.put_all.put_all.Goals as goal

-- one more piece of the bytes that are left
appended-take : (got : Option (List ℕ)) (bytes : List ℕ) (i n : ℕ) →
    got_after (got_after got (take i bytes)) (take n (take (length bytes - i) (drop i bytes))) ≡ got_after got (take (i + n) bytes)
appended-take None bytes i n = refl
appended-take (Some got) bytes i n = grind (arith, take_rest bytes i, take-add i n bytes, append_assoc got (take i bytes) (take n (drop i bytes)))

next_piece : (old now new : Option (List ℕ)) (bytes : List ℕ) (i n : ℕ) → now ≡ got_after old (take i bytes) →
    new ≡ got_after now (take n (take (length bytes - i) (drop i bytes))) → new ≡ got_after old (take (i + n) bytes)
next_piece old now new bytes i n e f = f ∙ ap (λ got. got_after got (take n (take (length bytes - i) (drop i bytes)))) e ∙ appended-take old bytes i n

lowered-twice : (spare : Option ℕ) (i n : ℕ) → room_after (room_after spare i) n ≡ room_after spare (i + n)
lowered-twice None i n = refl
lowered-twice (Some spare) i n = ap Some (omega arith)

less_spare : (old now new : Option ℕ) (i n : ℕ) → now ≡ room_after old i → new ≡ room_after now n → new ≡ room_after old (i + n)
less_spare old now new i n e f = f ∙ ap (λ spare. room_after spare n) e ∙ lowered-twice old i n

within : (bytes : List ℕ) (i n : ℕ) → i ≤ length bytes → n ≤ length (take (length bytes - i) (drop i bytes)) → i + n ≤ length bytes
within bytes i n h k = omega (arith, length-drop i bytes, rw take_rest at k)

pub loop-sent-preserved : goal.loop-sent-preserved
loop-sent-preserved g c = record {
  within = within _ _ _ c.loop-sent.invariant.within c.in-Ok.ensures.within;
  got = next_piece (g.S.Sink.told c.args.sink.now).got (g.S.Sink.told c.loop-sent.sink).got
      (g.S.Sink.told c.put.new.self).got c.args.bytes.now c.loop-sent.sent c.in-Ok.taken c.loop-sent.invariant.got c.in-Ok.ensures.got;
  spare = less_spare (g.S.Sink.told c.args.sink.now).spare (g.S.Sink.told c.loop-sent.sink).spare
      (g.S.Sink.told c.put.new.self).spare c.loop-sent.sent c.in-Ok.taken c.loop-sent.invariant.spare c.in-Ok.ensures.spare;
  counts = omega (arith, c.loop-sent.invariant.counts, c.in-Ok.ensures.counts);
}
