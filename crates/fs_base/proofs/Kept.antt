-- A read after reads that took nothing.
use Rattle.std.proofs.Common.{ℕ, List, ◌∙◌, sym, take, Option, Some, None}
use Rattle.std.specs.Prelude.{Result, Ok, Err}
use Rattle.std.specs.Io.KnownBytes.{Keeps, Consumes, ReadConsumes}
use Rattle.std.proofs.KnownBytes.{Keeps-trans}

consumes_after : (a b c : Option (List ℕ)) (bytes : List ℕ) → Keeps a b → Consumes b c bytes → Consumes a c bytes
consumes_after None b c bytes k h = tt
consumes_after (Some x) None c bytes k h = absurd k
consumes_after (Some x) (Some y) None bytes k h = absurd h
consumes_after (Some x) (Some y) (Some z) bytes k h = sym k ∙ h

pub reads_after : {E : Type 0} (a b c : Option (List ℕ)) (r : Result ℕ E) (buffer : List ℕ) → Keeps a b → ReadConsumes b c r buffer → ReadConsumes a c r buffer
reads_after a b c (Ok n) buffer k h = (consumes_after a b c (take n buffer) k h.0, h.1)
reads_after a b c (Err e) buffer k h = Keeps-trans a b c k h
