-- Valuations that agree on some of the symbols.
use Rattle.std.specs.Prelude.{◌≡◌, Bool, true}
use Rattle.nf_terms.specs.TermMeaning.{Valuation}
use Rattle.fs_model.specs.declared.sides.Pos.{Pos}

-- two valuations agree on the symbols that pass a test
pub record AgreeOn (test : Pos → Bool) (v w : Valuation) : Type 0 where
  pub scalars : (q : Pos) → test q ≡ true → v.scalar q ≡ w.scalar q
  pub arrays : (q : Pos) → test q ≡ true → v.array q ≡ w.array q
  pub lists : (q : Pos) → test q ≡ true → v.list q ≡ w.list q
