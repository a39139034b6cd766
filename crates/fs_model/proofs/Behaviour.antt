-- Same behaviour is an equivalence.
use Rattle.fs_model.specs.Machines.{Fsmd}
use Rattle.fs_model.specs.Runs.{SameBehaviour}

pub reflexive : (a : Fsmd) → SameBehaviour a a
reflexive a = record { forth = λ ins outs n r. (n, r); back = λ ins outs n r. (n, r) }

pub symmetric : (a b : Fsmd) → SameBehaviour a b → SameBehaviour b a
symmetric a b h = record { forth = h.back; back = h.forth }

pub transitive : (a b c : Fsmd) → SameBehaviour a b → SameBehaviour b c → SameBehaviour a c
transitive a b c f g = record {
  forth = λ ins outs n r. let x = f.forth ins outs n r in g.forth ins outs x.0 x.1;
  back = λ ins outs n r. let x = g.back ins outs n r in f.back ins outs x.0 x.1;
}
