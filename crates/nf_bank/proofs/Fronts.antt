-- Banks that grow.
use Rattle.std.proofs.Common.{◌≡◌, Bool, true, false, cond, List, [], ◌∷◌, ◌++◌, length, take, append_assoc, ap, sym, subst, ◌∙◌}
use Rattle.std.proofs.lemmas.List.{append-nil}
use Rattle.std.proofs.Math.Seq.{take-append_seam}
use Rattle.nf_trees.specs.NormalTerms.{Atom}
use Rattle.nf_bank.specs.Atoms.{holds_atom, with_one, IsFront}

pub front_same : (a b : List Atom) → b ≡ a → IsFront a b
front_same a b e = record { rest = []; split = e ∙ sym (append-nil a) }

pub front_trans : (a b c : List Atom) → IsFront a b → IsFront b c → IsFront a c
front_trans a b c f g = record { rest = f.rest ++ g.rest; split = g.split ∙ ap (λ t. t ++ g.rest) f.split ∙ append_assoc a f.rest g.rest }

pub front_one : (a : List Atom) (x : Atom) (b : List Atom) → b ≡ with_one x a → IsFront a b
front_one a x b e = subst (IsFront a) (sym e) (by_value (holds_atom x a))
  where
    by_value : (t : Bool) → IsFront a (cond t a (a ++ x ∷ []))
    by_value true = record { rest = []; split = sym (append-nil a) }
    by_value false = record { rest = x ∷ []; split = λ k. a ++ x ∷ [] }

-- what is left of a bank that grew, when it is cut back
pub cut_back : (a b : List Atom) → IsFront a b → take (length a) b ≡ a
cut_back a b f = ap (take (length a)) f.split ∙ take-append_seam a f.rest

pub ruleset fronts = (front_same, front_trans)
