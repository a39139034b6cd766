-- What holds of the first items holds of one more.
use Rattle.std.proofs.Common.{◌≡◌, ℕ, suc, ◌+◌, ◌<◌, List, [], ◌∷◌, ◌++◌, length, take, get_or, sym, subst, arith}
use Rattle.std.proofs.Math.Seq.{take-suc}
use Rattle.nf_trees.specs.NormalTerms.{Polynomial}
use Rattle.nf_terms.specs.Normal.{IsNormal}
use Rattle.nf_terms.specs.Lists.{AreNormalItems}

pub pushed_normal : (ps : List Polynomial) (p : Polynomial) → AreNormalItems ps → IsNormal p → AreNormalItems (ps ++ p ∷ [])
pushed_normal [] p a n = (n, tt)
pushed_normal (q ∷ ps) p a n = (a.0, pushed_normal ps p a.1 n)

pub next_keeps_normal_items : (ps : List Polynomial) (i : ℕ) (d : Polynomial) → i < length ps → AreNormalItems (take i ps) → IsNormal (get_or ps i d)
    → AreNormalItems (take (i + 1) ps)
next_keeps_normal_items ps i d h a n =
    let s : suc i ≡ i + 1 = omega arith in
    subst (λ j. AreNormalItems (take j ps)) s (subst AreNormalItems (sym (take-suc ps i d h)) (pushed_normal (take i ps) (get_or ps i d) a n))
