-- What arrives at a pair of alike points by two paths that are not of one number is refuted.
use Rattle.std.proofs.Common.{◌≡◌, List, Some, true}
use Rattle.std.specs.Prelude.{◌≢◌}
use Rattle.fs_model.specs.SoundMachines.{IsSound}
use Rattle.fs_model.specs.Machines.{Fsmd}
use Rattle.fs_cut.specs.Paths.{Point, Path, IsPath}
use Rattle.nf_terms.specs.Computed.{Done}
use Rattle.fs_model.specs.declared.sides.Pos.{Pos}
use Rattle.nf_terms.specs.declared.form.Nf.{Nf}
use Rattle.nf_rel.specs.Literals.{NormalLiteral, is_refuted}
use Rattle.nf_rel.proofs.Clashing.{clash_refutes}
use Rattle.sym_paths.specs.Execution.{Post, arrive}
use Rattle.cert_bisimulation.specs.Alike.{AlikePoints}
use Rattle.alike_searches.specs.Evenness.{IsEven}
use Rattle.alike_searches.proofs.OtherArrivals.{arrivals_clash}

pub others_refuted : (a b : Fsmd) → IsSound a → (K : List (Point × Point)) (P Q : Point) (p q : Path) (ls : List NormalLiteral)
    (v : List (Pos × Nf)) (post : Post)
    → AlikePoints a b K P Q → IsEven a b v → IsPath a p → IsPath b q → p.from ≡ P → q.from ≡ Q → p.branch ≢ q.branch
    → arrive a b ls v (Some p) (Some q) ≡ Done post → is_refuted post.conditions ≡ true
others_refuted a b sound K P Q p q ls v post w even left right from from' other e =
    let c = arrivals_clash a b sound K P Q p q ls v post w even left right from from' other e in
    clash_refutes post.conditions c.left c.right c.literal c.other c.left_at c.right_at c.clashes
