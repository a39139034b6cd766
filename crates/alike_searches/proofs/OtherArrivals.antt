-- What arrives by paths of other numbers has conditions that clash.
use Rattle.std.proofs.Common.{◌≡◌, ℕ, zero, suc, sym, ◌∙◌, subst, List, [], ◌∷◌, ◌++◌, Some}
use Rattle.std.specs.Prelude.{◌≢◌, slice_get}
use Rattle.fs_model.specs.SoundMachines.{IsSound}
use Rattle.fs_model.specs.Machines.{Fsmd}
use Rattle.fs_cut.specs.Paths.{Point, Path, IsPath, steps_in}
use Rattle.nf_terms.specs.Computed.{Done, after}
use Rattle.fs_model.specs.declared.sides.Side.{Side}
use Rattle.fs_model.specs.declared.sides.Side.TheVariants.{Left, Right}
use Rattle.fs_model.specs.declared.sides.Pos.{Pos}
use Rattle.nf_terms.specs.declared.form.Nf.{Nf}
use Rattle.nf_terms.proofs.Computed.{same_Done}
use Rattle.nf_sums.proofs.Values.{goes_done}
use Rattle.nf_rel.specs.Literals.{NormalLiteral, literal}
use Rattle.sym_paths.proofs.Changes.{steps_keep}
use Rattle.sym_paths.proofs.SameForms.{conditions_same}
use Rattle.sym_paths.specs.Execution.{Post, conditions, steps_over, execute, arrive}
use Rattle.cert_bisimulation.specs.Alike.{AlikePoints}
use Rattle.alike_searches.specs.Evenness.{IsEven}
use Rattle.alike_searches.specs.Clashes.{SomeClash}
use Rattle.alike_searches.proofs.EvenPaths.{steps_of}
use Rattle.alike_searches.proofs.OtherPaths.{others_clash}

-- ---- places in joined lists

shifted : List NormalLiteral → ℕ → ℕ
shifted [] i = i
shifted (x ∷ xs) i = suc (shifted xs i)

behind : (xs ys : List NormalLiteral) (i : ℕ) (l : NormalLiteral) → slice_get ys i ≡ Some l → slice_get (xs ++ ys) (shifted xs i) ≡ Some l
unfolding shifted
behind [] ys i l e = e
behind (x ∷ xs) ys i l e = behind xs ys i l e

before : (xs ys : List NormalLiteral) (i : ℕ) (l : NormalLiteral) → slice_get xs i ≡ Some l → slice_get (xs ++ ys) i ≡ Some l
before [] ys i l e = absurd (cc e)
before (x ∷ xs) ys zero l e = e
before (x ∷ xs) ys (suc i) l e = before xs ys i l e

joined_clash : (ls ms ns : List NormalLiteral) → SomeClash ms ns → SomeClash (ls ++ (ms ++ ns)) (ls ++ (ms ++ ns))
joined_clash ls ms ns c =
    record {
      left = shifted ls c.left;
      right = shifted ls (shifted ms c.right);
      literal = c.literal;
      other = c.other;
      left_at = behind ls (ms ++ ns) c.left c.literal (before ms ns c.left c.literal c.left_at);
      right_at = behind ls (ms ++ ns) (shifted ms c.right) c.other (behind ms ns c.right c.other c.right_at);
      clashes = c.clashes;
    }

-- the conditions of a path that is executed
conditions_of : (m : Fsmd) (p : Path) (side : Side) (v : List (Pos × Nf)) (post : Post) → execute m p side v ≡ Done post
    → conditions m p side v ≡ Done post.conditions
conditions_of m p side v post e =
    let c = goes_done (conditions m p side v) (λ c. after (steps_over m side (steps_in p) v) (λ u. Done (record { conditions = c; vector = u }))) post e in
    let u = goes_done (steps_over m side (steps_in p) v) (λ u. Done (record { conditions = c.middle; vector = u })) post c.next in
    subst (λ (z : Post). conditions m p side v ≡ Done z.conditions) (same_Done (record { conditions = c.middle; vector = u.middle }) post u.next) c.first

module _ (a b : Fsmd) (sound : IsSound a) (K : List (Point × Point)) where
  pub arrivals_clash : (P Q : Point) (p q : Path) (ls : List NormalLiteral) (v : List (Pos × Nf)) (post : Post) → AlikePoints a b K P Q → IsEven a b v
      → IsPath a p → IsPath b q → p.from ≡ P → q.from ≡ Q → p.branch ≢ q.branch
      → arrive a b ls v (Some p) (Some q) ≡ Done post → SomeClash post.conditions post.conditions
  arrivals_clash P Q p q ls v post w even is js e f n g =
      let r = goes_done (execute a p Left v)
      (λ l. after (execute b q Right l.vector) (λ r. Done (record { conditions = ls ++ (l.conditions ++ r.conditions); vector = r.vector }))) post g in
      let s = goes_done (execute b q Right r.middle.vector)
      (λ z. Done (record { conditions = ls ++ (r.middle.conditions ++ z.conditions); vector = z.vector })) post r.next in
      let left : conditions a p Left v ≡ Done r.middle.conditions = conditions_of a p Left v r.middle r.first in
      let kept = steps_keep Left a (steps_in p) v r.middle.vector (steps_of a p Left v r.middle r.first) in
      let right : conditions b q Right v ≡ Done s.middle.conditions = sym (conditions_same Right v r.middle.vector kept b q)
      ∙ conditions_of b q Right r.middle.vector s.middle s.first in
      let c = others_clash a b sound K P Q p q v r.middle.conditions s.middle.conditions w even is js e f n left right in
      subst (λ (z : Post). SomeClash z.conditions z.conditions)
      (same_Done (record { conditions = ls ++ (r.middle.conditions ++ s.middle.conditions); vector = s.middle.vector }) post s.next)
      (joined_clash ls r.middle.conditions s.middle.conditions c)
