-- What arrives means what both paths do.
use Rattle.std.proofs.Common.{◌≡◌, ap, ap₂, sym, ◌∙◌, List, [], ◌++◌, Option, Some, None}
use Rattle.std.specs.Prelude.{◌&&◌}
use Rattle.std.proofs.lemmas.List.Folds.{list_all-append}
use Rattle.fs_model.specs.Machines.{Fsmd}
use Rattle.fs_cut.specs.Paths.{Path, state_of, branch_at, steps_in, takes}
use Rattle.nf_terms.specs.TermMeaning.{Valuation}
use Rattle.fs_model.specs.declared.sides.Side.{Side}
use Rattle.fs_model.specs.declared.sides.Side.TheVariants.{Left, Right}
use Rattle.nf_terms.specs.Computed.{Done, after}
use Rattle.fs_model.specs.declared.sides.Pos.{Pos}
use Rattle.nf_terms.specs.declared.form.Nf.{Nf}
use Rattle.nf_sums.proofs.Values.{goes_done}
use Rattle.nf_vectors.specs.Vectors.{vector_meaning}
use Rattle.nf_rel.specs.Literals.{NormalLiteral, is_true_in, all_true_in}
use Rattle.sym_paths.specs.ValuationStores.{store_on, other}
use Rattle.sym_paths.specs.Execution.{Post, conditions, steps_over, execute_if, arrive, takes_if, effect_if}
use Rattle.sym_paths.proofs.Values.{literals_evaluated}
use Rattle.sym_paths.proofs.Changes.{steps_done, steps_stay}

pub conditions_mean : (m : Fsmd) (p : Path) (side : Side) (v : List (Pos × Nf)) (ls : List NormalLiteral) (w : Valuation) → conditions m p side v ≡ Done ls
    → all_true_in w ls ≡ takes m p (store_on side (vector_meaning v w))
conditions_mean m p side v ls w e = literals_evaluated w side v (branch_at m (state_of m p.from) p.branch).literals ls e

-- what a side's execution means
pub record Executed (m : Fsmd) (o : Option Path) (side : Side) (v : List (Pos × Nf)) (w : Valuation) (post : Post) : Type 0 where
  pub true_where : all_true_in w post.conditions ≡ takes_if m o (store_on side (vector_meaning v w))
  pub ends : store_on side (vector_meaning post.vector w) ≡ effect_if m o (store_on side (vector_meaning v w))
  pub stays : store_on (other side) (vector_meaning post.vector w) ≡ store_on (other side) (vector_meaning v w)

pub executed : (m : Fsmd) (o : Option Path) (side : Side) (v : List (Pos × Nf)) (w : Valuation) (post : Post) → execute_if m o side v ≡ Done post
    → Executed m o side v w post
executed m None side v w post e =
    let k : record { conditions = []; vector = v } ≡ post = cc e in
    record {
      true_where = sym (ap (λ (z : Post). all_true_in w z.conditions) k);
      ends = sym (ap (λ (z : Post). store_on side (vector_meaning z.vector w)) k);
      stays = sym (ap (λ (z : Post). store_on (other side) (vector_meaning z.vector w)) k);
    }
executed m (Some p) side v w post e =
    let s = goes_done (conditions m p side v) (λ ls. after (steps_over m side (steps_in p) v) (λ u. Done (record { conditions = ls; vector = u }))) post e in
    let t = goes_done (steps_over m side (steps_in p) v) (λ u. Done (record { conditions = s.middle; vector = u })) post s.next in
    let k : record { conditions = s.middle; vector = t.middle } ≡ post = cc t.next in
    record {
      true_where = sym (ap (λ (z : Post). all_true_in w z.conditions) k) ∙ conditions_mean m p side v s.middle w s.first;
      ends = sym (ap (λ (z : Post). store_on side (vector_meaning z.vector w)) k) ∙ steps_done w side m (steps_in p) v t.middle t.first;
      stays = sym (ap (λ (z : Post). store_on (other side) (vector_meaning z.vector w)) k) ∙ steps_stay w side m (steps_in p) v t.middle t.first;
    }

-- what arrives
pub record Arrived (a b : Fsmd) (ls : List NormalLiteral) (v : List (Pos × Nf)) (left right : Option Path) (w : Valuation) (post : Post) : Type 0 where
  pub true_where : all_true_in w post.conditions
      ≡ (all_true_in w ls && (takes_if a left (store_on Left (vector_meaning v w)) && takes_if b right (store_on Right (vector_meaning v w))))
  pub left_end : store_on Left (vector_meaning post.vector w) ≡ effect_if a left (store_on Left (vector_meaning v w))
  pub right_end : store_on Right (vector_meaning post.vector w) ≡ effect_if b right (store_on Right (vector_meaning v w))

pub arrived : (a b : Fsmd) (ls : List NormalLiteral) (v : List (Pos × Nf)) (left right : Option Path) (post : Post) (w : Valuation)
    → arrive a b ls v left right ≡ Done post → Arrived a b ls v left right w post
arrived a b ls v left right post w e =
    let s = goes_done (execute_if a left Left v)
    (λ l. after (execute_if b right Right l.vector) (λ r. Done (record { conditions = ls ++ (l.conditions ++ r.conditions); vector = r.vector }))) post e in
    let t = goes_done (execute_if b right Right s.middle.vector)
    (λ r. Done (record { conditions = ls ++ (s.middle.conditions ++ r.conditions); vector = r.vector })) post s.next in
    let k : record { conditions = ls ++ (s.middle.conditions ++ t.middle.conditions); vector = t.middle.vector } ≡ post = cc t.next in
    let x = executed a left Left v w s.middle s.first in
    let y = executed b right Right s.middle.vector w t.middle t.first in
    record {
      true_where = sym (ap (λ (z : Post). all_true_in w z.conditions) k)
          ∙ list_all-append (is_true_in w) ls (s.middle.conditions ++ t.middle.conditions)
          ∙ ap (λ z. all_true_in w ls && z)
          (list_all-append (is_true_in w) s.middle.conditions t.middle.conditions
          ∙ ap₂ (λ p q. p && q) x.true_where (y.true_where ∙ ap (takes_if b right) x.stays));
      left_end = sym (ap (λ (z : Post). store_on Left (vector_meaning z.vector w)) k) ∙ y.stays ∙ x.ends;
      right_end = sym (ap (λ (z : Post). store_on Right (vector_meaning z.vector w)) k) ∙ y.ends ∙ ap (effect_if b right) x.stays;
    }
