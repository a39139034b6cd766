-- A path reads the forms of its own side alone.
use Rattle.std.proofs.Common.{◌≡◌, ℕ, cond, refl, ap, sym, subst, ◌∙◌, List, [], ◌∷◌, ◌++◌, Option, Some}
use Rattle.std.specs.Prelude.{◌&&◌}
use Rattle.fs_model.specs.Expressions.{Assignment}
use Rattle.fs_model.specs.Machines.{Fsmd}
use Rattle.fs_model.specs.declared.sides.Side.{Side}
use Rattle.fs_model.specs.declared.sides.Side.TheVariants.{Left, Right}
use Rattle.fs_model.specs.declared.sides.Pos.{Pos}
use Rattle.fs_cut.specs.Paths.{Path, BranchStep, branch_at, steps_in}
use Rattle.nf_terms.specs.Forms.{sort_of_form}
use Rattle.nf_terms.specs.Mentions.{same_pos}
use Rattle.nf_terms.specs.TermSorts.{same_term_sort}
use Rattle.nf_terms.specs.Computed.{Computed, Done, Wide, Large, after}
use Rattle.nf_terms.specs.declared.form.Nf.{Nf}
use Rattle.nf_terms.specs.declared.form.Nf.TheVariants.{Num, Arr, Seq}
use Rattle.nf_arrays.specs.Writes.{write_array}
use Rattle.nf_arrays.specs.Pushes.{list_with_item}
use Rattle.nf_vectors.specs.Vectors.{with_form, array_form, list_at}
use Rattle.nf_vectors.proofs.Entries.{form_put}
use Rattle.nf_rel.specs.Literals.{NormalLiteral, is_refuted}
use Rattle.sym_paths.specs.ValuationStores.{at}
use Rattle.sym_paths.specs.Sequences.{each}
use Rattle.sym_paths.specs.Evaluation.{Change, SetTo, PutAt, PushTo, evaluate_assignment}
use Rattle.sym_paths.specs.Evaluation.{change, change_all, act_over}
use Rattle.sym_paths.specs.Execution.{Post, conditions, steps_over, execute, arrive}
use Rattle.sym_paths.proofs.Changes.{executed_keeps}
use Rattle.sym_paths.proofs.SameForms.{HaveSameForms, array_same, list_same, assignment_same, conditions_same}
use Rattle.sym_entailment.specs.Outcomes.{refuted_together}

abbrev Forms : Type 0
Forms = List (Pos × Nf)

module _ (side : Side) where
  put_agrees : (v u : Forms) (x : ℕ) (f : Nf) → HaveSameForms side v u → HaveSameForms side (with_form (at side x) f v) (with_form (at side x) f u)
  put_agrees v u x f h y s =
      form_put u (at side x) (at side y) f s
      ∙ ap (λ o. cond {A = Option Nf} (same_pos (at side y) (at side x) && same_term_sort s (sort_of_form f)) (Some f) o) (h y s)
      ∙ sym (form_put v (at side x) (at side y) f s)

  -- two executions end alike: by the same event, or in vectors that agree
  abbrev Ends : (c d : Computed Forms) → Type 0
  Ends (Done x) (Done y) = HaveSameForms side x y
  Ends (Done x) (Wide l r) = ⊥
  Ends (Done x) (Large u d) = ⊥
  Ends (Wide l r) d = d ≡ Wide l r
  Ends (Large u n) d = d ≡ Large u n

  go_on : (c d : Computed Forms) (f g : Forms → Computed Forms) → Ends c d → ((x y : Forms) → HaveSameForms side x y → Ends (f x) (g y))
      → Ends (after c f) (after d g)
  go_on (Done x) (Done y) f g h next = next x y h
  go_on (Done x) (Wide l r) f g h next = absurd h
  go_on (Done x) (Large u d) f g h next = absurd h
  go_on (Wide l r) d f g h next = ap (λ c. after c g) h
  go_on (Large u n) d f g h next = ap (λ c. after c g) h

  -- what comes first is the same
  alike : {T : Type 0} (c d : Computed T) (f g : T → Computed Forms) → d ≡ c → ((t : T) → Ends (f t) (g t)) → Ends (after c f) (after d g)
  alike {T} c d f g e next = subst (λ z. Ends (after c f) (after z g)) (sym e) (here c)
    where
      here : (c : Computed T) → Ends (after c f) (after c g)
      here (Done t) = next t
      here (Wide l r) = refl
      here (Large u n) = refl

  change_ends : (c : Change) (v u : Forms) → HaveSameForms side v u → Ends (change side c v) (change side c u)
  change_ends (SetTo x p) v u h = put_agrees v u x (Num p) h
  change_ends (PutAt x j p) v u h =
      alike (write_array (array_form v (at side x)) j p) (write_array (array_form u (at side x)) j p) (λ a. Done (with_form (at side x) (Arr a) v))
      (λ a. Done (with_form (at side x) (Arr a) u)) (ap (λ a. write_array a j p) (array_same side v u h x)) (λ a. put_agrees v u x (Arr a) h)
  change_ends (PushTo x p) v u h =
      alike (list_with_item (list_at v (at side x)) p) (list_with_item (list_at u (at side x)) p) (λ l. Done (with_form (at side x) (Seq l) v))
      (λ l. Done (with_form (at side x) (Seq l) u)) (ap (λ l. list_with_item l p) (list_same side v u h x)) (λ l. put_agrees v u x (Seq l) h)

  changes_end : (cs : List Change) (v u : Forms) → HaveSameForms side v u → Ends (change_all side cs v) (change_all side cs u)
  changes_end [] v u h = h
  changes_end (c ∷ cs) v u h =
      go_on (change side c v) (change side c u) (λ z. change_all side cs z) (λ z. change_all side cs z) (change_ends c v u h) (λ x y. changes_end cs x y)

  act_ends : (xs : List (Assignment ℕ)) (v u : Forms) → HaveSameForms side v u → Ends (act_over side xs v) (act_over side xs u)
  act_ends xs v u h =
      alike (each (λ a. evaluate_assignment side v a) xs) (each (λ a. evaluate_assignment side u a) xs) (λ cs. change_all side cs v)
      (λ cs. change_all side cs u) (λ k. each (λ a. assignment_same side v u h a k) xs) (λ cs. changes_end cs v u h)

  steps_end : (m : Fsmd) (xs : List BranchStep) (v u : Forms) → HaveSameForms side v u → Ends (steps_over m side xs v) (steps_over m side xs u)
  steps_end m [] v u h = h
  steps_end m (x ∷ xs) v u h =
      go_on (act_over side (branch_at m x.state x.branch).assignments v) (act_over side (branch_at m x.state x.branch).assignments u)
      (λ z. steps_over m side xs z) (λ z. steps_over m side xs z) (act_ends (branch_at m x.state x.branch).assignments v u h)
      (λ y z. steps_end m xs y z)

  -- what is asked of the conditions alone is the same over vectors that agree
  executed_alike : {T : Type 0} (m : Fsmd) (p : Path) (v u : Forms) (f : List NormalLiteral → T) → HaveSameForms side v u
      → after (execute m p side u) (λ r. Done (f r.conditions)) ≡ after (execute m p side v) (λ r. Done (f r.conditions))
  executed_alike {T} m p v u f h =
      ap (λ c. after (after c (λ ls. after (steps_over m side (steps_in p) u) (λ w. Done (record { conditions = ls; vector = w }))))
      (λ (r : Post). Done (f r.conditions)))
      (conditions_same side v u h m p) ∙ by_conditions (conditions m p side v) (steps_over m side (steps_in p) v) (steps_over m side (steps_in p) u)
      (steps_end m (steps_in p) v u h)
    where
      by_steps : (ls : List NormalLiteral) (c d : Computed Forms) → Ends c d
          → after (after d (λ w. Done (record { conditions = ls; vector = w }))) (λ (r : Post). Done (f r.conditions))
          ≡ after (after c (λ w. Done (record { conditions = ls; vector = w }))) (λ (r : Post). Done (f r.conditions))
      by_steps ls (Done x) (Done y) e = refl
      by_steps ls (Done x) (Wide l r) e = absurd e
      by_steps ls (Done x) (Large n d) e = absurd e
      by_steps ls (Wide l r) d e = ap (λ z. after (after z (λ w. Done (record { conditions = ls; vector = w }))) (λ (r : Post). Done (f r.conditions))) e
      by_steps ls (Large n k) d e = ap (λ z. after (after z (λ w. Done (record { conditions = ls; vector = w }))) (λ (r : Post). Done (f r.conditions))) e

      by_conditions : (o : Computed (List NormalLiteral)) (c d : Computed Forms) → Ends c d
          → after (after o (λ ls. after d (λ w. Done (record { conditions = ls; vector = w })))) (λ (r : Post). Done (f r.conditions))
          ≡ after (after o (λ ls. after c (λ w. Done (record { conditions = ls; vector = w })))) (λ (r : Post). Done (f r.conditions))
      by_conditions (Done ls) c d e = by_steps ls c d e
      by_conditions (Wide l r) c d e = refl
      by_conditions (Large n k) c d e = refl

module _ (a b : Fsmd) (ls : List NormalLiteral) (v : Forms) (l r : Path) where
  -- the right path over what the left one leaves
  behind : (x : Post) (o : Computed Post)
      → after (after o (λ y. Done (record { conditions = ls ++ (x.conditions ++ y.conditions); vector = y.vector })))
      (λ (z : Post). Done (is_refuted z.conditions))
      ≡ after o (λ y. Done (is_refuted (ls ++ (x.conditions ++ y.conditions))))
  behind x (Done y) = refl
  behind x (Wide n k) = refl
  behind x (Large n k) = refl

  by_left : (o : Computed Post) → execute a l Left v ≡ o
      → after (after o (λ x. after (execute b r Right x.vector)
      (λ y. Done (record { conditions = ls ++ (x.conditions ++ y.conditions); vector = y.vector }))))
      (λ (z : Post). Done (is_refuted z.conditions))
      ≡ refuted_together ls o (execute b r Right v)
  by_left (Done x) e =
      behind x (execute b r Right x.vector)
      ∙ executed_alike Right b r v x.vector (λ cs. is_refuted (ls ++ (x.conditions ++ cs))) (executed_keeps Left a l v x e)
  by_left (Wide n k) e = refl
  by_left (Large n k) e = refl

  pub refuted_arrival : after (arrive a b ls v (Some l) (Some r)) (λ post. Done (is_refuted post.conditions))
      ≡ refuted_together ls (execute a l Left v) (execute b r Right v)
  refuted_arrival = by_left (execute a l Left v) refl
