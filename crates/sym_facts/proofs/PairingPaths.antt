-- What is executed stays of the pairing.
use Rattle.std.proofs.Common.{◌≡◌, ℕ, zero, suc, List, [], ◌∷◌, ◌++◌, ap, sym, refl, subst, ◌∙◌, Option, Some, None, Bool, true}
use Rattle.std.specs.Prelude.{◌&&◌, not, slice_get}
use Rattle.std.specs.List.{list_all, slice_index_or}
use Rattle.std.proofs.lemmas.Bool.{and_from}
use Rattle.fs_model.proofs.Booleans.{and_first, and_second}
use Rattle.fs_model.proofs.Quantifiers.{list_all_weaker}
use Rattle.fs_model.specs.SoundMachines.{IsSound, scalar_at, array_at, port_at, input_at, is_text_number, scalars_in, arrays_in, scalars_in_assignment}
use Rattle.fs_model.specs.SoundMachines.{arrays_in_assignment, port_in, numbers_in_assignment, changed_by}
use Rattle.fs_model.specs.Machines.{Fsmd, transitions_of}
use Rattle.fs_model.specs.Expressions.{Expression, Number, Variable, Read, Sum, Difference, Product, Quotient, Remainder, Negative, Literal, Assignment, Assign}
use Rattle.fs_model.specs.Expressions.{ArrayWrite}
use Rattle.fs_model.specs.Expressions.{Emit}
use Rattle.fs_model.specs.Trees.{Branch, branches_of}
use Rattle.fs_model.specs.PartFolds.{scalars, arrays, numbers, uses_in_literal}
use Rattle.sym_paths.specs.Branches.{is_sound_literal, is_sound_assignment}
use Rattle.sym_paths.proofs.Lifted.{branch_sound}
use Rattle.sym_paths.specs.Paths.{Path, BranchStep, state_of, branch_at, steps_in}
use Rattle.fs_pair.specs.declared.positions.Position.{Position}
use Rattle.fs_pair.specs.Positions.{positions}
use Rattle.fs_pair.specs.Partners.{variables_on}
use Rattle.nf_trees.specs.NormalTerms.{Polynomial}
use Rattle.nf_terms.specs.Symbols.{symbols_of}
use Rattle.nf_terms.specs.Computed.{Done, after}
use Rattle.nf_terms.specs.declared.symbols.Sort.{Sort as TermSort}
use Rattle.nf_terms.specs.declared.symbols.Sort.TheVariants as term
use Rattle.fs_model.specs.declared.sides.Pos.{Pos}
use Rattle.fs_model.specs.declared.sides.Side.{Side}
use Rattle.fs_model.specs.declared.sides.Side.TheVariants.{Left, Right}
use Rattle.nf_terms.specs.declared.form.Nf.{Nf}
use Rattle.nf_terms.specs.declared.form.Nf.TheVariants.{Num, Arr, Seq}
use Rattle.nf_sums.specs.Operations.{normal_sum, normal_difference, normal_product, normal_negation}
use Rattle.nf_sums.proofs.Values.{goes_done}
use Rattle.nf_symbols.specs.NewAtoms.{quotient_of, remainder_of}
use Rattle.nf_symbols.specs.Writes.{write_array, read_at}
use Rattle.nf_symbols.specs.Pushes.{list_with_item}
use Rattle.nf_symbols.specs.Vectors.{number_at, array_form, list_at, with_form}
use Rattle.nf_symbols.proofs.Passing.{front, back, together}
use Rattle.nf_symbols.proofs.Results.{added_within, subtracted_within, multiplied_within, negation_within, number_done_within}
use Rattle.nf_symbols.proofs.Writing.{read_within, written_within, pushed_within, quotient_within, remainder_within}
use Rattle.nf_rel.specs.Literals.{NormalLiteral, literal}
use Rattle.sym_paths.specs.ValuationStores.{at, choose_side}
use Rattle.sym_paths.specs.Sequences.{each}
use Rattle.sym_paths.specs.Evaluation.{evaluate, evaluate_literal, Change, SetTo, PutAt, PushTo, evaluate_assignment, change, change_all, act_over}
use Rattle.sym_paths.specs.Execution.{Post, conditions, steps_over, execute_if, arrive}
use Rattle.sym_paths.proofs.Values.{operands}
use Rattle.sym_facts.specs.Pairings.{is_position, form_within, literal_within, IsVectorOf, IsPostOf}
use Rattle.sym_facts.proofs.DirectionSymbols.{literal_in as direction_in}
use Rattle.sym_facts.proofs.PairingForms.{forms_lead}
use Rattle.sym_facts.proofs.PairingPositions.{scalar_is_position, array_is_position, port_is_position, put_is_vector}

-- ---- expressions over a vector

module _ (test : Pos × TermSort → Bool) (side : Side) (v : List (Pos × Nf)) (within : list_all (λ e. form_within test e.1) v ≡ true) where
  abbrev In : Polynomial → Type 0
  In p = list_all test (symbols_of p) ≡ true

  abbrev scalar_in : ℕ → Bool
  scalar_in x = test (at side x, term.Scalar)

  abbrev array_in : ℕ → Bool
  array_in x = test (at side x, term.Array)

  evaluated_in : (e : Expression ℕ) (r : Polynomial) → list_all scalar_in (scalars_in e) ≡ true → list_all array_in (arrays_in e) ≡ true
      → evaluate side v e ≡ Done r → In r
  evaluated_in (Number c) r h g e = number_done_within test c r e
  evaluated_in (Variable x) r h g e = let k : number_at v (at side x) ≡ r = cc e in
      ap (λ z. list_all test (symbols_of z)) (sym k) ∙ (forms_lead test v within).scalars (at side x) (and_first (scalar_in x) true h)
  evaluated_in (Read x i) r h g e =
      let s = goes_done (evaluate side v i) (λ j. read_at (array_form v (at side x)) j) r e in
      read_within test (array_form v (at side x)) s.middle r
      ((forms_lead test v within).arrays (at side x) (and_first (array_in x) (list_all array_in (arrays_in i)) g))
      (evaluated_in i s.middle h (and_second (array_in x) (list_all array_in (arrays_in i)) g) s.first) s.next
  evaluated_in (Sum p q) r h g e =
      let o = operands side v p q (λ x y. normal_sum x y) r e in
      added_within test o.left o.right r
      (evaluated_in p o.left (front scalar_in (scalars_in p) (scalars_in q) h) (front array_in (arrays_in p) (arrays_in q) g) o.left_done)
      (evaluated_in q o.right (back scalar_in (scalars_in p) (scalars_in q) h) (back array_in (arrays_in p) (arrays_in q) g) o.right_done) o.done
  evaluated_in (Difference p q) r h g e =
      let o = operands side v p q (λ x y. normal_difference x y) r e in
      subtracted_within test o.left o.right r
      (evaluated_in p o.left (front scalar_in (scalars_in p) (scalars_in q) h) (front array_in (arrays_in p) (arrays_in q) g) o.left_done)
      (evaluated_in q o.right (back scalar_in (scalars_in p) (scalars_in q) h) (back array_in (arrays_in p) (arrays_in q) g) o.right_done) o.done
  evaluated_in (Product p q) r h g e =
      let o = operands side v p q (λ x y. normal_product x y) r e in
      multiplied_within test o.left o.right r
      (evaluated_in p o.left (front scalar_in (scalars_in p) (scalars_in q) h) (front array_in (arrays_in p) (arrays_in q) g) o.left_done)
      (evaluated_in q o.right (back scalar_in (scalars_in p) (scalars_in q) h) (back array_in (arrays_in p) (arrays_in q) g) o.right_done) o.done
  evaluated_in (Quotient p q) r h g e =
      let o = operands side v p q (λ x y. quotient_of x y) r e in
      quotient_within test o.left o.right r
      (evaluated_in p o.left (front scalar_in (scalars_in p) (scalars_in q) h) (front array_in (arrays_in p) (arrays_in q) g) o.left_done)
      (evaluated_in q o.right (back scalar_in (scalars_in p) (scalars_in q) h) (back array_in (arrays_in p) (arrays_in q) g) o.right_done) o.done
  evaluated_in (Remainder p q) r h g e =
      let o = operands side v p q (λ x y. remainder_of x y) r e in
      remainder_within test o.left o.right r
      (evaluated_in p o.left (front scalar_in (scalars_in p) (scalars_in q) h) (front array_in (arrays_in p) (arrays_in q) g) o.left_done)
      (evaluated_in q o.right (back scalar_in (scalars_in p) (scalars_in q) h) (back array_in (arrays_in p) (arrays_in q) g) o.right_done) o.done
  evaluated_in (Negative p) r h g e =
      let s = goes_done (evaluate side v p) (λ x. Done (normal_negation x)) r e in
      let k : normal_negation s.middle ≡ r = cc s.next in
      ap (λ z. list_all test (symbols_of z)) (sym k) ∙ negation_within test s.middle (evaluated_in p s.middle h g s.first)

  literal_in : (l : Literal ℕ) (n : NormalLiteral) → list_all scalar_in (uses_in_literal scalars l) ≡ true → list_all array_in (uses_in_literal arrays l) ≡ true
      → evaluate_literal side v l ≡ Done n → literal_within test n ≡ true
  literal_in l n h g e =
      let s = goes_done (evaluate side v l.left) (λ p. after (evaluate side v l.right) (λ q. literal l.relation p q)) n e in
      let t = goes_done (evaluate side v l.right) (λ q. literal l.relation s.middle q) n s.next in
      direction_in test l.relation s.middle t.middle n
      (evaluated_in l.left s.middle (front scalar_in (scalars_in l.left) (scalars_in l.right) h)
      (front array_in (arrays_in l.left) (arrays_in l.right) g) s.first)
      (evaluated_in l.right t.middle (back scalar_in (scalars_in l.left) (scalars_in l.right) h)
      (back array_in (arrays_in l.left) (arrays_in l.right) g) t.first) t.next

-- ---- a sound machine over a vector of the pairing

module _ (a b : Fsmd) (sound : IsSound a) (other : IsSound b) where
  abbrev ps : List Position
  ps = positions a b

  module _ (side : Side) where
    scalars_pass : (xs : List ℕ) → list_all (scalar_at (variables_on side a b)) xs ≡ true → list_all (λ x. is_position ps (at side x, term.Scalar)) xs ≡ true
    scalars_pass = list_all_weaker (scalar_at (variables_on side a b)) (λ x. is_position ps (at side x, term.Scalar)) (scalar_is_position a b sound other side)

    arrays_pass : (xs : List ℕ) → list_all (array_at (variables_on side a b)) xs ≡ true → list_all (λ x. is_position ps (at side x, term.Array)) xs ≡ true
    arrays_pass = list_all_weaker (array_at (variables_on side a b)) (λ x. is_position ps (at side x, term.Array)) (array_is_position a b sound other side)

    ports_pass : (xs : List ℕ) → list_all (port_at (variables_on side a b)) xs ≡ true → list_all (λ x. is_position ps (at side x, term.List)) xs ≡ true
    ports_pass = list_all_weaker (port_at (variables_on side a b)) (λ x. is_position ps (at side x, term.List)) (port_is_position a b sound other side)

    module _ (v : List (Pos × Nf)) (is : IsVectorOf ps v) where
      conditions_in : (ls : List (Literal ℕ)) (ns : List NormalLiteral) → list_all (is_sound_literal (variables_on side a b)) ls ≡ true
          → each (λ l. evaluate_literal side v l) ls ≡ Done ns → list_all (literal_within (is_position ps)) ns ≡ true
      conditions_in [] ns h e = let k : [] ≡ ns = cc e in ap (list_all (literal_within (is_position ps))) (sym k)
      conditions_in (l ∷ ls) ns h e =
          let vs = variables_on side a b in
          let s = goes_done (evaluate_literal side v l) (λ y. after (each (λ k. evaluate_literal side v k) ls) (λ ys. Done (y ∷ ys))) ns e in
          let t = goes_done (each (λ k. evaluate_literal side v k) ls) (λ ys. Done (s.middle ∷ ys)) ns s.next in
          let k : s.middle ∷ t.middle ≡ ns = cc t.next in
          let own : is_sound_literal vs l ≡ true = and_first (is_sound_literal vs l) (list_all (is_sound_literal vs) ls) h in
          let scs = and_first (list_all (scalar_at vs) (uses_in_literal scalars l))
          (list_all (array_at vs) (uses_in_literal arrays l) && list_all is_text_number (uses_in_literal numbers l)) own in
          let rest = and_second (list_all (scalar_at vs) (uses_in_literal scalars l))
          (list_all (array_at vs) (uses_in_literal arrays l) && list_all is_text_number (uses_in_literal numbers l)) own in
          let ars = and_first (list_all (array_at vs) (uses_in_literal arrays l)) (list_all is_text_number (uses_in_literal numbers l)) rest in
          ap (list_all (literal_within (is_position ps))) (sym k)
          ∙ and_from (literal_within (is_position ps) s.middle) (list_all (literal_within (is_position ps)) t.middle)
          (literal_in (is_position ps) side v is.symbols l s.middle (scalars_pass (uses_in_literal scalars l) scs)
          (arrays_pass (uses_in_literal arrays l) ars) s.first)
          (conditions_in ls t.middle (and_second (is_sound_literal vs l) (list_all (is_sound_literal vs) ls) h) t.first)

    -- what a change puts is of the pairing, at a position of its sort
    abbrev Fits : Change → Type 0
    Fits (SetTo x p) = (is_position ps (at side x, term.Scalar) ≡ true) × (list_all (is_position ps) (symbols_of p) ≡ true)
    Fits (PutAt x j p) = (is_position ps (at side x, term.Array) ≡ true) × (list_all (is_position ps) (symbols_of j) ≡ true)
        × (list_all (is_position ps) (symbols_of p) ≡ true)
    Fits (PushTo x p) = (is_position ps (at side x, term.List) ≡ true) × (list_all (is_position ps) (symbols_of p) ≡ true)

    abbrev AllFit : List Change → Type 0
    AllFit [] = Unit {0}
    AllFit (c ∷ cs) = Fits c × AllFit cs

    module _ (v : List (Pos × Nf)) (is : IsVectorOf ps v) where
      assignment_fits : (x : Assignment ℕ) (c : Change) → list_all (scalar_at (variables_on side a b)) (scalars_in_assignment x) ≡ true
          → list_all (array_at (variables_on side a b)) (arrays_in_assignment x) ≡ true → list_all (port_at (variables_on side a b)) (port_in x) ≡ true
          → evaluate_assignment side v x ≡ Done c → Fits c
      assignment_fits (Assign x t) c h g q e =
          let s = goes_done (evaluate side v t) (λ p. Done (SetTo x p)) c e in
          let k : SetTo x s.middle ≡ c = cc s.next in
          let h' = scalars_pass (x ∷ scalars_in t) h in
          subst Fits k (
            and_first (is_position ps (at side x, term.Scalar)) (list_all (λ y. is_position ps (at side y, term.Scalar)) (scalars_in t)) h',
            evaluated_in (is_position ps) side v is.symbols t s.middle
                (and_second (is_position ps (at side x, term.Scalar)) (list_all (λ y. is_position ps (at side y, term.Scalar)) (scalars_in t)) h')
                (arrays_pass (arrays_in t) g) s.first,
          )
      assignment_fits (ArrayWrite x i t) c h g q e =
          let s = goes_done (evaluate side v i) (λ j. after (evaluate side v t) (λ p. Done (PutAt x j p))) c e in
          let u = goes_done (evaluate side v t) (λ p. Done (PutAt x s.middle p)) c s.next in
          let k : PutAt x s.middle u.middle ≡ c = cc u.next in
          let sc = λ (y : ℕ). is_position ps (at side y, term.Scalar) in
          let ar = λ (y : ℕ). is_position ps (at side y, term.Array) in
          let h' = scalars_pass (scalars_in i ++ scalars_in t) h in
          let g' = arrays_pass (x ∷ (arrays_in i ++ arrays_in t)) g in
          let g'' = and_second (ar x) (list_all ar (arrays_in i ++ arrays_in t)) g' in
          subst Fits k (
            and_first (ar x) (list_all ar (arrays_in i ++ arrays_in t)) g',
            evaluated_in (is_position ps) side v is.symbols i s.middle (front sc (scalars_in i) (scalars_in t) h')
                (front ar (arrays_in i) (arrays_in t) g'') s.first,
            evaluated_in (is_position ps) side v is.symbols t u.middle (back sc (scalars_in i) (scalars_in t) h')
                (back ar (arrays_in i) (arrays_in t) g'') u.first,
          )
      assignment_fits (Emit x t) c h g q e =
          let s = goes_done (evaluate side v t) (λ p. Done (PushTo x p)) c e in
          let k : PushTo x s.middle ≡ c = cc s.next in
          subst Fits k (
            and_first (is_position ps (at side x, term.List)) true (ports_pass (x ∷ []) q),
            evaluated_in (is_position ps) side v is.symbols t s.middle (scalars_pass (scalars_in t) h) (arrays_pass (arrays_in t) g) s.first,
          )

      sound_fits : (x : Assignment ℕ) (c : Change) → is_sound_assignment (variables_on side a b) x ≡ true → evaluate_assignment side v x ≡ Done c → Fits c
      sound_fits x c h e =
          let vs = variables_on side a b in
          let last = list_all is_text_number (numbers_in_assignment x) && not (input_at vs (changed_by x)) in
          let sc = list_all (scalar_at vs) (scalars_in_assignment x) in
          let ar = list_all (array_at vs) (arrays_in_assignment x) in
          let po = list_all (port_at vs) (port_in x) in
          let rest = and_second sc (ar && (po && last)) h in
          assignment_fits x c (and_first sc (ar && (po && last)) h) (and_first ar (po && last) rest) (and_first po last (and_second ar (po && last) rest)) e

      assignments_fit : (xs : List (Assignment ℕ)) (cs : List Change) → list_all (is_sound_assignment (variables_on side a b)) xs ≡ true
          → each (λ x. evaluate_assignment side v x) xs ≡ Done cs → AllFit cs
      assignments_fit [] cs h e = let k : [] ≡ cs = cc e in subst AllFit k tt
      assignments_fit (x ∷ xs) cs h e =
          let vs = variables_on side a b in
          let s = goes_done (evaluate_assignment side v x) (λ y. after (each (λ z. evaluate_assignment side v z) xs) (λ ys. Done (y ∷ ys))) cs e in
          let t = goes_done (each (λ z. evaluate_assignment side v z) xs) (λ ys. Done (s.middle ∷ ys)) cs s.next in
          let k : s.middle ∷ t.middle ≡ cs = cc t.next in
          subst AllFit k (
            sound_fits x s.middle (and_first (is_sound_assignment vs x) (list_all (is_sound_assignment vs) xs) h) s.first,
            assignments_fit xs t.middle (and_second (is_sound_assignment vs x) (list_all (is_sound_assignment vs) xs) h) t.first,
          )

    change_keeps : (c : Change) (u r : List (Pos × Nf)) → Fits c → IsVectorOf ps u → change side c u ≡ Done r → IsVectorOf ps r
    change_keeps (SetTo x p) u r f is e =
        let k : with_form (at side x) (Num p) u ≡ r = cc e in
        subst (IsVectorOf ps) k (put_is_vector (at side x) (Num p) ps u is f.0 f.1)
    change_keeps (PutAt x j p) u r f is e =
        let s = goes_done (write_array (array_form u (at side x)) j p) (λ t. Done (with_form (at side x) (Arr t) u)) r e in
        let k : with_form (at side x) (Arr s.middle) u ≡ r = cc s.next in
        let i = written_within (is_position ps) (array_form u (at side x)) s.middle j p
        ((forms_lead (is_position ps) u is.symbols).arrays (at side x) f.0) f.1 f.2 s.first in
        subst (IsVectorOf ps) k (put_is_vector (at side x) (Arr s.middle) ps u is f.0 i)
    change_keeps (PushTo x p) u r f is e =
        let s = goes_done (list_with_item (list_at u (at side x)) p) (λ t. Done (with_form (at side x) (Seq t) u)) r e in
        let k : with_form (at side x) (Seq s.middle) u ≡ r = cc s.next in
        let i = pushed_within (is_position ps) (list_at u (at side x)) s.middle p
        ((forms_lead (is_position ps) u is.symbols).lists (at side x) f.0) f.1 s.first in
        subst (IsVectorOf ps) k (put_is_vector (at side x) (Seq s.middle) ps u is f.0 i)

    changes_keep : (cs : List Change) (u r : List (Pos × Nf)) → AllFit cs → IsVectorOf ps u → change_all side cs u ≡ Done r → IsVectorOf ps r
    changes_keep [] u r f is e = let k : u ≡ r = cc e in subst (IsVectorOf ps) k is
    changes_keep (c ∷ cs) u r f is e =
        let s = goes_done (change side c u) (λ z. change_all side cs z) r e in
        changes_keep cs s.middle r f.1 (change_keeps c u s.middle f.0 is s.first) s.next

    acted_in : (xs : List (Assignment ℕ)) (v u : List (Pos × Nf)) → list_all (is_sound_assignment (variables_on side a b)) xs ≡ true → IsVectorOf ps v
        → act_over side xs v ≡ Done u → IsVectorOf ps u
    acted_in xs v u h is e =
        let s = goes_done (each (λ x. evaluate_assignment side v x) xs) (λ cs. change_all side cs v) u e in
        changes_keep s.middle v u (assignments_fit v is xs s.middle h s.first) is s.next

  -- ---- branches

  -- what holds of the sound branches holds of what stands in place of one that is not there
  record Uses (side : Side) (q k : ℕ) : Type 0 where
    literals : list_all (is_sound_literal (variables_on side a b)) (branch_at (choose_side side a b) q k).literals ≡ true
    assignments : list_all (is_sound_assignment (variables_on side a b)) (branch_at (choose_side side a b) q k).assignments ≡ true

  abbrev none_there : Branch
  none_there = record { literals = []; assignments = []; target = 0 }

  chosen : (bs : List Branch) (k : ℕ) (P : Branch → Type 0) → P none_there → ((j : ℕ) (x : Branch) → slice_get bs j ≡ Some x → P x)
      → P (slice_index_or bs k none_there)
  chosen [] k P h g = h
  chosen (x ∷ bs) zero P h g = g 0 x refl
  chosen (x ∷ bs) (suc k) P h g = chosen bs k P h (λ j y e. g (suc j) y e)

  branch_uses : (side : Side) (q k : ℕ) → Uses side q k
  branch_uses Left q k = record {
    literals = chosen (branches_of (transitions_of a q)) k (λ x. list_all (is_sound_literal a.variables) x.literals ≡ true) refl
        (λ j x e. (branch_sound a sound q j x e).literals);
    assignments = chosen (branches_of (transitions_of a q)) k (λ x. list_all (is_sound_assignment a.variables) x.assignments ≡ true) refl
        (λ j x e. (branch_sound a sound q j x e).assignments);
  }
  branch_uses Right q k = record {
    literals = chosen (branches_of (transitions_of b q)) k (λ x. list_all (is_sound_literal b.variables) x.literals ≡ true) refl
        (λ j x e. (branch_sound b other q j x e).literals);
    assignments = chosen (branches_of (transitions_of b q)) k (λ x. list_all (is_sound_assignment b.variables) x.assignments ≡ true) refl
        (λ j x e. (branch_sound b other q j x e).assignments);
  }

  pub branch_keeps : (side : Side) (q k : ℕ) (v u : List (Pos × Nf)) → IsVectorOf ps v
      → act_over side (branch_at (choose_side side a b) q k).assignments v ≡ Done u → IsVectorOf ps u
  branch_keeps side q k v u is e = acted_in side (branch_at (choose_side side a b) q k).assignments v u (branch_uses side q k).assignments is e

  pub steps_keep : (side : Side) (xs : List BranchStep) (v u : List (Pos × Nf)) → IsVectorOf ps v → steps_over (choose_side side a b) side xs v ≡ Done u
      → IsVectorOf ps u
  steps_keep side [] v u is e = let k : v ≡ u = cc e in subst (IsVectorOf ps) k is
  steps_keep side (x ∷ xs) v u is e =
      let s = goes_done (act_over side (branch_at (choose_side side a b) x.state x.branch).assignments v)
      (λ z. steps_over (choose_side side a b) side xs z) u e in
      steps_keep side xs s.middle u (branch_keeps side x.state x.branch v s.middle is s.first) s.next

  executed_keeps : (side : Side) (o : Option Path) (v : List (Pos × Nf)) (post : Post) → IsVectorOf ps v
      → execute_if (choose_side side a b) o side v ≡ Done post → IsPostOf ps post
  executed_keeps side None v post is e = let k : record { conditions = []; vector = v } ≡ post = cc e in
      subst (IsPostOf ps) k (record { vector = is; conditions = refl })
  executed_keeps side (Some p) v post is e =
      let s = goes_done (conditions (choose_side side a b) p side v)
      (λ ls. after (steps_over (choose_side side a b) side (steps_in p) v) (λ u. Done (record { conditions = ls; vector = u }))) post e in
      let t = goes_done (steps_over (choose_side side a b) side (steps_in p) v) (λ u. Done (record { conditions = s.middle; vector = u })) post s.next in
      let k : record { conditions = s.middle; vector = t.middle } ≡ post = cc t.next in
      let ls = (branch_at (choose_side side a b) (state_of (choose_side side a b) p.from) p.branch).literals in
      subst (IsPostOf ps) k (record {
        vector = steps_keep side (steps_in p) v t.middle is t.first;
        conditions = conditions_in side v is ls s.middle (branch_uses side (state_of (choose_side side a b) p.from) p.branch).literals s.first;
      })

  pub arrival_keeps : (ls : List NormalLiteral) (v : List (Pos × Nf)) (left right : Option Path) (post : Post) → IsVectorOf ps v
      → list_all (literal_within (is_position ps)) ls ≡ true → arrive a b ls v left right ≡ Done post → IsPostOf ps post
  arrival_keeps ls v left right post is h e =
      let s = goes_done (execute_if a left Left v)
      (λ l. after (execute_if b right Right l.vector) (λ r. Done (record { conditions = ls ++ (l.conditions ++ r.conditions); vector = r.vector }))) post e in
      let t = goes_done (execute_if b right Right s.middle.vector)
      (λ r. Done (record { conditions = ls ++ (s.middle.conditions ++ r.conditions); vector = r.vector })) post s.next in
      let k : record { conditions = ls ++ (s.middle.conditions ++ t.middle.conditions); vector = t.middle.vector } ≡ post = cc t.next in
      let l = executed_keeps Left left v s.middle is s.first in
      let r = executed_keeps Right right s.middle.vector t.middle l.vector t.first in
      let within = literal_within (is_position ps) in
      subst (IsPostOf ps) k (record {
        vector = r.vector;
        conditions = together within ls (s.middle.conditions ++ t.middle.conditions) h
            (together within s.middle.conditions t.middle.conditions l.conditions r.conditions);
      })
