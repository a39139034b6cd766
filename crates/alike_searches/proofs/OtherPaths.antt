-- Over an even vector, paths of other numbers have literals that clash.
use Rattle.std.proofs.Common.{◌≡◌, ℕ, zero, suc, ◌<◌, arith, true, List, [], ◌∷◌, ◌++◌, Some, length, refl, ap, sym, subst, ◌∙◌, inl, inr}
use Rattle.std.specs.Prelude.{◌≢◌, ◌⊎◌, slice_get}
use Rattle.std.specs.List.{slice_index_or}
use Rattle.fs_model.specs.SoundMachines.{IsSound, branch_count}
use Rattle.fs_model.specs.declared.parts.Rel.{Rel}
use Rattle.fs_model.specs.declared.parts.Rel.TheVariants as rel
use Rattle.fs_model.specs.Expressions.{Literal}
use Rattle.fs_model.specs.Machines.{Fsmd, transitions_of}
use Rattle.fs_model.specs.Trees.{opposite, negated_literal, Branch, branches_of}
use Rattle.fs_cut.specs.Paths.{Point, Path, IsPath, state_of, branch_at}
use Rattle.fs_cut.specs.Covers.{path_by}
use Rattle.fs_cut.proofs.Listed.{path_is}
use Rattle.nf_terms.specs.Computed.{Done, after}
use Rattle.fs_model.specs.declared.sides.Side.{Side}
use Rattle.fs_model.specs.declared.sides.Side.TheVariants.{Left, Right}
use Rattle.fs_model.specs.declared.sides.Pos.{Pos}
use Rattle.nf_terms.specs.declared.form.Nf.{Nf}
use Rattle.nf_terms.proofs.Computed.{same_Done}
use Rattle.nf_sums.proofs.Values.{goes_done}
use Rattle.nf_rel.specs.Literals.{NormalLiteral, literal, clash}
use Rattle.sym_paths.specs.Sequences.{each}
use Rattle.sym_paths.specs.Evaluation.{evaluate, evaluate_literal}
use Rattle.sym_paths.specs.Execution.{conditions}
use Rattle.alike_searches.proofs.Opposites.{opposites_clash}
use Rattle.cert_bisimulation.specs.Alike.{AlikePoints}
use Rattle.alike_searches.specs.Evenness.{IsEven}
use Rattle.alike_searches.specs.Clashes.{SomeClash}
use Rattle.alike_searches.proofs.Parting.{Part, branches_part}
use Rattle.alike_searches.proofs.EvenPaths.{same_conditions}

there : (xs : List Branch) (k : ℕ) (d : Branch) → k < length xs → slice_get xs k ≡ Some (slice_index_or xs k d)
there [] k d h = absurd (omega arith)
there (x ∷ xs) zero d h = refl
there (x ∷ xs) (suc k) d h = there xs k d (omega (arith, h))

-- the literal to which one of a list is evaluated
record EvaluatesTo (side : Side) (v : List (Pos × Nf)) (l : Literal ℕ) (ls : List NormalLiteral) : Type 0 where
  place : ℕ
  result : NormalLiteral
  at : slice_get ls place ≡ Some result
  is : evaluate_literal side v l ≡ Done result

module _ (side : Side) (v : List (Pos × Nf)) where
  evaluated_behind : (way : List (Literal ℕ)) (l : Literal ℕ) (rest : List (Literal ℕ)) (ls : List NormalLiteral)
      → each (λ x. evaluate_literal side v x) (way ++ l ∷ rest) ≡ Done ls → EvaluatesTo side v l ls
  evaluated_behind [] l rest ls e =
      let s = goes_done (evaluate_literal side v l) (λ y. after (each (λ x. evaluate_literal side v x) rest) (λ ys. Done (y ∷ ys))) ls e in
      let t = goes_done (each (λ x. evaluate_literal side v x) rest) (λ ys. Done (s.middle ∷ ys)) ls s.next in
      record { place = 0; result = s.middle; at = sym (ap (λ z. slice_get z 0) (same_Done (s.middle ∷ t.middle) ls t.next)); is = s.first }
  evaluated_behind (x ∷ way) l rest ls e =
      let s = goes_done (evaluate_literal side v x) (λ y. after (each (λ z. evaluate_literal side v z) (way ++ l ∷ rest)) (λ ys. Done (y ∷ ys))) ls e in
      let t = goes_done (each (λ z. evaluate_literal side v z) (way ++ l ∷ rest)) (λ ys. Done (s.middle ∷ ys)) ls s.next in
      let r = evaluated_behind way l rest t.middle t.first in
      record {
        place = suc r.place;
        result = r.result;
        at = sym (ap (λ z. slice_get z (suc r.place)) (same_Done (s.middle ∷ t.middle) ls t.next)) ∙ r.at;
        is = r.is;
      }

  -- the literals of a relation and its opposite over the same terms
  negation_clashes : (l : Literal ℕ) (m n : NormalLiteral) (r : Rel) → r ≡ opposite l.relation → evaluate_literal side v l ≡ Done m
      → after (evaluate side v l.left) (λ p. after (evaluate side v l.right) (λ q. literal r p q)) ≡ Done n → clash m n ≡ true
  negation_clashes l m n r o e g =
      let a = goes_done (evaluate side v l.left) (λ p. after (evaluate side v l.right) (λ q. literal l.relation p q)) m e in
      let b = goes_done (evaluate side v l.right) (λ q. literal l.relation a.middle q) m a.next in
      let c = goes_done (evaluate side v l.left) (λ p. after (evaluate side v l.right) (λ q. literal r p q)) n g in
      let d = goes_done (evaluate side v l.right) (λ q. literal r c.middle q) n c.next in
      let x : c.middle ≡ a.middle = same_Done c.middle a.middle (sym c.first ∙ a.first) in
      let y : d.middle ≡ b.middle = same_Done d.middle b.middle (sym d.first ∙ b.first) in
      opposites_clash l.relation a.middle b.middle m n b.next ((λ k. literal (sym o k) (sym x k) (sym y k)) ∙ d.next)

  twice : (r : Rel) → r ≡ opposite (opposite r)
  twice rel.Eq = refl
  twice rel.Ne = refl
  twice rel.Lt = refl
  twice rel.Le = refl
  twice rel.Gt = refl
  twice rel.Ge = refl

  -- of two branches that part, evaluated over one vector
  parted_clash : (x y : Branch) → Part x y → (ls ms : List NormalLiteral) → each (λ l. evaluate_literal side v l) x.literals ≡ Done ls
      → each (λ l. evaluate_literal side v l) y.literals ≡ Done ms → SomeClash ls ms × SomeClash ms ls
  parted_clash x y p ls ms e g =
      let f = evaluated_behind p.way p.literal p.mine ls (ap (each (λ l. evaluate_literal side v l)) (sym p.first) ∙ e) in
      let h = evaluated_behind p.way (negated_literal p.literal) p.theirs ms (ap (each (λ l. evaluate_literal side v l)) (sym p.second) ∙ g) in (
        record {
          left = f.place;
          right = h.place;
          literal = f.result;
          other = h.result;
          left_at = f.at;
          right_at = h.at;
          clashes = negation_clashes p.literal f.result h.result (opposite p.literal.relation) refl f.is h.is;
        },
        record {
          left = h.place;
          right = f.place;
          literal = h.result;
          other = f.result;
          left_at = h.at;
          right_at = f.at;
          clashes = negation_clashes (negated_literal p.literal) h.result f.result p.literal.relation (twice p.literal.relation) h.is f.is;
        },
      )

-- of two numbers that differ, one is the lower
lower_or_higher : (i j : ℕ) → i ≢ j → (i < j) ⊎ (j < i)
lower_or_higher zero zero n = absurd (n refl)
lower_or_higher zero (suc j) n = inl (omega arith)
lower_or_higher (suc i) zero n = inr (omega arith)
lower_or_higher (suc i) (suc j) n = by_rest (lower_or_higher i j (λ e. n (ap suc e)))
  where
    by_rest : (i < j) ⊎ (j < i) → (suc i < suc j) ⊎ (suc j < suc i)
    by_rest (inl h) = inl (omega (arith, h))
    by_rest (inr h) = inr (omega (arith, h))

module _ (a b : Fsmd) (sound : IsSound a) (K : List (Point × Point)) where
  pub others_clash : (P Q : Point) (p q : Path) (v : List (Pos × Nf)) (ls ms : List NormalLiteral) → AlikePoints a b K P Q → IsEven a b v → IsPath a p
      → IsPath b q → p.from ≡ P → q.from ≡ Q → p.branch ≢ q.branch
      → conditions a p Left v ≡ Done ls → conditions b q Right v ≡ Done ms → SomeClash ls ms
  others_clash P Q p q v ls ms w even is js e f n g h =
      by_order (lower_or_higher p.branch q.branch n)
    where
      within : q.branch < branch_count a (state_of a P)
      within = subst (λ c. q.branch < c) (ap (λ X. branch_count b (state_of b X)) f ∙ sym w.same_count) js.numbered

      within_p : p.branch < branch_count a (state_of a P)
      within_p = subst (λ X. p.branch < branch_count a (state_of a X)) e is.numbered

      of_twin : each (λ l. evaluate_literal Left v l) (branch_at a (state_of a P) q.branch).literals ≡ Done ms
      of_twin = same_conditions a b v even K (path_by a P (state_of a P) q.branch) q
          (w.paths (path_by a P (state_of a P) q.branch) q (path_is a P q.branch sound w.left_point w.left_goes within) js refl f refl) ∙ h

      of_p : each (λ l. evaluate_literal Left v l) (branch_at a (state_of a P) p.branch).literals ≡ Done ls
      of_p = ap (λ X. each (λ l. evaluate_literal Left v l) (branch_at a (state_of a X) p.branch).literals) (sym e) ∙ g

      branch_there :
          (k : ℕ) → k < branch_count a (state_of a P)
          → slice_get (branches_of (transitions_of a (state_of a P))) k ≡ Some (branch_at a (state_of a P) k)
      branch_there k i = there (branches_of (transitions_of a (state_of a P))) k (record { literals = []; assignments = []; target = 0 }) i

      by_order : (p.branch < q.branch) ⊎ (q.branch < p.branch) → SomeClash ls ms
      by_order (inl o) =
          (parted_clash Left v (branch_at a (state_of a P) p.branch) (branch_at a (state_of a P) q.branch)
          (branches_part (transitions_of a (state_of a P)) p.branch q.branch (branch_at a (state_of a P) p.branch)
          (branch_at a (state_of a P) q.branch) o (branch_there p.branch within_p) (branch_there q.branch within)) ls ms of_p of_twin).0
      by_order (inr o) =
          (parted_clash Left v (branch_at a (state_of a P) q.branch) (branch_at a (state_of a P) p.branch)
          (branches_part (transitions_of a (state_of a P)) q.branch p.branch (branch_at a (state_of a P) q.branch)
          (branch_at a (state_of a P) p.branch) o (branch_there q.branch within) (branch_there p.branch within_p)) ms ls of_twin of_p).1
