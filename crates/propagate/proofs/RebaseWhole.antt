-- Rebased facts are facts.
use Rattle.std.proofs.Common.{◌≡◌, true, ap, sym, ◌∙◌, List, [], map}
use Rattle.std.specs.List.{list_all}
use Rattle.fs_pair.specs.declared.positions.Position.{Position}
use Rattle.fs_pair.specs.Paired.{IsPairing}
use Rattle.nf_terms.specs.Computed.{Computed, Done, after}
use Rattle.fs_model.specs.declared.sides.Pos.{Pos}
use Rattle.nf_terms.specs.declared.form.Nf.{Nf}
use Rattle.nf_rel.specs.Literals.{NormalLiteral}
use Rattle.sym_paths.specs.Execution.{Post}
use Rattle.sym_facts.specs.Facts.{FactPosition, Fact, may_be_kept}
use Rattle.sym_facts.specs.FactParts.{IsKept}
use Rattle.propagate.specs.declared.rebases.Marked.{Marked}
use Rattle.propagate.specs.Rebases.{RebaseState, rebase}
use Rattle.propagate.specs.RebaseSteps.{first_pass_from, second_from, third_from, conditions_kept, rebased_by, LeadsToRebase}
use Rattle.propagate.proofs.RebaseTurns.{rebase_in_turn}
use Rattle.propagate.proofs.Paired.{rebase_paired}
use Rattle.propagate.proofs.Solved.{rebase_solved}
use Rattle.propagate.proofs.Strength.{few_literals}
use Rattle.propagate.proofs.Whole.{whole_fact}

pub rebase_kept : (ps : List Position) (post : Post) (f : Fact) → rebase post ps ≡ Done f → IsPairing ps → list_all may_be_kept f.literals ≡ true → IsKept f
rebase_kept ps post f e p kept = whole_fact ps f p (rebase_paired post ps f e) (λ d. rebase_solved post ps f e d) (few_literals post ps f e) kept

-- ---- what is left of a rebase after each part
abbrev made : List FactPosition → List NormalLiteral → Computed Fact
made qs ls = Done (record { positions = qs; literals = ls })

module _ (post : Post) (ps : List Position) where
  abbrev with_literals : List (Pos × Nf) → List FactPosition → Computed Fact
  with_literals ms qs = after (conditions_kept ms post.conditions) (λ ls. made qs ls)

  abbrev with_positions : RebaseState → Computed Fact
  with_positions h = after (third_from post.vector h.meanings ps h.free []) (λ qs. with_literals h.meanings qs)

  abbrev second_of : List Marked → List (Pos × Nf) → Computed RebaseState
  second_of xs ms = second_from post.vector (map (λ m. m.position) xs) (map (λ m. m.is_free) xs) ms

  abbrev third_of : List Marked → List (Pos × Nf) → Computed (List FactPosition)
  third_of xs ms = third_from post.vector ms (map (λ m. m.position) xs) (map (λ m. m.is_free) xs) []

  abbrev pub AfterFirst : List Marked → List (Pos × Nf) → Type 0
  AfterFirst xs ms = after (second_of xs ms) (λ h. with_positions h) ≡ rebase post ps

  abbrev pub AfterSecond : List Marked → List (Pos × Nf) → Type 0
  AfterSecond xs ms = LeadsToRebase post ps xs ms

  abbrev pub AfterThird : List FactPosition → List (Pos × Nf) → List NormalLiteral → Type 0
  AfterThird qs ms ls = after (conditions_kept ms ls) (λ ks. made qs ks) ≡ rebase post ps

  pub first_done : (given : List Position) (none ms : List (Pos × Nf)) (xs : List Marked) → given ≡ ps → none ≡ [] → map (λ m. m.position) xs ≡ given
      → first_pass_from post.vector given none ≡ record { free = map (λ m. m.is_free) xs; meanings = ms } → AfterFirst xs ms
  first_done given none ms xs g n p e =
      ap (λ qs. after (second_from post.vector qs (map (λ m. m.is_free) xs) ms) (λ h. with_positions h)) (p ∙ g)
      ∙ ap (rebased_by post ps) (sym e ∙ ap (λ qs. first_pass_from post.vector qs none) g ∙ ap (first_pass_from post.vector ps) n) ∙ rebase_in_turn post ps

  pub second_done : (ms ns : List (Pos × Nf)) (xs ys : List Marked) → AfterFirst xs ms → map (λ m. m.position) ys ≡ ps
      → second_of xs ms ≡ Done (record { free = map (λ m. m.is_free) ys; meanings = ns }) → AfterSecond ys ns
  second_done ms ns xs ys a p e =
      ap (λ qs. after (third_from post.vector ns qs (map (λ m. m.is_free) ys) []) (λ rs. with_literals ns rs)) p
      ∙ ap (λ c. after c (λ h. with_positions h)) (sym e) ∙ a

  pub third_done : (ms : List (Pos × Nf)) (xs : List Marked) (qs : List FactPosition) (ls : List NormalLiteral) → AfterSecond xs ms → third_of xs ms ≡ Done qs
      → ls ≡ post.conditions → AfterThird qs ms ls
  third_done ms xs qs ls a e l = ap (λ ks. after (conditions_kept ms ks) (λ js. made qs js)) l ∙ ap (λ c. after c (λ rs. with_literals ms rs)) (sym e) ∙ a

  pub all_done : (ms : List (Pos × Nf)) (qs : List FactPosition) (ls ks : List NormalLiteral) → AfterThird qs ms ls → conditions_kept ms ls ≡ Done ks
      → rebase post ps ≡ made qs ks
  all_done ms qs ls ks a e = sym a ∙ ap (λ c. after c (λ js. made qs js)) e
