-- A move by the ways of both machines over the fact of its node is the move by their paths.
use Rattle.std.proofs.Common.{◌≡◌, Bool, true, false, cond, refl, ap, sym, ◌∙◌, List, map}
use Rattle.std.specs.Prelude.{Some, None}
use Rattle.std.specs.List.{flat_map}
use Rattle.fs_model.proofs.Lists.{map_map}
use Rattle.fs_cut.specs.Paths.{Path}
use Rattle.fs_model.specs.Machines.{Fsmd}
use Rattle.fs_model.specs.declared.sides.Side.TheVariants.{Left, Right}
use Rattle.fs_model.specs.declared.sides.Pos.{Pos}
use Rattle.nf_terms.specs.declared.form.Nf.{Nf}
use Rattle.nf_terms.specs.Computed.{Computed, Done, Wide, Large, after}
use Rattle.sym_facts.specs.Literals.{NormalLiteral, is_refuted}
use Rattle.sym_paths.specs.Execution.{Post, execute, arrive, end_of}
use Rattle.sym_facts.specs.Facts.{Fact, vector_of}
use Rattle.sym_entailment.specs.Outcomes.{refuted_together}
use Rattle.cert_bisimulation.specs.Tables.{Node}
use Rattle.cert_model.specs.Obligations.{Judged, nodes_at, reaches, rank_falls}
use Rattle.cert_model.specs.declared.reason.Reason.TheVariants.{NoTarget}
use Rattle.cert_check.specs.declared.table.Table.{Table}
use Rattle.cert_check.specs.View.{index_nodes, move_in, ways_in, way_of}

-- what the law of arrivals says
abbrev pub Tells : Type 0
Tells = (a b : Fsmd) (ls : List NormalLiteral) (v : List (Pos × Nf)) (l r : Path)
    → after (arrive a b ls v (Some l) (Some r)) (λ post. Done (is_refuted post.conditions))
    ≡ refuted_together ls (execute a l Left v) (execute b r Right v)

-- what is refuted holds, whatever else is asked
asked_twice : (arrival : Computed Post) (reach : Post → Judged)
    → after (after arrival (λ post. Done (is_refuted post.conditions)))
    (λ t. cond t (Done None) (after arrival (λ post. cond (is_refuted post.conditions) (Done None) (reach post))))
    ≡ after arrival (λ post. cond (is_refuted post.conditions) (Done None) (reach post))
asked_twice (Done post) reach = by_test (is_refuted post.conditions)
  where
    by_test : (t : Bool) → cond {A = Judged} t (Done None) (cond t (Done None) (reach post)) ≡ cond t (Done None) (reach post)
    by_test true = refl
    by_test false = refl
asked_twice (Wide l r) reach = refl
asked_twice (Large n d) reach = refl

module _ (tells : Tells) (t : Table) (n : Node Fact) where
  way_move : (l r : Path) → ways_in t n (way_of t.a.now Left (vector_of n.fact.positions) l) (way_of t.b.now Right (vector_of n.fact.positions) r)
      ≡ move_in t n (Some l) (Some r)
  way_move l r =
      ap (λ c. after c (λ b. cond {A = Judged} b (Done None) (move_in t n (Some l) (Some r))))
      (sym (tells t.a.now t.b.now n.fact.literals (vector_of n.fact.positions) l r))
      ∙ asked_twice (arrive t.a.now t.b.now n.fact.literals (vector_of n.fact.positions) (Some l) (Some r))
      (λ post. reaches NoTarget (nodes_at (index_nodes t.nodes) (end_of n.left (Some l)) (end_of n.right (Some r))) (rank_falls n) post)

  module _ (v : List (Pos × Nf)) (e : v ≡ vector_of n.fact.positions) where
    over_vector : (l r : Path) → ways_in t n (way_of t.a.now Left v l) (way_of t.b.now Right v r) ≡ move_in t n (Some l) (Some r)
    over_vector l r = ap (λ z. ways_in t n (way_of t.a.now Left z l) (way_of t.b.now Right z r)) e ∙ way_move l r

    pub ways_move : (ws : List (Path × Computed Post)) (ls rs : List Path) → ws ≡ map (λ p. way_of t.b.now Right v p) rs
        → flat_map (λ l. map (λ w. ways_in t n (way_of t.a.now Left v l) w) ws) ls ≡ flat_map (λ l. map (λ r. move_in t n (Some l) (Some r)) rs) ls
    ways_move ws ls rs f = λ k. flat_map (λ l. row l k) ls
      where
        row : (l : Path) → map (λ w. ways_in t n (way_of t.a.now Left v l) w) ws ≡ map (λ r. move_in t n (Some l) (Some r)) rs
        row l = ap (map (λ w. ways_in t n (way_of t.a.now Left v l) w)) f
            ∙ map_map (λ w. ways_in t n (way_of t.a.now Left v l) w) (λ p. way_of t.b.now Right v p) rs
            ∙ (λ k. map (λ r. over_vector l r k) rs)
