-- Two paths, each executed over the vector of a fact.
use Rattle.std.specs.Prelude.{Bool, List, [], ◌∷◌, ◌++◌, Option, Some, None}
use Rattle.fs_cut.specs.Paths.{Path}
use Rattle.fs_cut.specs.View.{path_of}
use Rattle.nf_terms.specs.Computed.{Computed, Done, Wide, Large, after}
use Rattle.fs_model.specs.declared.sides.Pos.{Pos}
use Rattle.nf_terms.specs.declared.form.Nf.{Nf}
use Rattle.nf_vectors.specs.Vectors.{form_at, with_form}
use Rattle.nf_rel.specs.Literals.{NormalLiteral, is_refuted}
use Rattle.sym_paths.specs.Execution.{Post}
use Rattle.sym_paths.specs.ValuationStores.{choose_side}
use Rattle.sym_paths.specs.View.{post_in}
use Rattle.sym_facts.specs.Facts.{Fact, FactPosition, sort_of_terms}
use Rattle.sym_entailment.specs.declared.outcomes.Outcome.{Outcome}
use Rattle.sym_entailment.specs.declared.outcomes.Outcome.TheVariants as code
use Rattle.sym_entailment.specs.declared.outcomes.Way.{Way}

abbrev pub outcome_in : Outcome → Computed Post
outcome_in (code.Done p) = Done (post_in p)
outcome_in (code.Wide left right) = Wide left right
outcome_in (code.Large units depth) = Large units depth

abbrev pub way_in : Way → Path × Computed Post
way_in w = (path_of w.path.now, outcome_in w.outcome)

-- whether some literals and the conditions of two paths are refuted; the left path's event comes first
abbrev pub refuted_together : List NormalLiteral → (left right : Computed Post) → Computed Bool
refuted_together ls left right = after left (λ l. after right (λ r. Done (is_refuted (ls ++ (l.conditions ++ r.conditions)))))

-- the forms of some positions, each from the vector of its side
abbrev pub put_found : Pos → Option Nf → List (Pos × Nf) → List (Pos × Nf)
put_found p None v = v
put_found p (Some f) v = with_form p f v

abbrev pub put_sides : List FactPosition → (left right put : List (Pos × Nf)) → List (Pos × Nf)
put_sides [] left right v = v
put_sides (p ∷ ps) left right v =
    put_sides ps left right (put_found p.pos (form_at (sort_of_terms p.sort) p.pos (choose_side p.pos.side left right)) v)

-- what both paths leave of the positions of a fact; the left path's event comes first
abbrev pub joined_by : Fact → (left right : Computed Post) → Computed Post
joined_by f left right = after left (λ l. after right (λ r. Done (record {
  conditions = f.literals ++ (l.conditions ++ r.conditions);
  vector = put_sides f.positions l.vector r.vector [];
})))
