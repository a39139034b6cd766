-- What the outputs among variables ask, one after another.
use Rattle.std.proofs.Common.{◌≡◌, ℕ, Bool, true, false, cond, List, [], ◌∷◌, ◌++◌, refl}
use Rattle.fs_model.specs.declared.parts.VarInfo.{VarInfo}
use Rattle.fs_model.specs.Runs.{is_output}
use Rattle.cert_bisimulation.specs.Tables.{Node}
use Rattle.sym_facts.specs.Facts.{Fact}
use Rattle.search_tables.specs.SearchTables.{MachinePair}
use Rattle.show_certificate_lines.specs.Demands.{output_demand, output_demands}

pub outputs_split : (m : MachinePair) (ns : List (Node Fact)) (k : ℕ) (n : Node Fact) (v : VarInfo) (vs : List VarInfo)
    → output_demands m ns k n (v ∷ vs) ≡ output_demands m ns k n (v ∷ []) ++ output_demands m ns k n vs
outputs_split m ns k n v vs = by_test (is_output v.role) (output_demand m ns k n v) (output_demands m ns k n vs)
  where
    by_test : (b : Bool) (x : List ℕ) (rest : List (List ℕ)) → cond b (x ∷ rest) rest ≡ cond b (x ∷ []) [] ++ rest
    by_test true x rest = refl
    by_test false x rest = refl
