-- Which machines move at a node.
use Rattle.std.specs.Prelude.{ℕ, ◌+◌, nat_le, Bool, true, false, not, cond, List, [], ◌∷◌, ◌++◌}
use Rattle.fs_model.specs.Machines.{Fsmd}
use Rattle.fs_cut.specs.Paths.{Point, Path}
use Rattle.fs_cut.specs.Paths as paths
use Rattle.fs_cut.specs.Covers.{paths_of, same_point}
use Rattle.cert_bisimulation.specs.declared.mode.Mode.{Mode}
use Rattle.cert_bisimulation.specs.declared.mode.Mode.TheVariants.{Both, Left, Right, End}
use Rattle.nf_terms.specs.Computed.{Computed, Done, Wide, Large, after}
use Rattle.fs_model.specs.declared.sides.Side.{Side}
use Rattle.fs_model.specs.declared.sides.Side.TheVariants as side
use Rattle.nf_rel.specs.Literals.{is_refuted}
use Rattle.sym_paths.specs.Execution.{conditions}
use Rattle.sym_facts.specs.Facts.{Fact, vector_of}

-- what is found; or the first event, at the conditions of the path by this branch of this side
pub data Traced (T : Type 0) : Type 0 where
  Found : T → Traced T
  WideAt : Side → (branch : ℕ) → (left right : ℕ) → Traced T
  LargeAt : Side → (branch : ℕ) → (units depth : ℕ) → Traced T

-- goes on with what is found
abbrev pub traced_then : {S T : Type 0} → Traced S → (S → Traced T) → Traced T
traced_then (Found x) next = next x
traced_then (WideAt d k left right) next = WideAt d k left right
traced_then (LargeAt d k units depth) next = LargeAt d k units depth

-- what is computed for a path
abbrev pub on_path : {T : Type 0} → Side → (branch : ℕ) → Computed T → Traced T
on_path d k (Done x) = Found x
on_path d k (Wide left right) = WideAt d k left right
on_path d k (Large units depth) = LargeAt d k units depth

-- whether a path is not refuted under a fact: its conditions over the fact's vector, behind the fact's literals
abbrev pub is_open_path : Fsmd → Side → Fact → Path → Computed Bool
is_open_path m d f p = after (conditions m p d (vector_of f.positions)) (λ ls. Done (not (is_refuted (f.literals ++ ls))))

-- one more where a path is not refuted
abbrev pub count_open : ℕ → Bool → ℕ
count_open n more = cond more (n + 1) n

-- how many paths of a side are not refuted under a fact, beside those that are counted so far
abbrev pub count_from : Fsmd → Side → Fact → List Path → ℕ → Traced ℕ
count_from m d f [] n = Found n
count_from m d f (p ∷ ps) n = traced_then (on_path d p.branch (is_open_path m d f p))
    (λ more. count_from m d f ps (count_open n more))

-- a machine that has one way on at most moves alone where the other has more
abbrev pub mode_of_counts : (left right : ℕ) → Mode
mode_of_counts n k = cond (nat_le n 1) (cond (nat_le k 1) Both Left) (cond (nat_le k 1) Right Both)

-- a machine that is done does not move
abbrev pub mode_by : (left_done right_done : Bool) → (else_mode : Traced Mode) → Traced Mode
mode_by true true f = Found End
mode_by true false f = Found Right
mode_by false true f = Found Left
mode_by false false f = f

-- the mode of two points under a fact: the left paths are counted, and then the right ones
abbrev pub mode_of : (a b : Fsmd) → Fact → (left right : Point) → Traced Mode
mode_of a b f P Q =
    mode_by (same_point P paths.Done) (same_point Q paths.Done)
    (traced_then (count_from a side.Left f (paths_of a P) 0)
    (λ n. traced_then (count_from b side.Right f (paths_of b Q) 0) (λ k. Found (mode_of_counts n k))))
