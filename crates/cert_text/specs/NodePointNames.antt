-- The points that a node names.
use Rattle.std.specs.Prelude.{ℕ, ◌==◌, Bool, not, ◌&&◌, cond, List, Option, Some, None, option_map, Result, Ok, Err, codes}
use Rattle.std.specs.List.{list_any}
use Rattle.std.specs.Str.{bytes_eq}
use Rattle.fs_model.specs.Machines.{Fsmd}
use Rattle.fs_cut.specs.Paths.{Point, Start, At, Done, is_point}
use Rattle.fs_cut.specs.Covers.{same_point}
use Rattle.cert_bisimulation.specs.Tables.{Node}
use Rattle.sym_facts.specs.Facts.{Fact}
use Rattle.cert_facts.specs.declared.faults.CertError.{CertError}
use Rattle.cert_facts.specs.declared.faults.CertError.TheVariants.{UnknownState, NotCutpoint, TwiceNode}
pub use Rattle.cert_facts.specs.PartAnswers.{then_part}

-- the point of a text, if there is one, by the numbers of states: a state by its name, which may be no point of paths
abbrev pub point_named : (List ℕ → Option ℕ) → List ℕ → Option Point
point_named state s = cond (bytes_eq s (codes "start")) (Some Start)
    (cond (bytes_eq s (codes "done")) (Some Done) (option_map At (state s)))

abbrev pub known_point : ℕ → Option Point → Result Point CertError
known_point i None = Err (UnknownState i)
known_point i (Some P) = Ok P

-- whether it is a point at which paths are cut
abbrev pub cut_point : ℕ → Fsmd → Point → Result Point CertError
cut_point i m P = cond (is_point m P) (Ok P) (Err (NotCutpoint i))

-- whether a node stands at two points
abbrev pub node_is_at : (left right : Point) → Node Fact → Bool
node_is_at P Q n = same_point n.left P && same_point n.right Q

-- whether two nodes may stand at the same points in a file of a format
abbrev pub may_share_points : ℕ → Bool
may_share_points format = format == 4

-- the points of node i in a file of a format, where no other node stands there or may stand there too
abbrev pub points_if_free : ℕ → (format : ℕ) → List (Node Fact) → (left right : Point) → Result (Point × Point) CertError
points_if_free i format earlier P Q =
    cond (not (may_share_points format) && list_any (node_is_at P Q) earlier) (Err (TwiceNode i)) (Ok (P, Q))

-- what points are looked up in: two machines, and the numbers of their states by name
pub record StateTables : Type 0 where
  pub a : Fsmd
  pub b : Fsmd
  pub left : List ℕ → Option ℕ
  pub right : List ℕ → Option ℕ

-- the points of node i behind others in a file of a format: first both are known, then both are points, then they are free
unfoldable pub points_read : ℕ → (format : ℕ) → StateTables → List (Node Fact) → (left right : List ℕ)
    → Result (Point × Point) CertError
points_read i format s earlier left right =
    then_part (known_point i (point_named s.left left)) (λ P.
    then_part (known_point i (point_named s.right right)) (λ Q.
    then_part (cut_point i s.a P) (λ R.
    then_part (cut_point i s.b Q) (λ S. points_if_free i format earlier R S))))
