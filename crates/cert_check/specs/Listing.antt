-- Nodes listed by the keys of their points.
use Rattle.std.specs.Prelude.{◌≡◌, ℕ, zero, suc, Bool, true, false, List, [], map, Vec, refl}
use Rattle.std.specs.Borrow.{Bor}
use Rattle.std.specs.Global.{Global}
use Rattle.std.specs.Option.{option_map_or}
use Rattle.std.specs.Map.{lookup}
use Rattle.std.specs.Coded.{Coded, Coded-set, code_by, coded×, coded_bool, coded_ℕ, coded_list, Π_prop}
use Rattle.fs_cut.specs.Paths.{Point, Start, At, Done}
use Rattle.cert_bisimulation.specs.declared.mode.Mode.{Mode}
use Rattle.cert_bisimulation.specs.declared.mode.Mode.TheVariants.{Both, Left, Right, End}
use Rattle.cert_bisimulation.specs.Tables.{Node}
use Rattle.sym_facts.specs.Facts.{Fact}
use Rattle.sym_facts.specs.Codes.{coded_fact}
use Rattle.cert_model.specs.Obligations.{nodes_at}
use Rattle.cert_model.specs.PointKeys.{key_of, same_key}
use Rattle.cert_model.specs.View.{node_of}
use Rattle.cert_model.specs.declared.cert.Node.{Node as CodeNode}

-- nodes that are referred to
abbrev pub referred : Vec (Bor CodeNode) Global → List (Node Fact)
referred ns = map (λ n. node_of n.now) ns.items

-- the nodes that entries list at two points
abbrev pub listed_at : List ((ℕ × ℕ) × Vec (Bor CodeNode) Global) → (left right : Point) → List (Node Fact)
listed_at es P Q = option_map_or referred (lookup (same_key (key_of P Q)) es) []

-- entries list these nodes
abbrev pub Lists : List ((ℕ × ℕ) × Vec (Bor CodeNode) Global) → List (Node Fact) → Type 0
Lists es ns = (P Q : Point) → listed_at es P Q ≡ nodes_at ns P Q

-- ---- there is at most one proof of it

abbrev code_of_point : Point → ℕ × ℕ
code_of_point Start = (0, 0)
code_of_point Done = (1, 0)
code_of_point (At q) = (2, q)

abbrev point_of_code : ℕ × ℕ → Point
point_of_code (zero, q) = Start
point_of_code (suc zero, q) = Done
point_of_code (suc (suc k), q) = At q

pub point_again : (P : Point) → point_of_code (code_of_point P) ≡ P
point_again Start = refl
point_again Done = refl
point_again (At q) = refl

abbrev pub coded_point : Coded Point
coded_point = code_by (ℕ × ℕ) (coded× coded_ℕ coded_ℕ) code_of_point point_of_code point_again

abbrev bits_of_mode : Mode → Bool × Bool
bits_of_mode Both = (true, true)
bits_of_mode Left = (true, false)
bits_of_mode Right = (false, true)
bits_of_mode End = (false, false)

abbrev mode_of_bits : Bool × Bool → Mode
mode_of_bits (true, true) = Both
mode_of_bits (true, false) = Left
mode_of_bits (false, true) = Right
mode_of_bits (false, false) = End

pub mode_again : (m : Mode) → mode_of_bits (bits_of_mode m) ≡ m
mode_again Both = refl
mode_again Left = refl
mode_again Right = refl
mode_again End = refl

abbrev pub coded_node : Coded (Node Fact)
coded_node = code_by ((Point × Point) × ((Bool × Bool) × (ℕ × Fact)))
    (coded× (coded× coded_point coded_point) (coded× (coded× coded_bool coded_bool) (coded× coded_ℕ coded_fact)))
    (λ n. ((n.left, n.right), (bits_of_mode n.mode, (n.rank, n.fact))))
    (λ t. record { left = t.0.0; right = t.0.1; mode = mode_of_bits t.1.0; rank = t.1.1.0; fact = t.1.1.1 })
    (λ n. λ k. record { left = n.left; right = n.right; mode = mode_again n.mode k; rank = n.rank; fact = n.fact })

pub Lists-prop : (es : List ((ℕ × ℕ) × Vec (Bor CodeNode) Global)) (ns : List (Node Fact)) → IsProp (Lists es ns)
Lists-prop es ns = Π_prop (λ P. Π_prop (λ Q. Coded-set (coded_list coded_node) (listed_at es P Q) (nodes_at ns P Q)))
