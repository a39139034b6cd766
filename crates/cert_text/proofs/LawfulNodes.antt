-- One node more, and lawful certificates.
use Rattle.std.proofs.Common.{◌≡◌, ◌≤◌, true, ◌&&◌, refl, ap, sym, subst, ◌∙◌, List, [], ◌∷◌, ◌++◌, length}
use Rattle.std.specs.Prelude.{nat_le, map}
use Rattle.std.specs.List.{list_all, AllByRecursion}
use Rattle.std.proofs.lemmas.Bool.{le-leb, and_from}
use Rattle.std.proofs.lemmas.List.{map_push}
use Rattle.fs_model.specs.Machines.{Fsmd}
use Rattle.fs_cut.specs.Paths.{is_point}
use Rattle.fs_pair.specs.declared.positions.Position.{Position}
use Rattle.fs_pair.specs.Positions.{positions}
use Rattle.cert_bisimulation.specs.Tables.{Node}
use Rattle.sym_facts.specs.Facts.{Fact}
use Rattle.sym_facts.specs.Pairings.{IsFactOf}
use Rattle.cert_model.specs.declared.cert.Node.{Node as CodeNode}
use Rattle.cert_model.specs.View.{node_of}
use Rattle.cert_model.specs.Lawful.{IsLawful, most_nodes, most_rank}
use Rattle.cert_text.specs.Within.{IsNodeOf, AreNodesOf}

all_last : {X : Type 0} (P : X → Type 0) (xs : List X) (x : X) → AllByRecursion P xs → P x → AllByRecursion P (xs ++ x ∷ [])
all_last P [] x h p = (p, tt)
all_last P (y ∷ xs) x h p = (h.0, all_last P xs x h.1 p)

-- a node more
pub pushed : (a b : Fsmd) (ps : List Position) (xs olds ys : List CodeNode) (x : CodeNode) → xs ≡ olds → ys ≡ olds ++ x ∷ [] → IsNodeOf a b ps (node_of x)
    → AreNodesOf a b ps (map node_of olds) → AreNodesOf a b ps (map node_of ys)
pushed a b ps xs olds ys x same e i h = subst (AreNodesOf a b ps) (sym (ap (map node_of) e ∙ map_push node_of olds x))
    (record { each = all_last (IsNodeOf a b ps) (map node_of olds) (node_of x) h.each i })

-- nodes of two machines are lawful where they are few
pub lawful : (a b : Fsmd) (ns : List (Node Fact)) → AreNodesOf a b (positions a b) ns → length ns ≤ most_nodes → IsLawful a b ns
lawful a b ns h few = record { few = few; points = points ns h.each; ranks = ranks ns h.each; facts = facts ns h.each }
  where
    points : (ms : List (Node Fact)) → AllByRecursion (IsNodeOf a b (positions a b)) ms → list_all (λ n. is_point a n.left && is_point b n.right) ms ≡ true
    points [] i = refl
    points (n ∷ ms) i = and_from (is_point a n.left && is_point b n.right) (list_all (λ n. is_point a n.left && is_point b n.right) ms)
        (and_from (is_point a n.left) (is_point b n.right) i.0.left i.0.right) (points ms i.1)

    ranks : (ms : List (Node Fact)) → AllByRecursion (IsNodeOf a b (positions a b)) ms → list_all (λ n. nat_le n.rank most_rank) ms ≡ true
    ranks [] i = refl
    ranks (n ∷ ms) i = and_from (nat_le n.rank most_rank) (list_all (λ n. nat_le n.rank most_rank) ms) (le-leb n.rank most_rank i.0.rank) (ranks ms i.1)

    facts : (ms : List (Node Fact)) → AllByRecursion (IsNodeOf a b (positions a b)) ms → AllByRecursion (λ n. IsFactOf (positions a b) n.fact) ms
    facts [] i = tt
    facts (n ∷ ms) i = (i.0.fact, facts ms i.1)
