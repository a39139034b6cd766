-- The certificate of a closed search holds, and the text of a certificate that holds is small, since its nodes, equations and units are few.
use Rattle.std.proofs.Common.{◌≡◌, ℕ, ◌+◌, ◌*◌, ◌≤◌, List, [], ◌∷◌, length, map, Option, Some, None, refl, sym, ap, subst, ◌∙◌, arith}
use Rattle.std.specs.Prelude.{is_some}
use Rattle.std.specs.List.{filter, AllByRecursion}
use Rattle.std.proofs.lemmas.List.{length-map}
use Rattle.std.proofs.lemmas.List.Sums.{sum_by-cons}
use Rattle.fs_model.proofs.Lists.{length_filter}
use Rattle.fs_model.specs.declared.parts.Role.{Role}
use Rattle.fs_model.specs.declared.parts.Role.TheVariants.{Input, Output, Local}
use Rattle.fs_model.specs.declared.parts.Sort.{Sort}
use Rattle.fs_model.specs.declared.parts.Sort.TheVariants as sort
use Rattle.fs_model.specs.Machines.{Fsmd}
use Rattle.fs_pair.specs.declared.positions.Position.{Position}
use Rattle.fs_pair.specs.Positions.{positions}
use Rattle.fs_model.specs.declared.sides.Pos.{Pos}
use Rattle.fs_model.specs.declared.sides.Side.{Side}
use Rattle.fs_model.specs.declared.sides.Side.TheVariants as side
use Rattle.cert_bisimulation.specs.Tables.{Node as CertificateNode}
use Rattle.sym_paths.specs.Execution.{arrive, end_of}
use Rattle.sym_facts.specs.Facts.{FactPosition, Fact, vector_of, size_of_equation, size_of_equations, size_of_fact}
use Rattle.sym_facts.specs.Pairings.{IsFactOf}
use Rattle.sym_facts.specs.Starts.{zero_of, start_form, partner_in, start_position}
use Rattle.cert_model.specs.Sizes.{units_of}
use Rattle.cert_writer.specs.CertificateLimits.{equation_count, most_bytes, most_certificate_bytes}
use Rattle.cert_writer.specs.WrittenCertificates.{certificate_text}
use Rattle.search_tables.specs.declared.moves.Move.{Move}
use Rattle.search_tables.specs.SearchTables.{MachinePair, positions_of, SearchNode, Table, units, most_units, start_node, first_table, machines}
use Rattle.search_tables.specs.Next.{Change, next_move}
use Rattle.search_tables.specs.Legal.{MovesLead, Makes}
use Rattle.search_tables.specs.Certifying.{node_without_mode}
use Rattle.search_tables.proofs.Changing.{next_does, arrives_so}
use Rattle.search.specs.SearchOutcomes.{IsClosedWith}
use Rattle.search_laws.specs.Certificates.{IsCertificate}
use Rattle.search.proofs.FewPositions.{few_positions}

-- ---- equations

equations_in : (ps : List Position) (f : Fact) → IsFactOf ps f → length (filter (λ q. is_some q.equation) f.positions) ≤ length ps
equations_in ps f of = omega (
  arith,
  length_filter (λ (q : FactPosition). is_some q.equation) f.positions,
  length-map f.positions (λ (q : FactPosition). q.sort),
  ap length of.sorts,
  length-map ps (λ (p : Position). p.sort),
)

equations_few : (ps : List Position) → length ps ≤ 256 → (cs : List (CertificateNode Fact)) → AllByRecursion (λ n. IsFactOf ps n.fact) cs
    → equation_count cs ≤ 256 * length cs
equations_few ps few [] h = omega arith
equations_few ps few (c ∷ cs) h = omega (arith, few, equations_in ps c.fact h.0, equations_few ps few cs h.1)

-- ---- units

units_same : (cs : List (CertificateNode Fact)) → units_of cs ≡ units (map node_without_mode cs)
units_same [] = refl
units_same (c ∷ cs) = omega (arith, sum_by-cons (λ (n : SearchNode). size_of_fact n.fact) (node_without_mode c) (map node_without_mode cs), units_same cs)

own_small : (s : Sort) (q : Option Pos) → size_of_equation (start_form Input side.Right s q) ≤ 2
own_small s None = omega arith
own_small sort.Scalar (Some q) = omega arith
own_small sort.Array (Some q) = omega arith
own_small sort.Port (Some q) = omega arith

zero_small : (s : Sort) → size_of_equation (Some (zero_of s)) ≤ 2
zero_small sort.Scalar = omega arith
zero_small sort.Array = omega arith
zero_small sort.Port = omega arith

start_small : (r : Role) (d : Side) (s : Sort) (q : Option Pos) → size_of_equation (start_form r d s q) ≤ 2
start_small Input side.Left s q = omega arith
start_small Input side.Right s q = own_small s q
start_small Output d s q = zero_small s
start_small Local d s q = zero_small s

starts_small : (all ps : List Position) → size_of_equations (map (start_position all) ps) ≤ 2 * length ps
starts_small all [] = omega arith
starts_small all (p ∷ ps) = omega (arith, start_small p.role p.pos.side p.sort (partner_in all p.partner), starts_small all ps)

module _ (m : MachinePair) (few : length (positions_of m) ≤ 256) where
  first_small : units (first_table m) ≤ most_units
  first_small = omega (arith, few, sum_by-cons (λ (n : SearchNode). size_of_fact n.fact) (start_node m) [], starts_small (positions_of m) (positions_of m))

  next_small : (T U : Table) (y : Move) → next_move m T ≡ Change y U → units U ≤ most_units
  next_small T U y h =
      let d = next_does m T U y h in
      let P = end_of d.node.left d.paths.left in
      let Q = end_of d.node.right d.paths.right in
      (arrives_so (positions_of m) T U P Q
      (arrive m.left m.right d.node.fact.literals (vector_of d.node.fact.positions) d.paths.left d.paths.right) d.does).small

  lead_small : (moves : List Move) (S T : Table) → units S ≤ most_units → MovesLead m S moves T → units T ≤ most_units
  lead_small [] S T low h = subst (λ V. units V ≤ most_units) h low
  lead_small (x ∷ xs) S T low h = lead_small xs h.0 T (next_small S h.0 x h.2) h.3

  units_low : (moves : List Move) (T : Table) → Makes m moves T → units T ≤ most_units
  units_low moves T h = lead_small moves (first_table m) T first_small h.lead

-- ---- bytes

in_all : (nodes equations units bytes : ℕ) → nodes ≤ 4096 → equations ≤ 256 * nodes → units ≤ 4000000 → bytes ≤ 64 + 200 * nodes + 44 * equations + 47 * units
    → bytes ≤ 268435456
in_all nodes equations units bytes n e u h = omega (arith, n, e, u, h)

pub closed_holds : (a b : Fsmd) (nodes : List (CertificateNode Fact)) → IsClosedWith (machines a b) nodes → IsCertificate (machines a b) nodes
closed_holds a b nodes h =
    let m = machines a b in
    let few : length (positions a b) ≤ 256 = few_positions a b h.left_sound h.right_sound in
    record {
      left_sound = h.left_sound;
      right_sound = h.right_sound;
      lawful = h.lawful;
      normal = h.normal;
      within = subst (λ n. n ≤ most_units) (sym (units_same nodes ∙ ap units h.certifies.nodes)) (units_low m few h.moves h.table h.makes);
      hold = h.hold;
    }

pub small : (a b : Fsmd) (nodes : List (CertificateNode Fact)) → IsCertificate (machines a b) nodes → length (certificate_text a b nodes) ≤ most_bytes nodes
    → length (certificate_text a b nodes) ≤ most_certificate_bytes
small a b nodes h short =
    let few : length (positions a b) ≤ 256 = few_positions a b h.left_sound h.right_sound in
    in_all (length nodes) (equation_count nodes) (units_of nodes) (length (certificate_text a b nodes)) h.lawful.few
    (equations_few (positions a b) few nodes h.lawful.facts) h.within short
