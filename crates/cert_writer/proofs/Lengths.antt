-- How many bytes a certificate has.
use Rattle.std.proofs.Common.{◌≡◌, ℕ, zero, suc, ◌+◌, ◌*◌, ◌≤◌, Bool, true, false, not, cond, List, [], ◌∷◌, ◌++◌, map, length, length-append, decimal, Option}
use Rattle.std.proofs.Common.{Some, None, Ordering, Less, Equal, Greater, refl, ap, ◌∙◌, arith}
use Rattle.std.specs.Prelude.{nat_le, codes, is_some}
use Rattle.std.specs.List.{list_all, list_any, filter, slice_index_or, AllByRecursion}
use Rattle.std.specs.Ordering.{nat_cmp, match_ordering}
use Rattle.std.specs.Cmp.Lexicographic.{slice_cmp}
use Rattle.std.proofs.lemmas.Bool.Decides.{nat_tests}
use Rattle.std.proofs.lemmas.Fmt.{length-decimal-le_wide}
use Rattle.fs_model.proofs.Booleans.{and_first, and_second}
use Rattle.fs_model.specs.SoundMachines.{IsSound}
use Rattle.json.specs.Print.{escape, escape_byte, quoted}
use Rattle.serde_json.specs.Data.{Data, unsigned, number, string, array, object, Items, item, Members, no_members, member, put}
use Rattle.serde_json.specs.Written.{compact_text, items_text, members_text, comma_if}
use Rattle.serde_json.proofs.OnLiterals.{serde_json_on_literals}
use Rattle.fs_model.specs.Machines.{State, Fsmd}
use Rattle.fs_model.specs.Words.{is_name}
use Rattle.fs_cut.specs.Paths.{Point, Start, At, Done}
use Rattle.fs_pair.specs.declared.positions.Position.{Position}
use Rattle.fs_pair.specs.Partners.{position_name}
use Rattle.cert_bisimulation.specs.declared.mode.Mode.{Mode}
use Rattle.cert_bisimulation.specs.declared.mode.Mode.TheVariants as mode
use Rattle.cert_bisimulation.specs.Tables.{Node}
use Rattle.fs_model.specs.declared.sides.Pos.{Pos}
use Rattle.fs_model.specs.Runs.{is_port}
use Rattle.nf_terms.specs.declared.form.Nf.{Nf}
use Rattle.nf_rel.specs.Literals.{NormalLiteral, True}
use Rattle.nf_rel.specs.NormalLiterals.{is_normal_literal, same_literal}
use Rattle.sym_facts.specs.Facts.{FactPosition, Fact, may_be_kept, size_of_equation, size_of_equations, size_of_literals, size_of_fact}
use Rattle.term_text.specs.TermTexts.{symbol_text}
use Rattle.term_writer.proofs.Plain.{is_plain, ArePlain}
use Rattle.term_writer.proofs.Bound.{symbol_short}
use Rattle.cert_json.specs.WrittenJson.{NodeText, texts, named_texts, node_data, nodes_data}
use Rattle.cert_model.specs.Lawful.{points_differ}
use Rattle.cert_writer.specs.WrittenCertificates.{form_written, literal_bytes, with_equation_member, equations_written, point_written, mode_written}
use Rattle.cert_writer.specs.WrittenCertificates.{node_written, needed_format, file_written}
use Rattle.cert_model.specs.Sizes.{units_of}
use Rattle.cert_writer.specs.CertificateLimits.{equation_count, most_bytes}
use Rattle.cert_model.specs.Kept.{IsNormalEquation, HasNormalFact}
use Rattle.cert_writer.proofs.Plain.{name_plain, name_short, names_short, form_plain, key_plain, literal_plain}
use Rattle.cert_writer.proofs.Short.{form_length, literal_length}
use Rattle.cert_writer.proofs.Values.{equations_same}

-- ---- strings

byte_same : (b : ℕ) → is_plain b ≡ true → escape_byte b ≡ b ∷ []
unfolding escape_byte
byte_same b e = grind (arith, nat_tests)

escape_same : (xs : List ℕ) → ArePlain xs → escape xs ≡ xs
escape_same [] e = refl
escape_same (x ∷ xs) e = ap (λ (ys : List ℕ). ys ++ escape xs) (byte_same x (and_first (is_plain x) (list_all is_plain xs) e))
    ∙ ap (λ (ys : List ℕ). x ∷ ys) (escape_same xs (and_second (is_plain x) (list_all is_plain xs) e))

quoted_length : (xs : List ℕ) → ArePlain xs → length (quoted xs) ≡ length xs + 2
quoted_length xs e = ap (λ (ys : List ℕ). length (34 ∷ (ys ++ 34 ∷ []))) (escape_same xs e) ∙ omega (arith, length-append xs (34 ∷ []))

comma_length : (later : Bool) → length (comma_if later) ≤ 1
comma_length true = omega arith
comma_length false = omega arith

item_length : (later : Bool) (d : Data) (ds : Items)
    → length (items_text later (item d ds)) ≡ length (comma_if later) + length (compact_text d) + length (items_text true ds)
item_length later d ds = omega (
  arith,
  length-append (comma_if later) (compact_text d ++ items_text true ds),
  length-append (compact_text d) (items_text true ds),
)

member_length : (later : Bool) (k : List ℕ) (d : Data) (ms : Members)
    → length (members_text later (member k d ms)) ≡ length (comma_if later) + length (quoted k) + 1 + length (compact_text d) + length (members_text true ms)
member_length later k d ms =
    omega (
      arith,
      length-append (comma_if later) (quoted k ++ 58 ∷ (compact_text d ++ members_text true ms)),
      length-append (quoted k) (58 ∷ (compact_text d ++ members_text true ms)),
      length-append (compact_text d) (members_text true ms),
    )

-- ---- members

-- what members need: each with a colon and a comma
abbrev cost : Members → ℕ
cost no_members = 0
cost (member k d ms) = length (quoted k) + length (compact_text d) + 2 + cost ms

cost_bounds : (later : Bool) (ms : Members) → length (members_text later ms) ≤ 1 + cost ms
cost_bounds later no_members = omega arith
cost_bounds later (member k d ms) = omega (arith, member_length later k d ms, comma_length later, cost_bounds true ms)

put_at : (o : Ordering) (k l : List ℕ) (d e : Data) (ms : Members) → cost (put k d ms) ≤ cost ms + (length (quoted k) + length (compact_text d) + 2)
    → cost (match_ordering o (member k d (member l e ms)) (member l d ms) (member l e (put k d ms))) ≤ cost (member l e ms)
    + (length (quoted k) + length (compact_text d) + 2)
put_at Less k l d e ms h = omega arith
put_at Equal k l d e ms h = omega arith
put_at Greater k l d e ms h = omega (arith, h)

put_cost : (k : List ℕ) (d : Data) (ms : Members) → cost (put k d ms) ≤ cost ms + (length (quoted k) + length (compact_text d) + 2)
put_cost k d no_members = omega arith
put_cost k d (member l e ms) = put_at (slice_cmp nat_cmp k l) k l d e ms (put_cost k d ms)

-- ---- conditions

kept_normal : (l : NormalLiteral) → may_be_kept l ≡ true → is_normal_literal l ≡ true
kept_normal l e = and_second (not (same_literal l True)) (is_normal_literal l) e

module _ (a b : Fsmd) (s : IsSound a) (t : IsSound b) where
  conditions_length : (later : Bool) (ls : List NormalLiteral) → list_all may_be_kept ls ≡ true
      → length (items_text later (texts (map (literal_bytes (position_name a b)) ls))) ≤ 1 + 47 * size_of_literals ls
  conditions_length later [] e = omega arith
  conditions_length later (l ∷ ls) e =
      let text = literal_bytes (position_name a b) l in
      let rest = texts (map (literal_bytes (position_name a b)) ls) in
      let n : is_normal_literal l ≡ true = kept_normal l (and_first (may_be_kept l) (list_all may_be_kept ls) e) in
      omega (
        arith,
        item_length later (string text) rest,
        comma_length later,
        quoted_length text (literal_plain a b s t l),
        literal_length (position_name a b) (names_short a b s t) l n,
        conditions_length true ls (and_second (may_be_kept l) (list_all may_be_kept ls) e),
      )

-- ---- equations

abbrev some_count : Option Nf → ℕ
some_count None = 0
some_count (Some f) = 1

counted : (q : FactPosition) (o : Option Nf) (qs : List FactPosition) → length (cond (is_some o) (q ∷ qs) qs) ≡ some_count o + length qs
counted q None qs = omega arith
counted q (Some f) qs = omega arith

equation_cost : (a b : Fsmd) → IsSound a → IsSound b → (p : Pos) (o : Option Nf) (ms : Members) → IsNormalEquation o
    → cost (with_equation_member (position_name a b) p o ms) ≤ cost ms + 44 * some_count o + 47 * size_of_equation o
equation_cost a b s t p None ms n = omega arith
equation_cost a b s t p (Some f) ms n =
    let key = symbol_text p.side (position_name a b p) in
    let text = form_written (position_name a b) f in
    omega (
      arith,
      put_cost key (string text) ms,
      quoted_length key (key_plain a b s t p),
      quoted_length text (form_plain a b s t f),
      symbol_short p.side (position_name a b p) (names_short a b s t p),
      form_length (position_name a b) (names_short a b s t) f n,
    )

equations_cost : (a b : Fsmd) → IsSound a → IsSound b → (ms : Members) (qs : List FactPosition) → AllByRecursion (λ q. IsNormalEquation q.equation) qs
    → cost (equations_written (position_name a b) ms qs) ≤ cost ms + 44 * length (filter (λ q. is_some q.equation) qs) + 47 * size_of_equations qs
equations_cost a b s t ms [] n = omega arith
equations_cost a b s t ms (q ∷ qs) n =
    omega (
      arith,
      equations_cost a b s t (with_equation_member (position_name a b) q.pos q.equation ms) qs n.1,
      equation_cost a b s t q.pos q.equation ms n.0,
      counted q q.equation (filter (λ (r : FactPosition). is_some r.equation) qs),
    )

-- ---- points, modes and ranks

of_states : (P : List ℕ → Type 0) → P [] → ((x : List ℕ) → is_name x ≡ true → P x) → (ss : List State) (q : ℕ) → list_all (λ x. is_name x.name) ss ≡ true
    → P (slice_index_or ss q (record { name = []; transitions = [] })).name
of_states P none some [] q e = none
of_states P none some (x ∷ ss) zero e = some x.name (and_first (is_name x.name) (list_all (λ (y : State). is_name y.name) ss) e)
of_states P none some (x ∷ ss) (suc q) e = of_states P none some ss q (and_second (is_name x.name) (list_all (λ (y : State). is_name y.name) ss) e)

point_plain : (m : Fsmd) → IsSound m → (p : Point) → ArePlain (point_written m p)
point_plain m s Start = refl
point_plain m s (At q) = of_states ArePlain refl name_plain m.states q s.states_named
point_plain m s Done = refl

point_length : (m : Fsmd) → IsSound m → (p : Point) → length (point_written m p) ≤ 32
point_length m s Start = omega arith
point_length m s (At q) = of_states (λ x. length x ≤ 32) (omega arith) name_short m.states q s.states_named
point_length m s Done = omega arith

mode_length : (m : Mode) → length (quoted (mode_written m)) ≤ 7
unfolding serde_json_on_literals
mode_length mode.Both = omega arith
mode_length mode.Left = omega arith
mode_length mode.Right = omega arith
mode_length mode.End = omega arith

rank_length : (n : ℕ) → n ≤ 4096 → length (decimal n) ≤ 4
rank_length n h = length-decimal-le_wide 4 n (omega arith) (omega (arith, h)) (omega (arith, h))

-- ---- nodes

key_lengths : (length (quoted (codes "conds")) ≡ 7) × (length (quoted (codes "equations")) ≡ 11) × (length (quoted (codes "left")) ≡ 6)
    × (length (quoted (codes "mode")) ≡ 6) × (length (quoted (codes "rank")) ≡ 6) × (length (quoted (codes "right")) ≡ 7)
unfolding serde_json_on_literals
key_lengths = (refl, refl, refl, refl, refl, refl)

file_key_lengths : (length (quoted (codes "format")) ≡ 8) × (length (quoted (codes "nodes")) ≡ 7)
unfolding serde_json_on_literals
file_key_lengths = (refl, refl)

node_length : (n : NodeText) → length (compact_text (node_data n)) ≡ 58 + length (items_text false (texts n.conds))
    + length (members_text false (named_texts n.equations)) + length (quoted n.left) + length (quoted n.mode) + length (decimal n.rank)
    + length (quoted n.right)
node_length n =
    let right = member (codes "right") (string n.right) no_members in
    let rank = member (codes "rank") (number (unsigned n.rank)) right in
    let mode = member (codes "mode") (string n.mode) rank in
    let left = member (codes "left") (string n.left) mode in
    let equations = member (codes "equations") (object (named_texts n.equations)) left in
    omega (
      arith,
      key_lengths.0,
      key_lengths.1,
      key_lengths.2,
      key_lengths.3,
      key_lengths.4,
      key_lengths.5,
      member_length false (codes "conds") (array (texts n.conds)) equations,
      member_length true (codes "equations") (object (named_texts n.equations)) left,
      member_length true (codes "left") (string n.left) mode,
      member_length true (codes "mode") (string n.mode) rank,
      member_length true (codes "rank") (number (unsigned n.rank)) right,
      member_length true (codes "right") (string n.right) no_members,
    )

node_bound : (a b : Fsmd) → IsSound a → IsSound b → (n : Node Fact) → HasNormalFact n → n.rank ≤ 4096
    → length (compact_text (node_data (node_written a b n))) + 1 ≤ 200 + 44 * length (filter (λ q. is_some q.equation) n.fact.positions) + 47
    * size_of_fact n.fact
node_bound a b s t n k r =
    let w = node_written a b n in
    let ms = equations_written (position_name a b) no_members n.fact.positions in
    let same : length (members_text false (named_texts w.equations)) ≡ length (members_text false ms) =
    ap (λ x. length (members_text false x)) (equations_same (position_name a b) n.fact.positions) in
    omega (
      arith,
      node_length w,
      conditions_length a b s t false n.fact.literals k.fact.literals,
      same,
      cost_bounds false ms,
      equations_cost a b s t no_members n.fact.positions k.normal,
      quoted_length w.left (point_plain a s n.left),
      point_length a s n.left,
      mode_length n.mode,
      rank_length n.rank r,
      quoted_length w.right (point_plain b t n.right),
      point_length b t n.right,
    )

low_rank : (n : ℕ) → nat_le n 4096 ≡ true → n ≤ 4096
low_rank n e = grind (arith, nat_tests)

nodes_bound : (a b : Fsmd) → IsSound a → IsSound b → (later : Bool) (ns : List (Node Fact)) → AllByRecursion HasNormalFact ns
    → list_all (λ n. nat_le n.rank 4096) ns ≡ true
    → length (items_text later (nodes_data (map (node_written a b) ns))) ≤ 1 + 200 * length ns + 44 * equation_count ns + 47 * units_of ns
nodes_bound a b s t later [] k r = omega arith
nodes_bound a b s t later (n ∷ ns) k r =
    let rest = list_all (λ (m : Node Fact). nat_le m.rank 4096) ns in
    let low = low_rank n.rank (and_first (nat_le n.rank 4096) rest r) in
    omega (
      arith,
      item_length later (node_data (node_written a b n)) (nodes_data (map (node_written a b) ns)),
      comma_length later,
      node_bound a b s t n k.0 low,
      nodes_bound a b s t true ns k.1 (and_second (nat_le n.rank 4096) rest r),
    )

format_length : (differ : Bool) (ps : List Position) → length (decimal (needed_format differ ps)) ≤ 1
format_length true ps = by_ports (list_any (λ p. is_port p.sort) ps)
  where
    by_ports : (t : Bool) → length (decimal (cond t 2 1)) ≤ 1
    by_ports true = length-decimal-le_wide 1 2 (omega arith) (omega arith) (omega arith)
    by_ports false = length-decimal-le_wide 1 1 (omega arith) (omega arith) (omega arith)
format_length false ps = length-decimal-le_wide 1 4 (omega arith) (omega arith) (omega arith)

pub file_bound : (a b : Fsmd) → IsSound a → IsSound b → (ps : List Position) (ns : List (Node Fact)) → AllByRecursion HasNormalFact ns
    → list_all (λ n. nat_le n.rank 4096) ns ≡ true → (bytes : List ℕ) → bytes ≡ compact_text (file_written a b ps ns) → length bytes ≤ most_bytes ns
file_bound a b s t ps ns k r bytes e =
    let ds = nodes_data (map (node_written a b) ns) in
    let nodes = member (codes "nodes") (array ds) no_members in
    omega (
      arith,
      ap length e,
      file_key_lengths.0,
      file_key_lengths.1,
      member_length false (codes "format") (number (unsigned (needed_format (points_differ ns) ps))) nodes,
      member_length true (codes "nodes") (array ds) no_members,
      format_length (points_differ ns) ps,
      nodes_bound a b s t false ns k r,
    )
