-- The text of a certificate is a file of its JSON.
use Rattle.std.proofs.Common.{◌≡◌, ℕ, zero, suc, ◌^◌, ◌<◌, ◌≤◌, Bool, true, false, cond, List, [], ◌∷◌, map, Option, Some, None, IsUtf8, refl, sym, subst}
use Rattle.std.proofs.Common.{arith}
use Rattle.std.specs.Prelude.{nat_le, codes}
use Rattle.std.specs.List.{list_all, list_any, slice_index_or}
use Rattle.std.proofs.lemmas.Bool.Decides.{nat_tests}
use Rattle.std.proofs.lemmas.Str.{IsUtf8-nil}
use Rattle.fs_model.proofs.Booleans.{and_first, and_second}
use Rattle.fs_model.specs.SoundMachines.{IsSound}
use Rattle.json.proofs.Printed.Utf8.{IsUtf8-are_ascii}
use Rattle.serde_json.specs.Data.{Members, no_members, string}
use Rattle.fs_model.specs.Machines.{State, Fsmd}
use Rattle.fs_model.specs.Words.{is_name}
use Rattle.fs_cut.specs.Paths.{Point, Start, At, Done}
use Rattle.fs_pair.specs.declared.positions.Position.{Position}
use Rattle.fs_pair.specs.Positions.{positions}
use Rattle.fs_pair.specs.Partners.{position_name}
use Rattle.fs_model.specs.declared.sides.Pos.{Pos}
use Rattle.fs_model.specs.Runs.{is_port}
use Rattle.nf_terms.specs.declared.form.Nf.{Nf}
use Rattle.nf_rel.specs.Literals.{NormalLiteral}
use Rattle.cert_bisimulation.specs.declared.mode.Mode.{Mode}
use Rattle.cert_bisimulation.specs.declared.mode.Mode.TheVariants as mode
use Rattle.cert_bisimulation.specs.Tables.{Node}
use Rattle.sym_facts.specs.Facts.{FactPosition, Fact}
use Rattle.cert_model.specs.Lawful.{IsLawful, points_differ}
use Rattle.term_text.specs.TermTexts.{symbol_text}
use Rattle.cert_json.specs.Refusals.{IsFileOf}
use Rattle.cert_json.specs.WrittenJson.{texts, named_texts, node_data, nodes_data}
use Rattle.cert_json.specs.JsonTexts.{named_texts_of}
use Rattle.search_laws.specs.Orderly.{KeysRise, IsOrderly, AreOrderly, MembersAreOrderly}
use Rattle.search_laws.proofs.Putting.{rises, orderly}
use Rattle.search_laws.proofs.TextsAgain.{read_again}
use Rattle.search_laws.proofs.Utf8.{value_utf8}
use Rattle.cert_writer.specs.WrittenCertificates.{form_written, literal_bytes, with_equation_member, equations_written, point_written}
use Rattle.cert_writer.specs.WrittenCertificates.{mode_written, node_written, needed_format, file_written, certificate_text}
use Rattle.cert_writer.proofs.Plain.{name_utf8, form_utf8, symbol_utf8, literal_utf8}
use Rattle.cert_writer.proofs.Values.{equations_same}
use Rattle.cert_writer.proofs.Files.{is_file_of}
use Rattle.cert_model.specs.Kept.{AreNormal}

-- ---- texts

ascii_keys : IsUtf8 (codes "conds") × IsUtf8 (codes "equations") × IsUtf8 (codes "left") × IsUtf8 (codes "mode") × IsUtf8 (codes "rank")
    × IsUtf8 (codes "right")
ascii_keys = (
  IsUtf8-are_ascii (codes "conds") refl,
  IsUtf8-are_ascii (codes "equations") refl,
  IsUtf8-are_ascii (codes "left") refl,
  IsUtf8-are_ascii (codes "mode") refl,
  IsUtf8-are_ascii (codes "rank") refl,
  IsUtf8-are_ascii (codes "right") refl,
)

state_utf8 : (ss : List State) (q : ℕ) → list_all (λ x. is_name x.name) ss ≡ true → IsUtf8 (slice_index_or ss q (record { name = []; transitions = [] })).name
state_utf8 [] q h = IsUtf8-nil
state_utf8 (x ∷ ss) zero h = name_utf8 x.name (and_first (is_name x.name) (list_all (λ (y : State). is_name y.name) ss) h)
state_utf8 (x ∷ ss) (suc q) h = state_utf8 ss q (and_second (is_name x.name) (list_all (λ (y : State). is_name y.name) ss) h)

point_utf8 : (m : Fsmd) → IsSound m → (p : Point) → IsUtf8 (point_written m p)
point_utf8 m s Start = IsUtf8-are_ascii (codes "start") refl
point_utf8 m s (At q) = state_utf8 m.states q s.states_named
point_utf8 m s Done = IsUtf8-are_ascii (codes "done") refl

mode_utf8 : (m : Mode) → IsUtf8 (mode_written m)
mode_utf8 mode.Both = IsUtf8-are_ascii (codes "both") refl
mode_utf8 mode.Left = IsUtf8-are_ascii (codes "left") refl
mode_utf8 mode.Right = IsUtf8-are_ascii (codes "right") refl
mode_utf8 mode.End = IsUtf8-are_ascii (codes "end") refl

module _ (a b : Fsmd) (left : IsSound a) (right : IsSound b) where
  literals_orderly : (ls : List NormalLiteral) → AreOrderly (texts (map (literal_bytes (position_name a b)) ls))
  literals_orderly [] = tt
  literals_orderly (l ∷ ls) = (literal_utf8 a b left right l [] (literal_bytes (position_name a b) l) refl refl, literals_orderly ls)

  -- ---- equations

  abbrev IsInOrder : Members → Type 0
  IsInOrder ms = KeysRise ms × MembersAreOrderly ms

  equation_in_order : (p : Pos) (o : Option Nf) (ms : Members) → IsInOrder ms → IsInOrder (with_equation_member (position_name a b) p o ms)
  equation_in_order p None ms h = h
  equation_in_order p (Some f) ms h =
      let key = symbol_text p.side (position_name a b p) in
      let text = form_written (position_name a b) f in
      (rises key (string text) ms h.0, orderly key (string text) ms (symbol_utf8 a b left right p [] key refl refl) (form_utf8 a b left right f text refl) h.1)

  equations_in_order : (qs : List FactPosition) (ms : Members) → IsInOrder ms → IsInOrder (equations_written (position_name a b) ms qs)
  equations_in_order [] ms h = h
  equations_in_order (q ∷ qs) ms h = equations_in_order qs (with_equation_member (position_name a b) q.pos q.equation ms)
      (equation_in_order q.pos q.equation ms h)

  named_in_order : (qs : List FactPosition) → IsInOrder (named_texts (named_texts_of (equations_written (position_name a b) no_members qs)))
  named_in_order qs = subst IsInOrder (sym (equations_same (position_name a b) qs)) (equations_in_order qs no_members (tt, tt))

  -- ---- nodes

  rank_small : (n : ℕ) → nat_le n 4096 ≡ true → n < 2 ^ 64
  rank_small n h = let low : n ≤ 4096 = grind (arith, nat_tests) in omega (arith, low)

  node_orderly : (n : Node Fact) → nat_le n.rank 4096 ≡ true → IsOrderly (node_data (node_written a b n))
  node_orderly n r = (
    (
      (refl, (refl, (refl, (refl, (refl, tt))))),
      ((refl, (refl, (refl, (refl, tt)))), ((refl, (refl, (refl, tt))), ((refl, (refl, tt)), ((refl, tt), (tt, tt))))),
    ),
    (
      ascii_keys.0,
      literals_orderly n.fact.literals,
      (
        ascii_keys.1,
        named_in_order n.fact.positions,
        (
          ascii_keys.2,
          point_utf8 a left n.left,
          (ascii_keys.3, mode_utf8 n.mode, (ascii_keys.4, rank_small n.rank r, (ascii_keys.5, point_utf8 b right n.right, tt))),
        ),
      ),
    ),
  )

  nodes_orderly : (ns : List (Node Fact)) → list_all (λ n. nat_le n.rank 4096) ns ≡ true → AreOrderly (nodes_data (map (node_written a b) ns))
  nodes_orderly [] h = tt
  nodes_orderly (n ∷ ns) h =
      let rest = list_all (λ (k : Node Fact). nat_le k.rank 4096) ns in
      (node_orderly n (and_first (nat_le n.rank 4096) rest h), nodes_orderly ns (and_second (nat_le n.rank 4096) rest h))

  format_small : (differ : Bool) (ps : List Position) → needed_format differ ps < 2 ^ 64
  format_small true ps = by_ports (list_any (λ p. is_port p.sort) ps)
    where
      by_ports : (t : Bool) → cond t 2 1 < 2 ^ 64
      by_ports true = omega arith
      by_ports false = omega arith
  format_small false ps = omega arith

  file_orderly : (ps : List Position) (ns : List (Node Fact)) → list_all (λ n. nat_le n.rank 4096) ns ≡ true → IsOrderly (file_written a b ps ns)
  file_orderly ps ns h = (
    ((refl, tt), (tt, tt)),
    (IsUtf8-are_ascii (codes "format") refl, format_small (points_differ ns) ps, (IsUtf8-are_ascii (codes "nodes") refl, nodes_orderly ns h, tt)),
  )

  pub written_file : (ns : List (Node Fact)) → IsLawful a b ns → AreNormal ns → IsFileOf (certificate_text a b ns) (file_written a b (positions a b) ns)
  written_file ns lawful normal =
      let ps = positions a b in
      let d = file_written a b ps ns in
      let order : IsOrderly d = file_orderly ps ns lawful.ranks in
      is_file_of a b ps ns lawful normal (certificate_text a b ns) d refl (value_utf8 d order) (read_again d order)
