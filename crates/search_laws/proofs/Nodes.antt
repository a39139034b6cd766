-- The nodes of a certificate are read as themselves.
use Rattle.std.proofs.Common.{◌≡◌, ℕ, ◌+◌, Bool, true, false, not, ◌&&◌, ◌||◌, List, [], ◌∷◌, ◌++◌, map, append-nil, append_assoc, Ok, refl, sym, ap, subst}
use Rattle.std.proofs.Common.{◌∙◌}
use Rattle.std.specs.List.{list_all, list_any, AllByRecursion}
use Rattle.std.proofs.lemmas.Bool.{or_parts, not-true}
use Rattle.fs_model.proofs.Booleans.{and_first, and_second}
use Rattle.fs_model.specs.SoundMachines.{IsSound}
use Rattle.fs_model.specs.Machines.{Fsmd}
use Rattle.fs_cut.specs.Paths.{is_point}
use Rattle.fs_cut.specs.Covers.{same_point}
use Rattle.fs_pair.specs.declared.positions.Position.{Position}
use Rattle.fs_pair.specs.Positions.{positions}
use Rattle.fs_pair.specs.Partners.{position_name}
use Rattle.cert_bisimulation.specs.declared.mode.Mode.{Mode}
use Rattle.cert_bisimulation.specs.declared.mode.Mode.TheVariants as mode
use Rattle.cert_bisimulation.specs.Tables.{Node}
use Rattle.sym_facts.specs.Facts.{Fact}
use Rattle.sym_facts.specs.Pairings.{IsFactOf}
use Rattle.cert_model.specs.Lawful.{IsLawful, points_differ}
use Rattle.cert_json.specs.Refusals.{IsFileOf}
use Rattle.cert_json.specs.WrittenJson.{NodeText}
use Rattle.cert_writer.specs.WrittenCertificates.{needed_format, mode_written, node_written, file_written}
use Rattle.cert_text.specs.CertificateNames.{place_named, find_in}
use Rattle.cert_facts.specs.JsonParts.{file_nodes}
use Rattle.cert_text.specs.NodePointNames.{then_part, node_is_at, may_share_points}
use Rattle.cert_text.specs.CertificateReading.{Context, mode_named, node_fact, node_read, nodes_read}
use Rattle.cert_text.specs.Refusals.{context_of, SpellsNodes}
use Rattle.cert_text.specs.TextMeanings.{TextMeanings, AreRead}
use Rattle.cert_model.specs.Kept.{AreNormal, HasNormalFact}
use Rattle.search_laws.proofs.FactTexts.{fact_again}
use Rattle.search_laws.proofs.FileTexts.{nodes_of_file, format_of_file}
use Rattle.search_laws.proofs.Places.{find}
use Rattle.search_laws.proofs.Points.{points_again}
use Rattle.search_laws.proofs.Readable.{TextLaws}

mode_again : (m : Mode) → mode_named (mode_written m) ≡ m
mode_again mode.Both = refl
mode_again mode.Left = refl
mode_again mode.Right = refl
mode_again mode.End = refl

-- ---- points that differ

fails_at : {X : Type 0} (test : X → Bool) (xs : List X) (x : X) (ys : List X) → list_any test (xs ++ x ∷ ys) ≡ false → test x ≡ false
fails_at test [] x ys h = (or_parts (test x) (list_any test ys) h).0
fails_at test (z ∷ xs) x ys h = fails_at test xs x ys (or_parts (test z) (list_any test (xs ++ x ∷ ys)) h).1

free_before : (earlier : List (Node Fact)) (n : Node Fact) (ns : List (Node Fact)) → points_differ (earlier ++ n ∷ ns) ≡ true
    → list_any (node_is_at n.left n.right) earlier ≡ false
free_before [] n ns h = refl
free_before (e ∷ es) n ns h =
    let test : Node Fact → Bool = λ k. same_point e.left k.left && same_point e.right k.right in
    let none : list_any test (es ++ n ∷ ns) ≡ false = not-true (list_any test (es ++ n ∷ ns))
    (and_first (not (list_any test (es ++ n ∷ ns))) (points_differ (es ++ n ∷ ns)) h) in
    ap (λ t. t || list_any (node_is_at n.left n.right) es) (fails_at test es n ns none)
    ∙ free_before es n ns (and_second (not (list_any test (es ++ n ∷ ns))) (points_differ (es ++ n ∷ ns)) h)

-- nodes that are written may share their points, or stand at different ones
abbrev AreFree : Bool → List (Node Fact) → Type 0
AreFree true ns = points_differ ns ≡ true
AreFree false ns = Unit {0}

free_here : (differ : Bool) (ps : List Position) (earlier : List (Node Fact)) (n : Node Fact) (ns : List (Node Fact)) → AreFree differ (earlier ++ n ∷ ns)
    → not (may_share_points (needed_format differ ps)) && list_any (node_is_at n.left n.right) earlier ≡ false
free_here true ps earlier n ns h = by_test (not (may_share_points (needed_format true ps))) (free_before earlier n ns h)
  where
    by_test : (t : Bool) → list_any (node_is_at n.left n.right) earlier ≡ false → t && list_any (node_is_at n.left n.right) earlier ≡ false
    by_test true e = e
    by_test false e = refl
free_here false ps earlier n ns h = refl

free_later : (differ : Bool) (ns ms : List (Node Fact)) → ns ≡ ms → AreFree differ ms → AreFree differ ns
free_later differ ns ms e h = subst (AreFree differ) (sym e) h

are_free : (ns : List (Node Fact)) → AreFree (points_differ ns) ns
are_free ns = by_test (points_differ ns) refl
  where
    by_test : (t : Bool) → points_differ ns ≡ t → AreFree t ns
    by_test true e = e
    by_test false e = tt

module _ (a b : Fsmd) (left : IsSound a) (right : IsSound b) (differ : Bool) (laws : TextLaws (position_name a b) (find a b left right differ)) where
  module _ (r : TextMeanings) (read : AreRead (find a b left right differ) r) where
    abbrev context : Context
    context = context_of a b (needed_format differ (positions a b)) r

    node_again : (i : ℕ) (earlier : List (Node Fact)) (n : Node Fact) → is_point a n.left ≡ true → is_point b n.right ≡ true
        → not (may_share_points (needed_format differ (positions a b))) && list_any (node_is_at n.left n.right) earlier ≡ false
        → IsFactOf (positions a b) n.fact → HasNormalFact n
        → node_read context i earlier (node_written a b n) ≡ Ok n
    unfolding node_read
    node_again i earlier n p q free of kept =
        let made : Fact → Node Fact = λ f. record { left = n.left; right = n.right; mode = mode_named (mode_written n.mode); rank = n.rank; fact = f } in
        let same : made n.fact ≡ n = (λ k. record { left = n.left; right = n.right; mode = mode_again n.mode k; rank = n.rank; fact = n.fact }) in
        ap
        (λ y. then_part y
        (λ P. then_part (node_fact context.terms i (node_written a b n))
        (λ f. Ok (record { left = P.0; right = P.1; mode = mode_named (mode_written n.mode); rank = n.rank; fact = f }))))
        (points_again a b left right i (needed_format differ (positions a b)) earlier n.left n.right p q free)
        ∙ ap (λ y. then_part y (λ f. Ok (made f)))
        (fact_again a b left right differ laws r read i n.fact of kept.fact kept.normal (node_written a b n) refl refl)
        ∙ ap Ok same

    nodes_again : (i : ℕ) (earlier ns : List (Node Fact)) → list_all (λ n. is_point a n.left && is_point b n.right) ns ≡ true
        → AreFree differ (earlier ++ ns) → AllByRecursion (λ n. IsFactOf (positions a b) n.fact) ns → AllByRecursion HasNormalFact ns
        → nodes_read context i earlier (map (node_written a b) ns) ≡ Ok (earlier ++ ns)
    nodes_again i earlier [] p d of kept = ap Ok (sym (append-nil earlier))
    nodes_again i earlier (n ∷ ns) p d of kept =
        let rest : Bool = list_all (λ (k : Node Fact). is_point a k.left && is_point b k.right) ns in
        let here : (is_point a n.left && is_point b n.right) ≡ true = and_first (is_point a n.left && is_point b n.right) rest p in
        let later : AreFree differ ((earlier ++ n ∷ []) ++ ns) = free_later differ ((earlier ++ n ∷ []) ++ ns) (earlier ++ n ∷ ns)
        (append_assoc earlier (n ∷ []) ns) d in
        ap (λ y. then_part (then_part y (λ m. Ok (earlier ++ m ∷ []))) (λ ms. nodes_read context (i + 1) ms (map (node_written a b) ns)))
        (node_again i earlier n (and_first (is_point a n.left) (is_point b n.right) here) (and_second (is_point a n.left) (is_point b n.right) here)
        (free_here differ (positions a b) earlier n ns d) of.0 kept.0)
        ∙ nodes_again (i + 1) (earlier ++ n ∷ []) ns (and_second (is_point a n.left && is_point b n.right) rest p) later of.1 kept.1
        ∙ ap Ok (append_assoc earlier (n ∷ []) ns)

-- what is written of nodes spells them
pub written_nodes : (a b : Fsmd) (left : IsSound a) (right : IsSound b) (ns : List (Node Fact))
    → TextLaws (position_name a b) (find a b left right (points_differ ns)) → (bytes : List ℕ) → IsLawful a b ns → AreNormal ns
    → IsFileOf bytes (file_written a b (positions a b) ns) → SpellsNodes a b bytes ns
written_nodes a b left right ns laws bytes lawful normal file =
    let format : ℕ = needed_format (points_differ ns) (positions a b) in
    let texts : List NodeText = map (node_written a b) ns in
    let d = file_written a b (positions a b) ns in
    record {
      value = d;
      file = file;
      nodes = λ r h.
          (let read : AreRead (find a b left right (points_differ ns)) r = subst
          (λ f. AreRead (find_in (place_named a b (positions a b)) (positions a b) f) r) (format_of_file format texts) h in
          ap (λ f. nodes_read (context_of a b f r) 0 [] (file_nodes d)) (format_of_file format texts)
          ∙ ap (λ ms. nodes_read (context_of a b format r) 0 [] ms) (nodes_of_file format texts)
          ∙ nodes_again a b left right (points_differ ns) laws r read 0 [] ns lawful.points (are_free ns) lawful.facts normal);
    }
