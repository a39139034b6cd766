-- Places of nodes by the keys of their points.
use Rattle.std.proofs.Common.{◌≡◌, ℕ, suc, ◌+◌, ◌<◌, Bool, true, false, not, ◌&&◌, cond, Option, Some, None, List, [], ◌∷◌, ◌++◌, drop, take, length, add-one}
use Rattle.std.proofs.Common.{refl, ap, sym, subst, ◌∙◌, arith}
use Rattle.std.specs.Prelude.{slice_get, position}
use Rattle.std.specs.List.{list_any, position_from, slice_index_or}
use Rattle.std.proofs.Math.Seq.{take-suc}
use Rattle.std.proofs.lemmas.List.{map-append, take-append-drop}
use Rattle.std.proofs.lemmas.Iterator.Adapters.{position_from-zero}
use Rattle.std.proofs.lemmas.Bool.{or_parts, or_from, not-true}
use Rattle.fs_model.proofs.Booleans.{and_first, and_second}
use Rattle.fs_model.proofs.Lists.{drop_next}
use Rattle.indexmap.specs.IndexSet.{insert_key}
use Rattle.fs_cut.specs.Paths.{Point}
use Rattle.fs_cut.specs.Covers.{same_point}
use Rattle.search_tables.specs.declared.nodes.SearchNode.{SearchNode as CodeNode}
use Rattle.search_tables.specs.View.{table_in, search_node_in}
use Rattle.search_tables.specs.SearchTables.{SearchNode, Table, Unknown, Known, is_at, target_from}
use Rattle.search_tables.specs.TableInvariants.{nodes_differ}
use Rattle.cert_model.specs.PointKeys.{key_of, same_key}
use Rattle.cert_model.proofs.SameKeys.{same_numbers}
use Rattle.search_closing.specs.NodePlaces.{keys_in, NodeStandsAt}

abbrev key_at : SearchNode → ℕ × ℕ
key_at n = key_of n.left n.right

test_is : (P Q : Point) (n : SearchNode) → same_key (key_of P Q) (key_at n) ≡ is_at P Q n
test_is P Q n = λ k. same_numbers P n.left k && same_numbers Q n.right k

-- ---- a new key

not_later : (test : SearchNode → Bool) (xs rest : List SearchNode) (n : SearchNode) → list_any test (xs ++ n ∷ rest) ≡ false → test n ≡ false
not_later test [] rest n h = (or_parts (test n) (list_any test rest) h).0
not_later test (x ∷ xs) rest n h = not_later test xs rest n (or_parts (test x) (list_any test (xs ++ n ∷ rest)) h).1

is_new : (xs rest : List SearchNode) (n : SearchNode) → nodes_differ (xs ++ n ∷ rest) ≡ true → list_any (same_key (key_at n)) (keys_in xs) ≡ false
is_new [] rest n h = refl
is_new (x ∷ xs) rest n h =
    let any = list_any (λ k. same_point x.left k.left && same_point x.right k.right) (xs ++ n ∷ rest) in
    let apart : is_at n.left n.right x ≡ false = not_later (λ k. same_point x.left k.left && same_point x.right k.right) xs rest n
    (not-true any (and_first (not any) (nodes_differ (xs ++ n ∷ rest)) h)) in
    or_from (same_key (key_at n) (key_at x)) (list_any (same_key (key_at n)) (keys_in xs)) (test_is n.left n.right x ∙ apart)
    (is_new xs rest n (and_second (not any) (nodes_differ (xs ++ n ∷ rest)) h))

-- the keys of nodes and of one more behind them, which stands at other points
pub insert_key_adds_node : (xs rest : List SearchNode) (n : SearchNode) (old new : List (ℕ × ℕ)) → nodes_differ (xs ++ n ∷ rest) ≡ true → old ≡ keys_in xs
    → new ≡ insert_key same_key old (key_at n) → new ≡ keys_in (xs ++ n ∷ [])
insert_key_adds_node xs rest n old new h e i =
    i ∙ ap (λ ks. insert_key same_key ks (key_at n)) e ∙ ap (λ b. cond b (keys_in xs) (keys_in xs ++ key_at n ∷ [])) (is_new xs rest n h)
    ∙ sym (map-append key_at xs (n ∷ []))

-- ---- the place of a key
abbrev StandsFrom : Table → Point → Point → ℕ → Option ℕ → Type 0
StandsFrom T P Q i None = target_from P Q i T ≡ Unknown
StandsFrom T P Q i (Some k) = (p : ℕ) × (k ≡ i + p) × (n : SearchNode) × (slice_get T p ≡ Some n) × (target_from P Q i T ≡ Known k n)

stands_from : (P Q : Point) (i : ℕ) (T : Table) → StandsFrom T P Q i (position_from (same_key (key_of P Q)) i (keys_in T))
stands_from P Q i [] = refl
stands_from P Q i (n ∷ T) =
    let o = position_from (same_key (key_of P Q)) (i + 1) (keys_in T) in
    subst (λ b. StandsFrom (n ∷ T) P Q i (cond b (Some i) o)) (sym (test_is P Q n)) (by_test (is_at P Q n) o refl (stands_from P Q (i + 1) T))
  where
    by_test : (b : Bool) (o : Option ℕ) → is_at P Q n ≡ b → StandsFrom T P Q (i + 1) o → StandsFrom (n ∷ T) P Q i (cond b (Some i) o)
    by_test true o e h = (0, omega arith, n, refl, ap (λ b. cond b (Known i n) (target_from P Q (i + 1) T)) e)
    by_test false None e h = ap (λ b. cond b (Known i n) (target_from P Q (i + 1) T)) e ∙ h
    by_test false (Some k) e h = (suc h.0, omega (arith, h.1), h.2, h.3, ap (λ b. cond b (Known i n) (target_from P Q (i + 1) T)) e ∙ h.4)

from_first : (T : Table) (P Q : Point) (o : Option ℕ) → StandsFrom T P Q 0 o → NodeStandsAt T P Q o
from_first T P Q None h = h
from_first T P Q (Some k) h = let at : h.0 ≡ k = omega (arith, h.1) in (h.2, subst (λ p. slice_get T p ≡ Some h.2) at h.3, h.4)

pub stands : (T : Table) (P Q : Point) (key : ℕ × ℕ) (keys : List (ℕ × ℕ)) (o : Option ℕ) → key ≡ key_of P Q → keys ≡ keys_in T
    → o ≡ position (same_key key) keys → NodeStandsAt T P Q o
stands T P Q key keys o k e h =
    let at : o ≡ position_from (same_key (key_of P Q)) 0 (keys_in T) = h ∙ ap (λ y. position (same_key y) keys) k ∙ ap (position (same_key (key_of P Q))) e
    ∙ position_from-zero (same_key (key_of P Q)) (keys_in T) in
    from_first T P Q o (subst (StandsFrom T P Q 0) (sym at) (stands_from P Q 0 T))

-- ---- the keys along a loop over nodes

next_done : {X : Type 0} (xs : List X) (i : ℕ) (x : X) → i < length xs → x ≡ slice_index_or xs i x → take (i + 1) xs ≡ take i xs ++ x ∷ []
next_done xs i x h e = ap (λ j. take j xs) (add-one i) ∙ take-suc xs i x h ∙ ap (λ y. take i xs ++ y ∷ []) (sym e)

pub key_more : (ns : List CodeNode) (i : ℕ) (n : CodeNode) (key : ℕ × ℕ) (old new : List (ℕ × ℕ)) → i < length ns → n ≡ slice_index_or ns i n
    → nodes_differ (table_in ns) ≡ true → key ≡ key_at (search_node_in n)
    → old ≡ keys_in (table_in (take i ns)) → new ≡ insert_key same_key old key → new ≡ keys_in (table_in (take (i + 1) ns))
key_more ns i n key old new lt e h k o g =
    let split : table_in ns ≡ table_in (take i ns) ++ search_node_in n ∷ table_in (drop (i + 1) ns) =
    ap table_in (sym (take-append-drop i ns)) ∙ map-append search_node_in (take i ns) (drop i ns)
    ∙ ap (λ xs. table_in (take i ns) ++ table_in xs) (drop_next ns i n lt e) in
    let more : table_in (take (i + 1) ns) ≡ table_in (take i ns) ++ search_node_in n ∷ [] = ap table_in (next_done ns i n lt e)
    ∙ map-append search_node_in (take i ns) (n ∷ []) in
    insert_key_adds_node (table_in (take i ns)) (table_in (drop (i + 1) ns)) (search_node_in n) old new (ap nodes_differ (sym split) ∙ h) o
    (g ∙ ap (insert_key same_key old) k) ∙ ap keys_in (sym more)
