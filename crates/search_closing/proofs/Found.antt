-- What is known at the nodes of a closed table.
use Rattle.std.proofs.Common.{◌≡◌, ℕ, zero, suc, ◌<◌, refl, ap, sym, subst, ◌∙◌, arith, Bool, true, List, [], ◌∷◌, length, map, option_map, get_or, Option}
use Rattle.std.proofs.Common.{None, Some, ◌+◌, ◌++◌, drop, append_assoc}
use Rattle.std.specs.Prelude.{slice_get}
use Rattle.std.specs.List.{slice_index_or, list_all}
use Rattle.std.proofs.lemmas.List.{length-map, map-append}
use Rattle.std.proofs.lemmas.Option.{slice_get-map, slice_get_read, slice_get_within, slice_get-get_or}
use Rattle.fs_model.proofs.Lists.{drop_next}
use Rattle.fs_model.proofs.Booleans.{and_first, and_second}
use Rattle.cert_bisimulation.specs.declared.mode.Mode.{Mode}
use Rattle.search_tables.specs.Modes.{Traced, Found}
use Rattle.search_tables.specs.SearchTables.{MachinePair, SearchNode, Table}
use Rattle.search_tables.specs.Next.{mode_at, paths_in, IsClosed}
use Rattle.search_tables.specs.declared.nodes.SearchNode.{SearchNode as CodeNode}
use Rattle.search_tables.specs.View.{table_in, search_node_in}
use Rattle.search_tables.proofs.Closing.{quiet}
use Rattle.search_closing.specs.ClosedModes.{IsWithoutEvent, AreModes}
use Rattle.search_closing.specs.LoneSideMoves.{Keep}

pub found_at : (m : MachinePair) (T : Table) (k : ℕ) (n : SearchNode) → IsClosed m T → slice_get T k ≡ Some n → IsWithoutEvent (mode_at m n)
found_at m T k n closed g = let q = quiet m T k n closed g in subst IsWithoutEvent (sym q.found) tt

pub keep_at : (m : MachinePair) (T : Table) (k : ℕ) (n : SearchNode) (x : Mode) → IsClosed m T → slice_get T k ≡ Some n → mode_at m n ≡ Found x
    → Keep m T n (paths_in m n x)
keep_at m T k n x closed g e =
    let q = quiet m T k n closed g in
    let found : Found q.mode ≡ Found x = sym q.found ∙ e in
    let same : q.mode ≡ x = cc found in
    subst (λ y. Keep m T n (paths_in m n y)) same q.keep

-- what passes for all nodes passes for one
pub passes : (test : SearchNode → Bool) (T : Table) (k : ℕ) (n : SearchNode) → list_all test T ≡ true → slice_get T k ≡ Some n → test n ≡ true
passes test [] k n h g = absurd (cc g)
passes test (x ∷ T) zero n h g = let s : x ≡ n = cc g in ap test (sym s) ∙ and_first (test x) (list_all test T) h
passes test (x ∷ T) (suc k) n h g = passes test T k n (and_second (test x) (list_all test T) h) g

-- the node of a table that is read at a place
pub node_read : (ns : List CodeNode) (k : ℕ) (n : CodeNode) → k < length ns → n ≡ slice_index_or ns k n → slice_get (table_in ns) k ≡ Some (search_node_in n)
node_read ns k n h e = slice_get-map search_node_in ns k ∙ ap (λ o. option_map search_node_in o) (slice_get_read ns (length ns) k n refl h e)

abbrev found : Mode → Traced Mode
found x = Found x

pub same_count : (m : MachinePair) (T : Table) (xs : List Mode) → AreModes m T xs → length xs ≡ length T
same_count m T xs e = sym (length-map xs found) ∙ ap length e ∙ length-map T (mode_at m)

-- the mode of a node that is read at its place
pub mode_read : (m : MachinePair) (T : Table) (xs : List Mode) (k : ℕ) (n : SearchNode) (d : Mode) → AreModes m T xs → slice_get T k ≡ Some n
    → mode_at m n ≡ Found (get_or xs k d)
mode_read m T xs k n d e g =
    let low : k < length xs = omega (arith, same_count m T xs e, slice_get_within T k n g) in
    let a : slice_get (map (mode_at m) T) k ≡ Some (mode_at m n) = slice_get-map (mode_at m) T k ∙ ap (option_map (mode_at m)) g in
    let b : slice_get (map found xs) k ≡ Some (Found (get_or xs k d)) = slice_get-map found xs k ∙ ap (option_map found) (slice_get-get_or xs k d low) in
    let c : slice_get (map found xs) k ≡ slice_get (map (mode_at m) T) k = ap (λ l. slice_get l k) e in
    cc

found_of : (o : Option Mode) (x : Mode) → option_map found o ≡ Some (found x) → o ≡ Some x
found_of None x e = absurd (cc e)
found_of (Some y) x e = cc e

-- the mode that is found at a node stands at its place
pub mode_place : (m : MachinePair) (T : Table) (xs : List Mode) (k : ℕ) (n : SearchNode) (x : Mode) → AreModes m T xs → slice_get T k ≡ Some n
    → mode_at m n ≡ Found x → slice_get xs k ≡ Some x
mode_place m T xs k n x e g f =
    found_of (slice_get xs k) x
    (sym (slice_get-map found xs k) ∙ ap (λ l. slice_get l k) e ∙ slice_get-map (mode_at m) T k ∙ ap (option_map (mode_at m)) g ∙ ap Some f)

-- one more mode, in front of those of the nodes that are left
pub modes_more : (m : MachinePair) (ns : List CodeNode) (old new : List Mode) (i : ℕ) (n : CodeNode) (x : Mode) (whole : List (Traced Mode))
    → i < length ns → n ≡ slice_index_or ns i n → mode_at m (search_node_in n) ≡ Found x → new ≡ old ++ x ∷ []
    → map found old ++ map (mode_at m) (table_in (drop i ns)) ≡ whole → map found new ++ map (mode_at m) (table_in (drop (i + 1) ns)) ≡ whole
modes_more m ns old new i n x whole h at e g w =
    let rest = map (mode_at m) (table_in (drop (i + 1) ns)) in
    ap (λ l. map found l ++ rest) g ∙ ap (λ l. l ++ rest) (map-append found old (x ∷ [])) ∙ append_assoc (map found old) (Found x ∷ []) rest
    ∙ ap (λ y. map found old ++ y ∷ rest) (sym e) ∙ ap (λ l. map found old ++ map (mode_at m) (table_in l)) (sym (drop_next ns i n h at)) ∙ w
