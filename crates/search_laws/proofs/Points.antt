-- The texts of points are read as the points.
use Rattle.std.proofs.Common.{◌≡◌, ℕ, zero, suc, ◌<◌, Bool, true, false, cond, not, List, [], ◌∷◌, length, get_or, Some, Ok, refl, sym, ap, ◌∙◌}
use Rattle.std.specs.Prelude.{◌&&◌, codes, slice_get, option_map}
use Rattle.std.specs.List.{list_any}
use Rattle.std.specs.Str.{bytes_eq}
use Rattle.std.proofs.lemmas.Option.{slice_get-map, slice_get-get_or}
use Rattle.std.proofs.lemmas.Slice.Eq.{bytes_eq-Decides}
use Rattle.std.proofs.lemmas.Bool.{not-true}
use Rattle.fs_model.proofs.Booleans.{and_first, and_second}
use Rattle.fs_model.proofs.Quantifiers.{list_all_at}
use Rattle.fs_model.specs.Machines.{State, Fsmd}
use Rattle.fs_model.specs.Words.{reserved_words, is_reserved, is_name}
use Rattle.fs_ast.specs.Places.{first_place}
use Rattle.fs_model.specs.SoundMachines.{names_differ, IsSound}
use Rattle.fs_ast.specs.StoredBranches.{state_name_of}
use Rattle.fs_cut.specs.Paths.{Point, Start, At, Done, is_point}
use Rattle.fs_cut.proofs.Listed.{fork_state}
use Rattle.cert_bisimulation.specs.Tables.{Node}
use Rattle.sym_facts.specs.Facts.{Fact}
use Rattle.cert_writer.specs.WrittenCertificates.{point_written}
use Rattle.cert_text.specs.CertificateNames.{machine_state_names, state_named}
use Rattle.cert_text.specs.NodePointNames.{then_part, point_named, known_point, cut_point, node_is_at, may_share_points, points_if_free}
use Rattle.cert_text.specs.NodePointNames.{StateTables, points_read}
use Rattle.search_laws.proofs.Lookups.{any_at}
use Rattle.search_laws.proofs.Places.{found_at, parts_of_name}

-- a name is none of the reserved words
unreserved : (x : List ℕ) (k : ℕ) (w : List ℕ) → is_name x ≡ true → slice_get reserved_words k ≡ Some w → bytes_eq x w ≡ false
unreserved x k w h e = by_test (bytes_eq x w) refl
  where
    by_test : (t : Bool) → bytes_eq x w ≡ t → t ≡ false
    by_test true f =
        let g : is_reserved x ≡ true = any_at (bytes_eq x) reserved_words k w e f in
        let n : is_reserved x ≡ false = not-true (is_reserved x) (parts_of_name x h).2 in
        absurd (cc (g, n))
    by_test false f = refl

-- names that differ have one place each
one_number : (ns : List (List ℕ)) (i j : ℕ) (x : List ℕ) → names_differ ns ≡ true → slice_get ns i ≡ Some x → slice_get ns j ≡ Some x → i ≡ j
one_number [] i j x h e f = absurd (cc e)
one_number (n ∷ ns) zero zero x h e f = refl
one_number (n ∷ ns) zero (suc j) x h e f =
    let s : n ≡ x = cc e in
    let again : list_any (λ m. bytes_eq m n) ns ≡ true = any_at (λ m. bytes_eq m n) ns j x f ((bytes_eq-Decides x n).1 (sym s)) in
    let none : list_any (λ m. bytes_eq m n) ns ≡ false = not-true (list_any (λ m. bytes_eq m n) ns)
    (and_first (not (list_any (λ m. bytes_eq m n) ns)) (names_differ ns) h) in
    absurd (cc (again, none))
one_number (n ∷ ns) (suc i) zero x h e f =
    let s : n ≡ x = cc f in
    let again : list_any (λ m. bytes_eq m n) ns ≡ true = any_at (λ m. bytes_eq m n) ns i x e ((bytes_eq-Decides x n).1 (sym s)) in
    let none : list_any (λ m. bytes_eq m n) ns ≡ false = not-true (list_any (λ m. bytes_eq m n) ns)
    (and_first (not (list_any (λ m. bytes_eq m n) ns)) (names_differ ns) h) in
    absurd (cc (again, none))
one_number (n ∷ ns) (suc i) (suc j) x h e f = ap suc (one_number ns i j x (and_second (not (list_any (λ m. bytes_eq m n) ns)) (names_differ ns) h) e f)

module _ (m : Fsmd) (sound : IsSound m) where
  state_at : (q : ℕ) → q < length m.states → slice_get (machine_state_names m) q ≡ Some (state_name_of m q)
  state_at q h = slice_get-map (λ (s : State). s.name) m.states q
      ∙ ap (option_map (λ (s : State). s.name)) (slice_get-get_or m.states q (record { name = []; transitions = [] }) h)

  state_name : (q : ℕ) → q < length m.states → is_name (state_name_of m q) ≡ true
  state_name q h = list_all_at (λ s. is_name s.name) m.states q (get_or m.states q (record { name = []; transitions = [] })) sound.states_named
      (slice_get-get_or m.states q (record { name = []; transitions = [] }) h)

  no_empty : (x : List ℕ) → is_name x ≡ true → state_named m x ≡ first_place (machine_state_names m) x
  no_empty [] h = absurd (cc h)
  no_empty (c ∷ cs) h = refl

  state_again : (q : ℕ) → q < length m.states → state_named m (state_name_of m q) ≡ Some q
  state_again q h =
      no_empty (state_name_of m q) (state_name q h)
      ∙ found_at (machine_state_names m) q (state_name_of m q) (state_at q h)
      (λ j e. one_number (machine_state_names m) j q (state_name_of m q) sound.states_differ e (state_at q h))

  pub point_again : (P : Point) → is_point m P ≡ true → point_named (state_named m) (point_written m P) ≡ Some P
  point_again Start h = refl
  point_again Done h = refl
  point_again (At q) h =
      let there : q < length m.states = fork_state m q h in
      let name : is_name (state_name_of m q) ≡ true = state_name q there in
      ap (λ t. cond t (Some Start) (cond (bytes_eq (state_name_of m q) (codes "done")) (Some Done) (option_map At (state_named m (state_name_of m q)))))
      (unreserved (state_name_of m q) 9 (codes "start") name refl)
      ∙ ap (λ t. cond t (Some Done) (option_map At (state_named m (state_name_of m q)))) (unreserved (state_name_of m q) 10 (codes "done") name refl)
      ∙ ap (option_map At) (state_again q there)

module _ (a b : Fsmd) (left : IsSound a) (right : IsSound b) where
  abbrev pub states : StateTables
  states = record { a = a; b = b; left = state_named a; right = state_named b }

  -- the texts of the points of a node, where no earlier node stands there or one may stand there
  pub points_again : (i format : ℕ) (earlier : List (Node Fact)) (P Q : Point) → is_point a P ≡ true → is_point b Q ≡ true
      → not (may_share_points format) && list_any (node_is_at P Q) earlier ≡ false
      → points_read i format states earlier (point_written a P) (point_written b Q) ≡ Ok (P, Q)
  unfolding points_read
  points_again i format earlier P Q p q free =
      ap
      (λ o. then_part (known_point i o)
      (λ X. then_part (known_point i (point_named (state_named b) (point_written b Q)))
      (λ Y. then_part (cut_point i a X) (λ R. then_part (cut_point i b Y) (λ S. points_if_free i format earlier R S))))) (point_again a left P p)
      ∙ ap (λ o. then_part (known_point i o) (λ Y. then_part (cut_point i a P) (λ R. then_part (cut_point i b Y) (λ S. points_if_free i format earlier R S))))
      (point_again b right Q q)
      ∙ rw (p, q, free) refl
