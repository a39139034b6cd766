-- What the line of an obstacle names is there.
use Rattle.std.proofs.Common.{◌≡◌, inl, inr, ℕ, zero, suc, ◌+◌, ◌-◌, refl, sym, ◌∙◌, ap, subst, arith, Bool, true, false, cond, List, [], ◌∷◌, ◌++◌, length}
use Rattle.std.proofs.Common.{map, Option, Some, None}
use Rattle.std.proofs.lemmas.Option.{slice_get-map}
use Rattle.std.specs.Prelude.{slice_get}
use Rattle.std.specs.List.{AllByRecursion, position_from}
use Rattle.std.specs.Option.{option_map, option_or}
use Rattle.std.specs.Str.{bytes_eq}
use Rattle.fs_model.proofs.Quantifiers.{each_weaker}
use Rattle.fs_model.specs.SoundMachines.{IsSound}
use Rattle.fs_model.specs.declared.parts.VarInfo.{VarInfo}
use Rattle.fs_model.specs.Runs.{is_output}
use Rattle.fs_cut.specs.Paths as cut
use Rattle.fs_pair.specs.PairedOutputs.{OutputPair, output_pairs}
use Rattle.nf_terms.specs.declared.form.Nf.{Nf}
use Rattle.fs_model.specs.declared.sides.Pos.{Pos}
use Rattle.fs_model.specs.declared.sides.Side.{Side}
use Rattle.sym_paths.specs.Execution.{end_of, arrive}
use Rattle.sym_facts.specs.Facts.{Fact, vector_of}
use Rattle.cert_model.specs.Obligations.{same_forms}
use Rattle.search_tables.specs.declared.moves.Move.{Move}
use Rattle.search_tables.specs.SearchTables.{MachinePair, positions_of, SearchNode, Table, first_table, is_at, with_fact}
use Rattle.search_tables.specs.Next.{Change, next_move}
use Rattle.search_tables.specs.Legal.{Difference, first_differing, output_at, difference_among, difference_in, MovesLead, Makes}
use Rattle.search_tables.specs.LoneMoves.{Spins}
use Rattle.search_tables.specs.Obstacles.{Obstacle, Stuck, Spin, Wide, Large, Exhausted, StandsIn}
use Rattle.search_tables.specs.View.{Points, points_at}
use Rattle.search_tables.proofs.Changing.{next_does, arrives_so}
use Rattle.search_tables.proofs.Forming.{known_in, well_formed}
use Rattle.fsmd_pair_answers.specs.PairAnswerLaws.{IsThere, LastIsThere, FirstIsThere, NamedAreThere, LinesNameWhatIsThere}
use Rattle.fsmd_pair_answers.proofs.Branches.{moved, Goes, next_goes}

-- ---- points stay
abbrev pub StandsAt : Table → ℕ → Points → Type 0
StandsAt T k n = slice_get (map points_at T) k ≡ Some n

stays_before : (T ns : Table) (k : ℕ) (n : Points) → StandsAt T k n → StandsAt (T ++ ns) k n
stays_before [] ns k n e = absurd (cc e)
stays_before (a ∷ T) ns zero n e = e
stays_before (a ∷ T) ns (suc k) n e = stays_before T ns k n e

stays_beside : (T : Table) (j k : ℕ) (a : SearchNode) (f : Fact) (n : Points) → slice_get T j ≡ Some a → StandsAt T k n → StandsAt (with_fact T j a f) k n
stays_beside [] j k a f n i e = absurd (cc i)
stays_beside (b ∷ T) zero zero a f n i e = let s : b ≡ a = cc i in subst (λ (x : SearchNode). Some (points_at x) ≡ Some n) s e
stays_beside (b ∷ T) zero (suc k) a f n i e = e
stays_beside (b ∷ T) (suc j) zero a f n i e = e
stays_beside (b ∷ T) (suc j) (suc k) a f n i e = stays_beside T j k a f n i e

next_keeps : (m : MachinePair) (T U : Table) (y : Move) (k : ℕ) (n : Points) → next_move m T ≡ Change y U → StandsAt T k n → StandsAt U k n
next_keeps m T U y k n h e =
    let d = next_does m T U y h in
    let P = end_of d.node.left d.paths.left in
    let Q = end_of d.node.right d.paths.right in
    let a = arrives_so (positions_of m) T U P Q
    (arrive m.left m.right d.node.fact.literals (vector_of d.node.fact.positions) d.paths.left d.paths.right) d.does in
    elim a.changes as (λ _. StandsAt U k n) [
      | inl x ↦ subst (λ V. StandsAt V k n) x.is (stays_before T (record { left = P; right = Q; fact = x.fact } ∷ []) k n e)
      | inr x ↦
          let j = known_in P Q 0 T x.number x.node x.target in
          let at : x.number ≡ j.0 = omega (arith, j.1) in
          let is_in : slice_get T x.number ≡ Some x.node = ap (slice_get T) at ∙ j.2 in
          subst (λ V. StandsAt V k n) x.is (stays_beside T x.number k x.node x.fact n is_in e)
    ]

-- ---- the last move
record Last (m : MachinePair) (S : Table) (moves : List Move) (T : Table) : Type 0 where
  pub front : List Move
  pub move : Move
  pub table : Table
  pub before : MovesLead m S front table
  pub changes : next_move m table ≡ Change move T
  pub is_last : slice_get moves (length moves - 1) ≡ Some move

last_of : (m : MachinePair) (x : Move) (xs : List Move) (S T : Table) → MovesLead m S (x ∷ xs) T → Last m S (x ∷ xs) T
last_of m x [] S T h = record { front = []; move = x; table = S; before = refl; changes = h.2 ∙ ap (Change x) h.3; is_last = refl }
last_of m x (y ∷ ys) S T h =
    let r = last_of m y ys h.0 T h.3 in
    let count : length (x ∷ y ∷ ys) - 1 ≡ suc (length (y ∷ ys) - 1) = omega arith in
    record {
      front = x ∷ r.front;
      move = r.move;
      table = r.table;
      before = (h.0, h.1, h.2, r.before);
      changes = r.changes;
      is_last = ap (slice_get (x ∷ y ∷ ys)) count ∙ r.is_last;
    }

-- ---- the output
record Within (x : ℕ) (vs : List VarInfo) (o : OutputPair) : Type 0 where
  pub place : ℕ
  pub at : o.left ≡ x + place
  pub variable : VarInfo
  pub is_in : slice_get vs place ≡ Some variable
  pub has_role : is_output variable.role ≡ true

one_behind : (x : ℕ) (v : VarInfo) (vs : List VarInfo) (o : OutputPair) → Within (x + 1) vs o → Within x (v ∷ vs) o
one_behind x v vs o h = record { place = suc h.place; at = omega (arith, h.at); variable = h.variable; is_in = h.is_in; has_role = h.has_role }

pairs_within : (x : ℕ) (vs rights : List VarInfo) → AllByRecursion (Within x vs) (output_pairs x vs rights)
pairs_within x [] rights = tt
pairs_within x (v ∷ vs) rights =
    by_test (is_output v.role) refl
    (each_weaker (Within (x + 1) vs) (Within x (v ∷ vs)) (output_pairs (x + 1) vs rights) (one_behind x v vs) (pairs_within (x + 1) vs rights))
  where
    by_test : (b : Bool) → is_output v.role ≡ b → AllByRecursion (Within x (v ∷ vs)) (output_pairs (x + 1) vs rights)
        → AllByRecursion (Within x (v ∷ vs))
        (cond b (record { left = x; sort = v.sort; right = position_from (λ u. bytes_eq u.name v.name) 0 rights } ∷ output_pairs (x + 1) vs rights)
        (output_pairs (x + 1) vs rights))
    by_test true t rest = (record { place = 0; at = omega arith; variable = v; is_in = refl; has_role = t }, rest)
    by_test false t rest = rest

-- an output of these variables
record HasOutput (vs : List VarInfo) (x : ℕ) : Type 0 where
  pub variable : VarInfo
  pub is_in : slice_get vs x ≡ Some variable
  pub has_role : is_output variable.role ≡ true

output_of_pair : (vs : List VarInfo) (o : OutputPair) (x : ℕ) → o.left ≡ x → Within 0 vs o → HasOutput vs x
output_of_pair vs o x e h =
    let at : x ≡ h.place = omega (arith, e, h.at) in
    record { variable = h.variable; is_in = ap (slice_get vs) at ∙ h.is_in; has_role = h.has_role }

differing_within : (v : List (Pos × Nf)) (vs : List VarInfo) (os : List OutputPair) (x : ℕ) → AllByRecursion (Within 0 vs) os → first_differing v os ≡ Some x
    → HasOutput vs x
differing_within v vs [] x all e = absurd (cc e)
differing_within v vs (o ∷ os) x all e = by_test (same_forms v o.sort o.left o.right) e (λ g. differing_within v vs os x all.1 g)
  where
    by_test : (b : Bool) → cond b (first_differing v os) (Some o.left) ≡ Some x → (first_differing v os ≡ Some x → HasOutput vs x) → HasOutput vs x
    by_test true g again = again g
    by_test false g again = let s : o.left ≡ x = cc g in output_of_pair vs o x s all.0

same_output : (d f : Difference) → Some d ≡ Some f → d.output ≡ f.output
same_output d f e = let s : d ≡ f = cc e in ap (λ (x : Difference). x.output) s

module _ (m : MachinePair) where
  output_within : (n : SearchNode) (x : ℕ) → output_at m n ≡ Some x → HasOutput m.left.variables x
  output_within n x e = by_test (is_at cut.Done cut.Done n) e
    where
      by_test : (b : Bool) → cond b (first_differing (vector_of n.fact.positions) (output_pairs 0 m.left.variables m.right.variables)) None ≡ Some x
          → HasOutput m.left.variables x
      by_test true g = differing_within (vector_of n.fact.positions) m.left.variables (output_pairs 0 m.left.variables m.right.variables) x
          (pairs_within 0 m.left.variables m.right.variables) g
      by_test false g = absurd (cc g)

  stuck_within : (i : ℕ) (ns : List SearchNode) (k x : ℕ) → difference_among m i ns ≡ Some (record { node = k; output = x }) → HasOutput m.left.variables x
  stuck_within i [] k x e = absurd (cc e)
  stuck_within i (n ∷ ns) k x e = by_output (output_at m n) refl e (λ g. stuck_within (i + 1) ns k x g)
    where
      by_output : (o : Option ℕ) → output_at m n ≡ o → option_or (option_map (λ y. record { node = i; output = y }) o) (difference_among m (i + 1) ns)
          ≡ Some (record { node = k; output = x })
          → (difference_among m (i + 1) ns ≡ Some (record { node = k; output = x }) → HasOutput m.left.variables x) → HasOutput m.left.variables x
      by_output None q g again = again g
      by_output (Some y) q g again = output_within n x (q ∙ ap Some (same_output (record { node = i; output = y }) (record { node = k; output = x }) g))

  -- ---- what is named
  goes_there : (T : Table) (y : Move) → Goes m T 0 y → IsThere m (map points_at T) y
  goes_there T y g =
      let at : y.node ≡ g.place = omega (arith, g.number) in
      record {
        node = points_at g.node;
        is_in = ap (slice_get (map points_at T)) at ∙ slice_get-map points_at T g.place ∙ ap (option_map points_at) g.is_in;
        left = g.paths.0;
        right = g.paths.1;
      }

  module _ (sound_left : IsSound m.left) (sound_right : IsSound m.right) where
    next_there : (moves : List Move) (T : Table) (y : Move) → Makes m moves T → moved (next_move m T) ≡ Some y → IsThere m (map points_at T) y
    next_there moves T y h e = goes_there T y (next_goes m sound_left sound_right T y (well_formed m sound_left sound_right moves T h).points e)

    last_there : (moves : List Move) (T : Table) (k x : ℕ) → Makes m moves T → difference_in m T ≡ Some (record { node = k; output = x })
        → LastIsThere m moves (map points_at T) x
    last_there [] T k x h e = absurd (let none : difference_in m T ≡ None = ap (difference_in m) (sym h.lead) in cc (none, e))
    last_there (y ∷ ys) T k x h e =
        let r = last_of m y ys (first_table m) T h.lead in
        let t = next_there r.front r.table r.move (record { lead = r.before }) (ap moved r.changes) in
        let output_there : HasOutput m.left.variables x = stuck_within 0 T k x e in
        record {
          move = r.move;
          is_last = r.is_last;
          there = record { node = t.node; is_in = next_keeps m r.table T r.move r.move.node t.node r.changes t.is_in; left = t.left; right = t.right };
          variable = output_there.variable;
          is_in = output_there.is_in;
          has_role = output_there.has_role;
        }

    first_there : (T : Table) (d : Side) (cycle : List ℕ) → Spins m T d cycle → FirstIsThere (map points_at T) cycle
    first_there T d [] h = absurd h.follow
    first_there T d (k ∷ ks) h = record {
      first = k;
      is_first = refl;
      node = points_at h.alone.0.node;
      is_in = slice_get-map points_at T k ∙ ap (option_map points_at) h.alone.0.is_in;
    }

    named_in : (moves : List Move) (T : Table) (o : Obstacle) → Makes m moves T → StandsIn m T o → NamedAreThere m moves (map points_at T) o
    named_in moves T (Stuck k x) h s = last_there moves T k x h s
    named_in moves T (Spin d cycle) h s = first_there T d cycle s.2
    named_in moves T (Wide at) h s = next_there moves T at h (ap moved s.3)
    named_in moves T (Large at) h s = next_there moves T at h (ap moved s.3)
    named_in moves T (Exhausted at what) h s = tt

pub named_are_there : LinesNameWhatIsThere
named_are_there m sound_left sound_right moves points o h =
    subst (λ ps. NamedAreThere m moves ps o) h.points_are (named_in m sound_left sound_right moves h.table o h.makes h.stands)
