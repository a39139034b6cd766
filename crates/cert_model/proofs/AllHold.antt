-- Where all obligations hold, the nodes lead on, and so the machines have the same behaviour.
use Rattle.std.proofs.Common.{◌≡◌, ℕ, zero, suc, ◌+◌, ◌<◌, cond, Bool, true, false, arith, refl, ap, sym, subst, ◌∙◌, List, [], ◌∷◌, ◌++◌, map, length, Option}
use Rattle.std.proofs.Common.{Some, None, inl, inr}
use Rattle.std.specs.Prelude.{◌≢◌, ◌⊎◌, not, ◌&&◌, ◌||◌, nat_lt, slice_get, Contains}
use Rattle.std.specs.List.{list_all, flat_map, slice_index_or, AllByRecursion}
use Rattle.std.proofs.lemmas.Bool.Decides.{nat_tests}
use Rattle.std.proofs.lemmas.Bool.{and_from}
use Rattle.fs_model.proofs.Booleans.{and_first, and_second, true_and_false}
use Rattle.fs_model.specs.SoundMachines.{IsSound}
use Rattle.fs_model.specs.declared.parts.Sort.{Sort}
use Rattle.fs_model.specs.declared.parts.Sort.TheVariants as sort
use Rattle.fs_model.specs.Machines.{Fsmd}
use Rattle.fs_model.specs.Stores.{Store}
use Rattle.fs_model.specs.Runs.{Inputs, start, content, SameBehaviour}
use Rattle.fs_model.specs.Runs as runs
use Rattle.sym_facts.specs.Interfaces.{interface_fault}
use Rattle.sym_facts.specs.PairedOutputs.{OutputPair, output_pairs, AgreeOnOutput}
use Rattle.sym_facts.specs.Positions.{positions}
use Rattle.sym_facts.proofs.SameOutputs.{same_outputs}
use Rattle.fs_cut.specs.Paths.{Point, Start, Done, Path, IsPath, is_point}
use Rattle.fs_cut.specs.Covers.{paths_of, same_point}
use Rattle.fs_cut.proofs.Listed.{path_is_listed, same_is}
use Rattle.cert_bisimulation.specs.declared.mode.Mode.{Mode}
use Rattle.cert_bisimulation.specs.declared.mode.Mode.TheVariants.{Both, Left, Right, End}
use Rattle.cert_bisimulation.specs.Tables.{Node, Stands, Owes, LeadsOn}
use Rattle.cert_bisimulation.proofs.Nodes.{same_behaviour}
use Rattle.nf_terms.specs.TermMeaning.{Valuation, value_of, contents, items_in}
use Rattle.nf_terms.specs.Computed.{Wide, Large}
use Rattle.nf_terms.specs.Computed as computed
use Rattle.fs_model.specs.declared.sides.Side.{Side}
use Rattle.fs_model.specs.declared.sides.Side.TheVariants as side
use Rattle.fs_model.specs.declared.sides.Pos.{Pos}
use Rattle.nf_terms.specs.declared.form.Nf.{Nf}
use Rattle.sym_facts.proofs.Values.{goes_done}
use Rattle.nf_vectors.specs.Vectors.{number_at, array_form, list_at, vector_meaning}
use Rattle.sym_facts.specs.Literals.{all_true_in, is_refuted}
use Rattle.sym_facts.proofs.Truth.{refuted_false}
use Rattle.sym_facts.specs.ValuationStores.{at, store_on, choose_side, pair}
use Rattle.sym_facts.specs.Execution.{Post, arrive, takes_if, effect_if, end_of}
use Rattle.sym_facts.proofs.Arrivals.{Arrived, arrived}
use Rattle.sym_facts.specs.Facts.{FactPosition, Fact, vector_of, EquationsHold, HoldsIn, Holds}
use Rattle.sym_facts.specs.Entailment.{entails}
use Rattle.sym_facts.specs.Starts.{start_fact}
use Rattle.sym_facts.proofs.FactVectors.{valuation_ext, vector_means}
use Rattle.sym_facts.proofs.Entailing.{numbers_equal, arrays_equal, lists_equal, entailed}
use Rattle.sym_facts.proofs.StartHolds.{start_holds}
use Rattle.cert_model.specs.declared.reason.Reason.{Reason}
use Rattle.cert_model.specs.declared.reason.Reason.TheVariants as reason
use Rattle.cert_model.specs.Obligations.{Judged, nodes_at, or_else, one_of, first_missing, same_alone, rank_falls, judge_target, reaches, judge_start}
use Rattle.cert_model.specs.Obligations.{judge_move, is_done, mode_fits}
use Rattle.cert_model.specs.Obligations.{same_forms, judge_output, moves_by, owed_by, obligations, Verdict, Yes, verdict_by, verdict_from, verdict}
use Rattle.cert_model.specs.Lawful.{IsLawful}

-- ---- all obligations of a list hold
abbrev AllHold : List Judged → Type 0
AllHold [] = Unit {0}
AllHold (r ∷ rs) = (r ≡ computed.Done None) × AllHold rs

yes_by : (k : ℕ) (r : Judged) (later : Verdict) → verdict_by k r later ≡ Yes → (r ≡ computed.Done None) × (later ≡ Yes)
yes_by k (computed.Done None) later e = (refl, e)
yes_by k (computed.Done (Some x)) later e = absurd (cc e)
yes_by k (Wide l r) later e = absurd (cc e)
yes_by k (Large l r) later e = absurd (cc e)

all_hold : (k : ℕ) (rs : List Judged) → verdict_from k rs ≡ Yes → AllHold rs
all_hold k [] e = tt
all_hold k (r ∷ rs) e = let s = yes_by k r (verdict_from (k + 1) rs) e in (s.0, all_hold (k + 1) rs s.1)

front_holds : (xs ys : List Judged) → AllHold (xs ++ ys) → AllHold xs
front_holds [] ys h = tt
front_holds (x ∷ xs) ys h = (h.0, front_holds xs ys h.1)

back_holds : (xs ys : List Judged) → AllHold (xs ++ ys) → AllHold ys
back_holds [] ys h = h
back_holds (x ∷ xs) ys h = back_holds xs ys h.1

part_holds : {X : Type 0} (f : X → List Judged) (xs : List X) (k : ℕ) (x : X) → AllHold (flat_map f xs) → slice_get xs k ≡ Some x → AllHold (f x)
part_holds f [] k x h e = absurd (cc e)
part_holds f (y ∷ xs) zero x h e = let s : y ≡ x = cc e in subst (λ z. AllHold (f z)) s (front_holds (f y) (flat_map f xs) h)
part_holds f (y ∷ xs) (suc k) x h e = part_holds f xs k x (back_holds (f y) (flat_map f xs) h) e

-- an element of a list by its place
at_place : {X : Type 0} (xs : List X) (k : ℕ) (x : X) → k < length xs → slice_index_or xs k x ≡ x → slice_get xs k ≡ Some x
at_place [] k x h e = absurd (omega arith)
at_place (y ∷ xs) zero x h e = ap Some e
at_place (y ∷ xs) (suc k) x h e = at_place xs k x (omega arith) e

one_holds : {X : Type 0} (f : X → Judged) (xs : List X) (k : ℕ) (x : X) → AllHold (map f xs) → slice_get xs k ≡ Some x → f x ≡ computed.Done None
one_holds f [] k x h e = absurd (cc e)
one_holds f (y ∷ xs) zero x h e = let s : y ≡ x = cc e in subst (λ z. f z ≡ computed.Done None) s h.0
one_holds f (y ∷ xs) (suc k) x h e = one_holds f xs k x h.1 e

-- ---- points
not_done : (P : Point) → not (is_done P) ≡ true → P ≢ Done
not_done P h e = let k : not (is_done Done) ≡ true = subst (λ Q. not (is_done Q) ≡ true) e h in cc k

done_is : (P : Point) → is_done P ≡ true → P ≡ Done
done_is P h = same_is P Done h

-- ---- one of the nodes at two points
one_holds_of : (first later : Judged) → or_else first later ≡ computed.Done None → (first ≡ computed.Done None) ⊎ (later ≡ computed.Done None)
one_holds_of (computed.Done None) later e = inl refl
one_holds_of (computed.Done (Some r)) (computed.Done None) e = inr refl
one_holds_of (computed.Done (Some r)) (computed.Done (Some x)) e = absurd (cc e)
one_holds_of (computed.Done (Some r)) (Wide w v) e = absurd (cc e)
one_holds_of (computed.Done (Some r)) (Large w v) e = absurd (cc e)
one_holds_of (Wide w v) later e = absurd (cc e)
one_holds_of (Large w v) later e = absurd (cc e)

-- a node at two points, of which something holds
record NodeFound (ns : List (Node Fact)) (P Q : Point) (judge : Node Fact → Judged) : Type 0 where
  node : Node Fact
  place : ℕ
  is_in : slice_get ns place ≡ Some node
  at_left : node.left ≡ P
  at_right : node.right ≡ Q
  holds : judge node ≡ computed.Done None

module _ (none : Reason) (judge : Node Fact → Judged) (P Q : Point) where
  further : (n : Node Fact) (ns : List (Node Fact)) → NodeFound ns P Q judge → NodeFound (n ∷ ns) P Q judge
  further n ns f =
      record { node = f.node; place = suc f.place; is_in = f.is_in; at_left = f.at_left; at_right = f.at_right; holds = f.holds }

  node_found : (ns : List (Node Fact)) → one_of none (map judge (nodes_at ns P Q)) ≡ computed.Done None → NodeFound ns P Q judge
  node_found [] e = absurd (cc e)
  node_found (n ∷ ns) e = step (same_point n.left P && same_point n.right Q) refl e (λ g. further n ns (node_found ns g))
    where
      step : (b : Bool) → same_point n.left P && same_point n.right Q ≡ b
          → one_of none (map judge (cond b (n ∷ nodes_at ns P Q) (nodes_at ns P Q))) ≡ computed.Done None
          → (one_of none (map judge (nodes_at ns P Q)) ≡ computed.Done None → NodeFound (n ∷ ns) P Q judge) → NodeFound (n ∷ ns) P Q judge
      step true h g again = elim (one_holds_of (judge n) (one_of none (map judge (nodes_at ns P Q))) g) [
        | inl x ↦ record {
          node = n;
          place = 0;
          is_in = refl;
          at_left = same_is n.left P (and_first (same_point n.left P) (same_point n.right Q) h);
          at_right = same_is n.right Q (and_second (same_point n.left P) (same_point n.right Q) h);
          holds = x;
        }
        | inr x ↦ again x
      ]
      step false h g again = again g

-- ---- entailment
record NoneMissing (es ls : List ℕ) (falls : Bool) : Type 0 where
  equations : es ≡ []
  literals : ls ≡ []
  falls_true : falls ≡ true

none_missing : (es ls : List ℕ) (falls : Bool) → first_missing es ls falls ≡ None → NoneMissing es ls falls
none_missing (k ∷ es) ls falls e = absurd (cc e)
none_missing [] (k ∷ ls) falls e = absurd (cc e)
none_missing [] [] true e = record { equations = refl; literals = refl; falls_true = refl }
none_missing [] [] false e = absurd (cc e)

-- a target that is reached holds
record Reached (ns : List (Node Fact)) (P Q : Point) (falls : Node Fact → Bool) (post : Post) (w : Valuation) : Type 0 where
  found : NodeFound ns P Q (λ t. judge_target post t (falls t))
  holds_in : HoldsIn (vector_meaning post.vector w) found.node.fact
  falls_true : falls found.node ≡ true

reached : (none : Reason) (ns : List (Node Fact)) (P Q : Point) (falls : Node Fact → Bool) (post : Post) (w : Valuation)
    → reaches none (nodes_at ns P Q) falls post ≡ computed.Done None → all_true_in w post.conditions ≡ true → Reached ns P Q falls post w
reached none ns P Q falls post w e c =
    let f = node_found none (λ t. judge_target post t (falls t)) P Q ns e in
    let t = f.node in
    let s = goes_done (entails post t.fact) (λ m. computed.Done (first_missing m.equations m.literals (falls t))) None f.holds in
    let k : first_missing s.middle.equations s.middle.literals (falls t) ≡ None = cc s.next in
    let m = none_missing s.middle.equations s.middle.literals (falls t) k in
    record { found = f; holds_in = entailed w post t.fact s.middle s.first m.equations m.literals c; falls_true = m.falls_true }

-- ---- a pair of stores
pair_of : (v : Valuation) (s u : Store) → store_on side.Left v ≡ s → store_on side.Right v ≡ u → v ≡ pair s u
pair_of v s u e f = valuation_ext v (pair s u) (λ p. scalars p.side p.var) (λ p. arrays p.side p.var) (λ p. lists p.side p.var)
  where
    scalars : (d : Side) (x : ℕ) → v.scalar (at d x) ≡ (choose_side d s u).scalar x
    scalars side.Left x = ap (λ z. z.scalar x) e
    scalars side.Right x = ap (λ z. z.scalar x) f

    arrays : (d : Side) (x : ℕ) → v.array (at d x) ≡ (choose_side d s u).array x
    arrays side.Left x = ap (λ z. z.array x) e
    arrays side.Right x = ap (λ z. z.array x) f

    lists : (d : Side) (x : ℕ) → v.list (at d x) ≡ (choose_side d s u).port x
    lists side.Left x = ap (λ z. z.port x) e
    lists side.Right x = ap (λ z. z.port x) f

-- ---- a move
cond_none : (b : Bool) (r : Judged) → b ≡ false → cond b (computed.Done None) r ≡ computed.Done None → r ≡ computed.Done None
cond_none true r e h = absurd (cc e)
cond_none false r e h = h

not_refuted : (b t : Bool) → t ≡ true → (b ≡ true → t ≡ false) → b ≡ false
not_refuted true t e h = absurd (true_and_false t e (h refl))
not_refuted false t e h = refl

record Leads (a b : Fsmd) (ns : List (Node Fact)) (n : Node Fact) (left right : Option Path) (s u : Store) : Type 0 where
  to : Stands Holds ns (end_of n.left left) (end_of n.right right) (effect_if a left s) (effect_if b right u)
  falls : rank_falls n to.node ≡ true

move_leads : (a b : Fsmd) (ns : List (Node Fact)) (n : Node Fact) (left right : Option Path) (s u : Store) → judge_move a b ns n left right ≡ computed.Done None
    → Holds n.fact s u → takes_if a left s ≡ true → takes_if b right u ≡ true → Leads a b ns n left right s u
move_leads a b ns n left right s u e h p q =
    let w = pair s u in
    let v = vector_of n.fact.positions in
    let P = end_of n.left left in
    let Q = end_of n.right right in
    let x = goes_done (arrive a b n.fact.literals v left right)
    (λ post. cond (is_refuted post.conditions) (computed.Done None) (reaches reason.NoTarget (nodes_at ns P Q) (rank_falls n) post)) None e in
    let post = x.middle in
    let r : Arrived a b n.fact.literals v left right w post = arrived a b n.fact.literals v left right post w x.first in
    let own : vector_meaning v w ≡ w = vector_means w n.fact.positions h.equations in
    let pl : takes_if a left (store_on side.Left (vector_meaning v w)) ≡ true = ap (λ z. takes_if a left (store_on side.Left z)) own ∙ p in
    let qr : takes_if b right (store_on side.Right (vector_meaning v w)) ≡ true = ap (λ z. takes_if b right (store_on side.Right z)) own ∙ q in
    let c : all_true_in w post.conditions ≡ true = r.true_where ∙ and_from _ _ h.literals (and_from _ _ pl qr) in
    let t = reached reason.NoTarget ns P Q (rank_falls n) post w
    (cond_none (is_refuted post.conditions) _
    (not_refuted (is_refuted post.conditions) (all_true_in w post.conditions) c (refuted_false w post.conditions)) x.next) c in
    let le : store_on side.Left (vector_meaning post.vector w) ≡ effect_if a left s = r.left_end ∙ ap (λ z. effect_if a left (store_on side.Left z)) own in
    let re : store_on side.Right (vector_meaning post.vector w) ≡ effect_if b right u = r.right_end ∙ ap (λ z. effect_if b right (store_on side.Right z)) own in
    let both : vector_meaning post.vector w ≡ pair (effect_if a left s) (effect_if b right u) =
    pair_of (vector_meaning post.vector w) (effect_if a left s) (effect_if b right u) le re in
    record {
      to = record {
        node = t.found.node;
        place = t.found.place;
        is_in = t.found.is_in;
        at_left = t.found.at_left;
        at_right = t.found.at_right;
        holds_of = subst (λ z. HoldsIn z t.found.node.fact) both t.holds_in;
      };
      falls = t.falls_true;
    }

-- ---- ranks
falls_by : (m k : Mode) (j r : ℕ) → same_alone m m ≡ true → not (same_alone m k) || nat_lt j r ≡ true → k ≡ m → j < r
falls_by m k j r a h e =
    let b : same_alone m k ≡ true = ap (same_alone m) e ∙ a in
    let c : nat_lt j r ≡ true = ap (λ t. not t || nat_lt j r) (sym b) ∙ h in
    grind (arith, nat_tests)

alone : (m : Mode) (k : Mode) → m ≡ k → same_alone k k ≡ true → same_alone m m ≡ true
alone m k e h = ap (λ z. same_alone z z) e ∙ h

-- ---- outputs
given_none : (b : Bool) (r : Reason) → computed.Done (cond b None (Some r)) ≡ computed.Done None → b ≡ true
given_none true r e = refl
given_none false r e = absurd (cc e)

contents_agree : (w : Valuation) (v : List (Pos × Nf)) → vector_meaning v w ≡ w → (σ : Sort) (x z : ℕ) → same_forms v σ x (Some z) ≡ true
    → content σ x (store_on side.Left w) ≡ content σ z (store_on side.Right w)
contents_agree w v own sort.Scalar x z f =
    ap runs.Number
    (sym (ap (λ (m : Valuation). m.scalar (at side.Left x)) own)
    ∙ ap (value_of w) (numbers_equal (number_at v (at side.Left x)) (number_at v (at side.Right z)) f) ∙ ap (λ (m : Valuation). m.scalar (at side.Right z)) own)
contents_agree w v own sort.Array x z f =
    ap runs.Entries
    (sym (ap (λ (m : Valuation). m.array (at side.Left x)) own)
    ∙ ap (contents w) (arrays_equal (array_form v (at side.Left x)) (array_form v (at side.Right z)) f) ∙ ap (λ (m : Valuation). m.array (at side.Right z)) own)
contents_agree w v own sort.Port x z f =
    ap runs.Emitted
    (sym (ap (λ (m : Valuation). m.list (at side.Left x)) own) ∙ ap (items_in w) (lists_equal (list_at v (at side.Left x)) (list_at v (at side.Right z)) f)
    ∙ ap (λ (m : Valuation). m.list (at side.Right z)) own)

forms_agree : (s u : Store) (ps : List FactPosition) (σ : Sort) (x : ℕ) (o : Option ℕ) (y : ℕ) → EquationsHold (pair s u) ps → o ≡ Some y
    → same_forms (vector_of ps) σ x o ≡ true → content σ x s ≡ content σ y u
forms_agree s u ps σ x None y h e f = absurd (cc e)
forms_agree s u ps σ x (Some z) y h e f =
    let yz : z ≡ y = cc e in
    contents_agree (pair s u) (vector_of ps) (vector_means (pair s u) ps h) σ x z f ∙ ap (λ t. content σ t u) yz

each_agrees : (n : Node Fact) (s u : Store) (os : List OutputPair) → Holds n.fact s u → AllHold (map (judge_output n) os)
    → AllByRecursion (AgreeOnOutput s u) os
each_agrees n s u [] h g = tt
each_agrees n s u (o ∷ os) h g = (
  λ y e. forms_agree s u n.fact.positions o.sort o.left o.right y h.equations e
      (given_none (same_forms (vector_of n.fact.positions) o.sort o.left o.right) (reason.Output o.left) g.0),
  each_agrees n s u os h g.1,
)

-- ---- all nodes
module _ (a b : Fsmd) (sound_a : IsSound a) (sound_b : IsSound b) (matched : interface_fault a b ≡ None) (ns : List (Node Fact)) where
  listed_at : (m : Fsmd) → IsSound m → (P : Point) (p : Path) → IsPath m p → p.from ≡ P → Contains (paths_of m P) p
  listed_at m sound P p v e = subst (λ X. Contains (paths_of m X) p) e (path_is_listed m p sound v)

  owes_by : (n : Node Fact) (m : Mode) → n.mode ≡ m → mode_fits m n.left n.right ≡ true → AllHold (moves_by m a b ns n) → Owes Holds a b ns n m
  owes_by n Both em fits h = (
    not_done n.left (and_first (not (is_done n.left)) (not (is_done n.right)) fits),
    not_done n.right (and_second (not (is_done n.left)) (not (is_done n.right)) fits),
    λ p q vp vq ep eq.
        let x = listed_at a sound_a n.left p vp ep in
        let y = listed_at b sound_b n.right q vq eq in
        let f = λ (r : Path). map (λ (t : Path). judge_move a b ns n (Some r) (Some t)) (paths_of b n.right) in
        let g = part_holds f (paths_of a n.left) x.0 p h (at_place (paths_of a n.left) x.0 p x.1 x.2) in
        let e = one_holds (λ (t : Path). judge_move a b ns n (Some p) (Some t)) (paths_of b n.right) y.0 q g (at_place (paths_of b n.right) y.0 q y.1 y.2) in
        record { leads = λ s u hs tp tq. (move_leads a b ns n (Some p) (Some q) s u e hs tp tq).to },
  )
  owes_by n Left em fits h = (
    not_done n.left fits,
    λ p vp ep.
        let x = listed_at a sound_a n.left p vp ep in
        let e = one_holds (λ (t : Path). judge_move a b ns n (Some t) None) (paths_of a n.left) x.0 p h (at_place (paths_of a n.left) x.0 p x.1 x.2) in
        record {
          leads = λ s u hs tp. let l = move_leads a b ns n (Some p) None s u e hs tp refl in
              (l.to, falls_by n.mode l.to.node.mode l.to.node.rank n.rank (alone n.mode Left em refl) l.falls);
        },
  )
  owes_by n Right em fits h = (
    not_done n.right fits,
    λ q vq eq.
        let y = listed_at b sound_b n.right q vq eq in
        let e = one_holds (λ (t : Path). judge_move a b ns n None (Some t)) (paths_of b n.right) y.0 q h (at_place (paths_of b n.right) y.0 q y.1 y.2) in
        record {
          leads = λ s u hs tq. let l = move_leads a b ns n None (Some q) s u e hs refl tq in
              (l.to, falls_by n.mode l.to.node.mode l.to.node.rank n.rank (alone n.mode Right em refl) l.falls);
        },
  )
  owes_by n End em fits h = (
    done_is n.left (and_first (is_done n.left) (is_done n.right) fits),
    done_is n.right (and_second (is_done n.left) (is_done n.right) fits),
    λ s u hs name.
        same_outputs a b s u matched (each_agrees n s u (output_pairs 0 a.variables b.variables) hs h) name,
  )

  points_at : (ms : List (Node Fact)) (k : ℕ) (n : Node Fact) → list_all (λ x. is_point a x.left && is_point b x.right) ms ≡ true → slice_get ms k ≡ Some n
      → (is_point a n.left ≡ true) × (is_point b n.right ≡ true)
  points_at [] k n h e = absurd (cc e)
  points_at (m ∷ ms) zero n h e =
      let s : m ≡ n = cc e in
      let t : is_point a n.left && is_point b n.right ≡ true = ap (λ (z : Node Fact). is_point a z.left && is_point b z.right) (sym s)
      ∙ and_first (is_point a m.left && is_point b m.right) (list_all (λ x. is_point a x.left && is_point b x.right) ms) h in
      (and_first (is_point a n.left) (is_point b n.right) t, and_second (is_point a n.left) (is_point b n.right) t)
  points_at (m ∷ ms) (suc k) n h e =
      points_at ms k n (and_second (is_point a m.left && is_point b m.right) (list_all (λ x. is_point a x.left && is_point b x.right) ms) h) e

  starts_at : (first : Fact) → ((ins : Inputs) → Holds first (start a ins) (start b ins))
      → judge_start ns (record { conditions = []; vector = vector_of first.positions }) ≡ computed.Done None → (ins : Inputs)
      → Stands Holds ns Start Start (start a ins) (start b ins)
  starts_at first h e ins =
      let w = pair (start a ins) (start b ins) in
      let own : vector_meaning (vector_of first.positions) w ≡ w = vector_means w first.positions (h ins).equations in
      let t = reached reason.NoStartNode ns Start Start (λ z. true) (record { conditions = []; vector = vector_of first.positions }) w e refl in
      record {
        node = t.found.node;
        place = t.found.place;
        is_in = t.found.is_in;
        at_left = t.found.at_left;
        at_right = t.found.at_right;
        holds_of = subst (λ z. HoldsIn z t.found.node.fact) own t.holds_in;
      }

  leads_on : (first : Fact) → ((ins : Inputs) → Holds first (start a ins) (start b ins)) → IsLawful a b ns → AllHold (obligations a b first ns)
      → LeadsOn Holds a b ns
  leads_on first h lawful all = record {
    starts = starts_at first h all.0;
    points = λ k n e. points_at ns k n lawful.points e;
    owes = λ k n e.
        let g = part_holds (owed_by a b ns) ns k n all.1 e in
        owes_by n n.mode refl (given_none (mode_fits n.mode n.left n.right) reason.Mode g.0) g.1;
  }

  checked : (first : Fact) → ((ins : Inputs) → Holds first (start a ins) (start b ins)) → IsLawful a b ns → verdict a b first ns ≡ Yes → SameBehaviour a b
  checked first h lawful e = same_behaviour Fact Holds a b sound_a sound_b ns (leads_on first h lawful (all_hold 1 (obligations a b first ns) e))

pub same_where_yes : (a b : Fsmd) → IsSound a → IsSound b → interface_fault a b ≡ None → (ns : List (Node Fact)) → IsLawful a b ns
    → verdict a b (start_fact (positions a b)) ns ≡ Yes → SameBehaviour a b
same_where_yes a b sound_a sound_b matched ns lawful e = checked a b sound_a sound_b matched ns (start_fact (positions a b))
    (λ ins. start_holds a b ins sound_a matched) lawful e
