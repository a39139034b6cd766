-- The nodes of a table lead either machine's run.
use Rattle.std.proofs.Common.{◌≡◌, ℕ, suc, ◌+◌, ◌<◌, sym, refl, ◌∙◌, ap, subst, arith, Bool, true, false, List, Option, Some, length}
use Rattle.std.specs.Prelude.{◌≢◌, slice_get}
use Rattle.fs_model.specs.SoundMachines.{IsSound}
use Rattle.fs_model.specs.Machines.{Fsmd}
use Rattle.fs_model.specs.Stores.{Store}
use Rattle.fs_model.specs.Runs.{Inputs, Content, start, output, Run, SameBehaviour}
use Rattle.fs_cut.specs.Paths.{Point, Start, Done, Path, IsPath, steps_in, store_after_steps, takes}
use Rattle.fs_cut.specs.Cuts.{Remains, TakenFrom}
use Rattle.fs_cut.proofs.Legs.{path_down, path_up, path_exists}
use Rattle.cert_bisimulation.specs.declared.mode.Mode.{Mode}
use Rattle.cert_bisimulation.specs.declared.mode.Mode.TheVariants.{Both, Left, Right, End}
use Rattle.cert_bisimulation.specs.Tables.{Node, Stands, Owes, LeadsOn}
use Rattle.cert_bisimulation.proofs.Follow.{Answer, Goes, Comes, Move, ends, leads, waits, follow}

-- what a node weighs, where the machine that is not followed moves alone in one mode
abbrev weight : Bool → ℕ → ℕ
weight true r = suc r
weight false r = 0

abbrev is_left : Mode → Bool
is_left Both = false
is_left Left = true
is_left Right = false
is_left End = false

abbrev is_right : Mode → Bool
is_right Both = false
is_right Left = false
is_right Right = true
is_right End = false

lighter : (a b : Bool) (r r' : ℕ) → b ≡ true → (a ≡ true → r' < r) → weight a r' < weight b r
lighter true true r r' e h = let lt = h refl in omega arith
lighter false true r r' e h = omega arith
lighter a false r r' e h = absurd (cc e)

right_is : (m : Mode) → is_right m ≡ true → m ≡ Right
right_is Both h = cc
right_is Left h = cc
right_is Right h = refl
right_is End h = cc

left_is : (m : Mode) → is_left m ≡ true → m ≡ Left
left_is Both h = cc
left_is Left h = refl
left_is Right h = cc
left_is End h = cc

-- ---- one path
path_long : (m : Fsmd) (p : Path) → IsPath m p → 0 < length p.states
path_long m p v = omega (arith, ap length v.left)

down : (m : Fsmd) → IsSound m → (p : Path) (s : Store) → IsPath m p → takes m p s ≡ true → Goes (Remains m) p.from s p.to (store_after_steps m (steps_in p) s)
down m sound p s v h = λ n t r.
    let d = path_down m sound p n s t v h r in
    (d.left, omega (arith, d.steps, path_long m p v), d.remains)

up : (m : Fsmd) → IsSound m → (p : Path) (s : Store) → IsPath m p → takes m p s ≡ true → Comes (Remains m) p.from s p.to (store_after_steps m (steps_in p) s)
up m sound p s v h = λ n t r. (length p.states + n, path_up m sound p n s t v h r)

-- the path from a point that is known to be P
down_at : (m : Fsmd) → IsSound m → (P : Point) (s : Store) (x : TakenFrom m P s) → Goes (Remains m) P s x.path.to (store_after_steps m (steps_in x.path) s)
down_at m sound P s x = subst (λ X. Goes (Remains m) X s x.path.to (store_after_steps m (steps_in x.path) s)) x.from (down m sound x.path s x.is_path x.taken)

up_at : (m : Fsmd) → IsSound m → (P : Point) (s : Store) (x : TakenFrom m P s) → Comes (Remains m) P s x.path.to (store_after_steps m (steps_in x.path) s)
up_at m sound P s x = subst (λ X. Comes (Remains m) X s x.path.to (store_after_steps m (steps_in x.path) s)) x.from (up m sound x.path s x.is_path x.taken)

Alike : Fsmd → Fsmd → Store → Store → Type 0
Alike a b t v = (name : List ℕ) → output a t name ≡ output b v name

pub Ahead : {F : Type 0} → (F → Store → Store → Type 0) → List (Node F) → ℕ → Point → Store → Point → Store → Type 0
Ahead holds T w P s Q u = (S : Stands holds T P Q s u) × (weight (is_right S.node.mode) S.node.rank ≡ w)

Behind : {F : Type 0} → (F → Store → Store → Type 0) → List (Node F) → ℕ → Point → Store → Point → Store → Type 0
Behind holds T w Q u P s = (S : Stands holds T P Q s u) × (weight (is_left S.node.mode) S.node.rank ≡ w)

module _ (F : Type 0) (holds : F → Store → Store → Type 0) (a b : Fsmd) (sound_a : IsSound a) (sound_b : IsSound b) (T : List (Node F))
    (ob : LeadsOn holds a b T) where
  ended : (n : Node F) → Owes holds a b T n End → (s u : Store) → holds n.fact s u → (k : ℕ) (t : Store) → Remains a n.left k s t
      → Answer (Remains b) (Alike a b) n.right u t
  unfolding Alike
  ended n o s u h k t r =
      let d : (k ≡ 0) × (s ≡ t) = subst (λ P. Remains a P k s t) o.0 r in
      (0, u, subst (λ P. Remains b P 0 u u) (sym o.1) (refl, refl), λ name. ap (λ z. output a z name) (sym d.1) ∙ o.2 s u h name)

  ended_back : (n : Node F) → Owes holds a b T n End → (s u : Store) → holds n.fact s u → (k : ℕ) (t : Store) → Remains b n.right k u t
      → Answer (Remains a) (λ v w. Alike a b w v) n.left s t
  unfolding Alike
  ended_back n o s u h k t r =
      let d : (k ≡ 0) × (u ≡ t) = subst (λ P. Remains b P k u t) o.1 r in
      (0, s, subst (λ P. Remains a P 0 s s) (sym o.0) (refl, refl), λ name. o.2 s u h name ∙ ap (λ z. output b z name) d.1)

  module _ (n : Node F) (i : ℕ) (is_in : slice_get T i ≡ Some n) (s u : Store) (h : holds n.fact s u) where
    left_leg : n.left ≢ Done → TakenFrom a n.left s
    left_leg d = path_exists a sound_a n.left s (ob.points i n is_in).0 d

    right_leg : n.right ≢ Done → TakenFrom b n.right u
    right_leg d = path_exists b sound_b n.right u (ob.points i n is_in).1 d

    ahead : (m : Mode) → n.mode ≡ m → Owes holds a b T n m
        → Move (Remains a) (Remains b) (Alike a b) (Ahead holds T) (weight (is_right n.mode) n.rank) n.left s n.right u
    unfolding Ahead
    ahead Both e o =
        let p = left_leg o.0 in
        let q = right_leg o.1 in
        leads _ p.path.to (store_after_steps a (steps_in p.path) s) q.path.to (store_after_steps b (steps_in q.path) u)
        (down_at a sound_a n.left s p)
        (up_at b sound_b n.right u q)
        ((o.2 p.path q.path p.is_path q.is_path p.from q.from).leads s u h p.taken q.taken, refl)
    ahead Left e o =
        let p = left_leg o.0 in
        leads _ p.path.to (store_after_steps a (steps_in p.path) s) n.right u
        (down_at a sound_a n.left s p)
        (λ k t r. (k, r))
        (((o.1 p.path p.is_path p.from).leads s u h p.taken).0, refl)
    ahead Right e o =
        let q = right_leg o.0 in
        let to = (o.1 q.path q.is_path q.from).leads s u h q.taken in
        waits _ q.path.to (store_after_steps b (steps_in q.path) u)
        (lighter (is_right to.0.node.mode) (is_right n.mode) n.rank to.0.node.rank (rw e) (λ x. to.1 (right_is _ x ∙ sym e)))
        (up_at b sound_b n.right u q)
        (to.0, refl)
    ahead End e o = ends (ended n o s u h)

    behind : (m : Mode) → n.mode ≡ m → Owes holds a b T n m
        → Move (Remains b) (Remains a) (λ v w. Alike a b w v) (Behind holds T) (weight (is_left n.mode) n.rank) n.right u n.left s
    unfolding Behind
    behind Both e o =
        let p = left_leg o.0 in
        let q = right_leg o.1 in
        leads _ q.path.to (store_after_steps b (steps_in q.path) u) p.path.to (store_after_steps a (steps_in p.path) s)
        (down_at b sound_b n.right u q)
        (up_at a sound_a n.left s p)
        ((o.2 p.path q.path p.is_path q.is_path p.from q.from).leads s u h p.taken q.taken, refl)
    behind Right e o =
        let q = right_leg o.0 in
        leads _ q.path.to (store_after_steps b (steps_in q.path) u) n.left s
        (down_at b sound_b n.right u q)
        (λ k t r. (k, r))
        (((o.1 q.path q.is_path q.from).leads s u h q.taken).0, refl)
    behind Left e o =
        let p = left_leg o.0 in
        let to = (o.1 p.path p.is_path p.from).leads s u h p.taken in
        waits _ p.path.to (store_after_steps a (steps_in p.path) s)
        (lighter (is_left to.0.node.mode) (is_left n.mode) n.rank to.0.node.rank (rw e) (λ x. to.1 (left_is _ x ∙ sym e)))
        (up_at a sound_a n.left s p)
        (to.0, refl)
    behind End e o = ends (ended_back n o s u h)

  moves : (w : ℕ) (P : Point) (s : Store) (Q : Point) (u : Store) → Ahead holds T w P s Q u → Move (Remains a) (Remains b) (Alike a b) (Ahead holds T) w P s Q u
  unfolding Ahead
  moves w P s Q u x =
      let S = x.0 in
      let m = ahead S.node S.place S.is_in s u S.holds_of S.node.mode refl (ob.owes S.place S.node S.is_in) in
      subst (λ v. Move (Remains a) (Remains b) (Alike a b) (Ahead holds T) v P s Q u) x.1
      (subst (λ Z. Move (Remains a) (Remains b) (Alike a b) (Ahead holds T) (weight (is_right S.node.mode) S.node.rank) P s Z u) S.at_right
      (subst (λ Z. Move (Remains a) (Remains b) (Alike a b) (Ahead holds T) (weight (is_right S.node.mode) S.node.rank) Z s S.node.right u) S.at_left m))

  moves_back : (w : ℕ) (Q : Point) (u : Store) (P : Point) (s : Store) → Behind holds T w Q u P s
      → Move (Remains b) (Remains a) (λ v x. Alike a b x v) (Behind holds T) w Q u P s
  unfolding Behind
  moves_back w Q u P s x =
      let S = x.0 in
      let m = behind S.node S.place S.is_in s u S.holds_of S.node.mode refl (ob.owes S.place S.node S.is_in) in
      subst (λ v. Move (Remains b) (Remains a) (λ v x. Alike a b x v) (Behind holds T) v Q u P s) x.1
      (subst (λ Z. Move (Remains b) (Remains a) (λ v x. Alike a b x v) (Behind holds T) (weight (is_left S.node.mode) S.node.rank) Q u Z s) S.at_left
      (subst (λ Z. Move (Remains b) (Remains a) (λ v x. Alike a b x v) (Behind holds T) (weight (is_left S.node.mode) S.node.rank) Z u S.node.left s) S.at_right
      m))

  forth : (ins : Inputs) (outs : List ℕ → Option Content) (n : ℕ) → Run a ins outs n → (k : ℕ) × Run b ins outs k
  unfolding Ahead Alike
  forth ins outs n r =
      let x = follow (Remains a) (Remains b) (Alike a b) (Ahead holds T) moves n _ Start (start a ins) Start (start b ins) (ob.starts ins, refl) r.end r.goes in
      (x.0, record { end = x.1; goes = x.2; gives = λ name. sym (x.3 name) ∙ r.gives name })

  back : (ins : Inputs) (outs : List ℕ → Option Content) (n : ℕ) → Run b ins outs n → (k : ℕ) × Run a ins outs k
  unfolding Behind Alike
  back ins outs n r =
      let x = follow (Remains b) (Remains a) (λ v z. Alike a b z v) (Behind holds T) moves_back n _ Start (start b ins) Start (start a ins)
      (ob.starts ins, refl) r.end r.goes in
      (x.0, record { end = x.1; goes = x.2; gives = λ name. x.3 name ∙ r.gives name })

  pub same_behaviour : SameBehaviour a b
  same_behaviour = record { forth = forth; back = back }
