-- Alike machines have a table of nodes: the pairs of points, where twins hold the same, and the two returns.
use Rattle.std.proofs.Common.{◌≡◌, ℕ, zero, suc, ◌<◌, ℤ, ◌+ℤ◌, ◌-ℤ◌, ◌*ℤ◌, neg_ℤ, true, cond, ap, ap₂, sym, refl, ◌∙◌, subst, List, [], ◌∷◌, ◌++◌, Option, Some}
use Rattle.std.proofs.Common.{None, map, inl, inr, zero-add}
use Rattle.std.specs.Prelude.{◌⊎◌, ◌&&◌, slice_get, option_map}
use Rattle.std.specs.Ordering.{int_eq}
use Rattle.std.proofs.lemmas.Option.{slice_get-map}
use Rattle.fs_model.specs.SoundMachines.{IsSound, branch_count}
use Rattle.fs_model.specs.Division.{quotient, remainder}
use Rattle.fs_model.specs.declared.parts.Sort.{Sort}
use Rattle.fs_model.specs.declared.parts.Sort.TheVariants as sort
use Rattle.fs_model.specs.declared.parts.VarInfo.{VarInfo}
use Rattle.fs_model.specs.Expressions.{Literal}
use Rattle.fs_model.specs.Machines.{Fsmd}
use Rattle.fs_model.specs.Stores.{Store}
use Rattle.fs_model.specs.Meaning.{value, relates}
use Rattle.fs_model.specs.Runs.{Inputs, Number, Entries, Emitted, first_scalar, first_array, start, content, output, SameBehaviour}
use Rattle.fs_model.specs.Trees.{literals_hold}
use Rattle.fs_cut.specs.Paths.{Point, Start, Done, Path, IsPath, is_point, state_of, steps_in, store_after_steps, takes}
use Rattle.fs_cut.specs.Covers.{path_by}
use Rattle.fs_cut.proofs.Listed.{path_is}
use Rattle.fs_cut.proofs.Legs.{one_path}
use Rattle.cert_bisimulation.specs.declared.mode.Mode.TheVariants.{Both, End}
use Rattle.cert_bisimulation.specs.Tables.{Node, Stands, Owes, LeadsOn}
use Rattle.cert_bisimulation.proofs.Nodes.{same_behaviour}
use Rattle.cert_bisimulation.specs.PathExpressions.{PathExpression, Constant, Initial, Element, Plus, Minus, Times, Over, Rest, Opposite, ArrayExpression}
use Rattle.cert_bisimulation.specs.PathExpressions.{InitialArray, Stored, ListExpression, InitialList, Pushed, initial, path_expression}
use Rattle.cert_bisimulation.specs.ExpressionSameness.{AreTwins, Same, SameArray, SameListExpression, SameLiterals}
use Rattle.cert_bisimulation.specs.Alike.{ArePaired, literals_of, left_after, AlikePaths, AlikePoints, Alike}
use Rattle.cert_bisimulation.specs.ExpressionValues.{value_in, array_in, list_in}
use Rattle.cert_bisimulation.proofs.Expressions.{expressed_value, at_start, left_shows}
use Rattle.cert_bisimulation.proofs.Outputs.{IsOutputOf, output_or_none, output_there}

-- twins hold the same
pub record HoldTheSame (a b : Fsmd) (s u : Store) : Type 0 where
  pub scalars : (x y : ℕ) → AreTwins a b sort.Scalar x y → s.scalar x ≡ u.scalar y
  pub arrays : (x y : ℕ) → AreTwins a b sort.Array x y → (i : ℤ) → s.array x i ≡ u.array y i
  pub ports : (x y : ℕ) → AreTwins a b sort.Port x y → s.port x ≡ u.port y

module _ (a b : Fsmd) where
  module _ (s u : Store) (h : HoldTheSame a b s u) where
    -- ---- the same expressions are worth the same

    mutual
      same_value : (e f : PathExpression) → Same a b e f → value_in s e ≡ value_in u f
      same_value (Constant n) z w = sym (ap (value_in u) w)
      same_value (Initial x) z (y, e, t) = h.scalars x y t ∙ sym (ap (value_in u) e)
      same_value (Element c i) z (d, j, e, g, k) = same_array c d g (value_in s i) ∙ ap (array_in u d) (same_value i j k) ∙ sym (ap (value_in u) e)
      same_value (Plus x y) z (c, d, e, g, k) = ap₂ (λ p q. p +ℤ q) (same_value x c g) (same_value y d k) ∙ sym (ap (value_in u) e)
      same_value (Minus x y) z (c, d, e, g, k) = ap₂ (λ p q. p -ℤ q) (same_value x c g) (same_value y d k) ∙ sym (ap (value_in u) e)
      same_value (Times x y) z (c, d, e, g, k) = ap₂ (λ p q. p *ℤ q) (same_value x c g) (same_value y d k) ∙ sym (ap (value_in u) e)
      same_value (Over x y) z (c, d, e, g, k) = ap₂ quotient (same_value x c g) (same_value y d k) ∙ sym (ap (value_in u) e)
      same_value (Rest x y) z (c, d, e, g, k) = ap₂ remainder (same_value x c g) (same_value y d k) ∙ sym (ap (value_in u) e)
      same_value (Opposite x) z (c, e, g) = ap neg_ℤ (same_value x c g) ∙ sym (ap (value_in u) e)

      same_array : (c d : ArrayExpression) → SameArray a b c d → (i : ℤ) → array_in s c i ≡ array_in u d i
      same_array (InitialArray x) z (y, e, t) i = h.arrays x y t i ∙ sym (ap (λ r. array_in u r i) e)
      same_array (Stored c j v) z (d, k, w, e, g, p, q) i =
          (λ r. cond (int_eq (same_value j k p r) i) (same_value v w q r) (same_array c d g i r)) ∙ sym (ap (λ r. array_in u r i) e)

    same_list : (l m : ListExpression) → SameListExpression a b l m → list_in s l ≡ list_in u m
    same_list (InitialList x) z (y, e, t) = h.ports x y t ∙ sym (ap (list_in u) e)
    same_list (Pushed l v) z (m, w, e, g, p) = ap₂ (λ r n. r ++ n ∷ []) (same_list l m g) (same_value v w p) ∙ sym (ap (list_in u) e)

    -- ---- alike paths

    same_literals : (ls ms : List (Literal ℕ)) → SameLiterals a b ls ms → literals_hold ls s ≡ literals_hold ms u
    same_literals [] ms e = sym (ap (λ r. literals_hold r u) e)
    same_literals (l ∷ ls) ms (m, rest, e, r, g, k, w) =
        let x : value l.left s ≡ value m.left u = sym (expressed_value s initial s (at_start s) l.left)
        ∙ same_value (path_expression initial l.left) (path_expression initial m.left) g ∙ expressed_value u initial u (at_start u) m.left in
        let y : value l.right s ≡ value m.right u = sym (expressed_value s initial s (at_start s) l.right)
        ∙ same_value (path_expression initial l.right) (path_expression initial m.right) k ∙ expressed_value u initial u (at_start u) m.right in
        (λ j. relates (r j) (x j) (y j) && same_literals ls rest w j) ∙ sym (ap (λ z. literals_hold z u) e)

    takes_alike : (K : List (Point × Point)) (p q : Path) → AlikePaths a b K p q → takes a p s ≡ takes b q u
    takes_alike K p q w = same_literals (literals_of a p) (literals_of b q) w.literals

    ends_alike : (K : List (Point × Point)) (p q : Path) → AlikePaths a b K p q
        → HoldTheSame a b (store_after_steps a (steps_in p) s) (store_after_steps b (steps_in q) u)
    ends_alike K p q w =
        let l = left_shows s a (steps_in p) in
        let r = left_shows u b (steps_in q) in
        record {
          scalars = λ x y t. sym (l.scalars x) ∙ same_value ((left_after a p).scalar x) ((left_after b q).scalar y) (w.values.scalars x y t) ∙ r.scalars y;
          arrays = λ x y t i. sym (l.arrays x i) ∙ same_array ((left_after a p).array x) ((left_after b q).array y) (w.values.arrays x y t) i ∙ r.arrays y i;
          ports = λ x y t. sym (l.ports x) ∙ same_list ((left_after a p).port x) ((left_after b q).port y) (w.values.ports x y t) ∙ r.ports y;
        }

  -- ---- the starts and the returns

  starts_hold : (ins : Inputs) → HoldTheSame a b (start a ins) (start b ins)
  starts_hold ins =
      record {
        scalars = λ x y t. ap (first_scalar ins) (t.left ∙ sym t.right);
        arrays = λ x y t i. ap (λ o. first_array ins o i) (t.left ∙ sym t.right);
        ports = λ x y t. refl;
      }

  same_content : (s u : Store) → HoldTheSame a b s u → (x y : ℕ) (v : VarInfo) → slice_get a.variables x ≡ Some v → slice_get b.variables y ≡ Some v
      → (σ : Sort) → v.sort ≡ σ → content σ x s ≡ content σ y u
  same_content s u h x y v e f sort.Scalar g = ap Number (h.scalars x y (record { variable = v; left = e; right = f; sorted = g }))
  same_content s u h x y v e f sort.Array g = ap Entries (λ k i. h.arrays x y (record { variable = v; left = e; right = f; sorted = g }) i k)
  same_content s u h x y v e f sort.Port g = ap Emitted (h.ports x y (record { variable = v; left = e; right = f; sorted = g }))

module _ (a b : Fsmd) (sound_a : IsSound a) (sound_b : IsSound b) (K : List (Point × Point)) (al : Alike a b K) where
  same_outputs : (s u : Store) → HoldTheSame a b s u → (name : List ℕ) → output a s name ≡ output b u name
  same_outputs s u h name = by_left (output_or_none a.variables 0 s name)
    where
      there : (m : Fsmd) → IsSound m → (t : Store) (o : IsOutputOf m.variables name) → output m t name ≡ Some (content o.variable.sort o.place t)
      there m sound t o = output_there m.variables 0 t name sound.variables_differ o ∙ ap (λ z. Some (content o.variable.sort z t)) (zero-add o.place)

      by_right : output a s name ≡ None → IsOutputOf b.variables name ⊎ (output b u name ≡ None) → output a s name ≡ output b u name
      by_right e (inl o) =
          let x = al.declare_the_same.back o.place o.variable o.at in
          absurd (let c = sym e ∙ there a sound_a s (record { place = x.0; variable = o.variable; at = x.1; role = o.role; named = o.named }) in cc c)
      by_right e (inr f) = e ∙ sym f

      by_left : IsOutputOf a.variables name ⊎ (output a s name ≡ None) → output a s name ≡ output b u name
      by_left (inl o) =
          let y = al.declare_the_same.forth o.place o.variable o.at in
          there a sound_a s o ∙ ap Some (same_content a b s u h o.place y.0 o.variable o.at y.1 o.variable.sort refl)
          ∙ sym (there b sound_b u (record { place = y.0; variable = o.variable; at = y.1; role = o.role; named = o.named }))
      by_left (inr e) = by_right e (output_or_none b.variables 0 u name)

  -- ---- the table

  Holds : Unit {0} → Store → Store → Type 0
  Holds f s u = HoldTheSame a b s u

  abbrev node_of : Point × Point → Node (Unit {0})
  node_of c = record { left = c.0; right = c.1; mode = Both; rank = 0; fact = tt }

  abbrev last : Node (Unit {0})
  last = record { left = Done; right = Done; mode = End; rank = 0; fact = tt }

  abbrev table : List (Node (Unit {0}))
  table = last ∷ map node_of K

  stands_at : (P Q : Point) (s u : Store) → ArePaired K P Q → HoldTheSame a b s u → Stands Holds table P Q s u
  unfolding Holds
  stands_at P Q s u (inl d) h = record {
    node = node_of (P, Q);
    place = suc d.0;
    is_in = slice_get-map node_of K d.0 ∙ ap (option_map node_of) d.1;
    at_left = refl;
    at_right = refl;
    holds_of = h;
  }
  stands_at P Q s u (inr d) h = record { node = last; place = 0; is_in = refl; at_left = sym d.0; at_right = sym d.1; holds_of = h }

  -- from a pair both stores take paths of one number
  same_number : (P Q : Point) → AlikePoints a b K P Q → (p q : Path) (s u : Store) → HoldTheSame a b s u → IsPath a p → IsPath b q → p.from ≡ P → q.from ≡ Q
      → takes a p s ≡ true → takes b q u ≡ true → p.branch ≡ q.branch
  same_number P Q w p q s u h v r e f t g =
      let within : p.branch < branch_count b (state_of b Q) = subst (λ n. p.branch < n) (ap (λ X. branch_count a (state_of a X)) e ∙ w.same_count) v.numbered in
      let other = path_by b Q (state_of b Q) p.branch in
      let is = path_is b Q p.branch sound_b w.right_point w.right_goes within in
      let taken = sym (takes_alike a b s u h K p other (w.paths p other v is e refl refl)) ∙ t in
      ap (λ (z : Path). z.branch) (one_path b sound_b other q u is r (sym f) taken g)

  owes_both : (P Q : Point) → AlikePoints a b K P Q → Owes Holds a b table (node_of (P, Q)) Both
  unfolding Holds
  owes_both P Q w = (
    w.left_goes,
    w.right_goes,
    λ p q v r e f. record {
      leads = λ s u h t g.
          let alike = w.paths p q v r e f (same_number P Q w p q s u h v r e f t g) in
          stands_at p.to q.to (store_after_steps a (steps_in p) s) (store_after_steps b (steps_in q) u) alike.ends (ends_alike a b s u h K p q alike);
    },
  )

  owes_end : Owes Holds a b table last End
  unfolding Holds
  owes_end = (refl, refl, λ s u h name. same_outputs s u h name)

  in_map : (n : Node (Unit {0})) (o : Option (Point × Point)) → option_map node_of o ≡ Some n → (c : Point × Point) × (o ≡ Some c) × (node_of c ≡ n)
  in_map n None e = absurd (cc e)
  in_map n (Some c) e = (c, refl, cc e)

  -- what holds of the last node and of the node of each pair holds of each node
  each_node : (P : Node (Unit {0}) → Type 0) → P last → ((k : ℕ) (X Y : Point) → slice_get K k ≡ Some (X, Y) → P (node_of (X, Y)))
      → (k : ℕ) (n : Node (Unit {0})) → slice_get table k ≡ Some n → P n
  each_node P z f zero n e = let same : last ≡ n = cc e in subst P same z
  each_node P z f (suc k) n e = let d = in_map n (slice_get K k) (sym (slice_get-map node_of K k) ∙ e) in subst P d.2 (f k d.0.0 d.0.1 d.1)

  leads_on : LeadsOn Holds a b table
  unfolding Holds
  leads_on =
      record {
        starts = λ ins. stands_at Start Start (start a ins) (start b ins) (inl al.starts) (starts_hold a b ins);
        points = each_node (λ n. (is_point a n.left ≡ true) × (is_point b n.right ≡ true)) (refl, refl)
            (λ k X Y e. let w = al.points k X Y e in (w.left_point, w.right_point));
        owes = each_node (λ n. Owes Holds a b table n n.mode) owes_end (λ k X Y e. owes_both X Y (al.points k X Y e));
      }

  pub alike_behave_alike : SameBehaviour a b
  alike_behave_alike = same_behaviour (Unit {0}) Holds a b sound_a sound_b table leads_on
