-- In an even table no outputs differ, and no machine is alone in a cycle.
use Rattle.std.proofs.Common.{◌≡◌, ℕ, ◌+◌, refl, ap, ◌∙◌, inl, inr, Bool, true, false, cond, List, [], ◌∷◌, Option, None, Some}
use Rattle.std.specs.Prelude.{◌⊎◌}
use Rattle.std.specs.List.{AllByRecursion}
use Rattle.std.specs.Option.{option_map, option_or}
use Rattle.fs_model.proofs.Quantifiers.{each_at}
use Rattle.fs_model.specs.SoundMachines.{IsSound}
use Rattle.fs_cut.specs.Paths.{Point, Done}
use Rattle.fs_pair.specs.PairedOutputs.{OutputPair, output_pairs}
use Rattle.cert_bisimulation.specs.declared.mode.Mode.TheVariants.{Both, End}
use Rattle.fs_model.specs.declared.sides.Side.{Side}
use Rattle.fs_model.specs.declared.sides.Side.TheVariants as side
use Rattle.fs_model.specs.declared.sides.Pos.{Pos}
use Rattle.nf_terms.specs.declared.form.Nf.{Nf}
use Rattle.sym_facts.specs.Facts.{vector_of}
use Rattle.alike_searches.specs.Obligations.{same_forms}
use Rattle.cert_bisimulation.specs.Alike.{Alike}
use Rattle.alike_searches.specs.Evenness.{IsEven}
use Rattle.search_tables.specs.declared.moves.Move.{Move}
use Rattle.search_tables.specs.SearchTables.{MachinePair, SearchNode, Table, is_at}
use Rattle.search_tables.specs.Legal.{Difference, first_differing, output_at, difference_among, difference_in, Makes}
use Rattle.search_tables.specs.LoneMoves.{lone_mode, Spins}
use Rattle.search_tables.specs.Obstacles.{Stuck, Spin, IsObstacle}
use Rattle.alike_searches.specs.Even.{IsEvenNode, IsEvenTable}
use Rattle.alike_searches.proofs.Outputs.{outputs_same}
use Rattle.alike_searches.proofs.EvenNodes.{vector_between, node_modes}
use Rattle.alike_searches.proofs.EvenTables.{even_tables}

none_differing : (v : List (Pos × Nf)) (os : List OutputPair) → AllByRecursion (λ o. same_forms v o.sort o.left o.right ≡ true) os → first_differing v os ≡ None
none_differing v [] h = refl
none_differing v (o ∷ os) h = ap (λ t. cond t (first_differing v os) (Some o.left)) h.0 ∙ none_differing v os h.1

abbrev difference : (node output : ℕ) → Difference
difference node output = record { node = node; output = output }

-- in no mode of an even node does one machine move alone
not_alone : (d : Side) → (lone_mode d ≡ Both) ⊎ (lone_mode d ≡ End) → ⊥
not_alone side.Left (inl e) = absurd (cc e)
not_alone side.Left (inr e) = absurd (cc e)
not_alone side.Right (inl e) = absurd (cc e)
not_alone side.Right (inr e) = absurd (cc e)

module _ (m : MachinePair) (sound_left : IsSound m.left) (sound_right : IsSound m.right) (K : List (Point × Point)) (alike : Alike m.left m.right K) where
  abbrev EvenNode : SearchNode → Type 0
  EvenNode n = IsEvenNode m.left m.right K n

  no_output : (n : SearchNode) → EvenNode n → output_at m n ≡ None
  no_output n h = by_end (is_at Done Done n)
    where
      v : List (Pos × Nf)
      v = vector_of n.fact.positions

      outputs : List OutputPair
      outputs = output_pairs 0 m.left.variables m.right.variables

      even : IsEven m.left m.right v
      even = vector_between m.left m.right n.fact h.fact sound_left sound_right alike.declare_the_same

      none : first_differing v outputs ≡ None
      none = none_differing v outputs (outputs_same m.left m.right sound_right alike.declare_the_same v even)

      by_end : (t : Bool) → cond t (first_differing v outputs) None ≡ None
      by_end true = none
      by_end false = refl

  none_from : (i : ℕ) (ns : List SearchNode) → AllByRecursion EvenNode ns → difference_among m i ns ≡ None
  none_from i [] h = refl
  none_from i (n ∷ ns) h = ap (λ (x : Option ℕ). option_or (option_map (difference i) x) (difference_among m (i + 1) ns)) (no_output n h.0)
      ∙ none_from (i + 1) ns h.1

  pub none_stuck : (T : Table) → IsEvenTable m.left m.right K T → difference_in m T ≡ None
  none_stuck T h = none_from 0 T h

  pub none_spins : (T : Table) → IsEvenTable m.left m.right K T → (d : Side) (cycle : List ℕ) → Spins m T d cycle → ⊥
  none_spins T h d [] s = s.follow
  none_spins T h d (k ∷ ks) s =
      let x = s.alone.0 in
      not_alone d (node_modes m sound_left sound_right K alike x.node (each_at EvenNode T k x.node h x.is_in) (lone_mode d) x.mode)

  its_table : (moves : List Move) (T : Table) → Makes m moves T → IsEvenTable m.left m.right K T
  its_table moves T h = even_tables m sound_left sound_right K alike moves T h

  pub never_stuck : (moves : List Move) (node output : ℕ) → IsObstacle m moves (Stuck node output) → ⊥
  never_stuck moves node output o = absurd (cc (none_stuck o.table (its_table moves o.table o.makes), o.stands))

  pub never_spins : (moves : List Move) (d : Side) (cycle : List ℕ) → IsObstacle m moves (Spin d cycle) → ⊥
  never_spins moves d cycle o = none_spins o.table (its_table moves o.table o.makes) d cycle o.stands.2
