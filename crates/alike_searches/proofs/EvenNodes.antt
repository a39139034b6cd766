-- Even facts of two machines that declare the same, and the modes of even nodes.
use Rattle.std.proofs.Common.{◌≡◌, ap₂, sym, refl, ◌∙◌, subst, inl, inr, true, List, [], ◌∷◌, map}
use Rattle.std.specs.Prelude.{◌⊎◌}
use Rattle.std.specs.List.{list_all}
use Rattle.fs_model.specs.SoundMachines.{IsSound}
use Rattle.fs_model.specs.Machines.{Fsmd}
use Rattle.fs_cut.specs.Paths.{Point, Done}
use Rattle.fs_pair.specs.declared.positions.Position.{Position}
use Rattle.fs_pair.specs.Positions.{positions}
use Rattle.cert_bisimulation.specs.declared.mode.Mode.{Mode}
use Rattle.cert_bisimulation.specs.declared.mode.Mode.TheVariants.{Both, End}
use Rattle.sym_facts.specs.Facts.{FactPosition, Fact, has_its_sort, vector_of}
use Rattle.sym_facts.proofs.Vectors.{positions_again}
use Rattle.search_tables.specs.Modes.{Found, mode_of}
use Rattle.search_tables.proofs.Whole.{sorts_kept}
use Rattle.cert_bisimulation.specs.Alike.{Alike, DeclareTheSame}
use Rattle.alike_searches.specs.Evenness.{IsEven}
use Rattle.alike_searches.specs.Couples.{AreCouples, sorted_positions}
use Rattle.alike_searches.specs.EvenFacts.{places_of}
use Rattle.alike_searches.proofs.Coupled.{Among, positions_couple, positions_among}
use Rattle.alike_searches.proofs.EvenVectors.{even_vector}
use Rattle.search_tables.specs.SearchTables.{MachinePair, SearchNode}
use Rattle.search_tables.specs.Next.{mode_at}
use Rattle.alike_searches.specs.Even.{IsEvenBetween, IsEvenNode}
use Rattle.alike_searches.proofs.Modes.{found_is, both_move}

places_equal : (ps : List Position) (qs : List FactPosition) → map (λ q. q.pos) qs ≡ map (λ p. p.pos) ps → map (λ q. q.sort) qs ≡ map (λ p. p.sort) ps
    → places_of qs ≡ sorted_positions ps
places_equal [] [] e s = refl
places_equal [] (q ∷ qs) e s = absurd (cc s)
places_equal (p ∷ ps) [] e s = absurd (cc s)
places_equal (p ∷ ps) (q ∷ qs) e s =
    let place : q.pos ≡ p.pos = cc e in
    let places : map (λ q. q.pos) qs ≡ map (λ p. p.pos) ps = cc e in
    let sort : q.sort ≡ p.sort = cc s in
    let sorts : map (λ q. q.sort) qs ≡ map (λ p. p.sort) ps = cc s in
    λ k. (place k, sort k) ∷ places_equal ps qs places sorts k

-- ---- facts

module _ (a b : Fsmd) (f : Fact) (h : IsEvenBetween a b f) where
  pub has_sorts : list_all (λ q. has_its_sort q.sort q.equation) f.positions ≡ true
  has_sorts = sorts_kept (positions a b) f.positions h.is_of.sorts h.is_of.vector.sorts

  its_places : places_of f.positions ≡ sorted_positions (positions a b)
  its_places = places_equal (positions a b) f.positions (sym (positions_again f.positions) ∙ h.is_of.vector.positions) h.is_of.sorts

  pub its_couples : IsSound b → DeclareTheSame a b → AreCouples a b (places_of f.positions)
  its_couples sound_b same = subst (AreCouples a b) (sym its_places) (positions_couple a b sound_b same)

  pub vector_between : IsSound a → IsSound b → DeclareTheSame a b → IsEven a b (vector_of f.positions)
  vector_between sound_a sound_b same =
      even_vector a b sound_a sound_b f.positions (its_couples sound_b same)
      (λ x v g. subst (Among x) (sym its_places) (positions_among a b sound_b same x v g)) has_sorts h.even

-- ---- modes

pub done_ends : (a b : Fsmd) (f : Fact) (P Q : Point) → P ≡ Done → Q ≡ Done → (mode : Mode) → mode_of a b f P Q ≡ Found mode → mode ≡ End
done_ends a b f P Q p q mode e = sym (found_is End mode (sym (ap₂ (mode_of a b f) p q) ∙ e))

module _ (m : MachinePair) (sound_left : IsSound m.left) (sound_right : IsSound m.right) (K : List (Point × Point)) (alike : Alike m.left m.right K) where
  pub node_modes : (n : SearchNode) → IsEvenNode m.left m.right K n → (mode : Mode) → mode_at m n ≡ Found mode → (mode ≡ Both) ⊎ (mode ≡ End)
  node_modes n h mode e =
      elim h.paired [
        | inl x ↦ inl (both_move m.left m.right sound_left sound_right K n.fact its_vector n.left n.right (alike.points x.0 n.left n.right x.1) mode e)
        | inr x ↦ inr (done_ends m.left m.right n.fact n.left n.right x.0 x.1 mode e)
      ]
    where
      its_vector : IsEven m.left m.right (vector_of n.fact.positions)
      its_vector = vector_between m.left m.right n.fact h.fact sound_left sound_right alike.declare_the_same
