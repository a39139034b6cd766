-- A join keeps couples even.
use Rattle.std.proofs.Common.{◌≡◌, ℕ, ◌+◌, Bool, true, false, refl, ap, sym, subst, ◌∙◌, List, [], ◌∷◌, ◌++◌, Option, Some, None}
use Rattle.std.specs.List.{list_all}
use Rattle.fs_model.proofs.Booleans.{and_first, and_second}
use Rattle.nf_terms.specs.Computed.{Computed, Done, after}
use Rattle.fs_model.specs.declared.sides.Pos.{Pos}
use Rattle.nf_terms.specs.declared.form.Nf.{Nf}
use Rattle.nf_terms.proofs.Computed.{same_Done}
use Rattle.nf_sums.proofs.Values.{goes_done}
use Rattle.sym_paths.specs.Sequences.{each}
use Rattle.sym_paths.specs.Execution.{Post}
use Rattle.sym_facts.specs.Facts.{FactPosition, Fact, form_or_symbol, has_its_sort}
use Rattle.sym_facts.specs.Entailment.{form_like, equation_met, literal_met, false_places, Missing, entails}
use Rattle.search_tables.specs.Rebases.{value_at}
use Rattle.search_tables.specs.Joins.{Freed, symbol_like, tied_equation, with_equation, freed_with, position_joined, is_among, positions_joined, literals_kept}
use Rattle.search_tables.specs.Joins.{join}
use Rattle.alike_searches.specs.Risen.{IsRisenVector}
use Rattle.alike_searches.specs.EvenFacts.{places_of, AreEvenValues, AreEvenPositions, IsEvenFact}
use Rattle.alike_searches.proofs.Ties.{value_like, symbol_of_sort, tied_alike, tied_to_freed}
use Rattle.alike_searches.proofs.Failing.{FailTogether, FailEvenly, fail_evenly}

module _ (v : List (Pos × Nf)) where
  -- what comes behind a couple is even
  record IsLater (later : List Freed → Computed (List FactPosition)) : Type 0 where
    even : (fs : List Freed) (rest : List FactPosition) → later fs ≡ Done rest → AreEvenPositions rest

  -- two positions that stay, or get equations, are put before what comes behind
  put_both : (p q : FactPosition) (fs : List Freed) (later : List Freed → Computed (List FactPosition)) (middle ps : List FactPosition) → IsLater later
      → q.equation ≡ Some (form_or_symbol p.sort p.pos p.equation)
      → after (later fs) (λ rest. Done (q ∷ rest)) ≡ Done middle → p ∷ middle ≡ ps → AreEvenPositions ps
  put_both p q fs later middle ps next e g h =
      let s = goes_done (later fs) (λ rest. Done (q ∷ rest)) middle g in
      subst AreEvenPositions (ap (λ z. p ∷ z) (same_Done (q ∷ s.middle) middle s.next) ∙ h) (e, next.even fs s.middle s.first)

  -- both stay
  both_stay : (p q : FactPosition) (fs : List Freed) (later : List Freed → Computed (List FactPosition)) (ps : List FactPosition) → IsLater later
      → q.equation ≡ Some (form_or_symbol p.sort p.pos p.equation)
      → after (after (later fs) (λ rest. Done (q ∷ rest))) (λ rest. Done (p ∷ rest)) ≡ Done ps → AreEvenPositions ps
  both_stay p q fs later ps next e g =
      let s = goes_done (after (later fs) (λ rest. Done (q ∷ rest))) (λ rest. Done (p ∷ rest)) ps g in
      put_both p q fs later s.middle ps next e s.first (same_Done (p ∷ s.middle) ps s.next)

  -- the second one, after the first one was tied or freed
  second_tied : (p q : FactPosition) (t : Nf) (fs : List Freed) (r : Option Nf) (later : List Freed → Computed (List FactPosition))
      (middle ps : List FactPosition) → IsLater later → form_like v p.pos t ≡ form_like v q.pos t → has_its_sort p.sort (Some t) ≡ true
      → tied_equation v p.pos t fs ≡ Done r → position_joined v true q (Some t) (freed_with p.pos t r fs) later ≡ Done middle → with_equation p r ∷ middle ≡ ps
      → AreEvenPositions ps
  second_tied p q t fs (Some z) later middle ps next e f g h w =
      let u = goes_done (tied_equation v q.pos t fs) (λ r. after (later (freed_with q.pos t r fs)) (λ rest. Done (with_equation q r ∷ rest))) middle h in
      let n : Some z ≡ u.middle = same_Done (Some z) u.middle (sym g ∙ tied_alike v p.pos q.pos t fs e ∙ u.first) in
      put_both (with_equation p (Some z)) (with_equation q (Some z)) fs later middle ps next refl
      (ap (λ r. after (later (freed_with q.pos t r fs)) (λ rest. Done (with_equation q r ∷ rest))) n ∙ u.next) w
  second_tied p q t fs None later middle ps next e f g h w =
      let gs = fs ++ record { pos = p.pos; old = t } ∷ [] in
      let u = goes_done (tied_equation v q.pos t gs) (λ r. after (later (freed_with q.pos t r gs)) (λ rest. Done (with_equation q r ∷ rest))) middle h in
      let n : u.middle ≡ Some (symbol_like p.pos t) = tied_to_freed v p.pos q.pos t fs u.middle e g u.first in
      put_both (with_equation p None) (with_equation q (Some (symbol_like p.pos t))) gs later middle ps next (ap Some (symbol_of_sort p.sort p.pos t f))
      (ap (λ r. after (later (freed_with q.pos t r gs)) (λ rest. Done (with_equation q r ∷ rest))) (sym n) ∙ u.next) w

  couple_joined : (p q : FactPosition) (x : Option Nf) → p.equation ≡ x → p.sort ≡ q.sort → value_at v p.sort p.pos ≡ value_at v q.sort q.pos
      → has_its_sort p.sort x ≡ true → q.equation ≡ Some (form_or_symbol p.sort p.pos x)
      → (b d : Bool) → FailTogether x b d → (fs : List Freed) (later : List Freed → Computed (List FactPosition)) → IsLater later → (ps : List FactPosition)
      → position_joined v b p x fs (λ gs. position_joined v d q (Some (form_or_symbol p.sort p.pos x)) gs later) ≡ Done ps → AreEvenPositions ps
  couple_joined p q None i c e f h b true t fs later next ps g = absurd (cc t)
  couple_joined p q None i c e f h true false t fs later next ps g =
      both_stay p q fs later ps next (h ∙ ap (λ z. Some (form_or_symbol p.sort p.pos z)) (sym i)) g
  couple_joined p q None i c e f h false false t fs later next ps g =
      both_stay p q fs later ps next (h ∙ ap (λ z. Some (form_or_symbol p.sort p.pos z)) (sym i)) g
  couple_joined p q (Some x) i c e f h false true t fs later next ps g = absurd (cc t)
  couple_joined p q (Some x) i c e f h true false t fs later next ps g = absurd (cc t)
  couple_joined p q (Some x) i c e f h false false t fs later next ps g =
      both_stay p q fs later ps next (h ∙ ap (λ z. Some (form_or_symbol p.sort p.pos z)) (sym i)) g
  couple_joined p q (Some x) i c e f h true true t fs later next ps g =
      let same : form_like v p.pos x ≡ form_like v q.pos x = value_like v p.sort p.pos x f ∙ e
      ∙ sym (value_like v q.sort q.pos x (ap (λ z. has_its_sort z (Some x)) (sym c) ∙ f)) in
      let s = goes_done (tied_equation v p.pos x fs)
      (λ r. after (position_joined v true q (Some x) (freed_with p.pos x r fs) later) (λ rest. Done (with_equation p r ∷ rest))) ps g in
      let u = goes_done (position_joined v true q (Some x) (freed_with p.pos x s.middle fs) later) (λ rest. Done (with_equation p s.middle ∷ rest)) ps s.next in
      second_tied p q x fs s.middle later u.middle ps next same f s.first u.first (same_Done (with_equation p s.middle ∷ u.middle) ps u.next)

  positions_even :
      (ps : List FactPosition) → AreEvenValues v (places_of ps) → list_all (λ p. has_its_sort p.sort p.equation) ps ≡ true → AreEvenPositions ps
      → (k : ℕ) (missing : List ℕ) → FailEvenly k missing ps → (fs : List Freed) (qs : List FactPosition)
      → positions_joined v k missing fs ps ≡ Done qs → AreEvenPositions qs
  positions_even [] e f h k missing m fs qs g = subst AreEvenPositions (same_Done [] qs g) tt
  positions_even (p ∷ []) e f h k missing m fs qs g = absurd e
  positions_even (p ∷ q ∷ ps) (c, e, es) f (h, hs) k missing (m, ms) fs qs g =
      let here : has_its_sort p.sort p.equation ≡ true = and_first (has_its_sort p.sort p.equation)
      (list_all (λ p. has_its_sort p.sort p.equation) (q ∷ ps)) f in
      let rest : list_all (λ p. has_its_sort p.sort p.equation) ps ≡ true =
      and_second (has_its_sort q.sort q.equation) (list_all (λ p. has_its_sort p.sort p.equation) ps)
      (and_second (has_its_sort p.sort p.equation) (list_all (λ p. has_its_sort p.sort p.equation) (q ∷ ps)) f) in
      let later : List Freed → Computed (List FactPosition) = λ gs. positions_joined v (k + 1 + 1) missing gs ps in
      couple_joined p q p.equation refl c e here h (is_among k missing) (is_among (k + 1) missing) m fs later
      (record { even = λ gs rs i. positions_even ps es rest hs (k + 1 + 1) missing ms gs rs i }) qs
      (sym (ap (λ z. position_joined v (is_among k missing) p p.equation fs (λ gs. position_joined v (is_among (k + 1) missing) q z gs later)) h) ∙ g)

pub join_even : (old new : Fact) (post : Post) (missing : Missing) → IsRisenVector post.vector → AreEvenValues post.vector (places_of old.positions)
    → list_all (λ p. has_its_sort p.sort p.equation) old.positions ≡ true → IsEvenFact old
    → entails post old ≡ Done missing → join old post missing ≡ Done new → IsEvenFact new
join_even old new post missing r e f h g i =
    let s = goes_done (each (λ p. equation_met post.vector p.pos p.equation) old.positions)
    (λ es. after (each (λ l. literal_met post l) old.literals) (λ ls. Done (record { equations = false_places 0 es; literals = false_places 0 ls }))) missing g
    in
    let t = goes_done (each (λ l. literal_met post l) old.literals)
    (λ ls. Done (record { equations = false_places 0 s.middle; literals = false_places 0 ls })) missing s.next in
    let k : false_places 0 s.middle ≡ missing.equations = ap (λ (z : Missing). z.equations)
    (same_Done (record { equations = false_places 0 s.middle; literals = false_places 0 t.middle }) missing t.next) in
    let m = fail_evenly post.vector r old.positions e f h 0 s.middle missing.equations s.first (λ i o. ap (is_among i) (sym k)) in
    let j = goes_done (positions_joined post.vector 0 missing.equations [] old.positions)
    (λ ps. Done (record { positions = ps; literals = literals_kept 0 missing.literals old.literals })) new i in
    subst IsEvenFact (same_Done (record { positions = j.middle; literals = literals_kept 0 missing.literals old.literals }) new j.next)
    (positions_even post.vector old.positions e f h 0 missing.equations m [] j.middle j.first)
