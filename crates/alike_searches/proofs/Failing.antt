-- The equations of a couple with equal values fail together.
use Rattle.std.proofs.Common.{◌≡◌, ℕ, ◌+◌, ◌≤◌, ◌==◌, Bool, true, false, arith, refl, ap, sym, subst, ◌∙◌, List, [], ◌∷◌, Option, Some, None}
use Rattle.std.specs.Prelude.{not, ◌||◌}
use Rattle.std.specs.List.{list_all}
use Rattle.std.proofs.lemmas.Bool.Decides.{nat_tests}
use Rattle.fs_model.proofs.Booleans.{and_first, and_second}
use Rattle.fs_model.proofs.Numbers.{eqb_self}
use Rattle.fs_model.specs.declared.parts.Sort.{Sort}
use Rattle.fs_model.specs.declared.parts.Sort.TheVariants as sort
use Rattle.nf_trees.specs.NormalTerms.{polynomial_of_symbol}
use Rattle.nf_terms.specs.Forms.{same_form}
use Rattle.nf_terms.specs.Computed.{Done, after}
use Rattle.fs_model.specs.declared.sides.Pos.{Pos}
use Rattle.nf_terms.specs.declared.form.Nf.{Nf}
use Rattle.nf_terms.specs.declared.form.Nf.TheVariants.{Num, Arr, Seq}
use Rattle.nf_terms.proofs.Computed.{same_Done}
use Rattle.nf_sums.proofs.Values.{goes_done}
use Rattle.nf_substitution.specs.Vectors.{array_form, list_at}
use Rattle.nf_substitution.specs.Substitution.{polynomial_substituted}
use Rattle.sym_paths.specs.Sequences.{each}
use Rattle.sym_facts.specs.Facts.{FactPosition, own_symbol, form_or_symbol, has_its_sort}
use Rattle.sym_facts.specs.Entailment.{form_substituted, form_like, equation_met, false_places}
use Rattle.search_tables.specs.Rebases.{value_at}
use Rattle.search_tables.specs.Joins.{is_among}
use Rattle.alike_searches.specs.Risen.{IsRisenVector}
use Rattle.alike_searches.proofs.SubstitutedWorth.{symbol_substituted}
use Rattle.alike_searches.specs.EvenFacts.{places_of, AreEvenValues, AreEvenPositions}
use Rattle.alike_searches.proofs.Ties.{same_of_equal, value_like}

-- which of a couple fail: not the second one of a free first one; else both or none
abbrev pub FailTogether : (first : Option Nf) → (fails other_fails : Bool) → Type 0
FailTogether None b d = d ≡ false
FailTogether (Some x) b d = b ≡ d

abbrev pub FailEvenly : ℕ → List ℕ → List FactPosition → Type 0
FailEvenly k missing [] = Unit {0}
FailEvenly k missing (p ∷ []) = Unit {0}
FailEvenly k missing (p ∷ q ∷ ps) = FailTogether p.equation (is_among k missing) (is_among (k + 1) missing) × FailEvenly (k + 1 + 1) missing ps

-- ---- places of what fails

not_self : (k i : ℕ) → k + 1 ≤ i → (k == i) ≡ false
not_self k i h = grind (arith, nat_tests)

not_later : (k i : ℕ) → i + 1 ≤ k → (k == i) ≡ false
not_later k i h = grind (arith, nat_tests)

below : (bs : List Bool) (k i : ℕ) → i + 1 ≤ k → is_among i (false_places k bs) ≡ false
below [] k i h = refl
below (true ∷ bs) k i h = below bs (k + 1) i (omega (arith, h))
below (false ∷ bs) k i h = ap (λ b. b || is_among i (false_places (k + 1) bs)) (not_later k i h) ∙ below bs (k + 1) i (omega (arith, h))

fails_at : (b : Bool) (bs : List Bool) (k : ℕ) → is_among k (false_places k (b ∷ bs)) ≡ not b
fails_at true bs k = below bs (k + 1) k (omega arith)
fails_at false bs k = ap (λ b. b || is_among k (false_places (k + 1) bs)) (eqb_self k)

fails_later : (b : Bool) (bs : List Bool) (k i : ℕ) → k + 1 ≤ i → is_among i (false_places k (b ∷ bs)) ≡ is_among i (false_places (k + 1) bs)
fails_later true bs k i h = refl
fails_later false bs k i h = ap (λ b. b || is_among i (false_places (k + 1) bs)) (not_self k i h)

-- ---- a couple

module _ (v : List (Pos × Nf)) (risen : IsRisenVector v) where
  -- the symbol of a position, substituted, is what stands at it
  symbol_met : (s : Sort) (p : Pos) (r : Nf) → form_substituted v (own_symbol s p) ≡ Done r → r ≡ value_at v s p
  symbol_met sort.Scalar p r e =
      let t = goes_done (polynomial_substituted v (polynomial_of_symbol p)) (λ q. Done (Num q)) r e in
      sym (same_Done (Num t.middle) r t.next) ∙ ap Num (symbol_substituted v p t.middle (risen.numbers p) t.first)
  symbol_met sort.Array p r e = sym (same_Done (Arr (array_form v p)) r e)
  symbol_met sort.Port p r e = sym (same_Done (Seq (list_at v p)) r e)

  own_like : (s : Sort) (p q : Pos) → form_like v q (own_symbol s p) ≡ value_at v s q
  own_like sort.Scalar p q = refl
  own_like sort.Array p q = refl
  own_like sort.Port p q = refl

  free_met : (s : Sort) (p q : Pos) (d : Bool) → value_at v s p ≡ value_at v s q → equation_met v q (Some (own_symbol s p)) ≡ Done d → d ≡ true
  free_met s p q d e g =
      let t = goes_done (form_substituted v (own_symbol s p)) (λ r. Done (same_form (form_like v q (own_symbol s p)) r)) d g in
      sym (same_Done (same_form (form_like v q (own_symbol s p)) t.middle) d t.next)
      ∙ same_of_equal (form_like v q (own_symbol s p)) t.middle (own_like s p q ∙ sym e ∙ sym (symbol_met s p t.middle t.first))

  together : (s : Sort) (p q : Pos) (x : Option Nf) (b d : Bool) → value_at v s p ≡ value_at v s q → has_its_sort s x ≡ true → equation_met v p x ≡ Done b
      → equation_met v q (Some (form_or_symbol s p x)) ≡ Done d → FailTogether x (not b) (not d)
  together s p q None b d e f g h = ap not (free_met s p q d e h)
  together s p q (Some x) b d e f g h =
      let same : form_like v p x ≡ form_like v q x = value_like v s p x f ∙ e ∙ sym (value_like v s q x f) in
      let met : equation_met v p (Some x) ≡ equation_met v q (Some x) = ap (λ z. after (form_substituted v x) (λ r. Done (same_form z r))) same in
      ap not (same_Done b d (sym g ∙ met ∙ h))

  pub fail_evenly : (ps : List FactPosition) → AreEvenValues v (places_of ps) → list_all (λ p. has_its_sort p.sort p.equation) ps ≡ true → AreEvenPositions ps
      → (k : ℕ) (es : List Bool) (m : List ℕ) → each (λ p. equation_met v p.pos p.equation) ps ≡ Done es
      → ((i : ℕ) → k ≤ i → is_among i m ≡ is_among i (false_places k es)) → FailEvenly k m ps
  fail_evenly [] e f h k es m g a = tt
  fail_evenly (p ∷ []) e f h k es m g a = tt
  fail_evenly (p ∷ q ∷ ps) (c, e, es) f (h, hs) k bs m g a =
      let s = goes_done (equation_met v p.pos p.equation) (λ y. after (each (λ p. equation_met v p.pos p.equation) (q ∷ ps)) (λ ys. Done (y ∷ ys))) bs g in
      let t = goes_done (each (λ p. equation_met v p.pos p.equation) (q ∷ ps)) (λ ys. Done (s.middle ∷ ys)) bs s.next in
      let u = goes_done (equation_met v q.pos q.equation) (λ y. after (each (λ p. equation_met v p.pos p.equation) ps) (λ ys. Done (y ∷ ys)))
      t.middle t.first in
      let w = goes_done (each (λ p. equation_met v p.pos p.equation) ps) (λ ys. Done (u.middle ∷ ys)) t.middle u.next in
      let k1 : s.middle ∷ t.middle ≡ bs = same_Done (s.middle ∷ t.middle) bs t.next in
      let k2 : u.middle ∷ w.middle ≡ t.middle = same_Done (u.middle ∷ w.middle) t.middle w.next in
      let all : s.middle ∷ u.middle ∷ w.middle ≡ bs = ap (λ z. s.middle ∷ z) k2 ∙ k1 in
      let a' : (i : ℕ) → k ≤ i → is_among i m ≡ is_among i (false_places k (s.middle ∷ u.middle ∷ w.middle)) = λ i o. a i o
      ∙ ap (λ z. is_among i (false_places k z)) (sym all) in
      let x : is_among k m ≡ not s.middle = a' k (omega arith) ∙ fails_at s.middle (u.middle ∷ w.middle) k in
      let y : is_among (k + 1) m ≡ not u.middle = a' (k + 1) (omega arith) ∙ fails_later s.middle (u.middle ∷ w.middle) k (k + 1) (omega arith)
      ∙ fails_at u.middle w.middle (k + 1) in
      let here : has_its_sort p.sort p.equation ≡ true = and_first (has_its_sort p.sort p.equation)
      (list_all (λ p. has_its_sort p.sort p.equation) (q ∷ ps)) f in
      let rest : list_all (λ p. has_its_sort p.sort p.equation) ps ≡ true =
      and_second (has_its_sort q.sort q.equation) (list_all (λ p. has_its_sort p.sort p.equation) ps)
      (and_second (has_its_sort p.sort p.equation) (list_all (λ p. has_its_sort p.sort p.equation) (q ∷ ps)) f) in
      let equal : value_at v p.sort p.pos ≡ value_at v p.sort q.pos = e ∙ ap (λ z. value_at v z q.pos) (sym c) in
      let z = together p.sort p.pos q.pos p.equation s.middle u.middle equal here s.first (ap (equation_met v q.pos) (sym h) ∙ u.first) in (
        subst (λ o. FailTogether p.equation o (is_among (k + 1) m)) (sym x) (subst (λ o. FailTogether p.equation (not s.middle) o) (sym y) z),
        fail_evenly ps es rest hs (k + 1 + 1) w.middle m w.first
            (λ i o. a' i (omega (arith, o)) ∙ fails_later s.middle (u.middle ∷ w.middle) k i (omega (arith, o)) ∙ fails_later u.middle w.middle (k + 1) i o),
      )
