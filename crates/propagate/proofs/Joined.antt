-- Joins hold where the old fact holds, and where the post leads.
use Rattle.std.proofs.Common.{◌≡◌, ℕ, ◌+◌, ◌==◌, ℤ, ◌+ℤ◌, ◌-ℤ◌, cond, Bool, true, false, arith, refl, ap, sym, subst, ◌∙◌, List, [], ◌∷◌, ◌++◌, Option, Some}
use Rattle.std.proofs.Common.{None}
use Rattle.std.specs.Prelude.{◌||◌}
use Rattle.std.specs.List.{list_all}
use Rattle.std.proofs.lemmas.Int.{ints}
use Rattle.std.proofs.lemmas.List.{append-nil}
use Rattle.std.proofs.lemmas.Bool.{and_from}
use Rattle.fs_model.proofs.Booleans.{and_first, and_second, neither_second}
use Rattle.fs_model.proofs.Numbers.{eqb_self}
use Rattle.nf_trees.specs.NormalTerms.{Polynomial, polynomial_of_symbol}
use Rattle.nf_trees.specs.Order.{same_polynomial}
use Rattle.nf_terms.specs.Forms.{same_form}
use Rattle.nf_terms.specs.TermMeaning.{Valuation, value_of, contents, items_in}
use Rattle.nf_terms.specs.Computed.{Computed, Done, after}
use Rattle.fs_model.specs.declared.sides.Pos.{Pos}
use Rattle.nf_terms.specs.declared.form.Nf.{Nf}
use Rattle.nf_terms.specs.declared.form.Nf.TheVariants.{Num, Arr, Seq}
use Rattle.nf_sums.specs.Operations.{normal_sum, normal_difference}
use Rattle.nf_sums.proofs.Values.{goes_done, added_value, subtracted_value}
use Rattle.nf_sums.proofs.Constants.{equal_of_same}
use Rattle.nf_substitution.specs.Vectors.{number_at, array_form, list_at, vector_meaning}
use Rattle.nf_substitution.specs.Substitution.{polynomial_substituted}
use Rattle.nf_substitution.proofs.Values.{substituted_value}
use Rattle.nf_rel.specs.Literals.{NormalLiteral, is_true_in, all_true_in}
use Rattle.sym_paths.specs.Sequences.{each}
use Rattle.sym_paths.specs.Execution.{Post}
use Rattle.sym_facts.specs.Facts.{FactPosition, Fact, EquationHolds, EquationsHold, HoldsIn}
use Rattle.sym_facts.specs.Entailment.{form_like, equation_met, literal_met, false_places, Missing, entails}
use Rattle.sym_facts.proofs.FactVectors.{symbol_value}
use Rattle.propagate.specs.Joins.{Freed, symbol_like, number_tied_to, number_tied, is_alike, form_tied, tied_equation, with_equation, freed_with}
use Rattle.propagate.specs.Joins.{position_joined}
use Rattle.propagate.specs.Joins.{is_among, positions_joined, literals_kept, join}
use Rattle.propagate.proofs.Arriving.{forms_equal, equation_true, one_literal_true}
use Rattle.propagate.proofs.Passes.{FreePass, AllEquations, free_asked, equations_hold}

-- E is to hold of the new equations; P is known of the position of an equation that fails, and Q of one that is freed
module _ (v : List (Pos × Nf)) (P : Pos → Nf → Type 0) (Q : Pos → Type 0) (E : Pos → Option Nf → Type 0)
    (number_ties : (p q : Pos) (t x d e s r : Polynomial) → P p (Num t) → P q (Num x) → Q q → normal_difference t x ≡ Done d
    → normal_difference (number_at v p) (number_at v q) ≡ Done e → polynomial_substituted v d ≡ Done s → e ≡ s → normal_sum (polynomial_of_symbol q) d ≡ Done r
    → E p (Some (Num r)))
    (form_ties : (p q : Pos) (t : Nf) → P p t → P q t → Q q → form_like v p t ≡ form_like v q t → E p (Some (symbol_like q t)))
    (free : (p : Pos) → E p None) where
  abbrev pub AllFreed : List Freed → Type 0
  AllFreed [] = Unit {0}
  AllFreed (f ∷ fs) = (P f.pos f.old × Q f.pos) × AllFreed fs

  one_freed : (fs : List Freed) (f : Freed) → AllFreed fs → P f.pos f.old → Q f.pos → AllFreed (fs ++ f ∷ [])
  one_freed [] f h p q = ((p, q), tt)
  one_freed (g ∷ fs) f h p q = (h.0, one_freed fs f h.1 p q)

  number_to : (p : Pos) (t : Polynomial) (q : Pos) (o : Nf) (later : Computed (Option Nf)) (r : Nf) → P p (Num t) → P q o → Q q
      → (later ≡ Done (Some r) → E p (Some r)) → number_tied_to v p t q o later ≡ Done (Some r) → E p (Some r)
  number_to p t q (Num x) later r hp hq free_q next e =
      let i = goes_done (normal_difference t x)
      (λ d. after (normal_difference (number_at v p) (number_at v q))
      (λ c. after (polynomial_substituted v d)
      (λ s. cond (same_polynomial c s) (after (normal_sum (polynomial_of_symbol q) d) (λ z. Done (Some (Num z)))) later)))
      (Some r) e in
      let j = goes_done (normal_difference (number_at v p) (number_at v q))
      (λ c. after (polynomial_substituted v i.middle)
      (λ s. cond (same_polynomial c s) (after (normal_sum (polynomial_of_symbol q) i.middle) (λ z. Done (Some (Num z)))) later))
      (Some r) i.next in
      let k = goes_done (polynomial_substituted v i.middle)
      (λ s. cond (same_polynomial j.middle s) (after (normal_sum (polynomial_of_symbol q) i.middle) (λ z. Done (Some (Num z)))) later) (Some r) j.next in
      compared i.middle j.middle k.middle i.first j.first k.first k.next
    where
      by_test : (d c s : Polynomial) → normal_difference t x ≡ Done d → normal_difference (number_at v p) (number_at v q) ≡ Done c
          → polynomial_substituted v d ≡ Done s → (m : Bool)
          → same_polynomial c s ≡ m
          → cond {A = Computed (Option Nf)} m (after (normal_sum (polynomial_of_symbol q) d) (λ z. Done (Some (Num z)))) later ≡ Done (Some r) → E p (Some r)
      by_test d c s hd hc hs true m g =
          let z = goes_done (normal_sum (polynomial_of_symbol q) d) (λ y. Done (Some (Num y))) (Some r) g in
          let y : Num z.middle ≡ r = cc z.next in
          subst (λ a. E p (Some a)) y (number_ties p q t x d c s z.middle hp hq free_q hd hc hs (equal_of_same c s m) z.first)
      by_test d c s hd hc hs false m g = next g

      compared : (d c s : Polynomial) → normal_difference t x ≡ Done d → normal_difference (number_at v p) (number_at v q) ≡ Done c
          → polynomial_substituted v d ≡ Done s
          → cond {A = Computed (Option Nf)} (same_polynomial c s) (after (normal_sum (polynomial_of_symbol q) d) (λ z. Done (Some (Num z)))) later
          ≡ Done (Some r) → E p (Some r)
      compared d c s hd hc hs g = by_test d c s hd hc hs (same_polynomial c s) refl g
  number_to p t q (Arr x) later r hp hq free_q next e = next e
  number_to p t q (Seq x) later r hp hq free_q next e = next e

  number_tied_holds : (p : Pos) (t : Polynomial) (fs : List Freed) (r : Nf) → P p (Num t) → AllFreed fs → number_tied v p t fs ≡ Done (Some r) → E p (Some r)
  number_tied_holds p t [] r hp h e = absurd (cc e)
  number_tied_holds p t (f ∷ fs) r hp h e = number_to p t f.pos f.old (number_tied v p t fs) r hp h.0.0 h.0.1 (λ g. number_tied_holds p t fs r hp h.1 g) e

  form_tied_holds : (p : Pos) (t : Nf) (fs : List Freed) (r : Nf) → P p t → AllFreed fs → form_tied v p t fs ≡ Some r → E p (Some r)
  form_tied_holds p t [] r hp h e = absurd (cc e)
  form_tied_holds p t (f ∷ fs) r hp h e = by_test (is_alike v p t f) refl e (λ g. form_tied_holds p t fs r hp h.1 g)
    where
      by_test : (m : Bool) → is_alike v p t f ≡ m → cond m (Some (symbol_like f.pos t)) (form_tied v p t fs) ≡ Some r
          → (form_tied v p t fs ≡ Some r → E p (Some r)) → E p (Some r)
      by_test true m g next =
          let i : t ≡ f.old = forms_equal t f.old (and_first (same_form t f.old) (same_form (form_like v p t) (form_like v f.pos f.old)) m) in
          let j : form_like v p t ≡ form_like v f.pos f.old = forms_equal (form_like v p t) (form_like v f.pos f.old)
          (and_second (same_form t f.old) (same_form (form_like v p t) (form_like v f.pos f.old)) m) in
          let y : symbol_like f.pos t ≡ r = cc g in
          subst (λ a. E p (Some a)) y (form_ties p f.pos t hp (subst (P f.pos) (sym i) h.0.0) h.0.1 (j ∙ sym (ap (form_like v f.pos) i)))
      by_test false m g next = next g

  tied_holds : (p : Pos) (t : Nf) (fs : List Freed) (o : Option Nf) → P p t → AllFreed fs → tied_equation v p t fs ≡ Done o → E p o
  tied_holds p t fs None hp h e = free p
  tied_holds p (Num t) fs (Some r) hp h e = number_tied_holds p t fs r hp h e
  tied_holds p (Arr a) fs (Some r) hp h e = form_tied_holds p (Arr a) fs r hp h (let k : form_tied v p (Arr a) fs ≡ Some r = cc e in k)
  tied_holds p (Seq l) fs (Some r) hp h e = form_tied_holds p (Seq l) fs r hp h (let k : form_tied v p (Seq l) fs ≡ Some r = cc e in k)

  freed_known : (p : Pos) (t : Nf) (o : Option Nf) (fs : List Freed) → P p t → AllFreed fs → (o ≡ None → Q p) → AllFreed (freed_with p t o fs)
  freed_known p t None fs hp h q = one_freed fs (record { pos = p; old = t }) h hp (q refl)
  freed_known p t (Some r) fs hp h q = h

  -- what is known of a position: E of its equation where that doesn't fail, and else P of its form
  abbrev pub Known : Bool → Pos → Option Nf → Type 0
  Known false p o = E p o
  Known true p None = Unit {0}
  Known true p (Some t) = P p t

  abbrev Later : (List Freed → Computed (List FactPosition)) → Type 0
  Later later = (fs : List Freed) (qs : List FactPosition) → AllFreed fs → later fs ≡ Done qs → FreePass (λ s. Q) qs → AllEquations E qs

  kept : (p : FactPosition) (fs : List Freed) (later : List Freed → Computed (List FactPosition)) (qs : List FactPosition) → E p.pos p.equation → AllFreed fs
      → Later later → after (later fs) (λ rest. Done (p ∷ rest)) ≡ Done qs → FreePass (λ s. Q) qs → AllEquations E qs
  kept p fs later qs h g next e m =
      let s = goes_done (later fs) (λ rest. Done (p ∷ rest)) qs e in
      let k : p ∷ s.middle ≡ qs = cc s.next in
      let n : FreePass (λ s. Q) (p ∷ s.middle) = subst (FreePass (λ s. Q)) (sym k) m in
      subst (AllEquations E) k (h, next fs s.middle g s.first n.1)

  by_position : (p : FactPosition) (b : Bool) (o : Option Nf) → p.equation ≡ o
      → (fs : List Freed) (later : List Freed → Computed (List FactPosition)) (qs : List FactPosition) → Known b p.pos o → AllFreed fs → Later later
      → position_joined v b p o fs later ≡ Done qs → FreePass (λ s. Q) qs → AllEquations E qs
  by_position p false o s fs later qs h g next e m = kept p fs later qs (subst (E p.pos) (sym s) h) g next e m
  by_position p true None s fs later qs h g next e m = kept p fs later qs (subst (E p.pos) (sym s) (free p.pos)) g next e m
  by_position p true (Some t) s fs later qs h g next e m =
      let i = goes_done (tied_equation v p.pos t fs) (λ r. after (later (freed_with p.pos t r fs)) (λ rest. Done (with_equation p r ∷ rest))) qs e in
      let j = goes_done (later (freed_with p.pos t i.middle fs)) (λ rest. Done (with_equation p i.middle ∷ rest)) qs i.next in
      let k : with_equation p i.middle ∷ j.middle ≡ qs = cc j.next in
      let n : FreePass (λ s. Q) (with_equation p i.middle ∷ j.middle) = subst (FreePass (λ s. Q)) (sym k) m in
      subst (AllEquations E) k (
        tied_holds p.pos t fs i.middle h g i.first,
        next (freed_with p.pos t i.middle fs) j.middle (freed_known p.pos t i.middle fs h g n.0) j.first n.1,
      )

  abbrev pub AllKnown : ℕ → List ℕ → List FactPosition → Type 0
  AllKnown k missing [] = Unit {0}
  AllKnown k missing (p ∷ ps) = Known (is_among k missing) p.pos p.equation × AllKnown (k + 1) missing ps

  pub positions_hold : (k : ℕ) (missing : List ℕ) (fs : List Freed) (ps qs : List FactPosition) → AllKnown k missing ps → AllFreed fs
      → positions_joined v k missing fs ps ≡ Done qs → FreePass (λ s. Q) qs → AllEquations E qs
  positions_hold k missing fs [] qs h g e m = let s : [] ≡ qs = cc e in subst (AllEquations E) s tt
  positions_hold k missing fs (p ∷ ps) qs h g e m =
      by_position p (is_among k missing) p.equation refl fs (λ gs. positions_joined v (k + 1) missing gs ps) qs h.0 g
      (λ gs rs hg er n. positions_hold (k + 1) missing gs ps rs h.1 hg er n) e m

-- the literals that are kept pass where all do
pub kept_pass : (test : NormalLiteral → Bool) (k : ℕ) (missing : List ℕ) (ls : List NormalLiteral) → list_all test ls ≡ true
    → list_all test (literals_kept k missing ls) ≡ true
kept_pass test k missing [] h = refl
kept_pass test k missing (l ∷ ls) h = by_test (is_among k missing) (kept_pass test (k + 1) missing ls (and_second (test l) (list_all test ls) h))
  where
    by_test : (b : Bool) → list_all test (literals_kept (k + 1) missing ls) ≡ true
        → list_all test (cond b (literals_kept (k + 1) missing ls) (l ∷ literals_kept (k + 1) missing ls)) ≡ true
    by_test true g = g
    by_test false g = and_from _ _ (and_first (test l) (list_all test ls) h) g

-- what a join goes through
pub record Joining (old : Fact) (post : Post) (missing : Missing) (new : Fact) : Type 0 where
  pub positions : List FactPosition
  pub joined : positions_joined post.vector 0 missing.equations [] old.positions ≡ Done positions
  pub whole : record { positions = positions; literals = literals_kept 0 missing.literals old.literals } ≡ new

pub joining : (old new : Fact) (post : Post) (missing : Missing) → join old post missing ≡ Done new → Joining old post missing new
joining old new post missing e =
    let s = goes_done (positions_joined post.vector 0 missing.equations [] old.positions)
    (λ ps. Done (record { positions = ps; literals = literals_kept 0 missing.literals old.literals })) new e in
    record {
      positions = s.middle;
      joined = s.first;
      whole = (let k : record { positions = s.middle; literals = literals_kept 0 missing.literals old.literals } ≡ new = cc s.next in k);
    }

-- ---- where the old fact holds
module _ (w : Valuation) (v : List (Pos × Nf)) where
  abbrev Old : Pos → Nf → Type 0
  Old p o = EquationHolds w p (Some o)

  old_numbers : (p q : Pos) (t x d e s r : Polynomial) → Old p (Num t) → Old q (Num x) → Unit {0} → normal_difference t x ≡ Done d
      → normal_difference (number_at v p) (number_at v q) ≡ Done e → polynomial_substituted v d ≡ Done s → e ≡ s
      → normal_sum (polynomial_of_symbol q) d ≡ Done r
      → w.scalar p ≡ value_of w r
  old_numbers p q t x d e s r hp hq u hd he hs same hr =
      let i : w.scalar p ≡ value_of w t = hp in
      let j : w.scalar q ≡ value_of w x = hq in
      omega (arith, ints, i, j, subtracted_value w t x d hd, added_value w (polynomial_of_symbol q) d r hr, symbol_value w q)

  old_forms : (p q : Pos) (t : Nf) → Old p t → Old q t → Unit {0} → form_like v p t ≡ form_like v q t → EquationHolds w p (Some (symbol_like q t))
  old_forms p q (Num t) hp hq u m = let i : w.scalar p ≡ value_of w t = hp in let j : w.scalar q ≡ value_of w t = hq in i ∙ sym j ∙ sym (symbol_value w q)
  old_forms p q (Arr t) hp hq u m = let i : w.array p ≡ contents w t = hp in let j : w.array q ≡ contents w t = hq in i ∙ sym j
  old_forms p q (Seq t) hp hq u m = let i : w.list p ≡ items_in w t = hp in let j : w.list q ≡ items_in w t = hq in i ∙ sym j ∙ sym (append-nil (w.list q))

  old_known : (b : Bool) (p : Pos) (o : Option Nf) → EquationHolds w p o → Known v Old (λ q. Unit {0}) (EquationHolds w) old_numbers old_forms (λ q. tt) b p o
  old_known false p o h = h
  old_known true p None h = tt
  old_known true p (Some t) h = h

  all_old : (k : ℕ) (missing : List ℕ) (ps : List FactPosition) → EquationsHold w ps
      → AllKnown v Old (λ q. Unit {0}) (EquationHolds w) old_numbers old_forms (λ q. tt) k missing ps
  all_old k missing [] h = tt
  all_old k missing (p ∷ ps) h = (old_known (is_among k missing) p.pos p.equation h.0, all_old (k + 1) missing ps h.1)

pub join_of_old : (w : Valuation) (old new : Fact) (post : Post) (missing : Missing) → join old post missing ≡ Done new → HoldsIn w old → HoldsIn w new
join_of_old w old new post missing e h =
    let j = joining old new post missing e in
    let v = post.vector in
    subst (HoldsIn w) j.whole (record {
      equations = equations_hold w j.positions
          (positions_hold v (Old w v) (λ q. Unit {0}) (EquationHolds w) (old_numbers w v) (old_forms w v)
          (λ q. tt) 0 missing.equations [] old.positions j.positions (all_old w v 0 missing.equations old.positions h.equations) tt j.joined
          (free_asked j.positions));
      literals = kept_pass (is_true_in w) 0 missing.literals old.literals h.literals;
    })

-- ---- where the post leads
-- a place that is not among the false ones is true
abbrev Marks : ℕ → List ℕ → List Bool → Type 0
Marks k missing [] = Unit {0}
Marks k missing (b ∷ bs) = (is_among k missing ≡ false → b ≡ true) × Marks (k + 1) missing bs

abbrev MoreMissing : List ℕ → List ℕ → Type 0
MoreMissing ms ns = (j : ℕ) → is_among j ns ≡ false → is_among j ms ≡ false

weaker : (k : ℕ) (ms ns : List ℕ) (bs : List Bool) → MoreMissing ms ns → Marks k ms bs → Marks k ns bs
weaker k ms ns [] f h = tt
weaker k ms ns (b ∷ bs) f h = ((λ e. h.0 (f k e)), weaker (k + 1) ms ns bs f h.1)

marks : (k : ℕ) (bs : List Bool) → Marks k (false_places k bs) bs
marks k [] = tt
marks k (true ∷ bs) = ((λ e. refl), marks (k + 1) bs)
marks k (false ∷ bs) = (
  (λ e. let c : true ≡ false = ap (λ t. t || is_among k (false_places (k + 1) bs)) (sym (eqb_self k)) ∙ e in absurd (cc c)),
  weaker (k + 1) (false_places (k + 1) bs) (k ∷ false_places (k + 1) bs) bs (λ j e. neither_second (k == j) (is_among j (false_places (k + 1) bs)) e)
      (marks (k + 1) bs),
)

module _ (w : Valuation) (post : Post) where
  -- the arriving forms are what the pair has that the vector means
  abbrev Arrives : Pos → Nf → Type 0
  Arrives p o = Unit {0}

  new_numbers : (p q : Pos) (t x d e s r : Polynomial) → Arrives p (Num t) → Arrives q (Num x) → Unit {0} → normal_difference t x ≡ Done d
      → normal_difference (number_at post.vector p) (number_at post.vector q) ≡ Done e → polynomial_substituted post.vector d ≡ Done s → e ≡ s
      → normal_sum (polynomial_of_symbol q) d ≡ Done r
      → (vector_meaning post.vector w).scalar p ≡ value_of (vector_meaning post.vector w) r
  new_numbers p q t x d e s r hp hq u hd he hs same hr =
      let n = vector_meaning post.vector w in
      let a = number_at post.vector p in
      let b = number_at post.vector q in
      let k : value_of w e ≡ value_of n d = ap (value_of w) same ∙ substituted_value w post.vector d s hs in
      let l : value_of n r ≡ n.scalar q +ℤ value_of n d = added_value n (polynomial_of_symbol q) d r hr ∙ ap (λ z. z +ℤ value_of n d) (symbol_value n q) in
      sum_back (n.scalar p) (n.scalar q) (value_of w a) (value_of w b) (value_of w e) (value_of n d) (value_of n r) refl refl (subtracted_value w a b e he) k l
    where
      sum_back : (p q a b e d r : ℤ) → p ≡ a → q ≡ b → e ≡ a -ℤ b → e ≡ d → r ≡ q +ℤ d → p ≡ r
      sum_back p q a b e d r i j k l m = omega (arith, ints)

  new_forms : (p q : Pos) (t : Nf) → Arrives p t → Arrives q t → Unit {0} → form_like post.vector p t ≡ form_like post.vector q t
      → EquationHolds (vector_meaning post.vector w) p (Some (symbol_like q t))
  new_forms p q (Num t) hp hq u m =
      let k : number_at post.vector p ≡ number_at post.vector q = cc m in
      let i : (vector_meaning post.vector w).scalar p ≡ (vector_meaning post.vector w).scalar q = ap (value_of w) k in
      i ∙ sym (symbol_value (vector_meaning post.vector w) q)
  new_forms p q (Arr t) hp hq u m = let k : array_form post.vector p ≡ array_form post.vector q = cc m in ap (contents w) k
  new_forms p q (Seq t) hp hq u m =
      let k : list_at post.vector p ≡ list_at post.vector q = cc m in
      let i : (vector_meaning post.vector w).list p ≡ (vector_meaning post.vector w).list q = ap (items_in w) k in
      i ∙ sym (append-nil ((vector_meaning post.vector w).list q))

  new_known : (f b : Bool) (p : Pos) (o : Option Nf) → (f ≡ false → b ≡ true) → equation_met post.vector p o ≡ Done b
      → Known post.vector Arrives (λ q. Unit {0}) (EquationHolds (vector_meaning post.vector w)) new_numbers new_forms (λ q. tt) f p o
  new_known false b p o h e = equation_true w post.vector p o b e (h refl)
  new_known true b p None h e = tt
  new_known true b p (Some t) h e = tt

  all_new : (k : ℕ) (missing : List ℕ) (ps : List FactPosition) (bs : List Bool) → each (λ p. equation_met post.vector p.pos p.equation) ps ≡ Done bs
      → Marks k missing bs → AllKnown post.vector Arrives (λ q. Unit {0}) (EquationHolds (vector_meaning post.vector w)) new_numbers new_forms
      (λ q. tt) k missing ps
  all_new k missing [] bs e m = tt
  all_new k missing (p ∷ ps) bs e m =
      let s = goes_done (equation_met post.vector p.pos p.equation)
      (λ y. after (each (λ q. equation_met post.vector q.pos q.equation) ps) (λ ys. Done (y ∷ ys))) bs e in
      let t = goes_done (each (λ q. equation_met post.vector q.pos q.equation) ps) (λ ys. Done (s.middle ∷ ys)) bs s.next in
      let k' : bs ≡ s.middle ∷ t.middle = cc t.next in
      let m' : Marks k missing (s.middle ∷ t.middle) = subst (Marks k missing) k' m in
      (new_known (is_among k missing) s.middle p.pos p.equation m'.0 s.first, all_new (k + 1) missing ps t.middle t.first m'.1)

  literals_new : (k : ℕ) (missing : List ℕ) (ls : List NormalLiteral) (bs : List Bool) → all_true_in w post.conditions ≡ true
      → each (λ l. literal_met post l) ls ≡ Done bs → Marks k missing bs → all_true_in (vector_meaning post.vector w) (literals_kept k missing ls) ≡ true
  literals_new k missing [] bs c e m = refl
  literals_new k missing (l ∷ ls) bs c e m =
      let s = goes_done (literal_met post l) (λ y. after (each (λ x. literal_met post x) ls) (λ ys. Done (y ∷ ys))) bs e in
      let t = goes_done (each (λ x. literal_met post x) ls) (λ ys. Done (s.middle ∷ ys)) bs s.next in
      let k' : bs ≡ s.middle ∷ t.middle = cc t.next in
      let m' : Marks k missing (s.middle ∷ t.middle) = subst (Marks k missing) k' m in
      by_test (is_among k missing) (λ f. one_literal_true w post l s.middle c s.first (m'.0 f)) refl (literals_new (k + 1) missing ls t.middle c t.first m'.1)
    where
      by_test : (b : Bool) → (is_among k missing ≡ false → is_true_in (vector_meaning post.vector w) l ≡ true) → is_among k missing ≡ b
          → all_true_in (vector_meaning post.vector w) (literals_kept (k + 1) missing ls) ≡ true
          → all_true_in (vector_meaning post.vector w) (cond b (literals_kept (k + 1) missing ls) (l ∷ literals_kept (k + 1) missing ls)) ≡ true
      by_test true f i g = g
      by_test false f i g = and_from _ _ (f i) g

pub join_of_post : (w : Valuation) (old new : Fact) (post : Post) (missing : Missing) → entails post old ≡ Done missing → join old post missing ≡ Done new
    → all_true_in w post.conditions ≡ true → HoldsIn (vector_meaning post.vector w) new
join_of_post w old new post missing g e c =
    let j = joining old new post missing e in
    let u = vector_meaning post.vector w in
    let a = goes_done (each (λ p. equation_met post.vector p.pos p.equation) old.positions)
    (λ es. after (each (λ l. literal_met post l) old.literals) (λ ls. Done (record { equations = false_places 0 es; literals = false_places 0 ls }))) missing g
    in
    let b = goes_done (each (λ l. literal_met post l) old.literals)
    (λ ls. Done (record { equations = false_places 0 a.middle; literals = false_places 0 ls })) missing a.next in
    let f : record { equations = false_places 0 a.middle; literals = false_places 0 b.middle } ≡ missing = cc b.next in
    let me : Marks 0 missing.equations a.middle = subst (λ z. Marks 0 z a.middle) (ap (λ (z : Missing). z.equations) f) (marks 0 a.middle) in
    let ml : Marks 0 missing.literals b.middle = subst (λ z. Marks 0 z b.middle) (ap (λ (z : Missing). z.literals) f) (marks 0 b.middle) in
    subst (HoldsIn u) j.whole (record {
      equations = equations_hold u j.positions
          (positions_hold post.vector (Arrives w post) (λ q. Unit {0}) (EquationHolds u) (new_numbers w post) (new_forms w post)
          (λ q. tt) 0 missing.equations [] old.positions j.positions (all_new w post 0 missing.equations old.positions a.middle a.first me) tt j.joined
          (free_asked j.positions));
      literals = literals_new w post 0 missing.literals old.literals b.middle c b.first ml;
    })
