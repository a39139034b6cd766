-- The rebase of a post in whose vector each couple has equal values is even.
use Rattle.std.proofs.Common.{◌≡◌, cond, Bool, true, false, refl, ap, sym, subst, ◌∙◌, List, [], ◌∷◌, ◌++◌, take, Option, Some, None, map}
use Rattle.fs_model.specs.declared.parts.Sort.{Sort}
use Rattle.fs_model.specs.declared.parts.Sort.TheVariants as sort
use Rattle.fs_pair.specs.declared.positions.Position.{Position}
use Rattle.nf_trees.specs.NormalTerms.{Polynomial, Zero, polynomial_of_symbol}
use Rattle.nf_terms.specs.Forms.{same_form}
use Rattle.nf_terms.specs.Computed.{Computed, Done, after}
use Rattle.fs_model.specs.declared.sides.Pos.{Pos}
use Rattle.nf_terms.specs.declared.form.Nf.{Nf}
use Rattle.nf_terms.specs.declared.form.Nf.TheVariants.{Num}
use Rattle.nf_terms.proofs.Computed.{same_Done}
use Rattle.nf_sums.specs.Operations.{normal_sum, normal_difference}
use Rattle.nf_sums.proofs.Values.{goes_done}
use Rattle.nf_substitution.specs.Vectors.{number_at}
use Rattle.nf_substitution.specs.Substitution.{polynomial_substituted}
use Rattle.sym_paths.specs.Execution.{Post}
use Rattle.sym_facts.specs.Facts.{FactPosition, Fact, own_symbol, form_or_symbol, most_literals}
use Rattle.sym_facts.specs.Entailment.{form_substituted}
use Rattle.search_tables.specs.Rebases.{value_at, number_held, form_held, first_pass, second_pass, number_tied_to, number_tied, form_tied, rebase_tied_equation}
use Rattle.search_tables.specs.Rebases.{equation_found}
use Rattle.search_tables.specs.Rebases.{freed_in_pass, position_with_equation, third_by, third_pass, with_needed, conditions_over, rebase}
use Rattle.alike_searches.proofs.RisenSubstitutions.{self_difference}
use Rattle.alike_searches.specs.EvenFacts.{AreEvenValues, AreEvenPositions, IsEvenFact}
use Rattle.alike_searches.proofs.Extending.{extends_self}
use Rattle.alike_searches.proofs.Freeing.{IsFreed, place, Marks, passes_mark}
use Rattle.alike_searches.proofs.Ties.{same_of_equal, symbol_more}

module _ (v ms : List (Pos × Nf)) where
  -- ---- where there is no tie, more freed positions are looked at

  record PassesOn (t : Polynomial) (s : Sort) (q : Pos) (l : Computed (Option Nf)) : Type 0 where
    passes : (m : Computed (Option Nf)) → number_tied_to v ms t s q m ≡ m
    later : l ≡ Done None

  number_passes : (t : Polynomial) (s : Sort) (q : Pos) (l : Computed (Option Nf)) → number_tied_to v ms t s q l ≡ Done None → PassesOn t s q l
  number_passes t sort.Scalar q l e =
      let a = goes_done (normal_difference t (number_at v q))
      (λ d. cond (number_held ms d) (after (polynomial_substituted ms d) (λ e. after (normal_sum (polynomial_of_symbol q) e) (λ r. Done (Some (Num r))))) l)
      None e in
      by_test a.middle (number_held ms a.middle) refl a.first a.next
    where
      by_test : (d : Polynomial) (b : Bool) → number_held ms d ≡ b → normal_difference t (number_at v q) ≡ Done d
          → cond {A = Computed (Option Nf)} b
          (after (polynomial_substituted ms d) (λ e. after (normal_sum (polynomial_of_symbol q) e) (λ r. Done (Some (Num r))))) l
          ≡ Done None → PassesOn t sort.Scalar q l
      by_test d true h i w =
          let x = goes_done (polynomial_substituted ms d) (λ e. after (normal_sum (polynomial_of_symbol q) e) (λ r. Done (Some (Num r)))) None w in
          let y = goes_done (normal_sum (polynomial_of_symbol q) x.middle) (λ r. Done (Some (Num r))) None x.next in
          absurd (let n : Some (Num y.middle) ≡ None = same_Done (Some (Num y.middle)) None y.next in cc n)
      by_test d false h i w =
          record {
            passes =
                λ m.
                (λ n. after (i n)
                (λ d. cond {A = Computed (Option Nf)} (number_held ms d)
                (after (polynomial_substituted ms d) (λ e. after (normal_sum (polynomial_of_symbol q) e) (λ r. Done (Some (Num r))))) m))
                ∙ ap
                (λ b. cond {A = Computed (Option Nf)} b
                (after (polynomial_substituted ms d) (λ e. after (normal_sum (polynomial_of_symbol q) e) (λ r. Done (Some (Num r))))) m)
                h;
            later = w;
          }
  number_passes t sort.Array q l e = record { passes = λ m. refl; later = e }
  number_passes t sort.Port q l e = record { passes = λ m. refl; later = e }

  number_more : (t : Polynomial) (qs rs : List Position) → number_tied v ms t qs ≡ Done None → number_tied v ms t (qs ++ rs) ≡ number_tied v ms t rs
  number_more t [] rs e = refl
  number_more t (q ∷ qs) rs e =
      let h = number_passes t q.sort q.pos (number_tied v ms t qs) e in
      h.passes (number_tied v ms t (qs ++ rs)) ∙ number_more t qs rs h.later

  form_more : (t : Nf) (qs rs : List Position) → form_tied v t qs ≡ None → form_tied v t (qs ++ rs) ≡ form_tied v t rs
  form_more t [] rs e = refl
  form_more t (q ∷ qs) rs e = by_test (same_form t (value_at v q.sort q.pos)) e (form_more t qs rs)
    where
      by_test : (b : Bool) → cond b (Some (own_symbol q.sort q.pos)) (form_tied v t qs) ≡ None
          → (form_tied v t qs ≡ None → form_tied v t (qs ++ rs) ≡ form_tied v t rs)
          → cond b (Some (own_symbol q.sort q.pos)) (form_tied v t (qs ++ rs)) ≡ form_tied v t rs
      by_test true h next = absurd (cc h)
      by_test false h next = next h

  -- ---- a value is tied to the position that has it

  number_self : (p : Pos) (r : Option Nf) → number_tied_to v ms (number_at v p) sort.Scalar p (Done None) ≡ Done r → r ≡ Some (Num (polynomial_of_symbol p))
  number_self p r e =
      let a = goes_done (normal_difference (number_at v p) (number_at v p))
      (λ d. cond (number_held ms d) (after (polynomial_substituted ms d) (λ e. after (normal_sum (polynomial_of_symbol p) e) (λ r. Done (Some (Num r)))))
      (Done None)) r e in
      let d : a.middle ≡ Zero = self_difference (number_at v p) a.middle a.first in
      let k : after (normal_sum (polynomial_of_symbol p) Zero) (λ r. Done (Some (Num r))) ≡ Done r =
      sym
      (ap
      (λ x. cond {A = Computed (Option Nf)} (number_held ms x)
      (after (polynomial_substituted ms x) (λ e. after (normal_sum (polynomial_of_symbol p) e) (λ r. Done (Some (Num r))))) (Done None)) d) ∙ a.next in
      let m = goes_done (normal_sum (polynomial_of_symbol p) Zero) (λ r. Done (Some (Num r))) r k in
      sym (same_Done (Some (Num m.middle)) r m.next) ∙ ap (λ z. Some (Num z)) (symbol_more p m.middle m.first)

  form_self : (p : Position) (t : Nf) → t ≡ value_at v p.sort p.pos → form_tied v t (p ∷ []) ≡ Some (own_symbol p.sort p.pos)
  form_self p t e = ap (λ b. cond {A = Option Nf} b (Some (own_symbol p.sort p.pos)) None) (same_of_equal t (value_at v p.sort p.pos) e)

  -- where the value of a position is not tied, it is tied to the position once that is freed
  tied_to_freed : (p : Position) (s : Sort) → p.sort ≡ s → (qs : List Position) (r : Option Nf) → rebase_tied_equation v ms (value_at v s p.pos) qs ≡ Done None
      → rebase_tied_equation v ms (value_at v s p.pos) (qs ++ p ∷ []) ≡ Done r → r ≡ Some (own_symbol s p.pos)
  tied_to_freed p sort.Scalar c qs r g h =
      number_self p.pos r
      (ap (λ z. number_tied_to v ms (number_at v p.pos) z p.pos (Done None)) (sym c) ∙ sym (number_more (number_at v p.pos) qs (p ∷ []) g) ∙ h)
  tied_to_freed p sort.Array c qs r g h =
      let t = value_at v sort.Array p.pos in
      sym (same_Done (form_tied v t (qs ++ p ∷ [])) r h) ∙ form_more t qs (p ∷ []) (same_Done (form_tied v t qs) None g)
      ∙ form_self p t (ap (λ z. value_at v z p.pos) (sym c)) ∙ ap (λ z. Some (own_symbol z p.pos)) c
  tied_to_freed p sort.Port c qs r g h =
      let t = value_at v sort.Port p.pos in
      sym (same_Done (form_tied v t (qs ++ p ∷ [])) r h) ∙ form_more t qs (p ∷ []) (same_Done (form_tied v t qs) None g)
      ∙ form_self p t (ap (λ z. value_at v z p.pos) (sym c)) ∙ ap (λ z. Some (own_symbol z p.pos)) c

  -- ---- what the second position of a couple gets

  -- where the first one was free before
  after_free : (s : Sort) (p : Pos) (qs : List Position) (r : Option Nf) → IsFreed v ms s p → equation_found v ms (value_at v s p) qs ≡ Done r
      → r ≡ Some (own_symbol s p)
  after_free s p qs r f g =
      let b = f.gives ms (extends_self ms) in
      let k : after (form_substituted ms (value_at v s p)) (λ u. Done (Some u)) ≡ Done r =
      sym
      (ap
      (λ z. cond {A = Computed (Option Nf)} z (after (form_substituted ms (value_at v s p)) (λ u. Done (Some u)))
      (rebase_tied_equation v ms (value_at v s p) qs)) b.held)
      ∙ g in
      let t = goes_done (form_substituted ms (value_at v s p)) (λ u. Done (Some u)) r k in
      sym (same_Done (Some t.middle) r t.next) ∙ ap Some (b.back t.middle t.first)

  -- where the first one is freed in the third pass
  after_freed : (p : Position) (qs : List Position) (r : Option Nf) → equation_found v ms (value_at v p.sort p.pos) qs ≡ Done None
      → equation_found v ms (value_at v p.sort p.pos) (qs ++ p ∷ []) ≡ Done r → r ≡ Some (own_symbol p.sort p.pos)
  after_freed p qs r g h = by_test (form_held ms (value_at v p.sort p.pos)) g h
    where
      by_test : (b : Bool) → cond {A = Computed (Option Nf)} b (after (form_substituted ms (value_at v p.sort p.pos)) (λ u. Done (Some u)))
          (rebase_tied_equation v ms (value_at v p.sort p.pos) qs) ≡ Done None
          → cond {A = Computed (Option Nf)} b (after (form_substituted ms (value_at v p.sort p.pos)) (λ u. Done (Some u)))
          (rebase_tied_equation v ms (value_at v p.sort p.pos) (qs ++ p ∷ [])) ≡ Done r → r ≡ Some (own_symbol p.sort p.pos)
      by_test true i j =
          let t = goes_done (form_substituted ms (value_at v p.sort p.pos)) (λ u. Done (Some u)) None i in
          absurd (let c : Some t.middle ≡ None = same_Done (Some t.middle) None t.next in cc c)
      by_test false i j = tied_to_freed p p.sort refl qs r i j

  second_form : (p q : Position) (qs : List Position) (o r : Option Nf) → value_at v p.sort p.pos ≡ value_at v q.sort q.pos
      → equation_found v ms (value_at v p.sort p.pos) qs ≡ Done o → equation_found v ms (value_at v q.sort q.pos) (freed_in_pass p o qs) ≡ Done r
      → r ≡ Some (form_or_symbol p.sort p.pos o)
  second_form p q qs None r e g h = after_freed p qs r g (ap (λ t. equation_found v ms t (qs ++ p ∷ [])) e ∙ h)
  second_form p q qs (Some y) r e g h = same_Done r (Some y) (sym h ∙ ap (λ t. equation_found v ms t qs) (sym e) ∙ g)

  -- ---- the third pass

  third_even : (ps : List Position) → AreEvenValues v (map place ps) → (bs : List Bool) → Marks v ms ps bs → (qs : List Position) (rs : List FactPosition)
      → third_pass v ms ps bs qs ≡ Done rs → AreEvenPositions rs
  third_even [] e bs m qs rs g = subst AreEvenPositions (same_Done [] rs g) tt
  third_even (p ∷ []) e bs m qs rs g = absurd e
  third_even (p ∷ q ∷ ps) e [] m qs rs g = absurd m
  third_even (p ∷ q ∷ ps) e (b ∷ []) m qs rs g = absurd m
  third_even (p ∷ q ∷ ps) e (b ∷ true ∷ bs) (d, f, m) qs rs g = absurd (cc d)
  third_even (p ∷ q ∷ ps) (c, e, es) (true ∷ false ∷ bs) (d, f, m) qs rs g =
      let s = goes_done (third_by false v ms q qs (λ gs. third_pass v ms ps bs gs)) (λ rest. Done (position_with_equation p None ∷ rest)) rs g in
      let t = goes_done (equation_found v ms (value_at v q.sort q.pos) qs)
      (λ o. after (third_pass v ms ps bs (freed_in_pass q o qs)) (λ rest. Done (position_with_equation q o ∷ rest))) s.middle s.first in
      let u = goes_done (third_pass v ms ps bs (freed_in_pass q t.middle qs)) (λ rest. Done (position_with_equation q t.middle ∷ rest)) s.middle t.next in
      let k : position_with_equation p None ∷ position_with_equation q t.middle ∷ u.middle ≡ rs =
      ap (λ z. position_with_equation p None ∷ z) (same_Done (position_with_equation q t.middle ∷ u.middle) s.middle u.next)
      ∙ same_Done (position_with_equation p None ∷ s.middle) rs s.next in
      subst AreEvenPositions k (
        after_free p.sort p.pos qs t.middle (f refl) (ap (λ z. equation_found v ms z qs) e ∙ t.first),
        third_even ps es bs m (freed_in_pass q t.middle qs) u.middle u.first,
      )
  third_even (p ∷ q ∷ ps) (c, e, es) (false ∷ false ∷ bs) (d, f, m) qs rs g =
      let a = goes_done (equation_found v ms (value_at v p.sort p.pos) qs)
      (λ o. after (third_by false v ms q (freed_in_pass p o qs) (λ gs. third_pass v ms ps bs gs)) (λ rest. Done (position_with_equation p o ∷ rest))) rs g in
      let gs = freed_in_pass p a.middle qs in
      let s = goes_done (third_by false v ms q gs (λ gs. third_pass v ms ps bs gs)) (λ rest. Done (position_with_equation p a.middle ∷ rest)) rs a.next in
      let t = goes_done (equation_found v ms (value_at v q.sort q.pos) gs)
      (λ o. after (third_pass v ms ps bs (freed_in_pass q o gs)) (λ rest. Done (position_with_equation q o ∷ rest))) s.middle s.first in
      let u = goes_done (third_pass v ms ps bs (freed_in_pass q t.middle gs)) (λ rest. Done (position_with_equation q t.middle ∷ rest)) s.middle t.next in
      let k : position_with_equation p a.middle ∷ position_with_equation q t.middle ∷ u.middle ≡ rs =
      ap (λ z. position_with_equation p a.middle ∷ z) (same_Done (position_with_equation q t.middle ∷ u.middle) s.middle u.next)
      ∙ same_Done (position_with_equation p a.middle ∷ s.middle) rs s.next in
      subst AreEvenPositions k (second_form p q qs a.middle t.middle e a.first t.first, third_even ps es bs m (freed_in_pass q t.middle gs) u.middle u.first)

pub rebase_even : (post : Post) (ps : List Position) (f : Fact) → AreEvenValues post.vector (map place ps) → rebase post ps ≡ Done f → IsEvenFact f
rebase_even post ps f e g =
    let first = first_pass post.vector ps [] in
    let s = goes_done (second_pass post.vector ps first.free first.meanings)
    (λ h. after (third_pass post.vector h.meanings ps h.free [])
    (λ qs. after (conditions_over h.meanings post.conditions) (λ ls. Done (record { positions = qs; literals = take most_literals (with_needed [] ls) })))) f g
    in
    let t = goes_done (third_pass post.vector s.middle.meanings ps s.middle.free [])
    (λ qs. after (conditions_over s.middle.meanings post.conditions)
    (λ ls. Done (record { positions = qs; literals = take most_literals (with_needed [] ls) }))) f s.next in
    let u = goes_done (conditions_over s.middle.meanings post.conditions)
    (λ ls. Done (record { positions = t.middle; literals = take most_literals (with_needed [] ls) })) f t.next in
    subst IsEvenFact (same_Done (record { positions = t.middle; literals = take most_literals (with_needed [] u.middle) }) f u.next)
    (third_even post.vector s.middle.meanings ps e s.middle.free (passes_mark post.vector ps s.middle e s.first) [] t.middle t.first)
