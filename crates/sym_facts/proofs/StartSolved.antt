-- The start fact is solved, and of its pairing.
use Rattle.std.proofs.Common.{◌≡◌, ℕ, zero, suc, List, [], ◌∷◌, map, ap, ap₂, sym, refl, ◌∙◌, arith, Some, None, Bool, true, false}
use Rattle.std.specs.Prelude.{not, ◌&&◌, ◌||◌, is_none, slice_get}
use Rattle.std.specs.List.{list_all, list_any}
use Rattle.std.proofs.lemmas.Bool.{or_from, or_left, and_from, or_right}
use Rattle.fs_model.specs.SoundMachines.{IsSound}
use Rattle.fs_model.specs.declared.parts.Role.{Role}
use Rattle.fs_model.specs.declared.parts.Role.TheVariants.{Input, Output, Local}
use Rattle.fs_model.specs.declared.parts.Sort.{Sort}
use Rattle.fs_model.specs.declared.parts.Sort.TheVariants.{Scalar, Array, Port}
use Rattle.fs_model.specs.Machines.{Fsmd}
use Rattle.fs_pair.specs.declared.positions.Position.{Position}
use Rattle.fs_pair.specs.Interfaces.{interface_fault}
use Rattle.fs_pair.specs.Positions.{positions}
use Rattle.fs_pair.specs.Partners.{variables_on, HasPartner}
use Rattle.fs_pair.proofs.Variables.{stands_for}
use Rattle.nf_trees.specs.Mentions.{same_pos}
use Rattle.nf_terms.specs.Forms.{mentions_form, sort_of_form}
use Rattle.nf_terms.specs.declared.form.Nf.{Nf}
use Rattle.nf_terms.specs.declared.symbols.Sort.{Sort as TermSort}
use Rattle.nf_terms.specs.TermSorts.{same_term_sort}
use Rattle.fs_model.specs.declared.sides.Pos.{Pos}
use Rattle.fs_model.specs.declared.sides.Side.{Side}
use Rattle.fs_model.specs.declared.sides.Side.TheVariants as side
use Rattle.nf_symbols.specs.SamePlaces.{pos_equal, own_pos, own_sort}
use Rattle.sym_facts.specs.Facts.{sort_of_terms, own_symbol, form_or_symbol, vector_of, equation_mentions, is_mentioned, is_unsolved, has_its_sort, IsFact}
use Rattle.sym_facts.specs.Pairings.{is_position, form_within, IsFactOf}
use Rattle.sym_facts.specs.Starts.{zero_of, start_form, partner_in, start_position, start_fact}
use Rattle.sym_facts.proofs.StartHolds.{left_side, partner_is_input, by_form}

-- ---- lists
all_mapped : {X : Type 0} (f : Position → X) (test : X → Bool) (ps : List Position) → ((k : ℕ) (p : Position) → slice_get ps k ≡ Some p → test (f p) ≡ true)
    → list_all test (map f ps) ≡ true
all_mapped f test [] h = refl
all_mapped f test (p ∷ ps) h = and_from _ _ (h 0 p refl) (all_mapped f test ps (λ k q e. h (suc k) q e))

none_mapped : {X : Type 0} (f : Position → X) (test : X → Bool) (ps : List Position) → ((k : ℕ) (p : Position) → slice_get ps k ≡ Some p → test (f p) ≡ false)
    → list_any test (map f ps) ≡ false
none_mapped f test [] h = refl
none_mapped f test (p ∷ ps) h = or_from (test (f p)) (list_any test (map f ps)) (h 0 p refl) (none_mapped f test ps (λ k q e. h (suc k) q e))

mapped_twice : {X Y Z : Type 0} (f : X → Y) (g : Y → Z) (xs : List X) → map g (map f xs) ≡ map (λ x. g (f x)) xs
mapped_twice f g [] = refl
mapped_twice f g (x ∷ xs) = ap (λ l. g (f x) ∷ l) (mapped_twice f g xs)

same_mapped : {X : Type 0} (f g : Position → X) (ps : List Position) → ((k : ℕ) (p : Position) → slice_get ps k ≡ Some p → f p ≡ g p) → map f ps ≡ map g ps
same_mapped f g [] h = refl
same_mapped f g (p ∷ ps) h = ap₂ (λ x l. x ∷ l) (h 0 p refl) (same_mapped f g ps (λ k q e. h (suc k) q e))

-- ---- forms of a sort
pub own_sort_of : (s : Sort) (p : Pos) → sort_of_form (own_symbol s p) ≡ sort_of_terms s
own_sort_of Scalar p = refl
own_sort_of Array p = refl
own_sort_of Port p = refl

zero_sort_of : (s : Sort) → sort_of_form (zero_of s) ≡ sort_of_terms s
zero_sort_of Scalar = refl
zero_sort_of Array = refl
zero_sort_of Port = refl

of_its_sort : (s : Sort) (f : Nf) → sort_of_form f ≡ sort_of_terms s → has_its_sort s (Some f) ≡ true
of_its_sort s f e = ap (same_term_sort (sort_of_terms s)) e ∙ own_sort (sort_of_terms s)

zero_within : (test : Pos × TermSort → Bool) (s : Sort) → form_within test (zero_of s) ≡ true
zero_within test Scalar = refl
zero_within test Array = refl
zero_within test Port = refl

pub symbol_within : (test : Pos × TermSort → Bool) (s : Sort) (p : Pos) → test (p, sort_of_terms s) ≡ true → form_within test (own_symbol s p) ≡ true
symbol_within test Scalar p h = and_from _ true h refl
symbol_within test Array p h = and_from _ true h refl
symbol_within test Port p h = and_from _ true h refl

zero_mentions : (p : Pos) (s : Sort) → mentions_form p (zero_of s) ≡ false
zero_mentions p Scalar = refl
zero_mentions p Array = refl
zero_mentions p Port = refl

symbol_mentions : (p q : Pos) (s : Sort) → same_pos p q ≡ false → mentions_form p (own_symbol s q) ≡ false
symbol_mentions p q Scalar h = ap (λ b. (b || false) || false) h
symbol_mentions p q Array h = ap (λ b. b || false) h
symbol_mentions p q Port h = ap (λ b. b || false) h

-- ---- positions
pub listed : (ps : List Position) (k : ℕ) (p : Position) (s : Sort) → slice_get ps k ≡ Some p → p.sort ≡ s → is_position ps (p.pos, sort_of_terms s) ≡ true
listed [] k p s e h = absurd (cc e)
listed (q ∷ ps) zero p s e h =
    let i : q ≡ p = cc e in
    let same : sort_of_terms q.sort ≡ sort_of_terms s = ap sort_of_terms (ap (λ (z : Position). z.sort) i ∙ h) in
    let here : same_pos q.pos p.pos && same_term_sort (sort_of_terms q.sort) (sort_of_terms s) ≡ true =
    and_from (same_pos q.pos p.pos) (same_term_sort (sort_of_terms q.sort) (sort_of_terms s)) (ap (λ (z : Position). same_pos z.pos p.pos) i ∙ own_pos p.pos)
    (ap (λ z. same_term_sort z (sort_of_terms s)) same ∙ own_sort (sort_of_terms s)) in
    or_left (same_pos q.pos p.pos && same_term_sort (sort_of_terms q.sort) (sort_of_terms s)) (is_position ps (p.pos, sort_of_terms s)) here
listed (q ∷ ps) (suc k) p s e h = or_right (same_pos q.pos p.pos && same_term_sort (sort_of_terms q.sort) (sort_of_terms s))
    (is_position ps (p.pos, sort_of_terms s)) (listed ps k p s e h)

module _ (a b : Fsmd) where
  -- the start form is of its position's sort, and of symbols of the pairing
  sorted : (k : ℕ) (p : Position) → slice_get (positions a b) k ≡ Some p → has_its_sort p.sort (start_position (positions a b) p).equation ≡ true
  sorted k p e = by_form a b (λ o. has_its_sort p.sort o ≡ true) k p e refl (λ r. of_its_sort p.sort (zero_of p.sort) (zero_sort_of p.sort))
      (λ j h r d. of_its_sort p.sort (own_symbol p.sort h.partner.pos) (own_sort_of p.sort h.partner.pos))

  abbrev form_of : Position → Nf
  form_of p = form_or_symbol p.sort p.pos (start_position (positions a b) p).equation

  sort_of : (k : ℕ) (p : Position) → slice_get (positions a b) k ≡ Some p → sort_of_form (form_of p) ≡ sort_of_terms p.sort
  sort_of k p e = by_form a b (λ o. sort_of_form (form_or_symbol p.sort p.pos o) ≡ sort_of_terms p.sort) k p e (own_sort_of p.sort p.pos)
      (λ r. zero_sort_of p.sort) (λ j h r d. own_sort_of p.sort h.partner.pos)

  within : (k : ℕ) (p : Position) → slice_get (positions a b) k ≡ Some p → form_within (is_position (positions a b)) (form_of p) ≡ true
  within k p e =
      by_form a b (λ o. form_within (is_position (positions a b)) (form_or_symbol p.sort p.pos o) ≡ true) k p e
      (symbol_within (is_position (positions a b)) p.sort p.pos (listed (positions a b) k p p.sort e refl))
      (λ r. zero_within (is_position (positions a b)) p.sort)
      (λ j h r d. symbol_within (is_position (positions a b)) p.sort h.partner.pos (listed (positions a b) j h.partner p.sort h.at h.sort))

  vector_is : vector_of (start_fact (positions a b)).positions ≡ map (λ p. (p.pos, form_of p)) (positions a b)
  vector_is = mapped_twice (start_position (positions a b)) (λ p. (p.pos, form_or_symbol p.sort p.pos p.equation)) (positions a b)

  pub of_the_pairing : IsFactOf (positions a b) (start_fact (positions a b))
  of_the_pairing = record {
    sorts = mapped_twice (start_position (positions a b)) (λ q. q.sort) (positions a b);
    vector = record {
      positions = ap (map (λ e. e.0)) vector_is ∙ mapped_twice (λ (p : Position). (p.pos, form_of p)) (λ e. e.0) (positions a b);
      sorts = ap (map (λ e. sort_of_form e.1)) vector_is ∙ mapped_twice (λ (p : Position). (p.pos, form_of p)) (λ e. sort_of_form e.1) (positions a b)
          ∙ same_mapped (λ p. sort_of_form (form_of p)) (λ p. sort_of_terms p.sort) (positions a b) sort_of;
      symbols = ap (list_all (λ e. form_within (is_position (positions a b)) e.1)) vector_is
          ∙ all_mapped (λ p. (p.pos, form_of p)) (λ e. form_within (is_position (positions a b)) e.1) (positions a b) within;
    };
    literals = refl;
  }

  module _ (sound : IsSound a) (matched : interface_fault a b ≡ None) where
    -- the partner of a right input is no other position than a left input
    apart : (k : ℕ) (q : Position) → slice_get (positions a b) k ≡ Some q → (q.role ≡ Input → q.pos.side ≡ side.Left → ⊥)
        → (p : Position) (j : ℕ) (h : HasPartner a b p j) → p.role ≡ Input → p.pos.side ≡ side.Right → same_pos q.pos h.partner.pos ≡ false
    apart k q e n p j h r d = by_test (same_pos q.pos h.partner.pos) refl
      where
        by_test : (t : Bool) → same_pos q.pos h.partner.pos ≡ t → t ≡ false
        by_test true g =
            let i : q.pos ≡ h.partner.pos = pos_equal q.pos h.partner.pos g in
            let v = stands_for a b k q e in
            let s : Some v.variable ≡ Some h.other = sym v.is.is ∙ ap (λ (z : Pos). slice_get (variables_on z.side a b) z.var) i ∙ h.partner_is.is in
            let u : v.variable ≡ h.other = cc s in
            let role : q.role ≡ Input = v.is.role ∙ ap (λ z. z.role) u ∙ sym h.partner_is.role ∙ partner_is_input a b sound matched p j h r d in
            absurd (n role (ap (λ (z : Pos). z.side) i ∙ left_side p.pos.side h.partner.pos.side d h.sides))
        by_test false g = refl

    not_mentioned : (k : ℕ) (q : Position) → slice_get (positions a b) k ≡ Some q → (q.role ≡ Input → q.pos.side ≡ side.Left → ⊥)
        → is_mentioned (start_fact (positions a b)) q.pos ≡ false
    not_mentioned k q e n =
        ap (λ t. t || false) (none_mapped (start_position (positions a b)) (λ z. equation_mentions q.pos z.equation) (positions a b)
        (λ i p g. by_form a b (λ o. equation_mentions q.pos o ≡ false) i p g refl (λ r. zero_mentions q.pos p.sort)
        (λ j h r d. symbol_mentions q.pos h.partner.pos p.sort (apart k q e n p j h r d))))

    solved_at : (k : ℕ) (q : Position) → slice_get (positions a b) k ≡ Some q
        → not (is_unsolved (start_fact (positions a b)) (start_position (positions a b) q)) ≡ true
    solved_at k q e = by_role q.role refl q.pos.side refl
      where
        none_of : (x m : Bool) → m ≡ false → not (x && m) ≡ true
        none_of true m h = ap not h
        none_of false m h = refl

        by_role : (r : Role) → q.role ≡ r → (d : Side) → q.pos.side ≡ d
            → not (not (is_none (start_form r d q.sort (partner_in (positions a b) q.partner))) && is_mentioned (start_fact (positions a b)) q.pos) ≡ true
        by_role Input r side.Left d = refl
        by_role Input r side.Right d = none_of (not (is_none (start_form Input side.Right q.sort (partner_in (positions a b) q.partner))))
            (is_mentioned (start_fact (positions a b)) q.pos) (not_mentioned k q e (λ i l. let x : side.Left ≡ side.Right = sym l ∙ d in cc x))
        by_role Output r s d = none_of true (is_mentioned (start_fact (positions a b)) q.pos)
            (not_mentioned k q e (λ i l. let x : Input ≡ Output = sym i ∙ r in cc x))
        by_role Local r s d = none_of true (is_mentioned (start_fact (positions a b)) q.pos)
            (not_mentioned k q e (λ i l. let x : Input ≡ Local = sym i ∙ r in cc x))

    solved_fact : IsFact (start_fact (positions a b))
    solved_fact = record {
      sorts = all_mapped (start_position (positions a b)) (λ q. has_its_sort q.sort q.equation) (positions a b) sorted;
      solved = all_mapped (start_position (positions a b)) (λ q. not (is_unsolved (start_fact (positions a b)) q)) (positions a b) solved_at;
      few = omega arith;
      literals = refl;
    }

pub solved : (a b : Fsmd) → IsSound a → interface_fault a b ≡ None → IsFact (start_fact (positions a b))
solved = solved_fact
