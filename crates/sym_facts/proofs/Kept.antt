-- What is kept of each fact of a pairing.
use Rattle.std.proofs.Common.{◌≡◌, ℕ, suc, ◌+◌, ◌≤◌, ◌==◌, List, [], ◌∷◌, length, map, ap, ap₂, sym, subst, refl, ◌∙◌, arith, Some, None, Option, Bool, true}
use Rattle.std.proofs.Common.{false, cond}
use Rattle.std.specs.Prelude.{not, ◌&&◌, ◌||◌, slice_get}
use Rattle.std.specs.List.{list_all, list_any, count_by, position_from}
use Rattle.std.proofs.lemmas.List.{length-map}
use Rattle.std.proofs.lemmas.List.Recursion.{is_count_by}
use Rattle.std.proofs.lemmas.Option.{slice_get_within}
use Rattle.std.proofs.lemmas.Bool.{and_from}
use Rattle.fs_model.proofs.Booleans.{and_first, and_second, one_or_none_more}
use Rattle.fs_model.specs.declared.parts.Sort.{Sort}
use Rattle.fs_model.specs.declared.parts.Sort.TheVariants as sort
use Rattle.fs_pair.specs.declared.positions.Position.{Position}
use Rattle.fs_pair.specs.SidedVariables.{all_sided_variables}
use Rattle.fs_pair.specs.Positions.{positions, position_of}
use Rattle.fs_pair.specs.Partners.{is_position_of, variables_on}
use Rattle.fs_pair.specs.Paired.{IsPairing}
use Rattle.fs_pair.proofs.Lengths.{length_sided}
use Rattle.fs_pair.proofs.Once.{many, position_once}
use Rattle.fs_pair.proofs.Variables.{stands_for}
use Rattle.nf_trees.specs.Mentions.{same_pos}
use Rattle.fs_model.specs.declared.sides.Pos.{Pos}
use Rattle.fs_model.specs.declared.sides.Side.{Side}
use Rattle.fs_model.specs.declared.sides.Side.TheVariants.{Left, Right}
use Rattle.fs_model.specs.Sides.{same_side as same, same_side}
use Rattle.nf_terms.specs.Forms.{sort_of_form}
use Rattle.nf_terms.specs.declared.symbols.Sort.{Sort as TermSort}
use Rattle.nf_terms.specs.declared.form.Nf.{Nf}
use Rattle.nf_symbols.specs.SamePlaces.{own_pos, sorts_equal}
use Rattle.nf_rel.specs.Literals.{NormalLiteral}
use Rattle.sym_facts.specs.Facts.{FactPosition, Fact, IsFact, sort_of_terms, form_or_symbol, vector_of, has_its_sort, is_unsolved, may_be_kept, most_literals}
use Rattle.sym_facts.specs.Pairings.{is_position, form_within, literal_within, IsFactOf}
use Rattle.sym_facts.specs.Starts.{start_fact, start_position}
use Rattle.sym_facts.specs.FactParts.{with_equations, fact_of, equation_within, first_unsolved, are_distinct_positions, most_sorted_positions, IsKept}
use Rattle.sym_facts.proofs.StartSolved.{solved, listed, symbol_within}
use Rattle.sym_facts.proofs.Vectors.{turned, positions_again}

same_sides : (d e : Side) → same d e ≡ same_side d e
same_sides Left Left = refl
same_sides Left Right = refl
same_sides Right Left = refl
same_sides Right Right = refl

abbrev at_same : Position → Position → Bool
at_same q p = is_position_of q.pos.side q.pos.var p.pos

is_same : (q p : Position) → at_same q p ≡ same_pos p.pos q.pos
is_same q p = ap (λ b. b && (p.pos.var == q.pos.var)) (same_sides p.pos.side q.pos.side)

many_counts : (t : Position → Bool) (ps : List Position) → many t ps ≡ count_by t ps
many_counts t ps = is_count_by (many t) t refl (λ y ys. one_or_none_more (t y) (many t ys)) ps

none_left : (q : Position) (ps : List Position) → many (at_same q) ps ≡ 0 → list_any (same_pos q.pos) (map (λ p. p.pos) ps) ≡ false
none_left q [] e = refl
none_left q (r ∷ ps) e = by_test (at_same q r) refl e (none_left q ps)
  where
    by_test : (b : Bool) → at_same q r ≡ b → cond b 1 0 + many (at_same q) ps ≡ 0
        → (many (at_same q) ps ≡ 0 → list_any (same_pos q.pos) (map (λ p. p.pos) ps) ≡ false)
        → same_pos q.pos r.pos || list_any (same_pos q.pos) (map (λ p. p.pos) ps) ≡ false
    by_test true g f again = absurd (omega (arith, f))
    by_test false g f again = ap (λ b. b || list_any (same_pos q.pos) (map (λ p. p.pos) ps)) (turned q.pos r.pos (sym (is_same q r) ∙ g))
        ∙ again (omega (arith, f))

differ : (ps : List Position) → ((k : ℕ) (q : Position) → slice_get ps k ≡ Some q → many (at_same q) ps ≤ 1)
    → are_distinct_positions (map (λ p. p.pos) ps) ≡ true
differ [] h = refl
differ (q ∷ ps) h =
    let mine : ◌≡◌ {A = ℕ} (cond (at_same q q) 1 0) 1 = ap (λ b. cond {A = ℕ} b 1 0) (is_same q q ∙ own_pos q.pos) in
    let first : cond (at_same q q) 1 0 + many (at_same q) ps ≤ 1 = h 0 q refl in
    and_from _ _ (ap not (none_left q ps (omega (arith, mine, first)))) (differ ps (λ k r e. fewer r (h (suc k) r e)))
  where
    fewer : (r : Position) → cond (at_same r q) 1 0 + many (at_same r) ps ≤ 1 → many (at_same r) ps ≤ 1
    fewer r h = omega (arith, h)

pub all_positions_differ : (ps : List Position) → IsPairing ps → are_distinct_positions (map (λ p. p.pos) ps) ≡ true
all_positions_differ ps h = subst (λ qs. are_distinct_positions (map (λ p. p.pos) qs) ≡ true) (sym h.positions) (differ (positions h.left h.right) one)
  where
    one : (k : ℕ) (q : Position) → slice_get (positions h.left h.right) k ≡ Some q → many (at_same q) (positions h.left h.right) ≤ 1
    one k q e =
        let v = stands_for h.left h.right k q e in
        let within = slice_get_within (variables_on q.pos.side h.left h.right) q.pos.var v.variable v.is.is in
        omega (arith, many_counts (at_same q) (positions h.left h.right), position_once h.left h.right h.left_sound h.right_sound q.pos.side q.pos.var within)

pub few_positions : (ps : List Position) → IsPairing ps → length ps ≤ most_sorted_positions
few_positions ps h =
    let ss = all_sided_variables h.left.variables h.right.variables in
    omega (
      arith,
      ap length h.positions,
      length-map ss (position_of ss),
      length_sided h.left.variables h.right.variables,
      h.left_sound.few_variables,
      h.right_sound.few_variables,
    )

positions_kept : (all ps : List Position) → map (λ p. p.pos) (map (start_position all) ps) ≡ map (λ p. p.pos) ps
positions_kept all [] = refl
positions_kept all (p ∷ ps) = ap (λ qs. p.pos ∷ qs) (positions_kept all ps)

-- the start fact of a pairing may be kept
pub start_kept : (ps : List Position) (qs : List FactPosition) (ls : List NormalLiteral) → IsPairing ps → qs ≡ map (start_position ps) ps → ls ≡ []
    → IsKept (record { positions = qs; literals = ls })
start_kept ps qs ls h e n = subst IsKept (λ k. record { positions = sym e k; literals = sym n k }) (record {
  fact = subst (λ rs. IsFact (start_fact rs)) (sym h.positions) (solved h.left h.right h.left_sound h.same);
  differ = ap are_distinct_positions (positions_kept ps ps) ∙ all_positions_differ ps h;
  short = omega (arith, length-map ps (start_position ps), few_positions ps h);
})

-- ---- facts of parts
sorts_of_parts : (ps : List Position) (fs : List (Option Nf)) → length fs ≡ length ps → map (λ q. q.sort) (with_equations ps fs) ≡ map (λ p. p.sort) ps
sorts_of_parts [] fs e = refl
sorts_of_parts (p ∷ ps) [] e = absurd (omega (arith, e))
sorts_of_parts (p ∷ ps) (f ∷ fs) e = ap (λ l. p.sort ∷ l) (sorts_of_parts ps fs (omega (arith, e)))

positions_of_parts : (ps : List Position) (fs : List (Option Nf)) → length fs ≡ length ps → map (λ q. q.pos) (with_equations ps fs) ≡ map (λ p. p.pos) ps
positions_of_parts [] fs e = refl
positions_of_parts (p ∷ ps) [] e = absurd (omega (arith, e))
positions_of_parts (p ∷ ps) (f ∷ fs) e = ap (λ l. p.pos ∷ l) (positions_of_parts ps fs (omega (arith, e)))

pub form_sort : (s : Sort) (p : Pos) (f : Option Nf) → has_its_sort s f ≡ true → sort_of_form (form_or_symbol s p f) ≡ sort_of_terms s
form_sort sort.Scalar p None h = refl
form_sort sort.Array p None h = refl
form_sort sort.Port p None h = refl
form_sort s p (Some f) h = sym (sorts_equal (sort_of_terms s) (sort_of_form f) h)

forms_sorts : (ps : List Position) (fs : List (Option Nf)) → length fs ≡ length ps
    → list_all (λ q. has_its_sort q.sort q.equation) (with_equations ps fs) ≡ true
    → map (λ e. sort_of_form e.1) (vector_of (with_equations ps fs)) ≡ map (λ p. sort_of_terms p.sort) ps
forms_sorts [] fs e h = refl
forms_sorts (p ∷ ps) [] e h = absurd (omega (arith, e))
forms_sorts (p ∷ ps) (f ∷ fs) e h =
    let here = has_its_sort p.sort f in
    let others = list_all (λ q. has_its_sort q.sort q.equation) (with_equations ps fs) in
    ap₂ (λ x l. x ∷ l) (form_sort p.sort p.pos f (and_first here others h)) (forms_sorts ps fs (omega (arith, e)) (and_second here others h))

form_is_within : (test : Pos × TermSort → Bool) (s : Sort) (p : Pos) (f : Option Nf) → test (p, sort_of_terms s) ≡ true → equation_within test f ≡ true
    → form_within test (form_or_symbol s p f) ≡ true
form_is_within test s p None h e = symbol_within test s p h
form_is_within test s p (Some f) h e = e

forms_within : (test : Pos × TermSort → Bool) (ps : List Position) (fs : List (Option Nf))
    → ((k : ℕ) (p : Position) → slice_get ps k ≡ Some p → test (p.pos, sort_of_terms p.sort) ≡ true) → list_all (equation_within test) fs ≡ true
    → list_all (λ e. form_within test e.1) (vector_of (with_equations ps fs)) ≡ true
forms_within test [] fs t h = refl
forms_within test (p ∷ ps) [] t h = refl
forms_within test (p ∷ ps) (f ∷ fs) t h =
    let here = equation_within test f in
    let others = list_all (equation_within test) fs in
    and_from _ _ (form_is_within test p.sort p.pos f (t 0 p refl) (and_first here others h))
    (forms_within test ps fs (λ k q e. t (suc k) q e) (and_second here others h))

-- the fact of parts is of the pairing
pub parts_of_pairing : (ps : List Position) (fs : List (Option Nf)) (ls : List NormalLiteral) → length fs ≡ length ps
    → list_all (λ q. has_its_sort q.sort q.equation) (with_equations ps fs) ≡ true
    → list_all (equation_within (is_position ps)) fs ≡ true → list_all (literal_within (is_position ps)) ls ≡ true → IsFactOf ps (fact_of ps fs ls)
parts_of_pairing ps fs ls e s h l = record {
  sorts = sorts_of_parts ps fs e;
  vector = record {
    positions = positions_again (with_equations ps fs) ∙ positions_of_parts ps fs e;
    sorts = forms_sorts ps fs e s;
    symbols = forms_within (is_position ps) ps fs (λ k p g. listed ps k p p.sort g refl) h;
  };
  literals = l;
}

all_solved : (f : Fact) (k : ℕ) (qs : List FactPosition) → position_from (is_unsolved f) k qs ≡ None → list_all (λ q. not (is_unsolved f q)) qs ≡ true
all_solved f k [] e = refl
all_solved f k (q ∷ qs) e = by_test (is_unsolved f q) e (all_solved f (k + 1) qs)
  where
    by_test : (b : Bool) → cond b (Some k) (position_from (is_unsolved f) (k + 1) qs) ≡ None
        → (position_from (is_unsolved f) (k + 1) qs ≡ None → list_all (λ r. not (is_unsolved f r)) qs ≡ true)
        → not b && list_all (λ r. not (is_unsolved f r)) qs ≡ true
    by_test true g again = absurd (cc g)
    by_test false g again = again g

-- parts that are solved make a fact that may be kept
pub parts_kept : (ps : List Position) (fs : List (Option Nf)) (ls : List NormalLiteral) → IsPairing ps → length fs ≡ length ps
    → list_all (λ q. has_its_sort q.sort q.equation) (with_equations ps fs) ≡ true
    → length ls ≤ most_literals → list_all may_be_kept ls ≡ true → first_unsolved (fact_of ps fs ls) ≡ None → IsKept (fact_of ps fs ls)
parts_kept ps fs ls p e s few kept u = record {
  fact = record { sorts = s; solved = all_solved (fact_of ps fs ls) 0 (with_equations ps fs) u; few = few; literals = kept };
  differ = ap are_distinct_positions (positions_of_parts ps fs e) ∙ all_positions_differ ps p;
  short = omega (arith, length-map (with_equations ps fs) (λ q. q.pos), ap length (positions_of_parts ps fs e), length-map ps (λ q. q.pos), few_positions ps p);
}

pub few_parts : (ps : List Position) (fs : List (Option Nf)) (qs : List FactPosition) → IsPairing ps → length fs ≡ length ps → qs ≡ with_equations ps fs
    → length qs ≤ most_sorted_positions
few_parts ps fs qs p e i =
    omega (
      arith,
      ap length i,
      length-map (with_equations ps fs) (λ q. q.pos),
      ap length (positions_of_parts ps fs e),
      length-map ps (λ q. q.pos),
      few_positions ps p,
    )

pub ruleset parts = (parts_of_pairing, parts_kept, few_parts)
