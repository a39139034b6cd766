-- The positions that a fact mentions are those of its symbols.
use Rattle.std.proofs.Common.{◌≡◌, ℕ, ◌+◌, ◌<◌, ◌≤◌, ◌==◌, Bool, true, false, not, ◌&&◌, ◌||◌, cond, refl, ap, ap₂, sym, ◌∙◌, List, [], ◌∷◌, ◌++◌, length, set}
use Rattle.std.proofs.Common.{get_or, Option, Some, None, arith}
use Rattle.std.specs.Prelude.{is_none, slice_index_or}
use Rattle.std.specs.List.{list_all, list_any, position_from}
use Rattle.std.proofs.lemmas.Bool.{eqb-true, eqb-false}
use Rattle.std.proofs.lemmas.Grind.{get_or-set_at}
use Rattle.std.proofs.lemmas.List.{length-set, get_or-set_other, length-replicate, get_or-replicate}
use Rattle.std.proofs.lemmas.List.Folds.{list_all-append}
use Rattle.fs_model.proofs.Booleans.{or_false, or_true}
use Rattle.nf_terms.specs.Forms.{mentions_form}
use Rattle.nf_trees.specs.Mentions.{same_pos, mentions}
use Rattle.nf_terms.specs.declared.symbols.Sort.{Sort}
use Rattle.fs_model.specs.declared.sides.Pos.{Pos}
use Rattle.fs_model.specs.declared.sides.Side.{Side}
use Rattle.fs_model.specs.declared.sides.Side.TheVariants.{Left, Right}
use Rattle.fs_model.specs.Sides.{same_side}
use Rattle.nf_terms.specs.declared.form.Nf.{Nf}
use Rattle.nf_symbols.specs.SymbolTests.{is_other}
use Rattle.nf_symbols.proofs.Mentioned.{form_other, number_other}
use Rattle.nf_rel.specs.Literals.{NormalLiteral, True, False, Is}
use Rattle.sym_facts.specs.Facts.{FactPosition, Fact, equation_mentions, literal_mentions, is_mentioned, is_unsolved}
use Rattle.sym_facts.specs.FactParts.{first_unsolved}
use Rattle.sym_facts.specs.PositionSets.{PositionSet, on_side, has_position, empty_set, with_number, with_position, with_symbols, symbols_of_equation}
use Rattle.sym_facts.specs.PositionSets.{symbols_of_equations, symbols_of_literal, symbols_of_literals, bound_of, mentioned_below, is_unsolved_in}

-- the positions of two lists of symbols, those of one after those of the other
pub joined : (s : PositionSet) (xs ys : List (Pos × Sort)) → with_symbols s (xs ++ ys) ≡ with_symbols (with_symbols s xs) ys
joined s [] ys = refl
joined s (x ∷ xs) ys = joined (with_position s x.0) xs ys

-- the positions of two parts, added one after the other
pub added : (old middle new : PositionSet) (xs ys all : List (Pos × Sort)) → all ≡ xs ++ ys → middle ≡ with_symbols old xs → new ≡ with_symbols middle ys
    → new ≡ with_symbols old all
added old middle new xs ys all whole e f = f ∙ ap (λ s. with_symbols s ys) e ∙ sym (joined old xs ys) ∙ ap (with_symbols old) (sym whole)

-- the positions of a first part were added, those of the others are left
pub rest_left : (old new : PositionSet) (xs ys all : List (Pos × Sort)) {whole : PositionSet} → all ≡ xs ++ ys → new ≡ with_symbols old xs
    → with_symbols old all ≡ whole → with_symbols new ys ≡ whole
rest_left old new xs ys all split e so_far = ap (λ s. with_symbols s ys) e ∙ sym (joined old xs ys) ∙ ap (with_symbols old) (sym split) ∙ so_far

twice : (b : Bool) → not (not b) ≡ b
twice true = refl
twice false = refl

either : (a b : Bool) → not (a && b) ≡ (not a || not b)
either true b = refl
either false b = refl

regrouped : (a b c : Bool) → ((a || b) || not c) ≡ (a || not (not b && c))
regrouped true b c = refl
regrouped false true c = refl
regrouped false false c = refl

-- ---- one position more

number_more : (xs : List Bool) (k j : ℕ) → j < length xs → get_or (set xs k true) j false ≡ (get_or xs j false || (j == k))
number_more xs k j h = by_test (j == k) refl
  where
    by_test : (b : Bool) → (j == k) ≡ b → get_or (set xs k true) j false ≡ (get_or xs j false || b)
    by_test true e = let same : j ≡ k = eqb-true j k e in get_or-set_at xs k j true false same (omega (arith, h, same)) ∙ sym (or_true (get_or xs j false))
    by_test false e = get_or-set_other xs k j true false (eqb-false j k e) ∙ sym (or_false (get_or xs j false))

side_more : (s : PositionSet) (d e : Side) (k j : ℕ) → j < length (on_side e s)
    → slice_index_or (on_side e (with_number s d k)) j false ≡ (slice_index_or (on_side e s) j false || (same_side e d && (j == k)))
side_more s Left Left k j h = number_more s.left k j h
side_more s Left Right k j h = sym (or_false (get_or s.right j false))
side_more s Right Left k j h = sym (or_false (get_or s.left j false))
side_more s Right Right k j h = number_more s.right k j h

same_bound : (s : PositionSet) (d e : Side) (k : ℕ) → length (on_side e (with_number s d k)) ≡ length (on_side e s)
same_bound s Left Left k = length-set s.left k true
same_bound s Left Right k = refl
same_bound s Right Left k = refl
same_bound s Right Right k = length-set s.right k true

-- ---- the positions of symbols

symbols_more : (s : PositionSet) (xs : List (Pos × Sort)) (p : Pos) → p.var < length (on_side p.side s)
    → has_position (with_symbols s xs) p ≡ (has_position s p || not (list_all (is_other p) xs))
symbols_more s [] p h = sym (or_false (has_position s p))
symbols_more s (x ∷ xs) p h =
    let within : p.var < length (on_side p.side (with_position s x.0)) = omega (arith, h, same_bound s x.0.side p.side x.0.var) in
    symbols_more (with_position s x.0) xs p within
    ∙ ap (λ b. b || not (list_all (is_other p) xs)) (side_more s x.0.side p.side x.0.var p.var h)
    ∙ regrouped (has_position s p) (same_pos p x.0) (list_all (is_other p) xs)

symbols_bound : (s : PositionSet) (xs : List (Pos × Sort)) (e : Side) → length (on_side e (with_symbols s xs)) ≡ length (on_side e s)
symbols_bound s [] e = refl
symbols_bound s (x ∷ xs) e = symbols_bound (with_position s x.0) xs e ∙ same_bound s x.0.side e x.0.var

none_in_empty : (bound : ℕ) (d : Side) (j : ℕ) → j < bound → slice_index_or (on_side d (empty_set bound)) j false ≡ false
none_in_empty bound Left j h = get_or-replicate bound j false false h
none_in_empty bound Right j h = get_or-replicate bound j false false h

empty_bound : (bound : ℕ) (d : Side) → length (on_side d (empty_set bound)) ≡ bound
empty_bound bound Left = length-replicate bound false
empty_bound bound Right = length-replicate bound false

-- ---- what a fact mentions

equation_is : (p : Pos) (o : Option Nf) → not (list_all (is_other p) (symbols_of_equation o)) ≡ equation_mentions p o
equation_is p None = refl
equation_is p (Some f) = ap not (sym (form_other p f)) ∙ twice (mentions_form p f)

equations_are : (p : Pos) (qs : List FactPosition) → not (list_all (is_other p) (symbols_of_equations qs)) ≡ list_any (λ q. equation_mentions p q.equation) qs
equations_are p [] = refl
equations_are p (q ∷ qs) =
    let here = list_all (is_other p) (symbols_of_equation q.equation) in
    let others = list_all (is_other p) (symbols_of_equations qs) in
    ap not (list_all-append (is_other p) (symbols_of_equation q.equation) (symbols_of_equations qs)) ∙ either here others
    ∙ ap₂ (λ a b. a || b) (equation_is p q.equation) (equations_are p qs)

literal_is : (p : Pos) (l : NormalLiteral) → not (list_all (is_other p) (symbols_of_literal l)) ≡ literal_mentions p l
literal_is p True = refl
literal_is p False = refl
literal_is p (Is d k b) = ap not (sym (number_other p d)) ∙ twice (mentions p d)

literals_are : (p : Pos) (ls : List NormalLiteral) → not (list_all (is_other p) (symbols_of_literals ls)) ≡ list_any (literal_mentions p) ls
literals_are p [] = refl
literals_are p (l ∷ ls) =
    let here = list_all (is_other p) (symbols_of_literal l) in
    let others = list_all (is_other p) (symbols_of_literals ls) in
    ap not (list_all-append (is_other p) (symbols_of_literal l) (symbols_of_literals ls)) ∙ either here others
    ∙ ap₂ (λ a b. a || b) (literal_is p l) (literals_are p ls)

mentioned : (f : Fact) (bound : ℕ) (p : Pos) → p.var < bound → has_position (mentioned_below bound f) p ≡ is_mentioned f p
mentioned f bound p h =
    let xs = symbols_of_equations f.positions in
    let ys = symbols_of_literals f.literals in
    let none = empty_set bound in
    let within : p.var < length (on_side p.side none) = omega (arith, h, empty_bound bound p.side) in
    let still : p.var < length (on_side p.side (with_symbols none xs)) = omega (arith, within, symbols_bound none xs p.side) in
    symbols_more (with_symbols none xs) ys p still
    ∙ ap₂ (λ a b. a || b) (symbols_more none xs p within ∙ ap₂ (λ a b. a || b) (none_in_empty bound p.side p.var h) (equations_are p f.positions))
    (literals_are p f.literals)

same_first : (f : Fact) (bound k : ℕ) (qs : List FactPosition) → bound_of qs ≤ bound
    → position_from (is_unsolved_in (mentioned_below bound f)) k qs ≡ position_from (is_unsolved f) k qs
same_first f bound k [] h = refl
same_first f bound k (q ∷ qs) h =
    ap₂ (λ b o. cond {A = Option ℕ} (not (is_none q.equation) && b) (Some k) o) (mentioned f bound q.pos (omega (arith, h)))
    (same_first f bound (k + 1) qs (omega (arith, h)))

-- the first position that is unsolved by the positions that a fact mentions is the fact's
pub first_is : (f : Fact) → position_from (is_unsolved_in (mentioned_below (bound_of f.positions) f)) 0 f.positions ≡ first_unsolved f
first_is f = same_first f (bound_of f.positions) 0 f.positions (omega arith)
