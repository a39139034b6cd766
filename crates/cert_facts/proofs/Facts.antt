-- Equations and literals that make a fact of positions.
use Rattle.std.proofs.Common.{◌≡◌, ℕ, zero, suc, ◌==◌, Bool, true, false, not, ◌&&◌, cond, refl, ap, sym, subst, ◌∙◌, List, [], ◌∷◌, length, Option, Some, None}
use Rattle.std.specs.Prelude.{map, set, slice_get, option_map, option_and_then}
use Rattle.std.specs.List.{list_all, AllByRecursion}
use Rattle.std.proofs.lemmas.List.{length-set}
use Rattle.std.proofs.lemmas.Bool.{or_left, and_from, or_right}
use Rattle.fs_model.proofs.Booleans.{and_first, and_second}
use Rattle.fs_model.specs.declared.parts.Sort.{Sort}
use Rattle.fs_model.specs.declared.parts.Sort.TheVariants as sort
use Rattle.fs_pair.specs.declared.positions.Position.{Position}
use Rattle.nf_terms.specs.Mentions.{same_pos}
use Rattle.nf_terms.specs.Forms.{sort_of_form}
use Rattle.fs_model.specs.declared.sides.Side.{Side}
use Rattle.fs_model.specs.declared.sides.Pos.{Pos}
use Rattle.nf_terms.specs.declared.symbols.Sort.{Sort as TermSort}
use Rattle.nf_terms.specs.declared.symbols.Sort.TheVariants as term
use Rattle.nf_terms.specs.declared.form.Nf.{Nf}
use Rattle.nf_terms.proofs.Agreement.{own_pos}
use Rattle.nf_terms.specs.TermSorts.{same_term_sort}
use Rattle.nf_rel.specs.Literals.{NormalLiteral}
use Rattle.sym_facts.specs.Facts.{sort_of_terms, has_its_sort}
use Rattle.sym_facts.specs.FactParts.{with_equations, equation_within}
use Rattle.sym_facts.specs.Pairings.{is_position, form_within, literal_within}
use Rattle.cert_terms.specs.declared.names.Places.{Places}
use Rattle.cert_terms.specs.View.{place_in_tables, find_of}
use Rattle.cert_terms.specs.CertificateNames.{name_place, sorted_position, find_in, sort_at}
use Rattle.cert_facts.specs.FactReading.{unwritten_of, unwritten_equation}
use Rattle.cert_terms.specs.Within.{AllFoundPass, FormWithin, LiteralWithin}
use Rattle.cert_facts.specs.Within.{AreEquationsOf}

sort_itself : (s : TermSort) → same_term_sort s s ≡ true
sort_itself term.Scalar = refl
sort_itself term.Array = refl
sort_itself term.List = refl

-- ---- what names stand for is a position

among : (ps : List Position) (k : ℕ) (q : Position) → slice_get ps k ≡ Some q → is_position ps (sorted_position q) ≡ true
among [] k q e = absurd (cc e)
among (p ∷ ps) zero q e =
    let h : p ≡ q = cc e in
    or_left (same_pos p.pos q.pos && same_term_sort (sort_of_terms p.sort) (sort_of_terms q.sort)) (is_position ps (sorted_position q))
    (subst (λ r. (same_pos r.pos q.pos && same_term_sort (sort_of_terms r.sort) (sort_of_terms q.sort)) ≡ true) (sym h)
    (and_from (same_pos q.pos q.pos) (same_term_sort (sort_of_terms q.sort) (sort_of_terms q.sort)) (own_pos q.pos) (sort_itself (sort_of_terms q.sort))))
among (p ∷ ps) (suc k) q e = or_right (same_pos p.pos q.pos && same_term_sort (sort_of_terms p.sort) (sort_of_terms q.sort))
    (is_position ps (sorted_position q))
    (among ps k q e)

found_pass : (place : Side → List ℕ → Option ℕ) (ps : List Position) (format : ℕ) → AllFoundPass (find_in place ps format) (is_position ps)
found_pass place ps format s x p e = by_place (name_place place ps format s x) e
  where
    at_place : (k : ℕ) (o : Option Position) → slice_get ps k ≡ o → option_map sorted_position o ≡ Some p → is_position ps p ≡ true
    at_place k None g f = absurd (cc f)
    at_place k (Some q) g f = let h : sorted_position q ≡ p = cc f in subst (λ r. is_position ps r ≡ true) h (among ps k q g)

    by_place : (o : Option ℕ) → option_and_then (λ k. option_map sorted_position (slice_get ps k)) o ≡ Some p → is_position ps p ≡ true
    by_place None f = absurd (cc f)
    by_place (Some k) f = at_place k (slice_get ps k) refl f

-- ---- equations of positions without keys

unwritten_sort : (format : ℕ) (s : Sort) → has_its_sort s (unwritten_of format s) ≡ true
unwritten_sort format sort.Scalar = refl
unwritten_sort format sort.Array = refl
unwritten_sort format sort.Port = by_test (format == 1)
  where
    by_test : (t : Bool) → has_its_sort sort.Port (cond (not t) None (unwritten_of 1 sort.Port)) ≡ true
    by_test true = refl
    by_test false = refl

unwritten_within : (test : Pos × TermSort → Bool) (format : ℕ) (s : Sort) → equation_within test (unwritten_of format s) ≡ true
unwritten_within test format sort.Scalar = refl
unwritten_within test format sort.Array = refl
unwritten_within test format sort.Port = by_test (format == 1)
  where
    by_test : (t : Bool) → equation_within test (cond (not t) None (unwritten_of 1 sort.Port)) ≡ true
    by_test true = refl
    by_test false = refl

pub unwritten_fit : (format : ℕ) (ps : List Position) → AreEquationsOf ps (map (unwritten_equation format) ps)
unwritten_fit format ps = record { count = counted ps; sorts = sorted ps; within = inside ps }
  where
    counted : (qs : List Position) → length (map (unwritten_equation format) qs) ≡ length qs
    counted [] = refl
    counted (q ∷ qs) = ap suc (counted qs)

    sorted : (qs : List Position) → list_all (λ q. has_its_sort q.sort q.equation) (with_equations qs (map (unwritten_equation format) qs)) ≡ true
    sorted [] = refl
    sorted (q ∷ qs) = and_from (has_its_sort q.sort (unwritten_equation format q))
        (list_all (λ r. has_its_sort r.sort r.equation) (with_equations qs (map (unwritten_equation format) qs))) (unwritten_sort format q.sort) (sorted qs)

    inside : (qs : List Position) → list_all (equation_within (is_position ps)) (map (unwritten_equation format) qs) ≡ true
    inside [] = refl
    inside (q ∷ qs) = and_from (equation_within (is_position ps) (unwritten_equation format q))
        (list_all (equation_within (is_position ps)) (map (unwritten_equation format) qs))
        (unwritten_within (is_position ps) format q.sort) (inside qs)

-- ---- an equation put at a place

put_sorts : (ps : List Position) (fs : List (Option Nf)) (k : ℕ) (f : Nf) → sort_of_form f ≡ sort_at ps k
    → list_all (λ q. has_its_sort q.sort q.equation) (with_equations ps fs) ≡ true
    → list_all (λ q. has_its_sort q.sort q.equation) (with_equations ps (set fs k (Some f))) ≡ true
put_sorts [] fs k f e h = refl
put_sorts (p ∷ ps) [] k f e h = refl
put_sorts (p ∷ ps) (g ∷ gs) zero f e h =
    and_from (has_its_sort p.sort (Some f)) (list_all (λ q. has_its_sort q.sort q.equation) (with_equations ps gs))
    (subst (λ s. same_term_sort (sort_of_terms p.sort) s ≡ true) (sym e) (sort_itself (sort_of_terms p.sort)))
    (and_second (has_its_sort p.sort g) (list_all (λ q. has_its_sort q.sort q.equation) (with_equations ps gs)) h)
put_sorts (p ∷ ps) (g ∷ gs) (suc k) f e h =
    and_from (has_its_sort p.sort g) (list_all (λ q. has_its_sort q.sort q.equation) (with_equations ps (set gs k (Some f))))
    (and_first (has_its_sort p.sort g) (list_all (λ q. has_its_sort q.sort q.equation) (with_equations ps gs)) h)
    (put_sorts ps gs k f e (and_second (has_its_sort p.sort g) (list_all (λ q. has_its_sort q.sort q.equation) (with_equations ps gs)) h))

put_within : (test : Pos × TermSort → Bool) (fs : List (Option Nf)) (k : ℕ) (f : Nf) → form_within test f ≡ true → list_all (equation_within test) fs ≡ true
    → list_all (equation_within test) (set fs k (Some f)) ≡ true
put_within test [] k f e h = refl
put_within test (g ∷ gs) zero f e h = and_from (form_within test f) (list_all (equation_within test) gs) e
    (and_second (equation_within test g) (list_all (equation_within test) gs) h)
put_within test (g ∷ gs) (suc k) f e h =
    and_from (equation_within test g) (list_all (equation_within test) (set gs k (Some f)))
    (and_first (equation_within test g) (list_all (equation_within test) gs) h)
    (put_within test gs k f e (and_second (equation_within test g) (list_all (equation_within test) gs) h))

put_fits : (place : Side → List ℕ → Option ℕ) (format : ℕ) (ps : List Position) (fs : List (Option Nf)) (k : ℕ) (f : Nf) → AreEquationsOf ps fs
    → sort_of_form f ≡ sort_at ps k → FormWithin (find_in place ps format) f
    → AreEquationsOf ps (set fs k (Some f))
put_fits place format ps fs k f h e w = record {
  count = length-set fs k (Some f) ∙ h.count;
  sorts = put_sorts ps fs k f e h.sorts;
  within = put_within (is_position ps) fs k f (w.within (is_position ps) (found_pass place ps format)) h.within;
}

-- ---- literals

literals_within : (place : Side → List ℕ → Option ℕ) (format : ℕ) (ps : List Position) (ls : List NormalLiteral)
    → AllByRecursion (LiteralWithin (find_in place ps format)) ls → list_all (literal_within (is_position ps)) ls ≡ true
literals_within place format ps [] h = refl
literals_within place format ps (l ∷ ls) h = and_from (literal_within (is_position ps) l) (list_all (literal_within (is_position ps)) ls)
    (h.0.within (is_position ps) (found_pass place ps format)) (literals_within place format ps ls h.1)

-- ---- the same, by the tables of names

pub counted : (ps : List Position) (fs : List (Option Nf)) → AreEquationsOf ps fs → length fs ≡ length ps
counted ps fs h = h.count

pub put_in : (t : Places) (fs : List (Option Nf)) (k : ℕ) (f : Nf) → AreEquationsOf t.positions.now fs → sort_of_form f ≡ sort_at t.positions.now k
    → FormWithin (find_of t) f → AreEquationsOf t.positions.now (set fs k (Some f))
put_in t fs k f h e w = put_fits (place_in_tables t) t.format t.positions.now fs k f h e w

pub within_in : (t : Places) (ls : List NormalLiteral) → AllByRecursion (LiteralWithin (find_of t)) ls
    → list_all (literal_within (is_position t.positions.now)) ls ≡ true
within_in t ls h = literals_within (place_in_tables t) t.format t.positions.now ls h

pub sorted_in : (ps : List Position) (fs : List (Option Nf)) → AreEquationsOf ps fs
    → list_all (λ q. has_its_sort q.sort q.equation) (with_equations ps fs) ≡ true
sorted_in ps fs h = h.sorts

pub inside_in : (ps : List Position) (fs : List (Option Nf)) → AreEquationsOf ps fs → list_all (equation_within (is_position ps)) fs ≡ true
inside_in ps fs h = h.within

-- what a fact of the parts that were read needs
pub ruleset fact_parts = (counted, sorted_in, inside_in, within_in)
