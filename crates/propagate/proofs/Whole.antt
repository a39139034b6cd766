-- What is solved and of a pairing is a fact.
use Rattle.std.proofs.Common.{◌≡◌, ◌≤◌, true, refl, ap, sym, ◌∙◌, arith, List, [], ◌∷◌, length, map, Option, Some, None}
use Rattle.std.specs.List.{list_all}
use Rattle.std.proofs.lemmas.List.{length-map}
use Rattle.std.proofs.lemmas.Bool.{and_from}
use Rattle.fs_model.specs.declared.parts.Sort.{Sort}
use Rattle.fs_pair.specs.declared.positions.Position.{Position}
use Rattle.fs_pair.specs.Paired.{IsPairing}
use Rattle.nf_terms.specs.Forms.{sort_of_form}
use Rattle.fs_model.specs.declared.sides.Pos.{Pos}
use Rattle.nf_terms.specs.declared.form.Nf.{Nf}
use Rattle.nf_terms.specs.TermSorts.{same_term_sort}
use Rattle.nf_substitution.specs.SamePlaces.{own_sort}
use Rattle.sym_facts.specs.Facts.{FactPosition, Fact, sort_of_terms, form_or_symbol, vector_of, has_its_sort, is_solved, may_be_kept, most_literals}
use Rattle.sym_facts.specs.Pairings.{IsFactOf}
use Rattle.sym_facts.specs.FactParts.{are_distinct_positions, IsKept}
use Rattle.sym_facts.proofs.Kept.{all_positions_differ, few_positions}
use Rattle.sym_facts.proofs.Vectors.{positions_again}

pub sort_kept : (s : Sort) (p : Pos) (o : Option Nf) → sort_of_form (form_or_symbol s p o) ≡ sort_of_terms s → has_its_sort s o ≡ true
sort_kept s p None e = refl
sort_kept s p (Some f) e = ap (same_term_sort (sort_of_terms s)) e ∙ own_sort (sort_of_terms s)

pub sorts_kept :
    (ps : List Position) (qs : List FactPosition) → map (λ q. q.sort) qs ≡ map (λ p. p.sort) ps
    → map (λ e. sort_of_form e.1) (vector_of qs) ≡ map (λ p. sort_of_terms p.sort) ps → list_all (λ q. has_its_sort q.sort q.equation) qs ≡ true
sorts_kept ps [] s f = refl
sorts_kept [] (q ∷ qs) s f = absurd (cc s)
sorts_kept (p ∷ ps) (q ∷ qs) s f =
    let mine : q.sort ≡ p.sort = cc s in
    let others : map (λ q. q.sort) qs ≡ map (λ p. p.sort) ps = cc s in
    let form : sort_of_form (form_or_symbol q.sort q.pos q.equation) ≡ sort_of_terms p.sort = cc f in
    let forms : map (λ e. sort_of_form e.1) (vector_of qs) ≡ map (λ p. sort_of_terms p.sort) ps = cc f in
    and_from _ _ (sort_kept q.sort q.pos q.equation (form ∙ ap sort_of_terms (sym mine))) (sorts_kept ps qs others forms)

pub whole_fact : (ps : List Position) (f : Fact) → IsPairing ps → IsFactOf ps f
    → (are_distinct_positions (map (λ q. q.pos) f.positions) ≡ true → is_solved f ≡ true) → length f.literals ≤ most_literals
    → list_all may_be_kept f.literals ≡ true → IsKept f
whole_fact ps f p h solved few kept =
    let same : map (λ q. q.pos) f.positions ≡ map (λ p. p.pos) ps = sym (positions_again f.positions) ∙ h.vector.positions in
    let differ : are_distinct_positions (map (λ q. q.pos) f.positions) ≡ true = ap are_distinct_positions same ∙ all_positions_differ ps p in
    record {
      fact = record { sorts = sorts_kept ps f.positions h.sorts h.vector.sorts; solved = solved differ; few = few; literals = kept };
      differ = differ;
      short = omega (arith, length-map f.positions (λ q. q.pos), ap length same, length-map ps (λ p. p.pos), few_positions ps p);
    }
