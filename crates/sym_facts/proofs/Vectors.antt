-- Vectors that are filled position by position.
use Rattle.std.proofs.Common.{◌≡◌, Bool, true, false, not, ◌&&◌, ◌||◌, cond, List, [], ◌∷◌, ◌++◌, map, refl, ap, sym, subst, ◌∙◌, append_assoc}
use Rattle.std.specs.List.{list_any}
use Rattle.fs_model.proofs.Booleans.{and_first, and_second}
use Rattle.nf_trees.specs.Mentions.{same_pos}
use Rattle.nf_terms.specs.Forms.{sort_of_form}
use Rattle.fs_model.specs.declared.sides.Pos.{Pos}
use Rattle.nf_terms.specs.declared.form.Nf.{Nf}
use Rattle.nf_terms.specs.TermSorts.{same_term_sort}
use Rattle.nf_symbols.specs.Vectors.{with_form}
use Rattle.nf_symbols.specs.SamePlaces.{pos_equal, own_pos}
use Rattle.sym_facts.specs.Facts.{FactPosition, vector_of}
use Rattle.sym_facts.specs.FactParts.{are_distinct_positions}

none_at_end : (test : Pos → Bool) (done rest : List Pos) (p : Pos) → not (list_any test (done ++ p ∷ rest)) ≡ true → test p ≡ false
none_at_end test [] rest p h = by_test (test p) h
  where
    by_test : (b : Bool) → not (b || list_any test rest) ≡ true → b ≡ false
    by_test true e = cc e
    by_test false e = refl
none_at_end test (q ∷ done) rest p h = by_test (test q) h (λ e. none_at_end test done rest p e)
  where
    by_test : (b : Bool) → not (b || list_any test (done ++ p ∷ rest)) ≡ true → (not (list_any test (done ++ p ∷ rest)) ≡ true → test p ≡ false)
        → test p ≡ false
    by_test true e again = cc e
    by_test false e again = again e

pub turned : (p q : Pos) → same_pos q p ≡ false → same_pos p q ≡ false
turned p q e = by_test (same_pos p q) refl
  where
    by_test : (b : Bool) → same_pos p q ≡ b → b ≡ false
    by_test true g = sym (own_pos q) ∙ ap (same_pos q) (sym (pos_equal p q g)) ∙ e
    by_test false g = refl

-- a form goes to the end where no entry is of its position
with_last : (done : List (Pos × Nf)) (rest : List Pos) (p : Pos) (f : Nf) → are_distinct_positions (map (λ e. e.0) done ++ p ∷ rest) ≡ true
    → with_form p f done ≡ done ++ (p, f) ∷ []
with_last [] rest p f h = refl
with_last (e ∷ done) rest p f h =
    let first = not (list_any (same_pos e.0) (map (λ d. d.0) done ++ p ∷ rest)) in
    let others = are_distinct_positions (map (λ d. d.0) done ++ p ∷ rest) in
    let other : same_pos p e.0 ≡ false = turned p e.0 (none_at_end (same_pos e.0) (map (λ d. d.0) done) rest p (and_first first others h)) in
    ap (λ b. cond (b && same_term_sort (sort_of_form f) (sort_of_form e.1)) ((e.0, f) ∷ done) (e ∷ with_form p f done)) other
    ∙ ap (λ es. e ∷ es) (with_last done rest p f (and_second first others h))

pub positions_again : (ps : List FactPosition) → map (λ e. e.0) (vector_of ps) ≡ map (λ p. p.pos) ps
positions_again [] = refl
positions_again (p ∷ ps) = ap (λ qs. p.pos ∷ qs) (positions_again ps)

split : (done : List (Pos × Nf)) (p : Pos) (f : Nf) (rest : List (Pos × Nf))
    → map (λ e. e.0) (done ++ (p, f) ∷ rest) ≡ map (λ e. e.0) done ++ p ∷ map (λ e. e.0) rest
split [] p f rest = refl
split (e ∷ done) p f rest = ap (λ qs. e.0 ∷ qs) (split done p f rest)

-- one more position of a fact is put
pub put_last : (all rest : List FactPosition) (done new : List (Pos × Nf)) (p : Pos) (f : Nf) → are_distinct_positions (map (λ q. q.pos) all) ≡ true
    → done ++ (p, f) ∷ vector_of rest ≡ vector_of all → new ≡ with_form p f done → new ++ vector_of rest ≡ vector_of all
put_last all rest done new p f h e n =
    let positions : map (λ q. q.pos) all ≡ map (λ d. d.0) done ++ p ∷ map (λ d. d.0) (vector_of rest) = sym (positions_again all) ∙ ap (map (λ d. d.0)) (sym e)
    ∙ split done p f (vector_of rest) in
    ap (λ v. v ++ vector_of rest) (n ∙ with_last done (map (λ d. d.0) (vector_of rest)) p f (subst (λ qs. are_distinct_positions qs ≡ true) positions h))
    ∙ append_assoc done ((p, f) ∷ []) (vector_of rest) ∙ e
