-- The texts of a fact are read as the fact.
use Rattle.std.proofs.Common.{◌≡◌, ◌≢◌, ℕ, zero, suc, ◌+◌, Bool, true, not, cond, List, [], ◌∷◌, ◌++◌, map, length, append-nil, append_assoc, Option, Some}
use Rattle.std.proofs.Common.{None, Ok, refl, sym, ap, subst, ◌∙◌, inl, inr}
use Rattle.std.specs.Prelude.{slice_get, option_map}
use Rattle.std.specs.List.{list_all, AllByRecursion, position_from}
use Rattle.std.proofs.lemmas.List.{length-map}
use Rattle.std.proofs.lemmas.Option.{slice_get-map}
use Rattle.std.proofs.lemmas.Bool.{not-true}
use Rattle.fs_model.proofs.Booleans.{and_first, and_second}
use Rattle.fs_model.proofs.Quantifiers.{list_all_at}
use Rattle.fs_model.specs.SoundMachines.{IsSound}
use Rattle.serde_json.specs.Data.{no_members}
use Rattle.fs_model.specs.Machines.{Fsmd}
use Rattle.fs_pair.specs.declared.positions.Position.{Position}
use Rattle.fs_pair.specs.Positions.{positions}
use Rattle.fs_pair.specs.Partners.{position_name}
use Rattle.nf_terms.specs.declared.tree.SeqBase.TheVariants as base
use Rattle.nf_terms.specs.declared.form.Nf.{Nf}
use Rattle.nf_terms.specs.declared.form.Nf.TheVariants.{Seq}
use Rattle.nf_terms.specs.Lists.{bare_list}
use Rattle.nf_terms.specs.Forms.{sort_of_form}
use Rattle.nf_vectors.specs.SamePlaces.{sorts_equal}
use Rattle.nf_rel.specs.Literals.{NormalLiteral, True}
use Rattle.nf_rel.specs.NormalLiterals.{is_normal_literal, same_literal}
use Rattle.sym_facts.specs.Facts.{FactPosition, Fact, IsFact, sort_of_terms, form_or_symbol, vector_of, has_its_sort, is_unsolved, may_be_kept}
use Rattle.sym_facts.specs.Pairings.{IsFactOf, is_position, form_within, literal_within}
use Rattle.sym_facts.specs.FactParts.{with_equations, fact_of, first_unsolved}
use Rattle.term_text.specs.TermTexts.{symbol_text}
use Rattle.cert_json.specs.WrittenJson.{NodeText}
use Rattle.cert_json.specs.JsonTexts.{named_texts_of}
use Rattle.cert_model.specs.Kept.{IsNormalEquation}
use Rattle.cert_writer.specs.WrittenCertificates.{form_written, literal_bytes, equations_written, needed_format}
use Rattle.cert_text.specs.CertificateNames.{place_named}
use Rattle.cert_text.specs.NodePointNames.{then_part}
use Rattle.cert_text.specs.CertificateReading.{TermContext, text_read, known_place, sort_or_scalar, sort_at, equation_read, equations_read, unwritten_equation}
use Rattle.cert_text.specs.CertificateReading.{conditions_read, solved_fact, fact_read, node_fact}
use Rattle.cert_text.specs.TextMeanings.{TextMeanings, AreRead}
use Rattle.search_laws.proofs.Lookups.{all_at}
use Rattle.search_laws.proofs.Members.{all_written, new_written}
use Rattle.search_laws.proofs.Places.{in_format, find, named, key_found}
use Rattle.search_laws.proofs.Equations.{Names, IsOneOf, IsSet, all_read}
use Rattle.search_laws.proofs.Readable.{TextLaws, form_read, literal_read}

-- ---- the positions of a fact

abbrev equations_in : List FactPosition → List (Option Nf)
equations_in qs = map (λ q. q.equation) qs

-- a position of a fact is one of the pairing
record SamePlace (p : Position) (q : FactPosition) : Type 0 where
  pub pos : p.pos ≡ q.pos
  pub sort : p.sort ≡ q.sort

data AtPlace (ps : List Position) (qs : List FactPosition) (k : ℕ) : Type 0 where
  both_there : (p : Position) (q : FactPosition) → slice_get ps k ≡ Some p → slice_get qs k ≡ Some q → SamePlace p q → AtPlace ps qs k
  none_there : slice_get ps k ≡ None → slice_get qs k ≡ None → AtPlace ps qs k

next_place : (p : Position) (ps : List Position) (q : FactPosition) (qs : List FactPosition) (k : ℕ) → AtPlace ps qs k → AtPlace (p ∷ ps) (q ∷ qs) (suc k)
next_place p ps q qs k (both_there r t e f s) = both_there r t e f s
next_place p ps q qs k (none_there e f) = none_there e f

at_place : (ps : List Position) (qs : List FactPosition) → map (λ e. e.0) (vector_of qs) ≡ map (λ p. p.pos) ps → map (λ q. q.sort) qs ≡ map (λ p. p.sort) ps
    → (k : ℕ) → AtPlace ps qs k
at_place [] [] e f k = none_there refl refl
at_place [] (q ∷ qs) e f k = absurd (cc e)
at_place (p ∷ ps) [] e f k = absurd (cc e)
at_place (p ∷ ps) (q ∷ qs) e f zero = both_there p q refl refl
    (record { pos = (let g : q.pos ≡ p.pos = cc e in sym g); sort = (let g : q.sort ≡ p.sort = cc f in sym g) })
at_place (p ∷ ps) (q ∷ qs) e f (suc k) = next_place p ps q qs k (at_place ps qs (cc e) (cc f) k)

places_again : (ps : List Position) (qs : List FactPosition) → map (λ e. e.0) (vector_of qs) ≡ map (λ p. p.pos) ps → map (λ q. q.sort) qs ≡ map (λ p. p.sort) ps
    → with_equations ps (equations_in qs) ≡ qs
places_again [] [] e f = refl
places_again [] (q ∷ qs) e f = absurd (cc e)
places_again (p ∷ ps) [] e f = absurd (cc e)
places_again (p ∷ ps) (q ∷ qs) e f =
    let g : q.pos ≡ p.pos = cc e in
    let h : q.sort ≡ p.sort = cc f in
    let rest : with_equations ps (equations_in qs) ≡ qs = places_again ps qs (cc e) (cc f) in
    λ k. record { pos = sym g k; sort = sym h k; equation = q.equation } ∷ rest k

normal_at : (qs : List FactPosition) (k : ℕ) (q : FactPosition) → AllByRecursion (λ r. IsNormalEquation r.equation) qs → slice_get qs k ≡ Some q
    → IsNormalEquation q.equation
normal_at [] k q h e = absurd (cc e)
normal_at (r ∷ qs) zero q h e = let s : r ≡ q = cc e in subst (λ (z : FactPosition). IsNormalEquation z.equation) s h.0
normal_at (r ∷ qs) (suc k) q h e = normal_at qs k q h.1 e

-- ---- solved

none_before : (test : FactPosition → Bool) (i : ℕ) (qs : List FactPosition) → list_all (λ q. not (test q)) qs ≡ true → position_from test i qs ≡ None
none_before test i [] h = refl
none_before test i (q ∷ qs) h =
    ap (λ b. cond b (Some i) (position_from test (i + 1) qs)) (not-true (test q) (and_first (not (test q)) (list_all (λ r. not (test r)) qs) h))
    ∙ none_before test (i + 1) qs (and_second (not (test q)) (list_all (λ r. not (test r)) qs) h)

is_solved_fact : (f : Fact) → IsFact f → first_unsolved f ≡ None
is_solved_fact f h = none_before (is_unsolved f) 0 f.positions h.solved

not_kept : (l : NormalLiteral) → may_be_kept l ≡ true → l ≢ True
not_kept l h e =
    let t : not (same_literal True True) ≡ true = ap (λ m. not (same_literal m True)) (sym e) ∙ and_first (not (same_literal l True)) (is_normal_literal l) h in
    cc t

module _ (a b : Fsmd) (left : IsSound a) (right : IsSound b) (differ : Bool) (laws : TextLaws (position_name a b) (find a b left right differ))
    (r : TextMeanings) (read : AreRead (find a b left right differ) r) where
  abbrev all : List Position
  all = positions a b

  abbrev terms : TermContext
  terms = record { place = place_named a b all; positions = all; format = needed_format differ all; texts = r }

  -- ---- conditions

  conditions_again : (i : ℕ) (before ls : List NormalLiteral) → list_all may_be_kept ls ≡ true → list_all (literal_within (is_position all)) ls ≡ true
      → conditions_read terms i before (map (literal_bytes (position_name a b)) ls) ≡ Ok (before ++ ls)
  conditions_again i before [] h w = ap Ok (sym (append-nil before))
  conditions_again i before (l ∷ ls) h w =
      let texts : List (List ℕ) = map (literal_bytes (position_name a b)) ls in
      let kept : may_be_kept l ≡ true = and_first (may_be_kept l) (list_all may_be_kept ls) h in
      let here = literal_read (position_name a b) (find a b left right differ) laws r read (is_position all)
      (named a b left right differ) l (and_second (not (same_literal l True)) (is_normal_literal l) kept) (not_kept l kept)
      (and_first (literal_within (is_position all) l) (list_all (literal_within (is_position all)) ls) w) in
      ap (λ y. then_part (text_read i y) (λ m. conditions_read terms i (before ++ m ∷ []) texts)) here
      ∙ conditions_again i (before ++ l ∷ []) ls (and_second (may_be_kept l) (list_all may_be_kept ls) h)
      (and_second (literal_within (is_position all) l) (list_all (literal_within (is_position all)) ls) w)
      ∙ ap Ok (append_assoc before (l ∷ []) ls)

  -- ---- equations

  equation_again : (i : ℕ) (key text : List ℕ) (k : ℕ) (g : Nf) → Names terms k key → sort_at all k ≡ sort_of_form g → r.term (sort_of_form g) text ≡ Ok g
      → equation_read terms i (key, text) ≡ Ok (k, g)
  equation_again i key text k g names sort is =
      ap (λ o. then_part (known_place i o) (λ j. then_part (text_read i (r.term (sort_at all j) text)) (λ x. Ok (j, x)))) names
      ∙ ap (λ y. then_part (text_read i (r.term y text)) (λ x. Ok (k, x))) sort
      ∙ ap (λ y. then_part (text_read i y) (λ x. Ok (k, x))) is

  module _ (i : ℕ) (f : Fact) (of : IsFactOf all f) (fact : IsFact f) (normal : AllByRecursion (λ q. IsNormalEquation q.equation) f.positions) where
    abbrev key : FactPosition → List ℕ
    key q = symbol_text q.pos.side (position_name a b q.pos)

    key_names : (k : ℕ) (p : Position) (q : FactPosition) → slice_get all k ≡ Some p → SamePlace p q → Names terms k (key q)
    key_names k p q e s = subst (λ z. Names terms k (symbol_text z.side (position_name a b z))) s.pos (key_found a b left right differ k p e)

    sort_is : (k : ℕ) (p : Position) (q : FactPosition) (g : Nf) → slice_get all k ≡ Some p → slice_get f.positions k ≡ Some q → SamePlace p q
        → q.equation ≡ Some g → sort_at all k ≡ sort_of_form g
    sort_is k p q g e h s is =
        let fits : has_its_sort q.sort (Some g) ≡ true = ap (has_its_sort q.sort) (sym is)
        ∙ list_all_at (λ z. has_its_sort z.sort z.equation) f.positions k q fact.sorts h in
        ap (λ o. sort_or_scalar (option_map (λ (z : Position). sort_of_terms z.sort) o)) e ∙ ap sort_of_terms s.sort
        ∙ sorts_equal (sort_of_terms q.sort) (sort_of_form g) fits

    text_again : (k : ℕ) (q : FactPosition) (g : Nf) → slice_get f.positions k ≡ Some q → q.equation ≡ Some g
        → r.term (sort_of_form g) (form_written (position_name a b) g) ≡ Ok g
    text_again k q g h is =
        let within : form_within (is_position all) g ≡ true =
        ap (λ o. form_within (is_position all) (form_or_symbol q.sort q.pos o)) (sym is)
        ∙ all_at (λ e. form_within (is_position all) e.1) (λ (z : FactPosition). (z.pos, form_or_symbol z.sort z.pos z.equation)) f.positions k q
        of.vector.symbols h in
        form_read (position_name a b) (find a b left right differ) laws r read (is_position all)
        (named a b left right differ) g (subst IsNormalEquation is (normal_at f.positions k q normal h)) within

    one_of : (k : ℕ) (q : FactPosition) (g : Nf) → slice_get f.positions k ≡ Some q → q.equation ≡ Some g → AtPlace all f.positions k
        → IsOneOf terms i (equations_in f.positions) (key q, form_written (position_name a b) g)
    one_of k q g h is (none_there e t) = absurd (cc (h, t))
    one_of k q g h is (both_there p z e t s) =
        let u : z ≡ q = (let v : Some z ≡ Some q = sym t ∙ h in cc v) in
        let same : SamePlace p q = subst (SamePlace p) u s in
        let names : Names terms k (key q) = key_names k p q e same in
        record {
          place = k;
          form = g;
          names = names;
          read = equation_again i (key q) (form_written (position_name a b) g) k g names (sort_is k p q g e h same is) (text_again k q g h is);
          there = slice_get-map (λ (x : FactPosition). x.equation) f.positions k ∙ ap (option_map (λ (x : FactPosition). x.equation)) h ∙ ap Some is;
        }

    abbrev places : (k : ℕ) → AtPlace all f.positions k
    places k = at_place all f.positions of.vector.positions of.sorts k

    abbrev written : List (List ℕ × List ℕ)
    written = named_texts_of (equations_written (position_name a b) no_members f.positions)

    begun_so : (k : ℕ) → AtPlace all f.positions k → IsSet terms (map (unwritten_equation (needed_format differ all)) all) (equations_in f.positions) written k
    begun_so k (none_there e t) =
        inl (slice_get-map (unwritten_equation (needed_format differ all)) all k ∙ ap (option_map (unwritten_equation (needed_format differ all))) e
        ∙ sym (slice_get-map (λ (x : FactPosition). x.equation) f.positions k ∙ ap (option_map (λ (x : FactPosition). x.equation)) t))
    begun_so k (both_there p q e t s) = by_equation q.equation refl
      where
        by_equation : (o : Option Nf) → q.equation ≡ o
            → IsSet terms (map (unwritten_equation (needed_format differ all)) all) (equations_in f.positions) written k
        by_equation None is =
            inl (slice_get-map (unwritten_equation (needed_format differ all)) all k ∙ ap (option_map (unwritten_equation (needed_format differ all))) e
            ∙ ap (λ x. Some (cond x None (Some (Seq (bare_list base.Empty))))) (in_format differ all k p e)
            ∙ sym (slice_get-map (λ (x : FactPosition). x.equation) f.positions k ∙ ap (option_map (λ (x : FactPosition). x.equation)) t ∙ ap Some is))
        by_equation (Some g) is = inr (new_written (Names terms k) (position_name a b) no_members f.positions k q g t is (key_names k p q e s))

    equations_again : equations_read terms i (map (unwritten_equation (needed_format differ all)) all) written ≡ Ok (equations_in f.positions)
    equations_again =
        let n : length (equations_in f.positions) ≡ length all =
        length-map f.positions (λ (x : FactPosition). x.equation) ∙ sym (length-map f.positions (λ (x : FactPosition). x.sort)) ∙ ap length of.sorts
        ∙ length-map all (λ (x : Position). x.sort) in
        all_read terms i (equations_in f.positions) written (map (unwritten_equation (needed_format differ all)) all)
        (all_written (IsOneOf terms i (equations_in f.positions)) (position_name a b) no_members f.positions (λ k q g h is. one_of k q g h is (places k)) tt)
        (length-map all (unwritten_equation (needed_format differ all)) ∙ sym n) (λ k. begun_so k (places k))

    fact_is : fact_of all (equations_in f.positions) f.literals ≡ f
    fact_is = let e = places_again all f.positions of.vector.positions of.sorts in λ k. record { positions = e k; literals = f.literals }

    read_again : fact_read terms i (equations_in f.positions) f.literals ≡ Ok f
    read_again = ap (λ g. solved_fact i g (first_unsolved g)) fact_is ∙ ap (solved_fact i f) (is_solved_fact f fact)

    -- the texts of a fact are read as it
    pub fact_again : (n : NodeText) → n.equations ≡ written → n.conds ≡ map (literal_bytes (position_name a b)) f.literals → node_fact terms i n ≡ Ok f
    unfolding node_fact
    fact_again n e c =
        ap
        (λ es. then_part (equations_read terms i (map (unwritten_equation (needed_format differ all)) all) es)
        (λ fs. then_part (conditions_read terms i [] n.conds) (λ ls. fact_read terms i fs ls))) e
        ∙ ap (λ y. then_part y (λ fs. then_part (conditions_read terms i [] n.conds) (λ ls. fact_read terms i fs ls))) equations_again
        ∙ ap (λ cs. then_part (conditions_read terms i [] cs) (λ ls. fact_read terms i (equations_in f.positions) ls)) c
        ∙ ap (λ y. then_part y (λ ls. fact_read terms i (equations_in f.positions) ls)) (conditions_again i [] f.literals fact.literals of.literals)
        ∙ read_again
