-- The variables of the two machines are positions of their pairing, and a vector of the pairing has a form for each.
use Rattle.std.proofs.Common.{◌≡◌, ℕ, zero, suc, ◌<◌, ◌≤◌, ◌==◌, List, [], ◌∷◌, length, map, ap, sym, refl, ◌∙◌, arith, Option, Some, None, Bool, true, false}
use Rattle.std.proofs.Common.{cond}
use Rattle.std.specs.Prelude.{◌&&◌, ◌||◌, filter, slice_get}
use Rattle.std.specs.List.{list_all, list_any}
use Rattle.std.proofs.lemmas.List.Sums.{length-filter}
use Rattle.std.proofs.lemmas.Bool.{or_left, and_from, or_right, eqb-true}
use Rattle.fs_model.proofs.Booleans.{and_first, and_second}
use Rattle.fs_model.specs.SoundMachines.{IsSound, has_sort, scalar_at, array_at, port_at}
use Rattle.fs_model.specs.declared.parts.Sort.{Sort}
use Rattle.fs_model.specs.declared.parts.Sort.TheVariants.{Scalar, Array, Port}
use Rattle.fs_model.specs.declared.parts.VarInfo.{VarInfo}
use Rattle.fs_model.specs.Machines.{Fsmd}
use Rattle.fs_model.specs.Runs.{is_scalar, is_array, is_port}
use Rattle.fs_pair.specs.declared.positions.Position.{Position}
use Rattle.fs_pair.specs.Positions.{positions}
use Rattle.fs_pair.specs.Partners.{variables_on, is_position_of as stands_at}
use Rattle.fs_pair.proofs.Once.{position_once}
use Rattle.fs_pair.proofs.Variables.{stands_for}
use Rattle.nf_trees.specs.Mentions.{same_pos}
use Rattle.nf_terms.specs.Forms.{sort_of_form}
use Rattle.nf_terms.specs.declared.symbols.Sort.{Sort as TermSort}
use Rattle.nf_terms.specs.declared.symbols.Sort.TheVariants as term
use Rattle.fs_model.specs.declared.sides.Pos.{Pos}
use Rattle.fs_model.specs.declared.sides.Side.{Side}
use Rattle.fs_model.specs.Sides.{same_side}
use Rattle.fs_model.proofs.SameSides.{same_side_is}
use Rattle.nf_terms.specs.declared.form.Nf.{Nf}
use Rattle.nf_terms.specs.TermSorts.{same_term_sort}
use Rattle.nf_symbols.specs.Vectors.{is_entry_at, with_form}
use Rattle.nf_symbols.specs.SamePlaces.{pos_equal, own_pos, sorts_equal, own_sort}
use Rattle.sym_paths.specs.ValuationStores.{at}
use Rattle.sym_facts.specs.Facts.{sort_of_terms}
use Rattle.sym_facts.specs.Pairings.{is_position, form_within, IsVectorOf}
use Rattle.sym_facts.proofs.StartSolved.{listed}

-- ---- a variable is a position

in_range : (vs : List VarInfo) (x : ℕ) (v : VarInfo) → slice_get vs x ≡ Some v → x < length vs
in_range [] x v e = absurd (cc e)
in_range (u ∷ vs) zero v e = omega arith
in_range (u ∷ vs) (suc x) v e = omega (arith, in_range vs x v e)

record Passing (test : Position → Bool) (ps : List Position) : Type 0 where
  place : ℕ
  position : Position
  is : slice_get ps place ≡ Some position
  passes : test position ≡ true

passing : (test : Position → Bool) (ps : List Position) → 1 ≤ length (filter test ps) → Passing test ps
passing test [] h = absurd (omega arith)
passing test (p ∷ ps) h = by_test (test p) refl h (λ g. passing test ps g)
  where
    by_test : (b : Bool) → test p ≡ b → 1 ≤ length (cond b (p ∷ filter test ps) (filter test ps)) → (1 ≤ length (filter test ps) → Passing test ps)
        → Passing test (p ∷ ps)
    by_test true e g again = record { place = 0; position = p; is = refl; passes = e }
    by_test false e g again = let r = again g in record { place = suc r.place; position = r.position; is = r.is; passes = r.passes }

module _ (a b : Fsmd) (sound : IsSound a) (other : IsSound b) where
  variable_is_position : (d : Side) (x : ℕ) (v : VarInfo) → slice_get (variables_on d a b) x ≡ Some v
      → is_position (positions a b) (at d x, sort_of_terms v.sort) ≡ true
  variable_is_position d x v e =
      let one = position_once a b sound other d x (in_range (variables_on d a b) x v e) in
      let f = passing (λ p. stands_at d x p.pos) (positions a b) (omega (arith, length-filter (λ (p : Position). stands_at d x p.pos) (positions a b), one)) in
      let p = f.position in
      let sides : p.pos.side ≡ d = same_side_is p.pos.side d (and_first (same_side p.pos.side d) (p.pos.var == x) f.passes) in
      let numbers : p.pos.var ≡ x = eqb-true p.pos.var x (and_second (same_side p.pos.side d) (p.pos.var == x) f.passes) in
      let i : p.pos ≡ at d x = (λ k. record { side = sides k; var = numbers k }) in
      let s = stands_for a b f.place p f.is in
      let o : Some s.variable ≡ Some v = sym s.is.is ∙ ap (λ (q : Pos). slice_get (variables_on q.side a b) q.var) i ∙ e in
      let u : s.variable ≡ v = cc o in
      ap (λ q. is_position (positions a b) (q, sort_of_terms v.sort)) (sym i)
      ∙ listed (positions a b) f.place p v.sort f.is (s.is.sort ∙ ap (λ (z : VarInfo). z.sort) u)

  has_position : (d : Side) (x : ℕ) (test : Sort → Bool) (t : TermSort) → ((s : Sort) → test s ≡ true → sort_of_terms s ≡ t)
      → has_sort test (slice_get (variables_on d a b) x) ≡ true → is_position (positions a b) (at d x, t) ≡ true
  has_position d x test t same h = by_variable (slice_get (variables_on d a b) x) refl h
    where
      by_variable : (o : Option VarInfo) → slice_get (variables_on d a b) x ≡ o → has_sort test o ≡ true → is_position (positions a b) (at d x, t) ≡ true
      by_variable None e g = absurd (cc g)
      by_variable (Some v) e g = ap (λ s. is_position (positions a b) (at d x, s)) (sym (same v.sort g)) ∙ variable_is_position d x v e

  pub scalar_is_position : (d : Side) (x : ℕ) → scalar_at (variables_on d a b) x ≡ true → is_position (positions a b) (at d x, term.Scalar) ≡ true
  scalar_is_position d x h = has_position d x is_scalar term.Scalar by_sort h
    where
      by_sort : (s : Sort) → is_scalar s ≡ true → sort_of_terms s ≡ term.Scalar
      by_sort Scalar g = refl
      by_sort Array g = absurd (cc g)
      by_sort Port g = absurd (cc g)

  pub array_is_position : (d : Side) (x : ℕ) → array_at (variables_on d a b) x ≡ true → is_position (positions a b) (at d x, term.Array) ≡ true
  array_is_position d x h = has_position d x is_array term.Array by_sort h
    where
      by_sort : (s : Sort) → is_array s ≡ true → sort_of_terms s ≡ term.Array
      by_sort Scalar g = absurd (cc g)
      by_sort Array g = refl
      by_sort Port g = absurd (cc g)

  pub port_is_position : (d : Side) (x : ℕ) → port_at (variables_on d a b) x ≡ true → is_position (positions a b) (at d x, term.List) ≡ true
  port_is_position d x h = has_position d x is_port term.List by_sort h
    where
      by_sort : (s : Sort) → is_port s ≡ true → sort_of_terms s ≡ term.List
      by_sort Scalar g = absurd (cc g)
      by_sort Array g = absurd (cc g)
      by_sort Port g = refl

-- ---- a form that is put in place of another

present : (ps : List Position) (v : List (Pos × Nf)) → map (λ e. e.0) v ≡ map (λ p. p.pos) ps
    → map (λ e. sort_of_form e.1) v ≡ map (λ p. sort_of_terms p.sort) ps → (q : Pos) (s : TermSort) → is_position ps (q, s) ≡ true
    → list_any (is_entry_at s q) v ≡ true
present [] v m n q s h = absurd (cc h)
present (p ∷ ps) [] m n q s h = absurd (cc m)
present (p ∷ ps) (e ∷ v) m n q s h = by_test (same_pos p.pos q && same_term_sort (sort_of_terms p.sort) s) refl h (λ g. present ps v (cc m) (cc n) q s g)
  where
    by_test : (t : Bool) → same_pos p.pos q && same_term_sort (sort_of_terms p.sort) s ≡ t → t || is_position ps (q, s) ≡ true
        → (is_position ps (q, s) ≡ true → list_any (is_entry_at s q) v ≡ true) → list_any (is_entry_at s q) (e ∷ v) ≡ true
    by_test true g k again =
        let i : e.0 ≡ p.pos = cc m in
        let j : sort_of_form e.1 ≡ sort_of_terms p.sort = cc n in
        let x : e.0 ≡ q = i ∙ pos_equal p.pos q (and_first (same_pos p.pos q) (same_term_sort (sort_of_terms p.sort) s) g) in
        let y : sort_of_form e.1 ≡ s = j ∙ sorts_equal (sort_of_terms p.sort) s (and_second (same_pos p.pos q) (same_term_sort (sort_of_terms p.sort) s) g) in
        or_left (is_entry_at s q e) (list_any (is_entry_at s q) v)
        (and_from (same_pos q e.0) (same_term_sort s (sort_of_form e.1)) (ap (same_pos q) x ∙ own_pos q) (ap (same_term_sort s) y ∙ own_sort s))
    by_test false g k again = or_right (is_entry_at s q e) (list_any (is_entry_at s q) v) (again k)

module _ (p : Pos) (f : Nf) where
  put_positions : (v : List (Pos × Nf)) → list_any (is_entry_at (sort_of_form f) p) v ≡ true → map (λ e. e.0) (with_form p f v) ≡ map (λ e. e.0) v
  put_positions [] h = absurd (cc h)
  put_positions (e ∷ v) h = by_test (is_entry_at (sort_of_form f) p e) h (λ g. put_positions v g)
    where
      by_test : (t : Bool) → t || list_any (is_entry_at (sort_of_form f) p) v ≡ true
          → (list_any (is_entry_at (sort_of_form f) p) v ≡ true → map (λ x. x.0) (with_form p f v) ≡ map (λ x. x.0) v)
          → map (λ x. x.0) (cond t ((e.0, f) ∷ v) (e ∷ with_form p f v)) ≡ map (λ x. x.0) (e ∷ v)
      by_test true g again = refl
      by_test false g again = ap (λ l. e.0 ∷ l) (again g)

  put_sorts : (v : List (Pos × Nf)) → list_any (is_entry_at (sort_of_form f) p) v ≡ true
      → map (λ e. sort_of_form e.1) (with_form p f v) ≡ map (λ e. sort_of_form e.1) v
  put_sorts [] h = absurd (cc h)
  put_sorts (e ∷ v) h = by_test (is_entry_at (sort_of_form f) p e) refl h (λ g. put_sorts v g)
    where
      by_test : (t : Bool) → is_entry_at (sort_of_form f) p e ≡ t → t || list_any (is_entry_at (sort_of_form f) p) v ≡ true
          → (list_any (is_entry_at (sort_of_form f) p) v ≡ true → map (λ x. sort_of_form x.1) (with_form p f v) ≡ map (λ x. sort_of_form x.1) v)
          → map (λ x. sort_of_form x.1) (cond t ((e.0, f) ∷ v) (e ∷ with_form p f v)) ≡ map (λ x. sort_of_form x.1) (e ∷ v)
      by_test true i g again = ap (λ s. s ∷ map (λ x. sort_of_form x.1) v)
          (sorts_equal (sort_of_form f) (sort_of_form e.1) (and_second (same_pos p e.0) (same_term_sort (sort_of_form f) (sort_of_form e.1)) i))
      by_test false i g again = ap (λ l. sort_of_form e.1 ∷ l) (again g)

  put_within : (test : Pos × TermSort → Bool) (v : List (Pos × Nf)) → form_within test f ≡ true → list_all (λ e. form_within test e.1) v ≡ true
      → list_all (λ e. form_within test e.1) (with_form p f v) ≡ true
  put_within test [] h g = and_from (form_within test f) true h refl
  put_within test (e ∷ v) h g = by_test (is_entry_at (sort_of_form f) p e) (put_within test v h others)
    where
      own : form_within test e.1 ≡ true
      own = and_first (form_within test e.1) (list_all (λ x. form_within test x.1) v) g

      others : list_all (λ x. form_within test x.1) v ≡ true
      others = and_second (form_within test e.1) (list_all (λ x. form_within test x.1) v) g

      by_test : (t : Bool) → list_all (λ x. form_within test x.1) (with_form p f v) ≡ true
          → list_all (λ x. form_within test x.1) (cond t ((e.0, f) ∷ v) (e ∷ with_form p f v)) ≡ true
      by_test true i = and_from (form_within test f) (list_all (λ x. form_within test x.1) v) h others
      by_test false i = and_from (form_within test e.1) (list_all (λ x. form_within test x.1) (with_form p f v)) own i

  pub put_is_vector : (ps : List Position) (v : List (Pos × Nf)) → IsVectorOf ps v → is_position ps (p, sort_of_form f) ≡ true
      → form_within (is_position ps) f ≡ true → IsVectorOf ps (with_form p f v)
  put_is_vector ps v is h g =
      let there = present ps v is.positions is.sorts p (sort_of_form f) h in
      record {
        positions = put_positions v there ∙ is.positions;
        sorts = put_sorts v there ∙ is.sorts;
        symbols = put_within (is_position ps) v g is.symbols;
      }
