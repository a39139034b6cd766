-- The name of a position finds its place.
use Rattle.std.proofs.Common.{◌≡◌, ℕ, zero, suc, ◌≤◌, ◌==◌, Bool, true, false, cond, ◌&&◌, List, [], ◌∷◌, length, Option, Some, None, refl, sym, ap, subst, ◌∙◌}
use Rattle.std.proofs.Common.{arith}
use Rattle.std.specs.Prelude.{not, nat_le, slice_get, option_map, option_and_then}
use Rattle.std.specs.List.{list_all, list_any}
use Rattle.std.specs.Str.{bytes_eq}
use Rattle.std.proofs.lemmas.Bool.{eq-eqb, and_from}
use Rattle.std.proofs.lemmas.Bool.Decides.{nat_tests}
use Rattle.std.proofs.lemmas.Option.{slice_get-map, slice_get_within}
use Rattle.std.proofs.lemmas.Slice.Eq.{bytes_eq-Decides}
use Rattle.fs_model.proofs.Booleans.{and_first, and_second}
use Rattle.fs_model.proofs.Quantifiers.{list_all_at}
use Rattle.fs_model.specs.declared.parts.Sort.{Sort}
use Rattle.fs_model.specs.declared.parts.Sort.TheVariants as sort
use Rattle.fs_model.specs.Machines.{Fsmd}
use Rattle.fs_model.specs.Words.{is_word, is_name, is_reserved}
use Rattle.fs_model.specs.SoundMachines.{names_differ, IsSound}
use Rattle.fs_ast.specs.Places.{first_place}
use Rattle.fs_pair.specs.declared.positions.Position.{Position}
use Rattle.fs_pair.specs.Positions.{positions}
use Rattle.fs_pair.specs.Partners.{variables_on, is_position_of, position_name}
use Rattle.fs_pair.proofs.Once.{names_of, own_number, position_once}
use Rattle.fs_pair.proofs.Variables.{stands_for}
use Rattle.nf_trees.specs.Mentions.{same_pos}
use Rattle.fs_model.specs.declared.sides.Side.{Side}
use Rattle.fs_model.specs.declared.sides.Side.TheVariants.{Left, Right}
use Rattle.fs_model.specs.declared.sides.Pos.{Pos}
use Rattle.fs_model.specs.Sides.{same_side}
use Rattle.fs_model.specs.Runs.{is_port}
use Rattle.fs_model.specs.VariableNames.{name_or_nothing}
use Rattle.fs_model.proofs.SameSides.{same_side_self, same_side_is}
use Rattle.nf_terms.specs.declared.symbols.Sort.{Sort as TermSort}
use Rattle.nf_terms.specs.TermSorts.{same_term_sort}
use Rattle.nf_vectors.specs.SamePlaces.{pos_equal, sorts_equal}
use Rattle.sym_facts.specs.Facts.{sort_of_terms}
use Rattle.sym_facts.specs.Pairings.{is_position}
use Rattle.term_text.specs.TermTexts.{symbol_text}
use Rattle.term_values.specs.NameMeanings.{Find}
use Rattle.term_writer.specs.NamedSymbols.{IsNamed}
use Rattle.cert_writer.specs.WrittenCertificates.{needed_format}
use Rattle.cert_text.specs.CertificateNames.{names_on, place_named, is_in_format, place_within, name_place, sorted_position, find_in, place_by_key}
use Rattle.search_laws.proofs.Lookups.{any_at, passing, alone}

-- ---- first places

-- a name that stands at one place is found there
pub found_at : (names : List (List ℕ)) (k : ℕ) (x : List ℕ) → slice_get names k ≡ Some x → ((j : ℕ) → slice_get names j ≡ Some x → j ≡ k)
    → first_place names x ≡ Some k
found_at [] k x e only = absurd (cc e)
found_at (n ∷ ns) zero x e only = let s : n ≡ x = cc e in ap (λ b. cond b (Some 0) (option_map suc (first_place ns x))) ((bytes_eq-Decides n x).1 s)
found_at (n ∷ ns) (suc k) x e only = by_test (bytes_eq n x) refl (found_at ns k x e (λ j g. (let o = only (suc j) g in cc o)))
  where
    by_test : (b : Bool) → bytes_eq n x ≡ b → first_place ns x ≡ Some k → cond b (Some 0) (option_map suc (first_place ns x)) ≡ Some (suc k)
    by_test true h again = let o = only zero (ap Some ((bytes_eq-Decides n x).0 h)) in absurd (cc o)
    by_test false h again = ap (option_map suc) again

-- ---- names

-- a name is a word of few bytes that is not reserved
pub parts_of_name : (x : List ℕ) → is_name x ≡ true → (is_word x ≡ true) × (nat_le (length x) 32 ≡ true) × (not (is_reserved x) ≡ true)
parts_of_name x e =
    let f = and_first (is_word x && nat_le (length x) 32) (not (is_reserved x)) e in (
      and_first (is_word x) (nat_le (length x) 32) f,
      and_second (is_word x) (nat_le (length x) 32) f,
      and_second (is_word x && nat_le (length x) 32) (not (is_reserved x)) e,
    )

short : (n : ℕ) → nat_le n 32 ≡ true → n ≤ 32
short n e = grind (arith, nat_tests)

-- ---- the format

ports_counted : (s : Sort) (t : Bool) → (is_port s ≡ true → t ≡ true) → is_in_format (cond t 2 1) s ≡ true
ports_counted sort.Scalar t h = refl
ports_counted sort.Array t h = refl
ports_counted sort.Port true h = refl
ports_counted sort.Port false h = let e = h refl in absurd (cc e)

all_in_four : (s : Sort) → is_in_format 4 s ≡ true
all_in_four sort.Scalar = refl
all_in_four sort.Array = refl
all_in_four sort.Port = refl

-- in the format that is written each position is one
pub in_format : (differ : Bool) (ps : List Position) (k : ℕ) (p : Position) → slice_get ps k ≡ Some p
    → is_in_format (needed_format differ ps) p.sort ≡ true
in_format true ps k p e = ports_counted p.sort (list_any (λ q. is_port q.sort) ps) (λ h. any_at (λ q. is_port q.sort) ps k p e h)
in_format false ps k p e = all_in_four p.sort

module _ (a b : Fsmd) (left : IsSound a) (right : IsSound b) (differ : Bool) where
  abbrev all : List Position
  all = positions a b

  differ_on : (side : Side) → names_differ (names_of (variables_on side a b)) ≡ true
  differ_on Left = left.variables_differ
  differ_on Right = right.variables_differ

  named_on : (side : Side) → list_all (λ v. is_name v.name) (variables_on side a b) ≡ true
  named_on Left = left.variables_named
  named_on Right = right.variables_named

  -- the name of a position is one
  pub name_there : (k : ℕ) (p : Position) → slice_get all k ≡ Some p → is_name (position_name a b p.pos) ≡ true
  name_there k p e =
      let s = stands_for a b k p e in
      ap (λ o. is_name (name_or_nothing o)) s.is.is ∙ list_all_at (λ v. is_name v.name)
      (variables_on p.pos.side a b) p.pos.var s.variable (named_on p.pos.side) s.is.is

  -- positions of one side and one name have one place
  one_place : (j k : ℕ) (q p : Position) → slice_get all j ≡ Some q → slice_get all k ≡ Some p → q.pos.side ≡ p.pos.side
      → position_name a b q.pos ≡ position_name a b p.pos → j ≡ k
  one_place j k q p e f s n =
      let u = stands_for a b j q e in
      let v = stands_for a b k p f in
      let there : slice_get (variables_on p.pos.side a b) q.pos.var ≡ Some u.variable =
      subst (λ d. slice_get (variables_on d a b) q.pos.var ≡ Some u.variable) s u.is.is in
      let names : u.variable.name ≡ v.variable.name = sym (ap name_or_nothing u.is.is) ∙ n ∙ ap name_or_nothing v.is.is in
      let number : q.pos.var ≡ p.pos.var = own_number (variables_on p.pos.side a b) q.pos.var p.pos.var u.variable v.variable
      (differ_on p.pos.side) there v.is.is names in
      let test : Position → Bool = λ r. is_position_of p.pos.side p.pos.var r.pos in
      let itself : test p ≡ true = and_from (same_side p.pos.side p.pos.side) (p.pos.var == p.pos.var) (same_side_self p.pos.side)
      (eq-eqb p.pos.var p.pos.var refl) in
      let other : test q ≡ true = and_from (same_side q.pos.side p.pos.side) (q.pos.var == p.pos.var)
      (ap (λ d. same_side d p.pos.side) s ∙ same_side_self p.pos.side) (eq-eqb q.pos.var p.pos.var number) in
      alone test all j k q p (position_once a b left right p.pos.side p.pos.var (slice_get_within (variables_on p.pos.side a b) p.pos.var v.variable v.is.is))
      e other f itself

  abbrev listed : Side → Position → List ℕ
  listed side p = cond (same_side p.pos.side side) (position_name a b p.pos) []

  only_there : (k : ℕ) (p : Position) → slice_get all k ≡ Some p → (j : ℕ) (o : Option Position) → slice_get all j ≡ o
      → option_map (listed p.pos.side) o ≡ Some (position_name a b p.pos) → j ≡ k
  only_there k p e j None f g = absurd (cc g)
  only_there k p e j (Some q) f g = by_side (same_side q.pos.side p.pos.side) refl (let h : listed p.pos.side q ≡ position_name a b p.pos = cc g in h)
    where
      by_side : (t : Bool) → same_side q.pos.side p.pos.side ≡ t → cond t (position_name a b q.pos) [] ≡ position_name a b p.pos → j ≡ k
      by_side true s h = one_place j k q p f e (same_side_is q.pos.side p.pos.side s) h
      by_side false s h = let n : is_name [] ≡ true = ap is_name h ∙ name_there k p e in absurd (cc n)

  place_listed : (k : ℕ) (p : Position) → slice_get all k ≡ Some p → first_place (names_on a b p.pos.side all) (position_name a b p.pos) ≡ Some k
  place_listed k p e =
      let f : Position → List ℕ = listed p.pos.side in
      let own : f p ≡ position_name a b p.pos = ap (λ t. cond t (position_name a b p.pos) []) (same_side_self p.pos.side) in
      found_at (names_on a b p.pos.side all) k (position_name a b p.pos) (slice_get-map f all k ∙ ap (option_map f) e ∙ ap Some own)
      (λ j g. only_there k p e j (slice_get all j) refl (sym (slice_get-map f all j) ∙ g))

  no_empty : (side : Side) (x : List ℕ) → is_name x ≡ true → place_named a b all side x ≡ first_place (names_on a b side all) x
  no_empty side [] h = absurd (cc h)
  no_empty side (c ∷ cs) h = refl

  -- a position is found by its name
  pub place_found : (k : ℕ) (p : Position) → slice_get all k ≡ Some p
      → name_place (place_named a b all) all (needed_format differ all) p.pos.side (position_name a b p.pos) ≡ Some k
  place_found k p e =
      let format = needed_format differ all in
      ap (option_and_then (place_within format all)) (no_empty p.pos.side (position_name a b p.pos) (name_there k p e) ∙ place_listed k p e)
      ∙ ap (option_and_then (λ q. cond (is_in_format format q.sort) (Some k) None)) e
      ∙ ap (λ t. cond t (Some k) None) (in_format differ all k p e)

  abbrev pub find : Find
  find = find_in (place_named a b all) all (needed_format differ all)

  named_at : (k : ℕ) (p : Position) → slice_get all k ≡ Some p → IsNamed (position_name a b) find (sort_of_terms p.sort) p.pos
  named_at k p e =
      let name : is_name (position_name a b p.pos) ≡ true = name_there k p e in
      let n = parts_of_name (position_name a b p.pos) name in
      record {
        word = and_from (is_word (position_name a b p.pos)) (not (is_reserved (position_name a b p.pos))) n.0 n.2;
        short = short (length (position_name a b p.pos)) n.1;
        found = ap (option_and_then (λ j. option_map sorted_position (slice_get all j))) (place_found k p e) ∙ ap (option_map sorted_position) e;
      }

  -- each symbol of the pairing is named
  pub named : (p : Pos) (s : TermSort) → is_position all (p, s) ≡ true → IsNamed (position_name a b) find s p
  named p s h =
      let test : Position → Bool = λ q. same_pos q.pos p && same_term_sort (sort_of_terms q.sort) s in
      let r = passing test all h in
      let same : r.item.pos ≡ p = pos_equal r.item.pos p (and_first (same_pos r.item.pos p) (same_term_sort (sort_of_terms r.item.sort) s) r.passes) in
      let sorts : sort_of_terms r.item.sort ≡ s = sorts_equal (sort_of_terms r.item.sort) s
      (and_second (same_pos r.item.pos p) (same_term_sort (sort_of_terms r.item.sort) s) r.passes) in
      subst (λ q. IsNamed (position_name a b) find s q) same
      (subst (λ t. IsNamed (position_name a b) find t r.item.pos) sorts (named_at r.place r.item r.at))

  key_read : (place : Side → List ℕ → Option ℕ) (side : Side) (x : List ℕ) → place_by_key place (symbol_text side x) ≡ place side x
  key_read place Left x = refl
  key_read place Right x = refl

  -- the key of a position names its place
  pub key_found : (k : ℕ) (p : Position) → slice_get all k ≡ Some p
      → place_by_key (name_place (place_named a b all) all (needed_format differ all)) (symbol_text p.pos.side (position_name a b p.pos)) ≡ Some k
  key_found k p e = key_read (name_place (place_named a b all) all (needed_format differ all)) p.pos.side (position_name a b p.pos) ∙ place_found k p e
