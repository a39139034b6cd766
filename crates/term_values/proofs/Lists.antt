-- A test of what a list makes is the test of its parts, and its value is made of theirs.
use Rattle.std.proofs.Common.{◌≡◌, ℕ, ◌+◌, ◌<◌, ◌≤◌, Bool, true, false, ◌&&◌, List, [], ◌∷◌, ◌++◌, map, drop, length, get_or, refl, sym, ap, ◌∙◌}
use Rattle.std.proofs.Common.{append_assoc, Result, Ok, Err}
use Rattle.std.specs.Result.{IfOk}
use Rattle.std.proofs.lemmas.List.{drop_all, append-nil, map_push}
use Rattle.std.proofs.lemmas.Result.{IfOk-at_ok}
use Rattle.fs_model.proofs.Lists.{map_drop_next}
use Rattle.nf_trees.specs.NormalTerms as terms
use Rattle.nf_trees.specs.declared.stop.NoMemory.{NoMemory}
use Rattle.nf_trees.specs.declared.tree.Atom.{Atom as AtomTree}
use Rattle.nf_trees.specs.View.{atom_in}
use Rattle.term_text.specs.declared.tree.WrittenAtom.{WrittenAtom}
use Rattle.term_text.specs.declared.tree.WrittenBase.{WrittenBase}
use Rattle.term_text.specs.declared.tree.WrittenBase.TheVariants as bases
use Rattle.term_text.specs.declared.tree.WrittenList.{WrittenList}
use Rattle.term_text.specs.declared.tree.WrittenListBase.{WrittenListBase}
use Rattle.term_text.specs.declared.tree.WrittenListBase.TheVariants as list_bases
use Rattle.term_text.specs.TermTexts.{Atom, Monomial, Sum, Polynomial, ArrayTerm, ListSyntax, One, Times, Written, Pushed}
use Rattle.term_text.specs.declared.tree.WrittenMonomial.{WrittenMonomial, out-WrittenMonomial}
use Rattle.term_text.specs.declared.tree.WrittenPolynomial.{WrittenPolynomial, out-WrittenPolynomial}
use Rattle.term_text.specs.declared.tree.WrittenArray.{WrittenArray, out-WrittenArray}
use Rattle.term_text.specs.declared.tree.WrittenAtom.TheFolds.{fold_out-WrittenMonomial, fold_out-WrittenPolynomial, fold_out-WrittenArray}
use Rattle.term_text.specs.View.{written_atom_step, head_step, array_step, monomial_step, polynomial_step, written_atom_in, head_in, written_monomial_in}
use Rattle.term_text.specs.View.{written_polynomial_in, written_array_in, written_term_in, written_write_in, times_all, first_sum, more_sum, sum_all}
use Rattle.term_text.specs.View.{polynomial_all, written_all, pushed_all, base_in, list_base_in, written_list_in}
use Rattle.term_values.specs.Checks.{Test, atom_passes, monomial_passes, sum_passes, polynomial_passes, array_passes, list_passes, factor_passes}
use Rattle.term_values.specs.TermValues.{Interpretation, coefficient, atom_value, atoms_of, sum_value, polynomial_value, array_value, list_base, list_items}
use Rattle.term_values.specs.TermValues.{list_value}
use Rattle.term_values.specs.ListParts.{has_first_atom, stands, atoms_pass, monomials_pass, writes_pass, items_pass, term_value, write_value, base_value}
use Rattle.term_values.specs.ListParts.{IsPushed}

and_assoc : (a b c : Bool) → ((a && b) && c) ≡ (a && (b && c))
and_assoc true b c = refl
and_assoc false b c = refl

and_nil : (a : Bool) → a ≡ (a && true)
and_nil true = refl
and_nil false = refl

-- an atom stands where others follow it
pub atom_stands : (t : Test) (a : Atom) (followed : Bool) → (atom_passes t a && stands t (One a) followed) ≡ atom_passes t a
atom_stands t a true = sym (and_nil (atom_passes t a))
atom_stands t a false = sym (and_nil (atom_passes t a))

later_atoms : (t : Test) (m : Monomial) (a : Atom) (followed : Bool) → stands t (Times m a) followed ≡ true
later_atoms t m a true = refl
later_atoms t m a false = refl

regrouped : (a b c d h : Bool) → h ≡ true → (((a && b && c) && h) && d) ≡ ((a && b) && (c && d))
regrouped true true c d h e = rw e (ap (λ x. x && d) (sym (and_nil c)))
regrouped true false c d h e = refl
regrouped false b c d h e = refl

atoms_all : (t : Test) (m : Monomial) (xs : List Atom)
    → monomial_passes t (times_all m xs) ≡ ((monomial_passes t m && stands t m (has_first_atom xs)) && atoms_pass t xs)
atoms_all t m [] = and_nil (monomial_passes t m) ∙ and_nil (monomial_passes t m && true)
atoms_all t m (a ∷ xs) = atoms_all t (Times m a) xs ∙ regrouped (monomial_passes t m) (factor_passes t m) (atom_passes t a) (atoms_pass t xs)
    (stands t (Times m a) (has_first_atom xs)) (later_atoms t m a (has_first_atom xs))

pub first_passes : (t : Test) (m : Bool × Monomial) → sum_passes t (first_sum m) ≡ monomial_passes t m.1
first_passes t (true, m) = refl
first_passes t (false, m) = refl

pub more_passes : (t : Test) (s : Sum) (m : Bool × Monomial) → sum_passes t (more_sum s m) ≡ (sum_passes t s && monomial_passes t m.1)
more_passes t s (true, m) = refl
more_passes t s (false, m) = refl

sums_all : (t : Test) (s : Sum) (ms : List (Bool × Monomial)) → sum_passes t (sum_all s ms) ≡ (sum_passes t s && monomials_pass t ms)
sums_all t s [] = and_nil (sum_passes t s)
sums_all t s (m ∷ ms) = sums_all t (more_sum s m) ms ∙ ap (λ b. b && monomials_pass t ms) (more_passes t s m)
    ∙ and_assoc (sum_passes t s) (monomial_passes t m.1) (monomials_pass t ms)

monomials_all : (t : Test) (ms : List (Bool × Monomial)) → polynomial_passes t (polynomial_all ms) ≡ monomials_pass t ms
monomials_all t [] = refl
monomials_all t (m ∷ ms) = sums_all t (first_sum m) ms ∙ ap (λ b. b && monomials_pass t ms) (first_passes t m)

writes_all : (t : Test) (a : ArrayTerm) (ws : List (Polynomial × Polynomial)) → array_passes t (written_all a ws) ≡ (array_passes t a && writes_pass t ws)
writes_all t a [] = and_nil (array_passes t a)
writes_all t a (w ∷ ws) =
    writes_all t (Written a w.0 w.1) ws ∙ ap (λ b. b && writes_pass t ws) (and_assoc (array_passes t a) (polynomial_passes t w.0) (polynomial_passes t w.1))
    ∙ and_assoc (array_passes t a) (polynomial_passes t w.0 && polynomial_passes t w.1) (writes_pass t ws)

pub items_all : (t : Test) (l : ListSyntax) (ps : List Polynomial) → list_passes t (pushed_all l ps) ≡ (list_passes t l && items_pass t ps)
items_all t l [] = and_nil (list_passes t l)
items_all t l (p ∷ ps) = items_all t (Pushed l p) ps ∙ and_assoc (list_passes t l) (polynomial_passes t p) (items_pass t ps)

-- ---- the same of trees

pub monomial_tree : (t : Test) (m : WrittenMonomial)
    → monomial_passes t (written_monomial_in m)
    ≡ ((monomial_passes t (head_in (out-WrittenMonomial m).head) && stands t (head_in (out-WrittenMonomial m).head)
    (has_first_atom (map written_atom_in (out-WrittenMonomial m).atoms.items))) && atoms_pass t (map written_atom_in (out-WrittenMonomial m).atoms.items))
monomial_tree t m = ap (monomial_passes t)
    (fold_out-WrittenMonomial Atom Monomial ArrayTerm Monomial Polynomial written_atom_step head_step array_step monomial_step polynomial_step m)
    ∙ atoms_all t (head_in (out-WrittenMonomial m).head) (map written_atom_in (out-WrittenMonomial m).atoms.items)

pub polynomial_tree : (t : Test) (p : WrittenPolynomial)
    → polynomial_passes t (written_polynomial_in p) ≡ monomials_pass t (map written_term_in (out-WrittenPolynomial p).monomials.items)
polynomial_tree t p = ap (polynomial_passes t)
    (fold_out-WrittenPolynomial Atom Monomial ArrayTerm Monomial Polynomial written_atom_step head_step array_step monomial_step polynomial_step p)
    ∙ monomials_all t (map written_term_in (out-WrittenPolynomial p).monomials.items)

pub array_tree : (t : Test) (a : WrittenArray) → array_passes t (written_array_in a)
    ≡ (array_passes t (base_in (out-WrittenArray a).base) && writes_pass t (map written_write_in (out-WrittenArray a).writes.items))
array_tree t a =
    ap (array_passes t)
    (fold_out-WrittenArray Atom Monomial ArrayTerm Monomial Polynomial written_atom_step head_step array_step monomial_step polynomial_step a)
    ∙ writes_all t (base_in (out-WrittenArray a).base) (map written_write_in (out-WrittenArray a).writes.items)

-- a monomial whose head was tested
module _ (t : Test) (m : WrittenMonomial) (begun followed : Bool) (atoms : List WrittenAtom)
    (begins : begun ≡ (monomial_passes t (head_in (out-WrittenMonomial m).head) && stands t (head_in (out-WrittenMonomial m).head) followed))
    (more : followed ≡ has_first_atom (map written_atom_in atoms)) (are : atoms ≡ (out-WrittenMonomial m).atoms.items) where
  all_of : monomial_passes t (written_monomial_in m) ≡ (begun && atoms_pass t (map written_atom_in atoms))
  all_of =
      let head = head_in (out-WrittenMonomial m).head in
      let follows = more ∙ ap (λ xs. has_first_atom (map written_atom_in xs)) are in
      monomial_tree t m ∙ (λ j. (monomial_passes t head && stands t head (sym follows j)) && atoms_pass t (map written_atom_in (sym are j)))
      ∙ ap (λ b. b && atoms_pass t (map written_atom_in atoms)) (sym begins)

  pub monomial_stops : begun ≡ false → false ≡ monomial_passes t (written_monomial_in m)
  monomial_stops e = sym (all_of ∙ ap (λ b. b && atoms_pass t (map written_atom_in atoms)) e)

  pub monomial_goes_on : begun ≡ true → monomial_passes t (written_monomial_in m) ≡ atoms_pass t (map written_atom_in atoms)
  monomial_goes_on e = all_of ∙ ap (λ b. b && atoms_pass t (map written_atom_in atoms)) e

-- ---- values

coefficient_all : (number : List ℕ → ℕ) (m : Monomial) (xs : List Atom) → coefficient number (times_all m xs) ≡ coefficient number m
coefficient_all number m [] = refl
coefficient_all number m (a ∷ xs) = coefficient_all number (Times m a) xs

pub coefficient_tree : (number : List ℕ → ℕ) (m : WrittenMonomial)
    → coefficient number (written_monomial_in m) ≡ coefficient number (head_in (out-WrittenMonomial m).head)
coefficient_tree number m = ap (coefficient number)
    (fold_out-WrittenMonomial Atom Monomial ArrayTerm Monomial Polynomial written_atom_step head_step array_step monomial_step polynomial_step m)
    ∙ coefficient_all number (head_in (out-WrittenMonomial m).head) (map written_atom_in (out-WrittenMonomial m).atoms.items)

atoms_value : (r : Interpretation) (m : Monomial) (xs : List Atom)
    → atoms_of r (times_all m xs) terms.One ≡ atoms_of r m (terms.monomial_of (map (atom_value r) xs))
atoms_value r m [] = refl
atoms_value r m (a ∷ xs) = atoms_value r (Times m a) xs

pub monomial_is : (r : Interpretation) (m : WrittenMonomial)
    → atoms_of r (written_monomial_in m) terms.One ≡ atoms_of r (head_in (out-WrittenMonomial m).head)
    (terms.monomial_of (map (atom_value r) (map written_atom_in (out-WrittenMonomial m).atoms.items)))
monomial_is r m = ap (λ w. atoms_of r w terms.One)
    (fold_out-WrittenMonomial Atom Monomial ArrayTerm Monomial Polynomial written_atom_step head_step array_step monomial_step polynomial_step m)
    ∙ atoms_value r (head_in (out-WrittenMonomial m).head) (map written_atom_in (out-WrittenMonomial m).atoms.items)

first_value : (r : Interpretation) (t : Bool × Monomial) (rest : terms.Polynomial)
    → sum_value r (first_sum t) rest ≡ terms.Plus (term_value r t).0 (term_value r t).1 rest
first_value r (true, m) rest = refl
first_value r (false, m) rest = refl

more_value : (r : Interpretation) (s : Sum) (t : Bool × Monomial) (rest : terms.Polynomial)
    → sum_value r (more_sum s t) rest ≡ sum_value r s (terms.Plus (term_value r t).0 (term_value r t).1 rest)
more_value r s (true, m) rest = refl
more_value r s (false, m) rest = refl

sums_value : (r : Interpretation) (s : Sum) (ts : List (Bool × Monomial))
    → sum_value r (sum_all s ts) terms.Zero ≡ sum_value r s (terms.polynomial_of (map (term_value r) ts))
sums_value r s [] = refl
sums_value r s (t ∷ ts) = sums_value r (more_sum s t) ts ∙ more_value r s t (terms.polynomial_of (map (term_value r) ts))

terms_value : (r : Interpretation) (ts : List (Bool × Monomial)) → polynomial_value r (polynomial_all ts) ≡ terms.polynomial_of (map (term_value r) ts)
terms_value r [] = refl
terms_value r (t ∷ ts) = sums_value r (first_sum t) ts ∙ first_value r t (terms.polynomial_of (map (term_value r) ts))

pub polynomial_is : (r : Interpretation) (p : WrittenPolynomial)
    → polynomial_value r (written_polynomial_in p) ≡ terms.polynomial_of (map (term_value r) (map written_term_in (out-WrittenPolynomial p).monomials.items))
polynomial_is r p = ap (polynomial_value r)
    (fold_out-WrittenPolynomial Atom Monomial ArrayTerm Monomial Polynomial written_atom_step head_step array_step monomial_step polynomial_step p)
    ∙ terms_value r (map written_term_in (out-WrittenPolynomial p).monomials.items)

writes_value : (r : Interpretation) (a : ArrayTerm) (ws : List (Polynomial × Polynomial))
    → array_value r (written_all a ws) terms.NoWrites ≡ array_value r a (terms.writes_of (map (write_value r) ws))
writes_value r a [] = refl
writes_value r a (w ∷ ws) = writes_value r (Written a w.0 w.1) ws

base_is : (r : Interpretation) (b : WrittenBase) (ws : terms.Writes) → array_value r (base_in b) ws ≡ terms.Over (base_value r (base_in b)) ws
base_is r bases.Zero ws = refl
base_is r (bases.Symbol s x) ws = refl

pub array_is : (r : Interpretation) (a : WrittenArray)
    → array_value r (written_array_in a) terms.NoWrites ≡ terms.Over (base_value r (base_in (out-WrittenArray a).base))
    (terms.writes_of (map (write_value r) (map written_write_in (out-WrittenArray a).writes.items)))
array_is r a =
    ap (λ w. array_value r w terms.NoWrites)
    (fold_out-WrittenArray Atom Monomial ArrayTerm Monomial Polynomial written_atom_step head_step array_step monomial_step polynomial_step a)
    ∙ writes_value r (base_in (out-WrittenArray a).base) (map written_write_in (out-WrittenArray a).writes.items)
    ∙ base_is r (out-WrittenArray a).base (terms.writes_of (map (write_value r) (map written_write_in (out-WrittenArray a).writes.items)))

list_base_all : (r : Interpretation) (l : ListSyntax) (ps : List Polynomial) → list_base r (pushed_all l ps) ≡ list_base r l
list_base_all r l [] = refl
list_base_all r l (p ∷ ps) = list_base_all r (Pushed l p) ps

items_all_of : (r : Interpretation) (l : ListSyntax) (ps : List Polynomial) → list_items r (pushed_all l ps) [] ≡ list_items r l (map (polynomial_value r) ps)
items_all_of r l [] = refl
items_all_of r l (p ∷ ps) = items_all_of r (Pushed l p) ps

no_items_of : (r : Interpretation) (b : WrittenListBase) (rest : List terms.Polynomial) → list_items r (list_base_in b) rest ≡ rest
no_items_of r list_bases.Empty rest = refl
no_items_of r (list_bases.Symbol s x) rest = refl

pub list_is : (r : Interpretation) (l : WrittenList)
    → list_value r (written_list_in l) ≡ record {
      base = list_base r (list_base_in l.base);
      items = map (polynomial_value r) (map written_polynomial_in l.items.items);
    }
list_is r l = λ k. record {
  base = list_base_all r (list_base_in l.base) (map written_polynomial_in l.items.items) k;
  items =
      (items_all_of r (list_base_in l.base) (map written_polynomial_in l.items.items)
      ∙ no_items_of r l.base (map (polynomial_value r) (map written_polynomial_in l.items.items))) k;
}

-- ---- a loop over a list: its next item

pub append_moves_twice_mapped : {X Y A : Type 0} (f : X → Y) (g : Y → A) (old new : List A) (xs : List X) (i : ℕ) (x : X) → i < length xs → x ≡ get_or xs i x
    → new ≡ old ++ g (f x) ∷ [] → new ++ map g (map f (drop (i + 1) xs)) ≡ old ++ map g (map f (drop i xs))
append_moves_twice_mapped f g old new xs i x h e n =
    ap (λ l. l ++ map g (map f (drop (i + 1) xs))) n
    ∙ append_assoc old (g (f x) ∷ []) (map g (map f (drop (i + 1) xs)))
    ∙ ap (λ l. old ++ map g l) (sym (map_drop_next f xs i x h e))

-- the same where the item is what was made
pub one_made : {T X Y A : Type 0} (view : T → A) (f : X → Y) (g : Y → A) (made : Result T NoMemory) (old new : List T) (xs : List X) (i : ℕ) (x : X)
    → i < length xs → x ≡ get_or xs i x → IsPushed made old new → IfOk made (λ t. view t ≡ g (f x))
    → map view new ++ map g (map f (drop (i + 1) xs)) ≡ map view old ++ map g (map f (drop i xs))
one_made view f g (Ok t) old new xs i x h e n m = append_moves_twice_mapped f g (map view old) (map view new) xs i x h e
    (ap (map view) n ∙ map_push view old t ∙ ap (λ a. map view old ++ a ∷ []) m)
one_made view f g (Err d) old new xs i x h e n m = absurd n

pub both_made : {A B X Y : Type 0} (view : A → X) (see : B → Y) (left : Result A NoMemory) (right : Result B NoMemory) (made : Result (A × B) NoMemory)
    (x : X) (y : Y) → IfOk made (λ p. left ≡ Ok p.0) → IfOk made (λ p. right ≡ Ok p.1) → IfOk left (λ a. view a ≡ x) → IfOk right (λ b. see b ≡ y)
    → IfOk made (λ p. ◌≡◌ {A = X × Y} (view p.0, see p.1) (x, y))
both_made view see left right (Ok p) x y e h l r =
    let first = IfOk-at_ok (λ a. view a ≡ x) e l in
    let second = IfOk-at_ok (λ b. see b ≡ y) h r in
    λ j. (first j, second j)
both_made view see left right (Err d) x y e h l r = tt

-- the atom that a monomial begins with, as a list
pub atom_first : {V : Type 0} (items : V → List AtomTree) (out : Result V NoMemory) (made : Result AtomTree NoMemory) (r : Interpretation) (h : Monomial)
    (a : Atom) (old : List AtomTree) → old ≡ [] → IfOk out (λ v. IsPushed made old (items v)) → IfOk made (λ t. atom_in t ≡ atom_value r a) → h ≡ One a
    → IfOk out (λ v. (rest : List terms.Atom) → terms.monomial_of (map atom_in (items v) ++ rest) ≡ atoms_of r h (terms.monomial_of rest))
atom_first items (Ok v) (Ok t) r h a old o n m e = λ rest. ap (λ xs. terms.monomial_of (map atom_in xs ++ rest)) (n ∙ ap (λ xs. xs ++ t ∷ []) o)
    ∙ ap (λ x. terms.Times x (terms.monomial_of rest)) m ∙ sym (ap (λ x. atoms_of r x (terms.monomial_of rest)) e)
atom_first items (Ok v) (Err d) r h a old o n m e = absurd n
atom_first items (Err d) made r h a old o n m e = tt

pub whole_list : {X Y A : Type 0} (f : X → Y) (g : Y → A) (done : List A) (xs : List X) (i : ℕ) → length xs ≤ i
    → done ++ map g (map f (drop i xs)) ≡ done
whole_list f g done xs i h = ap (λ l. done ++ map g (map f l)) (drop_all i xs h) ∙ append-nil done

module _ {X Y : Type 0} (f : X → Y) (test : Y → Bool) (all : List Y → Bool) (step : (y : Y) (ys : List Y) → all (y ∷ ys) ≡ (test y && all ys))
    (xs : List X) (i : ℕ) (x : X) (inside : i < length xs) (is : x ≡ get_or xs i x) (whole : Bool) (left : whole ≡ all (map f (drop i xs))) where
  next : whole ≡ (test (f x) && all (map f (drop (i + 1) xs)))
  next = left ∙ ap all (map_drop_next f xs i x inside is) ∙ step (f x) (map f (drop (i + 1) xs))

  pub passes : test (f x) ≡ true → whole ≡ all (map f (drop (i + 1) xs))
  passes e = next ∙ ap (λ b. b && all (map f (drop (i + 1) xs))) e

  pub stops : test (f x) ≡ false → false ≡ whole
  stops e = sym (next ∙ ap (λ b. b && all (map f (drop (i + 1) xs))) e)

pub all_pass : {X Y : Type 0} (f : X → Y) (all : List Y → Bool) (xs : List X) (i : ℕ) (whole : Bool) → whole ≡ all (map f (drop i xs)) → length xs ≤ i
    → all [] ≡ true → true ≡ whole
all_pass f all xs i whole left h e = sym (left ∙ ap (λ l. all (map f l)) (drop_all i xs h) ∙ e)

pub second_stops : (a b : Bool) → a ≡ true → b ≡ false → (a && b) ≡ false
second_stops a b e h = ap (λ c. c && b) e ∙ h
