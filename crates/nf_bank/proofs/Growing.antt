-- What numbers stand for stays as atoms are put behind, and differs where the numbers do.
use Rattle.std.proofs.Common.{◌≡◌, ℕ, ◌≤◌, max, ℤ, Some, List, [], ◌∷◌, ◌++◌, length, map, arith, refl, ap, sym, ◌∙◌}
use Rattle.std.proofs.lemmas.List.{get_or_append_left, length-append}
use Rattle.nf_trees.specs.NormalTerms.{Atom, Monomial, Polynomial, ArrayTerm, Read, Quotient, Remainder, Over, monomial_of, polynomial_of, writes_of}
use Rattle.nf_bank.specs.declared.node.Term.{Term}
use Rattle.nf_bank.specs.declared.node.Array.{Array}
use Rattle.nf_bank.specs.declared.node.Node.TheVariants as node
use Rattle.nf_bank.specs.Atoms.{atom_place, IsBank, IsFront}
use Rattle.nf_bank.specs.AtomNumbers.{bound_over, bound_of_number, bound_of_term, bound_of_sum, bound_of_write, bound_of_array, bound_of_node, past_end}
use Rattle.nf_bank.specs.AtomNumbers.{atom_of_number, scaled_monomial_over, sum_over, write_over, array_over, atom_over, SpellsOverAtoms, SpellsSum}
use Rattle.nf_bank.specs.AtomNumbers.{SpellsArray, SpellsAtom}
use Rattle.nf_bank.proofs.Bounds.{max_left, max_right, max_both}
use Rattle.nf_bank.proofs.Places.{one_place, at_place}

-- ---- more atoms behind change nothing

abbrev pub Grows : {N V : Type 0} → (N → ℕ) → (List Atom → N → V) → Type 0
Grows {N} bound over = (atoms rest : List Atom) (n : N) → bound n ≤ length atoms → over (atoms ++ rest) n ≡ over atoms n

list_grows : {N V : Type 0} (bound : N → ℕ) (over : List Atom → N → V) → Grows bound over → Grows (bound_over bound) (λ atoms. map (over atoms))
list_grows bound over g atoms rest [] h = refl
list_grows bound over g atoms rest (n ∷ ns) h =
    λ k. g atoms rest n (max_left (bound n) (bound_over bound ns) (length atoms) h) k
    ∷ list_grows bound over g atoms rest ns (max_right (bound n) (bound_over bound ns) (length atoms) h) k

pub numbers_grow : Grows bound_of_number atom_of_number
numbers_grow atoms rest i h = get_or_append_left atoms rest past_end i.0 (omega arith)

pub terms_grow : Grows bound_of_term scaled_monomial_over
terms_grow atoms rest t h = λ k. (monomial_of (list_grows bound_of_number atom_of_number numbers_grow atoms rest t.atoms h k), t.coefficient)

pub sums_grow : Grows bound_of_sum sum_over
sums_grow atoms rest s h = ap polynomial_of (list_grows bound_of_term scaled_monomial_over terms_grow atoms rest s h)

pub writes_grow : Grows bound_of_write write_over
writes_grow atoms rest w h =
    λ k. (
      sums_grow atoms rest w.index (max_left (bound_of_sum w.index) (bound_of_sum w.value) (length atoms) h) k,
      sums_grow atoms rest w.value (max_right (bound_of_sum w.index) (bound_of_sum w.value) (length atoms) h) k,
    )

pub arrays_grow : Grows bound_of_array array_over
arrays_grow atoms rest a h = λ k. Over a.base (writes_of (list_grows bound_of_write write_over writes_grow atoms rest a.writes h k))

pub nodes_grow : Grows bound_of_node atom_over
nodes_grow atoms rest (node.Sym p) h = refl
nodes_grow atoms rest (node.Read a i) h =
    λ k. Read (arrays_grow atoms rest a (max_left (bound_of_array a) (bound_of_sum i) (length atoms) h) k)
    (sums_grow atoms rest i (max_right (bound_of_array a) (bound_of_sum i) (length atoms) h) k)
nodes_grow atoms rest (node.Div p q) h =
    λ k. Quotient (sums_grow atoms rest p (max_left (bound_of_sum p) (bound_of_sum q) (length atoms) h) k)
    (sums_grow atoms rest q (max_right (bound_of_sum p) (bound_of_sum q) (length atoms) h) k)
nodes_grow atoms rest (node.Rem p q) h =
    λ k. Remainder (sums_grow atoms rest p (max_left (bound_of_sum p) (bound_of_sum q) (length atoms) h) k)
    (sums_grow atoms rest q (max_right (bound_of_sum p) (bound_of_sum q) (length atoms) h) k)

pub front_length : (atoms whole : List Atom) → IsFront atoms whole → length atoms ≤ length whole
front_length atoms whole f = omega (arith, ap length f.split, length-append atoms f.rest)

module _ {N V : Type 0} (bound : N → ℕ) (over : List Atom → N → V) (g : Grows bound over) where
  -- what numbers stand for over the front of a list
  pub front_stays : (atoms whole : List Atom) (n : N) → IsFront atoms whole → bound n ≤ length atoms → over whole n ≡ over atoms n
  front_stays atoms whole n f h = ap (λ l. over l n) f.split ∙ g atoms f.rest n h

  pub spells_more : (atoms whole : List Atom) (n : N) (v : V) → IsFront atoms whole → SpellsOverAtoms bound over atoms n v
      → SpellsOverAtoms bound over whole n v
  spells_more atoms whole n v f s = record { within = omega (arith, s.within, front_length atoms whole f); is = front_stays atoms whole n f s.within ∙ s.is }

  -- a list of what spells something
  pub spells_list : (atoms whole : List Atom) (ns : List N) (vs : List V) → IsFront atoms whole
      → SpellsOverAtoms (bound_over bound) (λ l. map (over l)) atoms ns vs → SpellsOverAtoms (bound_over bound) (λ l. map (over l)) whole ns vs
  spells_list atoms whole ns vs f s = record {
    within = omega (arith, s.within, front_length atoms whole f);
    is = ap (λ l. map (over l) ns) f.split ∙ list_grows bound over g atoms f.rest ns s.within ∙ s.is;
  }

-- ---- nodes of numbers that spell their parts

pub read_spelled : (first atoms : List Atom) (a : Array) (i : List Term) (b : ArrayTerm) (p : Polynomial) → IsFront first atoms → SpellsArray first a b
    → SpellsSum atoms i p → SpellsAtom atoms (node.Read a i) (Read b p)
read_spelled first atoms a i b p f s t =
    let r = spells_more bound_of_array array_over arrays_grow first atoms a b f s in
    record { within = max_both (bound_of_array a) (bound_of_sum i) (length atoms) r.within t.within; is = λ k. Read (r.is k) (t.is k) }

pub quotient_spelled : (first atoms : List Atom) (s t : List Term) (p q : Polynomial) → IsFront first atoms → SpellsSum first s p → SpellsSum atoms t q
    → SpellsAtom atoms (node.Div s t) (Quotient p q)
quotient_spelled first atoms s t p q f u v =
    let r = spells_more bound_of_sum sum_over sums_grow first atoms s p f u in
    record { within = max_both (bound_of_sum s) (bound_of_sum t) (length atoms) r.within v.within; is = λ k. Quotient (r.is k) (v.is k) }

pub remainder_spelled : (first atoms : List Atom) (s t : List Term) (p q : Polynomial) → IsFront first atoms → SpellsSum first s p → SpellsSum atoms t q
    → SpellsAtom atoms (node.Rem s t) (Remainder p q)
remainder_spelled first atoms s t p q f u v =
    let r = spells_more bound_of_sum sum_over sums_grow first atoms s p f u in
    record { within = max_both (bound_of_sum s) (bound_of_sum t) (length atoms) r.within v.within; is = λ k. Remainder (r.is k) (v.is k) }

-- ---- different numbers stand for different terms

monomial_inj : (l r : List Atom) → monomial_of l ≡ monomial_of r → l ≡ r
monomial_inj [] [] e = refl
monomial_inj [] (b ∷ r) e = cc
monomial_inj (a ∷ l) [] e = cc
monomial_inj (a ∷ l) (b ∷ r) e = let f : a ≡ b = cc in let g : l ≡ r = monomial_inj l r (cc) in λ k. f k ∷ g k

polynomial_inj : (l r : List (Monomial × ℤ)) → polynomial_of l ≡ polynomial_of r → l ≡ r
polynomial_inj [] [] e = refl
polynomial_inj [] (b ∷ r) e = cc
polynomial_inj (a ∷ l) [] e = cc
polynomial_inj (a ∷ l) (b ∷ r) e = let f : a.0 ≡ b.0 = cc in let c : a.1 ≡ b.1 = cc in let g : l ≡ r = polynomial_inj l r (cc) in λ k. (f k, c k) ∷ g k

writes_inj : (l r : List (Polynomial × Polynomial)) → writes_of l ≡ writes_of r → l ≡ r
writes_inj [] [] e = refl
writes_inj [] (b ∷ r) e = cc
writes_inj (a ∷ l) [] e = cc
writes_inj (a ∷ l) (b ∷ r) e = let f : a.0 ≡ b.0 = cc in let c : a.1 ≡ b.1 = cc in let g : l ≡ r = writes_inj l r (cc) in λ k. (f k, c k) ∷ g k

module _ (atoms : List Atom) (bank : IsBank atoms) where
  abbrev Tells : {N V : Type 0} → (N → ℕ) → (List Atom → N → V) → Type 0
  Tells {N} bound over = (m n : N) → bound m ≤ length atoms → bound n ≤ length atoms → over atoms m ≡ over atoms n → m ≡ n

  list_tells : {N V : Type 0} (bound : N → ℕ) (over : List Atom → N → V) → Tells bound over → Tells (bound_over bound) (λ l. map (over l))
  list_tells bound over t [] [] g h e = refl
  list_tells bound over t [] (n ∷ ns) g h e = cc
  list_tells bound over t (m ∷ ms) [] g h e = cc
  list_tells bound over t (m ∷ ms) (n ∷ ns) g h e =
      let x : over atoms m ≡ over atoms n = cc in
      let y : map (over atoms) ms ≡ map (over atoms) ns = cc in
      let u = t m n (max_left (bound m) (bound_over bound ms) (length atoms) g) (max_left (bound n) (bound_over bound ns) (length atoms) h) x in
      let v = list_tells bound over t ms ns (max_right (bound m) (bound_over bound ms) (length atoms) g)
      (max_right (bound n) (bound_over bound ns) (length atoms) h) y in
      λ k. u k ∷ v k

  numbers_tell : Tells bound_of_number atom_of_number
  numbers_tell i j g h e =
      let a = one_place atoms (atom_of_number atoms i) i.0 bank (at_place atoms i.0 (atom_of_number atoms i) refl (omega arith)) in
      let b = one_place atoms (atom_of_number atoms j) j.0 bank (at_place atoms j.0 (atom_of_number atoms j) refl (omega arith)) in
      let f : Some i.0 ≡ Some j.0 = sym a ∙ ap (λ x. atom_place x atoms) e ∙ b in
      let n : i.0 ≡ j.0 = cc in
      λ k. record { 0 = n k }

  terms_tell : Tells bound_of_term scaled_monomial_over
  terms_tell s t g h e =
      let a = list_tells bound_of_number atom_of_number numbers_tell s.atoms t.atoms g h
      (monomial_inj (map (atom_of_number atoms) s.atoms) (map (atom_of_number atoms) t.atoms) (ap (λ x. x.0) e)) in
      λ k. record { atoms = a k; coefficient = (e k).1 }

  sums_tell : Tells bound_of_sum sum_over
  sums_tell s t g h e = list_tells bound_of_term scaled_monomial_over terms_tell s t g h
      (polynomial_inj (map (scaled_monomial_over atoms) s) (map (scaled_monomial_over atoms) t) e)

  writes_tell : Tells bound_of_write write_over
  writes_tell w x g h e =
      let n = length atoms in
      let i = sums_tell w.index x.index (max_left (bound_of_sum w.index) (bound_of_sum w.value) n g)
      (max_left (bound_of_sum x.index) (bound_of_sum x.value) n h) (ap (λ y. y.0) e) in
      let v = sums_tell w.value x.value (max_right (bound_of_sum w.index) (bound_of_sum w.value) n g)
      (max_right (bound_of_sum x.index) (bound_of_sum x.value) n h) (ap (λ y. y.1) e) in
      λ k. record { index = i k; value = v k }

  arrays_tell : Tells bound_of_array array_over
  arrays_tell a b g h e =
      let f : a.base ≡ b.base = cc in
      let ws : writes_of (map (write_over atoms) a.writes) ≡ writes_of (map (write_over atoms) b.writes) = cc in
      let w = list_tells bound_of_write write_over writes_tell a.writes b.writes g h
      (writes_inj (map (write_over atoms) a.writes) (map (write_over atoms) b.writes) ws) in
      λ k. record { base = f k; writes = w k }

  sums_both : (p q r s : List Term) → max (bound_of_sum p) (bound_of_sum q) ≤ length atoms → max (bound_of_sum r) (bound_of_sum s) ≤ length atoms
      → sum_over atoms p ≡ sum_over atoms r → sum_over atoms q ≡ sum_over atoms s → (p ≡ r) × (q ≡ s)
  sums_both p q r s g h e f =
      let n = length atoms in (
        sums_tell p r (max_left (bound_of_sum p) (bound_of_sum q) n g) (max_left (bound_of_sum r) (bound_of_sum s) n h) e,
        sums_tell q s (max_right (bound_of_sum p) (bound_of_sum q) n g) (max_right (bound_of_sum r) (bound_of_sum s) n h) f,
      )

  -- nodes over different atoms stand for one atom only where they are equal
  pub nodes_tell : Tells bound_of_node atom_over
  nodes_tell (node.Sym p) (node.Sym q) g h e = let f : p ≡ q = cc in ap node.Sym f
  nodes_tell (node.Sym p) (node.Read b j) g h e = cc
  nodes_tell (node.Sym p) (node.Div r s) g h e = cc
  nodes_tell (node.Sym p) (node.Rem r s) g h e = cc
  nodes_tell (node.Read a i) (node.Sym q) g h e = cc
  nodes_tell (node.Read a i) (node.Read b j) g h e =
      let n = length atoms in
      let x : array_over atoms a ≡ array_over atoms b = cc in
      let y : sum_over atoms i ≡ sum_over atoms j = cc in
      let u = arrays_tell a b (max_left (bound_of_array a) (bound_of_sum i) n g) (max_left (bound_of_array b) (bound_of_sum j) n h) x in
      let v = sums_tell i j (max_right (bound_of_array a) (bound_of_sum i) n g) (max_right (bound_of_array b) (bound_of_sum j) n h) y in
      λ k. node.Read (u k) (v k)
  nodes_tell (node.Read a i) (node.Div r s) g h e = cc
  nodes_tell (node.Read a i) (node.Rem r s) g h e = cc
  nodes_tell (node.Div p q) (node.Sym u) g h e = cc
  nodes_tell (node.Div p q) (node.Read b j) g h e = cc
  nodes_tell (node.Div p q) (node.Div r s) g h e =
      let x : sum_over atoms p ≡ sum_over atoms r = cc in
      let y : sum_over atoms q ≡ sum_over atoms s = cc in
      let u = sums_both p q r s g h x y in
      λ k. node.Div (u.0 k) (u.1 k)
  nodes_tell (node.Div p q) (node.Rem r s) g h e = cc
  nodes_tell (node.Rem p q) (node.Sym u) g h e = cc
  nodes_tell (node.Rem p q) (node.Read b j) g h e = cc
  nodes_tell (node.Rem p q) (node.Div r s) g h e = cc
  nodes_tell (node.Rem p q) (node.Rem r s) g h e =
      let x : sum_over atoms p ≡ sum_over atoms r = cc in
      let y : sum_over atoms q ≡ sum_over atoms s = cc in
      let u = sums_both p q r s g h x y in
      λ k. node.Rem (u.0 k) (u.1 k)
