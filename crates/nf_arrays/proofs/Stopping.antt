-- Reads that pass over writes.
use Rattle.std.proofs.Common.{◌≡◌, ◌+◌, ◌≤◌, ◌&&◌, not, arith, subst, Bool, true, false, cond, List, [], ◌∷◌, ◌++◌, map, refl, ap, sym, ◌∙◌}
use Rattle.std.proofs.Common.{append_assoc, length}
use Rattle.std.proofs.lemmas.List.{append-nil}
use Rattle.nf_trees.specs.NormalTerms.{Polynomial, ArrayTerm, Writes, base_of, writes_over, Read, Over, NoWrites, Write, writes_of}
use Rattle.nf_trees.specs.Order.{same_polynomial}
use Rattle.nf_trees.specs.Measures.{size_of, size_of_writes}
use Rattle.nf_terms.specs.Normal.{IsNormal, IsNormalArray, ordered, ordered_writes, stays_read, differ_by_constant, constant_part, last_index}
use Rattle.std.specs.Prelude.{int_lt}
use Rattle.std.specs.Ordering.{int_eq}
use Rattle.std.specs.Cmp.{signed_Decides}
use Rattle.nf_terms.specs.Normal.{constant_sum}
use Rattle.nf_sums.proofs.Constants.{same_of_equal, equal_of_same, equal_by_sums, constant_is}
use Rattle.nf_terms.specs.Tidied.{goes_after}
use Rattle.nf_trees.specs.declared.tree.Base.{Base}
use Rattle.nf_trees.specs.declared.tree.Base.TheVariants as starts
use Rattle.nf_terms.specs.Computed.{Done}
use Rattle.nf_arrays.specs.NewAtoms.{new_atom}
use Rattle.nf_arrays.proofs.Tidy.{tidy_write, last_normal, prefix_normal}
use Rattle.nf_trees.specs.View.{polynomial_in, write_in}
use Rattle.nf_trees.specs.declared.tree.PolyTree.{PolyTree}
use Rattle.nf_arrays.specs.Writes.{written_last, are_apart, stop_at, prefix_for, last_value, read_here, read_at}

-- the writes of a list
abbrev pub writes_in : List (PolyTree × PolyTree) → Writes
writes_in l = writes_of (map write_in l)

pub writes_in-last : (l : List (PolyTree × PolyTree)) (x : PolyTree × PolyTree)
    → writes_in (l ++ x ∷ []) ≡ written_last (writes_in l) (write_in x).0 (write_in x).1
writes_in-last [] x = refl
writes_in-last (y ∷ l) x = ap (Write (write_in y).0 (write_in y).1) (writes_in-last l x)

pub no_writes : (l : List (PolyTree × PolyTree)) → length l ≡ 0 → l ≡ []
no_writes [] e = refl
no_writes (x ∷ l) e = absurd (omega (arith, e))

stop_before : (i k w : Polynomial) (ws : Writes) (j v : Polynomial) → stop_at i k w (written_last ws j v) ≡ Write k w (written_last ws j v)
stop_before i k w NoWrites j v = refl
stop_before i k w (Write h x ws) j v = refl

pub prefix-last : (i : Polynomial) (ws : Writes) (j v : Polynomial)
    → prefix_for i (written_last ws j v) ≡ cond (are_apart j i) (prefix_for i ws) (written_last ws j v)
prefix-last i NoWrites j v = refl
prefix-last i (Write k w ws) j v = ap (stop_at i k w) (prefix-last i ws j v) ∙ by_test (are_apart j i)
  where
    by_test : (t : Bool) → stop_at i k w (cond t (prefix_for i ws) (written_last ws j v))
        ≡ cond t (stop_at i k w (prefix_for i ws)) (Write k w (written_last ws j v))
    by_test true = refl
    by_test false = stop_before i k w ws j v

module _ (i : Polynomial) (l e : List (PolyTree × PolyTree)) (x : PolyTree × PolyTree) (q : l ≡ e ++ x ∷ []) where
  last_is : writes_in l ≡ written_last (writes_in e) (polynomial_in x.0) (polynomial_in x.1)
  last_is = ap writes_in q ∙ writes_in-last e x

  pub passes : are_apart (polynomial_in x.0) i ≡ true → prefix_for i (writes_in e) ≡ prefix_for i (writes_in l)
  passes h =
      sym (ap (prefix_for i) last_is ∙ prefix-last i (writes_in e) (polynomial_in x.0) (polynomial_in x.1)
      ∙ ap (λ t. cond t (prefix_for i (writes_in e)) (written_last (writes_in e) (polynomial_in x.0) (polynomial_in x.1))) h)

  pub stops : are_apart (polynomial_in x.0) i ≡ false → writes_in l ≡ prefix_for i (writes_in l)
  stops h =
      sym (ap (prefix_for i) last_is ∙ prefix-last i (writes_in e) (polynomial_in x.0) (polynomial_in x.1)
      ∙ ap (λ t. cond t (prefix_for i (writes_in e)) (written_last (writes_in e) (polynomial_in x.0) (polynomial_in x.1))) h ∙ sym last_is)

-- a list that ends with a write holds it last
read_last : (b : Base) (ws : Writes) (j v i : Polynomial)
    → read_here (Over b (written_last ws j v)) i ≡ cond (same_polynomial j i) (Done v) (new_atom (Read (Over b (written_last ws j v)) i))
read_last b ws j v i = by_base b ws
  where
    last_of : (k : Polynomial) (ws : Writes) → last_index k (written_last ws j v) ≡ j
    last_of k NoWrites = refl
    last_of k (Write h x ws) = last_of h ws

    value_of_last : (w : Polynomial) (ws : Writes) → last_value w (written_last ws j v) ≡ v
    value_of_last w NoWrites = refl
    value_of_last w (Write h x ws) = value_of_last x ws

    by_base : (b : Base) (ws : Writes) → read_here (Over b (written_last ws j v)) i
        ≡ cond (same_polynomial j i) (Done v) (new_atom (Read (Over b (written_last ws j v)) i))
    by_base starts.Zero NoWrites = refl
    by_base (starts.Sym p) NoWrites = refl
    by_base starts.Zero (Write k w ws) = λ t. cond (same_polynomial (last_of k ws t) i) (Done (value_of_last w ws t))
        (new_atom (Read (Over starts.Zero (Write k w (written_last ws j v))) i))
    by_base (starts.Sym p) (Write k w ws) = λ t. cond (same_polynomial (last_of k ws t) i) (Done (value_of_last w ws t))
        (new_atom (Read (Over (starts.Sym p) (Write k w (written_last ws j v))) i))

stays_last : (b : Base) (ws : Writes) (j v i : Polynomial) → stays_read (Over b (written_last ws j v)) i ≡ not (differ_by_constant j i)
stays_last b ws j v i = by_base b ws
  where
    last_of : (k : Polynomial) (ws : Writes) → last_index k (written_last ws j v) ≡ j
    last_of k NoWrites = refl
    last_of k (Write h x ws) = last_of h ws

    by_base : (b : Base) (ws : Writes) → stays_read (Over b (written_last ws j v)) i ≡ not (differ_by_constant j i)
    by_base starts.Zero NoWrites = refl
    by_base (starts.Sym p) NoWrites = refl
    by_base starts.Zero (Write k w ws) = ap (λ x. not (differ_by_constant x i)) (last_of k ws)
    by_base (starts.Sym p) (Write k w ws) = ap (λ x. not (differ_by_constant x i)) (last_of k ws)

longer : (b : Writes) (j v : Polynomial) → ¬ (b ≡ written_last b j v)
longer b j v e = unequal b (ap size_of_writes e)
  where
    more : (b : Writes) → size_of_writes (written_last b j v) ≡ size_of_writes b + (1 + size_of j + size_of v)
    more NoWrites = omega arith
    more (Write k w b) = omega (arith, more b)

    unequal : (b : Writes) → size_of_writes b ≡ size_of_writes (written_last b j v) → ⊥
    unequal b e = omega (arith, more b)

prefix_shorter : (i : Polynomial) (ws : Writes) → size_of_writes (prefix_for i ws) ≤ size_of_writes ws
prefix_shorter i NoWrites = omega arith
prefix_shorter i (Write j v ws) = by_rest (prefix_for i ws) (prefix_shorter i ws)
  where
    by_rest : (ps : Writes) → size_of_writes ps ≤ size_of_writes ws → size_of_writes (stop_at i j v ps) ≤ size_of_writes (Write j v ws)
    by_rest NoWrites h = by_test (are_apart j i)
      where
        by_test : (t : Bool) → size_of_writes (cond t NoWrites (Write j v NoWrites)) ≤ size_of_writes (Write j v ws)
        by_test true = omega arith
        by_test false = omega arith
    by_rest (Write k w ps) h = omega arith

-- the index of a write among tidy writes is in order
pub index_at :
    (e d : List (PolyTree × PolyTree)) (x : PolyTree × PolyTree) → ordered_writes (writes_in (e ++ x ∷ d)) ≡ true
    → ordered (polynomial_in x.0) ≡ true
index_at [] d x o = (tidy_write (polynomial_in x.0) (polynomial_in x.1) (writes_in d) o).index
index_at (y ∷ e) d x o = index_at e d x (tidy_write (polynomial_in y.0) (polynomial_in y.1) (writes_in (e ++ x ∷ d)) o).rest

-- the writes behind the rest are apart from i
pub record ArePassed (i : Polynomial) (writes rest : List (PolyTree × PolyTree)) : Type 0 where
  pub done : List (PolyTree × PolyTree)
  pub split : writes ≡ rest ++ done
  pub same : prefix_for i (writes_in rest) ≡ prefix_for i (writes_in writes)

pub none_passed : (i : Polynomial) (writes : List (PolyTree × PolyTree)) → ArePassed i writes writes
none_passed i writes = record { done = []; split = sym (append-nil writes); same = refl }

module _ (i : Polynomial) (writes rest e : List (PolyTree × PolyTree)) (x : PolyTree × PolyTree) (h : ArePassed i writes rest) (q : rest ≡ e ++ x ∷ []) where
  resplit : writes ≡ e ++ x ∷ h.done
  resplit = h.split ∙ ap (λ t. t ++ h.done) q ∙ append_assoc e (x ∷ []) h.done

  pub back_ordered : ordered_writes (writes_in writes) ≡ true → ordered (polynomial_in x.0) ≡ true
  back_ordered o = index_at e h.done x (ap (λ t. ordered_writes (writes_in t)) (sym resplit) ∙ o)

  pub one_passed : are_apart (polynomial_in x.0) i ≡ true → ArePassed i writes e
  one_passed a = record { done = x ∷ h.done; split = resplit; same = passes i rest e x q a ∙ h.same }

-- the index of the last of tidy writes is in order
last_ordered : (ws : Writes) (j v : Polynomial) → ordered_writes (written_last ws j v) ≡ true → ordered j ≡ true
last_ordered NoWrites j v o = (tidy_write j v NoWrites o).index
last_ordered (Write k w ws) j v o = last_ordered ws j v (tidy_write k w (written_last ws j v) o).rest

-- ordered indices that differ by a constant and are not the same have other constants
sums_differ : (j i : Polynomial) → ordered j ≡ true → ordered i ≡ true → differ_by_constant j i ≡ true → same_polynomial j i ≡ false
    → int_eq (constant_sum j) (constant_sum i) ≡ false
sums_differ j i o p d s = by_value (int_eq (constant_sum j) (constant_sum i)) refl
  where
    by_value : (t : Bool) → int_eq (constant_sum j) (constant_sum i) ≡ t → t ≡ false
    by_value true e =
        absurd (let f : same_polynomial j i ≡ true = same_of_equal j i (equal_by_sums j i o p d ((signed_Decides (constant_sum j) (constant_sum i)).0 e)) in
        let h : true ≡ false = sym f ∙ s in cc)
    by_value false e = refl

-- equal constants are of ordered indices that are the same, if they differ by a constant
pub apart_by_same : (j i : Polynomial) → ordered j ≡ true → ordered i ≡ true → differ_by_constant j i && not (same_polynomial j i) ≡ are_apart j i
apart_by_same j i o p = by_values (differ_by_constant j i) refl (same_polynomial j i) refl
  where
    by_values : (d : Bool) → differ_by_constant j i ≡ d → (s : Bool) → same_polynomial j i ≡ s
        → d && not s ≡ d && not (int_eq (constant_sum j) (constant_sum i))
    by_values true d true s = ap not (sym ((signed_Decides (constant_sum j) (constant_sum i)).1 (ap constant_sum (equal_of_same j i s))))
    by_values true d false s = ap not (sym (sums_differ j i o p d s))
    by_values false d t s = refl

module _ (i : Polynomial) (l e : List (PolyTree × PolyTree)) (x : PolyTree × PolyTree) (q : l ≡ e ++ x ∷ []) (base : Base) where
  -- a write at which a read stops is not apart
  stopped : prefix_for i (writes_in l) ≡ writes_in l → are_apart (polynomial_in x.0) i ≡ false
  stopped s = by_value (are_apart (polynomial_in x.0) i) refl
    where
      by_value : (t : Bool) → are_apart (polynomial_in x.0) i ≡ t → t ≡ false
      by_value true h =
          absurd (let a = passes i l e x q h in let b = ap size_of_writes (a ∙ s ∙ last_is i l e x q) in let c = prefix_shorter i (writes_in e) in
          too_long (writes_in e) b c)
        where
          more : (b : Writes) → size_of_writes (written_last b (polynomial_in x.0) (polynomial_in x.1)) ≡ size_of_writes b
              + (1 + size_of (polynomial_in x.0) + size_of (polynomial_in x.1))
          more NoWrites = omega arith
          more (Write k w b) = omega (arith, more b)

          too_long : (b : Writes) → size_of_writes (prefix_for i b) ≡ size_of_writes (written_last b (polynomial_in x.0) (polynomial_in x.1))
              → size_of_writes (prefix_for i b) ≤ size_of_writes b → ⊥
          too_long b f g = omega (arith, more b)
      by_value false h = refl

  pub read_same : same_polynomial (polynomial_in x.0) i ≡ true → read_here (Over base (writes_in l)) i ≡ Done (polynomial_in x.1)
  read_same h =
      ap (λ t. read_here (Over base t) i) (last_is i l e x q) ∙ read_last base (writes_in e) (polynomial_in x.0) (polynomial_in x.1) i
      ∙ ap (λ t. cond t (Done (polynomial_in x.1)) (new_atom (Read (Over base (written_last (writes_in e) (polynomial_in x.0) (polynomial_in x.1))) i))) h

  pub read_other : same_polynomial (polynomial_in x.0) i ≡ false → read_here (Over base (writes_in l)) i ≡ new_atom (Read (Over base (writes_in l)) i)
  read_other h =
      ap (λ t. read_here (Over base t) i) (last_is i l e x q) ∙ read_last base (writes_in e) (polynomial_in x.0) (polynomial_in x.1) i
      ∙ ap (λ t. cond t (Done (polynomial_in x.1)) (new_atom (Read (Over base (written_last (writes_in e) (polynomial_in x.0) (polynomial_in x.1))) i))) h
      ∙ ap (λ t. new_atom (Read (Over base t) i)) (sym (last_is i l e x q))

  pub index_ordered : ordered_writes (writes_in l) ≡ true → ordered (polynomial_in x.0) ≡ true
  index_ordered o = last_ordered (writes_in e) (polynomial_in x.0) (polynomial_in x.1) (ap ordered_writes (sym (last_is i l e x q)) ∙ o)

  pub stays_other : prefix_for i (writes_in l) ≡ writes_in l → ordered_writes (writes_in l) ≡ true → ordered i ≡ true
      → same_polynomial (polynomial_in x.0) i ≡ false → stays_read (Over base (writes_in l)) i ≡ true
  stays_other s o p h = ap (λ t. stays_read (Over base t) i) (last_is i l e x q) ∙ stays_last base (writes_in e) (polynomial_in x.0) (polynomial_in x.1) i
      ∙ by_value (differ_by_constant (polynomial_in x.0) i) refl
    where
      by_value : (t : Bool) → differ_by_constant (polynomial_in x.0) i ≡ t → not t ≡ true
      by_value true g =
          absurd (let a : (true && not false) ≡ false = (λ k. sym g k && not (sym (sums_differ (polynomial_in x.0) i (index_ordered o) p g h) k))
          ∙ stopped s in cc)
      by_value false g = refl

  pub value_normal : IsNormalArray (Over base (writes_in l)) → IsNormal (polynomial_in x.1)
  value_normal n = last_normal base (writes_in e) (polynomial_in x.0) (polynomial_in x.1) (subst (λ t. IsNormalArray (Over base t)) (last_is i l e x q) n)

prefix_again : (i : Polynomial) (ws : Writes) → prefix_for i (prefix_for i ws) ≡ prefix_for i ws
prefix_again i NoWrites = refl
prefix_again i (Write j v ws) = by_rest (prefix_for i ws) (prefix_again i ws)
  where
    by_rest : (ps : Writes) → prefix_for i ps ≡ ps → prefix_for i (stop_at i j v ps) ≡ stop_at i j v ps
    by_rest NoWrites e = by_test (are_apart j i) refl
      where
        by_test : (t : Bool) → are_apart j i ≡ t → prefix_for i (cond t NoWrites (Write j v NoWrites)) ≡ cond t NoWrites (Write j v NoWrites)
        by_test true h = refl
        by_test false h = ap (λ t. cond t NoWrites (Write j v NoWrites)) h
    by_rest (Write k w ps) e = ap (stop_at i j v) e

module _ (a : ArrayTerm) (i : Polynomial) (b : Base) (ws ps : Writes) (e : b ≡ base_of a) (f : ws ≡ writes_over a) (g : ps ≡ prefix_for i ws) where
  pub stopped_normal : IsNormalArray a → IsNormalArray (Over b ps)
  stopped_normal n = subst (λ t. IsNormalArray (Over b t)) (sym g) (prefix_normal i b ws (subst IsNormalArray (whole a ∙ (λ k. Over (sym e k) (sym f k))) n))
    where
      whole : (a : ArrayTerm) → a ≡ Over (base_of a) (writes_over a)
      whole (Over b ws) = refl

  pub stopped_again : prefix_for i ps ≡ ps
  stopped_again = ap (prefix_for i) g ∙ prefix_again i ws ∙ sym g

  pub read_whole : read_here (Over b ps) i ≡ read_at a i
  read_whole = (λ k. read_here (Over (e k) (g k)) i) ∙ ap (λ t. read_here (Over (base_of a) (prefix_for i t)) i) f ∙ by_parts a
    where
      by_parts : (a : ArrayTerm) → read_here (Over (base_of a) (prefix_for i (writes_over a))) i ≡ read_at a i
      by_parts (Over b ws) = refl

-- ordered indices by their constant parts
pub after_by_parts : (i j : Polynomial) → ordered i ≡ true → ordered j ≡ true
    → differ_by_constant i j && int_lt (constant_part j) (constant_part i) ≡ goes_after i j
after_by_parts i j o p = λ k. differ_by_constant i j && int_lt (constant_is j p k) (constant_is i o k)
