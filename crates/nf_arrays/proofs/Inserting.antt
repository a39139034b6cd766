-- Writes that are put into a list.
use Rattle.std.proofs.Common.{◌≡◌, ℕ, zero, suc, ◌+◌, ◌<◌, ◌≤◌, Bool, true, false, ◌||◌, cond, List, [], ◌∷◌, ◌++◌, map, take, drop, length, get_or}
use Rattle.std.proofs.Common.{append_assoc, add-one, arith, refl, ap, sym, subst, ◌∙◌}
use Rattle.std.proofs.lemmas.List.{append-nil}
use Rattle.std.proofs.lemmas.Bool.{and_from, not-true}
use Rattle.base_laws.proofs.Booleans.{and_first, and_second, or_false}
use Rattle.nf_trees.specs.NormalTerms.{Polynomial, ArrayTerm, Over, base_of, writes_over, Writes, NoWrites, Write, writes_of}
use Rattle.nf_trees.specs.View.{polynomial_in, write_in}
use Rattle.nf_trees.specs.Order.{same_polynomial}
use Rattle.nf_terms.specs.Normal.{ordered, ordered_writes, is_written}
use Rattle.nf_trees.specs.declared.tree.Base.{Base}
use Rattle.nf_trees.specs.declared.tree.PolyTree.{PolyTree}
use Rattle.nf_terms.specs.Tidied.{goes_after, with_write, rising_stretches, last_writes, tidy_array}
use Rattle.nf_arrays.specs.Writes.{written_last, with_last_write, indices_ordered}
use Rattle.nf_arrays.proofs.Tidy.{tidy_write}
use Rattle.nf_arrays.proofs.Stopping.{writes_in, index_at}

-- writes before others
abbrev pub followed : List (Polynomial × Polynomial) → Writes → Writes
followed [] ws = ws
followed (w ∷ l) ws = Write w.0 w.1 (followed l ws)

pub followed-append : (a b : List (Polynomial × Polynomial)) → writes_of (a ++ b) ≡ followed a (writes_of b)
followed-append [] b = refl
followed-append (w ∷ a) b = ap (Write w.0 w.1) (followed-append a b)

passed_step : (i v : Polynomial) (l : List (PolyTree × PolyTree)) (k : ℕ) (x : PolyTree × PolyTree) → k < length l → x ≡ get_or l k x
    → goes_after i (polynomial_in x.0) ≡ true
    → followed (map write_in (take k l)) (with_write i v (writes_in (drop k l)))
    ≡ followed (map write_in (take (suc k) l)) (with_write i v (writes_in (drop (suc k) l)))
passed_step i v [] k x h e g = absurd (omega arith)
passed_step i v (y ∷ l) zero x h e g =
    ap (λ t. cond t (Write (polynomial_in y.0) (polynomial_in y.1) (with_write i v (writes_in l))) (Write i v (writes_in (y ∷ l))))
    (ap (λ z. goes_after i (polynomial_in z.0)) (sym e) ∙ g)
passed_step i v (y ∷ l) (suc k) x h e g = ap (Write (polynomial_in y.0) (polynomial_in y.1)) (passed_step i v l k x (omega arith) e g)

-- a place that is passed
pub place_passed : (i v : Polynomial) (l : List (PolyTree × PolyTree)) (k : ℕ) (x : PolyTree × PolyTree) → k < length l → x ≡ get_or l k x
    → goes_after i (polynomial_in x.0) ≡ true
    → followed (map write_in (take k l)) (with_write i v (writes_in (drop k l)))
    ≡ followed (map write_in (take (k + 1) l)) (with_write i v (writes_in (drop (k + 1) l)))
place_passed i v l k x h e g =
    subst
    (λ n. followed (map write_in (take k l)) (with_write i v (writes_in (drop k l)))
    ≡ followed (map write_in (take n l)) (with_write i v (writes_in (drop n l)))) (sym (add-one k)) (passed_step i v l k x h e g)

-- a place that stays
pub place_here : (i v : Polynomial) (l : List (PolyTree × PolyTree)) (k : ℕ) (x : PolyTree × PolyTree) → k < length l → x ≡ get_or l k x
    → goes_after i (polynomial_in x.0) ≡ false
    → followed (map write_in (take k l)) (with_write i v (writes_in (drop k l))) ≡ writes_of (map write_in (take k l) ++ (i, v) ∷ map write_in (drop k l))
place_here i v [] k x h e g = absurd (omega arith)
place_here i v (y ∷ l) zero x h e g =
    ap (λ t. cond t (Write (polynomial_in y.0) (polynomial_in y.1) (with_write i v (writes_in l))) (Write i v (writes_in (y ∷ l))))
    (ap (λ z. goes_after i (polynomial_in z.0)) (sym e) ∙ g)
place_here i v (y ∷ l) (suc k) x h e g = ap (Write (polynomial_in y.0) (polynomial_in y.1)) (place_here i v l k x (omega arith) e g)

pub place_last : (i v : Polynomial) (l : List (PolyTree × PolyTree)) (k : ℕ) → length l ≤ k
    → followed (map write_in (take k l)) (with_write i v (writes_in (drop k l)))
    ≡ writes_of (map write_in (take (length l) l) ++ (i, v) ∷ map write_in (drop (length l) l))
place_last i v [] k h = by_count k
  where
    by_count : (k : ℕ) → followed (map write_in (take k [])) (with_write i v (writes_in (drop k []))) ≡ Write i v NoWrites
    by_count zero = refl
    by_count (suc k) = refl
place_last i v (y ∷ l) zero h = absurd (omega arith)
place_last i v (y ∷ l) (suc k) h = ap (Write (polynomial_in y.0) (polynomial_in y.1)) (place_last i v l k (omega arith))

-- the writes of a list and one more, tidied
abbrev pub tidied_from : List (PolyTree × PolyTree) → Polynomial → Polynomial → Writes
tidied_from l i v = rising_stretches (last_writes (written_last (writes_in l) i v))

-- the writes behind the rest, and one more, are tidied into out
pub record IsTidiedFrom (writes rest : List (PolyTree × PolyTree)) (i v : Polynomial) (out : List (PolyTree × PolyTree)) : Type 0 where
  pub done : List (PolyTree × PolyTree)
  pub split : writes ≡ rest ++ done
  pub indices : indices_ordered (writes_in out) ≡ true
  pub tidied : writes_in out ≡ tidied_from done i v

written-last : (k : Polynomial) (ws : Writes) (i v : Polynomial) → is_written k (written_last ws i v) ≡ is_written k ws || same_polynomial k i
written-last k NoWrites i v = or_false (same_polynomial k i)
written-last k (Write j w ws) i v = ap (λ b. same_polynomial k j || b) (written-last k ws i v)
    ∙ or_deep (same_polynomial k j) (is_written k ws) (same_polynomial k i)
  where
    or_deep : (a b c : Bool) → a || (b || c) ≡ a || b || c
    or_deep true b c = refl
    or_deep false b c = refl

once_at : (e d : List (PolyTree × PolyTree)) (x : PolyTree × PolyTree) → ordered_writes (writes_in (e ++ x ∷ d)) ≡ true
    → is_written (polynomial_in x.0) (writes_in d) ≡ false
once_at [] d x o = not-true (is_written (polynomial_in x.0) (writes_in d)) (tidy_write (polynomial_in x.0) (polynomial_in x.1) (writes_in d) o).once
once_at (y ∷ e) d x o = once_at e d x (tidy_write (polynomial_in y.0) (polynomial_in y.1) (writes_in (e ++ x ∷ d)) o).rest

-- a write put in its place leaves the indices in order
with_indices : (i v : Polynomial) (ws : Writes) → ordered i ≡ true → indices_ordered ws ≡ true → indices_ordered (with_write i v ws) ≡ true
with_indices i v NoWrites o h = and_from (ordered i) true o refl
with_indices i v (Write j w ws) o h = by_test (goes_after i j) (with_indices i v ws o (and_second (ordered j) (indices_ordered ws) h))
  where
    by_test : (t : Bool) → indices_ordered (with_write i v ws) ≡ true
        → indices_ordered (cond t (Write j w (with_write i v ws)) (Write i v (Write j w ws))) ≡ true
    by_test true e = and_from (ordered j) (indices_ordered (with_write i v ws)) (and_first (ordered j) (indices_ordered ws) h) e
    by_test false e = and_from (ordered i) (indices_ordered (Write j w ws)) o h

-- each index of a list is in order
pub ordered_at : (l : List (PolyTree × PolyTree)) (k : ℕ) (x : PolyTree × PolyTree) → indices_ordered (writes_in l) ≡ true → k < length l → x ≡ get_or l k x
    → ordered (polynomial_in x.0) ≡ true
ordered_at [] k x h l e = absurd (omega arith)
ordered_at (y ∷ ys) zero x h l e = ap (λ z. ordered (polynomial_in z.0)) e ∙ and_first (ordered (polynomial_in y.0)) (indices_ordered (writes_in ys)) h
ordered_at (y ∷ ys) (suc k) x h l e = ordered_at ys k x (and_second (ordered (polynomial_in y.0)) (indices_ordered (writes_in ys)) h) (omega arith) e

module _ (writes rest e : List (PolyTree × PolyTree)) (x : PolyTree × PolyTree) (i v : Polynomial) (out : List (PolyTree × PolyTree))
    (h : IsTidiedFrom writes rest i v out) (q : rest ≡ e ++ x ∷ []) (o : ordered_writes (writes_in writes) ≡ true) where
  resplit : writes ≡ e ++ x ∷ h.done
  resplit = h.split ∙ ap (λ t. t ++ h.done) q ∙ append_assoc e (x ∷ []) h.done

  written_again : is_written (polynomial_in x.0) (written_last (writes_in h.done) i v) ≡ same_polynomial (polynomial_in x.0) i
  written_again =
      written-last (polynomial_in x.0) (writes_in h.done) i v
      ∙ ap (λ b. b || same_polynomial (polynomial_in x.0) i) (once_at e h.done x (ap (λ t. ordered_writes (writes_in t)) (sym resplit) ∙ o))

  turn : (b : Bool) → same_polynomial (polynomial_in x.0) i ≡ b
      → tidied_from (x ∷ h.done) i v ≡ rising_stretches
      (cond b (last_writes (written_last (writes_in h.done) i v))
      (Write (polynomial_in x.0) (polynomial_in x.1) (last_writes (written_last (writes_in h.done) i v))))
  turn b s =
      ap
      (λ t. rising_stretches
      (cond t (last_writes (written_last (writes_in h.done) i v))
      (Write (polynomial_in x.0) (polynomial_in x.1) (last_writes (written_last (writes_in h.done) i v))))) (written_again ∙ s)

  pub index_now : ordered (polynomial_in x.0) ≡ true
  index_now = index_at e h.done x (ap (λ t. ordered_writes (writes_in t)) (sym resplit) ∙ o)

  pub turn_dropped : same_polynomial (polynomial_in x.0) i ≡ true → IsTidiedFrom writes e i v out
  turn_dropped s = record { done = x ∷ h.done; split = resplit; indices = h.indices; tidied = h.tidied ∙ sym (turn true s) }

  pub turn_placed : (out' : List (PolyTree × PolyTree)) → same_polynomial (polynomial_in x.0) i ≡ false
      → writes_in out' ≡ with_write (polynomial_in x.0) (polynomial_in x.1) (writes_in out) → IsTidiedFrom writes e i v out'
  turn_placed out' s p = record {
    done = x ∷ h.done;
    split = resplit;
    indices = ap indices_ordered p ∙ with_indices (polynomial_in x.0) (polynomial_in x.1) (writes_in out) index_now h.indices;
    tidied = p ∙ ap (with_write (polynomial_in x.0) (polynomial_in x.1)) h.tidied ∙ sym (turn false s);
  }

pub begun : (writes out : List (PolyTree × PolyTree)) (i v : Polynomial) → ordered i ≡ true → writes_in out ≡ Write i v NoWrites
    → IsTidiedFrom writes writes i v out
begun writes out i v o e = record { done = []; split = sym (append-nil writes); indices = ap indices_ordered e ∙ and_from (ordered i) true o refl; tidied = e }

pub ended : (writes rest out : List (PolyTree × PolyTree)) (i v : Polynomial) → IsTidiedFrom writes rest i v out → rest ≡ []
    → writes_in out ≡ tidied_from writes i v
ended writes rest out i v h e = h.tidied ∙ ap (λ l. tidied_from l i v) (sym (h.split ∙ ap (λ t. t ++ h.done) e))

-- what is made of an array
pub write_whole : (a : ArrayTerm) (i v : Polynomial) (b : Base) (ws ts : Writes) → b ≡ base_of a → ws ≡ writes_over a
    → ts ≡ rising_stretches (last_writes (written_last ws i v)) → Over b ts ≡ tidy_array (with_last_write a i v)
write_whole (Over d us) i v b ws ts e f g = λ k. Over (e k) ((g ∙ ap (λ t. rising_stretches (last_writes (written_last t i v))) f) k)
