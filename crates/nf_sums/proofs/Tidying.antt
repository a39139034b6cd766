-- Arrays in order are tidied already.
use Rattle.std.proofs.Common.{◌≡◌, Bool, true, false, ◌&&◌, ◌||◌, not, cond, int_lt, refl, ap, sym, ◌∙◌}
use Rattle.std.proofs.lemmas.Bool.{not-true}
use Rattle.nf_terms.proofs.Booleans.{and_first, and_second}
use Rattle.nf_terms.proofs.Integers.{int_lt-turned}
use Rattle.nf_trees.specs.NormalTerms.{Polynomial, ArrayTerm, Writes, Over, NoWrites, Write}
use Rattle.nf_terms.specs.Normal.{ordered, ordered_writes, ordered_array, is_written, write_rises, differ_by_constant, constant_part, constant_sum}
use Rattle.nf_terms.specs.Tidied.{last_writes, with_write, rising_stretches, tidy_array}
use Rattle.nf_sums.proofs.Constants.{constant_is}

-- the first of the writes of an array in order, and the rest
pub record IsOrderedWrite (i v : Polynomial) (ws : Writes) : Type 0 where
  pub index : ordered i ≡ true
  pub value : ordered v ≡ true
  pub once : is_written i ws ≡ false
  pub rises : write_rises i ws ≡ true
  pub rest : ordered_writes ws ≡ true

pub ordered_write : (i v : Polynomial) (ws : Writes) → ordered_writes (Write i v ws) ≡ true → IsOrderedWrite i v ws
ordered_write i v ws o =
    let a = ordered i in
    let b = ordered v in
    let n = not (is_written i ws) in
    let r = write_rises i ws in
    let h : a && b && n && r ≡ true = and_first (a && b && n && r) (ordered_writes ws) o in
    let k : a && b && n ≡ true = and_first (a && b && n) r h in
    let m : a && b ≡ true = and_first (a && b) n k in
    record {
      index = and_first a b m;
      value = and_second a b m;
      once = not-true (is_written i ws) (and_second (a && b) n k);
      rises = and_second (a && b && n) r h;
      rest = and_second (a && b && n && r) (ordered_writes ws) o;
    }

pub last_stays : (ws : Writes) → ordered_writes ws ≡ true → last_writes ws ≡ ws
last_stays NoWrites h = refl
last_stays (Write i v ws) h =
    let t = ordered_write i v ws h in
    ap (λ b. cond b (last_writes ws) (Write i v (last_writes ws))) t.once ∙ ap (Write i v) (last_stays ws t.rest)

pub placed_first : (i v : Polynomial) (ws : Writes) → ordered i ≡ true → ordered_writes ws ≡ true → write_rises i ws ≡ true → with_write i v ws ≡ Write i v ws
placed_first i v NoWrites o h r = refl
placed_first i v (Write j w ws) o h r = ap (λ b. cond b (Write j w (with_write i v ws)) (Write i v (Write j w ws))) (by_value (differ_by_constant i j) r)
  where
    same_tests : int_lt (constant_part j) (constant_part i) ≡ int_lt (constant_sum j) (constant_sum i)
    same_tests = λ k. int_lt (constant_is j (ordered_write j w ws h).index k) (constant_is i o k)

    by_value : (t : Bool) → not t || int_lt (constant_part i) (constant_part j) ≡ true → t && int_lt (constant_sum j) (constant_sum i) ≡ false
    by_value true e = sym same_tests ∙ int_lt-turned (constant_part i) (constant_part j) e
    by_value false e = refl

pub rising_stay : (ws : Writes) → ordered_writes ws ≡ true → rising_stretches ws ≡ ws
rising_stay NoWrites h = refl
rising_stay (Write i v ws) h = let t = ordered_write i v ws h in ap (with_write i v) (rising_stay ws t.rest) ∙ placed_first i v ws t.index t.rest t.rises

pub tidied_stays : (a : ArrayTerm) → ordered_array a ≡ true → tidy_array a ≡ a
tidied_stays (Over b ws) h = ap (Over b) (ap rising_stretches (last_stays ws h) ∙ rising_stay ws h)
