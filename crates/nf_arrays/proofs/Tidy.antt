-- Tidy writes, write by write, and the beginnings of tidy writes.
use Rattle.std.proofs.Common.{◌≡◌, ◌≤◌, Bool, true, false, ◌&&◌, ◌||◌, not, cond, arith, refl}
use Rattle.std.proofs.lemmas.Bool.{and_from}
use Rattle.base_laws.proofs.Booleans.{and_first, and_second, not_or_second}
use Rattle.nf_trees.specs.NormalTerms.{Polynomial, Writes, Over, NoWrites, Write}
use Rattle.nf_trees.specs.Order.{same_polynomial}
use Rattle.nf_trees.specs.Measures.{size_of_writes, depth_of_writes}
use Rattle.nf_terms.specs.Normal.{IsNormal, IsNormalArray, ordered, ordered_writes, is_written, write_rises, is_light, narrow_inside}
use Rattle.nf_terms.specs.Normal.{narrow_writes}
use Rattle.nf_trees.specs.declared.tree.Base.{Base}
use Rattle.nf_arrays.specs.Writes.{written_last, are_apart, stop_at, prefix_for}

-- a write before others is tidy
pub record IsTidyWrite (i v : Polynomial) (ws : Writes) : Type 0 where
  pub index : ordered i ≡ true
  pub value : ordered v ≡ true
  pub once : not (is_written i ws) ≡ true
  pub rises : write_rises i ws ≡ true
  pub rest : ordered_writes ws ≡ true

pub tidy_write : (i v : Polynomial) (ws : Writes) → ordered_writes (Write i v ws) ≡ true → IsTidyWrite i v ws
tidy_write i v ws o =
    let a = ordered i in
    let b = ordered v in
    let n = not (is_written i ws) in
    let r = write_rises i ws in
    let h : a && b && n && r ≡ true = and_first (a && b && n && r) (ordered_writes ws) o in
    let k : a && b && n ≡ true = and_first (a && b && n) r h in
    let m : a && b ≡ true = and_first (a && b) n k in
    record {
      index = and_first a b m;
      value = and_second a b m;
      once = and_second (a && b) n k;
      rises = and_second (a && b && n) r h;
      rest = and_second (a && b && n && r) (ordered_writes ws) o;
    }

pub tidy_again : (i v : Polynomial) (ws : Writes) → IsTidyWrite i v ws → ordered_writes (Write i v ws) ≡ true
tidy_again i v ws t =
    let a = ordered i in
    let b = ordered v in
    let n = not (is_written i ws) in
    let r = write_rises i ws in
    and_from (a && b && n && r) (ordered_writes ws) (and_from (a && b && n) r (and_from (a && b) n (and_from a b t.index t.value) t.once) t.rises) t.rest

-- the polynomials of a write are within the limit of weight
pub record IsNarrowWrite (i v : Polynomial) (ws : Writes) : Type 0 where
  pub index : is_light i && narrow_inside i ≡ true
  pub value : is_light v && narrow_inside v ≡ true
  pub rest : narrow_writes ws ≡ true

pub narrow_write : (i v : Polynomial) (ws : Writes) → narrow_writes (Write i v ws) ≡ true → IsNarrowWrite i v ws
narrow_write i v ws o =
    let a = is_light i in
    let b = narrow_inside i in
    let d = is_light v in
    let e = narrow_inside v in
    let h : a && b && d && e ≡ true = and_first (a && b && d && e) (narrow_writes ws) o in
    let k : a && b && d ≡ true = and_first (a && b && d) e h in
    record {
      index = and_first (a && b) d k;
      value = and_from d e (and_second (a && b) d k) (and_second (a && b && d) e h);
      rest = and_second (a && b && d && e) (narrow_writes ws) o;
    }

pub narrow_again : (i v : Polynomial) (ws : Writes) → IsNarrowWrite i v ws → narrow_writes (Write i v ws) ≡ true
narrow_again i v ws t =
    let a = is_light i in
    let b = narrow_inside i in
    let d = is_light v in
    let e = narrow_inside v in
    and_from (a && b && d && e) (narrow_writes ws)
    (and_from (a && b && d) e (and_from (a && b) d t.index (and_first d e t.value)) (and_second d e t.value)) t.rest

-- ---- beginnings

module _ (P : Writes → Type 0) (i j v : Polynomial) where
  stop_cases : (ps : Writes) → P NoWrites → P (Write j v ps) → P (stop_at i j v ps)
  stop_cases NoWrites p q = by_test (are_apart j i)
    where
      by_test : (t : Bool) → P (cond t NoWrites (Write j v NoWrites))
      by_test true = p
      by_test false = q
  stop_cases (Write k w ps) p q = q

module _ (i : Polynomial) where
  prefix_size : (ws : Writes) → size_of_writes (prefix_for i ws) ≤ size_of_writes ws
  prefix_size NoWrites = omega arith
  prefix_size (Write j v ws) = stop_cases (λ ps. size_of_writes ps ≤ size_of_writes (Write j v ws)) i j v (prefix_for i ws) (omega arith)
      (omega (arith, prefix_size ws))

  prefix_depth : (ws : Writes) → depth_of_writes (prefix_for i ws) ≤ depth_of_writes ws
  prefix_depth NoWrites = omega arith
  prefix_depth (Write j v ws) = stop_cases (λ ps. depth_of_writes ps ≤ depth_of_writes (Write j v ws)) i j v (prefix_for i ws) (omega arith)
      (omega (arith, prefix_depth ws))

  prefix_narrow : (ws : Writes) → narrow_writes ws ≡ true → narrow_writes (prefix_for i ws) ≡ true
  prefix_narrow NoWrites h = refl
  prefix_narrow (Write j v ws) h =
      let t = narrow_write j v ws h in
      stop_cases (λ ps. narrow_writes ps ≡ true) i j v (prefix_for i ws) refl
      (narrow_again j v (prefix_for i ws) (record { index = t.index; value = t.value; rest = prefix_narrow ws t.rest }))

  same_or : (a b c : Bool) → not (a || b) ≡ true → not c ≡ true → not (a || c) ≡ true
  same_or true b c e f = cc
  same_or false b c e f = f

  prefix_once : (k : Polynomial) (ws : Writes) → not (is_written k ws) ≡ true → not (is_written k (prefix_for i ws)) ≡ true
  prefix_once k NoWrites h = refl
  prefix_once k (Write j v ws) h =
      stop_cases (λ ps. not (is_written k ps) ≡ true) i j v (prefix_for i ws) refl
      (same_or (same_polynomial k j) (is_written k ws) (is_written k (prefix_for i ws)) h
      (prefix_once k ws (not_or_second (same_polynomial k j) (is_written k ws) h)))

  prefix_rises : (k : Polynomial) (ws : Writes) → write_rises k ws ≡ true → write_rises k (prefix_for i ws) ≡ true
  prefix_rises k NoWrites h = refl
  prefix_rises k (Write j v ws) h = stop_cases (λ ps. write_rises k ps ≡ true) i j v (prefix_for i ws) refl h

  prefix_ordered : (ws : Writes) → ordered_writes ws ≡ true → ordered_writes (prefix_for i ws) ≡ true
  prefix_ordered NoWrites h = refl
  prefix_ordered (Write j v ws) h =
      let t = tidy_write j v ws h in
      stop_cases (λ ps. ordered_writes ps ≡ true) i j v (prefix_for i ws) refl
      (tidy_again j v (prefix_for i ws)
      (record { index = t.index; value = t.value; once = prefix_once j ws t.once; rises = prefix_rises j ws t.rises; rest = prefix_ordered ws t.rest }))

  -- the array that a read goes into is normal
  pub prefix_normal : (b : Base) (ws : Writes) → IsNormalArray (Over b ws) → IsNormalArray (Over b (prefix_for i ws))
  prefix_normal b ws n = record {
    ordered = prefix_ordered ws n.ordered;
    small = omega (arith, n.small, prefix_size ws);
    shallow = omega (arith, n.shallow, prefix_depth ws);
    narrow = prefix_narrow ws n.narrow;
  }

-- the value of the last write is normal
pub last_normal : (b : Base) (ws : Writes) (j v : Polynomial) → IsNormalArray (Over b (written_last ws j v)) → IsNormal v
last_normal b NoWrites j v n = record {
  ordered = (tidy_write j v NoWrites n.ordered).value;
  small = omega (arith, n.small);
  shallow = omega (arith, n.shallow);
  narrow = (narrow_write j v NoWrites n.narrow).value;
}
last_normal b (Write k w ws) j v n = last_normal b ws j v (record {
  ordered = (tidy_write k w (written_last ws j v) n.ordered).rest;
  small = omega (arith, n.small);
  shallow = omega (arith, n.shallow);
  narrow = (narrow_write k w (written_last ws j v) n.narrow).rest;
})
