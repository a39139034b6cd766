-- Sizes of facts.
use Rattle.std.proofs.Common.{◌≡◌, ◌+◌, ◌*◌, ◌≤◌, List, [], ◌∷◌, length, true, ◌&&◌, not, arith, leb-true}
use Rattle.std.specs.Prelude.{nat_le}
use Rattle.std.specs.List.{list_all}
use Rattle.fs_model.proofs.Booleans.{and_first, and_second}
use Rattle.nf_terms.specs.TermLimits.{size_limit, depth_limit}
use Rattle.nf_trees.specs.Measures.{size_of, depth_of}
use Rattle.nf_terms.specs.Normal.{ordered, narrow}
use Rattle.nf_rel.specs.Literals.{NormalLiteral, True, False, Is}
use Rattle.nf_rel.specs.NormalLiterals.{is_normal, is_primitive, is_inner_number, is_normal_literal, same_literal, size_of_literal}
use Rattle.sym_facts.specs.Facts.{may_be_kept, most_literals, size_of_literals}

small_literal : (l : NormalLiteral) → may_be_kept l ≡ true → size_of_literal l ≤ size_limit + 1
small_literal True h = omega arith
small_literal False h = omega arith
small_literal (Is d k b) h =
    let normal = and_first (is_normal d) (is_primitive d)
    (and_first (is_normal d && is_primitive d) (is_inner_number b) (and_second (not (same_literal (Is d k b) True)) (is_normal_literal (Is d k b)) h)) in
    let small = and_second (ordered d) (nat_le (size_of d) size_limit)
    (and_first (ordered d && nat_le (size_of d) size_limit) (nat_le (depth_of d) depth_limit) (and_first _ (narrow d) normal)) in
    omega (arith, leb-true (size_of d) size_limit small)

small_literals : (ls : List NormalLiteral) → list_all may_be_kept ls ≡ true → size_of_literals ls ≤ length ls * (size_limit + 1)
small_literals [] h = omega arith
small_literals (l ∷ ls) h =
    omega (
      arith,
      small_literal l (and_first (may_be_kept l) (list_all may_be_kept ls) h),
      small_literals ls (and_second (may_be_kept l) (list_all may_be_kept ls) h),
    )

pub few_small : (ls : List NormalLiteral) → length ls ≤ most_literals → list_all may_be_kept ls ≡ true → size_of_literals ls ≤ most_literals * (size_limit + 1)
few_small ls few h = omega (arith, small_literals ls h)
