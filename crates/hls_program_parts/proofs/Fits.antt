-- Blocks whose parts are those of a program, and in which blocks nest at most so many deep.
use Rattle.std.proofs.Common.{◌≡◌, ℕ, suc, ◌-◌, ◌<◌, List, refl, ◌∙◌, ap, ap₂, arith, Bool, true}
use Rattle.std.specs.Prelude.{◌&&◌, nat_le, max}
use Rattle.std.proofs.lemmas.Bool.Decides.{nat_tests}
use Rattle.fs_model.proofs.Booleans.{and_swap}
use Rattle.fs_model.specs.Expressions.{Guard}
use Rattle.hls_program_parts.specs.Programs.{Block, End, Do, If, While, join_blocks}
use Rattle.hls_program_parts.specs.WellFormedPrograms.{is_program_guard, is_program_block, depth}

-- parts of a program, nested at most so many deep
abbrev pub fits : ℕ → Block (List ℕ) → Bool
fits levels b = is_program_block b && nat_le (depth b) levels

block_joined : (a b : Block (List ℕ)) → is_program_block (join_blocks a b) ≡ (is_program_block a && is_program_block b)
block_joined End b = refl
block_joined (Do line a rest) b = grind (arith, block_joined rest b)
block_joined (If line g y z rest) b = grind (arith, block_joined rest b)
block_joined (While line g body rest) b = grind (arith, block_joined rest b)

depth_joined : {X : Type 0} (a b : Block X) → depth (join_blocks a b) ≡ max (depth a) (depth b)
depth_joined End b = omega arith
depth_joined (Do line a rest) b = depth_joined rest b
depth_joined (If line g y z rest) b = omega (arith, depth_joined rest b)
depth_joined (While line g body rest) b = omega (arith, depth_joined rest b)

both_within : (a b levels : ℕ) → nat_le (max a b) levels ≡ (nat_le a levels && nat_le b levels)
both_within a b levels = grind (arith, nat_tests)

pub fits_joined : (levels : ℕ) (a b : Block (List ℕ)) → fits levels (join_blocks a b) ≡ (fits levels a && fits levels b)
fits_joined levels a b =
    ap₂ (λ (p : Bool) (d : ℕ). p && nat_le d levels) (block_joined a b) (depth_joined a b)
    ∙ ap (λ (p : Bool). (is_program_block a && is_program_block b) && p) (both_within (depth a) (depth b) levels)
    ∙ and_swap (is_program_block a) (is_program_block b) (nat_le (depth a) levels) (nat_le (depth b) levels)

-- a statement with blocks in it needs a level more than they do
below_two : (a b levels : ℕ) → 0 < levels → nat_le (max (suc (max a b)) 0) levels ≡ (nat_le a (levels - 1) && nat_le b (levels - 1))
below_two a b levels h = grind (arith, nat_tests)

below_one : (a levels : ℕ) → 0 < levels → nat_le (max (suc a) 0) levels ≡ nat_le a (levels - 1)
below_one a levels h = grind (arith, nat_tests)

pub fits_if : (line levels : ℕ) (g : Guard (List ℕ)) (y z : Block (List ℕ)) → 0 < levels
    → fits levels (If line g y z End) ≡ (is_program_guard g && (fits (levels - 1) y && fits (levels - 1) z))
fits_if line levels g y z h =
    ap (λ (p : Bool). (is_program_guard g && (is_program_block y && (is_program_block z && true))) && p) (below_two (depth y) (depth z) levels h) ∙ grind arith

pub fits_while : (line levels : ℕ) (g : Guard (List ℕ)) (body : Block (List ℕ)) → 0 < levels
    → fits levels (While line g body End) ≡ (is_program_guard g && fits (levels - 1) body)
fits_while line levels g body h =
    ap (λ (p : Bool). (is_program_guard g && (is_program_block body && true)) && p) (below_one (depth body) levels h) ∙ grind arith
