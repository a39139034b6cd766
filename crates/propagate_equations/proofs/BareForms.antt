-- What is longer than a symbol is no symbol alone.
use Rattle.std.proofs.Common.{◌≡◌, ◌≤◌, refl, arith, List, [], ◌∷◌, length, map, None}
use Rattle.nf_trees.specs.NormalTerms.{ArrayTerm, Over, NoWrites, Write, writes_of, writes_over}
use Rattle.nf_trees.specs.View.{write_in}
use Rattle.nf_trees.specs.declared.tree.PolyTree.{PolyTree}
use Rattle.propagate_equations.specs.Equations.{symbol_of_array}

pub one_write : (a : ArrayTerm) (ws : List (PolyTree × PolyTree)) → 1 ≤ length ws → writes_of (map write_in ws) ≡ writes_over a → None ≡ symbol_of_array a
one_write a [] h e = absurd (omega (arith, h))
one_write (Over b NoWrites) (w ∷ ws) h e = absurd (cc e)
one_write (Over b (Write i x xs)) (w ∷ ws) h e = refl
