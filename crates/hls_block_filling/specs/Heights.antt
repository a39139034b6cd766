-- The heights of items, and the chain of a block.
use Rattle.std.specs.Prelude.{ℕ, suc, cond, max, List, [], ◌∷◌}
use Rattle.hls_block_filling.specs.Items.{Item, is_strict, is_weak}

-- the strict edges of a walk that begins with the edge from an item to one of a height
abbrev pub strict_edges_through : Item → Item → ℕ → ℕ
strict_edges_through a b height = cond (is_strict a b) (suc height) (cond (is_weak a b) height 0)

-- the greatest number of strict edges on walks from an item to later ones, whose heights are these
abbrev pub height_over : Item → List Item → List ℕ → ℕ
height_over a [] hs = 0
height_over a (b ∷ bs) [] = 0
height_over a (b ∷ bs) (h ∷ hs) = max (strict_edges_through a b h) (height_over a bs hs)

abbrev pub heights : List Item → List ℕ
heights [] = []
heights (a ∷ items) = height_over a items (heights items) ∷ heights items

abbrev pub greatest : List ℕ → ℕ
greatest [] = 0
greatest (h ∷ hs) = max (suc h) (greatest hs)

-- 1 plus the greatest number of strict edges on a walk, and 0 where there is no item
abbrev pub chain_of : List Item → ℕ
chain_of items = greatest (heights items)
