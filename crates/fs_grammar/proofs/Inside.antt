-- The words of sums, guards and destinations.
use Rattle.std.proofs.Common.{◌≡◌, ℕ, Bool, true, List, [], ◌∷◌, ◌++◌, refl}
use Rattle.std.specs.List.{AllByRecursion}
use Rattle.fs_model.specs.Expressions.{Expression, Guard}
use Rattle.fs_grammar.specs.declared.token.TokenKind.{TokenKind}
use Rattle.fs_grammar.specs.declared.token.TokenKind.TheVariants.{Name, Number, CloseParen, CloseBracket, CloseBrace, Plus, Minus, Star, Slash, Percent, AndAnd}
use Rattle.fs_grammar.specs.declared.token.TokenKind.TheVariants.{OrOr, Relation}
use Rattle.fs_grammar.specs.Operators.{is_operator}
use Rattle.fs_grammar.specs.Grammar.{Destination}
use Rattle.fs_grammar.specs.Spelling.{Word, at, IsFactor, number, variable, read, negative, group, IsProduct, factor, times, divides, remainder_of, IsSum}
use Rattle.fs_grammar.specs.Spelling.{product, plus, minus, IsUnit, not as negated, braces, literal, IsConjunction, unit, and, IsGuard, conjunction, or}
use Rattle.fs_grammar.specs.Spelling.{IsDestination, scalar_name, element_at}

-- a token of a sum or a guard
abbrev pub is_inside : TokenKind → Bool
is_inside (Name x) = true
is_inside (Number i) = true
is_inside CloseParen = true
is_inside CloseBracket = true
is_inside CloseBrace = true
is_inside t = is_operator t

abbrev pub IsInside : Word → Type 0
IsInside (at n t) = is_inside t ≡ true

abbrev pub AreInside : List Word → Type 0
AreInside ws = AllByRecursion IsInside ws

pub joined : (P : Word → Type 0) (a b : List Word) → AllByRecursion P a → AllByRecursion P b → AllByRecursion P (a ++ b)
joined P [] b h j = j
joined P (w ∷ a) b h j = (h.0, joined P a b h.1 j)

pub front : (P : Word → Type 0) (a b : List Word) → AllByRecursion P (a ++ b) → AllByRecursion P a
front P [] b h = tt
front P (w ∷ a) b h = (h.0, front P a b h.1)

pub each : (P Q : Word → Type 0) → ((w : Word) → P w → Q w) → (ws : List Word) → AllByRecursion P ws → AllByRecursion Q ws
each P Q go [] h = tt
each P Q go (w ∷ ws) h = (go w h.0, each P Q go ws h.1)

mutual
  factor_inside : (f : Expression (List ℕ)) (a : List Word) → IsFactor f a → AreInside a
  factor_inside _ _ (number n i) = (refl, tt)
  factor_inside _ _ (variable n x) = (refl, tt)
  factor_inside _ _ (read n m k x {s} {a} d) = (refl, (refl, joined IsInside a (at k CloseBracket ∷ []) (sum_inside s a d) (refl, tt)))
  factor_inside _ _ (negative n {f} {a} d) = (refl, factor_inside f a d)
  factor_inside _ _ (group n m {s} {a} d) = (refl, joined IsInside a (at m CloseParen ∷ []) (sum_inside s a d) (refl, tt))

  product_inside : (p : Expression (List ℕ)) (a : List Word) → IsProduct p a → AreInside a
  product_inside _ _ (factor {f} {a} d) = factor_inside f a d
  product_inside _ _ (times n {p} {f} {a} {b} d e) = joined IsInside a (at n Star ∷ b) (product_inside p a d) (refl, factor_inside f b e)
  product_inside _ _ (divides n {p} {f} {a} {b} d e) = joined IsInside a (at n Slash ∷ b) (product_inside p a d) (refl, factor_inside f b e)
  product_inside _ _ (remainder_of n {p} {f} {a} {b} d e) = joined IsInside a (at n Percent ∷ b) (product_inside p a d) (refl, factor_inside f b e)

  pub sum_inside : (s : Expression (List ℕ)) (a : List Word) → IsSum s a → AreInside a
  sum_inside _ _ (product {p} {a} d) = product_inside p a d
  sum_inside _ _ (plus n {s} {p} {a} {b} d e) = joined IsInside a (at n Plus ∷ b) (sum_inside s a d) (refl, product_inside p b e)
  sum_inside _ _ (minus n {s} {p} {a} {b} d e) = joined IsInside a (at n Minus ∷ b) (sum_inside s a d) (refl, product_inside p b e)

mutual
  unit_inside : (u : Guard (List ℕ)) (a : List Word) → IsUnit u a → AreInside a
  unit_inside _ _ (negated n {u} {a} d) = (refl, unit_inside u a d)
  unit_inside _ _ (braces n m {g} {a} d) = (refl, joined IsInside a (at m CloseBrace ∷ []) (guard_inside g a d) (refl, tt))
  unit_inside _ _ (literal n r {l} {s} {a} {b} d e) = joined IsInside a (at n (Relation r) ∷ b) (sum_inside l a d) (refl, sum_inside s b e)

  conjunction_inside : (c : Guard (List ℕ)) (a : List Word) → IsConjunction c a → AreInside a
  conjunction_inside _ _ (unit {u} {a} d) = unit_inside u a d
  conjunction_inside _ _ (and n {c} {u} {a} {b} d e) = joined IsInside a (at n AndAnd ∷ b) (conjunction_inside c a d) (refl, unit_inside u b e)

  pub guard_inside : (g : Guard (List ℕ)) (a : List Word) → IsGuard g a → AreInside a
  guard_inside _ _ (conjunction {c} {a} d) = conjunction_inside c a d
  guard_inside _ _ (or n {g} {c} {a} {b} d e) = joined IsInside a (at n OrOr ∷ b) (guard_inside g a d) (refl, conjunction_inside c b e)

pub destination_inside : (d : Destination) (a : List Word) → IsDestination d a → AreInside a
destination_inside _ _ (scalar_name n x) = (refl, tt)
destination_inside _ _ (element_at n m k x {s} {a} d) = (refl, (refl, joined IsInside a (at k CloseBracket ∷ []) (sum_inside s a d) (refl, tt)))
