-- What is spelled is read.
use Rattle.std.proofs.Common.{◌≡◌, ℕ, List, [], ◌∷◌, ◌++◌, Option, Some, None, refl, sym, ap, subst, ◌∙◌, append_assoc}
use Rattle.std.proofs.lemmas.List.{append-nil}
use Rattle.fs_model.specs.declared.parts.Rel.{Rel}
use Rattle.fs_model.specs.Expressions.{Expression, Variable, Negative, Guard, Test, Not, And, Or}
use Rattle.fs_grammar.specs.declared.token.TokenKind.{TokenKind}
use Rattle.fs_grammar.specs.declared.token.TokenKind.TheVariants.{CloseParen, CloseBracket, OpenBracket, CloseBrace, Plus, Minus, Star, Slash, Percent, AndAnd}
use Rattle.fs_grammar.specs.declared.token.TokenKind.TheVariants.{OrOr, Relation}
use Rattle.fs_grammar.specs.PartEnds.{IsNoSum, IsNoProduct, IsNoAnd, IsNoIndex, IsNoBrace}
use Rattle.fs_grammar.specs.Spelling.{Word, at, IsFactor, number, variable, read, negative, group, IsProduct, factor, times, divides, remainder_of, IsSum}
use Rattle.fs_grammar.specs.Spelling.{product, plus, minus, IsUnit, not, braces, literal, IsConjunction, unit, and, IsGuard, conjunction, or}
use Rattle.fs_grammar.specs.WordWalks.{and_then}
use Rattle.fs_expression_text.specs.declared.operators.ProductOperator.TheVariants as products
use Rattle.fs_expression_text.specs.declared.operators.SumOperator.TheVariants as sums
use Rattle.fs_expression_text.specs.ExpressionOperators.{product_expression, sum_expression}
use Rattle.fs_expression_text.specs.Inside as inner
use Rattle.fs_expression_text.specs.Inside.{UnitContext, ConjunctionContext, GuardContext, FactorContext, ProductContext, SumContext, Inside, first_factor}
use Rattle.fs_expression_text.specs.Inside.{first_product, next_factor, next_product, parens, index, left, right, first_of_all, first_of_any, or_after}
use Rattle.fs_expression_text.specs.Inside.{and_after, sum_alone, guard_alone, at_unit, after_conjunction, after_guard, at_factor, after_name, after_product}
use Rattle.fs_expression_text.specs.Inside.{after_sum, at_sum, at_guard, factor_done, product_done, unit_done, conjunction_done, literal_done, step_guarded}
use Rattle.fs_expression_text.specs.Inside.{step_conjunction, step_joined, step_sum, step_summed, step_product, step_multiplied, step_name, expression_step}
use Rattle.fs_expression_text.specs.Inside.{Whole, whole_sum, whole_guard, ends_guarded, ends_joined, ends_summed, ends_multiplied, whole_at}
use Rattle.fs_expression_text.proofs.Steps.{literal_steps}
use Rattle.fs_phrase_text.specs.Expressions.{ExpressionKind, a_sum, a_guard, expression_start, SpellsExpression}
use Rattle.fs_phrase_text.proofs.SoundExpressions.{walk}

-- what may end behind words
abbrev pub final : List Word → Inside → Option Whole
final ws i = and_then (walk ws i) whole_at

-- the first of them
abbrev first : List Word → Option TokenKind
first [] = None
first (at n t ∷ ws) = Some t

regroup : (a b rest : List Word) (i : Inside) → final ((a ++ b) ++ rest) i ≡ final (a ++ (b ++ rest)) i
regroup a b rest i = ap (λ (l : List Word). final l i) (append_assoc a b rest)

-- ---- where a part ends without a word of its own

-- two places that every word leads on alike, and where the same may end
alike : (rest : List Word) (i j : Inside) → ((t : TokenKind) → first rest ≡ Some t → expression_step i t ≡ expression_step j t) → whole_at i ≡ whole_at j
    → final rest i ≡ final rest j
alike [] i j h q = q
alike (at n t ∷ ws) i j h q = ap (λ (o : Option Inside). and_then (and_then o (walk ws)) whole_at) (h t refl)

-- a factor that is done is the last of a product, and so on
factor_by : {A : Type 0} (F G : Inside → A) → ((p : Expression (List ℕ)) (k : ProductContext) → F (after_product p k) ≡ G (after_product p k))
    → (f : Expression (List ℕ)) (k : FactorContext) → F (factor_done f k) ≡ G (factor_done f k)
factor_by F G h f (first_factor k) = h f k
factor_by F G h f (next_factor o p k) = h (product_expression o p f) k
factor_by F G h f (inner.negative k) = factor_by F G h (Negative f) k

product_by : {A : Type 0} (F G : Inside → A) → ((s : Expression (List ℕ)) (k : SumContext) → F (after_sum s k) ≡ G (after_sum s k))
    → (p : Expression (List ℕ)) (k : ProductContext) → F (product_done p k) ≡ G (product_done p k)
product_by F G h p (first_product k) = h p k
product_by F G h p (next_product o s k) = h (sum_expression o s p) k

unit_by : {A : Type 0} (F G : Inside → A) → ((c : Guard (List ℕ)) (k : ConjunctionContext) → F (after_conjunction c k) ≡ G (after_conjunction c k))
    → (u : Guard (List ℕ)) (k : UnitContext) → F (unit_done u k) ≡ G (unit_done u k)
unit_by F G h u (inner.negates k) = unit_by F G h (Not u) k
unit_by F G h u (first_of_all k) = h u k
unit_by F G h u (and_after c k) = h (And c u) k

conjunction_by : {A : Type 0} (F G : Inside → A) → ((g : Guard (List ℕ)) (k : GuardContext) → F (after_guard g k) ≡ G (after_guard g k))
    → (c : Guard (List ℕ)) (k : ConjunctionContext) → F (conjunction_done c k) ≡ G (conjunction_done c k)
conjunction_by F G h c (first_of_any k) = h c k
conjunction_by F G h c (or_after g k) = h (Or g c) k

name_steps : (t : TokenKind) (x : List ℕ) (k : FactorContext) → IsNoIndex (Some t) → step_name t x k ≡ expression_step (factor_done (Variable x) k) t
name_steps OpenBracket x k h = absurd h
name_steps t x k h = factor_by (step_multiplied t) (λ i. expression_step i t) (λ p m. refl) (Variable x) k

name_ends : (rest : List Word) (x : List ℕ) (k : FactorContext) → IsNoIndex (first rest) → final rest (after_name x k) ≡ final rest (factor_done (Variable x) k)
name_ends rest x k h = alike rest (after_name x k) (factor_done (Variable x) k) (λ t q. name_steps t x k (rw q at h))
    (factor_by ends_multiplied whole_at (λ p m. refl) (Variable x) k)

product_steps : (t : TokenKind) (p : Expression (List ℕ)) (k : ProductContext) → IsNoProduct (Some t)
    → step_product t p k ≡ expression_step (product_done p k) t
product_steps Star p k h = absurd h
product_steps Slash p k h = absurd h
product_steps Percent p k h = absurd h
product_steps t p k h = product_by (step_summed t) (λ i. expression_step i t) (λ s m. refl) p k

product_ends : (rest : List Word) (p : Expression (List ℕ)) (k : ProductContext) → IsNoProduct (first rest)
    → final rest (after_product p k) ≡ final rest (product_done p k)
product_ends rest p k h = alike rest (after_product p k) (product_done p k) (λ t q. product_steps t p k (rw q at h))
    (product_by ends_summed whole_at (λ s m. refl) p k)

right_steps :
    (t : TokenKind) (r : Rel) (l s : Expression (List ℕ)) (k : UnitContext) → IsNoSum (Some t)
    → step_sum t s (right r l k) ≡ expression_step (literal_done r l s k) t
right_steps Plus r l s k h = absurd h
right_steps Minus r l s k h = absurd h
right_steps t r l s k h = unit_by (step_joined t) (λ i. expression_step i t) (λ c m. refl) (Test (record { relation = r; left = l; right = s })) k

literal_ends : (rest : List Word) (r : Rel) (l s : Expression (List ℕ)) (k : UnitContext) → IsNoSum (first rest)
    → final rest (after_sum s (right r l k)) ≡ final rest (literal_done r l s k)
literal_ends rest r l s k h =
    alike rest (after_sum s (right r l k)) (literal_done r l s k) (λ t q. right_steps t r l s k (rw q at h))
    (unit_by ends_joined whole_at (λ c m. refl) (Test (record { relation = r; left = l; right = s })) k)

conjunction_steps : (t : TokenKind) (c : Guard (List ℕ)) (k : ConjunctionContext) → IsNoAnd (Some t)
    → step_conjunction t c k ≡ expression_step (conjunction_done c k) t
conjunction_steps AndAnd c k h = absurd h
conjunction_steps t c k h = conjunction_by (step_guarded t) (λ i. expression_step i t) (λ g m. refl) c k

conjunction_ends : (rest : List Word) (c : Guard (List ℕ)) (k : ConjunctionContext) → IsNoAnd (first rest)
    → final rest (after_conjunction c k) ≡ final rest (conjunction_done c k)
conjunction_ends rest c k h = alike rest (after_conjunction c k) (conjunction_done c k) (λ t q. conjunction_steps t c k (rw q at h))
    (conjunction_by ends_guarded whole_at (λ g m. refl) c k)

-- ---- sums

mutual
  factor_walks : (f : Expression (List ℕ)) (a : List Word) → IsFactor f a → (rest : List Word) (k : FactorContext) → IsNoIndex (first rest)
      → final (a ++ rest) (at_factor k) ≡ final rest (factor_done f k)
  factor_walks _ _ (number i v) rest k h = refl
  factor_walks _ _ (variable i x) rest k h = name_ends rest x k h
  factor_walks _ _ (read i j m x {s} {a} d) rest k h = regroup a (at m CloseBracket ∷ []) rest (at_sum (index x k))
      ∙ sum_walks s a d (at m CloseBracket ∷ rest) (index x k) tt tt
  factor_walks _ _ (negative i {f} {a} d) rest k h = factor_walks f a d rest (inner.negative k) h
  factor_walks _ _ (group i m {s} {a} d) rest k h = regroup a (at m CloseParen ∷ []) rest (at_sum (parens k))
      ∙ sum_walks s a d (at m CloseParen ∷ rest) (parens k) tt tt

  product_walks : (p : Expression (List ℕ)) (a : List Word) → IsProduct p a → (rest : List Word) (k : ProductContext) → IsNoIndex (first rest)
      → final (a ++ rest) (at_factor (first_factor k)) ≡ final rest (after_product p k)
  product_walks _ _ (factor {f} {a} d) rest k h = factor_walks f a d rest (first_factor k) h
  product_walks _ _ (times m {p} {f} {a} {b} d e) rest k h = regroup a (at m Star ∷ b) rest (at_factor (first_factor k))
      ∙ product_walks p a d (at m Star ∷ (b ++ rest)) k tt ∙ factor_walks f b e rest (next_factor products.Times p k) h
  product_walks _ _ (divides m {p} {f} {a} {b} d e) rest k h = regroup a (at m Slash ∷ b) rest (at_factor (first_factor k))
      ∙ product_walks p a d (at m Slash ∷ (b ++ rest)) k tt ∙ factor_walks f b e rest (next_factor products.Divide p k) h
  product_walks _ _ (remainder_of m {p} {f} {a} {b} d e) rest k h = regroup a (at m Percent ∷ b) rest (at_factor (first_factor k))
      ∙ product_walks p a d (at m Percent ∷ (b ++ rest)) k tt ∙ factor_walks f b e rest (next_factor products.Remainder p k) h

  sum_walks : (s : Expression (List ℕ)) (a : List Word) → IsSum s a → (rest : List Word) (k : SumContext) → IsNoIndex (first rest) → IsNoProduct (first rest)
      → final (a ++ rest) (at_sum k) ≡ final rest (after_sum s k)
  sum_walks _ _ (product {p} {a} d) rest k h i = product_walks p a d rest (first_product k) h ∙ product_ends rest p (first_product k) i
  sum_walks _ _ (plus m {s} {p} {a} {b} d e) rest k h i =
      regroup a (at m Plus ∷ b) rest (at_sum k) ∙ sum_walks s a d (at m Plus ∷ (b ++ rest)) k tt tt ∙ product_walks p b e rest (next_product sums.Plus s k) h
      ∙ product_ends rest p (next_product sums.Plus s k) i
  sum_walks _ _ (minus m {s} {p} {a} {b} d e) rest k h i =
      regroup a (at m Minus ∷ b) rest (at_sum k) ∙ sum_walks s a d (at m Minus ∷ (b ++ rest)) k tt tt ∙ product_walks p b e rest (next_product sums.Minus s k) h
      ∙ product_ends rest p (next_product sums.Minus s k) i

-- ---- a sum begins a unit as it begins a literal

longer_first : (a b rest : List Word) → IsNoBrace (first (a ++ (b ++ rest))) → IsNoBrace (first ((a ++ b) ++ rest))
longer_first a b rest h = subst (λ (l : List Word). IsNoBrace (first l)) (sym (append_assoc a b rest)) h

factor_first : (f : Expression (List ℕ)) (a : List Word) → IsFactor f a → (rest : List Word) → IsNoBrace (first (a ++ rest))
factor_first _ _ (number n i) rest = tt
factor_first _ _ (variable n x) rest = tt
factor_first _ _ (read n m l x d) rest = tt
factor_first _ _ (negative n d) rest = tt
factor_first _ _ (group n m d) rest = tt

product_first : (p : Expression (List ℕ)) (a : List Word) → IsProduct p a → (rest : List Word) → IsNoBrace (first (a ++ rest))
product_first _ _ (factor {f} {a} d) rest = factor_first f a d rest
product_first _ _ (times m {p} {f} {a} {b} d e) rest = longer_first a (at m Star ∷ b) rest (product_first p a d (at m Star ∷ (b ++ rest)))
product_first _ _ (divides m {p} {f} {a} {b} d e) rest = longer_first a (at m Slash ∷ b) rest (product_first p a d (at m Slash ∷ (b ++ rest)))
product_first _ _ (remainder_of m {p} {f} {a} {b} d e) rest = longer_first a (at m Percent ∷ b) rest (product_first p a d (at m Percent ∷ (b ++ rest)))

sum_first : (s : Expression (List ℕ)) (a : List Word) → IsSum s a → (rest : List Word) → IsNoBrace (first (a ++ rest))
sum_first _ _ (product {p} {a} d) rest = product_first p a d rest
sum_first _ _ (plus m {s} {p} {a} {b} d e) rest = longer_first a (at m Plus ∷ b) rest (sum_first s a d (at m Plus ∷ (b ++ rest)))
sum_first _ _ (minus m {s} {p} {a} {b} d e) rest = longer_first a (at m Minus ∷ b) rest (sum_first s a d (at m Minus ∷ (b ++ rest)))

literal_opens : (rest : List Word) (k : UnitContext) → IsNoBrace (first rest) → final rest (at_unit k) ≡ final rest (at_sum (left k))
literal_opens rest k h = alike rest (at_unit k) (at_sum (left k)) (λ t q. literal_steps t k (rw q at h)) refl

-- ---- guards

-- a token with which no expression goes on
abbrev EndsExpressions : Option TokenKind → Type 0
EndsExpressions t = IsNoIndex t × IsNoProduct t × IsNoSum t

mutual
  unit_walks : (u : Guard (List ℕ)) (a : List Word) → IsUnit u a → (rest : List Word) (k : UnitContext) → EndsExpressions (first rest)
      → final (a ++ rest) (at_unit k) ≡ final rest (unit_done u k)
  unit_walks _ _ (not i {u} {a} d) rest k h = unit_walks u a d rest (inner.negates k) h
  unit_walks _ _ (braces i m {g} {a} d) rest k h = regroup a (at m CloseBrace ∷ []) rest (at_guard (inner.braces k))
      ∙ guard_walks g a d (at m CloseBrace ∷ rest) (inner.braces k) (tt, tt, tt) tt
  unit_walks _ _ (literal m r {l} {s} {a} {b} d e) rest k h =
      regroup a (at m (Relation r) ∷ b) rest (at_unit k)
      ∙ literal_opens (a ++ (at m (Relation r) ∷ (b ++ rest))) k (sum_first l a d (at m (Relation r) ∷ (b ++ rest)))
      ∙ sum_walks l a d (at m (Relation r) ∷ (b ++ rest)) (left k) tt tt
      ∙ sum_walks s b e rest (right r l k) h.0 h.1 ∙ literal_ends rest r l s k h.2

  conjunction_walks : (c : Guard (List ℕ)) (a : List Word) → IsConjunction c a → (rest : List Word) (k : ConjunctionContext) → EndsExpressions (first rest)
      → final (a ++ rest) (at_unit (first_of_all k)) ≡ final rest (after_conjunction c k)
  conjunction_walks _ _ (unit {u} {a} d) rest k h = unit_walks u a d rest (first_of_all k) h
  conjunction_walks _ _ (and m {c} {u} {a} {b} d e) rest k h = regroup a (at m AndAnd ∷ b) rest (at_unit (first_of_all k))
      ∙ conjunction_walks c a d (at m AndAnd ∷ (b ++ rest)) k (tt, tt, tt) ∙ unit_walks u b e rest (and_after c k) h

  guard_walks : (g : Guard (List ℕ)) (a : List Word) → IsGuard g a → (rest : List Word) (k : GuardContext) → EndsExpressions (first rest) → IsNoAnd (first rest)
      → final (a ++ rest) (at_guard k) ≡ final rest (after_guard g k)
  guard_walks _ _ (conjunction {c} {a} d) rest k h i = conjunction_walks c a d rest (first_of_any k) h ∙ conjunction_ends rest c (first_of_any k) i
  guard_walks _ _ (or m {g} {c} {a} {b} d e) rest k h i =
      regroup a (at m OrOr ∷ b) rest (at_guard k) ∙ guard_walks g a d (at m OrOr ∷ (b ++ rest)) k (tt, tt, tt) tt
      ∙ conjunction_walks c b e rest (or_after g k) h ∙ conjunction_ends rest c (or_after g k) i

-- Behind words that spell it, an expression may end.
pub complete : (e : ExpressionKind) (w : Whole) (ws : List Word) → SpellsExpression e w ws → final ws (expression_start e) ≡ Some w
complete a_sum (whole_sum s) ws h = ap (λ (l : List Word). final l (at_sum sum_alone)) (sym (append-nil ws)) ∙ sum_walks s ws h [] sum_alone tt tt
complete a_guard (whole_guard g) ws h = ap (λ (l : List Word). final l (at_guard guard_alone)) (sym (append-nil ws))
    ∙ guard_walks g ws h [] guard_alone (tt, tt, tt) tt
complete _ w ws h = absurd h
