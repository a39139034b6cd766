-- The words that lead somewhere are those that begin an expression.
use Rattle.std.proofs.Common.{◌≡◌, List, [], ◌∷◌, ◌++◌, Option, Some, None, refl, sym, ap, subst, ◌∙◌, append_assoc}
use Rattle.std.proofs.lemmas.List.{append-nil}
use Rattle.fs_model.specs.declared.parts.Rel.TheVariants.{Eq}
use Rattle.fs_grammar.specs.declared.token.TokenKind.TheVariants.{Name, OpenParen, OpenBracket, OpenBrace, Minus, Bang, AndAnd, OrOr, Relation}
use Rattle.fs_grammar.specs.Spelling.{Word, at}
use Rattle.fs_grammar.specs.WordWalks.{and_then}
use Rattle.fs_grammar.specs.Beginnings as rules
use Rattle.fs_grammar.specs.Beginnings.{token, rule, IsAlternative, SpellsWhole, Begins, nothing, by_parts, by_nothing, by_next, token_whole}
use Rattle.fs_grammar.proofs.Alternatives.{completed}
use Rattle.fs_grammar.proofs.Beginning.{leading, whole_first, chained, prefixed}
use Rattle.fs_expression_text.specs.declared.operators.ProductOperator.{ProductOperator}
use Rattle.fs_expression_text.specs.declared.operators.ProductOperator.TheVariants as products
use Rattle.fs_expression_text.specs.declared.operators.SumOperator.{SumOperator}
use Rattle.fs_expression_text.specs.declared.operators.SumOperator.TheVariants as sums
use Rattle.fs_expression_text.specs.Inside.{UnitContext, ConjunctionContext, GuardContext, FactorContext, ProductContext, SumContext, Inside, at_unit}
use Rattle.fs_expression_text.specs.Inside.{after_conjunction, after_guard, at_factor, after_name, after_product, after_sum, expression_step, Whole, whole_sum}
use Rattle.fs_expression_text.specs.Inside.{whole_guard}
use Rattle.fs_phrase_text.specs.Expressions.{ExpressionKind, a_sum, a_guard, expression_start, rule_of, SpellsExpression}
use Rattle.fs_phrase_text.proofs.Reached as before
use Rattle.fs_phrase_text.proofs.Reached.{product_sign, sum_sign, BeforeUnit, BeforeConjunction, BeforeGuard, BeforeFactor, BeforeProduct, BeforeSum, Reached}
use Rattle.fs_phrase_text.proofs.SoundExpressions.{walk, reached}
use Rattle.fs_phrase_text.proofs.CompleteExpressions.{final, complete}

-- ---- words that begin parts begin the rule

product_by : (o : ProductOperator) → IsAlternative rules.product (rule rules.product ∷ token (product_sign o) ∷ rule rules.factor ∷ [])
product_by products.Times = rules.times
product_by products.Divide = rules.divides
product_by products.Remainder = rules.remainder_of

sum_by : (o : SumOperator) → IsAlternative rules.sum (rule rules.sum ∷ token (sum_sign o) ∷ rule rules.product ∷ [])
sum_by sums.Plus = rules.plus
sum_by sums.Minus = rules.minus

-- ---- words behind what was read before a part

mutual
  unit_in : (e : ExpressionKind) (k : UnitContext) (a : List Word) → BeforeUnit e k a → (b : List Word) → Begins rules.unit b → (ws : List Word) → ws ≡ a ++ b
      → Begins (rule_of e) ws
  unit_in _ _ _ (before.negates e n k a h) b p ws q = unit_in e k a h (at n Bang ∷ b)
      (prefixed rules.unit rules.unit n Bang [] rules.not b p) ws (q ∙ simp append_assoc)
  unit_in _ _ _ (before.first_of_all e k a h) b p ws q = conjunction_in e k a h b (leading rules.conjunction rules.unit [] rules.one_unit b p) ws q
  unit_in _ _ _ (before.and_after e n c k a d h i) b p ws q = conjunction_in e k a h (d ++ (at n AndAnd ∷ b))
      (chained rules.conjunction rules.conjunction rules.unit n AndAnd rules.and d b (c, i) p) ws (q ∙ simp append_assoc)

  conjunction_in : (e : ExpressionKind) (k : ConjunctionContext) (a : List Word) → BeforeConjunction e k a → (b : List Word) → Begins rules.conjunction b
      → (ws : List Word) → ws ≡ a ++ b → Begins (rule_of e) ws
  conjunction_in _ _ _ (before.first_of_any e k a h) b p ws q = guard_in e k a h b (leading rules.guard rules.conjunction [] rules.one_conjunction b p) ws q
  conjunction_in _ _ _ (before.or_after e n g k a d h i) b p ws q =
      guard_in e k a h (d ++ (at n OrOr ∷ b)) (chained rules.guard rules.guard rules.conjunction n OrOr rules.or d b (g, i) p) ws (q ∙ simp append_assoc)

  guard_in : (e : ExpressionKind) (k : GuardContext) (a : List Word) → BeforeGuard e k a → (b : List Word) → Begins rules.guard b → (ws : List Word)
      → ws ≡ a ++ b
      → Begins (rule_of e) ws
  guard_in _ _ _ (before.braces e n k a h) b p ws q = unit_in e k a h (at n OpenBrace ∷ b)
      (prefixed rules.unit rules.guard n OpenBrace _ rules.braces b p) ws (q ∙ simp append_assoc)
  guard_in _ _ _ before.guard_alone b p ws q = subst (λ (l : List Word). Begins rules.guard l) (sym q) p

mutual
  factor_in : (e : ExpressionKind) (k : FactorContext) (a : List Word) → BeforeFactor e k a → (b : List Word) → Begins rules.factor b → (ws : List Word)
      → ws ≡ a ++ b → Begins (rule_of e) ws
  factor_in _ _ _ (before.first_factor e k a h) b p ws q = product_in e k a h b (leading rules.product rules.factor [] rules.one_factor b p) ws q
  factor_in _ _ _ (before.next_factor e n o f k a d h i) b p ws q =
      product_in e k a h (d ++ (at n (product_sign o) ∷ b)) (chained rules.product rules.product rules.factor n (product_sign o) (product_by o) d b (f, i) p) ws
      (q ∙ simp append_assoc)
  factor_in _ _ _ (before.negative e n k a h) b p ws q = factor_in e k a h (at n Minus ∷ b)
      (prefixed rules.factor rules.factor n Minus [] rules.negative b p) ws (q ∙ simp append_assoc)

  product_in : (e : ExpressionKind) (k : ProductContext) (a : List Word) → BeforeProduct e k a → (b : List Word) → Begins rules.product b → (ws : List Word)
      → ws ≡ a ++ b → Begins (rule_of e) ws
  product_in _ _ _ (before.first_product e k a h) b p ws q = sum_in e k a h b (leading rules.sum rules.product [] rules.one_product b p) ws q
  product_in _ _ _ (before.next_product e n o s k a d h i) b p ws q =
      sum_in e k a h (d ++ (at n (sum_sign o) ∷ b)) (chained rules.sum rules.sum rules.product n (sum_sign o) (sum_by o) d b (s, i) p) ws
      (q ∙ simp append_assoc)

  sum_in : (e : ExpressionKind) (k : SumContext) (a : List Word) → BeforeSum e k a → (b : List Word) → Begins rules.sum b → (ws : List Word) → ws ≡ a ++ b
      → Begins (rule_of e) ws
  sum_in _ _ _ (before.parens e n k a h) b p ws q = factor_in e k a h (at n OpenParen ∷ b)
      (prefixed rules.factor rules.sum n OpenParen _ rules.group b p) ws (q ∙ simp append_assoc)
  sum_in _ _ _ (before.index e n m x k a h) b p ws q =
      factor_in e k a h (at n (Name x) ∷ at m OpenBracket ∷ b)
      (by_parts rules.factor (rules.read x) (token_whole n (Name x) (token_whole m OpenBracket (by_next rules.sum _ p)))) ws (q ∙ simp append_assoc)
  sum_in _ _ _ (before.left e k a h) b p ws q = unit_in e k a h b (leading rules.unit rules.sum _ (rules.literal Eq) b p) ws q
  sum_in _ _ _ (before.right e n r l k a d h i) b p ws q = unit_in e k a h (d ++ (at n (Relation r) ∷ b))
      (chained rules.unit rules.sum rules.sum n (Relation r) (rules.literal r) d b (l, i) p) ws (q ∙ simp append_assoc)
  sum_in _ _ _ before.sum_alone b p ws q = subst (λ (l : List Word). Begins rules.sum l) (sym q) p

begins : (e : ExpressionKind) (i : Inside) (ws : List Word) → Reached e i ws → Begins (rule_of e) ws
begins e (at_unit k) ws h = unit_in e k ws h [] (nothing rules.unit) ws (sym (append-nil ws))
begins e (after_conjunction c k) ws h = conjunction_in e k h.a h.front h.b (whole_first rules.conjunction rules.conjunction _ rules.and h.b (c, h.back)) ws h.is
begins e (after_guard g k) ws h = guard_in e k h.a h.front h.b (whole_first rules.guard rules.guard _ rules.or h.b (g, h.back)) ws h.is
begins e (at_factor k) ws h = factor_in e k ws h [] (nothing rules.factor) ws (sym (append-nil ws))
begins e (after_name x k) ws h =
    factor_in e k h.1.a h.1.front (at h.0 (Name x) ∷ []) (by_parts rules.factor (rules.variable x) (token_whole h.0 (Name x) (by_nothing _))) ws
    (h.1.is ∙ ap (λ (l : List Word). h.1.a ++ l) h.1.back)
begins e (after_product p k) ws h = product_in e k h.a h.front h.b (whole_first rules.product rules.product _ rules.times h.b (p, h.back)) ws h.is
begins e (after_sum s k) ws h = sum_in e k h.a h.front h.b (whole_first rules.sum rules.sum _ rules.plus h.b (s, h.back)) ws h.is

-- ---- both directions

-- Words that lead somewhere begin an expression.
pub leads : (e : ExpressionKind) (ws : List Word) (i : Inside) → walk ws (expression_start e) ≡ Some i → Begins (rule_of e) ws
leads e ws i q = begins e i ws (reached e ws i q)

on_append : (o : Option Inside) (a b : List Word) → ((m : Inside) → walk (a ++ b) m ≡ and_then (walk a m) (walk b))
    → and_then o (walk (a ++ b)) ≡ and_then (and_then o (walk a)) (walk b)
on_append None a b h = refl
on_append (Some m) a b h = h m

pub walk_append : (a b : List Word) (i : Inside) → walk (a ++ b) i ≡ and_then (walk a i) (walk b)
walk_append [] b i = refl
walk_append (at n t ∷ a) b i = on_append (expression_step i t) a b (λ m. walk_append a b m)

-- a whole spelling of the rule is of an expression
spelled_as : (e : ExpressionKind) (ws : List Word) → SpellsWhole (rule_of e) ws → (w : Whole) × SpellsExpression e w ws
spelled_as a_sum ws h = (whole_sum h.0, h.1)
spelled_as a_guard ws h = (whole_guard h.0, h.1)

-- Where a whole spelling leads, an expression may end.
pub spelled_ends : (e : ExpressionKind) (ws : List Word) → SpellsWhole (rule_of e) ws → (w : Whole) × (final ws (expression_start e) ≡ Some w)
spelled_ends e ws h = let w = spelled_as e ws h in (w.0, complete e w.0 ws w.1)

-- Words before which the reading sticks begin no expression.
pub stuck : (e : ExpressionKind) (ws : List Word) → walk ws (expression_start e) ≡ None → Begins (rule_of e) ws → ⊥
stuck e ws q b =
    let m = completed (rule_of e) ws b in
    let w = spelled_ends e (ws ++ m.0) m.1 in
    let ends : final (ws ++ m.0) (expression_start e) ≡ Some w.0 = w.1 in
    let none : final (ws ++ m.0) (expression_start e) ≡ None = rw (walk_append ws m.0 (expression_start e), q) refl in
    cc
