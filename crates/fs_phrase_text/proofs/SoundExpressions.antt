-- What is read is spelled.
use Rattle.std.proofs.Common.{◌≡◌, ℕ, List, [], ◌∷◌, ◌++◌, Option, Some, None, refl, sym, subst, ◌∙◌, append_assoc}
use Rattle.std.specs.Prelude.{IfSome}
use Rattle.std.proofs.lemmas.List.{append-nil}
use Rattle.fs_model.specs.Expressions.{Expression, Variable, Read, Negative, Guard, Test, Not}
use Rattle.fs_model.specs.Expressions as expressions
use Rattle.fs_grammar.specs.declared.token.TokenKind.{TokenKind}
use Rattle.fs_grammar.specs.declared.token.TokenKind.TheVariants.{Name, Number, OpenParen, CloseParen, OpenBracket, CloseBracket, OpenBrace, CloseBrace, Plus}
use Rattle.fs_grammar.specs.declared.token.TokenKind.TheVariants.{Minus, Star, Slash, Percent, Bang, AndAnd, OrOr, Relation}
use Rattle.fs_grammar.specs.Spelling as grammar
use Rattle.fs_grammar.specs.Spelling.{Word, at, IsFactor, IsProduct, IsSum, IsUnit, IsConjunction, IsGuard}
use Rattle.fs_grammar.specs.WordWalks.{and_then}
use Rattle.fs_grammar.proofs.Sound.{snoc}
use Rattle.fs_grammar.proofs.Beginning.{with_last}
use Rattle.fs_expression_text.specs.declared.operators.ProductOperator.{ProductOperator}
use Rattle.fs_expression_text.specs.declared.operators.ProductOperator.TheVariants as products
use Rattle.fs_expression_text.specs.declared.operators.SumOperator.{SumOperator}
use Rattle.fs_expression_text.specs.declared.operators.SumOperator.TheVariants as sums
use Rattle.fs_expression_text.specs.ExpressionOperators.{product_expression, sum_expression}
use Rattle.fs_expression_text.specs.Inside as inner
use Rattle.fs_expression_text.specs.Inside.{UnitContext, ConjunctionContext, GuardContext, FactorContext, ProductContext, SumContext, Inside, first_factor}
use Rattle.fs_expression_text.specs.Inside.{first_product, next_factor, next_product, parens, index, left, right, first_of_all, first_of_any, braces, or_after}
use Rattle.fs_expression_text.specs.Inside.{and_after, at_unit, after_conjunction, after_guard, at_factor, after_name, after_product, after_sum, factor_done}
use Rattle.fs_expression_text.specs.Inside.{product_done, unit_done, conjunction_done, step_factor, step_unit, step_guard, step_guarded, step_conjunction}
use Rattle.fs_expression_text.specs.Inside.{step_joined, step_sum, step_summed, step_product, step_multiplied, step_name, expression_step, Whole, ends_guard}
use Rattle.fs_expression_text.specs.Inside.{ends_guarded, ends_joined, ends_sum, ends_summed, ends_multiplied, whole_at}
use Rattle.fs_phrase_text.specs.Expressions.{ExpressionKind, expression_start, a_sum, a_guard, SpellsExpression}
use Rattle.fs_phrase_text.proofs.Reached as before
use Rattle.fs_phrase_text.proofs.Reached.{product_sign, sum_sign, BeforeUnit, BeforeConjunction, BeforeGuard, BeforeFactor, BeforeProduct, BeforeSum, Reached}

-- where words lead, or none where one of them cannot follow
abbrev pub walk : List Word → Inside → Option Inside
walk [] s = Some s
walk (at n t ∷ ws) s = and_then (expression_step s t) (walk ws)

sum_at : (e : ExpressionKind) (k : SumContext) (ws : List Word) → BeforeSum e k ws → BeforeFactor e (first_factor (first_product k)) ws
sum_at e k ws h = before.first_factor e (first_product k) ws (before.first_product e k ws h)

guard_at : (e : ExpressionKind) (k : GuardContext) (ws : List Word) → BeforeGuard e k ws → BeforeUnit e (first_of_all (first_of_any k)) ws
guard_at e k ws h = before.first_of_all e (first_of_any k) ws (before.first_of_any e k ws h)

product_by : (o : ProductOperator) (n : ℕ) (p f : Expression (List ℕ)) (a b : List Word) → IsProduct p a → IsFactor f b
    → IsProduct (product_expression o p f) (a ++ (at n (product_sign o) ∷ b))
product_by products.Times n p f a b h d = grammar.times n h d
product_by products.Divide n p f a b h d = grammar.divides n h d
product_by products.Remainder n p f a b h d = grammar.remainder_of n h d

sum_by : (o : SumOperator) (n : ℕ) (s p : Expression (List ℕ)) (a b : List Word) → IsSum s a → IsProduct p b
    → IsSum (sum_expression o s p) (a ++ (at n (sum_sign o) ∷ b))
sum_by sums.Plus n s p a b h d = grammar.plus n h d
sum_by sums.Minus n s p a b h d = grammar.minus n h d

-- ---- parts that are done

factor_reached : (e : ExpressionKind) (k : FactorContext) (a : List Word) → BeforeFactor e k a → (f : Expression (List ℕ)) (b : List Word) → IsFactor f b
    → (ws : List Word) → ws ≡ a ++ b → Reached e (factor_done f k) ws
factor_reached _ _ _ (before.first_factor e k a h) f b d ws q = record { a = a; b = b; front = h; back = grammar.factor d; is = q }
factor_reached _ _ _ (before.next_factor e n o p k a c h i) f b d ws q =
    record { a = a; b = c ++ (at n (product_sign o) ∷ b); front = h; back = product_by o n p f c b i d; is = q ∙ simp append_assoc }
factor_reached _ _ _ (before.negative e n k a h) f b d ws q =
    factor_reached e k a h (Negative f) (at n Minus ∷ b) (grammar.negative n d) ws (q ∙ simp append_assoc)

product_reached : (e : ExpressionKind) (k : ProductContext) (a : List Word) → BeforeProduct e k a → (p : Expression (List ℕ)) (b : List Word) → IsProduct p b
    → (ws : List Word) → ws ≡ a ++ b → Reached e (product_done p k) ws
product_reached _ _ _ (before.first_product e k a h) p b d ws q = record { a = a; b = b; front = h; back = grammar.product d; is = q }
product_reached _ _ _ (before.next_product e n o s k a c h i) p b d ws q =
    record { a = a; b = c ++ (at n (sum_sign o) ∷ b); front = h; back = sum_by o n s p c b i d; is = q ∙ simp append_assoc }

unit_reached : (e : ExpressionKind) (k : UnitContext) (a : List Word) → BeforeUnit e k a → (u : Guard (List ℕ)) (b : List Word) → IsUnit u b → (ws : List Word)
    → ws ≡ a ++ b → Reached e (unit_done u k) ws
unit_reached _ _ _ (before.negates e n k a h) u b d ws q = unit_reached e k a h (Not u) (at n Bang ∷ b) (grammar.not n d) ws (q ∙ simp append_assoc)
unit_reached _ _ _ (before.first_of_all e k a h) u b d ws q = record { a = a; b = b; front = h; back = grammar.unit d; is = q }
unit_reached _ _ _ (before.and_after e n c k a p h i) u b d ws q =
    record { a = a; b = p ++ (at n AndAnd ∷ b); front = h; back = grammar.and n i d; is = q ∙ simp append_assoc }

conjunction_reached : (e : ExpressionKind) (k : ConjunctionContext) (a : List Word) → BeforeConjunction e k a → (c : Guard (List ℕ)) (b : List Word)
    → IsConjunction c b → (ws : List Word) → ws ≡ a ++ b → Reached e (conjunction_done c k) ws
conjunction_reached _ _ _ (before.first_of_any e k a h) c b d ws q = record { a = a; b = b; front = h; back = grammar.conjunction d; is = q }
conjunction_reached _ _ _ (before.or_after e n g k a p h i) c b d ws q =
    record { a = a; b = p ++ (at n OrOr ∷ b); front = h; back = grammar.or n i d; is = q ∙ simp append_assoc }

-- ---- one more word

factor_keeps : (n : ℕ) (t : TokenKind) (e : ExpressionKind) (k : FactorContext) (ws : List Word) → BeforeFactor e k ws
    → IfSome (step_factor t k) (λ m. Reached e m (ws ++ at n t ∷ []))
factor_keeps n (Number i) e k ws h =
    factor_reached e k ws h (expressions.Number i) (at n (Number i) ∷ []) (grammar.number n i) (ws ++ at n (Number i) ∷ []) refl
factor_keeps n (Name x) e k ws h = (n, record { a = ws; b = at n (Name x) ∷ []; front = h; back = refl; is = refl })
factor_keeps n Minus e k ws h = before.negative e n k ws h
factor_keeps n OpenParen e k ws h = sum_at e (parens k) (ws ++ at n OpenParen ∷ []) (before.parens e n k ws h)
factor_keeps n _ e k ws h = tt

unit_keeps : (n : ℕ) (t : TokenKind) (e : ExpressionKind) (k : UnitContext) (ws : List Word) → BeforeUnit e k ws
    → IfSome (step_unit t k) (λ m. Reached e m (ws ++ at n t ∷ []))
unit_keeps n Bang e k ws h = before.negates e n k ws h
unit_keeps n OpenBrace e k ws h = guard_at e (braces k) (ws ++ at n OpenBrace ∷ []) (before.braces e n k ws h)
unit_keeps n t e k ws h = factor_keeps n t e (first_factor (first_product (left k))) ws (sum_at e (left k) ws (before.left e k ws h))

guard_keeps : (n : ℕ) (t : TokenKind) (e : ExpressionKind) (k : GuardContext) (a : List Word) → BeforeGuard e k a → (g : Guard (List ℕ)) (b : List Word)
    → IsGuard g b → (ws : List Word) → ws ≡ a ++ b → IfSome (step_guard t g k) (λ m. Reached e m (ws ++ at n t ∷ []))
guard_keeps n OrOr e k a h g b d ws q =
    subst (λ (l : List Word). BeforeUnit e (first_of_all (or_after g k)) l) (sym (snoc ws a b (at n OrOr) q))
    (before.first_of_all e (or_after g k) (a ++ (b ++ at n OrOr ∷ [])) (before.or_after e n g k a b h d))
guard_keeps n CloseBrace _ _ _ (before.braces e m k a h) g b d ws q =
    unit_reached e k a h g (at m OpenBrace ∷ (b ++ at n CloseBrace ∷ [])) (grammar.braces m n d) (ws ++ at n CloseBrace ∷ []) (rw q (simp append_assoc))
guard_keeps n _ e k a h g b d ws q = tt

guarded_keeps : (n : ℕ) (t : TokenKind) (e : ExpressionKind) (i : Inside) (ws : List Word) → Reached e i ws
    → IfSome (step_guarded t i) (λ m. Reached e m (ws ++ at n t ∷ []))
guarded_keeps n t e (after_guard g k) ws h = guard_keeps n t e k h.a h.front g h.b h.back ws h.is
guarded_keeps n t e _ ws h = tt

conjunction_keeps : (n : ℕ) (t : TokenKind) (e : ExpressionKind) (k : ConjunctionContext) (a : List Word) → BeforeConjunction e k a
    → (c : Guard (List ℕ)) (b : List Word) → IsConjunction c b → (ws : List Word) → ws ≡ a ++ b
    → IfSome (step_conjunction t c k) (λ m. Reached e m (ws ++ at n t ∷ []))
conjunction_keeps n AndAnd e k a h c b d ws q = subst (λ (l : List Word). BeforeUnit e (and_after c k) l) (sym (snoc ws a b (at n AndAnd) q))
    (before.and_after e n c k a b h d)
conjunction_keeps n t e k a h c b d ws q = guarded_keeps n t e (conjunction_done c k) ws (conjunction_reached e k a h c b d ws q)

joined_keeps : (n : ℕ) (t : TokenKind) (e : ExpressionKind) (i : Inside) (ws : List Word) → Reached e i ws
    → IfSome (step_joined t i) (λ m. Reached e m (ws ++ at n t ∷ []))
joined_keeps n t e (after_conjunction c k) ws h = conjunction_keeps n t e k h.a h.front c h.b h.back ws h.is
joined_keeps n t e _ ws h = tt

-- an operator between two products
sum_goes : (n : ℕ) (o : SumOperator) (e : ExpressionKind) (k : SumContext) (a : List Word) → BeforeSum e k a → (s : Expression (List ℕ)) (b : List Word)
    → IsSum s b
    → (ws : List Word) → ws ≡ a ++ b → BeforeFactor e (first_factor (next_product o s k)) (ws ++ at n (sum_sign o) ∷ [])
sum_goes n o e k a h s b d ws q =
    subst (λ (l : List Word). BeforeFactor e (first_factor (next_product o s k)) l) (sym (snoc ws a b (at n (sum_sign o)) q))
    (before.first_factor e (next_product o s k) (a ++ (b ++ at n (sum_sign o) ∷ [])) (before.next_product e n o s k a b h d))

sum_keeps : (n : ℕ) (t : TokenKind) (e : ExpressionKind) (k : SumContext) (a : List Word) → BeforeSum e k a → (s : Expression (List ℕ)) (b : List Word)
    → IsSum s b
    → (ws : List Word) → ws ≡ a ++ b → IfSome (step_sum t s k) (λ m. Reached e m (ws ++ at n t ∷ []))
sum_keeps n Plus e k a h s b d ws q = sum_goes n sums.Plus e k a h s b d ws q
sum_keeps n Minus e k a h s b d ws q = sum_goes n sums.Minus e k a h s b d ws q
sum_keeps n CloseParen _ _ _ (before.parens e m k a h) s b d ws q =
    factor_reached e k a h s (at m OpenParen ∷ (b ++ at n CloseParen ∷ [])) (grammar.group m n d) (ws ++ at n CloseParen ∷ []) (rw q (simp append_assoc))
sum_keeps n CloseBracket _ _ _ (before.index e m l x k a h) s b d ws q =
    factor_reached e k a h (Read x s) (at m (Name x) ∷ at l OpenBracket ∷ (b ++ at n CloseBracket ∷ [])) (grammar.read m l n x d) (ws ++ at n CloseBracket ∷ [])
    (rw q (simp append_assoc))
sum_keeps n (Relation r) _ _ _ (before.left e k a h) s b d ws q =
    subst (λ (l : List Word). BeforeFactor e (first_factor (first_product (right r s k))) l) (sym (snoc ws a b (at n (Relation r)) q))
    (sum_at e (right r s k) (a ++ (b ++ at n (Relation r) ∷ [])) (before.right e n r s k a b h d))
sum_keeps n t _ _ _ (before.right e m r l k a c h p) s b d ws q =
    let u : Guard (List ℕ) = Test (record { relation = r; left = l; right = s }) in
    joined_keeps n t e (unit_done u k) ws (unit_reached e k a h u (c ++ (at m (Relation r) ∷ b)) (grammar.literal m r p d) ws (q ∙ simp append_assoc))
sum_keeps n _ e k a h s b d ws q = tt

summed_keeps : (n : ℕ) (t : TokenKind) (e : ExpressionKind) (i : Inside) (ws : List Word) → Reached e i ws
    → IfSome (step_summed t i) (λ m. Reached e m (ws ++ at n t ∷ []))
summed_keeps n t e (after_sum s k) ws h = sum_keeps n t e k h.a h.front s h.b h.back ws h.is
summed_keeps n t e _ ws h = tt

-- an operator between two factors
product_goes : (n : ℕ) (o : ProductOperator) (e : ExpressionKind) (k : ProductContext) (a : List Word) → BeforeProduct e k a
    → (p : Expression (List ℕ)) (b : List Word)
    → IsProduct p b → (ws : List Word) → ws ≡ a ++ b → BeforeFactor e (next_factor o p k) (ws ++ at n (product_sign o) ∷ [])
product_goes n o e k a h p b d ws q = subst (λ (l : List Word). BeforeFactor e (next_factor o p k) l) (sym (snoc ws a b (at n (product_sign o)) q))
    (before.next_factor e n o p k a b h d)

product_keeps : (n : ℕ) (t : TokenKind) (e : ExpressionKind) (k : ProductContext) (a : List Word) → BeforeProduct e k a
    → (p : Expression (List ℕ)) (b : List Word)
    → IsProduct p b → (ws : List Word) → ws ≡ a ++ b → IfSome (step_product t p k) (λ m. Reached e m (ws ++ at n t ∷ []))
product_keeps n Star e k a h p b d ws q = product_goes n products.Times e k a h p b d ws q
product_keeps n Slash e k a h p b d ws q = product_goes n products.Divide e k a h p b d ws q
product_keeps n Percent e k a h p b d ws q = product_goes n products.Remainder e k a h p b d ws q
product_keeps n t e k a h p b d ws q = summed_keeps n t e (product_done p k) ws (product_reached e k a h p b d ws q)

multiplied_keeps : (n : ℕ) (t : TokenKind) (e : ExpressionKind) (i : Inside) (ws : List Word) → Reached e i ws
    → IfSome (step_multiplied t i) (λ m. Reached e m (ws ++ at n t ∷ []))
multiplied_keeps n t e (after_product p k) ws h = product_keeps n t e k h.a h.front p h.b h.back ws h.is
multiplied_keeps n t e _ ws h = tt

-- a name without an index
variable_reached : (e : ExpressionKind) (k : FactorContext) (m : ℕ) (x : List ℕ) (a : List Word) → BeforeFactor e k a → (ws : List Word)
    → ws ≡ a ++ at m (Name x) ∷ [] → Reached e (factor_done (Variable x) k) ws
variable_reached e k m x a h ws q = factor_reached e k a h (Variable x) (at m (Name x) ∷ []) (grammar.variable m x) ws q

name_keeps : (n : ℕ) (t : TokenKind) (e : ExpressionKind) (k : FactorContext) (m : ℕ) (x : List ℕ) (a : List Word) → BeforeFactor e k a → (ws : List Word)
    → ws ≡ a ++ at m (Name x) ∷ [] → IfSome (step_name t x k) (λ r. Reached e r (ws ++ at n t ∷ []))
name_keeps n OpenBracket e k m x a h ws q =
    subst (λ (l : List Word). BeforeFactor e (first_factor (first_product (index x k))) l) (sym (snoc ws a (at m (Name x) ∷ []) (at n OpenBracket) q))
    (sum_at e (index x k) (a ++ (at m (Name x) ∷ at n OpenBracket ∷ [])) (before.index e m n x k a h))
name_keeps n t e k m x a h ws q = multiplied_keeps n t e (factor_done (Variable x) k) ws (variable_reached e k m x a h ws q)

keeps : (n : ℕ) (t : TokenKind) (e : ExpressionKind) (i : Inside) (ws : List Word) → Reached e i ws
    → IfSome (expression_step i t) (λ m. Reached e m (ws ++ at n t ∷ []))
keeps n t e (at_unit k) ws h = unit_keeps n t e k ws h
keeps n t e (after_conjunction c k) ws h = conjunction_keeps n t e k h.a h.front c h.b h.back ws h.is
keeps n t e (after_guard g k) ws h = guard_keeps n t e k h.a h.front g h.b h.back ws h.is
keeps n t e (at_factor k) ws h = factor_keeps n t e k ws h
keeps n t e (after_name x k) ws h = name_keeps n t e k h.0 x h.1.a h.1.front ws (with_last (at h.0 (Name x) ∷ []) ws h.1)
keeps n t e (after_product p k) ws h = product_keeps n t e k h.a h.front p h.b h.back ws h.is
keeps n t e (after_sum s k) ws h = sum_keeps n t e k h.a h.front s h.b h.back ws h.is

-- ---- many words

stepped : (e : ExpressionKind) (o : Option Inside) (w : Word) (ws done : List Word) (r : Inside)
    → ((m : Inside) (d : List Word) → Reached e m d → walk ws m ≡ Some r → Reached e r (d ++ ws))
    → IfSome o (λ m. Reached e m (done ++ w ∷ [])) → and_then o (walk ws) ≡ Some r → Reached e r (done ++ (w ∷ ws))
stepped e None w ws done r go h q = absurd cc
stepped e (Some m) w ws done r go h q = subst (λ (l : List Word). Reached e r l) (append_assoc done (w ∷ []) ws) (go m (done ++ w ∷ []) h q)

reached_on : (e : ExpressionKind) (ws : List Word) (r i : Inside) (done : List Word) → Reached e i done → walk ws i ≡ Some r → Reached e r (done ++ ws)
reached_on e [] r i done h q =
    let same : i ≡ r = cc in
    subst (λ (m : Inside). Reached e m (done ++ [])) same (subst (λ (l : List Word). Reached e i l) (sym (append-nil done)) h)
reached_on e (at n t ∷ ws) r i done h q = stepped e (expression_step i t) (at n t) ws done r (λ m d. reached_on e ws r m d) (keeps n t e i done h) q

at_start : (e : ExpressionKind) → Reached e (expression_start e) []
at_start a_sum = sum_at a_sum inner.sum_alone [] before.sum_alone
at_start a_guard = guard_at a_guard inner.guard_alone [] before.guard_alone

-- What has been read at a place that words lead to.
pub reached : (e : ExpressionKind) (ws : List Word) (r : Inside) → walk ws (expression_start e) ≡ Some r → Reached e r ws
reached e ws r q = reached_on e ws r (expression_start e) [] (at_start e) q

-- ---- what may end

guard_whole : (e : ExpressionKind) (k : GuardContext) (a : List Word) → BeforeGuard e k a → (g : Guard (List ℕ)) (b : List Word) → IsGuard g b
    → (ws : List Word)
    → ws ≡ a ++ b → IfSome (ends_guard g k) (λ w. SpellsExpression e w ws)
guard_whole _ _ _ before.guard_alone g b d ws q = subst (λ (l : List Word). IsGuard g l) (sym q) d
guard_whole _ _ _ (before.braces e n k a h) g b d ws q = tt

guarded_whole : (e : ExpressionKind) (i : Inside) (ws : List Word) → Reached e i ws → IfSome (ends_guarded i) (λ w. SpellsExpression e w ws)
guarded_whole e (after_guard g k) ws h = guard_whole e k h.a h.front g h.b h.back ws h.is
guarded_whole e _ ws h = tt

joined_whole : (e : ExpressionKind) (i : Inside) (ws : List Word) → Reached e i ws → IfSome (ends_joined i) (λ w. SpellsExpression e w ws)
joined_whole e (after_conjunction c k) ws h = guarded_whole e (conjunction_done c k) ws (conjunction_reached e k h.a h.front c h.b h.back ws h.is)
joined_whole e _ ws h = tt

sum_whole : (e : ExpressionKind) (k : SumContext) (a : List Word) → BeforeSum e k a → (s : Expression (List ℕ)) (b : List Word) → IsSum s b → (ws : List Word)
    → ws ≡ a ++ b → IfSome (ends_sum s k) (λ w. SpellsExpression e w ws)
sum_whole _ _ _ before.sum_alone s b d ws q = subst (λ (l : List Word). IsSum s l) (sym q) d
sum_whole _ _ _ (before.right e m r l k a c h p) s b d ws q =
    let u : Guard (List ℕ) = Test (record { relation = r; left = l; right = s }) in
    joined_whole e (unit_done u k) ws (unit_reached e k a h u (c ++ (at m (Relation r) ∷ b)) (grammar.literal m r p d) ws (q ∙ simp append_assoc))
sum_whole _ _ _ (before.parens e n k a h) s b d ws q = tt
sum_whole _ _ _ (before.index e n m x k a h) s b d ws q = tt
sum_whole _ _ _ (before.left e k a h) s b d ws q = tt

summed_whole : (e : ExpressionKind) (i : Inside) (ws : List Word) → Reached e i ws → IfSome (ends_summed i) (λ w. SpellsExpression e w ws)
summed_whole e (after_sum s k) ws h = sum_whole e k h.a h.front s h.b h.back ws h.is
summed_whole e _ ws h = tt

multiplied_whole : (e : ExpressionKind) (i : Inside) (ws : List Word) → Reached e i ws → IfSome (ends_multiplied i) (λ w. SpellsExpression e w ws)
multiplied_whole e (after_product p k) ws h = summed_whole e (product_done p k) ws (product_reached e k h.a h.front p h.b h.back ws h.is)
multiplied_whole e _ ws h = tt

whole_spelled : (e : ExpressionKind) (i : Inside) (ws : List Word) → Reached e i ws → IfSome (whole_at i) (λ w. SpellsExpression e w ws)
whole_spelled e (at_unit k) ws h = tt
whole_spelled e (after_conjunction c k) ws h = joined_whole e (after_conjunction c k) ws h
whole_spelled e (after_guard g k) ws h = guarded_whole e (after_guard g k) ws h
whole_spelled e (at_factor k) ws h = tt
whole_spelled e (after_name x k) ws h = multiplied_whole e (factor_done (Variable x) k) ws
    (variable_reached e k h.0 x h.1.a h.1.front ws (with_last (at h.0 (Name x) ∷ []) ws h.1))
whole_spelled e (after_product p k) ws h = multiplied_whole e (after_product p k) ws h
whole_spelled e (after_sum s k) ws h = summed_whole e (after_sum s k) ws h

of_whole : (e : ExpressionKind) (o : Option Whole) (w : Whole) (ws : List Word) → IfSome o (λ v. SpellsExpression e v ws) → o ≡ Some w → SpellsExpression e w ws
of_whole e None w ws h q = absurd cc
of_whole e (Some v) w ws h q =
    let same : v ≡ w = cc in
    subst (λ (u : Whole). SpellsExpression e u ws) same h

-- What may end behind words is spelled by them.
pub sound : (e : ExpressionKind) (ws : List Word) (i : Inside) (w : Whole) → walk ws (expression_start e) ≡ Some i → whole_at i ≡ Some w
    → SpellsExpression e w ws
sound e ws i w q g = of_whole e (whole_at i) w ws (whole_spelled e i ws (reached e ws i q)) g
