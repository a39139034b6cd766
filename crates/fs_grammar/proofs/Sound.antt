-- What is read is spelled.
use Rattle.std.proofs.Common.{◌≡◌, ℕ, ℤ, zero, suc, pos, List, [], ◌∷◌, ◌++◌, Option, Some, None, refl, sym, ap, subst, ◌∙◌, append_assoc}
use Rattle.std.specs.Prelude.{IfSome}
use Rattle.std.proofs.lemmas.List.{append-nil}
use Rattle.fs_model.specs.declared.parts.Role.{Role}
use Rattle.fs_model.specs.declared.parts.Role.TheVariants.{Output}
use Rattle.fs_model.specs.declared.parts.Sort.TheVariants as sorts
use Rattle.fs_model.specs.Expressions.{Expression, Variable, Read, Sum, Difference, Product, Quotient, Remainder, Negative, Guard, Test, Not, And, Or}
use Rattle.fs_model.specs.Expressions.{Assignment}
use Rattle.fs_model.specs.Expressions as expressions
use Rattle.fs_model.specs.Source.{Declaration, SourceTransition, SourceState, Source}
use Rattle.fs_grammar.specs.declared.format.Format.{Format}
use Rattle.fs_grammar.specs.declared.format.Format.TheVariants.{One, Two}
use Rattle.fs_grammar.specs.declared.token.TokenKind.{TokenKind}
use Rattle.fs_grammar.specs.declared.token.TokenKind.TheVariants.{Fsmd, Declare, Array, Reset, State, When, Goto, Emit, Port, Name, Number, Semicolon, Colon}
use Rattle.fs_grammar.specs.declared.token.TokenKind.TheVariants.{Comma, Equals, OpenParen, CloseParen, OpenBracket, CloseBracket, OpenBrace, CloseBrace, Plus}
use Rattle.fs_grammar.specs.declared.token.TokenKind.TheVariants.{Minus, Star, Slash, Percent, Bang, AndAnd, OrOr, Relation}
use Rattle.fs_grammar.specs.Formats.{format_of, format_number}
use Rattle.fs_grammar.specs.Grammar as machine
use Rattle.fs_grammar.specs.Grammar.{scalar, port, destination_assignment, OpenState, OpenTransition, with_names, with_states, with_transitions}
use Rattle.fs_grammar.specs.Grammar.{with_open_state, with_assignments, transition_read, close_transition, FactorContext, ProductContext, SumContext}
use Rattle.fs_grammar.specs.Grammar.{UnitContext, ConjunctionContext, GuardContext, first_factor, first_product, first_of_all, first_of_any, parens, index}
use Rattle.fs_grammar.specs.Grammar.{left, right, write_index, value, ParseState, at_start, at_format, at_semicolon, at_declaration, at_sort, at_declared}
use Rattle.fs_grammar.specs.Grammar.{after_declared, at_reset, after_reset, at_state, at_state_name, after_state_name, at_transition, at_target, after_target}
use Rattle.fs_grammar.specs.Grammar.{at_assignment, at_port, after_assignment_name, at_equals, at_unit, after_conjunction, after_guard, at_factor, after_name}
use Rattle.fs_grammar.specs.Grammar.{after_product, after_sum, factor_done, product_done, unit_done, conjunction_done, step, step_format, in_format_two}
use Rattle.fs_grammar.specs.Grammar.{step_transition, step_factor, step_unit, step_guard, step_guarded, step_joined, step_summed, step_multiplied}
use Rattle.fs_grammar.specs.Grammar.{step_conjunction, step_sum, step_product, step_name, finish_source}
use Rattle.fs_grammar.specs.Spelling as grammar
use Rattle.fs_grammar.specs.Spelling.{Word, at, IsFactor, IsProduct, IsSum, IsUnit, IsConjunction, IsGuard, IsAssignment, AreAssignments, AreEffects}
use Rattle.fs_grammar.specs.Spelling.{IsCondition, IsTransition, IsState, AreNames, IsFile}
use Rattle.fs_grammar.specs.WordWalks.{and_then, walk, source_at}
use Rattle.fs_grammar.proofs.Reached as before
use Rattle.fs_grammar.proofs.Reached.{Cut, Is, head, IsHead, BeforeName, Declares, Declared, AfterReset, AfterState, IsOpenState, AfterTarget}
use Rattle.fs_grammar.proofs.Reached.{BeforeAssignment, IsOpenTransition, BeforeUnit, BeforeConjunction, BeforeGuard, BeforeFactor, BeforeProduct}
use Rattle.fs_grammar.proofs.Reached.{BeforeSum, Reached}

-- ws, cut into a and b, and one more word
pub snoc : (ws a b : List Word) (w : Word) → ws ≡ a ++ b → ws ++ w ∷ [] ≡ a ++ (b ++ w ∷ [])
snoc ws a b w e = ap (λ (l : List Word). l ++ w ∷ []) e ∙ append_assoc a b (w ∷ [])

snoc_cut : {P : List Word → Type 0} (v ws : List Word) (w : Word) (h : Cut P (Is v) ws) → ws ++ w ∷ [] ≡ h.a ++ (v ++ w ∷ [])
snoc_cut v ws w h = snoc ws h.a v w (h.is ∙ ap (λ (l : List Word). h.a ++ l) h.back)

sum_at : (k : SumContext) (ws : List Word) → BeforeSum k ws → BeforeFactor (first_factor (first_product k)) ws
sum_at k ws h = before.first_factor (first_product k) ws (before.first_product k ws h)

guard_at : (k : GuardContext) (ws : List Word) → BeforeGuard k ws → BeforeUnit (first_of_all (first_of_any k)) ws
guard_at k ws h = before.first_of_all (first_of_any k) ws (before.first_of_any k ws h)

-- ---- files, states and transitions that grow

file_more : (f : Format) (s : Source) (a : List Word) → IsFile f s a → (t : SourceState) (b : List Word) → IsState f t b
    → IsFile f (with_states s (t ∷ [])) (a ++ b)
file_more _ _ _ (grammar.file f i j k n m l ds x ss {a} {b = c} p q) t b h =
    subst
    (λ (w : List Word). IsFile f (record { declarations = ds; reset_line = n; reset = x; states = ss ++ t ∷ [] })
    (at i Fsmd ∷ at j (Number (format_number f)) ∷ at k Semicolon ∷ w))
    (sym (append_assoc a (at n Reset ∷ at m (Name x) ∷ at l Semicolon ∷ c) b)) (grammar.file f i j k n m l ds x (ss ++ t ∷ []) p (grammar.more_states f q h))

state_more : (f : Format) (s : SourceState) (a : List Word) → IsState f s a → (l : SourceTransition) (b : List Word) → IsTransition f l b
    → IsState f (record s { transitions = s.transitions ++ l ∷ [] }) (a ++ b)
state_more _ _ _ (grammar.state f n m k x ls p) l b h = grammar.state f n m k x (ls ++ l ∷ []) (grammar.more_transitions f p h)

pub open_state_file : (d : OpenState) (ws : List Word) → IsOpenState d ws → IsFile d.format (with_open_state d) ws
open_state_file d ws h = subst (λ (w : List Word). IsFile d.format (with_open_state d) w) (sym h.is)
    (file_more d.format d.source h.a h.front d.state h.b h.back)

open_state_more : (d : OpenState) (a : List Word) → IsOpenState d a → (l : SourceTransition) (b : List Word) → IsTransition d.format l b → (ws : List Word)
    → ws ≡ a ++ b → IsOpenState (with_transitions d (l ∷ [])) ws
open_state_more d a h l b p ws e = record {
  a = h.a;
  b = h.b ++ b;
  front = h.front;
  back = state_more d.format d.state h.b h.back l b p;
  is = e ∙ rw h.is (append_assoc h.a h.b b);
}

-- a transition up to its last assignment
record IsRead (o : OpenTransition) (ws : List Word) : Type 0 where
  a : List Word
  b : List Word
  c : List Word
  m : ℕ
  n : ℕ
  state : IsOpenState o.state a
  condition : IsCondition o.line o.guard b
  assignments : AreAssignments o.state.format o.assignments c
  is : ws ≡ a ++ (b ++ (at m (Name o.target) ∷ at n Colon ∷ c))

-- assignments behind a colon
record AreRead (f : Format) (xs : List (Assignment (List ℕ))) (ws : List Word) : Type 0 where
  n : ℕ
  a : List Word
  assignments : AreAssignments f xs a
  is : ws ≡ at n Colon ∷ a

assignments_more : (f : Format) (xs : List (Assignment (List ℕ))) (a : List Word) → BeforeAssignment f xs a → (x : Assignment (List ℕ)) (b : List Word)
    → IsAssignment f x b → AreRead f (xs ++ x ∷ []) (a ++ b)
assignments_more _ _ _ (before.colon f n) x b h = record { n = n; a = b; assignments = grammar.one_assignment f h; is = refl }
assignments_more _ _ _ (before.next f n m {xs} {a} p) x b h = record {
  n = n;
  a = a ++ (at m Comma ∷ b);
  assignments = grammar.more_assignments f m p h;
  is = simp append_assoc;
}

assignment_read : (o : OpenTransition) (a : List Word) → IsOpenTransition o a → (x : Assignment (List ℕ)) (b : List Word) → IsAssignment o.state.format x b
    → (ws : List Word) → ws ≡ a ++ b → IsRead (with_assignments o (x ∷ [])) ws
assignment_read o a h x b p ws e =
    let r = assignments_more o.state.format o.assignments h.c h.before x b p in
    record {
      a = h.a;
      b = h.b;
      c = r.a;
      m = h.m;
      n = r.n;
      state = h.state;
      condition = h.condition;
      assignments = r.assignments;
      is = e ∙ rw h.is (simp append_assoc (ap (λ (l : List Word). h.a ++ (h.b ++ (at h.m (Name o.target) ∷ l))) r.is));
    }

comma_read : (o : OpenTransition) (n : ℕ) (ws : List Word) → IsRead o ws → IsOpenTransition o (ws ++ at n Comma ∷ [])
comma_read o n ws h = record {
  a = h.a;
  b = h.b;
  c = at h.n Colon ∷ (h.c ++ at n Comma ∷ []);
  m = h.m;
  state = h.state;
  condition = h.condition;
  before = before.next o.state.format h.n n h.assignments;
  is = rw h.is (simp append_assoc);
}

transition_closed : (o : OpenTransition) (n m : ℕ) (a b c ws : List Word) → IsOpenState o.state a → IsCondition o.line o.guard b
    → AreEffects o.state.format o.assignments c → ws ≡ a ++ (b ++ (at m (Name o.target) ∷ c)) → IsOpenState (close_transition o) (ws ++ at n Semicolon ∷ [])
transition_closed o n m a b c ws h p q e =
    open_state_more o.state a h (transition_read o) (b ++ (at m (Name o.target) ∷ (c ++ at n Semicolon ∷ [])))
    (grammar.transition o.state.format o.line m n o.guard o.target o.assignments p q) (ws ++ at n Semicolon ∷ []) (rw e (simp append_assoc))

semicolon_read : (o : OpenTransition) (n : ℕ) (ws : List Word) → IsRead o ws → IsOpenState (close_transition o) (ws ++ at n Semicolon ∷ [])
semicolon_read o n ws h = transition_closed o n h.m h.a h.b (at h.n Colon ∷ h.c) ws h.state h.condition (grammar.effects o.state.format h.n h.assignments) h.is

-- ---- parts that are done

factor_reached : (k : FactorContext) (a : List Word) → BeforeFactor k a → (f : Expression (List ℕ)) (b : List Word) → IsFactor f b → (ws : List Word)
    → ws ≡ a ++ b
    → Reached (factor_done f k) ws
factor_reached _ _ (before.first_factor k a h) f b d ws e = record { a = a; b = b; front = h; back = grammar.factor d; is = e }
factor_reached _ _ (before.times n p k a c h q) f b d ws e = record {
  a = a;
  b = c ++ (at n Star ∷ b);
  front = h;
  back = grammar.times n q d;
  is = e ∙ simp append_assoc;
}
factor_reached _ _ (before.divides n p k a c h q) f b d ws e = record {
  a = a;
  b = c ++ (at n Slash ∷ b);
  front = h;
  back = grammar.divides n q d;
  is = e ∙ simp append_assoc;
}
factor_reached _ _ (before.remainder_of n p k a c h q) f b d ws e =
    record { a = a; b = c ++ (at n Percent ∷ b); front = h; back = grammar.remainder_of n q d; is = e ∙ simp append_assoc }
factor_reached _ _ (before.negative n k a h) f b d ws e = factor_reached k a h (Negative f) (at n Minus ∷ b) (grammar.negative n d) ws (e ∙ simp append_assoc)

unit_reached : (k : UnitContext) (a : List Word) → BeforeUnit k a → (u : Guard (List ℕ)) (b : List Word) → IsUnit u b → (ws : List Word) → ws ≡ a ++ b
    → Reached (unit_done u k) ws
unit_reached _ _ (before.negates n k a h) u b d ws e = unit_reached k a h (Not u) (at n Bang ∷ b) (grammar.not n d) ws (e ∙ simp append_assoc)
unit_reached _ _ (before.first_of_all k a h) u b d ws e = record { a = a; b = b; front = h; back = grammar.unit d; is = e }
unit_reached _ _ (before.and_after n c k a p h q) u b d ws e = record {
  a = a;
  b = p ++ (at n AndAnd ∷ b);
  front = h;
  back = grammar.and n q d;
  is = e ∙ simp append_assoc;
}

-- ---- one more word

factor_keeps : (n : ℕ) (t : TokenKind) (k : FactorContext) (ws : List Word) → BeforeFactor k ws → IfSome (step_factor t k) (λ m. Reached m (ws ++ at n t ∷ []))
factor_keeps n (Number i) k ws h = factor_reached k ws h (expressions.Number i) (at n (Number i) ∷ []) (grammar.number n i) (ws ++ at n (Number i) ∷ []) refl
factor_keeps n (Name x) k ws h = (n, record { a = ws; b = at n (Name x) ∷ []; front = h; back = refl; is = refl })
factor_keeps n Minus k ws h = before.negative n k ws h
factor_keeps n OpenParen k ws h = sum_at (parens k) (ws ++ at n OpenParen ∷ []) (before.parens n k ws h)
factor_keeps n _ k ws h = tt

unit_keeps : (n : ℕ) (t : TokenKind) (k : UnitContext) (ws : List Word) → BeforeUnit k ws → IfSome (step_unit t k) (λ m. Reached m (ws ++ at n t ∷ []))
unit_keeps n Bang k ws h = before.negates n k ws h
unit_keeps n OpenBrace k ws h = guard_at (machine.braces k) (ws ++ at n OpenBrace ∷ []) (before.braces n k ws h)
unit_keeps n t k ws h = factor_keeps n t (first_factor (first_product (left k))) ws (sum_at (left k) ws (before.left k ws h))

guard_keeps : (n : ℕ) (t : TokenKind) (k : GuardContext) (a : List Word) → BeforeGuard k a → (g : Guard (List ℕ)) (b : List Word) → IsGuard g b
    → (ws : List Word) → ws ≡ a ++ b → IfSome (step_guard t g k) (λ m. Reached m (ws ++ at n t ∷ []))
guard_keeps n OrOr k a h g b d ws e = subst (λ (l : List Word). BeforeUnit (first_of_all (machine.or_after g k)) l) (sym (snoc ws a b (at n OrOr) e))
    (before.first_of_all (machine.or_after g k) (a ++ (b ++ at n OrOr ∷ [])) (before.or_after n g k a b h d))
guard_keeps n CloseBrace _ _ (before.braces m k a h) g b d ws e =
    unit_reached k a h g (at m OpenBrace ∷ (b ++ at n CloseBrace ∷ [])) (grammar.braces m n d) (ws ++ at n CloseBrace ∷ []) (rw e (simp append_assoc))
guard_keeps n Goto _ _ (before.transition_guard m f a h) g b d ws e =
    record { a = a; b = at m When ∷ (b ++ at n Goto ∷ []); front = h; back = grammar.when m n d; is = rw e (simp append_assoc) }
guard_keeps n _ k a h g b d ws e = tt

guarded_keeps : (n : ℕ) (t : TokenKind) (k : ConjunctionContext) (a : List Word) → BeforeConjunction k a → (c : Guard (List ℕ)) (b : List Word)
    → IsConjunction c b → (ws : List Word) → ws ≡ a ++ b → IfSome (step_guarded t (conjunction_done c k)) (λ m. Reached m (ws ++ at n t ∷ []))
guarded_keeps n t _ _ (before.first_of_any k a h) c b d ws e = guard_keeps n t k a h c b (grammar.conjunction d) ws e
guarded_keeps n t _ _ (before.or_after m g k a p h q) c b d ws e =
    guard_keeps n t k a h (Or g c) (p ++ (at m OrOr ∷ b)) (grammar.or m q d) ws (e ∙ simp append_assoc)

conjunction_keeps : (n : ℕ) (t : TokenKind) (k : ConjunctionContext) (a : List Word) → BeforeConjunction k a → (c : Guard (List ℕ)) (b : List Word)
    → IsConjunction c b → (ws : List Word) → ws ≡ a ++ b → IfSome (step_conjunction t c k) (λ m. Reached m (ws ++ at n t ∷ []))
conjunction_keeps n AndAnd k a h c b d ws e = subst (λ (l : List Word). BeforeUnit (machine.and_after c k) l) (sym (snoc ws a b (at n AndAnd) e))
    (before.and_after n c k a b h d)
conjunction_keeps n t k a h c b d ws e = guarded_keeps n t k a h c b d ws e

joined_keeps : (n : ℕ) (t : TokenKind) (k : UnitContext) (a : List Word) → BeforeUnit k a → (u : Guard (List ℕ)) (b : List Word) → IsUnit u b → (ws : List Word)
    → ws ≡ a ++ b → IfSome (step_joined t (unit_done u k)) (λ m. Reached m (ws ++ at n t ∷ []))
joined_keeps n t _ _ (before.negates m k a h) u b d ws e = joined_keeps n t k a h (Not u) (at m Bang ∷ b) (grammar.not m d) ws (e ∙ simp append_assoc)
joined_keeps n t _ _ (before.first_of_all k a h) u b d ws e = conjunction_keeps n t k a h u b (grammar.unit d) ws e
joined_keeps n t _ _ (before.and_after m c k a p h q) u b d ws e =
    conjunction_keeps n t k a h (And c u) (p ++ (at m AndAnd ∷ b)) (grammar.and m q d) ws (e ∙ simp append_assoc)

emit_read : (f : Format) (m l : ℕ) (x : List ℕ) (s : Expression (List ℕ)) (b : List Word) → f ≡ Two → IsSum s b
    → IsAssignment f (expressions.Emit x s) (at m Emit ∷ at l (Name x) ∷ b)
emit_read f m l x s b v d = subst (λ (f : Format). IsAssignment f (expressions.Emit x s) (at m Emit ∷ at l (Name x) ∷ b)) (sym v) (grammar.emit m l x d)

sum_keeps : (n : ℕ) (t : TokenKind) (k : SumContext) (a : List Word) → BeforeSum k a → (s : Expression (List ℕ)) (b : List Word) → IsSum s b → (ws : List Word)
    → ws ≡ a ++ b → IfSome (step_sum t s k) (λ m. Reached m (ws ++ at n t ∷ []))
sum_keeps n Plus k a h s b d ws e = subst (λ (l : List Word). BeforeFactor (first_factor (machine.plus s k)) l) (sym (snoc ws a b (at n Plus) e))
    (before.first_factor (machine.plus s k) (a ++ (b ++ at n Plus ∷ [])) (before.plus n s k a b h d))
sum_keeps n Minus k a h s b d ws e = subst (λ (l : List Word). BeforeFactor (first_factor (machine.minus s k)) l) (sym (snoc ws a b (at n Minus) e))
    (before.first_factor (machine.minus s k) (a ++ (b ++ at n Minus ∷ [])) (before.minus n s k a b h d))
sum_keeps n CloseParen _ _ (before.parens m k a h) s b d ws e =
    factor_reached k a h s (at m OpenParen ∷ (b ++ at n CloseParen ∷ [])) (grammar.group m n d) (ws ++ at n CloseParen ∷ []) (rw e (simp append_assoc))
sum_keeps n CloseBracket _ _ (before.index m l x k a h) s b d ws e =
    factor_reached k a h (Read x s) (at m (Name x) ∷ at l OpenBracket ∷ (b ++ at n CloseBracket ∷ [])) (grammar.read m l n x d) (ws ++ at n CloseBracket ∷ [])
    (rw e (simp append_assoc))
sum_keeps n CloseBracket _ _ (before.write_index m l o x a h) s b d ws e =
    record {
      a = a;
      b = at m (Name x) ∷ at l OpenBracket ∷ (b ++ at n CloseBracket ∷ []);
      front = h;
      back = grammar.element_at m l n x d;
      is = rw e (simp append_assoc);
    }
sum_keeps n (Relation r) _ _ (before.left k a h) s b d ws e =
    subst (λ (l : List Word). BeforeFactor (first_factor (first_product (right r s k))) l) (sym (snoc ws a b (at n (Relation r)) e))
    (sum_at (right r s k) (a ++ (b ++ at n (Relation r) ∷ [])) (before.right n r s k a b h d))
sum_keeps n Comma _ _ (before.value m o t a c h p) s b d ws e =
    comma_read (with_assignments o (destination_assignment t s ∷ [])) n ws
    (assignment_read o a h (destination_assignment t s) (c ++ (at m Equals ∷ b)) (grammar.assign o.state.format m p d) ws (e ∙ simp append_assoc))
sum_keeps n Semicolon _ _ (before.value m o t a c h p) s b d ws e =
    semicolon_read (with_assignments o (destination_assignment t s ∷ [])) n ws
    (assignment_read o a h (destination_assignment t s) (c ++ (at m Equals ∷ b)) (grammar.assign o.state.format m p d) ws (e ∙ simp append_assoc))
sum_keeps n Comma _ _ (before.emitted m l o x a v h) s b d ws e =
    comma_read (with_assignments o (expressions.Emit x s ∷ [])) n ws
    (assignment_read o a h (expressions.Emit x s) (at m Emit ∷ at l (Name x) ∷ b) (emit_read o.state.format m l x s b v d) ws (e ∙ simp append_assoc))
sum_keeps n Semicolon _ _ (before.emitted m l o x a v h) s b d ws e =
    semicolon_read (with_assignments o (expressions.Emit x s ∷ [])) n ws
    (assignment_read o a h (expressions.Emit x s) (at m Emit ∷ at l (Name x) ∷ b) (emit_read o.state.format m l x s b v d) ws (e ∙ simp append_assoc))
sum_keeps n t _ _ (before.right m r l k a c h p) s b d ws e =
    joined_keeps n t k a h (Test (record { relation = r; left = l; right = s })) (c ++ (at m (Relation r) ∷ b))
    (grammar.literal m r p d) ws (e ∙ simp append_assoc)
sum_keeps n _ k a h s b d ws e = tt

summed_keeps : (n : ℕ) (t : TokenKind) (k : ProductContext) (a : List Word) → BeforeProduct k a → (p : Expression (List ℕ)) (b : List Word) → IsProduct p b
    → (ws : List Word) → ws ≡ a ++ b → IfSome (step_summed t (product_done p k)) (λ m. Reached m (ws ++ at n t ∷ []))
summed_keeps n t _ _ (before.first_product k a h) p b d ws e = sum_keeps n t k a h p b (grammar.product d) ws e
summed_keeps n t _ _ (before.plus m s k a c h q) p b d ws e =
    sum_keeps n t k a h (Sum s p) (c ++ (at m Plus ∷ b)) (grammar.plus m q d) ws (e ∙ simp append_assoc)
summed_keeps n t _ _ (before.minus m s k a c h q) p b d ws e =
    sum_keeps n t k a h (Difference s p) (c ++ (at m Minus ∷ b)) (grammar.minus m q d) ws (e ∙ simp append_assoc)

product_keeps : (n : ℕ) (t : TokenKind) (k : ProductContext) (a : List Word) → BeforeProduct k a → (p : Expression (List ℕ)) (b : List Word) → IsProduct p b
    → (ws : List Word) → ws ≡ a ++ b → IfSome (step_product t p k) (λ m. Reached m (ws ++ at n t ∷ []))
product_keeps n Star k a h p b d ws e = subst (λ (l : List Word). BeforeFactor (machine.times p k) l) (sym (snoc ws a b (at n Star) e))
    (before.times n p k a b h d)
product_keeps n Slash k a h p b d ws e = subst (λ (l : List Word). BeforeFactor (machine.divides p k) l) (sym (snoc ws a b (at n Slash) e))
    (before.divides n p k a b h d)
product_keeps n Percent k a h p b d ws e = subst (λ (l : List Word). BeforeFactor (machine.remainder_of p k) l) (sym (snoc ws a b (at n Percent) e))
    (before.remainder_of n p k a b h d)
product_keeps n t k a h p b d ws e = summed_keeps n t k a h p b d ws e

multiplied_keeps : (n : ℕ) (t : TokenKind) (k : FactorContext) (a : List Word) → BeforeFactor k a → (f : Expression (List ℕ)) (b : List Word) → IsFactor f b
    → (ws : List Word) → ws ≡ a ++ b → IfSome (step_multiplied t (factor_done f k)) (λ m. Reached m (ws ++ at n t ∷ []))
multiplied_keeps n t _ _ (before.first_factor k a h) f b d ws e = product_keeps n t k a h f b (grammar.factor d) ws e
multiplied_keeps n t _ _ (before.times m p k a c h q) f b d ws e =
    product_keeps n t k a h (Product p f) (c ++ (at m Star ∷ b)) (grammar.times m q d) ws (e ∙ simp append_assoc)
multiplied_keeps n t _ _ (before.divides m p k a c h q) f b d ws e =
    product_keeps n t k a h (Quotient p f) (c ++ (at m Slash ∷ b)) (grammar.divides m q d) ws (e ∙ simp append_assoc)
multiplied_keeps n t _ _ (before.remainder_of m p k a c h q) f b d ws e =
    product_keeps n t k a h (Remainder p f) (c ++ (at m Percent ∷ b)) (grammar.remainder_of m q d) ws (e ∙ simp append_assoc)
multiplied_keeps n t _ _ (before.negative m k a h) f b d ws e =
    multiplied_keeps n t k a h (Negative f) (at m Minus ∷ b) (grammar.negative m d) ws (e ∙ simp append_assoc)

name_keeps : (n : ℕ) (t : TokenKind) (k : FactorContext) (m : ℕ) (x : List ℕ) (a : List Word) → BeforeFactor k a → (ws : List Word)
    → ws ≡ a ++ at m (Name x) ∷ [] → IfSome (step_name t x k) (λ r. Reached r (ws ++ at n t ∷ []))
name_keeps n OpenBracket k m x a h ws e = subst (λ (l : List Word). BeforeFactor (first_factor (first_product (index x k))) l)
    (sym (snoc ws a (at m (Name x) ∷ []) (at n OpenBracket) e)) (sum_at (index x k) (a ++ (at m (Name x) ∷ at n OpenBracket ∷ [])) (before.index m n x k a h))
name_keeps n t k m x a h ws e = multiplied_keeps n t k a h (Variable x) (at m (Name x) ∷ []) (grammar.variable m x) ws e

transition_keeps : (n : ℕ) (t : TokenKind) (d : OpenState) (ws : List Word) → IsOpenState d ws
    → IfSome (step_transition n t d) (λ m. Reached m (ws ++ at n t ∷ []))
transition_keeps n When d ws h = guard_at (machine.transition_guard d n) (ws ++ at n When ∷ []) (before.transition_guard n d ws h)
transition_keeps n Goto d ws h = record { a = ws; b = at n Goto ∷ []; front = h; back = grammar.always n; is = refl }
transition_keeps n State d ws h = record { a = ws; b = at n State ∷ []; front = open_state_file d ws h; back = refl; is = refl }
transition_keeps n _ d ws h = tt

-- ---- declarations

pub names_more : (xs : List (List ℕ)) (a : List Word) → BeforeName xs a → (n : ℕ) (x : List ℕ) → AreNames (xs ++ x ∷ []) (a ++ at n (Name x) ∷ [])
names_more _ _ before.no_name n x = grammar.one_name n x
names_more _ _ (before.comma m {xs} {a} p) n x = subst (λ (l : List Word). AreNames (xs ++ x ∷ []) l)
    (sym (append_assoc a (at m Comma ∷ []) (at n (Name x) ∷ []))) (grammar.more_names m n x p)

array_kept : (f : Format) (n m : ℕ) (r : Role) (ds : List Declaration) (ws : List Word) → Cut (IsHead f ds) (Is (at n (Declare r) ∷ [])) ws
    → Cut (IsHead f ds) (Declares f (record { line = n; role = r; sort = sorts.Array; names = [] })) (ws ++ at m Array ∷ [])
array_kept f n m r ds ws h = record {
  a = h.a;
  b = at n (Declare r) ∷ at m Array ∷ [];
  front = h.front;
  back = record { a = at n (Declare r) ∷ at m Array ∷ []; b = []; front = grammar.arrays f n m r; back = before.no_name; is = refl };
  is = snoc_cut (at n (Declare r) ∷ []) ws (at m Array) h;
}

scalar_kept : (f : Format) (n m : ℕ) (r : Role) (x : List ℕ) (ds : List Declaration) (ws : List Word) → Cut (IsHead f ds) (Is (at n (Declare r) ∷ [])) ws
    → Cut (IsHead f ds) (Declared f (record { line = n; role = r; sort = sorts.Scalar; names = x ∷ [] })) (ws ++ at m (Name x) ∷ [])
scalar_kept f n m r x ds ws h = record {
  a = h.a;
  b = at n (Declare r) ∷ at m (Name x) ∷ [];
  front = h.front;
  back = record { a = at n (Declare r) ∷ []; b = at m (Name x) ∷ []; front = grammar.scalars f n r; back = grammar.one_name m x; is = refl };
  is = snoc_cut (at n (Declare r) ∷ []) ws (at m (Name x)) h;
}

port_kept : (f : Format) (n : ℕ) (ds : List Declaration) (ws : List Word) → IsHead f ds ws
    → IfSome (in_format_two f (at_declared f ds (record { line = n; role = Output; sort = sorts.Port; names = [] }))) (λ m. Reached m (ws ++ at n Port ∷ []))
port_kept One n ds ws h = tt
port_kept Two n ds ws h = record {
  a = ws;
  b = at n Port ∷ [];
  front = h;
  back = record { a = at n Port ∷ []; b = []; front = grammar.ports n; back = before.no_name; is = refl };
  is = refl;
}

name_kept : (f : Format) (n : ℕ) (x : List ℕ) (ds : List Declaration) (d : Declaration) (ws : List Word) → Cut (IsHead f ds) (Declares f d) ws
    → Cut (IsHead f ds) (Declared f (with_names d (x ∷ []))) (ws ++ at n (Name x) ∷ [])
name_kept f n x ds d ws h = record {
  a = h.a;
  b = h.b ++ at n (Name x) ∷ [];
  front = h.front;
  back = record {
    a = h.back.a;
    b = h.back.b ++ at n (Name x) ∷ [];
    front = h.back.front;
    back = names_more d.names h.back.b h.back.back n x;
    is = snoc h.b h.back.a h.back.b (at n (Name x)) h.back.is;
  };
  is = snoc ws h.a h.b (at n (Name x)) h.is;
}

comma_kept : (f : Format) (n : ℕ) (ds : List Declaration) (d : Declaration) (ws : List Word) → Cut (IsHead f ds) (Declared f d) ws
    → Cut (IsHead f ds) (Declares f d) (ws ++ at n Comma ∷ [])
comma_kept f n ds d ws h = record {
  a = h.a;
  b = h.b ++ at n Comma ∷ [];
  front = h.front;
  back = record {
    a = h.back.a;
    b = h.back.b ++ at n Comma ∷ [];
    front = h.back.front;
    back = before.comma n h.back.back;
    is = snoc h.b h.back.a h.back.b (at n Comma) h.back.is;
  };
  is = snoc ws h.a h.b (at n Comma) h.is;
}

-- behind the head
grown : (f : Format) (i j k : ℕ) (a b c w ws x y : List Word) → ws ≡ x ++ y → x ≡ head f i j k ++ a → y ≡ b ++ c
    → ws ++ w ≡ head f i j k ++ (a ++ (b ++ (c ++ w)))
grown f i j k a b c w ws x y e g h =
    ap (λ (l : List Word). l ++ w) (e ∙ ap (λ (l : List Word). l ++ y) g ∙ ap (λ (l : List Word). (head f i j k ++ a) ++ l) h)
    ∙ ap (λ (l : List Word). head f i j k ++ l) (append_assoc a (b ++ c) w ∙ ap (λ (l : List Word). a ++ l) (append_assoc b c w))

declaration_kept : (f : Format) (n : ℕ) (ds : List Declaration) (d : Declaration) (ws : List Word) → Cut (IsHead f ds) (Declared f d) ws
    → IsHead f (ds ++ d ∷ []) (ws ++ at n Semicolon ∷ [])
declaration_kept f n ds d ws h = record {
  i = h.front.i;
  j = h.front.j;
  k = h.front.k;
  a = h.front.a ++ (h.back.a ++ (h.back.b ++ at n Semicolon ∷ []));
  declarations = grammar.more_declarations f h.front.declarations (grammar.declaration f d.line n d.role d.sort d.names h.back.front h.back.back);
  is = grown f h.front.i h.front.j h.front.k h.front.a h.back.a h.back.b (at n Semicolon ∷ []) ws h.a h.b h.is h.front.is h.back.is;
}

reset_kept : (f : Format) (n m : ℕ) (x : List ℕ) (ds : List Declaration) (ws : List Word) → Cut (IsHead f ds) (Is (at n Reset ∷ [])) ws
    → AfterReset f (record { declarations = ds; reset_line = n; reset = x; states = [] }) (ws ++ at m (Name x) ∷ [])
reset_kept f n m x ds ws h =
    subst (λ (l : List Word). AfterReset f (record { declarations = ds; reset_line = n; reset = x; states = [] }) l)
    (sym (snoc_cut (at n Reset ∷ []) ws (at m (Name x)) h)) (before.reset f n m ds x h.a h.front)

file_kept : (f : Format) (s : Source) (ws : List Word) → AfterReset f s ws → (l : ℕ) → IsFile f s (ws ++ at l Semicolon ∷ [])
file_kept _ _ _ (before.reset f n m ds x a h) l =
    subst (λ (w : List Word). IsFile f (record { declarations = ds; reset_line = n; reset = x; states = [] }) w)
    (rw h.is (simp append_assoc)) (grammar.file f h.i h.j h.k n m l ds x [] h.declarations (grammar.no_states f))

state_kept : (f : Format) (s : Source) (n m : ℕ) (x : List ℕ) (ws : List Word) → Cut (IsFile f s) (Is (at n State ∷ [])) ws
    → AfterState (record { format = f; source = s; state = record { line = n; name = x; transitions = [] } }) (ws ++ at m (Name x) ∷ [])
state_kept f s n m x ws h =
    subst (λ (l : List Word). AfterState (record { format = f; source = s; state = record { line = n; name = x; transitions = [] } }) l)
    (sym (snoc_cut (at n State ∷ []) ws (at m (Name x)) h)) (before.named f n m s x h.a h.front)

open_state_kept : (d : OpenState) (ws : List Word) → AfterState d ws → (k : ℕ) → IsOpenState d (ws ++ at k Colon ∷ [])
open_state_kept _ _ (before.named f n m s x a h) k = record {
  a = a;
  b = at n State ∷ at m (Name x) ∷ at k Colon ∷ [];
  front = h;
  back = grammar.state f n m k x [] (grammar.no_transitions f);
  is = simp append_assoc;
}

target_kept : (m : ℕ) (d : OpenState) (n : ℕ) (g : Option (Guard (List ℕ))) (x : List ℕ) (ws : List Word) → Cut (IsOpenState d) (IsCondition n g) ws
    → AfterTarget (record { state = d; line = n; guard = g; target = x; assignments = [] }) (ws ++ at m (Name x) ∷ [])
target_kept m d n g x ws h =
    subst (λ (l : List Word). AfterTarget (record { state = d; line = n; guard = g; target = x; assignments = [] }) l)
    (sym (snoc ws h.a h.b (at m (Name x)) h.is)) (before.target n m d g x h.a h.b h.front h.back)

colon_kept : (o : OpenTransition) (ws : List Word) → AfterTarget o ws → (k : ℕ) → IsOpenTransition o (ws ++ at k Colon ∷ [])
colon_kept _ _ (before.target n m d g x a b h p) k = record {
  a = a;
  b = b;
  c = at k Colon ∷ [];
  m = m;
  state = h;
  condition = p;
  before = before.colon d.format k;
  is = simp append_assoc;
}

transition_kept : (o : OpenTransition) (ws : List Word) → AfterTarget o ws → (k : ℕ) → IsOpenState (close_transition o) (ws ++ at k Semicolon ∷ [])
transition_kept _ _ (before.target n m d g x a b h p) k =
    transition_closed (record { state = d; line = n; guard = g; target = x; assignments = [] }) k m a b [] (a ++ (b ++ at m (Name x) ∷ [])) h p
    (grammar.no_effects d.format) refl

emit_kept : (n : ℕ) (o : OpenTransition) (ws : List Word) → IsOpenTransition o ws → (f : Format) → o.state.format ≡ f
    → IfSome (in_format_two f (at_port o)) (λ m. Reached m (ws ++ at n Emit ∷ []))
emit_kept n o ws h One v = tt
emit_kept n o ws h Two v = (n, v, record { a = ws; b = at n Emit ∷ []; front = h; back = refl; is = refl })

number_said : (v : ℤ) (f : Format) → format_of v ≡ Some f → v ≡ format_number f
number_said (pos (suc zero)) One e = refl
number_said (pos (suc zero)) Two e = absurd cc
number_said (pos (suc (suc zero))) One e = absurd cc
number_said (pos (suc (suc zero))) Two e = refl
number_said _ f e = absurd cc

format_keeps : (n : ℕ) (v : ℤ) (o : Option Format) → format_of v ≡ o → (ws : List Word) (i : ℕ) → ws ≡ at i Fsmd ∷ []
    → IfSome (step_format o) (λ m. Reached m (ws ++ at n (Number v) ∷ []))
format_keeps n v None g ws i e = tt
format_keeps n v (Some f) g ws i e =
    (i, n, ap (λ (l : List Word). l ++ at n (Number v) ∷ []) e ∙ ap (λ (v : ℤ). at i Fsmd ∷ at n (Number v) ∷ []) (number_said v f g))

-- A step goes from what was read to what was read.
pub keeps : (s : ParseState) (n : ℕ) (t : TokenKind) (ws : List Word) → Reached s ws → IfSome (step s n t) (λ m. Reached m (ws ++ at n t ∷ []))
keeps at_start n Fsmd ws e = (n, ap (λ (l : List Word). l ++ at n Fsmd ∷ []) e)
keeps at_start n _ ws e = tt
keeps at_format n (Number v) ws h = format_keeps n v (format_of v) refl ws h.0 h.1
keeps at_format n _ ws h = tt
keeps (at_semicolon f) n Semicolon ws h = record {
  i = h.0;
  j = h.1;
  k = n;
  a = [];
  declarations = grammar.no_declarations f;
  is = ap (λ (l : List Word). l ++ at n Semicolon ∷ []) h.2;
}
keeps (at_semicolon f) n _ ws h = tt
keeps (at_declaration f ds) n (Declare r) ws h = record { a = ws; b = at n (Declare r) ∷ []; front = h; back = refl; is = refl }
keeps (at_declaration f ds) n Port ws h = port_kept f n ds ws h
keeps (at_declaration f ds) n Reset ws h = record { a = ws; b = at n Reset ∷ []; front = h; back = refl; is = refl }
keeps (at_declaration f ds) n _ ws h = tt
keeps (at_sort f ds m r) n Array ws h = array_kept f m n r ds ws h
keeps (at_sort f ds m r) n (Name x) ws h = scalar_kept f m n r x ds ws h
keeps (at_sort f ds m r) n _ ws h = tt
keeps (at_declared f ds d) n (Name x) ws h = name_kept f n x ds d ws h
keeps (at_declared f ds d) n _ ws h = tt
keeps (after_declared f ds d) n Comma ws h = comma_kept f n ds d ws h
keeps (after_declared f ds d) n Semicolon ws h = declaration_kept f n ds d ws h
keeps (after_declared f ds d) n _ ws h = tt
keeps (at_reset f ds m) n (Name x) ws h = reset_kept f m n x ds ws h
keeps (at_reset f ds m) n _ ws h = tt
keeps (after_reset f s) n Semicolon ws h = file_kept f s ws h n
keeps (after_reset f s) n _ ws h = tt
keeps (at_state f s) n State ws h = record { a = ws; b = at n State ∷ []; front = h; back = refl; is = refl }
keeps (at_state f s) n _ ws h = tt
keeps (at_state_name f s m) n (Name x) ws h = state_kept f s m n x ws h
keeps (at_state_name f s m) n _ ws h = tt
keeps (after_state_name d) n Colon ws h = open_state_kept d ws h n
keeps (after_state_name d) n _ ws h = tt
keeps (at_transition d) n t ws h = transition_keeps n t d ws h
keeps (at_target d m g) n (Name x) ws h = target_kept n d m g x ws h
keeps (at_target d m g) n _ ws h = tt
keeps (after_target o) n Colon ws h = colon_kept o ws h n
keeps (after_target o) n Semicolon ws h = transition_kept o ws h n
keeps (after_target o) n _ ws h = tt
keeps (at_assignment o) n (Name x) ws h = (n, record { a = ws; b = at n (Name x) ∷ []; front = h; back = refl; is = refl })
keeps (at_assignment o) n Emit ws h = emit_kept n o ws h o.state.format refl
keeps (at_assignment o) n _ ws h = tt
keeps (at_port o) n (Name x) ws h =
    subst (λ (l : List Word). BeforeFactor (first_factor (first_product (value o (port x)))) l) (sym (snoc_cut (at h.0 Emit ∷ []) ws (at n (Name x)) h.2))
    (sum_at (value o (port x)) (h.2.a ++ (at h.0 Emit ∷ at n (Name x) ∷ [])) (before.emitted h.0 n o x h.2.a h.1 h.2.front))
keeps (at_port o) n _ ws h = tt
keeps (after_assignment_name o x) n Equals ws h =
    subst (λ (l : List Word). BeforeFactor (first_factor (first_product (value o (scalar x)))) l) (sym (snoc_cut (at h.0 (Name x) ∷ []) ws (at n Equals) h.1))
    (sum_at (value o (scalar x)) (h.1.a ++ (at h.0 (Name x) ∷ at n Equals ∷ []))
    (before.value n o (scalar x) h.1.a (at h.0 (Name x) ∷ []) h.1.front (grammar.scalar_name h.0 x)))
keeps (after_assignment_name o x) n OpenBracket ws h =
    subst (λ (l : List Word). BeforeFactor (first_factor (first_product (write_index o x))) l) (sym (snoc_cut (at h.0 (Name x) ∷ []) ws (at n OpenBracket) h.1))
    (sum_at (write_index o x) (h.1.a ++ (at h.0 (Name x) ∷ at n OpenBracket ∷ [])) (before.write_index h.0 n o x h.1.a h.1.front))
keeps (after_assignment_name o x) n _ ws h = tt
keeps (at_equals o d) n Equals ws h =
    subst (λ (l : List Word). BeforeFactor (first_factor (first_product (value o d))) l) (sym (snoc ws h.a h.b (at n Equals) h.is))
    (sum_at (value o d) (h.a ++ (h.b ++ at n Equals ∷ [])) (before.value n o d h.a h.b h.front h.back))
keeps (at_equals o d) n _ ws h = tt
keeps (at_unit k) n t ws h = unit_keeps n t k ws h
keeps (after_conjunction c k) n t ws h = conjunction_keeps n t k h.a h.front c h.b h.back ws h.is
keeps (after_guard g k) n t ws h = guard_keeps n t k h.a h.front g h.b h.back ws h.is
keeps (at_factor k) n t ws h = factor_keeps n t k ws h
keeps (after_name x k) n t ws h = name_keeps n t k h.0 x h.1.a h.1.front ws (h.1.is ∙ ap (λ (l : List Word). h.1.a ++ l) h.1.back)
keeps (after_product p k) n t ws h = product_keeps n t k h.a h.front p h.b h.back ws h.is
keeps (after_sum s k) n t ws h = sum_keeps n t k h.a h.front s h.b h.back ws h.is

-- ---- many words

stepped : (o : Option ParseState) (w : Word) (ws done : List Word) (r : ParseState)
    → ((s : ParseState) (d : List Word) → Reached s d → walk ws s ≡ Some r → Reached r (d ++ ws))
    → IfSome o (λ m. Reached m (done ++ w ∷ [])) → and_then o (walk ws) ≡ Some r → Reached r (done ++ (w ∷ ws))
stepped None w ws done r go h e = absurd cc
stepped (Some m) w ws done r go h e = subst (λ (l : List Word). Reached r l) (append_assoc done (w ∷ []) ws) (go m (done ++ w ∷ []) h e)

pub reached : (ws : List Word) (r s : ParseState) (done : List Word) → Reached s done → walk ws s ≡ Some r → Reached r (done ++ ws)
reached [] r s done h e =
    let same : s ≡ r = cc in
    subst (λ (m : ParseState). Reached m (done ++ [])) same (subst (λ (l : List Word). Reached s l) (sym (append-nil done)) h)
reached (at n t ∷ ws) r s done h e = stepped (step s n t) (at n t) ws done r (λ m d. reached ws r m d) (keeps s n t done h) e

finished : (s : ParseState) (ws : List Word) → Reached s ws → IfSome (finish_source s) (λ r. (f : Format) × IsFile f r ws)
finished (at_state f s) ws h = (f, h)
finished (at_transition d) ws h = (d.format, open_state_file d ws h)
finished _ ws h = tt

of_end : (o : Option Source) (ws : List Word) (s : Source) → IfSome o (λ r. (f : Format) × IsFile f r ws) → o ≡ Some s → (f : Format) × IsFile f s ws
of_end None ws s h e = absurd cc
of_end (Some r) ws s h e =
    let same : r ≡ s = cc in
    (h.0, subst (λ (t : Source). IsFile h.0 t ws) same h.1)

ended : (o : Option ParseState) (ws : List Word) (s : Source) → ((n : ParseState) → o ≡ Some n → Reached n ws) → and_then o finish_source ≡ Some s
    → (f : Format) × IsFile f s ws
ended None ws s h e = absurd cc
ended (Some n) ws s h e = of_end (finish_source n) ws s (finished n ws (h n refl)) e

-- What leads to a source spells it.
pub sound : (s : Source) (ws : List Word) → source_at ws ≡ Some s → (f : Format) × IsFile f s ws
sound s ws e = ended (walk ws at_start) ws s (λ n w. reached ws n at_start [] refl w) e
