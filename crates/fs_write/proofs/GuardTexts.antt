-- The text of a guard reads as the guard.
use Rattle.std.proofs.Common.{◌≡◌, ℕ, suc, ◌+◌, ◌≤◌, Bool, true, false, ◌||◌, List, [], ◌∷◌, ◌++◌, Some, Result, codes, refl, append-nil, append_assoc}
use Rattle.std.proofs.Common.{zero-add, arith}
use Rattle.std.proofs.lemmas.Bool.{and_parts, or_parts}
use Rattle.fs_model.specs.Expressions.{Literal, Guard, Test, Not, And, Or}
use Rattle.fs_model.specs.Source.{Source}
use Rattle.fs_model.specs.WellFormed.{is_and, is_or, bracket, operators_of_expression, operators_of_guard, is_natural_expression, is_natural_guard}
use Rattle.fs_grammar.specs.declared.fault.TextFault.{TextFault}
use Rattle.fs_grammar.specs.declared.token.TokenKind.{TokenKind}
use Rattle.fs_grammar.specs.declared.token.TokenKind.TheVariants as tokens
use Rattle.fs_grammar.specs.PartEnds.{IsNoSum, IsNoProduct, IsNoIndex, IsNoAnd}
use Rattle.fs_grammar.specs.Grammar.{UnitContext, negates, first_of_all, and_after, ConjunctionContext, first_of_any, or_after, GuardContext, braces, left}
use Rattle.fs_grammar.specs.Grammar.{right, at_unit, at_guard, at_sum, after_conjunction, after_guard, after_sum, unit_done}
use Rattle.fs_write.specs.Canonical.{in_braces, relation_text, infix_expression_text, guard_text}
use Rattle.fs_write.specs.Spellable.{is_spellable_expression, is_spellable_guard}
use Rattle.fs_write.proofs.Steps.{Reads, Follows, joined}
use Rattle.fs_write.proofs.Ends.{unit_begins, literal_ends, conjunction_ends}
use Rattle.fs_write.proofs.Words.{opens, opens_append}
use Rattle.fs_write.proofs.Punctuation.{open_brace_lexeme, close_brace_lexeme, bang_lexeme, punctuation_reads, mark_reads, punctuation_follows, double_reads}
use Rattle.fs_write.proofs.Punctuation.{relation_reads, relation_follows}
use Rattle.fs_write.proofs.ExpressionTexts.{ExpressionReads, expression_reads, expression_opens}

-- a token with which no part of a literal goes on
pub record EndsLiteral (u : TokenKind) : Type 0 where
  pub index : IsNoIndex (Some u)
  pub product : IsNoProduct (Some u)
  pub sum : IsNoSum (Some u)

-- a text with so many operators reads as a unit
pub record AsUnit (w : List ℕ) (operator_count : ℕ) (g : Guard (List ℕ)) : Type 0 where
  pub reads : (line remains free : ℕ) (rest : List ℕ) (u : TokenKind) (k : UnitContext) (r : Result Source TextFault) → operator_count + remains ≤ free
      → Follows rest u → EndsLiteral u → Reads line remains rest (unit_done g k) r → Reads line free (w ++ rest) (at_unit k) r

-- the same of a conjunction
pub record AsConjunction (w : List ℕ) (operator_count : ℕ) (g : Guard (List ℕ)) : Type 0 where
  pub reads : (line remains free : ℕ) (rest : List ℕ) (u : TokenKind) (k : ConjunctionContext) (r : Result Source TextFault) → operator_count + remains ≤ free
      → Follows rest u → EndsLiteral u → Reads line remains rest (after_conjunction g k) r
      → Reads line free (w ++ rest) (at_unit (first_of_all k)) r

-- the same of a guard
pub record AsGuard (w : List ℕ) (operator_count : ℕ) (g : Guard (List ℕ)) : Type 0 where
  pub reads : (line remains free : ℕ) (rest : List ℕ) (u : TokenKind) (k : GuardContext) (r : Result Source TextFault) → operator_count + remains ≤ free
      → Follows rest u → EndsLiteral u → IsNoAnd (Some u) → Reads line remains rest (after_guard g k) r
      → Reads line free (w ++ rest) (at_guard k) r

-- the text of a guard reads as a guard, and as a conjunction or a unit where it is one
pub record GuardReads (g : Guard (List ℕ)) : Type 0 where
  pub unit : is_and g ≡ false → is_or g ≡ false → AsUnit (guard_text g) (operators_of_guard g) g
  pub conjunction : is_or g ≡ false → AsConjunction (guard_text g) (operators_of_guard g) g
  pub guard : AsGuard (guard_text g) (operators_of_guard g) g

of_unit : {w : List ℕ} {operator_count : ℕ} {g : Guard (List ℕ)} → AsUnit w operator_count g → AsConjunction w operator_count g
of_unit a = record { reads = λ line remains free rest u k r h f e d. a.reads line remains free rest u (first_of_all k) r h f e d }

of_conjunction : {w : List ℕ} {operator_count : ℕ} {g : Guard (List ℕ)} → AsConjunction w operator_count g → AsGuard w operator_count g
of_conjunction {w} {operator_count} {g} a = record {
  reads = λ line remains free rest u k r h f e p d. a.reads line remains free rest u (first_of_any k) r h f e (conjunction_ends u g (first_of_any k) f p d);
}

unit_guard : (g : Guard (List ℕ)) → AsUnit (guard_text g) (operators_of_guard g) g → GuardReads g
unit_guard g a = record { unit = λ e f. a; conjunction = λ e. of_unit a; guard = of_conjunction (of_unit a) }

and_guard : (g : Guard (List ℕ)) → is_and g ≡ true → AsConjunction (guard_text g) (operators_of_guard g) g → GuardReads g
and_guard g h a = record { unit = λ e f. absurd cc; conjunction = λ e. a; guard = of_conjunction a }

or_guard : (g : Guard (List ℕ)) → is_or g ≡ true → AsGuard (guard_text g) (operators_of_guard g) g → GuardReads g
or_guard g h a = record { unit = λ e f. absurd cc; conjunction = λ e. absurd cc; guard = a }

-- ---- braces

-- a guard in braces is a unit
braced : (g : Guard (List ℕ)) (w : List ℕ) (operator_count : ℕ) → AsGuard w operator_count g → AsUnit (in_braces true w) (1 + operator_count) g
braced g w operator_count a = record {
  reads = λ line remains free rest u k r h f e d.
      let close : Reads line remains (125 ∷ rest) (after_guard g (braces k)) r =
      mark_reads 125 rest tokens.CloseBrace (after_guard g (braces k)) (unit_done g k) (close_brace_lexeme rest) refl refl refl refl refl d in
      let inside : Reads line (operator_count + remains) (w ++ (125 ∷ rest)) (at_guard (braces k)) r =
      a.reads line remains (operator_count + remains) (125 ∷ rest) tokens.CloseBrace (braces k) r (omega arith)
      (punctuation_follows 125 rest tokens.CloseBrace (close_brace_lexeme rest) refl) (record { index = tt; product = tt; sum = tt }) tt close
      in
      punctuation_reads 123 ((w ++ codes "}") ++ rest) tokens.OpenBrace (at_unit k) (at_guard (braces k))
      (open_brace_lexeme _) refl refl refl refl refl (omega arith) (joined w (codes "}") rest inside);
}

as_unit : (g : Guard (List ℕ)) (needed : Bool) → GuardReads g → (needed ≡ false → (is_and g ≡ false) × (is_or g ≡ false))
    → AsUnit (in_braces needed (guard_text g)) (bracket needed + operators_of_guard g) g
as_unit g true a h = braced g (guard_text g) (operators_of_guard g) a.guard
as_unit g false a h = rw (append-nil (guard_text g), zero-add (operators_of_guard g)) (a.unit (h refl).0 (h refl).1)

as_conjunction : (g : Guard (List ℕ)) (needed : Bool) → GuardReads g → (needed ≡ false → is_or g ≡ false)
    → AsConjunction (in_braces needed (guard_text g)) (bracket needed + operators_of_guard g) g
as_conjunction g true a h = of_unit (braced g (guard_text g) (operators_of_guard g) a.guard)
as_conjunction g false a h = rw (append-nil (guard_text g), zero-add (operators_of_guard g)) (a.conjunction (h refl))

unit_operand : (g : Guard (List ℕ)) → GuardReads g
    → AsUnit (in_braces (is_and g || is_or g) (guard_text g)) (bracket (is_and g || is_or g) + operators_of_guard g) g
unit_operand g a = as_unit g (is_and g || is_or g) a (or_parts (is_and g) (is_or g))

conjunction_operand : (g : Guard (List ℕ)) → GuardReads g → AsConjunction (in_braces (is_or g) (guard_text g)) (bracket (is_or g) + operators_of_guard g) g
conjunction_operand g a = as_conjunction g (is_or g) a (λ e. e)

-- ---- what a guard is made of

test_reads : (l : Literal (List ℕ)) → ExpressionReads l.left → ExpressionReads l.right → GuardReads (Test l)
test_reads l x y = unit_guard (Test l) (record {
  reads = λ line remains free rest u k r h f e d.
      let b = operators_of_expression l.right in
      let last : Reads line remains rest (after_sum l.right (right l.relation l.left k)) r = literal_ends u l.relation l.left l.right k f e.sum d in
      let after : Reads line (b + remains) (infix_expression_text l.right ++ rest) (at_sum (right l.relation l.left k)) r =
      y.sum.reads line remains (b + remains) rest u (at_sum (right l.relation l.left k))
      (right l.relation l.left k) r (omega arith) f e.index e.product (λ n v q. refl) last
      in
      let crossed : Reads line (suc (b + remains)) (relation_text l.relation ++ (infix_expression_text l.right ++ rest)) (after_sum l.left (left k)) r =
      relation_reads l.relation (infix_expression_text l.right ++ rest) (after_sum l.left (left k)) (at_sum (right l.relation l.left k)) refl (omega arith)
      after
      in
      joined (infix_expression_text l.left) (relation_text l.relation ++ infix_expression_text l.right) rest
      (rw (append_assoc (relation_text l.relation) (infix_expression_text l.right) rest)
      (x.sum.reads line (suc (b + remains)) free (relation_text l.relation ++ (infix_expression_text l.right ++ rest)) (tokens.Relation l.relation) (at_unit k)
      (left k) r (omega arith) (relation_follows l.relation (infix_expression_text l.right ++ rest)) tt tt (unit_begins k) crossed));
})

not_reads : (g : Guard (List ℕ)) → GuardReads g → opens (in_braces (is_and g || is_or g) (guard_text g)) ≡ true → GuardReads (Not g)
not_reads g a o = unit_guard (Not g) (record {
  reads = λ line remains free rest u k r h f e d.
      let w = in_braces (is_and g || is_or g) (guard_text g) in
      let operator_count = bracket (is_and g || is_or g) + operators_of_guard g in
      let after : Reads line (operator_count + remains) (w ++ rest) (at_unit (negates k)) r =
      (unit_operand g a).reads line remains (operator_count + remains) rest u (negates k) r (omega arith) f e d in
      punctuation_reads 33 (w ++ rest) tokens.Bang (at_unit k) (at_unit (negates k))
      (bang_lexeme (w ++ rest) (opens_append w rest o)) refl refl refl refl refl (omega arith) after;
})

and_reads : (a b : Guard (List ℕ)) → GuardReads a → GuardReads b → GuardReads (And a b)
and_reads a b x y = and_guard (And a b) refl (record {
  reads = λ line remains free rest u k r h f e d.
      let v = in_braces (is_or a) (guard_text a) in
      let w = in_braces (is_and b || is_or b) (guard_text b) in
      let operator_count = bracket (is_and b || is_or b) + operators_of_guard b in
      let after : Reads line (operator_count + remains) (w ++ rest) (at_unit (and_after a k)) r =
      (unit_operand b y).reads line remains (operator_count + remains) rest u (and_after a k) r (omega arith) f e d in
      let crossed : Reads line (suc (operator_count + remains)) (codes " && " ++ (w ++ rest)) (after_conjunction a k) r =
      double_reads 38 38 (w ++ rest) tokens.AndAnd (after_conjunction a k) (at_unit (and_after a k)) refl refl refl refl refl refl refl (omega arith) after
      in
      joined v (codes " && " ++ w) rest
      ((conjunction_operand a x).reads line (suc (operator_count + remains)) free (codes " && " ++ (w ++ rest)) tokens.AndAnd k r (omega arith)
      (record { first = λ p n. refl; stops = refl }) (record { index = tt; product = tt; sum = tt }) crossed);
})

or_reads : (a b : Guard (List ℕ)) → GuardReads a → GuardReads b → GuardReads (Or a b)
or_reads a b x y = or_guard (Or a b) refl (record {
  reads = λ line remains free rest u k r h f e p d.
      let w = in_braces (is_or b) (guard_text b) in
      let operator_count = bracket (is_or b) + operators_of_guard b in
      let last : Reads line remains rest (after_conjunction b (or_after a k)) r = conjunction_ends u b (or_after a k) f p d in
      let after : Reads line (operator_count + remains) (w ++ rest) (at_unit (first_of_all (or_after a k))) r =
      (conjunction_operand b y).reads line remains (operator_count + remains) rest u (or_after a k) r (omega arith) f e last in
      let crossed : Reads line (suc (operator_count + remains)) (codes " || " ++ (w ++ rest)) (after_guard a k) r =
      double_reads 124 124 (w ++ rest) tokens.OrOr (after_guard a k) (at_unit (first_of_all (or_after a k))) refl refl refl refl refl refl refl
      (omega arith) after
      in
      joined (guard_text a) (codes " || " ++ w) rest
      (x.guard.reads line (suc (operator_count + remains)) free (codes " || " ++ (w ++ rest)) tokens.OrOr k r (omega arith)
      (record { first = λ p n. refl; stops = refl }) (record { index = tt; product = tt; sum = tt }) tt crossed);
})

-- ---- first bytes

braces_open : (needed : Bool) (w : List ℕ) → opens w ≡ true → opens (in_braces needed w) ≡ true
braces_open true w h = refl
braces_open false w h = opens_append w [] h

guard_opens : (g : Guard (List ℕ)) → is_natural_guard g ≡ true → is_spellable_guard g ≡ true → opens (guard_text g) ≡ true
guard_opens (Test l) h s = opens_append (infix_expression_text l.left) _
    (expression_opens l.left (and_parts (is_natural_expression l.left) (is_natural_expression l.right) h).0
    (and_parts (is_spellable_expression l.left) (is_spellable_expression l.right) s).0)
guard_opens (Not g) h s = refl
guard_opens (And a b) h s = opens_append (in_braces (is_or a) (guard_text a)) _
    (braces_open (is_or a) (guard_text a)
    (guard_opens a (and_parts (is_natural_guard a) (is_natural_guard b) h).0 (and_parts (is_spellable_guard a) (is_spellable_guard b) s).0))
guard_opens (Or a b) h s = opens_append (guard_text a) _
    (guard_opens a (and_parts (is_natural_guard a) (is_natural_guard b) h).0 (and_parts (is_spellable_guard a) (is_spellable_guard b) s).0)

-- each guard's text reads as the guard
pub guard_reads : (g : Guard (List ℕ)) → is_natural_guard g ≡ true → is_spellable_guard g ≡ true → GuardReads g
guard_reads (Test l) h s =
    let n = and_parts (is_natural_expression l.left) (is_natural_expression l.right) h in
    let e = and_parts (is_spellable_expression l.left) (is_spellable_expression l.right) s in
    test_reads l (expression_reads l.left n.0 e.0) (expression_reads l.right n.1 e.1)
guard_reads (Not g) h s = not_reads g (guard_reads g h s) (braces_open (is_and g || is_or g) (guard_text g) (guard_opens g h s))
guard_reads (And a b) h s = let n = and_parts (is_natural_guard a) (is_natural_guard b) h in
    let e = and_parts (is_spellable_guard a) (is_spellable_guard b) s in and_reads a b (guard_reads a n.0 e.0) (guard_reads b n.1 e.1)
guard_reads (Or a b) h s = let n = and_parts (is_natural_guard a) (is_natural_guard b) h in let e = and_parts (is_spellable_guard a) (is_spellable_guard b) s in
    or_reads a b (guard_reads a n.0 e.0) (guard_reads b n.1 e.1)
