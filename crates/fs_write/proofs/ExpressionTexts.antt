-- The text of an expression reads as the expression.
use Rattle.std.proofs.Common.{◌≡◌, ℕ, suc, ◌+◌, ◌<◌, ◌≤◌, ◌^◌, Bool, true, false, not, ◌||◌, List, [], ◌∷◌, ◌++◌, Some, Result, ℤ, pos, negsuc, int_lt, codes}
use Rattle.std.proofs.Common.{refl, append-nil, append_assoc, zero-add, decimal, arith}
use Rattle.std.proofs.lemmas.Bool.Decides.{nat_tests}
use Rattle.std.specs.Fmt.{signed_decimal}
use Rattle.std.proofs.lemmas.Bool.{and_parts, or_parts}
use Rattle.fs_model.specs.Words.{is_name}
use Rattle.fs_model.specs.Expressions.{Expression, Number, Variable, Read, Sum, Difference, Product, Quotient, Remainder, Negative}
use Rattle.fs_model.specs.Source.{Source}
use Rattle.fs_model.specs.WellFormed.{is_sum, is_product, bracket, operators_of_expression, is_natural_expression}
use Rattle.fs_grammar.specs.declared.fault.TextFault.{TextFault}
use Rattle.fs_grammar.specs.declared.token.TokenKind.{TokenKind}
use Rattle.fs_grammar.specs.declared.token.TokenKind.TheVariants as tokens
use Rattle.fs_grammar.specs.PartEnds.{IsNoProduct, IsNoIndex}
use Rattle.fs_grammar.specs.Grammar.{FactorContext, first_factor, times, divides, remainder_of, negative, ProductContext, first_product, plus, minus}
use Rattle.fs_grammar.specs.Grammar.{SumContext, parens, index, ParseState, at_factor, at_sum, after_name, after_product, after_sum, factor_done, product_done}
use Rattle.fs_write.specs.Canonical.{in_parens, infix_expression_text}
use Rattle.fs_write.specs.Spellable.{is_spellable_expression}
use Rattle.fs_write.proofs.Steps.{Reads, Follows, joined, weaker}
use Rattle.fs_write.proofs.Ends.{BeginsFactor, name_ends, product_ends}
use Rattle.fs_write.proofs.Words.{name_reads, number_reads, opens, opens_append, name_opens, number_opens}
use Rattle.fs_write.proofs.Punctuation.{open_paren_lexeme, close_paren_lexeme, open_bracket_lexeme, close_bracket_lexeme, minus_lexeme, punctuation_reads}
use Rattle.fs_write.proofs.Punctuation.{mark_reads, punctuation_follows, spaced_reads}

-- a text with so many operators reads as a factor, from wherever a factor may begin
pub record AsFactor (w : List ℕ) (operator_count : ℕ) (t : Expression (List ℕ)) : Type 0 where
  pub reads : (line remains free : ℕ) (rest : List ℕ) (u : TokenKind) (s : ParseState) (k : FactorContext) (r : Result Source TextFault)
      → operator_count + remains ≤ free → Follows rest u → IsNoIndex (Some u) → BeginsFactor s k
      → Reads line remains rest (factor_done t k) r → Reads line free (w ++ rest) s r

-- the same of a product
pub record AsProduct (w : List ℕ) (operator_count : ℕ) (t : Expression (List ℕ)) : Type 0 where
  pub reads : (line remains free : ℕ) (rest : List ℕ) (u : TokenKind) (s : ParseState) (k : ProductContext) (r : Result Source TextFault)
      → operator_count + remains ≤ free → Follows rest u → IsNoIndex (Some u) → BeginsFactor s (first_factor k)
      → Reads line remains rest (after_product t k) r → Reads line free (w ++ rest) s r

-- the same of a sum
pub record AsSum (w : List ℕ) (operator_count : ℕ) (t : Expression (List ℕ)) : Type 0 where
  pub reads : (line remains free : ℕ) (rest : List ℕ) (u : TokenKind) (s : ParseState) (k : SumContext) (r : Result Source TextFault)
      → operator_count + remains ≤ free → Follows rest u → IsNoIndex (Some u) → IsNoProduct (Some u) → BeginsFactor s (first_factor (first_product k))
      → Reads line remains rest (after_sum t k) r → Reads line free (w ++ rest) s r

-- the text of an expression reads as a sum, and as a product or a factor where it is one
pub record ExpressionReads (t : Expression (List ℕ)) : Type 0 where
  pub factor : is_sum t ≡ false → is_product t ≡ false → AsFactor (infix_expression_text t) (operators_of_expression t) t
  pub product : is_sum t ≡ false → AsProduct (infix_expression_text t) (operators_of_expression t) t
  pub sum : AsSum (infix_expression_text t) (operators_of_expression t) t

of_factor : {w : List ℕ} {operator_count : ℕ} {t : Expression (List ℕ)} → AsFactor w operator_count t → AsProduct w operator_count t
of_factor a = record { reads = λ line remains free rest u s k r h f i b d. a.reads line remains free rest u s (first_factor k) r h f i b d }

of_product : {w : List ℕ} {operator_count : ℕ} {t : Expression (List ℕ)} → AsProduct w operator_count t → AsSum w operator_count t
of_product {w} {operator_count} {t} a = record {
  reads = λ line remains free rest u s k r h f i p b d. a.reads line remains free rest u s (first_product k) r h f i b
      (product_ends u t (first_product k) f p d);
}

factor_expression : (t : Expression (List ℕ)) → AsFactor (infix_expression_text t) (operators_of_expression t) t → ExpressionReads t
factor_expression t a = record { factor = λ e f. a; product = λ e. of_factor a; sum = of_product (of_factor a) }

product_expression : (t : Expression (List ℕ)) → is_product t ≡ true → AsProduct (infix_expression_text t) (operators_of_expression t) t → ExpressionReads t
product_expression t h a = record { factor = λ e f. absurd cc; product = λ e. a; sum = of_product a }

sum_expression : (t : Expression (List ℕ)) → is_sum t ≡ true → AsSum (infix_expression_text t) (operators_of_expression t) t → ExpressionReads t
sum_expression t h a = record { factor = λ e f. absurd cc; product = λ e. absurd cc; sum = a }

-- ---- parentheses

-- a sum in parentheses is a factor
grouped : (t : Expression (List ℕ)) (w : List ℕ) (operator_count : ℕ) → AsSum w operator_count t → AsFactor (in_parens true w) (1 + operator_count) t
grouped t w operator_count a = record {
  reads = λ line remains free rest u s k r h f i b d.
      let close : Reads line remains (41 ∷ rest) (after_sum t (parens k)) r =
      mark_reads 41 rest tokens.CloseParen (after_sum t (parens k)) (factor_done t k) (close_paren_lexeme rest) refl refl refl refl refl d in
      let inside : Reads line (operator_count + remains) (w ++ (41 ∷ rest)) (at_sum (parens k)) r =
      a.reads line remains (operator_count + remains) (41 ∷ rest) tokens.CloseParen (at_sum (parens k)) (parens k) r (omega arith)
      (punctuation_follows 41 rest tokens.CloseParen (close_paren_lexeme rest) refl) tt tt (λ n v g. refl) close
      in
      punctuation_reads 40 ((w ++ codes ")") ++ rest) tokens.OpenParen s (at_sum (parens k))
      (open_paren_lexeme _) refl refl refl refl (b line tokens.OpenParen tt) (omega arith) (joined w (codes ")") rest inside);
}

as_factor : (t : Expression (List ℕ)) (needed : Bool) → ExpressionReads t → (needed ≡ false → (is_sum t ≡ false) × (is_product t ≡ false))
    → AsFactor (in_parens needed (infix_expression_text t)) (bracket needed + operators_of_expression t) t
as_factor t true a h = grouped t (infix_expression_text t) (operators_of_expression t) a.sum
as_factor t false a h = rw (append-nil (infix_expression_text t), zero-add (operators_of_expression t)) (a.factor (h refl).0 (h refl).1)

as_product : (t : Expression (List ℕ)) (needed : Bool) → ExpressionReads t → (needed ≡ false → is_sum t ≡ false)
    → AsProduct (in_parens needed (infix_expression_text t)) (bracket needed + operators_of_expression t) t
as_product t true a h = of_factor (grouped t (infix_expression_text t) (operators_of_expression t) a.sum)
as_product t false a h = rw (append-nil (infix_expression_text t), zero-add (operators_of_expression t)) (a.product (h refl))

-- ---- operands

-- an operand of a sum on the right, or of a product on the left
product_operand : (t : Expression (List ℕ)) → ExpressionReads t
    → AsProduct (in_parens (is_sum t) (infix_expression_text t)) (bracket (is_sum t) + operators_of_expression t) t
product_operand t a = as_product t (is_sum t) a (λ e. e)

factor_operand : (t : Expression (List ℕ)) → ExpressionReads t
    → AsFactor (in_parens (is_sum t || is_product t) (infix_expression_text t)) (bracket (is_sum t || is_product t) + operators_of_expression t) t
factor_operand t a = as_factor t (is_sum t || is_product t) a (or_parts (is_sum t) (is_product t))

-- from a sum over an operator to the product after it
abbrev Adds : List ℕ → TokenKind → (SumContext → Expression (List ℕ) → ProductContext) → Type 0
Adds op w through = (line remains free : ℕ) (rest : List ℕ) (a : Expression (List ℕ)) (k : SumContext) (r : Result Source TextFault) → remains < free
    → Reads line remains rest (at_factor (first_factor (through k a))) r → Reads line free (op ++ rest) (after_sum a k) r

sum_of : (a b t : Expression (List ℕ)) (op : List ℕ) (w : TokenKind) (through : SumContext → Expression (List ℕ) → ProductContext) → ExpressionReads a
    → ExpressionReads b
    → Adds op w through → ((rest : List ℕ) → Follows (op ++ rest) w) → IsNoIndex (Some w) → IsNoProduct (Some w)
    → ((k : SumContext) → product_done b (through k a) ≡ after_sum t k)
    → AsSum (infix_expression_text a ++ (op ++ in_parens (is_sum b) (infix_expression_text b)))
    (1 + (operators_of_expression a + (bracket (is_sum b) + operators_of_expression b))) t
sum_of a b t op w through x y crosses follows no_index no_product done = record {
  reads = λ line remains free rest u s k r h f i p g d.
      let right = in_parens (is_sum b) (infix_expression_text b) in
      let operator_count = bracket (is_sum b) + operators_of_expression b in
      let last : Reads line remains rest (product_done b (through k a)) r = rw (done k) d in
      let after : Reads line (operator_count + remains) (right ++ rest) (at_factor (first_factor (through k a))) r =
      (product_operand b y).reads line remains (operator_count + remains) rest u (at_factor (first_factor (through k a)))
      (through k a) r (omega arith) f i (λ n v e. refl) (product_ends u b (through k a) f p last)
      in
      let crossed : Reads line (suc (operator_count + remains)) (op ++ (right ++ rest)) (after_sum a k) r =
      crosses line (operator_count + remains) (suc (operator_count + remains)) (right ++ rest) a k r (omega arith) after in
      joined (infix_expression_text a) (op ++ right) rest
      (rw (append_assoc op right rest)
      (x.sum.reads line (suc (operator_count + remains)) free (op ++ (right ++ rest)) w s k r (omega arith)
      (follows (right ++ rest)) no_index no_product g crossed));
}

-- from a product over an operator to the factor after it
abbrev Multiplies : List ℕ → TokenKind → (ProductContext → Expression (List ℕ) → FactorContext) → Type 0
Multiplies op w through = (line remains free : ℕ) (rest : List ℕ) (a : Expression (List ℕ)) (k : ProductContext) (r : Result Source TextFault) → remains < free
    → Reads line remains rest (at_factor (through k a)) r → Reads line free (op ++ rest) (after_product a k) r

product_of : (a b t : Expression (List ℕ)) (op : List ℕ) (w : TokenKind) (through : ProductContext → Expression (List ℕ) → FactorContext) → ExpressionReads a
    → ExpressionReads b
    → Multiplies op w through → ((rest : List ℕ) → Follows (op ++ rest) w) → IsNoIndex (Some w)
    → ((k : ProductContext) → factor_done b (through k a) ≡ after_product t k)
    → AsProduct (in_parens (is_sum a) (infix_expression_text a) ++ (op ++ in_parens (is_sum b || is_product b) (infix_expression_text b)))
    (1 + ((bracket (is_sum a) + operators_of_expression a) + (bracket (is_sum b || is_product b) + operators_of_expression b))) t
product_of a b t op w through x y crosses follows no_index done = record {
  reads = λ line remains free rest u s k r h f i g d.
      let left = in_parens (is_sum a) (infix_expression_text a) in
      let right = in_parens (is_sum b || is_product b) (infix_expression_text b) in
      let operator_count = bracket (is_sum b || is_product b) + operators_of_expression b in
      let last : Reads line remains rest (factor_done b (through k a)) r = rw (done k) d in
      let after : Reads line (operator_count + remains) (right ++ rest) (at_factor (through k a)) r =
      (factor_operand b y).reads line remains (operator_count + remains) rest u (at_factor (through k a)) (through k a) r (omega arith) f i (λ n v e. refl) last
      in
      let crossed : Reads line (suc (operator_count + remains)) (op ++ (right ++ rest)) (after_product a k) r =
      crosses line (operator_count + remains) (suc (operator_count + remains)) (right ++ rest) a k r (omega arith) after in
      joined left (op ++ right) rest
      (rw (append_assoc op right rest)
      ((product_operand a x).reads line (suc (operator_count + remains)) free (op ++ (right ++ rest)) w s k r (omega arith)
      (follows (right ++ rest)) no_index g crossed));
}

-- ---- what an expression is made of

below_limit : (m n : ℕ) → int_lt (pos m) (pos n) ≡ true → m < n
below_limit m n h = grind (arith, nat_tests)

number_expression : (n : ℤ) → not (int_lt n (pos 0)) ≡ true → int_lt n (pos (2 ^ 127)) ≡ true → ExpressionReads (Number n)
number_expression (negsuc m) h l = absurd cc
number_expression (pos m) h l =
    factor_expression (Number (pos m))
    (record {
      reads = λ line remains free rest u s k r g f i b d. weaker (decimal m ++ rest) remains free (omega arith)
          (number_reads m rest s (factor_done (Number (pos m)) k) (below_limit m (2 ^ 127) l) f.stops (b line (tokens.Number (pos m)) tt) d);
    })

variable_expression : (x : List ℕ) → is_name x ≡ true → ExpressionReads (Variable x)
variable_expression x h =
    factor_expression (Variable x)
    (record {
      reads = λ line remains free rest u s k r g f i b d. weaker (x ++ rest) remains free (omega arith)
          (name_reads x rest s (after_name x k) h f.stops (b line (tokens.Name x) tt) (name_ends u x k f i d));
    })

read_expression : (x : List ℕ) (a : Expression (List ℕ)) → is_name x ≡ true → ExpressionReads a → ExpressionReads (Read x a)
read_expression x a h e = factor_expression (Read x a) (record {
  reads = λ line remains free rest u s k r g f i b d.
      let close : Reads line remains (93 ∷ rest) (after_sum a (index x k)) r =
      mark_reads 93 rest tokens.CloseBracket (after_sum a (index x k)) (factor_done (Read x a) k) (close_bracket_lexeme rest) refl refl refl refl refl d in
      let inside : Reads line (operators_of_expression a + remains) (infix_expression_text a ++ (93 ∷ rest)) (at_sum (index x k)) r =
      e.sum.reads line remains (operators_of_expression a + remains) (93 ∷ rest) tokens.CloseBracket (at_sum (index x k)) (index x k) r (omega arith)
      (punctuation_follows 93 rest tokens.CloseBracket (close_bracket_lexeme rest) refl) tt tt (λ n v q. refl) close
      in
      let body = (infix_expression_text a ++ codes "]") ++ rest in
      let opened : Reads line free (91 ∷ body) (after_name x k) r =
      punctuation_reads 91 body tokens.OpenBracket (after_name x k) (at_sum (index x k)) (open_bracket_lexeme body) refl refl refl refl refl (omega arith)
      (joined (infix_expression_text a) (codes "]") rest inside) in
      joined x (codes "[" ++ (infix_expression_text a ++ codes "]")) rest (name_reads x (91 ∷ body) s (after_name x k) h refl (b line (tokens.Name x) tt) opened);
})

negative_expression : (a : Expression (List ℕ)) → ExpressionReads a → ExpressionReads (Negative a)
negative_expression a e = factor_expression (Negative a) (record {
  reads = λ line remains free rest u s k r g f i b d.
      let w = in_parens (is_sum a || is_product a) (infix_expression_text a) in
      let operator_count = bracket (is_sum a || is_product a) + operators_of_expression a in
      let after : Reads line (operator_count + remains) (w ++ rest) (at_factor (negative k)) r =
      (factor_operand a e).reads line remains (operator_count + remains) rest u (at_factor (negative k)) (negative k) r (omega arith) f i (λ n v q. refl) d in
      punctuation_reads 45 (w ++ rest) tokens.Minus s (at_factor (negative k)) (minus_lexeme (w ++ rest)) refl refl refl refl (b line tokens.Minus tt)
      (omega arith) after;
})

sum_reads : (a b : Expression (List ℕ)) → ExpressionReads a → ExpressionReads b → ExpressionReads (Sum a b)
sum_reads a b x y =
    sum_expression (Sum a b) refl
    (sum_of a b (Sum a b) (codes " + ") tokens.Plus (λ k s. plus s k) x y
    (λ line remains free rest s k r h d. spaced_reads 43 rest tokens.Plus (after_sum s k)
    (at_factor (first_factor (plus s k))) refl refl refl refl refl refl h d)
    (λ rest. record { first = λ p n. refl; stops = refl }) tt tt (λ k. refl))

difference_reads : (a b : Expression (List ℕ)) → ExpressionReads a → ExpressionReads b → ExpressionReads (Difference a b)
difference_reads a b x y =
    sum_expression (Difference a b) refl
    (sum_of a b (Difference a b) (codes " - ") tokens.Minus (λ k s. minus s k) x y
    (λ line remains free rest s k r h d. spaced_reads 45 rest tokens.Minus (after_sum s k)
    (at_factor (first_factor (minus s k))) refl refl refl refl refl refl h d)
    (λ rest. record { first = λ p n. refl; stops = refl }) tt tt (λ k. refl))

product_reads : (a b : Expression (List ℕ)) → ExpressionReads a → ExpressionReads b → ExpressionReads (Product a b)
product_reads a b x y =
    product_expression (Product a b) refl
    (product_of a b (Product a b) (codes " * ") tokens.Star (λ k s. times s k) x y
    (λ line remains free rest s k r h d. spaced_reads 42 rest tokens.Star (after_product s k) (at_factor (times s k)) refl refl refl refl refl refl h d)
    (λ rest. record { first = λ p n. refl; stops = refl }) tt (λ k. refl))

quotient_reads : (a b : Expression (List ℕ)) → ExpressionReads a → ExpressionReads b → ExpressionReads (Quotient a b)
quotient_reads a b x y =
    product_expression (Quotient a b) refl
    (product_of a b (Quotient a b) (codes " / ") tokens.Slash (λ k s. divides s k) x y
    (λ line remains free rest s k r h d. spaced_reads 47 rest tokens.Slash (after_product s k) (at_factor (divides s k)) refl refl refl refl refl refl h d)
    (λ rest. record { first = λ p n. refl; stops = refl }) tt (λ k. refl))

remainder_reads : (a b : Expression (List ℕ)) → ExpressionReads a → ExpressionReads b → ExpressionReads (Remainder a b)
remainder_reads a b x y =
    product_expression (Remainder a b) refl
    (product_of a b (Remainder a b) (codes " % ") tokens.Percent (λ k s. remainder_of s k) x y
    (λ line remains free rest s k r h d. spaced_reads 37 rest tokens.Percent (after_product s k)
    (at_factor (remainder_of s k)) refl refl refl refl refl refl h d)
    (λ rest. record { first = λ p n. refl; stops = refl }) tt (λ k. refl))

-- each expression's text reads as the expression
pub expression_reads : (t : Expression (List ℕ)) → is_natural_expression t ≡ true → is_spellable_expression t ≡ true → ExpressionReads t
expression_reads (Number n) h l = number_expression n h l
expression_reads (Variable x) h l = variable_expression x l
expression_reads (Read x a) h l = let e = and_parts (is_name x) (is_spellable_expression a) l in read_expression x a e.0 (expression_reads a h e.1)
expression_reads (Sum a b) h l = let n = and_parts (is_natural_expression a) (is_natural_expression b) h in let e =
    and_parts (is_spellable_expression a) (is_spellable_expression b) l in
    sum_reads a b (expression_reads a n.0 e.0) (expression_reads b n.1 e.1)
expression_reads (Difference a b) h l = let n = and_parts (is_natural_expression a) (is_natural_expression b) h in
    let e = and_parts (is_spellable_expression a) (is_spellable_expression b) l in difference_reads a b (expression_reads a n.0 e.0)
    (expression_reads b n.1 e.1)
expression_reads (Product a b) h l = let n = and_parts (is_natural_expression a) (is_natural_expression b) h in let e =
    and_parts (is_spellable_expression a) (is_spellable_expression b) l in
    product_reads a b (expression_reads a n.0 e.0) (expression_reads b n.1 e.1)
expression_reads (Quotient a b) h l = let n = and_parts (is_natural_expression a) (is_natural_expression b) h in
    let e = and_parts (is_spellable_expression a) (is_spellable_expression b) l in quotient_reads a b (expression_reads a n.0 e.0) (expression_reads b n.1 e.1)
expression_reads (Remainder a b) h l = let n = and_parts (is_natural_expression a) (is_natural_expression b) h in
    let e = and_parts (is_spellable_expression a) (is_spellable_expression b) l in remainder_reads a b (expression_reads a n.0 e.0) (expression_reads b n.1 e.1)
expression_reads (Negative a) h l = negative_expression a (expression_reads a h l)

-- ---- first bytes

parens_open : (needed : Bool) (w : List ℕ) → opens w ≡ true → opens (in_parens needed w) ≡ true
parens_open true w h = refl
parens_open false w h = opens_append w [] h

signed_opens : (n : ℤ) → not (int_lt n (pos 0)) ≡ true → int_lt n (pos (2 ^ 127)) ≡ true → opens (signed_decimal n) ≡ true
signed_opens (negsuc m) h l = absurd cc
signed_opens (pos m) h l = number_opens m (below_limit m (2 ^ 127) l)

-- no expression's text begins with =
pub expression_opens : (t : Expression (List ℕ)) → is_natural_expression t ≡ true → is_spellable_expression t ≡ true → opens (infix_expression_text t) ≡ true
expression_opens (Number n) h l = signed_opens n h l
expression_opens (Variable x) h l = name_opens x l
expression_opens (Read x a) h l = opens_append x _ (name_opens x (and_parts (is_name x) (is_spellable_expression a) l).0)
expression_opens (Sum a b) h l = opens_append (infix_expression_text a) _
    (expression_opens a (and_parts (is_natural_expression a) (is_natural_expression b) h).0
    (and_parts (is_spellable_expression a) (is_spellable_expression b) l).0)
expression_opens (Difference a b) h l = opens_append (infix_expression_text a) _
    (expression_opens a (and_parts (is_natural_expression a) (is_natural_expression b) h).0
    (and_parts (is_spellable_expression a) (is_spellable_expression b) l).0)
expression_opens (Product a b) h l = opens_append (in_parens (is_sum a) (infix_expression_text a)) _
    (parens_open (is_sum a) (infix_expression_text a)
    (expression_opens a (and_parts (is_natural_expression a) (is_natural_expression b) h).0
    (and_parts (is_spellable_expression a) (is_spellable_expression b) l).0))
expression_opens (Quotient a b) h l = opens_append (in_parens (is_sum a) (infix_expression_text a)) _
    (parens_open (is_sum a) (infix_expression_text a)
    (expression_opens a (and_parts (is_natural_expression a) (is_natural_expression b) h).0
    (and_parts (is_spellable_expression a) (is_spellable_expression b) l).0))
expression_opens (Remainder a b) h l = opens_append (in_parens (is_sum a) (infix_expression_text a)) _
    (parens_open (is_sum a) (infix_expression_text a)
    (expression_opens a (and_parts (is_natural_expression a) (is_natural_expression b) h).0
    (and_parts (is_spellable_expression a) (is_spellable_expression b) l).0))
expression_opens (Negative a) h l = refl
