-- A text without a bracket that it needs is the text of another expression, or of another guard.
use Rattle.std.proofs.Common.{◌≡◌, ℕ, ◌<◌, Bool, true, false, ◌||◌, cond, List, [], ◌++◌, length, codes, refl, sym, ap, subst, ◌∙◌, append-nil, append_assoc}
use Rattle.std.proofs.Common.{length-append, arith}
use Rattle.std.proofs.lemmas.Bool.{or_right as or_right_true}
use Rattle.fs_model.specs.Expressions.{Expression, Read, Sum, Difference, Product, Quotient, Remainder, Negative, Guard, Test, Not, And, Or}
use Rattle.fs_model.specs.WellFormed.{is_sum, is_product, is_and, is_or}
use Rattle.fs_write.specs.Canonical.{in_parens, in_braces, infix_expression_text, relation_text, guard_text}
use Rattle.fs_write.specs.Bare.{BareExpression, sum_right, difference_right, product_left, product_right, quotient_left, quotient_right, remainder_left}
use Rattle.fs_write.specs.Bare.{remainder_right, under_minus, in_index, in_sum_left, in_sum_right, in_difference_left, in_difference_right, in_product_left}
use Rattle.fs_write.specs.Bare.{in_product_right, in_quotient_left, in_quotient_right, in_remainder_left, in_remainder_right, in_negative, BareGuard, under_not}
use Rattle.fs_write.specs.Bare.{and_left, and_right, or_right, in_test_left, in_test_right, in_not, in_and_left, in_and_right, in_or_left, in_or_right}
use Rattle.fs_write.specs.Bare.{IsTextOfAnother, IsTextOfAnotherGuard}

-- ---- expressions

-- the expression whose text is that of `a + t` without parentheses, where make t is `a + t`
abbrev added : (Expression (List ℕ) → Expression (List ℕ)) → Expression (List ℕ) → Expression (List ℕ)
added make (Sum c d) = Sum (added make c) d
added make (Difference c d) = Difference (added make c) d
added make t = make t

added_text : (make : Expression (List ℕ) → Expression (List ℕ)) (before : List ℕ)
    → ((t : Expression (List ℕ)) → is_sum t ≡ false → infix_expression_text (make t) ≡ before ++ infix_expression_text t) → (t : Expression (List ℕ))
    → infix_expression_text (added make t) ≡ before ++ infix_expression_text t
added_text make before h (Sum c d) = ap (λ (w : List ℕ). w ++ (codes " + " ++ in_parens (is_sum d) (infix_expression_text d))) (added_text make before h c)
    ∙ append_assoc before (infix_expression_text c) _
added_text make before h (Difference c d) = ap (λ (w : List ℕ). w ++ (codes " - " ++ in_parens (is_sum d) (infix_expression_text d))) (added_text make before h c)
    ∙ append_assoc before (infix_expression_text c) _
added_text make before h t = h t refl

-- the expression whose text is that of `a * t` without parentheses round t, where make t is `a * t`
abbrev hung : (Expression (List ℕ) → Expression (List ℕ)) → Expression (List ℕ) → Expression (List ℕ)
hung make (Sum c d) = Sum (hung make c) d
hung make (Difference c d) = Difference (hung make c) d
hung make (Product c d) = Product (cond (is_sum c) (make c) (hung make c)) d
hung make (Quotient c d) = Quotient (cond (is_sum c) (make c) (hung make c)) d
hung make (Remainder c d) = Remainder (cond (is_sum c) (make c) (hung make c)) d
hung make t = make t

hung_no_sum : (make : Expression (List ℕ) → Expression (List ℕ)) → ((t : Expression (List ℕ)) → is_sum (make t) ≡ false) → (t : Expression (List ℕ))
    → is_sum t ≡ false
    → is_sum (hung make t) ≡ false
hung_no_sum make n (Sum c d) h = absurd cc
hung_no_sum make n (Difference c d) h = absurd cc
hung_no_sum make n (Product c d) h = refl
hung_no_sum make n (Quotient c d) h = refl
hung_no_sum make n (Remainder c d) h = refl
hung_no_sum make n t h = n t

-- the left operand of a product keeps its parentheses
kept : (before : List ℕ) (c x y : Expression (List ℕ)) (b : Bool) → is_sum c ≡ b → is_sum x ≡ false → (is_sum c ≡ false → is_sum y ≡ false)
    → infix_expression_text x ≡ before ++ in_parens (is_sum c || is_product c) (infix_expression_text c)
    → infix_expression_text y ≡ before ++ infix_expression_text c
    → in_parens (is_sum (cond b x y)) (infix_expression_text (cond b x y)) ≡ before ++ in_parens b (infix_expression_text c)
kept before c x y true e n m p q = rw n (append-nil (infix_expression_text x) ∙ p ∙ rw e refl)
kept before c x y false e n m p q = rw (m e) (append-nil (infix_expression_text y) ∙ q ∙ rw (append-nil (infix_expression_text c)) refl)

hung_text : (make : Expression (List ℕ) → Expression (List ℕ)) (before : List ℕ) → ((t : Expression (List ℕ)) → is_sum (make t) ≡ false)
    → ((t : Expression (List ℕ)) → infix_expression_text (make t) ≡ before ++ in_parens (is_sum t || is_product t) (infix_expression_text t))
    → (t : Expression (List ℕ))
    → infix_expression_text (hung make t) ≡ before ++ infix_expression_text t
hung_text make before n h (Sum c d) = ap (λ (w : List ℕ). w ++ (codes " + " ++ in_parens (is_sum d) (infix_expression_text d))) (hung_text make before n h c)
    ∙ append_assoc before (infix_expression_text c) _
hung_text make before n h (Difference c d) =
    ap (λ (w : List ℕ). w ++ (codes " - " ++ in_parens (is_sum d) (infix_expression_text d))) (hung_text make before n h c)
    ∙ append_assoc before (infix_expression_text c) _
hung_text make before n h (Product c d) =
    ap (λ (w : List ℕ). w ++ (codes " * " ++ in_parens (is_sum d || is_product d) (infix_expression_text d)))
    (kept before c (make c) (hung make c) (is_sum c) refl (n c) (hung_no_sum make n c) (h c) (hung_text make before n h c))
    ∙ append_assoc before (in_parens (is_sum c) (infix_expression_text c)) _
hung_text make before n h (Quotient c d) =
    ap (λ (w : List ℕ). w ++ (codes " / " ++ in_parens (is_sum d || is_product d) (infix_expression_text d)))
    (kept before c (make c) (hung make c) (is_sum c) refl (n c) (hung_no_sum make n c) (h c) (hung_text make before n h c))
    ∙ append_assoc before (in_parens (is_sum c) (infix_expression_text c)) _
hung_text make before n h (Remainder c d) =
    ap (λ (w : List ℕ). w ++ (codes " % " ++ in_parens (is_sum d || is_product d) (infix_expression_text d)))
    (kept before c (make c) (hung make c) (is_sum c) refl (n c) (hung_no_sum make n c) (h c) (hung_text make before n h c))
    ∙ append_assoc before (in_parens (is_sum c) (infix_expression_text c)) _
hung_text make before n h t = h t ∙ ap (λ (w : List ℕ). before ++ w) (append-nil (infix_expression_text t))

-- the text of `a * b` without parentheses round the sum a, where make d is `d * b`
split_left : (make : Expression (List ℕ) → Expression (List ℕ)) (after : List ℕ) → ((d : Expression (List ℕ)) → is_sum (make d) ≡ false)
    → ((d : Expression (List ℕ)) → infix_expression_text (make d) ≡ in_parens (is_sum d) (infix_expression_text d) ++ after) → (a : Expression (List ℕ))
    → is_sum a ≡ true
    → (u : Expression (List ℕ)) × (infix_expression_text u ≡ infix_expression_text a ++ after) × ((is_sum u || is_product u) ≡ true)
split_left make after n h (Sum c d) e = (
  Sum c (make d),
  rw n (ap (λ (w : List ℕ). infix_expression_text c ++ (codes " + " ++ w)) (append-nil (infix_expression_text (make d)) ∙ h d)
      ∙ sym (append_assoc (infix_expression_text c) (codes " + " ++ in_parens (is_sum d) (infix_expression_text d)) after)),
  refl,
)
split_left make after n h (Difference c d) e = (
  Difference c (make d),
  rw n (ap (λ (w : List ℕ). infix_expression_text c ++ (codes " - " ++ w)) (append-nil (infix_expression_text (make d)) ∙ h d)
      ∙ sym (append_assoc (infix_expression_text c) (codes " - " ++ in_parens (is_sum d) (infix_expression_text d)) after)),
  refl,
)
split_left make after n h _ e = absurd cc

-- ---- another expression with a shorter text

abbrev is_compound : Expression (List ℕ) → Bool
is_compound t = is_sum t || is_product t

-- an expression with the text w, which is shorter than that of t; a sum where t is one, and a sum or a product where t is one of these
record Other (t : Expression (List ℕ)) (w : List ℕ) : Type 0 where
  expression : Expression (List ℕ)
  same : infix_expression_text expression ≡ w
  shorter : length w < length (infix_expression_text t)
  sum : is_sum t ≡ true → is_sum expression ≡ true
  compound : is_compound t ≡ true → is_compound expression ≡ true

sum_compound : (t : Expression (List ℕ)) → is_sum t ≡ true → is_compound t ≡ true
sum_compound t e = rw e refl

right_longer : (a op w : List ℕ) (b : Bool) → b ≡ true → length (a ++ (op ++ w)) < length (a ++ (op ++ in_parens b w))
right_longer a op w true e = simp length-append (omega arith)
right_longer a op w false e = absurd cc

left_longer : (w rest : List ℕ) (b : Bool) → b ≡ true → length (w ++ rest) < length (in_parens b w ++ rest)
left_longer w rest true e = simp length-append (omega arith)
left_longer w rest false e = absurd cc

right_shorter : (a op v w : List ℕ) (b : Bool) → length v < length w → length (a ++ (op ++ in_parens b v)) < length (a ++ (op ++ in_parens b w))
right_shorter a op v w true h = simp length-append (omega arith)
right_shorter a op v w false h = simp length-append (omega arith)

left_shorter : (v w rest : List ℕ) (b : Bool) → length v < length w → length (in_parens b v ++ rest) < length (in_parens b w ++ rest)
left_shorter v w rest true h = simp length-append (omega arith)
left_shorter v w rest false h = simp length-append (omega arith)

front_shorter : (v w rest : List ℕ) → length v < length w → length (v ++ rest) < length (w ++ rest)
front_shorter v w rest h = simp length-append (omega arith)

index_shorter : (x v w : List ℕ) → length v < length w → length (x ++ (codes "[" ++ (v ++ codes "]"))) < length (x ++ (codes "[" ++ (w ++ codes "]")))
index_shorter x v w h = simp length-append (omega arith)

added_is : (make : Expression (List ℕ) → Expression (List ℕ)) (a op : List ℕ)
    → ((t : Expression (List ℕ)) → infix_expression_text (make t) ≡ a ++ (op ++ in_parens (is_sum t) (infix_expression_text t))) → (t : Expression (List ℕ))
    → infix_expression_text (added make t) ≡ a ++ (op ++ infix_expression_text t)
added_is make a op h t = added_text make (a ++ op)
    (λ v e. h v ∙ rw (e, append-nil (infix_expression_text v)) (sym (append_assoc a op (infix_expression_text v)))) t
    ∙ append_assoc a op (infix_expression_text t)

added_sum : (make : Expression (List ℕ) → Expression (List ℕ)) → ((t : Expression (List ℕ)) → is_sum (make t) ≡ true) → (t : Expression (List ℕ))
    → is_sum (added make t) ≡ true
added_sum make n (Sum c d) = refl
added_sum make n (Difference c d) = refl
added_sum make n t = n t

hung_is : (make : Expression (List ℕ) → Expression (List ℕ)) (a op : List ℕ) → ((t : Expression (List ℕ)) → is_sum (make t) ≡ false)
    → ((t : Expression (List ℕ)) → infix_expression_text (make t) ≡ a ++ (op ++ in_parens (is_compound t) (infix_expression_text t)))
    → (t : Expression (List ℕ))
    → infix_expression_text (hung make t) ≡ a ++ (op ++ infix_expression_text t)
hung_is make a op n h t = hung_text make (a ++ op) n (λ v. h v ∙ sym (append_assoc a op _)) t ∙ append_assoc a op (infix_expression_text t)

hung_compound : (make : Expression (List ℕ) → Expression (List ℕ)) → ((t : Expression (List ℕ)) → is_compound (make t) ≡ true) → (t : Expression (List ℕ))
    → is_compound (hung make t) ≡ true
hung_compound make n (Sum c d) = refl
hung_compound make n (Difference c d) = refl
hung_compound make n (Product c d) = refl
hung_compound make n (Quotient c d) = refl
hung_compound make n (Remainder c d) = refl
hung_compound make n t = n t

-- ---- an operand changes

-- on the right of a sum
in_added : (make : Expression (List ℕ) → Expression (List ℕ)) (a op : List ℕ)
    → ((t : Expression (List ℕ)) → infix_expression_text (make t) ≡ a ++ (op ++ in_parens (is_sum t) (infix_expression_text t)))
    → ((t : Expression (List ℕ)) → is_sum (make t) ≡ true)
    → (b : Expression (List ℕ)) (w : List ℕ) → Other b w → (k : Bool) → is_sum b ≡ k
    → (u : Expression (List ℕ)) × (infix_expression_text u ≡ a ++ (op ++ in_parens k w)) × (is_sum u ≡ true)
in_added make a op h n b w o true e = (make o.expression, h o.expression ∙ rw (o.sum e, o.same) refl, n o.expression)
in_added make a op h n b w o false e =
    (added make o.expression, added_is make a op h o.expression ∙ rw (o.same, append-nil w) refl, added_sum make n o.expression)

-- on the right of a product, or under a minus
in_hung : (make : Expression (List ℕ) → Expression (List ℕ)) (a op : List ℕ) → ((t : Expression (List ℕ)) → is_sum (make t) ≡ false)
    → ((t : Expression (List ℕ)) → infix_expression_text (make t) ≡ a ++ (op ++ in_parens (is_compound t) (infix_expression_text t)))
    → (b : Expression (List ℕ)) (w : List ℕ)
    → Other b w → (k : Bool) → is_compound b ≡ k
    → (u : Expression (List ℕ)) × (infix_expression_text u ≡ a ++ (op ++ in_parens k w))
    × (((t : Expression (List ℕ)) → is_compound (make t) ≡ true) → is_compound u ≡ true)
in_hung make a op n h b w o true e = (make o.expression, h o.expression ∙ rw (o.compound e, o.same) refl, λ c. c o.expression)
in_hung make a op n h b w o false e =
    (hung make o.expression, hung_is make a op n h o.expression ∙ rw (o.same, append-nil w) refl, λ c. hung_compound make c o.expression)

-- on the left of a product, where it has no parentheses
in_bare_left : (make : Expression (List ℕ) → Expression (List ℕ)) (after : List ℕ) → ((d : Expression (List ℕ)) → is_sum (make d) ≡ false)
    → ((d : Expression (List ℕ)) → is_compound (make d) ≡ true)
    → ((d : Expression (List ℕ)) → infix_expression_text (make d) ≡ in_parens (is_sum d) (infix_expression_text d) ++ after)
    → (v : Expression (List ℕ)) (k : Bool) → is_sum v ≡ k
    → (u : Expression (List ℕ)) × (infix_expression_text u ≡ infix_expression_text v ++ after) × (is_compound u ≡ true)
in_bare_left make after n c h v true e = let s = split_left make after n h v e in (s.0, s.1, s.2)
in_bare_left make after n c h v false e = (make v, h v ∙ rw (e, append-nil (infix_expression_text v)) refl, c v)

-- on the left of a product
in_left : (make : Expression (List ℕ) → Expression (List ℕ)) (after : List ℕ) → ((d : Expression (List ℕ)) → is_sum (make d) ≡ false)
    → ((d : Expression (List ℕ)) → is_compound (make d) ≡ true)
    → ((d : Expression (List ℕ)) → infix_expression_text (make d) ≡ in_parens (is_sum d) (infix_expression_text d) ++ after)
    → (a : Expression (List ℕ)) (w : List ℕ) → Other a w → (k : Bool) → is_sum a ≡ k
    → (u : Expression (List ℕ)) × (infix_expression_text u ≡ in_parens k w ++ after) × (is_compound u ≡ true)
in_left make after n c h a w o true e = (make o.expression, h o.expression ∙ rw (o.sum e, o.same) refl, c o.expression)
in_left make after n c h a w o false e = let s =
    in_bare_left make after n c h o.expression (is_sum o.expression) refl in (s.0, s.1 ∙ rw (o.same, append-nil w) refl, s.2)

-- ---- operations

-- a sum of two operands by this operator
record Adds (make : Expression (List ℕ) → Expression (List ℕ) → Expression (List ℕ)) (op : List ℕ) : Type 0 where
  text : (a b : Expression (List ℕ)) → infix_expression_text (make a b) ≡ infix_expression_text a ++ (op ++ in_parens (is_sum b) (infix_expression_text b))
  is : (a b : Expression (List ℕ)) → is_sum (make a b) ≡ true

sum_adds : Adds Sum (codes " + ")
sum_adds = record { text = λ a b. refl; is = λ a b. refl }

difference_adds : Adds Difference (codes " - ")
difference_adds = record { text = λ a b. refl; is = λ a b. refl }

adds_right : (make : Expression (List ℕ) → Expression (List ℕ) → Expression (List ℕ)) (op : List ℕ) → Adds make op → (a b : Expression (List ℕ))
    → is_sum b ≡ true
    → Other (make a b) (infix_expression_text a ++ (op ++ infix_expression_text b))
adds_right make op f a b e = record {
  expression = added (make a) b;
  same = added_is (make a) (infix_expression_text a) op (f.text a) b;
  shorter = subst (λ v. length (infix_expression_text a ++ (op ++ infix_expression_text b)) < length v) (sym (f.text a b))
      (right_longer (infix_expression_text a) op (infix_expression_text b) (is_sum b) e);
  sum = λ h. added_sum (make a) (f.is a) b;
  compound = λ h. sum_compound _ (added_sum (make a) (f.is a) b);
}

in_adds_left : (make : Expression (List ℕ) → Expression (List ℕ) → Expression (List ℕ)) (op : List ℕ) → Adds make op → (a b : Expression (List ℕ)) (w : List ℕ)
    → Other a w
    → Other (make a b) (w ++ (op ++ in_parens (is_sum b) (infix_expression_text b)))
in_adds_left make op f a b w o = record {
  expression = make o.expression b;
  same = f.text o.expression b ∙ ap (λ (v : List ℕ). v ++ (op ++ in_parens (is_sum b) (infix_expression_text b))) o.same;
  shorter = subst (λ v. length (w ++ (op ++ in_parens (is_sum b) (infix_expression_text b))) < length v) (sym (f.text a b))
      (front_shorter w (infix_expression_text a) _ o.shorter);
  sum = λ h. f.is o.expression b;
  compound = λ h. sum_compound _ (f.is o.expression b);
}

in_adds_right : (make : Expression (List ℕ) → Expression (List ℕ) → Expression (List ℕ)) (op : List ℕ) → Adds make op
    → (a b : Expression (List ℕ)) (w : List ℕ) → Other b w
    → Other (make a b) (infix_expression_text a ++ (op ++ in_parens (is_sum b) w))
in_adds_right make op f a b w o =
    let s = in_added (make a) (infix_expression_text a) op (f.text a) (f.is a) b w o (is_sum b) refl in
    record {
      expression = s.0;
      same = s.1;
      shorter = subst (λ v. length (infix_expression_text a ++ (op ++ in_parens (is_sum b) w)) < length v) (sym (f.text a b))
          (right_shorter (infix_expression_text a) op w (infix_expression_text b) (is_sum b) o.shorter);
      sum = λ h. s.2;
      compound = λ h. sum_compound s.0 s.2;
    }

-- a product, a quotient or a remainder of two operands by this operator
record Multiplies (make : Expression (List ℕ) → Expression (List ℕ) → Expression (List ℕ)) (op : List ℕ) : Type 0 where
  text : (a b : Expression (List ℕ))
      → infix_expression_text (make a b) ≡ in_parens (is_sum a) (infix_expression_text a) ++ (op ++ in_parens (is_compound b) (infix_expression_text b))
  no_sum : (a b : Expression (List ℕ)) → is_sum (make a b) ≡ false
  is : (a b : Expression (List ℕ)) → is_compound (make a b) ≡ true

product_multiplies : Multiplies Product (codes " * ")
product_multiplies = record { text = λ a b. refl; no_sum = λ a b. refl; is = λ a b. refl }

quotient_multiplies : Multiplies Quotient (codes " / ")
quotient_multiplies = record { text = λ a b. refl; no_sum = λ a b. refl; is = λ a b. refl }

remainder_multiplies : Multiplies Remainder (codes " % ")
remainder_multiplies = record { text = λ a b. refl; no_sum = λ a b. refl; is = λ a b. refl }

never : (t u : Expression (List ℕ)) → is_sum t ≡ false → is_sum t ≡ true → is_sum u ≡ true
never t u e h = absurd cc

multiplies_left : (make : Expression (List ℕ) → Expression (List ℕ) → Expression (List ℕ)) (op : List ℕ) → Multiplies make op → (a b : Expression (List ℕ))
    → is_sum a ≡ true
    → Other (make a b) (infix_expression_text a ++ (op ++ in_parens (is_compound b) (infix_expression_text b)))
multiplies_left make op f a b e =
    let after = op ++ in_parens (is_compound b) (infix_expression_text b) in
    let s = split_left (λ v. make v b) after (λ v. f.no_sum v b) (λ v. f.text v b) a e in
    record {
      expression = s.0;
      same = s.1;
      shorter = subst (λ v. length (infix_expression_text a ++ after) < length v) (sym (f.text a b)) (left_longer (infix_expression_text a) after (is_sum a) e);
      sum = never (make a b) s.0 (f.no_sum a b);
      compound = λ h. s.2;
    }

multiplies_right : (make : Expression (List ℕ) → Expression (List ℕ) → Expression (List ℕ)) (op : List ℕ) → Multiplies make op → (a b : Expression (List ℕ))
    → is_compound b ≡ true
    → Other (make a b) (in_parens (is_sum a) (infix_expression_text a) ++ (op ++ infix_expression_text b))
multiplies_right make op f a b e =
    let before = in_parens (is_sum a) (infix_expression_text a) in
    record {
      expression = hung (make a) b;
      same = hung_is (make a) before op (f.no_sum a) (f.text a) b;
      shorter = subst (λ v. length (before ++ (op ++ infix_expression_text b)) < length v) (sym (f.text a b))
          (right_longer before op (infix_expression_text b) (is_compound b) e);
      sum = never (make a b) (hung (make a) b) (f.no_sum a b);
      compound = λ h. hung_compound (make a) (f.is a) b;
    }

in_multiplies_left : (make : Expression (List ℕ) → Expression (List ℕ) → Expression (List ℕ)) (op : List ℕ) → Multiplies make op
    → (a b : Expression (List ℕ)) (w : List ℕ) → Other a w
    → Other (make a b) (in_parens (is_sum a) w ++ (op ++ in_parens (is_compound b) (infix_expression_text b)))
in_multiplies_left make op f a b w o =
    let after = op ++ in_parens (is_compound b) (infix_expression_text b) in
    let s = in_left (λ v. make v b) after (λ v. f.no_sum v b) (λ v. f.is v b) (λ v. f.text v b) a w o (is_sum a) refl in
    record {
      expression = s.0;
      same = s.1;
      shorter = subst (λ v. length (in_parens (is_sum a) w ++ after) < length v) (sym (f.text a b))
          (left_shorter w (infix_expression_text a) after (is_sum a) o.shorter);
      sum = never (make a b) s.0 (f.no_sum a b);
      compound = λ h. s.2;
    }

in_multiplies_right : (make : Expression (List ℕ) → Expression (List ℕ) → Expression (List ℕ)) (op : List ℕ) → Multiplies make op
    → (a b : Expression (List ℕ)) (w : List ℕ) → Other b w
    → Other (make a b) (in_parens (is_sum a) (infix_expression_text a) ++ (op ++ in_parens (is_compound b) w))
in_multiplies_right make op f a b w o =
    let before = in_parens (is_sum a) (infix_expression_text a) in
    let s = in_hung (make a) before op (f.no_sum a) (f.text a) b w o (is_compound b) refl in
    record {
      expression = s.0;
      same = s.1;
      shorter = subst (λ v. length (before ++ (op ++ in_parens (is_compound b) w)) < length v) (sym (f.text a b))
          (right_shorter before op w (infix_expression_text b) (is_compound b) o.shorter);
      sum = never (make a b) s.0 (f.no_sum a b);
      compound = λ h. s.2 (f.is a);
    }

bare : (t : Expression (List ℕ)) (text : List ℕ) → BareExpression t text → Other t text
bare _ _ (sum_right a b e) = adds_right Sum _ sum_adds a b e
bare _ _ (in_sum_left a b w d) = in_adds_left Sum _ sum_adds a b w (bare a w d)
bare _ _ (in_sum_right a b w d) = in_adds_right Sum _ sum_adds a b w (bare b w d)
bare _ _ (difference_right a b e) = adds_right Difference _ difference_adds a b e
bare _ _ (in_difference_left a b w d) = in_adds_left Difference _ difference_adds a b w (bare a w d)
bare _ _ (in_difference_right a b w d) = in_adds_right Difference _ difference_adds a b w (bare b w d)
bare _ _ (product_left a b e) = multiplies_left Product _ product_multiplies a b e
bare _ _ (product_right a b e) = multiplies_right Product _ product_multiplies a b e
bare _ _ (in_product_left a b w d) = in_multiplies_left Product _ product_multiplies a b w (bare a w d)
bare _ _ (in_product_right a b w d) = in_multiplies_right Product _ product_multiplies a b w (bare b w d)
bare _ _ (quotient_left a b e) = multiplies_left Quotient _ quotient_multiplies a b e
bare _ _ (quotient_right a b e) = multiplies_right Quotient _ quotient_multiplies a b e
bare _ _ (in_quotient_left a b w d) = in_multiplies_left Quotient _ quotient_multiplies a b w (bare a w d)
bare _ _ (in_quotient_right a b w d) = in_multiplies_right Quotient _ quotient_multiplies a b w (bare b w d)
bare _ _ (remainder_left a b e) = multiplies_left Remainder _ remainder_multiplies a b e
bare _ _ (remainder_right a b e) = multiplies_right Remainder _ remainder_multiplies a b e
bare _ _ (in_remainder_left a b w d) = in_multiplies_left Remainder _ remainder_multiplies a b w (bare a w d)
bare _ _ (in_remainder_right a b w d) = in_multiplies_right Remainder _ remainder_multiplies a b w (bare b w d)
bare _ _ (under_minus a e) = record {
  expression = hung (λ v. Negative v) a;
  same = hung_is (λ v. Negative v) [] (codes "-") (λ v. refl) (λ v. refl) a;
  shorter = right_longer [] (codes "-") (infix_expression_text a) (is_sum a || is_product a) e;
  sum = λ h. absurd cc;
  compound = λ h. absurd cc;
}
bare _ _ (in_negative a w d) = let o = bare a w d in
    let s = in_hung (λ v. Negative v) [] (codes "-") (λ v. refl) (λ v. refl) a w o (is_compound a) refl in record {
      expression = s.0;
      same = s.1;
      shorter = right_shorter [] (codes "-") w (infix_expression_text a) (is_compound a) o.shorter;
      sum = λ h. absurd cc;
      compound = λ h. absurd cc;
    }
bare _ _ (in_index x a w d) = let o = bare a w d in record {
  expression = Read x o.expression;
  same = ap (λ (v : List ℕ). x ++ (codes "[" ++ (v ++ codes "]"))) o.same;
  shorter = index_shorter x w (infix_expression_text a) o.shorter;
  sum = λ h. absurd cc;
  compound = λ h. absurd cc;
}

pub bare_expression : (t : Expression (List ℕ)) (text : List ℕ) → BareExpression t text → IsTextOfAnother t text
bare_expression t text d =
    let o = bare t text d in (
      o.expression,
      o.same,
      λ s. let same : length text ≡ length (infix_expression_text t) =
          ap length (sym o.same) ∙ ap (λ (v : Expression (List ℕ)). length (infix_expression_text v)) s in
          omega (arith, o.shorter),
    )

-- ---- guards

abbrev is_joined : Guard (List ℕ) → Bool
is_joined g = is_and g || is_or g

-- the guard whose text is that of `a || g` without braces, where make g is `a || g`
abbrev joined_to : (Guard (List ℕ) → Guard (List ℕ)) → Guard (List ℕ) → Guard (List ℕ)
joined_to make (Or c d) = Or (joined_to make c) d
joined_to make g = make g

joined_text : (make : Guard (List ℕ) → Guard (List ℕ)) (before : List ℕ)
    → ((g : Guard (List ℕ)) → is_or g ≡ false → guard_text (make g) ≡ before ++ guard_text g) → (g : Guard (List ℕ))
    → guard_text (joined_to make g) ≡ before ++ guard_text g
joined_text make before h (Or c d) = ap (λ (w : List ℕ). w ++ (codes " || " ++ in_braces (is_or d) (guard_text d))) (joined_text make before h c)
    ∙ append_assoc before (guard_text c) _
joined_text make before h g = h g refl

-- the guard whose text is that of `a && g` without braces round g, where make g is `a && g`
abbrev met : (Guard (List ℕ) → Guard (List ℕ)) → Guard (List ℕ) → Guard (List ℕ)
met make (Or c d) = Or (met make c) d
met make (And c d) = And (cond (is_or c) (make c) (met make c)) d
met make g = make g

met_no_or : (make : Guard (List ℕ) → Guard (List ℕ)) → ((g : Guard (List ℕ)) → is_or (make g) ≡ false) → (g : Guard (List ℕ)) → is_or g ≡ false
    → is_or (met make g) ≡ false
met_no_or make n (Or c d) h = absurd cc
met_no_or make n (And c d) h = refl
met_no_or make n g h = n g

-- the left operand of a conjunction keeps its braces
kept_guard : (before : List ℕ) (c x y : Guard (List ℕ)) (b : Bool) → is_or c ≡ b → is_or x ≡ false → (is_or c ≡ false → is_or y ≡ false)
    → guard_text x ≡ before ++ in_braces (is_and c || is_or c) (guard_text c) → guard_text y ≡ before ++ guard_text c
    → in_braces (is_or (cond b x y)) (guard_text (cond b x y)) ≡ before ++ in_braces b (guard_text c)
kept_guard before c x y true e n m p q = let needed : (is_and c || is_or c) ≡ true = or_right_true (is_and c) (is_or c) e in
    rw n (append-nil (guard_text x) ∙ p ∙ rw needed refl)
kept_guard before c x y false e n m p q = rw (m e) (append-nil (guard_text y) ∙ q ∙ rw (append-nil (guard_text c)) refl)

met_text : (make : Guard (List ℕ) → Guard (List ℕ)) (before : List ℕ) → ((g : Guard (List ℕ)) → is_or (make g) ≡ false)
    → ((g : Guard (List ℕ)) → guard_text (make g) ≡ before ++ in_braces (is_and g || is_or g) (guard_text g)) → (g : Guard (List ℕ))
    → guard_text (met make g) ≡ before ++ guard_text g
met_text make before n h (Or c d) = ap (λ (w : List ℕ). w ++ (codes " || " ++ in_braces (is_or d) (guard_text d))) (met_text make before n h c)
    ∙ append_assoc before (guard_text c) _
met_text make before n h (And c d) =
    ap (λ (w : List ℕ). w ++ (codes " && " ++ in_braces (is_and d || is_or d) (guard_text d)))
    (kept_guard before c (make c) (met make c) (is_or c) refl (n c) (met_no_or make n c) (h c) (met_text make before n h c))
    ∙ append_assoc before (in_braces (is_or c) (guard_text c)) _
met_text make before n h g = h g ∙ ap (λ (w : List ℕ). before ++ w) (append-nil (guard_text g))

-- a guard with the text w, which is shorter than that of g; an Or where g is one, and an And or an Or where g is one of these
record OtherGuard (g : Guard (List ℕ)) (w : List ℕ) : Type 0 where
  guard : Guard (List ℕ)
  same : guard_text guard ≡ w
  shorter : length w < length (guard_text g)
  disjunction : is_or g ≡ true → is_or guard ≡ true
  compound : is_joined g ≡ true → is_joined guard ≡ true

or_joined : (g : Guard (List ℕ)) → is_or g ≡ true → is_joined g ≡ true
or_joined g e = or_right_true (is_and g) (is_or g) e

right_braced : (a op w : List ℕ) (b : Bool) → b ≡ true → length (a ++ (op ++ w)) < length (a ++ (op ++ in_braces b w))
right_braced a op w true e = simp length-append (omega arith)
right_braced a op w false e = absurd cc

left_braced : (w rest : List ℕ) (b : Bool) → b ≡ true → length (w ++ rest) < length (in_braces b w ++ rest)
left_braced w rest true e = simp length-append (omega arith)
left_braced w rest false e = absurd cc

right_less : (a op v w : List ℕ) (b : Bool) → length v < length w → length (a ++ (op ++ in_braces b v)) < length (a ++ (op ++ in_braces b w))
right_less a op v w true h = simp length-append (omega arith)
right_less a op v w false h = simp length-append (omega arith)

left_less : (v w rest : List ℕ) (b : Bool) → length v < length w → length (in_braces b v ++ rest) < length (in_braces b w ++ rest)
left_less v w rest true h = simp length-append (omega arith)
left_less v w rest false h = simp length-append (omega arith)

test_shorter : (a op v w : List ℕ) → length v < length w → length (a ++ (op ++ v)) < length (a ++ (op ++ w))
test_shorter a op v w h = simp length-append (omega arith)

joined_is : (make : Guard (List ℕ) → Guard (List ℕ)) (a op : List ℕ)
    → ((g : Guard (List ℕ)) → guard_text (make g) ≡ a ++ (op ++ in_braces (is_or g) (guard_text g))) → (g : Guard (List ℕ))
    → guard_text (joined_to make g) ≡ a ++ (op ++ guard_text g)
joined_is make a op h g = joined_text make (a ++ op) (λ v e. h v ∙ rw (e, append-nil (guard_text v)) (sym (append_assoc a op (guard_text v)))) g
    ∙ append_assoc a op (guard_text g)

joined_or : (make : Guard (List ℕ) → Guard (List ℕ)) → ((g : Guard (List ℕ)) → is_or (make g) ≡ true) → (g : Guard (List ℕ)) → is_or (joined_to make g) ≡ true
joined_or make n (Or c d) = refl
joined_or make n g = n g

met_is : (make : Guard (List ℕ) → Guard (List ℕ)) (a op : List ℕ) → ((g : Guard (List ℕ)) → is_or (make g) ≡ false)
    → ((g : Guard (List ℕ)) → guard_text (make g) ≡ a ++ (op ++ in_braces (is_joined g) (guard_text g))) → (g : Guard (List ℕ))
    → guard_text (met make g) ≡ a ++ (op ++ guard_text g)
met_is make a op n h g = met_text make (a ++ op) n (λ v. h v ∙ sym (append_assoc a op _)) g ∙ append_assoc a op (guard_text g)

met_joined : (make : Guard (List ℕ) → Guard (List ℕ)) → ((g : Guard (List ℕ)) → is_joined (make g) ≡ true) → (g : Guard (List ℕ))
    → is_joined (met make g) ≡ true
met_joined make n (Or c d) = refl
met_joined make n (And c d) = refl
met_joined make n g = n g

-- the text of `a && b` without braces round the Or a
split_or : (a b : Guard (List ℕ)) → is_or a ≡ true → (u : Guard (List ℕ))
    × (guard_text u ≡ guard_text a ++ (codes " && " ++ in_braces (is_joined b) (guard_text b))) × (is_joined u ≡ true)
split_or (Or c d) b e = (
  Or c (And d b),
  ap (λ (w : List ℕ). guard_text c ++ (codes " || " ++ w)) (append-nil (guard_text (And d b)))
      ∙ sym (append_assoc (guard_text c) (codes " || " ++ in_braces (is_or d) (guard_text d)) (codes " && " ++ in_braces (is_joined b) (guard_text b))),
  refl,
)
split_or _ b e = absurd cc

-- on the right of an Or
in_joined : (make : Guard (List ℕ) → Guard (List ℕ)) (a op : List ℕ)
    → ((g : Guard (List ℕ)) → guard_text (make g) ≡ a ++ (op ++ in_braces (is_or g) (guard_text g))) → ((g : Guard (List ℕ)) → is_or (make g) ≡ true)
    → (b : Guard (List ℕ)) (w : List ℕ) → OtherGuard b w → (k : Bool) → is_or b ≡ k
    → (u : Guard (List ℕ)) × (guard_text u ≡ a ++ (op ++ in_braces k w)) × (is_or u ≡ true)
in_joined make a op h n b w o true e = (make o.guard, h o.guard ∙ rw (o.disjunction e, o.same) refl, n o.guard)
in_joined make a op h n b w o false e = (joined_to make o.guard, joined_is make a op h o.guard ∙ rw (o.same, append-nil w) refl, joined_or make n o.guard)

-- on the right of an And, or under a Not
in_met : (make : Guard (List ℕ) → Guard (List ℕ)) (a op : List ℕ) → ((g : Guard (List ℕ)) → is_or (make g) ≡ false)
    → ((g : Guard (List ℕ)) → guard_text (make g) ≡ a ++ (op ++ in_braces (is_joined g) (guard_text g))) → (b : Guard (List ℕ)) (w : List ℕ) → OtherGuard b w
    → (k : Bool) → is_joined b ≡ k
    → (u : Guard (List ℕ)) × (guard_text u ≡ a ++ (op ++ in_braces k w)) × (((g : Guard (List ℕ)) → is_joined (make g) ≡ true) → is_joined u ≡ true)
in_met make a op n h b w o true e = (make o.guard, h o.guard ∙ rw (o.compound e, o.same) refl, λ c. c o.guard)
in_met make a op n h b w o false e = (met make o.guard, met_is make a op n h o.guard ∙ rw (o.same, append-nil w) refl, λ c. met_joined make c o.guard)

-- on the left of an And, where it has no braces
in_bare_and : (v b : Guard (List ℕ)) (k : Bool) → is_or v ≡ k → (u : Guard (List ℕ))
    × (guard_text u ≡ guard_text v ++ (codes " && " ++ in_braces (is_joined b) (guard_text b))) × (is_joined u ≡ true)
in_bare_and v b true e = split_or v b e
in_bare_and v b false e = (And v b, rw (e, append-nil (guard_text v)) refl, refl)

-- on the left of an And
in_and : (a b : Guard (List ℕ)) (w : List ℕ) → OtherGuard a w → (k : Bool) → is_or a ≡ k
    → (u : Guard (List ℕ)) × (guard_text u ≡ in_braces k w ++ (codes " && " ++ in_braces (is_joined b) (guard_text b))) × (is_joined u ≡ true)
in_and a b w o true e = (And o.guard b, rw (o.disjunction e, o.same) refl, refl)
in_and a b w o false e = let s = in_bare_and o.guard b (is_or o.guard) refl in (s.0, s.1 ∙ rw (o.same, append-nil w) refl, s.2)

bare_guard : (g : Guard (List ℕ)) (text : List ℕ) → BareGuard g text → OtherGuard g text
bare_guard _ _ (under_not a e) = record {
  guard = met (λ v. Not v) a;
  same = met_is (λ v. Not v) [] (codes "!") (λ v. refl) (λ v. refl) a;
  shorter = right_braced [] (codes "!") (guard_text a) (is_and a || is_or a) e;
  disjunction = λ h. absurd cc;
  compound = λ h. absurd cc;
}
bare_guard _ _ (in_not a w d) = let o = bare_guard a w d in
    let s = in_met (λ v. Not v) [] (codes "!") (λ v. refl) (λ v. refl) a w o (is_joined a) refl in record {
      guard = s.0;
      same = s.1;
      shorter = right_less [] (codes "!") w (guard_text a) (is_joined a) o.shorter;
      disjunction = λ h. absurd cc;
      compound = λ h. absurd cc;
    }
bare_guard _ _ (and_left a b e) = let s = split_or a b e in record {
  guard = s.0;
  same = s.1;
  shorter = left_braced (guard_text a) _ (is_or a) e;
  disjunction = λ h. absurd cc;
  compound = λ h. s.2;
}
bare_guard _ _ (and_right a b e) = record {
  guard = met (λ v. And a v) b;
  same = met_is (λ v. And a v) (in_braces (is_or a) (guard_text a)) (codes " && ") (λ v. refl) (λ v. refl) b;
  shorter = right_braced (in_braces (is_or a) (guard_text a)) (codes " && ") (guard_text b) (is_and b || is_or b) e;
  disjunction = λ h. absurd cc;
  compound = λ h. met_joined (λ v. And a v) (λ v. refl) b;
}
bare_guard _ _ (in_and_left a b w d) = let o = bare_guard a w d in let s = in_and a b w o (is_or a) refl in record {
  guard = s.0;
  same = s.1;
  shorter = left_less w (guard_text a) _ (is_or a) o.shorter;
  disjunction = λ h. absurd cc;
  compound = λ h. s.2;
}
bare_guard _ _ (in_and_right a b w d) = let o = bare_guard b w d in
    let s = in_met (λ v. And a v) (in_braces (is_or a) (guard_text a)) (codes " && ") (λ v. refl) (λ v. refl) b w o (is_joined b) refl in record {
      guard = s.0;
      same = s.1;
      shorter = right_less (in_braces (is_or a) (guard_text a)) (codes " && ") w (guard_text b) (is_joined b) o.shorter;
      disjunction = λ h. absurd cc;
      compound = λ h. s.2 (λ v. refl);
    }
bare_guard _ _ (or_right a b e) = record {
  guard = joined_to (λ v. Or a v) b;
  same = joined_is (λ v. Or a v) (guard_text a) (codes " || ") (λ v. refl) b;
  shorter = right_braced (guard_text a) (codes " || ") (guard_text b) (is_or b) e;
  disjunction = λ h. joined_or (λ v. Or a v) (λ v. refl) b;
  compound = λ h. or_joined _ (joined_or (λ v. Or a v) (λ v. refl) b);
}
bare_guard _ _ (in_or_left a b w d) = let o = bare_guard a w d in record {
  guard = Or o.guard b;
  same = ap (λ (v : List ℕ). v ++ (codes " || " ++ in_braces (is_or b) (guard_text b))) o.same;
  shorter = front_shorter w (guard_text a) _ o.shorter;
  disjunction = λ h. refl;
  compound = λ h. refl;
}
bare_guard _ _ (in_or_right a b w d) = let o = bare_guard b w d in
    let s = in_joined (λ v. Or a v) (guard_text a) (codes " || ") (λ v. refl) (λ v. refl) b w o (is_or b) refl in record {
      guard = s.0;
      same = s.1;
      shorter = right_less (guard_text a) (codes " || ") w (guard_text b) (is_or b) o.shorter;
      disjunction = λ h. s.2;
      compound = λ h. or_joined s.0 s.2;
    }
bare_guard _ _ (in_test_left r a b w d) = let o = bare a w d in record {
  guard = Test (record { relation = r; left = o.expression; right = b });
  same = ap (λ (v : List ℕ). v ++ (relation_text r ++ infix_expression_text b)) o.same;
  shorter = front_shorter w (infix_expression_text a) _ o.shorter;
  disjunction = λ h. absurd cc;
  compound = λ h. absurd cc;
}
bare_guard _ _ (in_test_right r a b w d) = let o = bare b w d in record {
  guard = Test (record { relation = r; left = a; right = o.expression });
  same = ap (λ (v : List ℕ). infix_expression_text a ++ (relation_text r ++ v)) o.same;
  shorter = test_shorter (infix_expression_text a) (relation_text r) w (infix_expression_text b) o.shorter;
  disjunction = λ h. absurd cc;
  compound = λ h. absurd cc;
}

pub bare_condition : (g : Guard (List ℕ)) (text : List ℕ) → BareGuard g text → IsTextOfAnotherGuard g text
bare_condition g text d =
    let o = bare_guard g text d in (
      o.guard,
      o.same,
      λ s. let same : length text ≡ length (guard_text g) = ap length (sym o.same) ∙ ap (λ (v : Guard (List ℕ)). length (guard_text v)) s in
          omega (arith, o.shorter),
    )
