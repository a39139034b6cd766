-- Laws of literals in normal form.
use Rattle.std.proofs.Common.{◌≡◌, ℕ, ◌+◌, ◌==◌, ℤ, pos, Bool, true, false, ◌&&◌, ◌||◌, cond, List, [], ◌∷◌, Option, None, Some, arith, refl, ap, subst, ◌∙◌}
use Rattle.std.specs.Prelude.{nat_le}
use Rattle.std.specs.List.{list_any, position_from}
use Rattle.std.specs.Option.{is_some, option_or}
use Rattle.std.specs.Ordering.{int_eq, is_eq}
use Rattle.std.specs.Cmp.{signed_Decides}
use Rattle.std.proofs.lemmas.Int.{ints}
use Rattle.std.proofs.lemmas.Bool.{leb-true, and_from}
use Rattle.fs_model.proofs.Booleans.{and_first, and_second}
use Rattle.fs_model.specs.declared.parts.Rel.{Rel}
use Rattle.fs_model.specs.declared.parts.Rel.TheVariants as rel
use Rattle.nf_trees.specs.NormalTerms.{Polynomial}
use Rattle.nf_trees.specs.Order.{same_polynomial}
use Rattle.nf_trees.specs.Measures.{size_of, depth_of}
use Rattle.nf_terms.specs.TermLimits.{size_limit, depth_limit}
use Rattle.nf_terms.specs.Normal.{IsNormal, ordered, narrow}
use Rattle.nf_terms.specs.RawSums.{raw_negation, raw_difference, IsNormalFormOf}
use Rattle.nf_terms.specs.Computed.{Done, IfDone, after}
use Rattle.nf_trees.specs.TermKeys.{polynomial_same}
use Rattle.nf_terms.proofs.Simple.{number_normal}
use Rattle.nf_sums.specs.Operations.{normal_difference}
use Rattle.nf_sums.proofs.Exact.{subtracted_form}
use Rattle.nf_sums.proofs.Forms.{negation_normal}
use Rattle.nf_sums.proofs.Values.{goes_done}
use Rattle.nf_sums.proofs.Constants.{equal_of_same}
use Rattle.nf_rel.specs.declared.kind.Kind.{Kind}
use Rattle.nf_rel.specs.declared.kind.Kind.TheVariants.{Ge, Le, Eq, Ne}
use Rattle.nf_rel.specs.Literals.{NormalLiteral, True, False, Is, Form, AtLeastZero, IsZero, IsNotZero, literal_form, one, against_zero, literal, negate}
use Rattle.nf_rel.specs.NormalLiterals.{is_normal, is_primitive, is_inner_number, IsNormalLiteral, direction_of, kind_rank, same_literal}
use Rattle.nf_rel.proofs.NormalForms.{form_normal}

-- ---- what `literal` gives
one_normal : IsNormal one
one_normal = number_normal (pos 1) (omega arith)

difference_normal : (p q s : Polynomial) → IsNormal p → IsNormal q → normal_difference p q ≡ Done s → IsNormal s
difference_normal p q s m n e =
    let f : IfDone (Done s) (λ x. IsNormalFormOf x (raw_difference p q)) =
    subst (λ c. IfDone c (λ x. IsNormalFormOf x (raw_difference p q))) e (subtracted_form p q m n) in
    f.normal

done_form : (f : Form) (p : Polynomial) (n : NormalLiteral) → IsNormal p → Done (literal_form f p) ≡ Done n → IsNormalLiteral n
done_form f p n h e = let s : literal_form f p ≡ n = cc e in subst IsNormalLiteral s (form_normal f p h)

done_less : (p : Polynomial) (n : NormalLiteral) → IsNormal p → after (normal_difference p one) (λ q. Done (literal_form AtLeastZero q)) ≡ Done n
    → IsNormalLiteral n
done_less p n h e =
    let s = goes_done (normal_difference p one) (λ q. Done (literal_form AtLeastZero q)) n e in
    done_form AtLeastZero s.middle n (difference_normal p one s.middle h one_normal s.first) s.next

by_relation : (relation : Rel) (p : Polynomial) (n : NormalLiteral) → IsNormal p → against_zero relation p ≡ Done n → IsNormalLiteral n
by_relation rel.Eq p n h e = done_form IsZero p n h e
by_relation rel.Ne p n h e = done_form IsNotZero p n h e
by_relation rel.Ge p n h e = done_form AtLeastZero p n h e
by_relation rel.Gt p n h e = done_less p n h e
by_relation rel.Le p n h e = done_form AtLeastZero (raw_negation p) n (negation_normal p h) e
by_relation rel.Lt p n h e = done_less (raw_negation p) n (negation_normal p h) e

pub literal_normal : (relation : Rel) (l r : Polynomial) (n : NormalLiteral) → IsNormal l → IsNormal r → literal relation l r ≡ Done n → IsNormalLiteral n
literal_normal relation l r n hl hr e =
    let s = goes_done (normal_difference l r) (against_zero relation) n e in
    by_relation relation s.middle n (difference_normal l r s.middle hl hr s.first) s.next

pub direction_is_normal : (d : Polynomial) (k : Kind) (b : ℤ) → IsNormalLiteral (Is d k b) → IsNormal d
direction_is_normal d k b e =
    let n = and_first (is_normal d) (is_primitive d) (and_first (is_normal d && is_primitive d) (is_inner_number b) e) in
    let c = and_first (ordered d && nat_le (size_of d) size_limit && nat_le (depth_of d) depth_limit) (narrow d) n in
    let a = and_first (ordered d && nat_le (size_of d) size_limit) (nat_le (depth_of d) depth_limit) c in
    record {
      ordered = and_first (ordered d) (nat_le (size_of d) size_limit) a;
      small = leb-true (size_of d) size_limit (and_second (ordered d) (nat_le (size_of d) size_limit) a);
      shallow = leb-true (depth_of d) depth_limit (and_second (ordered d && nat_le (size_of d) size_limit) (nat_le (depth_of d) depth_limit) c);
      narrow = and_second (ordered d && nat_le (size_of d) size_limit && nat_le (depth_of d) depth_limit) (narrow d) n;
    }

-- ---- negation
pub negate_direction : (l : NormalLiteral) → direction_of (negate l) ≡ direction_of l
negate_direction True = refl
negate_direction False = refl
negate_direction (Is d Ge b) = refl
negate_direction (Is d Le b) = refl
negate_direction (Is d Eq b) = refl
negate_direction (Is d Ne b) = refl

pub negate_again : (l : NormalLiteral) → negate (negate l) ≡ l
negate_again True = refl
negate_again False = refl
negate_again (Is d Ge b) = ap (Is d Ge) (omega (arith, ints))
negate_again (Is d Le b) = ap (Is d Le) (omega (arith, ints))
negate_again (Is d Eq b) = refl
negate_again (Is d Ne b) = refl

-- ---- sameness
same_kind : (k j : Kind) → (kind_rank k == kind_rank j) ≡ true → k ≡ j
same_kind Ge Ge e = refl
same_kind Ge Le e = absurd (cc e)
same_kind Ge Eq e = absurd (cc e)
same_kind Ge Ne e = absurd (cc e)
same_kind Le Ge e = absurd (cc e)
same_kind Le Le e = refl
same_kind Le Eq e = absurd (cc e)
same_kind Le Ne e = absurd (cc e)
same_kind Eq Ge e = absurd (cc e)
same_kind Eq Le e = absurd (cc e)
same_kind Eq Eq e = refl
same_kind Eq Ne e = absurd (cc e)
same_kind Ne Ge e = absurd (cc e)
same_kind Ne Le e = absurd (cc e)
same_kind Ne Eq e = absurd (cc e)
same_kind Ne Ne e = refl

own_kind : (k : Kind) → (kind_rank k == kind_rank k) ≡ true
own_kind Ge = refl
own_kind Le = refl
own_kind Eq = refl
own_kind Ne = refl

pub literals_equal : (l m : NormalLiteral) → same_literal l m ≡ true → l ≡ m
literals_equal True True e = refl
literals_equal True False e = absurd (cc e)
literals_equal True (Is f j c) e = absurd (cc e)
literals_equal False True e = absurd (cc e)
literals_equal False False e = refl
literals_equal False (Is f j c) e = absurd (cc e)
literals_equal (Is d k b) True e = absurd (cc e)
literals_equal (Is d k b) False e = absurd (cc e)
literals_equal (Is d k b) (Is f j c) e =
    let a = and_first ((kind_rank k == kind_rank j) && int_eq b c) (same_polynomial d f) e in
    let x : k ≡ j = same_kind k j (and_first (kind_rank k == kind_rank j) (int_eq b c) a) in
    let y : b ≡ c = (signed_Decides b c).0 (and_second (kind_rank k == kind_rank j) (int_eq b c) a) in
    let z : d ≡ f = equal_of_same d f (and_second ((kind_rank k == kind_rank j) && int_eq b c) (same_polynomial d f) e) in
    ap (λ p. Is p k b) z ∙ ap (λ t. Is f t b) x ∙ ap (Is f j) y

pub literal_same : (l : NormalLiteral) → same_literal l l ≡ true
literal_same True = refl
literal_same False = refl
literal_same (Is d k b) =
    and_from ((kind_rank k == kind_rank k) && int_eq b b) (same_polynomial d d)
    (and_from (kind_rank k == kind_rank k) (int_eq b b) (own_kind k) ((signed_Decides b b).1 refl)) (ap is_eq (polynomial_same d d refl))

-- ---- clashes
pub some_or : {T : Type 0} (a b : Option T) → is_some (option_or a b) ≡ is_some a || is_some b
some_or None b = refl
some_or (Some x) b = refl

pub some_place : {T : Type 0} (test : T → Bool) (i : ℕ) (xs : List T) → is_some (position_from test i xs) ≡ list_any test xs
some_place test i [] = refl
some_place test i (x ∷ xs) = by_test (test x) (some_place test (i + 1) xs)
  where
    by_test : (t : Bool) → is_some (position_from test (i + 1) xs) ≡ list_any test xs
        → is_some (cond t (Some i) (position_from test (i + 1) xs)) ≡ t || list_any test xs
    by_test true e = refl
    by_test false e = e
