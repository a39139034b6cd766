-- What a sound machine computes is the same as itself, in a machine that has the same variables.
use Rattle.std.proofs.Common.{◌≡◌, ℕ, ◌==◌, refl, ap, sym, ◌∙◌, Bool, true, false, cond, List, [], ◌∷◌, ◌++◌, Option, Some, None}
use Rattle.std.specs.Prelude.{◌&&◌, not, slice_get}
use Rattle.std.specs.List.{list_all}
use Rattle.fs_model.proofs.Booleans.{and_first, and_second}
use Rattle.fs_model.proofs.Quantifiers.{list_all_front, list_all_back}
use Rattle.fs_model.specs.declared.parts.Sort.{Sort}
use Rattle.fs_model.specs.declared.parts.Sort.TheVariants as sort
use Rattle.fs_model.specs.declared.parts.VarInfo.{VarInfo}
use Rattle.fs_model.specs.Expressions.{Expression, Number, Variable, Read, Sum, Difference, Product, Quotient, Remainder, Negative, Literal, Assignment, Assign}
use Rattle.fs_model.specs.Expressions.{ArrayWrite}
use Rattle.fs_model.specs.Expressions.{Emit}
use Rattle.fs_model.specs.Machines.{Fsmd}
use Rattle.fs_model.specs.Runs.{is_scalar, is_array, is_port}
use Rattle.fs_model.specs.PartFolds.{scalars, arrays, numbers, uses_in, uses_in_literal}
use Rattle.fs_model.specs.SoundMachines.{has_sort, scalar_at, array_at, port_at, input_at, is_text_number, scalars_in_assignment, arrays_in_assignment, port_in}
use Rattle.fs_model.specs.SoundMachines.{numbers_in_assignment, changed_by}
use Rattle.fs_ast.specs.Branches.{is_sound_literal, is_sound_assignment}
use Rattle.cert_bisimulation.specs.PathExpressions.{PathExpression, ArrayExpression, Stored, ListExpression, Pushed, ExpressionVector, initial, path_expression}
use Rattle.cert_bisimulation.specs.PathExpressions.{expressions_after}
use Rattle.cert_bisimulation.specs.PathExpressions.{acted_all}
use Rattle.cert_bisimulation.specs.ExpressionSameness.{AreTwins, Same, SameArray, SameListExpression, SameLiterals}

scalar_is : (s : Sort) → is_scalar s ≡ true → s ≡ sort.Scalar
scalar_is sort.Scalar h = refl
scalar_is sort.Array h = absurd (cc h)
scalar_is sort.Port h = absurd (cc h)

array_is : (s : Sort) → is_array s ≡ true → s ≡ sort.Array
array_is sort.Scalar h = absurd (cc h)
array_is sort.Array h = refl
array_is sort.Port h = absurd (cc h)

port_is : (s : Sort) → is_port s ≡ true → s ≡ sort.Port
port_is sort.Scalar h = absurd (cc h)
port_is sort.Array h = absurd (cc h)
port_is sort.Port h = refl

module _ (a b : Fsmd) (same : a.variables ≡ b.variables) where
  -- a variable of a sort is its own twin
  twin : (test : Sort → Bool) (σ : Sort) → ((s : Sort) → test s ≡ true → s ≡ σ) → (x : ℕ) → has_sort test (slice_get a.variables x) ≡ true → AreTwins a b σ x x
  twin test σ is x h = by_variable (slice_get a.variables x) refl h
    where
      by_variable : (o : Option VarInfo) → slice_get a.variables x ≡ o → has_sort test o ≡ true → AreTwins a b σ x x
      by_variable None e h = absurd (cc h)
      by_variable (Some v) e h = record { variable = v; left = e; right = sym (ap (λ vs. slice_get vs x) same) ∙ e; sorted = is v.sort h }

  -- each declared variable has an expression that is the same as itself
  pub record AreOwn (s : ExpressionVector) : Type 0 where
    pub scalar : (x : ℕ) → scalar_at a.variables x ≡ true → Same a b (s.scalar x) (s.scalar x)
    pub array : (x : ℕ) → array_at a.variables x ≡ true → SameArray a b (s.array x) (s.array x)
    pub port : (x : ℕ) → port_at a.variables x ≡ true → SameListExpression a b (s.port x) (s.port x)

  pub own_initial : AreOwn initial
  own_initial = record {
    scalar = λ x h. (x, refl, twin is_scalar sort.Scalar scalar_is x h);
    array = λ x h. (x, refl, twin is_array sort.Array array_is x h);
    port = λ x h. (x, refl, twin is_port sort.Port port_is x h);
  }

  -- ---- terms

  abbrev FitScalars : Expression ℕ → Type 0
  FitScalars t = list_all (scalar_at a.variables) (uses_in scalars t) ≡ true

  abbrev FitArrays : Expression ℕ → Type 0
  FitArrays t = list_all (array_at a.variables) (uses_in arrays t) ≡ true

  module _ (s : ExpressionVector) (own : AreOwn s) where
    abbrev OwnTerm : Expression ℕ → Type 0
    OwnTerm t = Same a b (path_expression s t) (path_expression s t)

    own_operands : (c d : Expression ℕ) → list_all (scalar_at a.variables) (uses_in scalars c ++ uses_in scalars d) ≡ true
        → list_all (array_at a.variables) (uses_in arrays c ++ uses_in arrays d) ≡ true
        → (FitScalars c → FitArrays c → OwnTerm c) → (FitScalars d → FitArrays d → OwnTerm d) → OwnTerm c × OwnTerm d
    own_operands c d h g of_left of_right = (
      of_left (list_all_front (scalar_at a.variables) (uses_in scalars c) (uses_in scalars d) h)
          (list_all_front (array_at a.variables) (uses_in arrays c) (uses_in arrays d) g),
      of_right (list_all_back (scalar_at a.variables) (uses_in scalars c) (uses_in scalars d) h)
          (list_all_back (array_at a.variables) (uses_in arrays c) (uses_in arrays d) g),
    )

    own_term : (t : Expression ℕ) → FitScalars t → FitArrays t → OwnTerm t
    own_term (Number n) h g = refl
    own_term (Variable x) h g = own.scalar x (and_first (scalar_at a.variables x) true h)
    own_term (Read x i) h g =
        let used = list_all (array_at a.variables) (uses_in arrays i) in (
          s.array x,
          path_expression s i,
          refl,
          own.array x (and_first (array_at a.variables x) used g),
          own_term i h (and_second (array_at a.variables x) used g),
        )
    own_term (Sum c d) h g = let r = own_operands c d h g (λ p q. own_term c p q) (λ p q. own_term d p q) in
        (path_expression s c, path_expression s d, refl, r.0, r.1)
    own_term (Difference c d) h g = let r = own_operands c d h g (λ p q. own_term c p q) (λ p q. own_term d p q) in
        (path_expression s c, path_expression s d, refl, r.0, r.1)
    own_term (Product c d) h g = let r = own_operands c d h g (λ p q. own_term c p q) (λ p q. own_term d p q) in
        (path_expression s c, path_expression s d, refl, r.0, r.1)
    own_term (Quotient c d) h g = let r = own_operands c d h g (λ p q. own_term c p q) (λ p q. own_term d p q) in
        (path_expression s c, path_expression s d, refl, r.0, r.1)
    own_term (Remainder c d) h g = let r = own_operands c d h g (λ p q. own_term c p q) (λ p q. own_term d p q) in
        (path_expression s c, path_expression s d, refl, r.0, r.1)
    own_term (Negative c) h g = (path_expression s c, refl, own_term c h g)

  -- ---- assignments

  either_scalar : (c : Bool) (e f : PathExpression) → Same a b e e → Same a b f f → Same a b (cond c e f) (cond c e f)
  either_scalar true e f h g = h
  either_scalar false e f h g = g

  either_array : (c : Bool) (e f : ArrayExpression) → SameArray a b e e → SameArray a b f f → SameArray a b (cond c e f) (cond c e f)
  either_array true e f h g = h
  either_array false e f h g = g

  either_list : (c : Bool) (e f : ListExpression) → SameListExpression a b e e → SameListExpression a b f f → SameListExpression a b (cond c e f) (cond c e f)
  either_list true e f h g = h
  either_list false e f h g = g

  record Fits (x : Assignment ℕ) : Type 0 where
    scalars_fit : list_all (scalar_at a.variables) (scalars_in_assignment x) ≡ true
    arrays_fit : list_all (array_at a.variables) (arrays_in_assignment x) ≡ true

  fits : (x : Assignment ℕ) → is_sound_assignment a.variables x ≡ true → Fits x
  fits x h =
      let p = list_all (scalar_at a.variables) (scalars_in_assignment x) in
      let q = list_all (array_at a.variables) (arrays_in_assignment x) in
      let r = list_all (port_at a.variables) (port_in x) && (list_all is_text_number (numbers_in_assignment x) && not (input_at a.variables (changed_by x))) in
      record { scalars_fit = and_first p (q && r) h; arrays_fit = and_first q r (and_second p (q && r) h) }

  module _ (before s : ExpressionVector) (own : AreOwn before) (done : AreOwn s) where
    own_acted : (x : Assignment ℕ) → Fits x → AreOwn (expressions_after x before s)
    own_acted (Assign x e) f =
        let used = list_all (scalar_at a.variables) (uses_in scalars e) in
        let value = own_term before own e (and_second (scalar_at a.variables x) used f.scalars_fit) f.arrays_fit in
        record {
          scalar = λ y h. either_scalar (y == x) (path_expression before e) (s.scalar y) value (done.scalar y h);
          array = done.array;
          port = done.port;
        }
    own_acted (ArrayWrite x i e) f =
        let used = list_all (array_at a.variables) (uses_in arrays i ++ uses_in arrays e) in
        let r = own_operands before own i e f.scalars_fit (and_second (array_at a.variables x) used f.arrays_fit) (own_term before own i)
        (own_term before own e) in
        let index = path_expression before i in
        let value = path_expression before e in
        record {
          scalar = done.scalar;
          array = λ y h. either_array (y == x) (Stored (s.array y) index value) (s.array y) (s.array y, index, value, refl, done.array y h, r.0, r.1)
              (done.array y h);
          port = done.port;
        }
    own_acted (Emit x e) f =
        let value = path_expression before e in
        let own_value = own_term before own e f.scalars_fit f.arrays_fit in
        record {
          scalar = done.scalar;
          array = done.array;
          port = λ y h. either_list (y == x) (Pushed (s.port y) value) (s.port y) (s.port y, value, refl, done.port y h, own_value) (done.port y h);
        }

  pub own_all : (xs : List (Assignment ℕ)) (before s : ExpressionVector) → AreOwn before → AreOwn s → list_all (is_sound_assignment a.variables) xs ≡ true
      → AreOwn (acted_all xs before s)
  own_all [] before s own done h = done
  own_all (x ∷ xs) before s own done h =
      let sound = is_sound_assignment a.variables x in
      let rest = list_all (is_sound_assignment a.variables) xs in
      own_all xs before (expressions_after x before s) own (own_acted before s own done x (fits x (and_first sound rest h))) (and_second sound rest h)

  -- ---- literals

  own_literal : (l : Literal ℕ) → is_sound_literal a.variables l ≡ true
      → Same a b (path_expression initial l.left) (path_expression initial l.left)
      × Same a b (path_expression initial l.right) (path_expression initial l.right)
  own_literal l h =
      let p = list_all (scalar_at a.variables) (uses_in_literal scalars l) in
      let q = list_all (array_at a.variables) (uses_in_literal arrays l) in
      let r = list_all is_text_number (uses_in_literal numbers l) in
      own_operands initial own_initial l.left l.right (and_first p (q && r) h) (and_first q r (and_second p (q && r) h))
      (own_term initial own_initial l.left) (own_term initial own_initial l.right)

  pub own_literals : (ls : List (Literal ℕ)) → list_all (is_sound_literal a.variables) ls ≡ true → SameLiterals a b ls ls
  own_literals [] h = refl
  own_literals (l ∷ ls) h =
      let sound = is_sound_literal a.variables l in
      let rest = list_all (is_sound_literal a.variables) ls in
      let r = own_literal l (and_first sound rest h) in
      (l, ls, refl, refl, r.0, r.1, own_literals ls (and_second sound rest h))
