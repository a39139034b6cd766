-- What a post entails.
use Rattle.std.specs.Prelude.{ℕ, ◌+◌, ◌==◌, ◌&&◌, Bool, true, false, cond, List, [], ◌∷◌, length, Option, Some, None}
use Rattle.fs_model.specs.declared.parts.Rel.{Rel}
use Rattle.fs_model.specs.declared.parts.Rel.TheVariants as rel
use Rattle.nf_terms.specs.Forms.{same_form}
use Rattle.nf_terms.specs.Computed.{Computed, Done, after}
use Rattle.fs_model.specs.declared.sides.Pos.{Pos}
use Rattle.nf_terms.specs.declared.form.Nf.{Nf}
use Rattle.nf_terms.specs.declared.form.Nf.TheVariants.{Num, Arr, Seq}
use Rattle.nf_sums.specs.Operations.{number}
use Rattle.nf_symbols.specs.Vectors.{number_at, array_form, list_at}
use Rattle.nf_symbols.specs.Substitution.{polynomial_substituted, array_substituted, list_substituted}
use Rattle.nf_symbols.specs.StayingTerms.{terms_stay}
use Rattle.nf_rel.specs.declared.kind.Kind.{Kind}
use Rattle.nf_rel.specs.declared.kind.Kind.TheVariants.{Ge, Le, Eq, Ne}
use Rattle.nf_rel.specs.Literals.{NormalLiteral, True, False, Is, literal, is_implied}
use Rattle.sym_paths.specs.Sequences.{each}
use Rattle.sym_paths.specs.Execution.{Post}
use Rattle.sym_facts.specs.Facts.{Fact}

-- a form with the vector's forms in place of its symbols
abbrev pub form_substituted : List (Pos × Nf) → Nf → Computed Nf
form_substituted v (Num p) = after (polynomial_substituted v p) (λ q. Done (Num q))
form_substituted v (Arr a) = after (array_substituted v a) (λ b. Done (Arr b))
form_substituted v (Seq l) = after (list_substituted v l) (λ m. Done (Seq m))

-- whether a form is a number over symbols that a vector has for themselves, in no monomial too many
abbrev pub leaves_form : List (Pos × Nf) → Nf → Bool
leaves_form v (Num p) = terms_stay v p
leaves_form v (Arr a) = false
leaves_form v (Seq l) = false

-- what a vector has at a position, of the sort of a form
abbrev pub form_like : List (Pos × Nf) → Pos → Nf → Nf
form_like v p (Num q) = Num (number_at v p)
form_like v p (Arr a) = Arr (array_form v p)
form_like v p (Seq l) = Seq (list_at v p)

-- whether the arriving form of a position is its equation's, substituted
abbrev pub equation_met : List (Pos × Nf) → Pos → Option Nf → Computed Bool
equation_met v p None = Done true
equation_met v p (Some f) = after (form_substituted v f) (λ g. Done (same_form (form_like v p f) g))

abbrev pub relation_of : Kind → Rel
relation_of Ge = rel.Ge
relation_of Le = rel.Le
relation_of Eq = rel.Eq
relation_of Ne = rel.Ne

-- the direction substituted, in the same relation to the number bound
abbrev pub literal_substituted : List (Pos × Nf) → NormalLiteral → Computed NormalLiteral
literal_substituted v True = Done True
literal_substituted v False = Done False
literal_substituted v (Is d k b) = after (polynomial_substituted v d) (λ e. after (number b) (λ c. literal (relation_of k) e c))

-- whether a literal, substituted, is implied by the arriving conditions
abbrev pub literal_met : Post → NormalLiteral → Computed Bool
literal_met post l = after (literal_substituted post.vector l) (λ m. Done (is_implied post.conditions m))

-- the places of those that are false, from k on
abbrev pub false_places : ℕ → List Bool → List ℕ
false_places k [] = []
false_places k (b ∷ bs) = cond b (false_places (k + 1) bs) (k ∷ false_places (k + 1) bs)

-- the equations, by place, and the literals, by index, that do not hold
pub record Missing : Type 0 where
  pub equations : List ℕ
  pub literals : List ℕ

-- what of a fact a post does not entail: positions before literals, each in order
abbrev pub entails : Post → Fact → Computed Missing
entails post f =
    after (each (λ p. equation_met post.vector p.pos p.equation) f.positions)
    (λ es. after (each (λ l. literal_met post l) f.literals) (λ ls.
    Done (record { equations = false_places 0 es; literals = false_places 0 ls })))

abbrev pub is_nothing : Missing → Bool
is_nothing x = (length x.equations == 0) && (length x.literals == 0)
