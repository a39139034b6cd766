-- Facts and posts as trees of numbers, which give them back.
use Rattle.std.specs.Prelude.{◌≡◌, Bool, true, false, ℤ, ◌⊎◌, List, Option, refl}
use Rattle.std.proofs.Common.{inl, inr}
use Rattle.std.specs.Coded.{Coded, code_by, coded×, coded⊎, coded_bool, coded_ℤ, coded_list, coded_option}
use Rattle.fs_model.specs.Codes.{coded_sort}
use Rattle.fs_model.specs.declared.parts.Sort.{Sort}
use Rattle.nf_trees.specs.NormalTerms.{Polynomial}
use Rattle.nf_terms.specs.Codes.{coded_polynomial, coded_pos}
use Rattle.nf_terms.specs.FormCodes.{coded_form}
use Rattle.fs_model.specs.declared.sides.Pos.{Pos}
use Rattle.nf_terms.specs.declared.form.Nf.{Nf}
use Rattle.nf_rel.specs.declared.kind.Kind.{Kind}
use Rattle.nf_rel.specs.declared.kind.Kind.TheVariants.{Ge, Le, Eq, Ne}
use Rattle.nf_rel.specs.Literals.{NormalLiteral, True, False, Is}
use Rattle.nf_symbols.specs.VectorPlaces.{coded_vector}
use Rattle.sym_paths.specs.Execution.{Post}
use Rattle.sym_facts.specs.Facts.{FactPosition, Fact}

abbrev bits_of_kind : Kind → Bool × Bool
bits_of_kind Ge = (true, true)
bits_of_kind Le = (true, false)
bits_of_kind Eq = (false, true)
bits_of_kind Ne = (false, false)

abbrev kind_of_code : Bool × Bool → Kind
kind_of_code (true, true) = Ge
kind_of_code (true, false) = Le
kind_of_code (false, true) = Eq
kind_of_code (false, false) = Ne

pub kind_again : (k : Kind) → kind_of_code (bits_of_kind k) ≡ k
kind_again Ge = refl
kind_again Le = refl
kind_again Eq = refl
kind_again Ne = refl

abbrev pub coded_kind : Coded Kind
coded_kind = code_by (Bool × Bool) (coded× coded_bool coded_bool) bits_of_kind kind_of_code kind_again

abbrev parts_of_literal : NormalLiteral → Bool ⊎ (Polynomial × (Kind × ℤ))
parts_of_literal True = inl true
parts_of_literal False = inl false
parts_of_literal (Is d k b) = inr (d, (k, b))

abbrev literal_of_parts : Bool ⊎ (Polynomial × (Kind × ℤ)) → NormalLiteral
literal_of_parts (inl true) = True
literal_of_parts (inl false) = False
literal_of_parts (inr t) = Is t.0 t.1.0 t.1.1

pub literal_again : (l : NormalLiteral) → literal_of_parts (parts_of_literal l) ≡ l
literal_again True = refl
literal_again False = refl
literal_again (Is d k b) = refl

abbrev pub coded_normal_literal : Coded NormalLiteral
coded_normal_literal = code_by (Bool ⊎ (Polynomial × (Kind × ℤ)))
    (coded⊎ coded_bool (coded× coded_polynomial (coded× coded_kind coded_ℤ))) parts_of_literal literal_of_parts literal_again

abbrev pub coded_position : Coded FactPosition
coded_position = code_by (Pos × (Sort × Option Nf)) (coded× coded_pos (coded× coded_sort (coded_option coded_form)))
    (λ p. (p.pos, (p.sort, p.equation))) (λ t. record { pos = t.0; sort = t.1.0; equation = t.1.1 }) (λ _. refl)

abbrev pub coded_fact : Coded Fact
coded_fact = code_by (List FactPosition × List NormalLiteral)
    (coded× (coded_list coded_position) (coded_list coded_normal_literal))
    (λ f. (f.positions, f.literals)) (λ t. record { positions = t.0; literals = t.1 }) (λ _. refl)

abbrev pub coded_post : Coded Post
coded_post = code_by (List NormalLiteral × List (Pos × Nf)) (coded× (coded_list coded_normal_literal) coded_vector)
    (λ p. (p.conditions, p.vector)) (λ t. record { conditions = t.0; vector = t.1 }) (λ _. refl)
