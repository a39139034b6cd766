-- What is of a pairing: its positions, each used in its sort.
use Rattle.std.specs.Prelude.{◌≡◌, Bool, ◌&&◌, IsTrue, true, List, map}
use Rattle.std.specs.List.{list_all, list_any}
use Rattle.fs_pair.specs.declared.positions.Position.{Position}
use Rattle.nf_trees.specs.Mentions.{same_pos}
use Rattle.nf_terms.specs.Symbols.{symbols_of, symbols_of_form}
use Rattle.nf_terms.specs.declared.symbols.Sort.{Sort as TermSort}
use Rattle.fs_model.specs.declared.sides.Pos.{Pos}
use Rattle.nf_terms.specs.declared.form.Nf.{Nf}
use Rattle.nf_terms.specs.Forms.{sort_of_form}
use Rattle.nf_terms.specs.TermSorts.{same_term_sort}
use Rattle.nf_rel.specs.Literals.{NormalLiteral, True, False, Is}
use Rattle.sym_paths.specs.Execution.{Post}
use Rattle.sym_facts.specs.Facts.{Fact, sort_of_terms, vector_of}

-- whether a symbol is a position and is used in its sort
abbrev pub is_position : List Position → Pos × TermSort → Bool
is_position ps x = list_any (λ p. same_pos p.pos x.0 && same_term_sort (sort_of_terms p.sort) x.1) ps

-- whether each symbol of a form, and of a literal, passes a test
abbrev pub form_within : (Pos × TermSort → Bool) → Nf → Bool
form_within test f = list_all test (symbols_of_form f)

abbrev pub literal_within : (Pos × TermSort → Bool) → NormalLiteral → Bool
literal_within test True = true
literal_within test False = true
literal_within test (Is d k b) = list_all test (symbols_of d)

-- a vector has exactly the positions, each with a form of its sort, whose symbols are positions used in their sorts
pub record IsVectorOf (ps : List Position) (v : List (Pos × Nf)) : Type 0 where
  pub positions : map (λ e. e.0) v ≡ map (λ p. p.pos) ps
  pub sorts : map (λ e. sort_of_form e.1) v ≡ map (λ p. sort_of_terms p.sort) ps
  pub symbols : IsTrue (list_all (λ e. form_within (is_position ps) e.1) v)

pub record IsPostOf (ps : List Position) (post : Post) : Type 0 where
  pub vector : IsVectorOf ps post.vector
  pub conditions : IsTrue (list_all (literal_within (is_position ps)) post.conditions)

-- a fact has exactly the positions, and its vector and its literals are of them
pub record IsFactOf (ps : List Position) (f : Fact) : Type 0 where
  pub sorts : map (λ q. q.sort) f.positions ≡ map (λ p. p.sort) ps
  pub vector : IsVectorOf ps (vector_of f.positions)
  pub literals : IsTrue (list_all (literal_within (is_position ps)) f.literals)
