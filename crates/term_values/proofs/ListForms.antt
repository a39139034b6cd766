-- A list of the parts that a written one stands for.
use Rattle.std.proofs.Common.{◌≡◌, List, map, sym, ap, ◌∙◌}
use Rattle.nf_terms.specs.declared.tree.SeqBase.{SeqBase}
use Rattle.nf_trees.specs.NormalTerms.{Polynomial}
use Rattle.nf_terms.specs.Lists.{ListTerm}
use Rattle.term_text.specs.declared.tree.WrittenPolynomial.{WrittenPolynomial}
use Rattle.term_text.specs.declared.tree.WrittenList.{WrittenList}
use Rattle.term_text.specs.View.{written_polynomial_in, list_base_in, written_list_in}
use Rattle.term_values.specs.TermValues.{Interpretation, polynomial_value, list_base, list_value}
use Rattle.term_values.proofs.Lists.{list_is}

abbrev pub list_of : SeqBase → List Polynomial → ListTerm
list_of b ps = record { base = b; items = ps }

same_parts : (b c : SeqBase) (ps qs : List Polynomial) → b ≡ c → ps ≡ qs → list_of b ps ≡ list_of c qs
same_parts b c ps qs e f = λ k. record { base = e k; items = f k }

pub parts_make : (r : Interpretation) (w : WrittenList) (slice : List WrittenPolynomial) (b : SeqBase) (ps : List Polynomial) → slice ≡ w.items.items
    → ps ≡ map (polynomial_value r) (map written_polynomial_in slice) → b ≡ list_base r (list_base_in w.base) → list_of b ps ≡ list_value r (written_list_in w)
parts_make r w slice b ps e f h =
    same_parts b (list_base r (list_base_in w.base)) ps (map (polynomial_value r) (map written_polynomial_in w.items.items)) h
    (f ∙ ap (λ xs. map (polynomial_value r) (map written_polynomial_in xs)) e) ∙ sym (list_is r w)
