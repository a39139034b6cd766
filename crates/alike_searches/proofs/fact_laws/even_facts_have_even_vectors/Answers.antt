use Rattle.std.proofs.Common.{sym, subst}
use Rattle.alike_searches.specs.Couples.{AreCouples}
use Rattle.alike_searches.proofs.Coupled.{Among, positions_couple, positions_among}
use Rattle.alike_searches.proofs.EvenVectors.{even_values, even_vector}
use Rattle.alike_searches.proofs.fact_laws.even_facts_have_even_vectors.Goals as goal

pub returns-clause-values : goal.returns-clause-values
returns-clause-values c = λ a b v ps even couples. even_values a b v even ps couples

pub returns-clause-vector : goal.returns-clause-vector
returns-clause-vector c = λ a b f sound_a sound_b same e h even. even_vector a b sound_a sound_b f.positions
    (subst (AreCouples a b) (sym e) (positions_couple a b sound_b same)) (λ x v g. subst (Among x) (sym e) (positions_among a b sound_b same x v g)) h even
