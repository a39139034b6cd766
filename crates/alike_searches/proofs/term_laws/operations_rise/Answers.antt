use Rattle.alike_searches.proofs.RisenForms.{negation_risen}
use Rattle.alike_searches.proofs.RisenOperations.{number_rises, sum_rises, difference_rises, product_rises, quotient_rises, remainder_rises, read_rises}
use Rattle.alike_searches.proofs.RisenOperations.{write_rises}
use Rattle.alike_searches.proofs.term_laws.operations_rise.Goals as goal

pub returns : goal.returns
returns c = record {
  number = number_rises;
  sum = sum_rises;
  difference = difference_rises;
  product = product_rises;
  quotient = quotient_rises;
  remainder = remainder_rises;
  negation = negation_risen;
  read = read_rises;
  write = write_rises;
}
