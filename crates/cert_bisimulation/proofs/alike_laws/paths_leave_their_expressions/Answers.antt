use Rattle.fs_cut.specs.Paths.{steps_in}
use Rattle.cert_bisimulation.proofs.Expressions.{left_shows}
use Rattle.cert_bisimulation.proofs.alike_laws.paths_leave_their_expressions.Goals as goal

pub returns : goal.returns
returns c = record {
  scalars = λ m p s. (λ k x. (left_shows s m (steps_in p)).scalars x k);
  arrays = λ m p s. (λ k x i. (left_shows s m (steps_in p)).arrays x i k);
  ports = λ m p s. (λ k x. (left_shows s m (steps_in p)).ports x k);
}
