-- Outputs over a vector.
use Rattle.std.specs.Prelude.{cond, List, Some, None}
use Rattle.fs_pair.specs.PairedOutputs.{OutputPair}
use Rattle.nf_terms.specs.Computed.{Done}
use Rattle.fs_model.specs.declared.sides.Pos.{Pos}
use Rattle.nf_terms.specs.declared.form.Nf.{Nf}
use Rattle.cert_model.specs.Obligations.{Judged, same_forms}
use Rattle.cert_model.specs.declared.reason.Reason.TheVariants as reason

abbrev pub output_over : List (Pos × Nf) → OutputPair → Judged
output_over v o = Done (cond (same_forms v o.sort o.left o.right) None (Some (reason.Output o.left)))
