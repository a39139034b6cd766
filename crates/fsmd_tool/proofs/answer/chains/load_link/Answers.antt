use Rattle.std.proofs.Common.{◌+◌, refl, arith}
use Rattle.fsmd_tool.proofs.Later.{read_both}
use Rattle.fsmd_tool.proofs.Loads.{loads_on, at_most_on, fewer}
use Rattle.fsmd_tool.proofs.InOrder.{refused_on}
use Rattle.fsmd_tool.proofs.Linked.{next_refused_as, certificate_refused}
use Rattle.fsmd_tool.proofs.answer.chains.load_link.Goals as goal

pub returns-in_err-next-clause-refused : goal.returns-in_err-next-clause-refused
returns-in_err-next-clause-refused g c = refused_on _ c.from_residual.result _ c.from_residual.ensures.1
    (next_refused_as c.args.last.now c.args.file _ _ c.in_err-next.ensures.refused)

pub returns-in_err-cert-clause-refused : goal.returns-in_err-cert-clause-refused
returns-in_err-cert-clause-refused g c =
    refused_on _ c.from_residual-in_err-cert.result _ c.from_residual-in_err-cert.ensures.1
    (certificate_refused _ _ _ _ c.args.last.now c.in_ok-next.next.machine c.args.file _ c.load_next.ensures.only_read c.load_next.ensures.loads
    c.load_certificate.ensures.loads c.in_ok-next.ensures.spells
    c.in_ok-next.ensures.alike c.in_err-cert.ensures.refused)

pub returns-in_err-next-clause-at_most : goal.returns-in_err-next-clause-at_most
returns-in_err-next-clause-at_most g c = fewer _ c.args.file 1 2 _ _ (omega arith) c.load_next.ensures.at_most

pub returns-in_err-cert-clause-at_most : goal.returns-in_err-cert-clause-at_most
returns-in_err-cert-clause-at_most g c =
    at_most_on _ c.args.file 1 1 (c.args.file + 1) 2 _ _ _ refl (omega arith) c.load_next.ensures.loads c.load_certificate.ensures.at_most

pub returns-clause-at_most : goal.returns-clause-at_most
returns-clause-at_most g c =
    at_most_on _ c.args.file 1 1 (c.args.file + 1) 2 _ _ _ refl (omega arith) c.load_next.ensures.loads c.load_certificate.ensures.at_most

pub returns-clause-loads : goal.returns-clause-loads
returns-clause-loads g c =
    loads_on _ c.args.file 1 1 (c.args.file + 1) 2 _ _ _ refl (omega arith) c.load_next.ensures.loads c.load_certificate.ensures.loads

pub returns-in_err-cert-clause-only_read : goal.returns-in_err-cert-clause-only_read
returns-in_err-cert-clause-only_read g c = read_both _ _ _ c.load_next.ensures.only_read c.load_certificate.ensures.only_read

pub returns-clause-only_read : goal.returns-clause-only_read
returns-clause-only_read g c = read_both _ _ _ c.load_next.ensures.only_read c.load_certificate.ensures.only_read
