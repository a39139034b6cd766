use Rattle.fsmd_tool_laws.proofs.laws.certificates_of_closed_searches_pass.Goals as goal

pub returns : goal.returns
returns c =
    λ g x a b nodes e pair known closed p. c.certificates_that_hold_pass.ensures g x a b nodes e pair known
    (c.certificates_of_closed_searches_hold.ensures a b nodes closed) p
