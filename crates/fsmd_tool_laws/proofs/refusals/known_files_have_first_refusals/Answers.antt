use Rattle.fsmd_tool_laws.proofs.FirstRefusals.{first_is, second_is, interface_is, certificate_is, inputs_are, inputs_of_pair_are, units_are, too_few_are}
use Rattle.fsmd_tool_laws.proofs.FirstRefusals.{binding_is, program_is, link_machine_is, link_interface_is, link_certificate_is}
use Rattle.fsmd_tool_laws.proofs.refusals.known_files_have_first_refusals.Goals as goal

pub returns-clause-machine : goal.returns-clause-machine
returns-clause-machine c = first_is

pub returns-clause-second : goal.returns-clause-second
returns-clause-second c = second_is

pub returns-clause-interface : goal.returns-clause-interface
returns-clause-interface c = interface_is

pub returns-clause-certificate : goal.returns-clause-certificate
returns-clause-certificate c = certificate_is

pub returns-clause-inputs : goal.returns-clause-inputs
returns-clause-inputs c = inputs_are

pub returns-clause-inputs_of_pair : goal.returns-clause-inputs_of_pair
returns-clause-inputs_of_pair c = inputs_of_pair_are

pub returns-clause-units : goal.returns-clause-units
returns-clause-units c = units_are

pub returns-clause-too_few_units : goal.returns-clause-too_few_units
returns-clause-too_few_units c = too_few_are

pub returns-clause-binding : goal.returns-clause-binding
returns-clause-binding c = binding_is

pub returns-clause-program : goal.returns-clause-program
returns-clause-program c = program_is

pub returns-clause-link_machine : goal.returns-clause-link_machine
returns-clause-link_machine c = link_machine_is

pub returns-clause-link_interface : goal.returns-clause-link_interface
returns-clause-link_interface c = link_interface_is

pub returns-clause-link_certificate : goal.returns-clause-link_certificate
returns-clause-link_certificate c = link_certificate_is
