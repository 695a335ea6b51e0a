use Rattle.afdx_port.proofs.Admitted.{admitted_fit, admitted_in_order}
use Rattle.afdx_port.proofs.laws.admitted_fit_in_order.Goals as goal

pub returns-clause-fit : goal.returns-clause-fit
returns-clause-fit c = admitted_fit

pub returns-clause-order : goal.returns-clause-order
returns-clause-order c = admitted_in_order
