use Rattle.afdx_core.proofs.Runs.{begun, takes, advances, finished}
use Rattle.afdx_core.proofs.laws.calls_make_runs.Goals as goal

pub returns-clause-begin : goal.returns-clause-begin
returns-clause-begin c = begun

pub returns-clause-arrivals : goal.returns-clause-arrivals
returns-clause-arrivals c = takes

pub returns-clause-advance : goal.returns-clause-advance
returns-clause-advance c = advances

pub returns-clause-handing : goal.returns-clause-handing
returns-clause-handing c = λ r place h. record { arrivals = h.arrivals; stamps = h.stamps; latest = h.latest }

pub returns-clause-finish : goal.returns-clause-finish
returns-clause-finish c = finished
