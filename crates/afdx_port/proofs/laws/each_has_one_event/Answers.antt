use Rattle.std.proofs.Common.{cond}
use Rattle.afdx_port.proofs.Room.{sum_by-service}
use Rattle.afdx_port.proofs.laws.each_has_one_event.Goals as goal

pub returns : goal.returns
returns c = λ s free items kind. sum_by-service (λ item. cond (kind item) 1 0) s free items
