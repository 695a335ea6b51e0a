use Rattle.std.proofs.Common.{ap}
use Rattle.afdx_pcap.specs.Record.{Record}
use Rattle.afdx_pcap.proofs.record.Record.original.Goals as goal

pub returns : goal.returns
returns g c = ap (λ (r : Record). r.original) c.self.view_is
