use Rattle.std.proofs.Common.{arith}
use Rattle.afdx_pcap.proofs.record.Record.lent.Goals as goal

pub returns-else-bytes-clause-none : goal.returns-else-bytes-clause-none
returns-else-bytes-clause-none g c = omega (arith, c.if-bytes.false)
