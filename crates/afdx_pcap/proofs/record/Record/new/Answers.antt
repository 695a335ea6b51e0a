use Rattle.std.proofs.Common.{arith, refl}
use Rattle.afdx_pcap.proofs.record.Record.new.Goals as goal

pub returns-then-len-clause-err : goal.returns-then-len-clause-err
returns-then-len-clause-err g c = (omega (arith, c.if-len.true, c.len.ensures), refl)
