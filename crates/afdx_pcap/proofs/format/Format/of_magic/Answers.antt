use Rattle.std.proofs.Common.{refl}
use Rattle.afdx_pcap.proofs.format.Format.of_magic.Goals as goal

pub returns-in-2712847316 : goal.returns-in-2712847316
returns-in-2712847316 c = rw c.in-2712847316.is refl
