use Rattle.afdx_pcap.proofs.Taking.{taken_begin}
use Rattle.afdx_pcap.proofs.laws.taken_records_begin_the_capture.Goals as goal

pub returns : goal.returns
returns c = taken_begin
