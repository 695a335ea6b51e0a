use Rattle.afdx_pcap.proofs.Written.{text_is_capture}
use Rattle.afdx_pcap.proofs.laws.what_is_written_is_a_capture.Goals as goal

pub returns : goal.returns
returns c = text_is_capture
