use Rattle.afdx_pcap.proofs.Written.{capture_text-push}
use Rattle.afdx_pcap.proofs.laws.one_more_record_is_appended.Goals as goal

pub returns : goal.returns
returns c = capture_text-push
