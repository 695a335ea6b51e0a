use Rattle.afdx_pcap.proofs.More.{IsEarlyFault-more}
use Rattle.afdx_pcap.proofs.laws.early_faults_stay.Goals as goal

pub returns : goal.returns
returns c = IsEarlyFault-more
