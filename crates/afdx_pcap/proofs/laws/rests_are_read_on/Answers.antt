use Rattle.afdx_pcap.proofs.Splitting.{Splits-push}
use Rattle.afdx_pcap.proofs.More.{read_up_to-more}
use Rattle.afdx_pcap.proofs.laws.rests_are_read_on.Goals as goal

pub returns : goal.returns
returns c = record { next = λ f bytes rest rs r read begins. (read.0, Splits-push f 0 _ rs rest r read.1 begins); stays = read_up_to-more }
