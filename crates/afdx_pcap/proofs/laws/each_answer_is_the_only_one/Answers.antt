use Rattle.afdx_pcap.proofs.Answering.{one_answer}
use Rattle.afdx_pcap.proofs.laws.each_answer_is_the_only_one.Goals as goal

pub returns : goal.returns
returns c = one_answer
