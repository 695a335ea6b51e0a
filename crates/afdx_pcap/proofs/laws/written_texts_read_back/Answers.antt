use Rattle.afdx_pcap.proofs.ReadBack.{written_texts_read_back}
use Rattle.afdx_pcap.proofs.laws.written_texts_read_back.Goals as goal

pub returns : goal.returns
returns c = written_texts_read_back
