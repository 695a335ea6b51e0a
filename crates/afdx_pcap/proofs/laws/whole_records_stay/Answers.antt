use Rattle.afdx_pcap.proofs.More.{Holds-more}
use Rattle.afdx_pcap.proofs.Unique.{one_prefix}
use Rattle.afdx_pcap.proofs.laws.whole_records_stay.Goals as goal

pub returns : goal.returns
returns c = record { stay = Holds-more; unique = one_prefix }
