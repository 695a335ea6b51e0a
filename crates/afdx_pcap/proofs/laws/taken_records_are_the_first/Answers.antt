use Rattle.afdx_pcap.proofs.Splitting.{last_stamp-push}
use Rattle.afdx_pcap.proofs.Taking.{next_joins, taken_stay, next_in_order, taken_are_all}
use Rattle.afdx_pcap.proofs.laws.taken_records_are_the_first.Goals as goal

pub returns : goal.returns
returns c = record { joins = next_joins; stays = taken_stay; in_order = next_in_order; latest = last_stamp-push 0; ends = taken_are_all }
