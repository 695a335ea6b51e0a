use Rattle.std.proofs.Common.{◌≡◌, length, arith, ap}
use Rattle.afdx_pcap.proofs.Written.{length_more}
use Rattle.afdx_pcap.proofs.writing.text_length.Goals as goal

pub loop-record-preserved : goal.loop-record-preserved
loop-record-preserved g c =
    let r = c.record-item.result in
    let longer = length_more c.args.records.now c.loop-record.record-index r c.loop-record-test.true c.record-item.is in
    let same : length c.bytes.result.now ≡ length r.bytes = ap length c.bytes.ensures.bytes in
    rw longer (omega arith)
