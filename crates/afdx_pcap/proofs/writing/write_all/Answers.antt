use Rattle.afdx_pcap.proofs.Written.{written_all, written_more, limits_more}
use Rattle.afdx_pcap.proofs.writing.write_all.Goals as goal

pub loop-record-preserved : goal.loop-record-preserved
loop-record-preserved g c =
    let rs = c.args.records.now in
    let i = c.loop-record.record-index in
    let r = c.record-item.result in
    record {
      text = written_more rs i r c.loop-record.out.items c.write_record.new.out.items c.loop-record-test.true c.record-item.is c.loop-record.invariant.text c.in_ok-write_record.ensures.ok;
      limits = limits_more rs i r c.loop-record-test.true c.record-item.is c.loop-record.invariant.limits c.in_ok-write_record.ensures.limit;
    }

pub returns-clause-again : goal.returns-clause-again
returns-clause-again g c = written_all c.args.records.now c.loop-record.record-index c.loop-record.out.items c.loop-record-test.false c.loop-record.invariant.text c.loop-record.invariant.limits
