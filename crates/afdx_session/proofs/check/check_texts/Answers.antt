use Rattle.std.proofs.Common.{List, subst}
use Rattle.afdx_pcap.specs.Record.{Record}
use Rattle.afdx_pcap.specs.Capture.{IsCapture}
use Rattle.afdx_pcap.specs.Fault.{IsFault}
use Rattle.afdx_session.specs.Texts.{texts_of}
use Rattle.afdx_session.proofs.Checks.{text_read, fault_at, sound_more, sound_all}
use Rattle.afdx_session.proofs.check.check_texts.Goals as goal

pub returns-in-Err-clause-err : goal.returns-in-Err-clause-err
returns-in-Err-clause-err g c =
    let pair = c.loop-port-item.result in
    fault_at c.loop-port.port-index (texts_of c.args.captures.now) (pair.0, pair.1.items) c.in-Err.fault c.loop-port.invariant
    (text_read c.args.captures.now c.loop-port.port-index pair c.loop-port-test.true c.loop-port-item.is)
    (subst (λ xs. IsFault xs c.in-Err.fault) c.deref.ensures.value c.in-Err.ensures.err)

pub loop-port-preserved : goal.loop-port-preserved
loop-port-preserved g c =
    let pair = c.loop-port-item.result in
    let sound = rw c.in_default.is at c.check_text.ensures.ok in
    sound_more c.loop-port.port-index (texts_of c.args.captures.now) (pair.0, pair.1.items) c.loop-port.invariant
    (text_read c.args.captures.now c.loop-port.port-index pair c.loop-port-test.true c.loop-port-item.is)
    (subst (λ xs. (records : List Record) × IsCapture xs records) c.deref.ensures.value sound)

pub returns-clause-ok : goal.returns-clause-ok
returns-clause-ok g c = sound_all c.loop-port.port-index c.args.captures.now c.loop-port-test.false c.loop-port.invariant
