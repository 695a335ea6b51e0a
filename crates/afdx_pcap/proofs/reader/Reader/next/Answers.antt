use Rattle.std.proofs.Common.{◌≡◌, false}
use Rattle.afdx_pcap.specs.declared.fault.PcapFault.TheVariants.{Memory}
use Rattle.afdx_pcap.specs.Reading.{HasNext, IsNext}
use Rattle.afdx_pcap.proofs.Streaming.{comes_next, comes_not, comes_on, if_none, placed_on}
use Rattle.afdx_pcap.proofs.reader.Reader.next.Goals as goal

pub returns-in_default-record-clause-memory : goal.returns-in_default-record-clause-memory
returns-in_default-record-clause-memory g c =
    let r = c.args.self.now in
    let came = rw c.as_slice.ensures at c.in-Some-next_record.ensures.comes in
    let next = comes_next _ _ _ c.self.inside.progress _ c.self.invariant.0 came in
    let copied : Memory ≡ Memory → HasNext r.bytes r.given × (r.lent ≡ false) = λ memory. rw (← c.self.view_is) ((_, next), c.in_default-record.ensures.err) in
    if_none r.fault copied

pub invariant_of-self-in-Some-next_record : goal.invariant_of-self-in-Some-next_record
invariant_of-self-in-Some-next_record g c =
    let came = rw c.as_slice.ensures at c.in-Some-next_record.ensures.comes in
    rw (c.record.ensures.bytes, c.record.ensures.same)
    (comes_on _ _ _ c.self.inside.progress _ c.self.invariant.0 came, placed_on _ _ c.self.inside.progress _ c.self.invariant.1 came, c.self.invariant.2)

pub find_fault-requires : goal.find_fault-requires
find_fault-requires g c =
    rw (← c.self.view_is) (comes_not _ _ _ c.self.inside.progress c.self.invariant.0 (rw c.as_slice.ensures at c.in-None.ensures.none))

pub returns-in-Ok-clause-answer : goal.returns-in-Ok-clause-answer
returns-in-Ok-clause-answer g c =
    let r = c.args.self.now in
    let came = rw c.as_slice.ensures at c.in-Some-next_record.ensures.comes in
    let found = comes_next _ _ _ c.self.inside.progress _ c.self.invariant.0 came in
    let next : IsNext r.bytes r.given c.in-Ok.record = rw (← c.self.view_is, c.in-Ok.ensures.ok) found in
    if_none r.fault next
