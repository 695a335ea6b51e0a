use Rattle.afdx_pcap.proofs.Streaming.{none_comes, rest_says}
use Rattle.afdx_pcap.proofs.reader.Reader.find_fault.Goals as goal

pub fault_after-self-inside-requires-clause-none : goal.fault_after-self-inside-requires-clause-none
fault_after-self-inside-requires-clause-none g c =
    rw c.as_slice.ensures (none_comes _ _ _ c.self.inside.progress c.self.invariant.0 (rw (← c.self.view_is) at c.requires))

pub returns-clause-answer : goal.returns-clause-answer
returns-clause-answer g c =
    rw (← c.self.view_is) (rest_says _ _ _ _ c.self.inside.progress _ c.self.invariant.0 c.self.invariant.1 (rw c.as_slice.ensures at c.fault_after-self-inside.ensures.answer))
