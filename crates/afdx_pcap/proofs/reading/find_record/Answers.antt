use Rattle.std.proofs.Common.{arith, sym, ◌≡◌, ◌∙◌, None, length, subst}
use Rattle.std.specs.Option.{option_or}
use Rattle.afdx_pcap.specs.Fault.{head_fault, data_fault}
use Rattle.afdx_pcap.proofs.Unique.{behind_begins}
use Rattle.afdx_pcap.proofs.reading.find_record.Goals as goal

pub stamp_in-requires : goal.stamp_in-requires
stamp_in-requires c =
    let f = c.args.format in
    let none = sym c.fault_behind.ensures.fault ∙ c.in-None.is in
    let begins = behind_begins f c.args.last c.args.number c.args.bytes.now
    (subst (λ h. option_or (head_fault f.resolution c.args.last c.args.number h) (data_fault c.args.number h (length c.args.bytes.now)) ≡ None) c.head_at_start-head.ensures none) in
    rw c.head_at_start-head.ensures begins.fraction

pub returns-in-None-clause-begins : goal.returns-in-None-clause-begins
returns-in-None-clause-begins c =
    let f = c.args.format in
    let none = sym c.fault_behind.ensures.fault ∙ c.in-None.is in
    let begins = behind_begins f c.args.last c.args.number c.args.bytes.now
    (subst (λ h. option_or (head_fault f.resolution c.args.last c.args.number h) (data_fault c.args.number h (length c.args.bytes.now)) ≡ None) c.head_at_start-head.ensures none) in
    rw (c.stamp_in.ensures, c.head_at_start-head.ensures) begins

pub returns-in-None-clause-whole : goal.returns-in-None-clause-whole
returns-in-None-clause-whole c =
    let f = c.args.format in
    let none = sym c.fault_behind.ensures.fault ∙ c.in-None.is in
    let begins = behind_begins f c.args.last c.args.number c.args.bytes.now
    (subst (λ h. option_or (head_fault f.resolution c.args.last c.args.number h) (data_fault c.args.number h (length c.args.bytes.now)) ≡ None) c.head_at_start-head.ensures none) in
    let whole = begins.whole in
    let captured = begins.captured in
    rw c.head_at_start-head.ensures (omega (arith, whole, captured))
