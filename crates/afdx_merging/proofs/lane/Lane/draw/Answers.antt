use Rattle.std.proofs.Common.{◌≡◌, ◌+◌, ℕ, Option, Some, Ok, refl, ap, subst, ◌∙◌}
use Rattle.std.specs.Prelude.{is_some, if◌then◌else◌}
use Rattle.afdx_pcap.specs.Record.{Record}
use Rattle.afdx_pcap.specs.Reading.{Answers}
use Rattle.afdx_pairing.specs.Events.{numbered_of}
use Rattle.afdx_merging.specs.Merge.{moved}
use Rattle.afdx_merging.proofs.Drawing.{answered, draws_one}
use Rattle.afdx_merging.proofs.lane.Lane.draw.Goals as goal

pub returns-in-Some-clause-ok : goal.returns-in-Some-clause-ok
returns-in-Some-clause-ok g c =
    let old = c.args.self.now in
    let r = old.reader in
    let frame = c.in-Ok-Some.frame in
    let number = c.in-Some.number in
    let stamp = c.moved-stamp.result in
    let answer = answered r.fault (Answers r.bytes r.given r.closed (Ok c.in-Ok-Some.field-0)) c.requires.no_fault c.in-Ok-Some.ensures.answer in
    let next = subst (λ (o : Option Record). Answers r.bytes r.given r.closed (Ok o)) c.in-Ok-Some.field-0-is answer in
    let reader : c.next.new.self ≡ record r { given = r.given + 1 } =
    c.in-Ok-Some.ensures.ok ∙ ap (λ (o : Option Record). record r { given = (if is_some o then r.given + 1 else r.given) }) c.in-Ok-Some.field-0-is in
    let head = ap (λ (at : ℕ). Some (numbered_of number at frame)) (c.moved-stamp.ensures ∙ ap (λ (at : ℕ). moved old.clock at) c.stamp.ensures) in
    draws_one c.taken_records_are_the_first.ensures.joins old (record { clock = old.clock; reader = c.next.new.self; head = Some (numbered_of number stamp frame); count = number }) frame
    c.requires.no_fault c.requires.none next refl reader c.in-Some.ensures.1 head
