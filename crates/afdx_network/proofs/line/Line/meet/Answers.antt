use Rattle.std.proofs.Common.{◌≡◌, ℕ, List, length, refl, ap, sym, ◌∙◌, arith}
use Rattle.afdx_units.specs.Line.{size_of}
use Rattle.afdx_pcap.specs.Record.{Record}
use Rattle.afdx_pairing.specs.declared.event.Mark.{Mark}
use Rattle.afdx_filter.specs.Frame.{frame_of}
use Rattle.afdx_serial.specs.Serial.{soonest}
use Rattle.afdx_network.proofs.OneLine.{stays_broken, keeps_on, breaks_on}
use Rattle.afdx_network.proofs.line.Line.meet.Goals as goal

pub returns-then-is_some-clause-come : goal.returns-then-is_some-clause-come
returns-then-is_some-clause-come c = λ records number was. stays_broken c.args.self.now records c.args.head.now.frame (sym c.is_some.ensures ∙ c.if-is_some.true) was

pub returns-then-soonest-stamp-clause-come : goal.returns-then-soonest-stamp-clause-come
returns-then-soonest-stamp-clause-come c = λ records number was.
    let old = c.args.self.now in
    let frame = c.args.head.now.frame in
    let stamp : c.ns-stamp.result ≡ frame.stamp = c.ns-stamp.ensures.same ∙ ap (λ (m : Mark). m.stamp) c.mark-mark.ensures in
    let bytes = c.bytes.ensures.bytes ∙ ap (λ (r : Record). r.bytes) c.frame.ensures in
    let soon : c.soonest-soonest.result ≡ soonest old.speed old.came (frame_of frame)
    = c.soonest-soonest.ensures ∙ ap (λ (n : ℕ). soonest old.speed old.came (record { stamp = n; size = size_of (length c.bytes.result.now) })) stamp
    ∙ ap (λ (bs : List ℕ). soonest old.speed old.came (record { stamp = frame.stamp; size = size_of (length bs) })) bytes in
    let within = c.if-soonest-stamp.true in
    let lack = c.from.ensures in
    keeps_on c.soonest_instants_decide.ensures old _ records frame c.soonest-soonest.result (sym c.is_some.ensures ∙ c.if-is_some.false) refl soon was refl refl (omega (arith, within, stamp, lack))

pub returns-else-soonest-stamp-clause-come : goal.returns-else-soonest-stamp-clause-come
returns-else-soonest-stamp-clause-come c = λ records number was.
    let old = c.args.self.now in
    let frame = c.args.head.now.frame in
    let stamp : c.ns-stamp.result ≡ frame.stamp = c.ns-stamp.ensures.same ∙ ap (λ (m : Mark). m.stamp) c.mark-mark.ensures in
    let bytes = c.bytes.ensures.bytes ∙ ap (λ (r : Record). r.bytes) c.frame.ensures in
    let soon : c.soonest-soonest.result ≡ soonest old.speed old.came (frame_of frame)
    = c.soonest-soonest.ensures ∙ ap (λ (n : ℕ). soonest old.speed old.came (record { stamp = n; size = size_of (length c.bytes.result.now) })) stamp
    ∙ ap (λ (bs : List ℕ). soonest old.speed old.came (record { stamp = frame.stamp; size = size_of (length bs) })) bytes in
    let late = c.if-soonest-stamp.false in
    let lack = c.from.ensures in
    breaks_on c.soonest_instants_decide.ensures old _ records frame c.soonest-soonest.result (sym c.is_some.ensures ∙ c.if-is_some.false) refl soon was c.mark-mark.result.number refl
    (omega (arith, late, stamp, lack)) (ap (λ (m : Mark). m.number) c.mark-mark.ensures ∙ number)
