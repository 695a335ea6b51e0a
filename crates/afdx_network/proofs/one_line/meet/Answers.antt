use Rattle.std.proofs.Common.{◌≡◌, ◌+◌, ◌++◌, ℕ, List, [], ◌∷◌, length, get_or, set, slice_get, Some, ap, sym, subst, arith}
use Rattle.std.proofs.lemmas.Option.{slice_get-get_or, slice_get_past}
use Rattle.afdx_pcap.specs.Record.{Record}
use Rattle.afdx_pairing.specs.Events.{Numbered}
use Rattle.afdx_merging.specs.Merge.{Arrival}
use Rattle.afdx_network.specs.declared.line.Line.{Line}
use Rattle.afdx_network.specs.Inner.Intake.{AreMet}
use Rattle.afdx_network.specs.Inner.OneLine.{HasBrought}
use Rattle.afdx_network.proofs.Meeting.{meets_one, meets_none}
use Rattle.afdx_network.proofs.one_line.meet.Goals as goal

pub returns-then-arrival-lines : goal.returns-then-arrival-lines
returns-then-arrival-lines c = λ net came number met.
    let lines = c.args.lines.now in
    let a = c.args.arrival.now in
    let place = c.arrival.inside.place in
    let line : Line = get_or lines place c.index-lines-arrival.result in
    let new = c.meet.new.self in
    let same : place ≡ a.place = ap (λ (x : Arrival). x.place) c.arrival.view_is in
    let at = subst (λ (n : ℕ). slice_get lines n ≡ Some line) same (slice_get-get_or lines place c.index-lines-arrival.result c.if-arrival-lines.true) in
    let on = subst (λ (h : Numbered). (records : List Record) → h.number ≡ length records + 1 → HasBrought line records → HasBrought new (records ++ h.frame ∷ []))
    (ap (λ (x : Arrival). x.head) c.arrival.view_is) c.meet.ensures.come in
    subst (λ (n : ℕ). AreMet net (set lines n new) (came ++ a ∷ [])) (sym same) (meets_one net lines came a line new at c.meet.ensures.speed on number met)

pub returns-else-arrival-lines : goal.returns-else-arrival-lines
returns-else-arrival-lines c = λ net came number met.
    let lines = c.args.lines.now in
    let a = c.args.arrival.now in
    let same = ap (λ (x : Arrival). x.place) c.arrival.view_is in
    let past = c.if-arrival-lines.false in
    meets_none net lines came a (slice_get_past lines a.place (omega (arith, same, past))) met
