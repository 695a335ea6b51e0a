use Rattle.std.proofs.Common.{◌≡◌, ◌<◌, List, [], ◌∷◌, ◌++◌, length, get_or, map, Option, Some, refl, sym, ap, subst, ◌∙◌, arith}
use Rattle.std.specs.Prelude.{IfSome}
use Rattle.std.proofs.lemmas.List.{length-map}
use Rattle.std.proofs.lemmas.Option.{slice_get_read}
use Rattle.afdx_units.specs.Time.{earlier_of}
use Rattle.afdx_merging.specs.declared.clock.Clock.{Clock}
use Rattle.afdx_merging.specs.Merge.{Arrival, IsAfter, same_clock}
use Rattle.afdx_merging.specs.Inner.Merging.{HasMerged, least_of}
use Rattle.afdx_wiring.specs.declared.layout.End.{End}
use Rattle.afdx_network.specs.Given.{open_ends}
use Rattle.afdx_network.specs.Inner.Intake.{AreMet}
use Rattle.afdx_network.specs.declared.line.Line.{Line}
use Rattle.afdx_network.proofs.Answering.{written_back}
use Rattle.afdx_network.proofs.Meeting.{next_number}
use Rattle.afdx_network.proofs.Taking.{place_within, takes_next, fault_among, fault_there}
use Rattle.afdx_network.proofs.intake.Intake.next.Goals as goal

pub next-requires : goal.next-requires
next-requires g c =
    let t = c.requires in
    (map (λ (e : End). same_clock) (open_ends t.0), t.1, t.2, t.3.merged)

pub index-to-requires : goal.index-to-requires
index-to-requires g c =
    let rem = g.R.Read.remaining in
    let t = c.requires in
    let old = c.args.self.now in
    let next = subst (λ (o : Option Arrival). IfSome o (λ x. (clocks : List Clock) (first : List g.row.R.Denot) (came : List Arrival) → HasMerged rem clocks first c.args.readers.now old.merging came
    → HasMerged rem clocks first c.next.new.readers c.next.new.self (came ++ x ∷ []) × IsAfter clocks came x)) c.in-Ok-Some.field-0-is c.in-Ok-Some.ensures.some in
    let on = next (map (λ (e : End). same_clock) (open_ends t.0)) t.1 t.2 t.3.merged in
    let within = place_within rem t.0 t.1 c.next.new.readers old.ends.items c.next.new.self t.2 c.in-Ok-Some.arrival t.3.ends on.0 in
    let long = old.ends.ok.0 in
    let lt : c.in-Ok-Some.arrival.place < old.ends.len = omega (arith, within, long) in
    rw (ap (λ (x : Arrival). x.place) c.arrival.view_is) lt

pub returns-in_ok-frame-in-Ok-Some-clause-some : goal.returns-in_ok-frame-in-Ok-Some-clause-some
returns-in_ok-frame-in-Ok-Some-clause-some g c = λ net first came taken.
    let rem = g.R.Read.remaining in
    let old = c.args.self.now in
    let a : Arrival = c.in-Ok-Some.arrival in
    let next = subst (λ (o : Option Arrival). IfSome o (λ x. (clocks : List Clock) (first : List g.row.R.Denot) (came : List Arrival) → HasMerged rem clocks first c.args.readers.now old.merging came
    → HasMerged rem clocks first c.next.new.readers c.next.new.self (came ++ x ∷ []) × IsAfter clocks came x)) c.in-Ok-Some.field-0-is c.in-Ok-Some.ensures.some in
    let on = next (map (λ (e : End). same_clock) (open_ends net)) first came taken.merged in
    let least = subst (λ (o : Option Arrival). IfSome o (λ x. earlier_of (Some x.head.frame.stamp) (least_of c.next.new.self.lanes.items) ≡ least_of old.merging.lanes.items))
    c.in-Ok-Some.field-0-is c.in-Ok-Some.ensures.least in
    let within = place_within rem net first c.next.new.readers old.ends.items c.next.new.self came a taken.ends on.0 in
    let number = next_number rem (map (λ (e : End). same_clock) (open_ends net)) first c.next.new.readers c.next.new.self came a on.0 in
    let value = c.deref_mut.ensures.value in
    let met = c.meet.ensures net came number (subst (λ (lines : List Line). AreMet net lines came) (sym value) taken.met) in
    let kept = c.meet.auto.lines ∙ ap (λ (lines : List Line). length lines) value in
    let long = old.lines.ok.0 in
    let back = written_back old.lines.items c.meet.new.lines old.lines.len kept (omega (arith, long)) in
    takes_next rem net first c.args.readers.now c.next.new.readers old _ came a c.index-to.result.now c.in_ok-frame-in-Ok-Some.frame taken refl
    (subst (λ (lines : List Line). AreMet net lines (came ++ a ∷ [])) (sym back) met) on.0 on.1
    (slice_get_read old.ends.items (length old.ends.items) a.place c.index-to.result.now refl within
    (c.index-to.ensures ∙ ap (λ n. get_or old.ends.items n c.index-to.result.now) (ap (λ (x : Arrival). x.place) c.arrival.view_is)))
    (c.in_ok-frame-in-Ok-Some.ensures ∙ ap (λ (x : Arrival). x.head.frame) c.arrival.view_is) least

pub fault_at-requires : goal.fault_at-requires
fault_at-requires g c =
    let t = c.requires in
    fault_among g.R.Read.remaining t.1 c.deref.result.now c.in-Err.fault
    (t.3.merged.long ∙ length-map (open_ends t.0) (λ (e : End). same_clock) ∙ ap (λ (es : List End). length es) (sym (c.deref.ensures.value ∙ t.3.ends)))
    (c.in-Err.ensures.err (map (λ (e : End). same_clock) (open_ends t.0)) t.1 t.2 t.3.merged)

pub returns-in-Err-clause-err : goal.returns-in-Err-clause-err
returns-in-Err-clause-err g c = λ net first came taken.
    fault_there g.R.Read.remaining net first c.deref.result.now c.in-Err.fault c.fault_at.result (c.deref.ensures.value ∙ taken.ends)
    (c.in-Err.ensures.err (map (λ (e : End). same_clock) (open_ends net)) first came taken.merged) c.fault_at.ensures
