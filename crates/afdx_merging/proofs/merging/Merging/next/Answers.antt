use Rattle.std.proofs.Common.{◌<◌, ◌+◌, ap, sym, subst, ◌∙◌, length, None, List}
use Rattle.afdx_earliest.specs.Instants.{IsFirstIn}
use Rattle.afdx_merging.specs.declared.clock.Clock.{Clock}
use Rattle.afdx_merging.specs.Merge.{Arrival}
use Rattle.afdx_merging.specs.Read.{IsMergeFault, WereAllRead}
use Rattle.afdx_merging.specs.Inner.Merging.{dues_of, HasMerged, HaveNoFault, HasNoneAt, AreReadBy, Takes, IsAdvanced}
use Rattle.afdx_merging.proofs.Ending.{all_merged}
use Rattle.afdx_merging.proofs.Failing.{of_error}
use Rattle.afdx_merging.proofs.Firsts.{least_none}
use Rattle.afdx_merging.proofs.Going.{none_faulty, none_there, all_read, is_after, taken_long, taken_within, taken_back, merges_on, least_goes}
use Rattle.afdx_merging.proofs.merging.Merging.next.Goals as goal

pub returns-in_default-clause-none : goal.returns-in_default-clause-none
returns-in_default-clause-none g c = λ clocks first came merged.
    all_merged c.taken_records_are_the_first.ensures.ends g.R.Read.remaining clocks first c.args.readers.now c.args.self.now came
    (subst (λ ls. IsFirstIn (dues_of ls) (length ls) None) c.deref_mut.ensures.value c.in_default.ensures.none) merged

pub advance_at-requires-clause-room : goal.advance_at-requires-clause-room
advance_at-requires-clause-room g c = subst (λ ps. 0 < length ps) (sym c.deref_mut-3.ensures.value) c.requires.3.room

pub advance_at-requires-clause-place : goal.advance_at-requires-clause-place
advance_at-requires-clause-place g c =
    let v = c.args.self.now.lanes in
    let a : Arrival = record { place = c.in-Some.place; due = c.in-Some.due; head = c.in-Some.head } in
    let ws = c.take_first.new.lanes in
    let takes : Takes v.items ws a = subst (λ ls. Takes ls ws a) c.deref_mut.ensures.value c.in-Some.ensures.some in
    let is = c.deref_mut-2.ensures.value ∙ taken_back v ws a takes in
    subst (λ ls. a.place < length ls) (sym is) (taken_within v.items ws a takes)

pub advance_at-requires-clause-readers : goal.advance_at-requires-clause-readers
advance_at-requires-clause-readers g c =
    let v = c.args.self.now.lanes in
    let a : Arrival = record { place = c.in-Some.place; due = c.in-Some.due; head = c.in-Some.head } in
    let ws = c.take_first.new.lanes in
    let takes : Takes v.items ws a = subst (λ ls. Takes ls ws a) c.deref_mut.ensures.value c.in-Some.ensures.some in
    let is = c.deref_mut-2.ensures.value ∙ taken_back v ws a takes in
    c.requires.3.readers ∙ sym c.requires.3.many ∙ sym (taken_long v.items ws a takes) ∙ ap length (sym is)

pub advance_at-requires-clause-no_fault : goal.advance_at-requires-clause-no_fault
advance_at-requires-clause-no_fault g c =
    let v = c.args.self.now.lanes in
    let a : Arrival = record { place = c.in-Some.place; due = c.in-Some.due; head = c.in-Some.head } in
    let ws = c.take_first.new.lanes in
    let takes : Takes v.items ws a = subst (λ ls. Takes ls ws a) c.deref_mut.ensures.value c.in-Some.ensures.some in
    let is = c.deref_mut-2.ensures.value ∙ taken_back v ws a takes in
    subst (λ ls. HaveNoFault ls (a.place + 1)) (sym is)
    (none_faulty g.R.Read.remaining c.requires.0 c.requires.1 c.args.readers.now c.args.self.now c.requires.2 ws a (a.place + 1) c.requires.3 takes)

pub advance_at-requires-clause-none : goal.advance_at-requires-clause-none
advance_at-requires-clause-none g c =
    let v = c.args.self.now.lanes in
    let a : Arrival = record { place = c.in-Some.place; due = c.in-Some.due; head = c.in-Some.head } in
    let ws = c.take_first.new.lanes in
    let takes : Takes v.items ws a = subst (λ ls. Takes ls ws a) c.deref_mut.ensures.value c.in-Some.ensures.some in
    let is = c.deref_mut-2.ensures.value ∙ taken_back v ws a takes in
    subst (λ ls. HasNoneAt ls a.place) (sym is) (none_there v.items ws a takes)

pub returns-in_err-advance_at-clause-err : goal.returns-in_err-advance_at-clause-err
returns-in_err-advance_at-clause-err g c =
    let rem = g.R.Read.remaining in
    let m = c.args.self.now in
    let readers = c.args.readers.now in
    let a : Arrival = record { place = c.in-Some.place; due = c.in-Some.due; head = c.in-Some.head } in
    let ws = c.take_first.new.lanes in
    let takes : Takes m.lanes.items ws a = subst (λ ls. Takes ls ws a) c.deref_mut.ensures.value c.in-Some.ensures.some in
    let is = c.deref_mut-2.ensures.value ∙ taken_back m.lanes ws a takes in
    let why = c.in_err-advance_at.field-0.0 in
    of_error (λ fault. (clocks : List Clock) (first : List g.row.R.Denot) (came : List Arrival) → HasMerged rem clocks first readers m came → IsMergeFault rem first fault) c.from_residual.result why
    c.from_residual.ensures
    (λ clocks first came merged. (c.in_err-advance_at.ensures.err first (merged.long ∙ sym merged.readers)
    (subst (λ ls. AreReadBy rem first readers ls (a.place + 1)) (sym is) (all_read rem clocks first readers m came ws a (a.place + 1) merged takes))).0)

pub returns-in_err-advance_at-clause-read : goal.returns-in_err-advance_at-clause-read
returns-in_err-advance_at-clause-read g c =
    let rem = g.R.Read.remaining in
    let m = c.args.self.now in
    let readers = c.args.readers.now in
    let merged = c.requires.3 in
    let a : Arrival = record { place = c.in-Some.place; due = c.in-Some.due; head = c.in-Some.head } in
    let ws = c.take_first.new.lanes in
    let takes : Takes m.lanes.items ws a = subst (λ ls. Takes ls ws a) c.deref_mut.ensures.value c.in-Some.ensures.some in
    let is = c.deref_mut-2.ensures.value ∙ taken_back m.lanes ws a takes in
    let why = c.in_err-advance_at.field-0.0 in
    of_error (λ fault. WereAllRead rem c.advance_at.new.readers fault) c.from_residual.result why c.from_residual.ensures
    ((c.in_err-advance_at.ensures.err c.requires.1 (merged.long ∙ sym merged.readers)
    (subst (λ ls. AreReadBy rem c.requires.1 readers ls (a.place + 1)) (sym is) (all_read rem c.requires.0 c.requires.1 readers m c.requires.2 ws a (a.place + 1) merged takes))).1)

pub returns-clause-some : goal.returns-clause-some
returns-clause-some g c = λ clocks first came merged.
    let rem = g.R.Read.remaining in
    let m = c.args.self.now in
    let readers = c.args.readers.now in
    let a : Arrival = record { place = c.in-Some.place; due = c.in-Some.due; head = c.in-Some.head } in
    let ws = c.take_first.new.lanes in
    let takes : Takes m.lanes.items ws a = subst (λ ls. Takes ls ws a) c.deref_mut.ensures.value c.in-Some.ensures.some in
    let is = c.deref_mut-2.ensures.value ∙ taken_back m.lanes ws a takes in
    let on = subst (λ ls. IsAdvanced rem readers c.advance_at.new.readers ls c.advance_at.new.lanes a.place) is c.in_ok-advance_at.ensures.ok in (
      merges_on rem clocks first readers c.advance_at.new.readers m came ws c.advance_at.new.lanes c.advance_at.new.piece a merged takes on
          (c.in_ok-advance_at.ensures.room ∙ ap length c.deref_mut-3.ensures.value),
      is_after rem clocks first readers m came ws a merged takes,
    )

pub returns-in_default-clause-none_left : goal.returns-in_default-clause-none_left
returns-in_default-clause-none_left g c =
    least_none c.args.self.now.lanes.items (subst (λ ls. IsFirstIn (dues_of ls) (length ls) None) c.deref_mut.ensures.value c.in_default.ensures.none)

pub returns-clause-least : goal.returns-clause-least
returns-clause-least g c =
    let rem = g.R.Read.remaining in
    let m = c.args.self.now in
    let readers = c.args.readers.now in
    let a : Arrival = record { place = c.in-Some.place; due = c.in-Some.due; head = c.in-Some.head } in
    let ws = c.take_first.new.lanes in
    let takes : Takes m.lanes.items ws a = subst (λ ls. Takes ls ws a) c.deref_mut.ensures.value c.in-Some.ensures.some in
    let is = c.deref_mut-2.ensures.value ∙ taken_back m.lanes ws a takes in
    let on = subst (λ ls. IsAdvanced rem readers c.advance_at.new.readers ls c.advance_at.new.lanes a.place) is c.in_ok-advance_at.ensures.ok in
    least_goes rem c.requires.0 c.requires.1 readers c.advance_at.new.readers m c.requires.2 ws c.advance_at.new.lanes c.advance_at.new.piece a c.requires.3 takes on
    (c.in_ok-advance_at.ensures.room ∙ ap length c.deref_mut-3.ensures.value)
