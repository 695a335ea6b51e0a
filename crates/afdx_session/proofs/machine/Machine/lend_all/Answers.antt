use Rattle.std.proofs.Common.{rules, arith, ◌<◌, ◌≤◌, length, length-set, slice_index_or, refl, sym, subst, ◌∙◌, ap, Some}
use Rattle.std.proofs.lemmas.Option.{slice_get-get_or}
use Rattle.afdx_session.specs.Texts.{texts_of}
use Rattle.afdx_session.specs.Reading.{IsFaultAt}
use Rattle.afdx_session.proofs.Lending.{lends_none, lends_next, text_at, lends_fault, lends_one, lends_all}
use Rattle.afdx_session.proofs.machine.Machine.lend_all.Goals as goal

pub loop-place-init : goal.loop-place-init
loop-place-init g c = record {
  lends = lends_none c.args.self.now (texts_of c.args.captures.now) c.requires.ports c.requires.fresh c.requires.of c.requires.going;
  switch = refl;
  counts = refl;
  long = refl;
}

pub lend-requires : goal.lend-requires
lend-requires g c =
    let items = c.loop-place.self.lanes.items in
    let lt : c.loop-place.place < length items = let test = c.loop-place-test.true in let end = c.len-place-end.ensures in let long = c.loop-place.invariant.long in omega (arith, test, end, long) in
    let at = slice_get-get_or items c.loop-place.place c.index_mut.result.now lt ∙ ap Some (sym c.index_mut.ensures.value) in
    record { fresh = (lends_next c.args.self.now (texts_of c.args.captures.now) items c.loop-place.place c.index_mut.result.now c.loop-place.invariant.lends at).fresh }

pub returns-in_err-lend-clause-err : goal.returns-in_err-lend-clause-err
returns-in_err-lend-clause-err g c =
    let items = c.loop-place.self.lanes.items in
    let old = c.index_mut.result.now in
    let pair = slice_index_or c.args.captures.now c.loop-place.place c.index-captures-place.result in
    let fault = c.in_err-lend.field-0.0 in
    let lt : c.loop-place.place < length items = let test = c.loop-place-test.true in let end = c.len-place-end.ensures in let long = c.loop-place.invariant.long in omega (arith, test, end, long) in
    let at = slice_get-get_or items c.loop-place.place old lt ∙ ap Some (sym c.index_mut.ensures.value) in
    let first : c.loop-place.place < length c.args.self.now.lanes.items = let long = c.loop-place.invariant.long in omega (arith, lt, long) in
    let here = text_at c.args.self.now c.args.captures.now c.loop-place.place c.index-captures-place.result c.requires.of c.requires.ports first in
    let why = lends_fault c.args.self.now (texts_of c.args.captures.now) items c.loop-place.place old (pair.0, pair.1.items) fault c.loop-place.invariant.lends at here
    (subst (λ xs. IsFaultAt xs old.port fault) c.deref.ensures.value c.in_err-lend.ensures.err) in
    search rules

pub loop-place-preserved : goal.loop-place-preserved
loop-place-preserved g c =
    let items = c.loop-place.self.lanes.items in
    let old = c.index_mut.result.now in
    let pair = slice_index_or c.args.captures.now c.loop-place.place c.index-captures-place.result in
    let lt : c.loop-place.place < length items = let test = c.loop-place-test.true in let end = c.len-place-end.ensures in let long = c.loop-place.invariant.long in omega (arith, test, end, long) in
    let at = slice_get-get_or items c.loop-place.place old lt ∙ ap Some (sym c.index_mut.ensures.value) in
    let first : c.loop-place.place < length c.args.self.now.lanes.items = let long = c.loop-place.invariant.long in omega (arith, lt, long) in
    let here = text_at c.args.self.now c.args.captures.now c.loop-place.place c.index-captures-place.result c.requires.of c.requires.ports first in
    let read = c.in_ok-lend.ensures in
    record {
      lends = lends_one c.by_stamp_is_ordered.ensures c.merged_is_a_merge.ensures c.merged_is_by_stamp_and_port.ensures c.args.self.now (texts_of c.args.captures.now) items c.loop-place.place
          old c.lend.new.self (pair.0, pair.1.items) read.ok.0.0 c.loop-place.invariant.lends at here
          c.lend.ensures.still (c.lend.ensures.bytes ∙ c.deref.ensures.value) read.ok.0.1 read.ok.1;
      switch = c.loop-place.invariant.switch;
      counts = c.loop-place.invariant.counts;
      long = length-set items c.loop-place.place c.lend.new.self ∙ c.loop-place.invariant.long;
    }

pub returns-clause-ok : goal.returns-clause-ok
returns-clause-ok g c =
    let items = c.loop-place.self.lanes.items in
    let lends = c.loop-place.invariant.lends in
    let le : length items ≤ c.loop-place.place = let test = c.loop-place-test.false in let end = c.len-place-end.ensures in let long = c.loop-place.invariant.long in omega (arith, test, end, long) in
    let all = lends_all c.args.self.now (texts_of c.args.captures.now) items c.loop-place.place le lends in
    rw (c.loop-place.invariant.switch, c.loop-place.invariant.counts) (record { of = lends.of; handed = c.requires.handed; going = lends.going; over = all.0 }, all.1)

pub returns-clause-taken : goal.returns-clause-taken
returns-clause-taken g c = c.loop-place.invariant.lends.taken
