use Rattle.std.proofs.Common.{rules, arith, refl, ◌≡◌, ◌+◌, ◌≤◌, ◌<◌, List, length, length-set, set, subst, sym, ◌∙◌, slice_index_or}
use Rattle.std.proofs.lemmas.Option.{slice_get-get_or}
use Rattle.afdx_merging.specs.Inner.Merging.{AreReadBy, AreAtEnd, IsFoundBefore, IsUnread}
use Rattle.afdx_merging.proofs.Failing.{of_error}
use Rattle.afdx_merging.proofs.Lists.{set_later, there}
use Rattle.afdx_merging.proofs.Stopping.{found_more, ends_more, unread_here}
use Rattle.afdx_merging.proofs.stop.fault_before.Goals as goal

pub loop-at-init : goal.loop-at-init
loop-at-init g c = record {
  room = refl;
  lanes_long = refl;
  readers_long = refl;
  lanes_later = λ k le. refl;
  readers_later = λ k le. refl;
  found = λ first long read. (λ k f lt at. absurd (omega (arith, lt)), λ k r ge lt at. absurd (omega (arith, lt)));
}

pub offset_bounds-lanes-at : goal.offset_bounds-lanes-at
offset_bounds-lanes-at g c =
    let test = c.loop-at-test.true in
    let le = c.requires.lanes in
    let lt : c.loop-at.at < length c.args.lanes.now = omega (arith, test, le) in
    search (rules, lt)

pub offset_bounds-readers-at : goal.offset_bounds-readers-at
offset_bounds-readers-at g c =
    let test = c.loop-at-test.true in
    let le = c.requires.readers in
    let lt : c.loop-at.at < length c.args.readers.now = omega (arith, test, le) in
    search (rules, lt)

pub returns-in_err-why-clause-err : goal.returns-in_err-why-clause-err
returns-in_err-why-clause-err g c =
    let rem = g.R.Read.remaining in
    let readers = c.args.readers.now in
    let lanes = c.args.lanes.now in
    let at = c.loop-at.at in
    let why = c.in_err-why.field-0.0 in
    let later = set c.loop-at.readers at c.read_through.new.reader in
    of_error (λ fault. (first : List g.row.R.Denot) → length first ≡ length readers → AreReadBy rem first readers lanes c.args.place → IsUnread rem later 0 c.args.place fault) c.from_residual.result why
    c.from_residual.ensures
    (λ first long read. unread_here rem c.loop-at.readers 0 c.args.place at c.read_through.new.reader why c.loop-at-test.true (c.loop-at.invariant.found first long read).1 c.in_err-why.ensures.err)

pub read_through-requires-clause-no_fault : goal.read_through-requires-clause-no_fault
read_through-requires-clause-no_fault g c =
    let was = c.loop-at.invariant in
    let at = c.loop-at.at in
    let in_lanes : at < length c.loop-at.lanes = let test = c.loop-at-test.true in let le = c.requires.lanes in let long = was.lanes_long in omega (arith, test, le, long) in
    let self : at ≤ at = omega (arith) in
    c.requires.no_fault at (slice_index_or c.loop-at.lanes at c.index-lanes-at.result) c.loop-at-test.true
    (sym (was.lanes_later at self) ∙ slice_get-get_or c.loop-at.lanes at c.index-lanes-at.result in_lanes)

pub loop-at-preserved : goal.loop-at-preserved
loop-at-preserved g c =
    let was = c.loop-at.invariant in
    let at = c.loop-at.at in
    let in_lanes : at < length c.loop-at.lanes = let test = c.loop-at-test.true in let le = c.requires.lanes in let long = was.lanes_long in omega (arith, test, le, long) in
    let in_readers : at < length c.loop-at.readers = let test = c.loop-at-test.true in let le = c.requires.readers in let long = was.readers_long in omega (arith, test, le, long) in
    let self : at ≤ at = omega (arith) in
    let lane = slice_index_or c.loop-at.lanes at c.index-lanes-at.result in
    let reader = slice_index_or c.loop-at.readers at c.index-readers-at.result in
    let is_lane = sym (was.lanes_later at self) ∙ slice_get-get_or c.loop-at.lanes at c.index-lanes-at.result in_lanes in
    let is_reader = sym (was.readers_later at self) ∙ slice_get-get_or c.loop-at.readers at c.index-readers-at.result in_readers in
    record {
      room = c.read_through.ensures.room ∙ was.room;
      lanes_long = length-set c.loop-at.lanes at c.read_through.new.lane ∙ was.lanes_long;
      readers_long = length-set c.loop-at.readers at c.read_through.new.reader ∙ was.readers_long;
      lanes_later = λ k le. set_later c.loop-at.lanes at k c.read_through.new.lane (omega (arith, le)) ∙ was.lanes_later k (omega (arith, le));
      readers_later = λ k le. set_later c.loop-at.readers at k c.read_through.new.reader (omega (arith, le)) ∙ was.readers_later k (omega (arith, le));
      found = λ first long read.
          let so_far = was.found first long read in
          let f = there first at (let test = c.loop-at-test.true in let le = c.requires.readers in omega (arith, test, le, long)) in
          let own = read at f.0 reader lane c.loop-at-test.true f.1 is_reader is_lane in (
            subst (IsFoundBefore g.R.Read.remaining first (at + 1)) (sym c.first_found-found.ensures)
                (found_more g.R.Read.remaining first at c.loop-at.found c.in_ok-why.why so_far.0
                (λ other is_first. let one = read at other reader lane c.loop-at-test.true is_first is_reader is_lane in (c.in_ok-why.ensures.ok other one.0 one.1).0)),
            ends_more g.R.Read.remaining c.loop-at.readers 0 at c.read_through.new.reader so_far.1 (c.in_ok-why.ensures.ok f.0 own.0 own.1).1,
          );
    }

pub returns-clause-ok : goal.returns-clause-ok
returns-clause-ok g c = λ first long read.
    let same : c.loop-at.at ≡ c.args.place = let past = c.loop-at-test.false in let end = c.loop-at.auto.at-end in omega (arith, past, end) in
    let found = c.loop-at.invariant.found first long read in (
      subst (λ n. IsFoundBefore g.R.Read.remaining first n c.loop-at.found) same found.0,
      subst (λ n. AreAtEnd g.R.Read.remaining c.loop-at.readers 0 n) same found.1,
    )
