use Rattle.std.proofs.Common.{◌++◌, [], ℕ, max, List, length, append_assoc, refl, ap, sym, ◌∙◌, arith, subst}
use Rattle.afdx_units.specs.Time.{last_instant, earlier_of}
use Rattle.afdx_units.proofs.Earlier.{neither}
use Rattle.afdx_network.specs.declared.fault.NetworkRunFault.TheVariants as fault
use Rattle.afdx_network.specs.declared.fault.Stop.TheVariants as stop
use Rattle.afdx_network.specs.Inner.Intake.{HasTaken, next_of}
use Rattle.afdx_network.specs.Inner.Outputs.{HaveGone}
use Rattle.afdx_network.specs.Inner.Sites.{IsFirst}
use Rattle.afdx_network.specs.Inner.Windows.{IsStop}
use Rattle.afdx_network.proofs.Answering.{of_error}
use Rattle.afdx_network.proofs.Choosing.{sooner, no_sooner}
use Rattle.afdx_network.proofs.Going.{run_begins, way_later, opens_at, window_on, goes_then, going_handed, none_came_late, soon_before, run_is_quiet, run_ends, stops, next_early, none_then}
use Rattle.afdx_network.proofs.Going.{gone_as_many, same_gone, reached_by, no_memory}
use Rattle.afdx_network.proofs.Noting.{noted_handed}
use Rattle.afdx_network.proofs.Rounds.{still_going}
use Rattle.afdx_network.proofs.windows.go_through.Goals as goal

pub loop-alloc-init : goal.loop-alloc-init
loop-alloc-init g c = record {
  run = run_begins g.R.Read.remaining c.args.network.now c.args.readers.now c.args.intake.now c.args.sites.now c.requires.going c.requires.all;
  files = c.requires.files;
  gone = λ start have. have;
  noted = λ keeps known. known;
}

pub loop-alloc-smaller : goal.loop-alloc-smaller
loop-alloc-smaller g c =
    let later = c.end_of-end.ensures.later (sooner c.loop-alloc.end last_instant c.loop-alloc-test.ensures) in
    let most = c.loop-alloc.invariant.run.most in
    omega (arith, later, most)

pub take_in-requires-clause-going : goal.take_in-requires-clause-going
take_in-requires-clause-going g c = still_going c.loop-alloc.end c.loop-alloc.sites c.loop-alloc.invariant.run.going

pub take_in-requires-clause-on : goal.take_in-requires-clause-on
take_in-requires-clause-on g c =
    let taken = c.requires.on in
    let now = c.loop-alloc.invariant.run.taken taken.0 taken.1 taken.2 in
    (c.args.network.now, taken.0, taken.1 ++ now.0, now.1, c.loop-alloc.invariant.run.all)

pub window-requires-clause-all : goal.window-requires-clause-all
window-requires-clause-all g c = c.take_in.auto.sites ∙ c.loop-alloc.invariant.run.all

pub window-requires-clause-in_order : goal.window-requires-clause-in_order
window-requires-clause-in_order g c =
    let least = c.end_of-end.ensures.least in
    c.in_ok-take_in.ensures.reached c.end_of-end.result (reached_by c.loop-alloc.end c.end_of-end.result c.loop-alloc.sites (omega (arith, least)) c.loop-alloc.invariant.run.going)

pub hand_over-requires : goal.hand_over-requires
hand_over-requires g c =
    c.loop-alloc.invariant.files
    ∙ sym (ap (λ (all : List (List ℕ)). length all) (same_gone c.loop-alloc.sites c.window.new.sites (c.in_ok-window.ensures.gone ∙ c.in_ok-take_in.ensures.gone)))

pub loop-alloc-preserved : goal.loop-alloc-preserved
loop-alloc-preserved g c =
    let rem = g.R.Read.remaining in
    let net = c.args.network.now in
    let start = c.args.intake.now in
    let old = c.args.sites.now in
    let l = c.loop-alloc in
    let run = l.invariant.run in
    let end = l.end in
    let most = c.end_of-end.result in
    let bounds = c.end_of-end.ensures in
    let n = max c.in-Some.first end in
    let took = c.in_ok-take_in.ensures in
    let sites = c.take_in.new.sites in
    let now = c.in_ok-window.ensures in
    let new = c.window.new.sites in
    let over = c.in_ok-hand_over.ensures in
    let handed = c.hand_over.new.sites in
    let same = same_gone l.sites new (now.gone ∙ took.gone) in
    record {
      run = record {
        going = going_handed new handed over.same most now.going;
        all = c.hand_over.auto.sites ∙ c.window.auto.sites ∙ c.take_in.auto.sites ∙ run.all;
        most = bounds.within;
        taken = λ first came taken.
            let was = run.taken first came taken in
            let more = took.on net first (came ++ was.0) was.1 in
            (was.0 ++ more.0, subst (HasTaken rem net first c.take_in.new.readers c.take_in.new.intake) (append_assoc came was.0 more.0) more.1);
        ok = λ first given w.
            let was = run.ok first given w in
            let later = way_later c.out_goes_on.ensures rem net first l.readers l.intake was.more was.given end c.in-Some.first n c.first_of.result l.sites was.on c.first_of.ensures
            (ap (earlier_of c.first_of.result) (sym c.least.ensures) ∙ sym c.in-Some.ensures) refl in
            let in_time = took.ok net first was.more was.given n later in
            let on = in_time.0 in
            let windowed = window_on c.each_file_has_one_reading.ensures.one_list rem net first c.take_in.new.readers c.take_in.new.intake
            (was.more ++ on.more) on.given n most c.look_of-look.result sites new handed
            on.on c.look_of-look.ensures bounds.least bounds.most in_time.1 (λ v from. now.ok on.given n bounds.least v from)
            (λ v none accepted early. now.early on.given n bounds.least v none accepted early) over.same in
            goes_then rem net first l.readers c.take_in.new.readers l.intake c.take_in.new.intake [] old l.sites handed end most was
            (goes_then rem net first c.take_in.new.readers c.take_in.new.readers c.take_in.new.intake c.take_in.new.intake was.more l.sites sites handed n most on windowed);
      };
      files = c.hand_over.auto.files ∙ l.invariant.files ∙ sym (ap (λ (all : List (List ℕ)). length all) same) ∙ sym (gone_as_many new handed over.same);
      gone = λ from have. over.gone from (subst (HaveGone g.F.NewFile.contents from l.files) (sym same) (l.invariant.gone from have));
      noted = λ keeps known. noted_handed net keeps c.window.new.origins new handed over.same (now.noted keeps (took.noted net keeps l.origins (l.invariant.noted keeps known)));
    }

pub returns-clause-going : goal.returns-clause-going
returns-clause-going g c = still_going c.loop-alloc.end c.loop-alloc.sites c.loop-alloc.invariant.run.going

pub returns-clause-gone : goal.returns-clause-gone
returns-clause-gone g c = c.loop-alloc.invariant.gone

pub returns-clause-files : goal.returns-clause-files
returns-clause-files g c = c.loop-alloc.invariant.files

pub returns-clause-ok : goal.returns-clause-ok
returns-clause-ok g c = λ first given w.
    let rem = g.R.Read.remaining in
    let net = c.args.network.now in
    let l = c.loop-alloc in
    let was = l.invariant.run.ok first given w in
    let past = no_sooner l.end last_instant c.loop-alloc-test.ensures in
    let most = l.invariant.run.most in
    run_ends c.all_start_before_the_last_instant.ensures c.by_stamp_is_ordered.ensures c.what_is_written_is_a_capture.ensures c.records_are_early.ensures
    rem net first l.readers l.intake c.args.sites.now l.end
    l.sites was (omega (arith, past, most)) (none_then l.end (next_of l.intake) (next_early rem net first l.readers l.intake was.more was.on.taken) was.on.next past)

pub returns-in_default-clause-going : goal.returns-in_default-clause-going
returns-in_default-clause-going g c = still_going c.loop-alloc.end c.loop-alloc.sites c.loop-alloc.invariant.run.going

pub returns-in_default-clause-gone : goal.returns-in_default-clause-gone
returns-in_default-clause-gone g c = c.loop-alloc.invariant.gone

pub returns-in_default-clause-files : goal.returns-in_default-clause-files
returns-in_default-clause-files g c = c.loop-alloc.invariant.files

pub returns-in_default-clause-ok : goal.returns-in_default-clause-ok
returns-in_default-clause-ok g c = λ first given w.
    let l = c.loop-alloc in
    let was = l.invariant.run.ok first given w in
    let none = neither c.first_of.result (next_of l.intake) (ap (earlier_of c.first_of.result) (sym c.least.ensures) ∙ sym c.in_default.ensures) in
    run_is_quiet c.out_goes_on.ensures g.R.Read.remaining c.args.network.now first l.readers l.intake c.args.sites.now l.end l.sites was (subst (IsFirst l.sites) none.0 c.first_of.ensures) none.1

pub returns-in_err-take_in-clause-err : goal.returns-in_err-take_in-clause-err
returns-in_err-take_in-clause-err g c = λ first given w early.
    let rem = g.R.Read.remaining in
    let net = c.args.network.now in
    let l = c.loop-alloc in
    let n = max c.in-Some.first l.end in
    let was = l.invariant.run.ok first given w in
    let later = way_later c.out_goes_on.ensures rem net first l.readers l.intake was.more was.given l.end c.in-Some.first n c.first_of.result l.sites was.on c.first_of.ensures
    (ap (earlier_of c.first_of.result) (sym c.least.ensures) ∙ sym c.in-Some.ensures) refl in
    of_error (IsStop rem net first c.take_in.new.readers c.take_in.new.intake) c.from_residual.result c.in_err-take_in.field-0.0 c.from_residual.ensures
    (c.in_err-take_in.ensures.err net first was.more was.given n later)

pub returns-in_err-window-clause-err : goal.returns-in_err-window-clause-err
returns-in_err-window-clause-err g c = λ first given w start_early.
    let rem = g.R.Read.remaining in
    let net = c.args.network.now in
    let l = c.loop-alloc in
    let n = max c.in-Some.first l.end in
    let bounds = c.end_of-end.ensures in
    let was = l.invariant.run.ok first given w in
    let later = way_later c.out_goes_on.ensures rem net first l.readers l.intake was.more was.given l.end c.in-Some.first n c.first_of.result l.sites was.on c.first_of.ensures
    (ap (earlier_of c.first_of.result) (sym c.least.ensures) ∙ sym c.in-Some.ensures) refl in
    let on = (c.in_ok-take_in.ensures.ok net first was.more was.given n later).0 in
    let opened = opens_at net on.given n c.end_of-end.result c.look_of-look.result c.take_in.new.sites on.on.come c.look_of-look.ensures bounds.least bounds.most in
    let why = c.in_err-window.field-0.0 in
    of_error (IsStop rem net first c.take_in.new.readers c.take_in.new.intake) c.from_residual-in_err-window.result (stop.Run why) c.from_residual-in_err-window.ensures
    (stops rem net first c.take_in.new.readers c.take_in.new.intake (was.more ++ on.more) why on.on.taken (c.in_err-window.ensures.err on.given n bounds.least opened.0)
    (λ order delays accepted soon.
    c.in_err-window.ensures.early on.given n bounds.least opened.0
    (record { order = order; delays = delays; early = none_came_late c.each_file_has_one_reading.ensures.one_list net (was.more ++ on.more) on.given on.on.given_is soon }) accepted
    (on.early order delays accepted soon (was.early order delays accepted (soon_before was.more on.more soon) (start_early order.place)))))

pub returns-in_err-hand_over-clause-err : goal.returns-in_err-hand_over-clause-err
returns-in_err-hand_over-clause-err g c = λ first given w early.
    let rem = g.R.Read.remaining in
    let net = c.args.network.now in
    let l = c.loop-alloc in
    let n = max c.in-Some.first l.end in
    let was = l.invariant.run.ok first given w in
    let later = way_later c.out_goes_on.ensures rem net first l.readers l.intake was.more was.given l.end c.in-Some.first n c.first_of.result l.sites was.on c.first_of.ensures
    (ap (earlier_of c.first_of.result) (sym c.least.ensures) ∙ sym c.in-Some.ensures) refl in
    let on = (c.in_ok-take_in.ensures.ok net first was.more was.given n later).0 in
    of_error (IsStop rem net first c.take_in.new.readers c.take_in.new.intake) c.from_residual-in_err-hand_over.result (stop.Run fault.Memory) c.from_residual-in_err-hand_over.ensures
    (no_memory rem net first c.take_in.new.readers c.take_in.new.intake (was.more ++ on.more) on.on.taken)

pub returns-clause-noted : goal.returns-clause-noted
returns-clause-noted g c = λ keeps known. c.loop-alloc.invariant.noted keeps known

pub returns-in_default-clause-noted : goal.returns-in_default-clause-noted
returns-in_default-clause-noted g c = λ keeps known. c.loop-alloc.invariant.noted keeps known
