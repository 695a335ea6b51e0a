use Rattle.std.proofs.Common.{◌≡◌, ◌≤◌, List, [], length, Some, false, sym, ◌∙◌, ap, arith, subst}
use Rattle.std.specs.Prelude.{All}
use Rattle.afdx_measure.specs.Wanted.{keeps_lists}
use Rattle.afdx_network.specs.declared.fault.NetworkRunFault.TheVariants as fault
use Rattle.afdx_network.specs.declared.fault.Stop.TheVariants as stop
use Rattle.afdx_network.specs.Inner.Intake.{next_of}
use Rattle.afdx_network.specs.Inner.Outputs.{HaveGone}
use Rattle.afdx_network.specs.Inner.Sites.{Site, HaveCome, AreEarly, gone_of}
use Rattle.afdx_network.specs.Inner.Noted.{NoneHasLeft, AreNoted}
use Rattle.afdx_network.specs.Inner.Windows.{IsOnWay, HasRunThrough, IsStop}
use Rattle.afdx_network.proofs.Answering.{of_error, written_back}
use Rattle.afdx_network.proofs.Going.{started_going, none_have, never_begins, no_memory, not_before_start}
use Rattle.afdx_network.proofs.WatchedRuns.{none_noted}
use Rattle.afdx_network.proofs.running.go_on.Goals as goal

pub go_through-requires-clause-going : goal.go_through-requires-clause-going
go_through-requires-clause-going g c =
    let begun = c.in_ok-sites.ensures.ok in
    subst (All (λ (s : Site). (s.paced.failed ≡ false) × (s.paced.reached ≤ 0))) (sym c.deref_mut.ensures.value) (started_going c.args.network.now begun.0 c.in_ok-sites.sites.items begun.2)

pub go_through-requires-clause-all : goal.go_through-requires-clause-all
go_through-requires-clause-all g c = ap (λ (xs : List Site). length xs) c.deref_mut.ensures.value ∙ c.in_ok-sites.ensures.ok.2.carried.are.all

pub go_through-requires-clause-on : goal.go_through-requires-clause-on
go_through-requires-clause-on g c = (c.requires.taken.0, [], c.requires.taken.1)

pub go_through-requires-clause-files : goal.go_through-requires-clause-files
go_through-requires-clause-files g c = c.requires.files ∙ sym c.in_ok-sites.ensures.ports ∙ ap (λ (xs : List Site). length (gone_of xs)) (sym c.deref_mut.ensures.value)

pub returns-clause-ok : goal.returns-clause-ok
returns-clause-ok g c = λ first taken.
    let rem = g.R.Read.remaining in
    let net = c.args.network.now in
    let i = c.args.intake.now in
    let begun = c.in_ok-sites.ensures.ok in
    let old = c.in_ok-sites.sites in
    let new = c.go_through.new.sites in
    let long = old.ok.0 in
    let kept = c.go_through.auto.sites ∙ ap (λ (xs : List Site). length xs) c.deref_mut.ensures.value in
    let back = written_back old.items new old.len kept (omega (arith, long)) in
    let way : IsOnWay rem net first c.args.readers.now i [] begun.0 0 c.deref_mut.result.now = record {
      taken = taken;
      given_is = begun.1;
      come = subst (HaveCome net begun.0 0) (sym c.deref_mut.ensures.value) begun.2;
      next = not_before_start (next_of i);
    } in
    let files = c.args.files.now in
    let start : HaveGone g.F.NewFile.contents files files (gone_of c.deref_mut.result.now)
    = subst (λ (xs : List Site). HaveGone g.F.NewFile.contents files files (gone_of xs)) (sym c.deref_mut.ensures.value)
    (none_have g.F.NewFile.contents files (gone_of old.items) c.in_ok-sites.ensures.gone) in
    let led = c.in_ok-go_through.ensures in
    subst (HasRunThrough rem g.F.NewFile.contents net first c.go_through.new.readers c.go_through.new.intake files c.go_through.new.files) (sym back) (record {
      through = led.ok first begun.0 way;
      one_each = c.in_ok-check_wires.ensures.ok;
      going = led.going;
      files = led.files;
      gone = led.gone files start;
    })

pub returns-clause-noted : goal.returns-clause-noted
returns-clause-noted g c = λ none_sent.
    let net = c.args.network.now in
    let keeps = keeps_lists c.args.wanted in
    let old = c.in_ok-sites.sites in
    let new = c.go_through.new.sites in
    let long = old.ok.0 in
    let kept = c.go_through.auto.sites ∙ ap (λ (xs : List Site). length xs) c.deref_mut.ensures.value in
    let back = written_back old.items new old.len kept (omega (arith, long)) in
    let first : AreNoted net keeps c.deref_mut.result.now (Some (record { net = net; sent = [] }))
    = none_noted net keeps c.deref_mut.result.now (subst (All (NoneHasLeft keeps)) (sym c.deref_mut.ensures.value) c.in_ok-sites.ensures.none_left) in
    subst (λ (xs : List Site). AreNoted net keeps xs c.go_through.new.origins) (sym back)
    (c.in_ok-go_through.ensures.noted keeps (subst (AreNoted net keeps c.deref_mut.result.now) (sym none_sent) first))

pub returns-in_err-check_wires-clause-err : goal.returns-in_err-check_wires-clause-err
returns-in_err-check_wires-clause-err g c = λ first taken.
    let rem = g.R.Read.remaining in
    let net = c.args.network.now in
    let why = c.in_err-check_wires.field-0.0 in
    of_error (IsStop rem net first c.args.readers.now c.args.intake.now) c.from_residual.result (stop.Run why) c.from_residual.ensures
    (never_begins rem net first c.args.readers.now c.args.intake.now why taken c.in_err-check_wires.ensures.err.0 c.in_err-check_wires.ensures.err.1)

pub returns-in_err-sites-clause-err : goal.returns-in_err-sites-clause-err
returns-in_err-sites-clause-err g c = λ first taken.
    let rem = g.R.Read.remaining in
    let net = c.args.network.now in
    of_error (IsStop rem net first c.args.readers.now c.args.intake.now) c.from_residual-in_err-sites.result (stop.Run fault.Memory) c.from_residual-in_err-sites.ensures
    (no_memory rem net first c.args.readers.now c.args.intake.now [] taken)

pub returns-in_err-go_through-clause-err : goal.returns-in_err-go_through-clause-err
returns-in_err-go_through-clause-err g c = λ first taken.
    let rem = g.R.Read.remaining in
    let net = c.args.network.now in
    let i = c.args.intake.now in
    let begun = c.in_ok-sites.ensures.ok in
    let way : IsOnWay rem net first c.args.readers.now i [] begun.0 0 c.deref_mut.result.now = record {
      taken = taken;
      given_is = begun.1;
      come = subst (HaveCome net begun.0 0) (sym c.deref_mut.ensures.value) begun.2;
      next = not_before_start (next_of i);
    } in
    of_error (IsStop rem net first c.go_through.new.readers c.go_through.new.intake) c.from_residual-in_err-go_through.result c.in_err-go_through.field-0.0 c.from_residual-in_err-go_through.ensures
    (c.in_err-go_through.ensures.err first begun.0 way (λ place. subst (AreEarly place) (sym c.deref_mut.ensures.value) (c.in_ok-sites.ensures.early place)))
