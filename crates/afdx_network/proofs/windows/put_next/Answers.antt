use Rattle.std.proofs.Common.{rules, ◌++◌, [], ◌∷◌, List, get_or, Option, sym, ap, subst}
use Rattle.std.specs.Prelude.{IfSome, slice_set}
use Rattle.std.proofs.lemmas.Option.{slice_get-get_or}
use Rattle.afdx_pcap.specs.Record.{Record}
use Rattle.afdx_merging.specs.Merge.{Arrival}
use Rattle.afdx_wiring.specs.declared.layout.End.{End}
use Rattle.afdx_network_check.specs.Net.{Network}
use Rattle.afdx_network.specs.declared.fault.NetworkRunFault.TheVariants as fault
use Rattle.afdx_network.specs.declared.fault.Stop.TheVariants as stop
use Rattle.afdx_network.specs.Inner.Intake.{HasTaken, IsNextIn}
use Rattle.afdx_network.specs.Inner.Sites.{Site}
use Rattle.afdx_network.specs.Inner.Windows.{IsStop}
use Rattle.afdx_network.proofs.Answering.{of_error}
use Rattle.afdx_network.proofs.Feeding.{fine, comes_in, next_within}
use Rattle.afdx_network.proofs.Going.{no_memory}
use Rattle.afdx_network.proofs.Noting.{noted_in}
use Rattle.afdx_network.proofs.Places.{map_stays}
use Rattle.afdx_network.proofs.windows.put_next.Goals as goal

pub next-requires : goal.next-requires
next-requires g c = let on = c.requires.on in (on.0, on.1, on.2, on.3)

pub bounds-sites-to : goal.bounds-sites-to
bounds-sites-to g c =
    let rem = g.R.Read.remaining in
    let before = c.args.intake.now in
    let after = c.next.new.self in
    let to = c.in-Ok-Some.to in
    let frame = c.in-Ok-Some.frame in
    let next = subst (λ (o : Option (End × Record)). IfSome o (λ both. (net : Network) (first : List g.row.R.Denot) (came : List Arrival) → HasTaken rem net first c.args.readers.now before came
    → IsNextIn rem net first c.next.new.readers before after came both.0 both.1)) c.in-Ok-Some.field-0-is c.in-Ok-Some.ensures.some in
    let t = c.requires.on in
    next_within rem t.0 t.1 c.next.new.readers before after t.2 to frame c.args.sites.now t.4 (next t.0 t.1 t.2 t.3)

pub offset_bounds-sites-to : goal.offset_bounds-sites-to
offset_bounds-sites-to g c =
    let rem = g.R.Read.remaining in
    let before = c.args.intake.now in
    let after = c.next.new.self in
    let to = c.in-Ok-Some.to in
    let frame = c.in-Ok-Some.frame in
    let next = subst (λ (o : Option (End × Record)). IfSome o (λ both. (net : Network) (first : List g.row.R.Denot) (came : List Arrival) → HasTaken rem net first c.args.readers.now before came
    → IsNextIn rem net first c.next.new.readers before after came both.0 both.1)) c.in-Ok-Some.field-0-is c.in-Ok-Some.ensures.some in
    let t = c.requires.on in
    let lt = next_within rem t.0 t.1 c.next.new.readers before after t.2 to frame c.args.sites.now t.4 (next t.0 t.1 t.2 t.3) in
    search (rules, lt)

pub put-requires-clause-going : goal.put-requires-clause-going
put-requires-clause-going g c =
    let rem = g.R.Read.remaining in
    let before = c.args.intake.now in
    let after = c.next.new.self in
    let to = c.in-Ok-Some.to in
    let frame = c.in-Ok-Some.frame in
    let next = subst (λ (o : Option (End × Record)). IfSome o (λ both. (net : Network) (first : List g.row.R.Denot) (came : List Arrival) → HasTaken rem net first c.args.readers.now before came
    → IsNextIn rem net first c.next.new.readers before after came both.0 both.1)) c.in-Ok-Some.field-0-is c.in-Ok-Some.ensures.some in
    let t = c.requires.on in
    c.requires.going to.switch c.index-sites-to.result (next_within rem t.0 t.1 c.next.new.readers before after t.2 to frame c.args.sites.now t.4 (next t.0 t.1 t.2 t.3))

pub put-requires-clause-not_late : goal.put-requires-clause-not_late
put-requires-clause-not_late g c =
    let rem = g.R.Read.remaining in
    let before = c.args.intake.now in
    let after = c.next.new.self in
    let to = c.in-Ok-Some.to in
    let frame = c.in-Ok-Some.frame in
    let next = subst (λ (o : Option (End × Record)). IfSome o (λ both. (net : Network) (first : List g.row.R.Denot) (came : List Arrival) → HasTaken rem net first c.args.readers.now before came
    → IsNextIn rem net first c.next.new.readers before after came both.0 both.1)) c.in-Ok-Some.field-0-is c.in-Ok-Some.ensures.some in
    let t = c.requires.on in
    (next t.0 t.1 t.2 t.3).early

pub returns-in_ok-put-in-Ok-Some-clause-on : goal.returns-in_ok-put-in-Ok-Some-clause-on
returns-in_ok-put-in-Ok-Some-clause-on g c = λ net first came taken.
    let rem = g.R.Read.remaining in
    let before = c.args.intake.now in
    let after = c.next.new.self in
    let to = c.in-Ok-Some.to in
    let frame = c.in-Ok-Some.frame in
    let next = subst (λ (o : Option (End × Record)). IfSome o (λ both. (net : Network) (first : List g.row.R.Denot) (came : List Arrival) → HasTaken rem net first c.args.readers.now before came
    → IsNextIn rem net first c.next.new.readers before after came both.0 both.1)) c.in-Ok-Some.field-0-is c.in-Ok-Some.ensures.some in
    let n = next net first came taken in
    (n.arrival, n.taken)

pub returns-in_ok-put-in-Ok-Some-clause-ok : goal.returns-in_ok-put-in-Ok-Some-clause-ok
returns-in_ok-put-in-Ok-Some-clause-ok g c = λ net first came given h w.
    let rem = g.R.Read.remaining in
    let before = c.args.intake.now in
    let after = c.next.new.self in
    let to = c.in-Ok-Some.to in
    let frame = c.in-Ok-Some.frame in
    let next = subst (λ (o : Option (End × Record)). IfSome o (λ both. (net : Network) (first : List g.row.R.Denot) (came : List Arrival) → HasTaken rem net first c.args.readers.now before came
    → IsNextIn rem net first c.next.new.readers before after came both.0 both.1)) c.in-Ok-Some.field-0-is c.in-Ok-Some.ensures.some in
    let sites = c.args.sites.now in
    let n = next net first came w.taken in
    let d = c.index-sites-to.result in
    let law = c.later_records_change_nothing.ensures in
    let on = c.out_goes_on.ensures in
    let unique = c.each_file_has_one_reading.ensures.one_list in
    let written = c.what_is_written_is_a_capture.ensures in
    let at = slice_get-get_or sites to.switch d (next_within rem net first c.next.new.readers before after came to frame sites w.come.carried.are.all n) in
    comes_in law on unique written rem net first c.args.readers.now c.next.new.readers before after came given h sites w to frame n (get_or sites to.switch d) at
    (slice_set sites to.switch c.put.new.self) (ap (slice_set sites to.switch) c.in_ok-put-in-Ok-Some.ensures.ok.1)

pub returns-in_err-put-in-Ok-Some-clause-err : goal.returns-in_err-put-in-Ok-Some-clause-err
returns-in_err-put-in-Ok-Some-clause-err g c = λ net first came given h w.
    let rem = g.R.Read.remaining in
    let before = c.args.intake.now in
    let after = c.next.new.self in
    let to = c.in-Ok-Some.to in
    let frame = c.in-Ok-Some.frame in
    let next = subst (λ (o : Option (End × Record)). IfSome o (λ both. (net : Network) (first : List g.row.R.Denot) (came : List Arrival) → HasTaken rem net first c.args.readers.now before came
    → IsNextIn rem net first c.next.new.readers before after came both.0 both.1)) c.in-Ok-Some.field-0-is c.in-Ok-Some.ensures.some in
    let sites = c.args.sites.now in
    let n = next net first came w.taken in
    let d = c.index-sites-to.result in
    let law = c.later_records_change_nothing.ensures in
    let on = c.out_goes_on.ensures in
    let unique = c.each_file_has_one_reading.ensures.one_list in
    let written = c.what_is_written_is_a_capture.ensures in
    let at = slice_get-get_or sites to.switch d (next_within rem net first c.next.new.readers before after came to frame sites w.come.carried.are.all n) in
    let why = c.in_err-put-in-Ok-Some.field-0.0 in
    let memory = c.in_err-put-in-Ok-Some.ensures.why
    (fine law on unique written rem net first c.args.readers.now c.next.new.readers before after came given h sites w to frame n (get_or sites to.switch d) at) in
    of_error (IsStop rem net first c.next.new.readers after) c.from_residual.result (stop.Run why) c.from_residual.ensures
    (subst (λ e. IsStop rem net first c.next.new.readers after (stop.Run e)) (sym memory) (no_memory rem net first c.next.new.readers after (came ++ n.arrival ∷ []) n.taken))

pub returns-in-Err-clause-err : goal.returns-in-Err-clause-err
returns-in-Err-clause-err g c = λ net first came given h w. c.in-Err.ensures.err net first came w.taken

pub returns-in_ok-put-in-Ok-Some-clause-gone : goal.returns-in_ok-put-in-Ok-Some-clause-gone
returns-in_ok-put-in-Ok-Some-clause-gone g c =
    let rem = g.R.Read.remaining in
    let before = c.args.intake.now in
    let after = c.next.new.self in
    let to = c.in-Ok-Some.to in
    let frame = c.in-Ok-Some.frame in
    let next = subst (λ (o : Option (End × Record)). IfSome o (λ both. (net : Network) (first : List g.row.R.Denot) (came : List Arrival) → HasTaken rem net first c.args.readers.now before came
    → IsNextIn rem net first c.next.new.readers before after came both.0 both.1)) c.in-Ok-Some.field-0-is c.in-Ok-Some.ensures.some in
    let sites = c.args.sites.now in
    let t = c.requires.on in
    let d = c.index-sites-to.result in
    let at = slice_get-get_or sites to.switch d (next_within rem t.0 t.1 c.next.new.readers before after t.2 to frame sites t.4 (next t.0 t.1 t.2 t.3)) in
    map_stays (λ (s : Site). s.gone) sites to.switch c.put.new.self (get_or sites to.switch d) at (ap (λ (s : Site). s.gone) c.in_ok-put-in-Ok-Some.ensures.ok.1)

pub returns-in_ok-put-in-Ok-Some-clause-noted : goal.returns-in_ok-put-in-Ok-Some-clause-noted
returns-in_ok-put-in-Ok-Some-clause-noted g c = λ net keeps origins known.
    let rem = g.R.Read.remaining in
    let before = c.args.intake.now in
    let after = c.next.new.self in
    let to = c.in-Ok-Some.to in
    let frame = c.in-Ok-Some.frame in
    let next = subst (λ (o : Option (End × Record)). IfSome o (λ both. (net : Network) (first : List g.row.R.Denot) (came : List Arrival) → HasTaken rem net first c.args.readers.now before came
    → IsNextIn rem net first c.next.new.readers before after came both.0 both.1)) c.in-Ok-Some.field-0-is c.in-Ok-Some.ensures.some in
    let sites = c.args.sites.now in
    let t = c.requires.on in
    let d = c.index-sites-to.result in
    let at = slice_get-get_or sites to.switch d (next_within rem t.0 t.1 c.next.new.readers before after t.2 to frame sites t.4 (next t.0 t.1 t.2 t.3)) in
    let put = c.in_ok-put-in-Ok-Some.ensures.ok in
    noted_in c.later_records_send_nothing.ensures net keeps origins sites (slice_set sites to.switch c.put.new.self) to.switch to.port (get_or sites to.switch d) frame at put.0
    (ap (slice_set sites to.switch) put.1) known
