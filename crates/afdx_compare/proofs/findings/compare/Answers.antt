use Rattle.std.proofs.Common.{◌≡◌, ℕ, List, [], length, Option, Some, None, refl, sym, ap, subst, ◌∙◌}
use Rattle.std.specs.Prelude.{unwrap_or}
use Rattle.std.specs.Option.{option_or}
use Rattle.afdx_merging.specs.declared.clock.Clock.{Clock}
use Rattle.afdx_merging.specs.Merge.{Arrival}
use Rattle.afdx_merging.specs.Inner.Merging.{HasMerged, least_of}
use Rattle.afdx_merging.proofs.Failing.{of_error}
use Rattle.afdx_compare.specs.declared.sources.Source.{Source}
use Rattle.afdx_compare.specs.Comparison.{Comparison, with_until, with_end}
use Rattle.afdx_compare.specs.Arrivals.{with_arrivals}
use Rattle.afdx_compare.specs.Sources.{Sources, sources_of}
use Rattle.afdx_compare.specs.Found.{IsCompareFault, WereAllRead}
use Rattle.afdx_compare.proofs.Clocked.{sources_many}
use Rattle.afdx_compare.proofs.Ends.{instant_of}
use Rattle.afdx_compare.proofs.Faulting.{fault_within, fault_read}
use Rattle.afdx_compare.proofs.Reading.{is_ready, end_may, is_found}
use Rattle.afdx_compare.proofs.Taking.{MayGoOn}
use Rattle.afdx_compare.proofs.findings.compare.Goals as goal

is_instant : (at : Option ℕ) → unwrap_or at 0 ≡ instant_of at
is_instant None = refl
is_instant (Some x) = refl

may_at : (captures : List Source) (waits : List Arrival) (at other : ℕ) (c new : Comparison) → at ≡ other → new ≡ with_until at c → MayGoOn captures waits (with_until other c)
    → MayGoOn captures waits new
may_at captures waits at other c new same is may =
    subst (λ (x : Comparison). MayGoOn captures waits x) (sym (is ∙ ap (λ n. with_until n c) same)) may

pub fault-requires : goal.fault-requires
fault-requires g c =
    let t = c.args.table.now in
    let r = c.args.recordings.now in
    fault_within g.R.Read.remaining (length c.in_ok-sources.sources.captures) c.args.readers.now c.in-Err.fault
    (c.requires ∙ sym (sources_many r t) ∙ ap (λ (x : Sources). length x.captures) (sym c.in_ok-sources.ensures)) c.in-Err.ensures.err

pub read_all-requires-clause-ready : goal.read_all-requires-clause-ready
read_all-requires-clause-ready g c =
    is_ready c.args.table.now c.args.recordings.now c.in_ok-sources.sources c.unwrap_or-from.result c.args.keeps c.in_ok-comparison.comparison c.is_formed.ensures c.in_ok-sources.ensures
    c.in_ok-comparison.ensures

pub returns-in_err-held-clause-err : goal.returns-in_err-held-clause-err
returns-in_err-held-clause-err g c =
    let rem = g.R.Read.remaining in
    let t = c.args.table.now in
    let r = c.args.recordings.now in
    let first = c.args.readers.now in
    let fault = c.in_err-held.field-0.0 in
    let merged = subst (λ (clocks : List Clock). HasMerged rem clocks first c.open.new.readers c.in-Ok.merging []) c.clocks.ensures c.in-Ok.ensures.ok in
    of_error (λ said. IsCompareFault rem (sources_of t r).captures first said) c.from_residual-in_err-held.result fault c.from_residual-in_err-held.ensures
    (subst (λ (x : Sources). IsCompareFault rem x.captures first fault) c.in_ok-sources.ensures (c.in_err-held.ensures.err first merged))

pub take_all-requires-clause-places : goal.take_all-requires-clause-places
take_all-requires-clause-places g c =
    let rem = g.R.Read.remaining in
    let r = c.args.recordings.now in
    let s = c.in_ok-sources.sources in
    let first = c.args.readers.now in
    let ready = is_ready c.args.table.now r s c.unwrap_or-from.result c.args.keeps c.in_ok-comparison.comparison c.is_formed.ensures c.in_ok-sources.ensures c.in_ok-comparison.ensures in
    let merged = subst (λ (clocks : List Clock). HasMerged rem clocks first c.open.new.readers c.in-Ok.merging []) c.clocks.ensures c.in-Ok.ensures.ok in
    let held = c.in_ok-held.held in
    (end_may rem c.ports_are_found.ensures r s first (least_of c.in-Ok.merging.lanes.items) held.greatest held.records.items c.in_ok-comparison.comparison c.read_all.new.comparison ready
    (c.in_ok-held.ensures.ok first merged)).places

pub take_all-requires-clause-sound : goal.take_all-requires-clause-sound
take_all-requires-clause-sound g c =
    let rem = g.R.Read.remaining in
    let r = c.args.recordings.now in
    let s = c.in_ok-sources.sources in
    let first = c.args.readers.now in
    let ready = is_ready c.args.table.now r s c.unwrap_or-from.result c.args.keeps c.in_ok-comparison.comparison c.is_formed.ensures c.in_ok-sources.ensures c.in_ok-comparison.ensures in
    let merged = subst (λ (clocks : List Clock). HasMerged rem clocks first c.open.new.readers c.in-Ok.merging []) c.clocks.ensures c.in-Ok.ensures.ok in
    let held = c.in_ok-held.held in
    let may = end_may rem c.ports_are_found.ensures r s first (least_of c.in-Ok.merging.lanes.items) held.greatest held.records.items c.in_ok-comparison.comparison c.read_all.new.comparison ready
    (c.in_ok-held.ensures.ok first merged) in
    (may_at s.captures held.records.items c.unwrap_or-until.result (instant_of (option_or r.until held.greatest)) c.read_all.new.comparison c.set_until.new.self
    (c.unwrap_or-until.ensures ∙ is_instant c.or-2.result ∙ ap instant_of c.or-2.ensures) c.set_until.ensures may).sound

pub take_all-requires-clause-in_turn : goal.take_all-requires-clause-in_turn
take_all-requires-clause-in_turn g c =
    let rem = g.R.Read.remaining in
    let r = c.args.recordings.now in
    let s = c.in_ok-sources.sources in
    let first = c.args.readers.now in
    let ready = is_ready c.args.table.now r s c.unwrap_or-from.result c.args.keeps c.in_ok-comparison.comparison c.is_formed.ensures c.in_ok-sources.ensures c.in_ok-comparison.ensures in
    let merged = subst (λ (clocks : List Clock). HasMerged rem clocks first c.open.new.readers c.in-Ok.merging []) c.clocks.ensures c.in-Ok.ensures.ok in
    let held = c.in_ok-held.held in
    let may = end_may rem c.ports_are_found.ensures r s first (least_of c.in-Ok.merging.lanes.items) held.greatest held.records.items c.in_ok-comparison.comparison c.read_all.new.comparison ready
    (c.in_ok-held.ensures.ok first merged) in
    (may_at s.captures held.records.items c.unwrap_or-until.result (instant_of (option_or r.until held.greatest)) c.read_all.new.comparison c.set_until.new.self
    (c.unwrap_or-until.ensures ∙ is_instant c.or-2.result ∙ ap instant_of c.or-2.ensures) c.set_until.ensures may).in_turn

pub returns-clause-ok : goal.returns-clause-ok
returns-clause-ok g c =
    let rem = g.R.Read.remaining in
    let t = c.args.table.now in
    let r = c.args.recordings.now in
    let s = c.in_ok-sources.sources in
    let first = c.args.readers.now in
    let merged = subst (λ (clocks : List Clock). HasMerged rem clocks first c.open.new.readers c.in-Ok.merging []) c.clocks.ensures c.in-Ok.ensures.ok in
    let held = c.in_ok-held.held in
    let last = c.in_ok-take_all.ensures ∙ ap (λ (x : Comparison). with_end (with_arrivals s.captures held.records.items x)) c.set_until.ensures in (
      refl,
      is_found rem t r s c.args.keeps first c.unwrap_or-from.result c.unwrap_or-until.result c.least-first.result (least_of c.in-Ok.merging.lanes.items) held.greatest held.records.items
          c.in_ok-comparison.comparison c.read_all.new.comparison c.take_all.new.comparison c.is_formed.ensures c.in_ok-sources.ensures c.in_ok-comparison.ensures
          (c.in_ok-held.ensures.ok first merged) c.least-first.ensures
          (c.unwrap_or-from.ensures ∙ is_instant c.or.result ∙ ap instant_of (c.or.ensures ∙ ap (λ (o : Option ℕ). option_or r.from o) c.least.ensures))
          (c.unwrap_or-until.ensures ∙ is_instant c.or-2.result ∙ ap instant_of c.or-2.ensures) last,
    )

pub returns-in-Err-clause-read : goal.returns-in-Err-clause-read
returns-in-Err-clause-read g c =
    fault_read g.R.Read.remaining c.in_ok-sources.sources.captures c.open.new.readers c.in-Err.fault c.fault.result c.in-Err.ensures.read c.fault.ensures

pub returns-in_err-held-clause-read : goal.returns-in_err-held-clause-read
returns-in_err-held-clause-read g c =
    of_error (λ fault. WereAllRead g.R.Read.remaining c.read_all.new.readers fault) c.from_residual-in_err-held.result c.in_err-held.field-0.0 c.from_residual-in_err-held.ensures
    c.in_err-held.ensures.read
