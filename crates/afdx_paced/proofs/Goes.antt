-- The first of all that waits is the next in the merge.
use Rattle.std.proofs.Common.{◌≡◌, ℕ, List, [], ◌∷◌, map, slice_get, Some, None, refl, ap, sym, ◌∙◌, subst}
use Rattle.afdx_pcap.specs.Record.{Record}
use Rattle.afdx_core.specs.Merge.{Capture, merged}
use Rattle.afdx_session.specs.Streams.{captures_of, whole_of}
use Rattle.afdx_session.specs.Inner.Settled.{Ascend, ports_of, AreQueued, IsSettling, limit, IsWithin, ComesFirst, AllRise, without, SettledRecordsGo}

same_captures : (waiting : List Capture) → captures_of (map whole_of waiting) ≡ waiting
same_captures [] = refl
same_captures (c ∷ waiting) = ap (λ (rest : List Capture). c ∷ rest) (same_captures waiting)

no_limit : (waiting : List Capture) → limit (map whole_of waiting) ≡ None
no_limit [] = refl
no_limit (c ∷ waiting) = no_limit waiting

all_queued : (waiting : List Capture) → AreQueued (map whole_of waiting) waiting
all_queued [] = tt
all_queued (c ∷ waiting) = (record { port = refl; gone = []; records = refl }, all_queued waiting)

pub first_goes : SettledRecordsGo → (waiting : List Capture) (k : ℕ) (w : Capture) (r : Record) (rest : List Record) → Ascend (ports_of waiting) → AllRise waiting
    → slice_get waiting k ≡ Some w → w.records ≡ r ∷ rest → ComesFirst r.stamp k waiting
    → merged waiting ≡ record { port = w.port; frame = r } ∷ merged (without waiting k w rest)
first_goes law waiting k w r rest ascend rise at is first =
    let streams = map whole_of waiting in
    let same = same_captures waiting in
    let settling : IsSettling streams [] waiting = record { queued = all_queued waiting; whole = ap merged same; settled = tt } in
    let within : IsWithin (limit streams) r.stamp w.port = subst (λ p. IsWithin p r.stamp w.port) (sym (no_limit waiting)) tt in
    let on = law streams [] waiting k w r rest (subst (λ (cs : List Capture). Ascend (ports_of cs)) (sym same) ascend) rise at is first within settling in
    sym (ap merged same) ∙ on.whole
