-- What an arrival and the end of a run add to the counters of one port or link (profile).
use Rattle.std.specs.Prelude.{ℕ, ◌+◌, ◌==◌, min, Bool, true, false, List, [], ◌∷◌, length, map, filter, count_by}
use Rattle.afdx_units.specs.declared.line.Priority.{Priority}
use Rattle.afdx_units.specs.declared.line.Priority.TheVariants.{High, Low}
use Rattle.afdx_filter.specs.declared.outcome.Verdict.{Verdict}
use Rattle.afdx_filter.specs.declared.outcome.Verdict.TheVariants.{Cut, Short, Long, Foreign, NoLink, WrongPort, TooBig, Clean}
use Rattle.afdx_port.specs.declared.Offer.{Offer}
use Rattle.afdx_port.specs.declared.Sent.{Sent}
use Rattle.afdx_port.specs.declared.Aged.{Aged}
use Rattle.afdx_port.specs.Content.{answers_full}
use Rattle.afdx_core.specs.declared.step.Fate.{Fate}
use Rattle.afdx_core.specs.declared.step.Fate.TheVariants.{Filtered, Policed, Passed}
use Rattle.afdx_count.specs.declared.counters.InCount.{InCount}
use Rattle.afdx_count.specs.declared.counters.LinkCount.{LinkCount}
use Rattle.afdx_count.specs.declared.counters.OutCount.{OutCount}

-- the greatest value of a counter of 64 bits, at which it stays
abbrev pub greatest_count : ℕ
greatest_count = 18446744073709551615

-- a count, but no more than the greatest value of a counter
abbrev pub capped : ℕ → ℕ
capped n = min n greatest_count

-- a count with one more
abbrev pub up : ℕ → ℕ
up n = capped (n + 1)

-- nothing came
abbrev pub no_input : InCount
no_input = record { seen = 0; cut = 0; short = 0; long = 0; foreign = 0; no_link = 0; wrong_port = 0; too_big = 0; clean = 0 }

-- no frame of the link came
abbrev pub no_link : LinkCount
no_link = record { passed = 0; policed = 0 }

-- no copy was offered
abbrev pub no_output : OutCount
no_output = record { offered = 0; full = 0; aged = 0; sent = 0 }

-- ---- an arrival

-- the counters of a port with one more frame of this verdict
abbrev pub with_verdict : Verdict → InCount → InCount
with_verdict Cut c = record c { cut = up c.cut }
with_verdict Short c = record c { short = up c.short }
with_verdict Long c = record c { long = up c.long }
with_verdict Foreign c = record c { foreign = up c.foreign }
with_verdict NoLink c = record c { no_link = up c.no_link }
with_verdict WrongPort c = record c { wrong_port = up c.wrong_port }
with_verdict TooBig c = record c { too_big = up c.too_big }
with_verdict (Clean link) c = record c { clean = up c.clean }

-- what the filter said of an arrival: those that an account judged were clean
abbrev pub verdict_in : Fate → Verdict
verdict_in (Filtered verdict) = verdict
verdict_in (Policed link) = Clean link
verdict_in (Passed link) = Clean link

-- the counters of a port after an arrival: it is seen, and counts for its verdict
abbrev pub with_fate : Fate → InCount → InCount
with_fate fate c = with_verdict (verdict_in fate) (record c { seen = up c.seen })

-- ---- copies

-- the answers of a port
abbrev pub answers_of : ℕ → List (ℕ × Offer) → List Offer
answers_of port offers = map (λ o. o.1) (filter (λ o. o.0 == port) offers)

-- the counters of a priority after these answers: the copies were offered, and those of them that did not fit were refused
abbrev pub with_answers : List Offer → OutCount → OutCount
with_answers [] c = c
with_answers (offer ∷ offers) c = record c {
  offered = capped (c.offered + length (offer ∷ offers));
  full = capped (c.full + count_by answers_full (offer ∷ offers));
}

-- both priorities are the same
abbrev pub is_of : Priority → Priority → Bool
is_of High High = true
is_of High Low = false
is_of Low High = false
is_of Low Low = true

-- a counter with the copies of a priority that were sent
abbrev pub more_sent : ℕ → Priority → List Sent → ℕ
more_sent start priority sent = capped (start + count_by (λ s. is_of priority s.item.priority) sent)

-- a counter with the copies of a priority that were discarded for their age
abbrev pub more_aged : ℕ → Priority → List Aged → ℕ
more_aged start priority aged = capped (start + count_by (λ a. is_of priority a.item.priority) aged)

-- the counters of a priority with what its copies came to in the end
abbrev pub with_ended : Priority → List Sent → List Aged → OutCount → OutCount
with_ended priority sent aged c = record c { aged = more_aged c.aged priority aged; sent = more_sent c.sent priority sent }
