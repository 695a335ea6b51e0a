-- What the counters of a run come to (profile): sums of those that its report has.
use Rattle.std.specs.Prelude.{ℕ, ◌+◌, nat_lt, count_by}
use Rattle.std.specs.List.{sum_by}
use Rattle.afdx_count.specs.declared.counters.InCount.{InCount}
use Rattle.afdx_count.specs.declared.counters.OutCount.{OutCount}
use Rattle.afdx_count.specs.declared.ports.PortTally.{PortTally}
use Rattle.afdx_count.specs.Counting.{capped}
use Rattle.afdx_count.specs.Tally.{Tally}
use Rattle.afdx_verdict.specs.declared.summed.RunVerdict.{RunVerdict}

-- the frames that the filter dropped, before an account judged them: all arrivals that are not clean
abbrev pub dropped : InCount → ℕ
dropped c = c.cut + c.short + c.long + c.foreign + c.no_link + c.wrong_port + c.too_big

-- the copies that were lost: those that a full buffer refused, and those that were discarded for their age
abbrev pub lost : OutCount → ℕ
lost c = c.full + c.aged

-- the copies that were lost at a port, of both priorities
abbrev pub lost_at : PortTally → ℕ
lost_at p = lost p.high + lost p.low

-- the links that have a policed frame
abbrev pub policed_links : Tally → ℕ
policed_links t = capped (count_by (λ l. nat_lt 0 l.count.policed) t.links)

-- the frames that were policed, of all links
abbrev pub policed_frames : Tally → ℕ
policed_frames t = capped (sum_by (λ l. l.count.policed) t.links)

-- the frames that the filter dropped, at all ports
abbrev pub all_dropped : Tally → ℕ
all_dropped t = capped (sum_by (λ p. dropped p.input) t.ports)

-- the copies that were lost, at all ports
abbrev pub all_lost : Tally → ℕ
all_lost t = capped (sum_by lost_at t.ports)

-- the verdict of a run: what its counters come to
abbrev pub verdict_of : Tally → RunVerdict
verdict_of t = record { links = policed_links t; policed = policed_frames t; filtered = all_dropped t; lost = all_lost t }
