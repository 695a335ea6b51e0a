-- What the definitions give for a small run.
use Rattle.std.proofs.Common.{◌≡◌, ℕ, List, [], ◌∷◌, None, refl}
use Rattle.afdx_units.specs.declared.line.Speed.TheVariants.{Hundred}
use Rattle.afdx_units.specs.declared.line.Priority.{Priority}
use Rattle.afdx_units.specs.declared.line.Priority.TheVariants.{High, Low}
use Rattle.afdx_units.specs.declared.bag.Bag.TheVariants.{Ms1}
use Rattle.afdx_table.specs.declared.rows.PortRow.{PortRow}
use Rattle.afdx_units.specs.declared.police.Police.TheVariants.{Byte}
use Rattle.afdx_table.specs.Link.{Link}
use Rattle.afdx_table.specs.Content.{Content}
use Rattle.afdx_filter.specs.declared.outcome.Verdict.{Verdict}
use Rattle.afdx_filter.specs.declared.outcome.Verdict.TheVariants.{Cut, Short, Clean}
use Rattle.afdx_port.specs.Service.{next, others, reach}
use Rattle.afdx_core.specs.declared.step.Row.{Row}
use Rattle.afdx_core.specs.Rows.{account_frames, passes, fates_of, feed_of}
use Rattle.afdx_isolation.specs.Table.{settings_of}
use Rattle.afdx_count.specs.declared.counters.OutCount.{OutCount}
use Rattle.afdx_count.specs.Run.{turned_away, arrivals_at, input_counts, link_counts, output_counts, events_of}

-- a port with room for two small frames, none of which may wait for another
abbrev port : PortRow
port = record { id = 2; speed = Hundred; buffer = 128; max_delay = 5000 }

abbrev link : ℕ → Priority → Link
link id priority = record { id = id; from = 1; to = 2 ∷ []; bag = Ms1; jitter = 0; max_size = 1518; priority = priority; police = Byte }

abbrev table : Content
table = record { constant = 3 ∷ 0 ∷ 0 ∷ 0 ∷ []; latency = 0; ports = record { id = 1; speed = Hundred; buffer = 100000; max_delay = 500000000 } ∷ port ∷ []; links = link 30 High ∷ link 10 Low ∷ [] }

abbrev row : ℕ → Verdict → Row
row size verdict = record { in_port = 1; stamp = 0; size = size; verdict = verdict; link = None }

-- two low frames and a high one, of which the last finds no room and the first grows too old; then a frame past the account
abbrev rows : List Row
rows = row 64 (Clean 10) ∷ row 64 (Clean 30) ∷ row 64 (Clean 10) ∷ row 1518 (Clean 10) ∷ []

outputs : Priority → List Row → OutCount
outputs priority rs = output_counts priority (settings_of table.latency port) (feed_of table 2 rs) (events_of table rs port)

low_copies : outputs Low rows ≡ record { offered = 2; full = 1; aged = 1; sent = 0 }
unfolding outputs account_frames passes feed_of turned_away next others reach
low_copies = refl

high_copies : outputs High rows ≡ record { offered = 1; full = 0; aged = 0; sent = 1 }
unfolding outputs account_frames passes feed_of turned_away next others reach
high_copies = refl

policed_are_counted : link_counts 10 (fates_of table rows) ≡ record { passed = 2; policed = 1 }
unfolding account_frames passes fates_of
policed_are_counted = refl

verdicts : input_counts (arrivals_at 1 (row 64 Cut ∷ row 63 Short ∷ row 63 Short ∷ row 64 (Clean 10) ∷ []))
    ≡ record { seen = 4; cut = 1; short = 2; long = 0; foreign = 0; no_link = 0; wrong_port = 0; too_big = 0; clean = 1 }
verdicts = refl

elsewhere : input_counts (arrivals_at 2 rows) ≡ record { seen = 0; cut = 0; short = 0; long = 0; foreign = 0; no_link = 0; wrong_port = 0; too_big = 0; clean = 0 }
elsewhere = refl
