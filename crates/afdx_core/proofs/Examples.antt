-- What the definitions give for small tables.
use Rattle.std.proofs.Common.{◌≡◌, ℕ, true, List, [], ◌∷◌, map, Some, None, refl}
use Rattle.afdx_units.specs.declared.line.Speed.TheVariants.{Ten, Hundred}
use Rattle.afdx_units.specs.declared.line.Speed.{Speed}
use Rattle.afdx_units.specs.declared.line.Priority.TheVariants.{Low}
use Rattle.afdx_units.specs.declared.bag.Bag.TheVariants.{Ms1}
use Rattle.afdx_table.specs.declared.rows.PortRow.{PortRow}
use Rattle.afdx_units.specs.declared.police.Police.TheVariants.{Byte}
use Rattle.afdx_table.specs.Link.{Link}
use Rattle.afdx_table.specs.Content.{Content, port_row}
use Rattle.afdx_filter.specs.declared.outcome.Verdict.{Verdict}
use Rattle.afdx_filter.specs.declared.outcome.Verdict.TheVariants.{Clean, WrongPort}
use Rattle.afdx_port.specs.declared.Sent.{Sent}
use Rattle.afdx_port.specs.declared.Offer.TheVariants.{Queued, Full}
use Rattle.afdx_port.specs.Service.{next, others, reach}
use Rattle.afdx_pcap.specs.Record.{Record}
use Rattle.afdx_core.specs.declared.step.Row.{Row}
use Rattle.afdx_core.specs.declared.step.Fate.TheVariants.{Filtered, Policed, Passed}
use Rattle.afdx_core.specs.Rows.{account_frames, passes, feed_of, fates_of}
use Rattle.afdx_core.specs.State.{Run, sent_in, offers_of}
use Rattle.afdx_core.specs.Merge.{Arrival, merged}

abbrev frame_at : ℕ → Record
frame_at stamp = record { stamp = stamp; original = 0; bytes = [] }

abbrev port : ℕ → Speed → ℕ → PortRow
port id speed buffer = record { id = id; speed = speed; buffer = buffer; max_delay = 500000000 }

-- a link from port 1 to two ports, of which the second line is slow and has room for one small frame
abbrev link : Link
link = record { id = 10; from = 1; to = 2 ∷ 3 ∷ []; bag = Ms1; jitter = 0; max_size = 1518; priority = Low; police = Byte }

abbrev table : Content
table = record { constant = 3 ∷ 0 ∷ 0 ∷ 0 ∷ []; latency = 0; ports = port 1 Hundred 100000 ∷ port 2 Ten 64 ∷ port 3 Hundred 100000 ∷ []; links = link ∷ [] }

abbrev row : ℕ → ℕ → Verdict → Row
row stamp size verdict = record { in_port = 1; stamp = stamp; size = size; verdict = verdict; link = None }

abbrev run : List Row → Run
run rows = record { table = table; rows = rows; latest = 0; handed = []; finished = true }

-- two links of two ports, both to a third
abbrev link_from : ℕ → ℕ → Link
link_from id from = record { id = id; from = from; to = 3 ∷ []; bag = Ms1; jitter = 0; max_size = 1518; priority = Low; police = Byte }

abbrev double : Content
double = record { constant = 3 ∷ 0 ∷ 0 ∷ 0 ∷ []; latency = 0; ports = port 1 Hundred 100000 ∷ port 2 Hundred 100000 ∷ port 3 Hundred 100000 ∷ []; links = link_from 10 1 ∷ link_from 20 2 ∷ [] }

abbrev run_of_two : List Row → Run
run_of_two rows = record { table = double; rows = rows; latest = 0; handed = []; finished = true }

abbrev row_at : ℕ → ℕ → ℕ → Row
row_at in_port size i = record { in_port = in_port; stamp = 0; size = size; verdict = Clean i; link = Some i }

ends : List Sent → List ℕ
ends sents = map (λ (s : Sent). s.end) sents

-- two small frames at once: the second finds the slow port full, and both leave by the other port
full_at_one : ends (sent_in (run (row 0 64 (Clean 10) ∷ row 0 64 (Clean 10) ∷ [])) (port_row table 2)) ≡ 67200 ∷ []
unfolding account_frames passes feed_of next others reach ends
full_at_one = refl

sent_by_the_other : ends (sent_in (run (row 0 64 (Clean 10) ∷ row 0 64 (Clean 10) ∷ [])) (port_row table 3)) ≡ 6720 ∷ 13440 ∷ []
unfolding account_frames passes feed_of next others reach ends
sent_by_the_other = refl

answers : offers_of (run (row 0 64 (Clean 10) ∷ [])) (row 0 64 (Clean 10)) ≡ (2, Full) ∷ (3, Queued) ∷ []
unfolding account_frames passes feed_of next others reach
answers = refl

-- two merges of one instant: each link's frame leaves in both, in the order in which they came
links_and_ends : List Sent → List (ℕ × ℕ)
links_and_ends sents = map (λ (s : Sent). (s.item.link, s.end)) sents

small_one_first : links_and_ends (sent_in (run_of_two (row_at 1 64 10 ∷ row_at 2 1518 20 ∷ [])) (port_row double 3)) ≡ (10, 6720) ∷ (20, 129760) ∷ []
unfolding account_frames passes feed_of next others reach links_and_ends
small_one_first = refl

large_one_first : links_and_ends (sent_in (run_of_two (row_at 2 1518 20 ∷ row_at 1 64 10 ∷ [])) (port_row double 3)) ≡ (20, 123040) ∷ (10, 129760) ∷ []
unfolding account_frames passes feed_of next others reach links_and_ends
large_one_first = refl

-- the program's merge takes records of one instant by port
by_port : map {B = ℕ × ℕ} (λ (a : Arrival). (a.port, a.frame.stamp)) (merged (record { port = 1; records = frame_at 0 ∷ frame_at 5 ∷ [] } ∷ record { port = 2; records = frame_at 0 ∷ frame_at 4 ∷ [] }
    ∷ [])) ≡ (1, 0) ∷ (2, 0) ∷ (2, 4) ∷ (1, 5) ∷ []
by_port = refl

-- a frame that is policed is no port's, one that is filtered touches no account
fates : fates_of table (row 0 1518 (Clean 10) ∷ row 0 1518 WrongPort ∷ row 999999 1518 (Clean 10) ∷ row 1000000 1518 (Clean 10) ∷ []) ≡ Passed 10 ∷ Filtered WrongPort ∷ Policed 10 ∷ Passed 10 ∷ []
unfolding fates_of account_frames passes
fates = refl
