-- The counters of a table's ports and links, and what the calls add to them (profile).
use Rattle.std.specs.Prelude.{ℕ, ◌==◌, List, map, find, Option, Some, None, option_map, if◌then◌else◌}
use Rattle.afdx_units.specs.declared.line.Priority.{Priority}
use Rattle.afdx_units.specs.declared.line.Priority.TheVariants.{High, Low}
use Rattle.afdx_table.specs.declared.rows.PortRow.{PortRow}
use Rattle.afdx_table.specs.Link.{Link}
use Rattle.afdx_table.specs.Content.{Content, port_row}
use Rattle.afdx_port.specs.declared.Offer.{Offer}
use Rattle.afdx_core.specs.declared.step.Fate.{Fate}
use Rattle.afdx_core.specs.declared.step.Fate.TheVariants.{Filtered, Policed, Passed}
use Rattle.afdx_core.specs.Step.{Step}
use Rattle.afdx_core.specs.State.{Run, sent_in, aged_in}
use Rattle.afdx_count.specs.declared.counters.LinkCount.{LinkCount}
use Rattle.afdx_count.specs.declared.counters.OutCount.{OutCount}
use Rattle.afdx_count.specs.declared.ports.PortTally.{PortTally}
use Rattle.afdx_count.specs.declared.links.LinkTally.{LinkTally}
use Rattle.afdx_count.specs.Counting.{up, no_input, no_link, no_output, with_fate, answers_of, with_answers, with_ended}

-- the counters of all ports and links of a table
pub record Tally : Type 0 where
  -- by rising number
  pub ports : List PortTally
  -- in the file's order
  pub links : List LinkTally

-- ---- at the start

-- the counters of a port, all 0
abbrev pub new_port : PortRow → PortTally
new_port row = record { id = row.id; input = no_input; high = no_output; low = no_output }

-- the counters of a link, all 0
abbrev pub new_link : Link → LinkTally
new_link row = record { id = row.id; priority = row.priority; count = no_link }

-- each counter of the table's ports and links is 0
abbrev pub fresh : Content → Tally
fresh c = record { ports = map new_port c.ports; links = map new_link c.links }

-- ---- readers

-- the counters of the port of a number, if there is one
abbrev pub port_in : ℕ → List PortTally → Option PortTally
port_in id ports = find (λ port. port.id == id) ports

-- the counters of the link of a number, if there is one
abbrev pub link_in : ℕ → List LinkTally → Option LinkTally
link_in id links = find (λ link. link.id == id) links

-- the counters of a port's copies of a priority
abbrev pub out_of : Priority → PortTally → OutCount
out_of High p = p.high
out_of Low p = p.low

abbrev pub count_of : ℕ → Tally → Option LinkCount
count_of id t = option_map (λ l. l.count) (link_in id t.links)

-- what became of the copies of a priority at the port of a number
abbrev pub out_count_of : ℕ → Priority → Tally → Option OutCount
out_count_of id priority t = option_map (out_of priority) (port_in id t.ports)

-- ---- an arrival

-- an arrival counts at the port at which it came in
abbrev pub with_arrival : ℕ → Fate → PortTally → PortTally
with_arrival in_port fate p = if p.id == in_port then record p { input = with_fate fate p.input } else p

-- the copies of an arrival count at the ports that were offered them, for its link's priority
abbrev pub with_copies : Priority → List (ℕ × Offer) → PortTally → PortTally
with_copies High offers p = record p { high = with_answers (answers_of p.id offers) p.high }
with_copies Low offers p = record p { low = with_answers (answers_of p.id offers) p.low }

-- the copies of an arrival count for its link's priority if the frame was passed; else there are none
abbrev pub with_class : Option Priority → List (ℕ × Offer) → PortTally → PortTally
with_class None offers p = p
with_class (Some priority) offers p = with_copies priority offers p

-- the priority of the copies of a passed frame; none of a frame that was not
abbrev pub class_of : Fate → List LinkTally → Option Priority
class_of (Filtered verdict) links = None
class_of (Policed id) links = None
class_of (Passed id) links = option_map (λ link. link.priority) (link_in id links)

-- the counters of a link after one more frame was passed
abbrev pub one_passed : LinkTally → LinkTally
one_passed l = record l { count = record l.count { passed = up l.count.passed } }

-- the counters of a link after one more frame was policed
abbrev pub one_policed : LinkTally → LinkTally
one_policed l = record l { count = record l.count { policed = up l.count.policed } }

-- a link after an arrival: it counts there if the frame is the link's and was passed or policed
abbrev pub noted_link : Fate → LinkTally → LinkTally
noted_link (Filtered verdict) l = l
noted_link (Policed id) l = if l.id == id then one_policed l else l
noted_link (Passed id) l = if l.id == id then one_passed l else l

-- a port after an arrival: it counts where it came in, and its copies where they were offered
abbrev pub noted_port : Option Priority → Step → PortTally → PortTally
noted_port class step p = with_class class step.offers (with_arrival step.in_port step.fate p)

-- the counters after an arrival
abbrev pub noted : Step → Tally → Tally
noted step t = record { ports = map (noted_port (class_of step.fate t.links) step) t.ports; links = map (noted_link step.fate) t.links }

-- ---- the end

-- a port at the end of a run: what its copies came to
abbrev pub ended_port : Run → PortTally → PortTally
ended_port r p = record p {
  high = with_ended High (sent_in r (port_row r.table p.id)) (aged_in r (port_row r.table p.id)) p.high;
  low = with_ended Low (sent_in r (port_row r.table p.id)) (aged_in r (port_row r.table p.id)) p.low;
}

-- the counters at the end of a run: what each port sent and discarded counts there
abbrev pub ended_tally : Run → Tally → Tally
ended_tally r t = record { ports = map (ended_port r) t.ports; links = t.links }
