-- What became of each arrival, as comma-separated values (profile).
use Rattle.std.specs.Prelude.{ℕ, ◌+◌, ◌-◌, ◌==◌, Bool, ◌||◌, not, if◌then◌else◌, codes, decimal, List, [], ◌∷◌, ◌++◌, length, map, flat_map, filter, count_by, Option, Some, None}
use Rattle.std.specs.List.{list_any}
use Rattle.afdx_table.specs.Link.{Link}
use Rattle.afdx_table.specs.Content.{port_row}
use Rattle.afdx_filter.specs.declared.outcome.Verdict.{Verdict}
use Rattle.afdx_filter.specs.declared.outcome.Verdict.TheVariants.{Cut, Short, Long, Foreign, NoLink, WrongPort, TooBig, Clean}
use Rattle.afdx_account.specs.Policing.{passed_frames}
use Rattle.afdx_account.specs.Early.{early_by}
use Rattle.afdx_load.specs.Load.{terms_of}
use Rattle.afdx_core.specs.declared.step.Row.{Row}
use Rattle.afdx_core.specs.declared.step.Fate.{Fate}
use Rattle.afdx_core.specs.declared.step.Fate.TheVariants.{Filtered, Policed, Passed}
use Rattle.afdx_core.specs.Rows.{each_after, named, passes, fate_of, account_frames, frame_of_row}
use Rattle.afdx_core.specs.State.{Run, sent_in, aged_in}
use Rattle.afdx_trace.specs.declared.shown.Selection.{Selection}
use Rattle.afdx_trace.specs.declared.shown.Shown.{Shown}
use Rattle.afdx_trace.specs.Csv.{next_field, joined_by, optional}
use Rattle.afdx_trace.specs.Shown.{is_shown, shown_of}

-- the first line: the names of the columns
abbrev pub arrivals_heading : List ℕ
arrivals_heading = codes "frame,port,record,stamp,link,size,fate,early,full\n"

-- the word of a verdict, as in the report
abbrev pub verdict_word : Verdict → List ℕ
verdict_word Cut = codes "cut"
verdict_word Short = codes "short"
verdict_word Long = codes "long"
verdict_word Foreign = codes "foreign"
verdict_word NoLink = codes "no-link"
verdict_word WrongPort = codes "wrong-port"
verdict_word TooBig = codes "too-big"
verdict_word (Clean i) = codes "clean"

-- a port took the copy of the arrival of this number: it sent it or discarded it
abbrev pub took : Run → ℕ → ℕ → Bool
took r port number =
    list_any (λ x. x.item.number == number) (sent_in r (port_row r.table port)) || list_any (λ x. x.item.number == number) (aged_in r (port_row r.table port))

-- the ports that refused it, of those that it was offered to
abbrev pub refusing : Run → ℕ → List ℕ → List ℕ
refusing r number to = filter (λ port. not (took r port number)) to

-- the word of a fate
abbrev pub fate_word : Fate → List ℕ
fate_word (Filtered v) = verdict_word v
fate_word (Policed i) = codes "policed"
fate_word (Passed i) = codes "passed"

-- how early a policed frame of a link came for those that were passed
abbrev pub early_in : Option Link → List Row → Row → Option ℕ
early_in None before row = None
early_in (Some l) before row =
    if passes l before row then None else Some (early_by (terms_of l) (passed_frames (terms_of l) (account_frames l.id before)) (frame_of_row row))

-- the ports that refused a copy of a passed frame of a link
abbrev pub full_in : Run → Option Link → List Row → Row → List ℕ
full_in r None before row = []
full_in r (Some l) before row = if passes l before row then refusing r (length before) l.to else []

-- the fields that say what became of an arrival
abbrev pub fate_fields : Run → List Row → Row → List (List ℕ)
fate_fields r before row =
    let link = named r.table row.verdict in
    fate_word (fate_of r.table before row) ∷ optional (early_in link before row) ∷ joined_by (codes ";") (map decimal (full_in r link before row)) ∷ []

-- the arrival's number among the records of its port's capture, from 1
abbrev pub record_in : List Row → Row → ℕ
record_in before row = count_by (λ other. other.in_port == row.in_port) before + 1

-- the fields before these, which say which frame it was: first the number of arrivals before it
abbrev pub frame_fields : Shown → List Row → Row → List ℕ
frame_fields shown before row = decimal (length before)
    ++ flat_map next_field (decimal row.in_port ∷ decimal (record_in before row) ∷ decimal (row.stamp - shown.origin) ∷ optional row.link ∷ decimal row.size ∷ [])

-- the line of an arrival: which frame it was, and what became of it
abbrev pub arrival_line : Shown → Run → List Row → Row → List ℕ
arrival_line shown r before row = frame_fields shown before row ++ flat_map next_field (fate_fields r before row) ++ codes "\n"

-- the line of an arrival, if it is shown
abbrev pub shown_line : Shown → Run → List Row → Row → List ℕ
shown_line shown r before row = if is_shown shown row.link then arrival_line shown r before row else []

-- a heading, then each arrival that is shown, in order
abbrev pub arrivals_text : Selection → Run → List ℕ
arrivals_text selection r = arrivals_heading ++ each_after (shown_line (shown_of selection r.rows) r) [] r.rows
