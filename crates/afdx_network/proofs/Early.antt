-- What leaves a switch over an accepted table can be read again, and leaves at most half a second after it came.
use Rattle.std.proofs.Common.{◌≡◌, ◌+◌, ◌≤◌, ℕ, true, List, get_or, sym, arith, subst}
use Rattle.std.specs.Prelude.{All, Contains}
use Rattle.std.specs.List.{AllByRecursion}
use Rattle.std.proofs.lemmas.List.Elements.{All-map, All-contains, Contains-get_or, All-from_recursion, recursion_from_All}
use Rattle.afdx_units.specs.Time.{second, last_second}
use Rattle.afdx_pcap.specs.Record.{Record}
use Rattle.afdx_pcap.specs.Capture.{IsCapture}
use Rattle.afdx_table.specs.declared.rows.PortRow.{PortRow}
use Rattle.afdx_table.specs.Link.{Link, leads_to}
use Rattle.afdx_table.specs.Content.{Content}
use Rattle.afdx_table.specs.WellFormed.{IsWellFormed}
use Rattle.afdx_filter.specs.Verdict.{verdict_of}
use Rattle.afdx_load.specs.Accepted.{IsAccepted}
use Rattle.afdx_core.specs.Rows.{says_clean}
use Rattle.afdx_core.specs.Merge.{Arrival, Capture, records_of, merged}
use Rattle.afdx_core.specs.Inner.Merge.{ByStampIsOrdered}
use Rattle.afdx_session.specs.Texts.{Text}
use Rattle.afdx_session.specs.Outcome.{Results, IsOutcome}
use Rattle.afdx_session.specs.Output.{output_of, output_text}
use Rattle.afdx_session.specs.Headline.{records_for, IsIsolatedAt}
use Rattle.afdx_session.specs.Lined.{OutcomesIsolate}
use Rattle.afdx_session.specs.Inner.Readable.{OutputsAreReadable}
use Rattle.afdx_network.specs.Early.{ComesBy, RunsLeaveInTime, RecordsLeaveInTime}
use Rattle.afdx_network.proofs.Carried.{AreWritten}
use Rattle.afdx_network.proofs.Leaves.{half, each_left, leave_later}
use Rattle.afdx_network.proofs.Lists.{all_kept, all_weaken}
use Rattle.afdx_network.proofs.Readings.{records_all, merged_all}

-- each file has one reading
abbrev pub OneList : Type 0
OneList = (bytes : List ℕ) (rs qs : List Record) → IsCapture bytes rs → IsCapture bytes qs → rs ≡ qs

module _ (isolates : OutcomesIsolate) (ordered : ByStampIsOrdered) (readable : OutputsAreReadable) (written : AreWritten) (unique : OneList) (t : Content) (texts : List Text)
    (results : Results) (formed : IsWellFormed t) (accepted : IsAccepted t) (outcome : IsOutcome t texts results) (last : ℕ) (soon : last + second ≤ last_second)
    (came : All (λ (text : Text). ComesBy last text.1) texts) where
  abbrev read : List Capture
  read = outcome.read

  came_by : (port : ℕ) → AllByRecursion (λ (r : Record). r.stamp ≤ last) (records_of read port)
  came_by port = recursion_from_All (λ (r : Record). r.stamp ≤ last) (records_of read port) (records_all (λ (r : Record). r.stamp ≤ last) port texts read outcome.are_read each) where
    each : (text : Text) (records : List Record) → Contains texts text → text.0 ≡ port → IsCapture text.1 records → All (λ (r : Record). r.stamp ≤ last) records
    each text records among number capture =
        let c = All-contains (λ (x : Text). ComesBy last x.1) texts text came among in
        subst (All (λ (r : Record). r.stamp ≤ last)) (unique text.1 c.records records c.read capture) c.none_later

  came_soon : AllByRecursion (λ (a : Arrival). a.frame.stamp + second ≤ last_second) (merged read)
  came_soon =
      merged_all ordered (λ (r : Record). r.stamp + second ≤ last_second) read
      (λ port. all_weaken (λ (r : Record). r.stamp ≤ last) (λ (r : Record). r.stamp + second ≤ last_second) (records_of read port) (λ r by. omega (arith, by, soon)) (came_by port))

  abbrev out : PortRow → List Record
  out p = output_of t (merged read) p

  pub records_leave_in_time : (p : PortRow) → Contains t.ports p → AllByRecursion (λ (r : Record). r.stamp ≤ last + half) (out p)
  records_leave_in_time p among = each_left (λ (r : Record). r.stamp ≤ last + half) t read p (out p) isolated each where
    isolated : IsIsolatedAt t read p (out p)
    isolated = isolates t texts results formed accepted outcome p among

    each : (l : Link) → Contains t.links l → leads_to p.id l ≡ true → AllByRecursion (λ (r : Record). r.stamp ≤ last + half) (records_for l (out p))
    each l known leads =
        leave_later t read p (out p) l last formed accepted among isolated known leads
        (all_kept (λ (r : Record). r.stamp ≤ last) (λ (r : Record). says_clean l.id (verdict_of t l.from r)) (records_of read l.from) (came_by l.from))

  left_by : (p : PortRow) → Contains t.ports p → ComesBy (last + half) (output_text t (merged read) p)
  left_by p among =
      let again = readable t texts read formed outcome.are_read came_soon p among in
      record {
        records = out p;
        read = written (out p) again.0 again.1;
        none_later = All-from_recursion (λ (r : Record). r.stamp ≤ last + half) (out p) (records_leave_in_time p among);
      }

  pub leave_in_time : All (λ (text : Text). ComesBy (last + half) text.1) results.captures
  leave_in_time =
      subst (All (λ (text : Text). ComesBy (last + half) text.1)) (sym outcome.captures)
      (All-map (λ (text : Text). ComesBy (last + half) text.1) (λ (p : PortRow). (p.id, output_text t (merged read) p)) t.ports
      (λ k d within. left_by (get_or t.ports k d) (Contains-get_or t.ports k d within)))

pub runs_leave_in_time : OutcomesIsolate → ByStampIsOrdered → OutputsAreReadable → AreWritten → OneList → RunsLeaveInTime
runs_leave_in_time isolates ordered readable written unique t texts results formed accepted outcome last soon came =
    leave_in_time isolates ordered readable written unique t texts results formed accepted outcome last soon came

pub all_leave_in_time : OutcomesIsolate → ByStampIsOrdered → OutputsAreReadable → AreWritten → OneList → RecordsLeaveInTime
all_leave_in_time isolates ordered readable written unique t texts results formed accepted outcome last soon came p among =
    records_leave_in_time isolates ordered readable written unique t texts results formed accepted outcome last soon came p among
