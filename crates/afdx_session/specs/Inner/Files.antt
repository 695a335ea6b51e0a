-- What goes to the files of the ports while a run goes on.
use Rattle.std.specs.Prelude.{ℕ, ◌+◌, ◌≡◌, List, ◌++◌, length, take, slice_get, Option, Some}
use Rattle.std.specs.List.{AllByRecursion}
use Rattle.std.specs.Io.KnownBytes.{Appends}
use Rattle.afdx_table.specs.declared.rows.PortRow.{PortRow}
use Rattle.afdx_table.specs.Content.{Content}
use Rattle.afdx_core.specs.Merge.{Arrival, Capture, merged}
use Rattle.afdx_session.specs.declared.lane.Lane.{Lane}
use Rattle.afdx_session.specs.declared.machine.Machine.{Machine}
use Rattle.afdx_session.specs.Texts.{Text}
use Rattle.afdx_session.specs.Reading.{AreCaptures}
use Rattle.afdx_session.specs.Output.{output_text}
use Rattle.afdx_session.specs.Inner.Lent.{IsOver, texts_over, taken_by, left_in, IsCarrying, HaveGone}
use Rattle.afdx_session.specs.Inner.Kept.{AreOfTable, IsGoing, IsOfSameTable}

-- these bytes, the first of what a lane had of its output, were taken
pub record HandsOver {Z : Type 0} (bytes : List ℕ) (old new : Lane Z) : Type 0 where
  pub port : new.port ≡ old.port
  pub reader : new.reader ≡ old.reader
  pub last : new.last ≡ old.last
  pub ended : new.ended ≡ old.ended
  pub waiting : new.waiting ≡ old.waiting
  pub undone : new.undone ≡ old.undone
  pub closed : new.closed ≡ old.closed
  pub ready : new.ready ≡ old.ready
  pub taken : new.taken ≡ old.taken + length bytes
  pub out : old.out.items ≡ bytes ++ new.out.items

-- since the start, each file has so many bytes more, the first of its port's output
pub record HavePrefixes {F : Type 0} (contents : F → Option (List ℕ)) (t : Content) (arrivals : List Arrival) (taken : List ℕ) (start now : List F) : Type 0 where
  pub long : length now ≡ length start
  pub each : (place k : ℕ) (p : PortRow) (f g : F) → slice_get t.ports place ≡ Some p → slice_get taken place ≡ Some k → slice_get start place ≡ Some f → slice_get now place ≡ Some g
      → Appends (contents f) (contents g) (take k (output_text t arrivals p))

-- whatever the captures are read as, each file has so many bytes more, the first of its port's output
abbrev pub HaveMore : {F : Type 0} → (F → Option (List ℕ)) → Content → List Text → List ℕ → List F → List F → Type 0
HaveMore contents t texts taken start now = (read : List Capture) → AreCaptures texts read → HavePrefixes contents t (merged read) taken start now

-- what lanes had of their outputs, or a part of it, went to their files, and nothing else was done
pub record PutsOut {F Z : Type 0} (contents : F → Option (List ℕ)) (m : Machine Z) (files : List F) (lanes : List (Lane Z)) (now : List F) : Type 0 where
  pub of : AreOfTable m.switch.run.table lanes
  pub going : IsGoing m.switch.run.table lanes m.switch m.counts
  pub over : AllByRecursion IsOver lanes
  pub texts : texts_over lanes ≡ texts_over m.lanes.items
  pub left : left_in lanes ≡ left_in m.lanes.items
  pub many : length lanes ≡ length m.lanes.items
  pub long : length now ≡ length files
  pub more : (start : List F) → HaveMore contents m.switch.run.table (texts_over m.lanes.items) (taken_by m.lanes.items) start files
      → HaveMore contents m.switch.run.table (texts_over m.lanes.items) (taken_by lanes) start now

-- a machine went on, and more of what left is in the files
pub record Proceeds {F Z : Type 0} (contents : F → Option (List ℕ)) (old : Machine Z) (files : List F) (new : Machine Z) (now : List F) : Type 0 where
  pub carrying : IsCarrying new
  pub same : IsOfSameTable old.switch new.switch
  pub texts : texts_over new.lanes.items ≡ texts_over old.lanes.items
  pub many : length new.lanes.items ≡ length old.lanes.items
  pub long : length now ≡ length files
  pub more : (start : List F) → HaveMore contents old.switch.run.table (texts_over old.lanes.items) (taken_by old.lanes.items) start files
      → HaveMore contents old.switch.run.table (texts_over old.lanes.items) (taken_by new.lanes.items) start now

-- all captures of lanes have ended with these texts, all their records have gone to the switch, and more of what left is in the files
pub record HasEndedInto {F Z : Type 0} (contents : F → Option (List ℕ)) (texts : List Text) (old : List (Lane Z)) (files : List F) (m : Machine Z) (now : List F) : Type 0 where
  pub gone : HaveGone texts m
  pub long : length now ≡ length files
  pub more : (start : List F) → HaveMore contents m.switch.run.table texts (taken_by old) start files → HaveMore contents m.switch.run.table texts (taken_by m.lanes.items) start now
