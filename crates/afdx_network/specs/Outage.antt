-- What comes in from outside in an outage (profile): at a switch that is down, nothing.
use Rattle.std.specs.Prelude.{ℕ, ◌≡◌, Bool, if◌then◌else◌, List, [], map, length, drop, slice_get, Option, Some, None}
use Rattle.std.specs.List.{enumerate_from}
use Rattle.afdx_pcap.specs.Text.{capture_text}
use Rattle.afdx_session.specs.Texts.{Text}
use Rattle.afdx_wiring.specs.declared.layout.End.{End}
use Rattle.afdx_wiring.specs.File.{Layout, is_down}
use Rattle.afdx_network.specs.declared.outage.Incoming.{Incoming}
use Rattle.afdx_network.specs.declared.outage.Silence.{Silence}
use Rattle.afdx_network.specs.Runs.{Given}

-- captures of no frames, for the same ports
abbrev pub silent : List Text → List Text
silent texts = map (λ text. (text.0, capture_text [])) texts

-- what comes in of what is given for the switch at a place: no frames, if it is down
abbrev pub up_at : Layout → ℕ × List Text → List Text
up_at l at = if is_down l.switches at.0 then silent at.1 else at.1

-- what comes in of all that is given
abbrev pub given_up : Layout → Given → Given
given_up l given = map (up_at l) (enumerate_from 0 given)

-- ---- readers

-- what is left of a capture of no frames
abbrev pub still_silent : Silence → Option (List ℕ)
still_silent s = Some (drop s.read s.text.items)

-- what is left of a capture: of its reader, unless one of no frames is in its place
abbrev pub in_place : Option (List ℕ) → Option Silence → Option (List ℕ)
in_place remaining None = remaining
in_place remaining (Some s) = still_silent s

-- what comes in at a port, as far as it was not read
abbrev pub coming : {R : Type 0} → (R → Option (List ℕ)) → Incoming R → Option (List ℕ)
coming remaining i = in_place (remaining i.reader) i.silence

-- what comes in at a port at first: what the reader gives, or a capture of no frames if the switch is down
abbrev pub comes : {R : Type 0} → (R → Option (List ℕ)) → Bool → R → Option (List ℕ)
comes remaining down r = if down then Some (capture_text []) else remaining r

-- what comes in at each of these ports is what its reader gives, or a capture of no frames if the switch is down
pub record AreComing {R : Type 0} (remaining : R → Option (List ℕ)) (l : Layout) (ends : List End) (readers : List R) (all : List (Incoming R)) : Type 0 where
  pub many : length all ≡ length readers
  pub each : (place : ℕ) (e : End) (r : R) (i : Incoming R) → slice_get ends place ≡ Some e → slice_get readers place ≡ Some r → slice_get all place ≡ Some i
      → coming remaining i ≡ comes remaining (is_down l.switches e.switch) r
