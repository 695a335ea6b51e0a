-- The laws of accounts and of captures on which the policing of a capture rests.
use Rattle.std.specs.Prelude.{◌≡◌, ℕ, List, [], ◌∷◌, ◌++◌}
use Rattle.afdx_account.specs.Inner.Laws.{NextJoinsWhereItConforms, PassedByTheirFrames}
use Rattle.afdx_pcap.specs.declared.format.Format.{Format}
use Rattle.afdx_pcap.specs.Record.{Record}
use Rattle.afdx_pcap.specs.Capture.{Begins, after}
use Rattle.afdx_pcap.specs.Fault.{last_stamp}
use Rattle.afdx_pcap.specs.Reading.{AreReadUpTo}
use Rattle.afdx_pcap.specs.Text.{record_text, capture_text}

-- all of these laws together
pub record Ground : Type 0 where
  pub next : NextJoinsWhereItConforms Record
  pub by_frames : PassedByTheirFrames Record
  pub appended : (rs : List Record) (r : Record) → capture_text (rs ++ r ∷ []) ≡ capture_text rs ++ record_text r
  pub latest : (rs : List Record) (r : Record) → last_stamp 0 (rs ++ r ∷ []) ≡ r.stamp
  pub read_on : (f : Format) (bytes rest : List ℕ) (rs : List Record) (r : Record) → AreReadUpTo f bytes rs rest
      → Begins f (last_stamp 0 rs) rest r → AreReadUpTo f bytes (rs ++ r ∷ []) (after r rest)
