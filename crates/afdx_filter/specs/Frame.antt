-- What an account sees of a captured frame.
use Rattle.std.specs.Prelude.{length}
use Rattle.afdx_units.specs.Line.{size_of}
use Rattle.afdx_account.specs.declared.frame.Frame.{Frame}
use Rattle.afdx_pcap.specs.Record.{Record}

-- a captured frame, as an account sees it
abbrev pub frame_of : Record → Frame
frame_of r = record { stamp = r.stamp; size = size_of (length r.bytes) }
