use Rattle.std.proofs.Common.{Bool}
use Rattle.afdx_pcap.specs.Bytes.{plain_bytes}
use Rattle.afdx_network.specs.Inner.Noted.{AreNoted}
use Rattle.afdx_network.proofs.Carries.{OnItsWay}
use Rattle.afdx_network.proofs.windows.carry.Given as goal

-- the record went over the wires before a place
abbrev pub invariant-loop-index : goal.invariant-loop-index
invariant-loop-index l = record {
  way : OnItsWay l.network l.from l.fn.place (record { stamp = l.frame-inside.stamp; original = l.frame-inside.original; bytes = plain_bytes l.frame-inside.bytes }) l.fn.sites l.index l.sites;
  noted : (keeps : Bool) → AreNoted l.network keeps l.fn.sites l.fn.origins → AreNoted l.network keeps l.sites l.origins;
}
