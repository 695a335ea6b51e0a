use Rattle.std.proofs.Common.{◌≡◌, ◌<◌, ◌==◌, ℕ, length, get_or, map}
use Rattle.std.specs.List.{position_or_len}
use Rattle.afdx_count.specs.declared.ports.PortTally.{PortTally}
use Rattle.afdx_count.proofs.ports.places_of.Given as goal

-- the numbers before this one have their places
abbrev pub invariant-loop-number : goal.invariant-loop-number
invariant-loop-number l = record {
  long : length l.places ≡ 256;
  each : (n d : ℕ) → n < l.number → get_or l.places n d ≡ position_or_len (λ k. k == n) (map (λ (p : PortTally). p.id) l.tallies);
}
