-- A step of a walk back.
use Rattle.std.proofs.Common.{◌≡◌, ℕ, zero, suc, ◌-◌, ◌≤◌, ap, arith}
use Rattle.afdx_jitter.specs.declared.delays.Delays.{Delays}
use Rattle.afdx_network_check.specs.Net.{Network, Row, ingress, wire_to}
use Rattle.afdx_network_check.specs.Order.{source_by, source_within, way_by, way_within}

less_one : (n : ℕ) → n ≡ suc n - 1
less_one n = omega arith

pub source_step : (n : ℕ) (net : Network) (r : Row) → 1 ≤ n → source_within n net r ≡ source_by (source_within (n - 1) net) net r (wire_to net (ingress r))
source_step zero net r some = absurd (omega (arith, some))
source_step (suc n) net r some = ap (λ (m : ℕ). source_by (source_within m net) net r (wire_to net (ingress r))) (less_one n)

pub way_step : (n : ℕ) (net : Network) (r : Row) (after : Delays) → 1 ≤ n → way_within n net r after ≡ way_by (way_within (n - 1) net) net r after (wire_to net (ingress r))
way_step zero net r after some = absurd (omega (arith, some))
way_step (suc n) net r after some = ap (λ (m : ℕ). way_by (way_within m net) net r after (wire_to net (ingress r))) (less_one n)
