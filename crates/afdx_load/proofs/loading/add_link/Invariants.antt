use Rattle.std.proofs.Common.{◌≡◌, ℕ, ◌+◌, ◌<◌, true, ◌==◌, cond, drop, get_or}
use Rattle.std.specs.List.{list_any}
use Rattle.afdx_load.specs.Load.{Load}
use Rattle.afdx_load.specs.Inner.Adding.{with_link}
use Rattle.afdx_load.specs.Inner.Slots.{are_slots, speed_at, with_routed}
use Rattle.afdx_load.proofs.loading.add_link.Given as goal

abbrev pub invariant-loop-port : goal.invariant-loop-port
invariant-loop-port l = record {
  members : are_slots (drop l.port-index l.link.to) ≡ true;
  room : (port : ℕ) (d : Load) → port < 25 → list_any (λ n. n == port) (drop l.port-index l.link.to) ≡ true → (get_or l.loads port d).highs + (get_or l.loads port d).lows < 4096;
  same : (port : ℕ) (d : Load) → port < 25
      → cond (list_any (λ n. n == port) (drop l.port-index l.link.to)) (with_link (speed_at l.speeds port) (get_or l.loads port d) l.link) (get_or l.loads port d)
      ≡ with_routed l.speeds l.initial.loads l.link port d;
}
