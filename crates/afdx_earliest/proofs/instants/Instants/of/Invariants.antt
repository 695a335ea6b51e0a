use Rattle.std.proofs.Common.{◌≡◌, ℕ, ◌+◌, ◌*◌, ◌<◌, length, get_or}
use Rattle.afdx_earliest.specs.Inner.Groups.{IsFirstFrom}
use Rattle.afdx_earliest.proofs.instants.Instants.of.Given as goal

-- the groups so far have their leasts
abbrev pub invariant-loop-group : goal.invariant-loop-group
invariant-loop-group l = record {
  four : length l.leasts ≡ 4;
  four_firsts : length l.firsts ≡ 4;
  groups : (g : ℕ) → g < l.group → IsFirstFrom l.numbers (g * 6) (g * 6 + 6) (get_or l.firsts g 0) (get_or l.leasts g 0);
}
