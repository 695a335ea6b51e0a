use Rattle.std.proofs.Common.{◌≡◌, length}
use Rattle.afdx_network.proofs.watching.to_nowhere.Given as goal

abbrev pub invariant-loop-place : goal.invariant-loop-place
invariant-loop-place l = length l.files.items ≡ l._place
