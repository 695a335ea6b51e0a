use Rattle.std.proofs.Common.{◌≡◌, length}
use Rattle.afdx_session.proofs.sources.to_nowhere.Given as goal

abbrev pub invariant-loop-place : goal.invariant-loop-place
invariant-loop-place g l = length l.files.items ≡ l._place
