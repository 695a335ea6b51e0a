use Rattle.std.proofs.Common.{◌≡◌, ◌+◌, length}
use Rattle.afdx_serve.proofs.trace.names_to_begin.Given as goal

abbrev pub invariant-loop-part : goal.invariant-loop-part
invariant-loop-part l = length l.names.items ≡ l._part + 2
