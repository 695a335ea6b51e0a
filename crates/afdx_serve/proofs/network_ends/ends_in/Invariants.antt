use Rattle.std.proofs.Common.{ℕ, List, map, take, string_bytes, Bor}
use Rattle.afdx_serve.specs.NetworkMeasures.{HaveEnds}
use Rattle.afdx_serve.proofs.network_ends.ends_in.Given as goal

abbrev pub invariant-loop-end : goal.invariant-loop-end
invariant-loop-end l =
    HaveEnds l.form (map (λ (column : Bor (List ℕ)). column.now) l.columns) (map string_bytes l.names) l.origins (take l.end-index l.ends) (string_bytes l.text)
