use Rattle.std.proofs.Common.{ℕ, List, map, string_bytes, Bor}
use Rattle.afdx_serve.specs.NetworkMeasures.{end_text}
use Rattle.afdx_serve.proofs.NetworkMeasureLemmas.{text_at}
use Rattle.afdx_serve.proofs.network_ends.ends_in.Goals as goal

pub loop-end-preserved : goal.loop-end-preserved
loop-end-preserved c =
    let columns = map (λ (column : Bor (List ℕ)). column.now) c.args.columns.now in
    text_at (end_text c.args.form columns (map string_bytes c.args.names.now)) c.args.origins.now c.args.ends.now c.loop-end.end-index _ c.in-Some.delays _ _
    c.loop-end-test.true c.loop-end.invariant c.in-Some.ensures c.in_ok-push_end.ensures
