use Rattle.std.proofs.Common.{◌∙◌, ℕ, List, String, Global, string_bytes, ap}
use Rattle.afdx_serve.specs.NetworkRuns.{switch_folder}
use Rattle.afdx_serve.specs.Traces.{trace_names}
use Rattle.afdx_serve.proofs.NetworkTraceLemmas.{names_more}
use Rattle.afdx_serve.proofs.network_trace.all_names.Goals as goal

pub loop-name-preserved : goal.loop-name-preserved
loop-name-preserved c =
    let name = c.deref.ensures ∙ ap (λ (s : String Global). string_bytes s) c.name-item.is in
    let path = c.deref-in-loop-name.ensures ∙ c.in_ok-path.ensures ∙ ap (λ (n : List ℕ). switch_folder c.args.output.now n) name in
    let own = c.in_ok-own.ensures ∙ ap trace_names path in
    names_more c.args.output.now c.args.names.now c.loop-name.name-index c.name-item.result c.loop-name.all.items c.in_ok-own.own.items _ c.loop-name-test.true c.in_ok-append.ensures.items
    c.loop-name.invariant own
