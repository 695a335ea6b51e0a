use Rattle.std.proofs.Common.{◌≡◌, map, take}
use Rattle.afdx_serve.specs.NetworkTraces.{network_trace_texts}
use Rattle.afdx_serve.proofs.network_trace.texts_of.Given as goal

abbrev pub invariant-loop-switch : goal.invariant-loop-switch
invariant-loop-switch l =
    map (λ text. text.items) l.texts.items ≡ network_trace_texts l.selection (take l.switch (map (λ own. own.items) l.firsts)) (take l.switch l.dones)
