use Rattle.std.proofs.Common.{◌∙◌, String, Global, length, sym, ap, string_bytes}
use Rattle.std.proofs.lemmas.List.{length-map}
use Rattle.afdx_serve.proofs.trace.names_to_begin.Goals as goal

pub loop-part-init : goal.loop-part-init
loop-part-init c =
    let str : String Global → _ = λ s. string_bytes s in
    sym (length-map c.in_ok-names.names.items str) ∙ ap length c.in_ok-names.ensures
