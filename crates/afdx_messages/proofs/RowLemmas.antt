-- The lines of rows, and the one that says how many rows more are refused.
use Rattle.std.proofs.Common.{arith, ◌≡◌, ℕ, zero, suc, ◌<◌, ◌++◌, codes, List, map, slice_get, Option, option_map, Global, String, string_bytes, refl, ap, sym, ◌∙◌}
use Rattle.std.specs.Fmt.{decimal}
use Rattle.std.proofs.lemmas.Option.{slice_get-map}
use Rattle.afdx_wiring.specs.declared.fault.Short.{Short}
use Rattle.afdx_wiring.specs.declared.fault.NetworkFault.{NetworkFault}
use Rattle.afdx_wiring.specs.Lines.{as_line}
use Rattle.afdx_messages.specs.declared.network_failure.JitterRule.{JitterRule}
use Rattle.afdx_messages.specs.Lines.{network_rule, jitter_rule, row_fault, network_text, rest_line}

pub some_rest : (rule : JitterRule) (n : ℕ) → 0 < n → rest_line rule n ≡ as_line (network_rule (jitter_rule rule) ++ codes ", and " ++ decimal n ++ codes " more")
some_rest rule zero some = absurd (omega (arith, some))
some_rest rule (suc n) some = refl

-- the text of a row's fault by the name that was looked up
pub named : (rule : JitterRule) (names : List (String Global)) (short : Short) (name : Option (List ℕ)) (fault : NetworkFault) (text : List ℕ)
    → name ≡ option_map string_bytes (slice_get names short.switch)
    → fault ≡ row_fault rule short → text ≡ network_text name fault → text ≡ network_text (slice_get (map string_bytes names) short.switch) (row_fault rule short)
named rule names short name fault text name_is fault_is is =
    is ∙ ap (λ (n : Option (List ℕ)). network_text n fault) (name_is ∙ sym (slice_get-map string_bytes names short.switch))
    ∙ ap (λ (f : NetworkFault). network_text (slice_get (map string_bytes names) short.switch) f) fault_is
