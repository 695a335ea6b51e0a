use Rattle.std.proofs.Common.{Bor, ℕ, List, ◌++◌, ap, ◌∙◌}
use Rattle.std.specs.Prelude.{option_map}
use Rattle.afdx_load.specs.Fits.{broken_rules}
use Rattle.afdx_wiring.specs.Lines.{as_line}
use Rattle.afdx_serve.specs.Sizes.{verdict_text, delays_text, of_switch}
use Rattle.afdx_serve.proofs.size.size_line.Goals as goal

pub returns : goal.returns
returns c =
    let row = c.args.row.now in
    let load = c.args.load.now in
    let delays = c.in_ok-push_delays.ensures ∙ ap (λ (t : List ℕ). t ++ delays_text row load) c.in_ok-line.ensures in
    let verdict = c.in_ok-push_verdict.ensures ∙ ap (λ (t : List ℕ). t ++ verdict_text (broken_rules row load)) delays in
    let switch = c.in_ok-push_switch.ensures ∙ ap (λ (t : List ℕ). t ++ of_switch (option_map (λ (name : Bor (List ℕ)). name.now) c.args.switch)) verdict in
    c.in_ok-push_str.ensures.bytes ∙ ap as_line switch
