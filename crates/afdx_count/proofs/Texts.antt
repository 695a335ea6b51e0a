-- The lines of an output port.
use Rattle.std.proofs.Common.{◌≡◌, ℕ, List, ◌++◌, ap, ◌∙◌, append_assoc}
use Rattle.std.specs.Prelude.{codes}
use Rattle.afdx_count.specs.declared.ports.PortTally.{PortTally}
use Rattle.afdx_count.specs.Report.{class_line, out_lines}

pub high_then_low : (old between now : List ℕ) (p : PortTally) → between ≡ old ++ class_line (codes " high offered ") p.id p.high → now ≡ between ++ class_line (codes " low offered ") p.id p.low → now
    ≡ old ++ out_lines p
high_then_low old between now p between-is now-is =
    now-is ∙ ap (λ (t : List ℕ). t ++ class_line (codes " low offered ") p.id p.low) between-is
    ∙ append_assoc old (class_line (codes " high offered ") p.id p.high) (class_line (codes " low offered ") p.id p.low)
