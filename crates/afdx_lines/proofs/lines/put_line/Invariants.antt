use Rattle.std.proofs.Common.{◌≡◌, ◌++◌, drop, map, string_bytes}
use Rattle.afdx_lines.specs.Lines.{line}
use Rattle.afdx_lines.proofs.lines.put_line.Given as goal

abbrev pub invariant-loop-word : goal.invariant-loop-word
invariant-loop-word g l = string_bytes l.initial.text ++ line (map (λ p. (p.0.now, p.1)) l.parts) ≡ string_bytes l.text ++ line (map (λ p. (p.0.now, p.1)) (drop l.word-index l.parts))
