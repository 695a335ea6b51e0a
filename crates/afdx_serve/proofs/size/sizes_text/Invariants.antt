use Rattle.std.proofs.Common.{Bor, Option, ◌≡◌, ℕ, List, ◌++◌, drop, string_bytes}
use Rattle.std.specs.Prelude.{option_map}
use Rattle.afdx_serve.specs.Sizes.{AreSizesOf}
use Rattle.afdx_serve.proofs.size.sizes_text.Given as goal

-- the name of the switch, where there is one
abbrev named : Option (Bor (List ℕ)) → Option (List ℕ)
named = option_map (λ name. name.now)

abbrev pub invariant-loop-row : goal.invariant-loop-row
invariant-loop-row l = record {
  lines : (rest : List ℕ) → AreSizesOf l.form (named l.switch) l.table.latency l.table.links (drop l.row-index l.row-items) rest
      → AreSizesOf l.form (named l.switch) l.table.latency l.table.links l.row-items (string_bytes l.text ++ rest);
  all : l.row-items ≡ l.table.ports;
}
