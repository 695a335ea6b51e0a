use Rattle.std.proofs.Common.{take}
use Rattle.afdx_serve.specs.Networks.{bytes_in, AreTables}
use Rattle.afdx_serve.proofs.network_get.read_tables.Given as goal

abbrev pub invariant-loop-place : goal.invariant-loop-place
invariant-loop-place l = AreTables (take l.place (bytes_in l.texts)) l.tables.items
