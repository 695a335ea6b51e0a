use Rattle.std.proofs.Common.{ℕ, List, ◌++◌, drop, map, string_bytes}
use Rattle.afdx_serve.specs.Sizes.{AreSizesFrom}
use Rattle.afdx_serve.proofs.network_size.network_sizes.Given as goal

abbrev pub invariant-loop-switch : goal.invariant-loop-switch
invariant-loop-switch l =
    (rest : List ℕ) → AreSizesFrom l.form l.switch (map string_bytes l.names) (drop l.switch l.tables) rest → AreSizesFrom l.form 0 (map string_bytes l.names) l.tables (string_bytes l.text ++ rest)
