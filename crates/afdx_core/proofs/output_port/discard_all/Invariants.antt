use Rattle.std.proofs.Common.{◌≡◌, map, take}
use Rattle.afdx_core.specs.Inner.Copies.{Discards}
use Rattle.afdx_port.specs.declared.Aged.{Aged}
use Rattle.afdx_core.proofs.output_port.discard_all.Given as goal

abbrev pub invariant-loop-one : goal.invariant-loop-one
invariant-loop-one g l = record {
  gave : Discards (map (λ (a : Aged). a.item) (take l.one-index l.aged)) l.initial.store.held l.store.held;
  room : l.store.room ≡ l.initial.store.room;
}
