use Rattle.std.proofs.Common.{◌<◌, ◌≡◌, [], ◌∷◌, ◌++◌, refl, length, arith, map, take, List, subst, sym, ap, ◌∙◌, true}
use Rattle.std.proofs.lemmas.List.{map_more, take_all}
use Rattle.afdx_port.specs.declared.Aged.{Aged}
use Rattle.afdx_port.specs.declared.Item.{Item}
use Rattle.afdx_core.specs.Inner.Copies.{Discards}
use Rattle.afdx_held_frames.specs.Seen.{is_held}
use Rattle.afdx_core.proofs.Counts.{gave_none, gave_more, held_next, held_within}
use Rattle.afdx_core.proofs.output_port.discard_all.Goals as goal

pub loop-one-init : goal.loop-one-init
loop-one-init g c = record { gave = gave_none c.args.store.now.held; room = refl }

pub discard-requires : goal.discard-requires
discard-requires g c =
    subst (λ (a : Aged). is_held c.loop-one.store.held a.item.number ≡ true) (sym c.one-item.is)
    (held_next c.args.aged.now c.loop-one.one-index c.one-item.result c.args.store.now.held c.loop-one.store.held (omega (arith, c.loop-one-test.true)) c.requires c.loop-one.invariant.gave)

pub loop-one-preserved : goal.loop-one-preserved
loop-one-preserved g c =
    let aged = c.args.aged.now in
    let k = c.loop-one.one-index in
    let x = c.one-item.result.item in
    let lt : k < length aged = omega (arith, c.loop-one-test.true) in
    let held = subst (λ (a : Aged). is_held c.loop-one.store.held a.item.number ≡ true) (sym c.one-item.is)
    (held_next aged k c.one-item.result c.args.store.now.held c.loop-one.store.held lt c.requires c.loop-one.invariant.gave) in
    let more = map_more (λ (a : Aged). a.item) aged k c.one-item.result lt in
    let items = map (λ (a : Aged). a.item) (take k aged) in
    record {
      gave = subst (λ (xs : List Item). Discards xs c.args.store.now.held c.discard.new.self.held) (ap (λ (a : Aged). items ++ a.item ∷ []) c.one-item.is ∙ sym more)
          (gave_more items x c.args.store.now.held c.loop-one.store.held c.discard.new.self.held c.loop-one.invariant.gave (held_within c.loop-one.store.held x.number held) c.discard.ensures.held);
      room = c.discard.ensures.room ∙ c.loop-one.invariant.room;
    }

pub returns : goal.returns
returns g c = record {
  store = subst (λ (xs : List Aged). Discards (map (λ (a : Aged). a.item) xs) c.args.store.now.held c.loop-one.store.held)
      (take_all c.loop-one.one-index c.args.aged.now (omega (arith, c.loop-one-test.false))) c.loop-one.invariant.gave;
  room = c.loop-one.invariant.room;
}
