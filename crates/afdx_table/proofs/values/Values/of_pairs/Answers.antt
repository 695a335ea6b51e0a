use Rattle.std.proofs.Common.{◌≡◌, ◌<◌, ◌+◌, true, false, drop, sym, ◌∙◌, length, length-set, refl, arith}
use Rattle.afdx_table.specs.Names.{key_text}
use Rattle.afdx_table.specs.Fields.{is_one_of}
use Rattle.afdx_table.specs.Inner.Slots.{key_place}
use Rattle.afdx_table.proofs.SlotLemmas.{named, nothing_yet, is_one_of-named}
use Rattle.afdx_table.proofs.PairLemmas.{next_pair, pairs_first, pairs_refuse, pairs_put}
use Rattle.afdx_table.proofs.values.Values.of_pairs.Goals as goal

pub loop-pair-init : goal.loop-pair-init
loop-pair-init c = record { long = refl; yet = pairs_first _ _ _ (λ k. nothing_yet k) }

pub returns-then-not-places-place : goal.returns-then-not-places-place
returns-then-not-places-place c =
    let all = c.args.pairs.now in
    let i = c.loop-pair.pair-index in
    let p = c.pair-item.result in
    let there = sym (c.places_of-places.ensures c.place_of-place.result c.place_of-place.ensures.within) ∙ c.if-not-places-place.true in
    let other : is_one_of c.args.keys.now (key_text c.pair-item.result.0) ≡ false =
    is_one_of-named c.args.keys.now (key_text p.0) p.0 (named p.0) ∙ rw (← c.place_of-place.ensures.place) there in
    pairs_refuse c.args.keys.now c.loop-pair.slots p (drop (i + 1) all) all other (rw (next_pair all i p c.loop-pair-test.true c.pair-item.is) at c.loop-pair.invariant.yet)

pub loop-pair-preserved : goal.loop-pair-preserved
loop-pair-preserved c =
    let all = c.args.pairs.now in
    let i = c.loop-pair.pair-index in
    let p = c.pair-item.result in
    let there = sym (c.places_of-places.ensures c.place_of-place.result c.place_of-place.ensures.within) ∙ c.if-not-places-place.false in
    let one : is_one_of c.args.keys.now (key_text c.pair-item.result.0) ≡ true =
    is_one_of-named c.args.keys.now (key_text p.0) p.0 (named p.0) ∙ rw (← c.place_of-place.ensures.place) there in
    let within : key_place c.pair-item.result.0 < length c.loop-pair.slots = omega (arith, c.place_of-place.ensures.place, c.place_of-place.ensures.within, c.loop-pair.invariant.long) in
    record {
      long = length-set _ _ _ ∙ c.loop-pair.invariant.long;
      yet = rw c.place_of-place.ensures.place (pairs_put c.args.keys.now c.loop-pair.slots p _ (drop (i + 1) all) all one refl within
          (rw (next_pair all i p c.loop-pair-test.true c.pair-item.is) at c.loop-pair.invariant.yet));
    }
