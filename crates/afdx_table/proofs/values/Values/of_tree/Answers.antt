use Rattle.std.proofs.Common.{◌≡◌, ◌<◌, true, false, [], None, Some, String, Global, string_bytes, refl, sym, ap, ◌∙◌, length, length-set, arith}
use Rattle.std.proofs.lemmas.Grind.{common_steps}
use Rattle.toml.specs.View.{view, members_view, table_view}
use Rattle.toml.specs.declared.value.Value.{Value}
use Rattle.afdx_table.specs.Fields.{is_one_of}
use Rattle.afdx_table.specs.Inner.Slots.{key_place, key_named, value_in}
use Rattle.afdx_table.proofs.SlotLemmas.{is_one_of-named, is_one_of-unnamed, refused, accepted, found_or-none, nothing_yet, put, pass, free, taken}
use Rattle.afdx_table.proofs.values.Values.of_tree.Goals as goal

pub loop-name-init : goal.loop-name-init
loop-name-init c =
    let all = c.into_iter-name-iterator.ensures.into_iter_gives ∙ c.iter-name-items.ensures.rest in
    record { long = refl; values = λ k. rw (nothing_yet k, all) refl; known = rw all refl }

pub returns-in_err-key_named : goal.returns-in_err-key_named
returns-in_err-key_named c =
    let e : String Global × Value = (c.in-Some.name.now, c.in-Some.value.now) in
    let none : key_named (string_bytes e.0) ≡ None = ap key_named (sym c.as_str.ensures.value) ∙ sym c.key_named.ensures ∙ c.in_err-key_named.was in
    rw c.from_residual.ensures (refused c.args.keys.now e c.next.new.self _ (is_one_of-unnamed c.args.keys.now (string_bytes e.0) none) (rw c.in-Some.ensures.steps at c.loop-name.invariant.known))

pub returns-then-not-places-place : goal.returns-then-not-places-place
returns-then-not-places-place c =
    let e : String Global × Value = (c.in-Some.name.now, c.in-Some.value.now) in
    let j = c.in_ok-key_named.field-0 in
    let named : key_named (string_bytes e.0) ≡ Some j = ap key_named (sym c.as_str.ensures.value) ∙ sym c.key_named.ensures ∙ c.in_ok-key_named.was in
    let there = sym (c.places_of-places.ensures c.place_of-place.result c.place_of-place.ensures.within) ∙ c.if-not-places-place.true in
    let other : is_one_of c.args.keys.now (string_bytes e.0) ≡ false =
    is_one_of-named c.args.keys.now (string_bytes e.0) j named ∙ rw (← c.place_of-place.ensures.place) there in
    refused c.args.keys.now e c.next.new.self _ other (rw c.in-Some.ensures.steps at c.loop-name.invariant.known)

pub loop-name-preserved-then-is_none : goal.loop-name-preserved-then-is_none
loop-name-preserved-then-is_none c =
    let e : String Global × Value = (c.in-Some.name.now, c.in-Some.value.now) in
    let j = c.in_ok-key_named.field-0 in
    let named : key_named (string_bytes e.0) ≡ Some j = ap key_named (sym c.as_str.ensures.value) ∙ sym c.key_named.ensures ∙ c.in_ok-key_named.was in
    let there = sym (c.places_of-places.ensures c.place_of-place.result c.place_of-place.ensures.within) ∙ c.if-not-places-place.false in
    let one : is_one_of c.args.keys.now (string_bytes e.0) ≡ true =
    is_one_of-named c.args.keys.now (string_bytes e.0) j named ∙ rw (← c.place_of-place.ensures.place) there in
    let here : c.place_of-place.result < length c.loop-name.slots = omega (arith, c.place_of-place.ensures.within, c.loop-name.invariant.long) in
    let within : key_place j < length c.loop-name.slots = omega (arith, c.place_of-place.ensures.place, here) in
    let is_free : value_in c.loop-name.slots j ≡ None = free c.loop-name.slots c.place_of-place.result j c.index-slots-place.result c.place_of-place.ensures.place here c.if-is_none.ensures in
    record {
      long = length-set _ _ _ ∙ c.loop-name.invariant.long;
      values = rw c.place_of-place.ensures.place (put c.loop-name.slots (string_bytes e.0) c.in-Some.value (members_view c.next.new.self) (table_view c.args.table.now) j named within is_free
          (rw c.in-Some.ensures.steps at c.loop-name.invariant.values));
      known = accepted c.args.keys.now e c.next.new.self _ one (rw c.in-Some.ensures.steps at c.loop-name.invariant.known);
    }

pub loop-name-preserved : goal.loop-name-preserved
loop-name-preserved c =
    let e : String Global × Value = (c.in-Some.name.now, c.in-Some.value.now) in
    let j = c.in_ok-key_named.field-0 in
    let named : key_named (string_bytes e.0) ≡ Some j = ap key_named (sym c.as_str.ensures.value) ∙ sym c.key_named.ensures ∙ c.in_ok-key_named.was in
    let there = sym (c.places_of-places.ensures c.place_of-place.result c.place_of-place.ensures.within) ∙ c.if-not-places-place.false in
    let one : is_one_of c.args.keys.now (string_bytes e.0) ≡ true =
    is_one_of-named c.args.keys.now (string_bytes e.0) j named ∙ rw (← c.place_of-place.ensures.place) there in
    let here : c.place_of-place.result < length c.loop-name.slots = omega (arith, c.place_of-place.ensures.within, c.loop-name.invariant.long) in
    let is_taken = taken c.loop-name.slots c.place_of-place.result j c.index-slots-place.result c.place_of-place.ensures.place here c.if-is_none.ensures in
    record {
      long = c.loop-name.invariant.long;
      values = pass c.loop-name.slots (string_bytes e.0) (view e.1) (members_view c.next.new.self) (table_view c.args.table.now) j named is_taken
          (rw c.in-Some.ensures.steps at c.loop-name.invariant.values);
      known = accepted c.args.keys.now e c.next.new.self _ one (rw c.in-Some.ensures.steps at c.loop-name.invariant.known);
    }

pub returns : goal.returns
returns c =
    let none : c.loop-name.name-iterator ≡ [] = grind (arith, common_steps) in (
      sym (rw none at c.loop-name.invariant.known),
      λ k. sym (found_or-none (value_in c.loop-name.slots k)) ∙ (rw none at c.loop-name.invariant.values) k,
    )
