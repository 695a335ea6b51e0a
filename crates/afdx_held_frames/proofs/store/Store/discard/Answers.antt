use Rattle.std.proofs.Common.{zero, refl, ◌+◌, ◌≡◌, ◌≢◌, ◌-◌, suc, ℕ, true, get_or, set, is_some, None, Some, Option, ap, sym, ◌∙◌, arith, subst}
use Rattle.slab.specs.Slab.{Slab, get, slab_len, with_value, Updates}
use Rattle.afdx_past.specs.Seen.{Seen}
use Rattle.afdx_held_frames.specs.Seen.{StoreValue, one_less}
use Rattle.afdx_held_frames.specs.Inner.Kept.{no_key, key_at, IsKeptStore, value_of}
use Rattle.afdx_held_frames.specs.declared.store.Store.TheInside.{Inside}
use Rattle.std.proofs.lemmas.List.{get_or-set_same, get_or-set_other}
use Rattle.afdx_held_frames.specs.declared.store.Slot.{Slot}
use Rattle.afdx_held_frames.proofs.Seen.{seen, Found, found, within_keys}
use Rattle.afdx_held_frames.proofs.Keeping.{key_left, within_some, count_same, Gone, held_last, kept_last, held_fewer, kept_fewer}
use Rattle.afdx_held_frames.proofs.store.Store.discard.Goals as goal

pub key_of-key-requires-clause-left : goal.key_of-key-requires-clause-left
key_of-key-requires-clause-left g c =
    let p = c.self.inside in
    let held = ap (λ (v : StoreValue). is_some (get_or v.held c.args.number None)) c.self.view_is ∙ c.requires in
    key_left p c.args.number c.self.invariant held

pub key_of-key-requires-clause-within : goal.key_of-key-requires-clause-within
key_of-key-requires-clause-within g c =
    let p = c.self.inside in
    let held = ap (λ (v : StoreValue). is_some (get_or v.held c.args.number None)) c.self.view_is ∙ c.requires in
    within_keys p.keys.items p.slots.slots c.args.number held

pub set-requires-clause-left : goal.set-requires-clause-left
set-requires-clause-left g c =
    let p = c.self.inside in
    let held = ap (λ (v : StoreValue). is_some (get_or v.held c.args.number None)) c.self.view_is ∙ c.requires in
    key_left p c.args.number c.self.invariant held

pub set-requires-clause-within : goal.set-requires-clause-within
set-requires-clause-within g c =
    let p = c.self.inside in
    let held = ap (λ (v : StoreValue). is_some (get_or v.held c.args.number None)) c.self.view_is ∙ c.requires in
    within_keys p.keys.items p.slots.slots c.args.number held

pub index_mut-slot-requires : goal.index_mut-slot-requires
index_mut-slot-requires g c =
    let p = c.self.inside in
    let held = ap (λ (v : StoreValue). is_some (get_or v.held c.args.number None)) c.self.view_is ∙ c.requires in
    let f = found p.keys.items p.slots.slots c.args.number held in
    ap is_some (ap (get p.slots) c.key_of-key.ensures ∙ f.1.there)

pub overflow_sub-slot : goal.overflow_sub-slot
overflow_sub-slot g c =
    let left = c.self.invariant.copies c.key_of-key.result c.index_mut-slot.result.now c.index_mut-slot.ensures.value in
    omega (arith, left)

same_slot : {Z : Type 0} (o : Option (Slot Z)) (a b : Slot Z) → o ≡ Some a → o ≡ Some b → a ≡ b
same_slot o a b x y = (cc)

-- the slot that was read is that of the arrival
pub read : {Z : Type 0} (p : Inside Z) (number key : ℕ) (slot : Slot Z) → is_some (get_or (value_of p).held number None) ≡ true → key ≡ key_at p.keys.items number → get p.slots key ≡ Some slot
    → Found p.keys.items p.slots.slots number slot
read p number key slot held at there =
    let f = found p.keys.items p.slots.slots number held in
    subst (λ (s : Slot _). Found p.keys.items p.slots.slots number s) (same_slot (get p.slots key) f.0 slot (ap (get p.slots) at ∙ f.1.there) there) f.1

-- the slot at the key, with one copy less
abbrev less : {Z : Type 0} → Slot Z → Slot Z
less slot = record { copies = slot.copies - 1; frame = slot.frame }

more_than_one : (n : ℕ) → n - 1 ≢ 0 → (m : ℕ) × (n ≡ suc (suc m))
more_than_one zero ne = absurd (ne refl)
more_than_one (suc zero) ne = absurd (ne refl)
more_than_one (suc (suc m)) ne = (m, refl)

kept_more_left : {Z : Type 0} (p : Inside Z) (number key : ℕ) (slot : Slot Z) → IsKeptStore p → key ≡ key_at p.keys.items number → Found p.keys.items p.slots.slots number slot → slot.copies - 1 ≢ 0
    → IsKeptStore (record { slots = with_value p.slots key (less slot); keys = p.keys; low = p.low; room = p.room })
kept_more_left p number key slot kept at f ne =
    let m = more_than_one slot.copies ne in
    let e : suc m.0 ≡ slot.copies - 1 = omega (arith, m.1) in
    subst (λ k. IsKeptStore (record { slots = with_value p.slots k (less slot); keys = p.keys; low = p.low; room = p.room })) (sym at)
    (subst (λ n. IsKeptStore (record { slots = with_value p.slots (key_at p.keys.items number) (record { copies = n; frame = slot.frame }); keys = p.keys; low = p.low; room = p.room })) e
    (kept_fewer p kept number slot f m.0 m.1))

held_more_left : {Z : Type 0} (p : Inside Z) (number key : ℕ) (slot : Slot Z) → IsKeptStore p → key ≡ key_at p.keys.items number → Found p.keys.items p.slots.slots number slot → slot.copies - 1 ≢ 0
    → seen (with_value p.slots key (less slot)).slots p.keys.items ≡ set (value_of p).held number (one_less (get_or (value_of p).held number None))
held_more_left p number key slot kept at f ne =
    let m = more_than_one slot.copies ne in
    let e : suc m.0 ≡ slot.copies - 1 = omega (arith, m.1) in
    subst (λ k. seen (with_value p.slots k (less slot)).slots p.keys.items ≡ set (value_of p).held number (one_less (get_or (value_of p).held number None))) (sym at)
    (subst (λ n. seen (with_value p.slots (key_at p.keys.items number) (record { copies = n; frame = slot.frame })).slots p.keys.items
    ≡ set (value_of p).held number (one_less (get_or (value_of p).held number None))) e
    (held_fewer p kept number slot f m.0 m.1))

-- the last copy was discarded: its slot was written, and then emptied
emptied : {Z : Type 0} (p : Inside Z) (number key : ℕ) (slot : Slot Z) (slots : Slab (Slot Z)) (kept : IsKeptStore p) (f : Found p.keys.items p.slots.slots number slot)
    → key ≡ key_at p.keys.items number
    → Updates (with_value p.slots key (less slot)) slots key None → Gone p kept number slot f slots
emptied p number key slot slots kept f at updates = record {
  none = ap (get slots) (sym at) ∙ updates.changed;
  others = λ other ne. let ne' : other ≢ key = (λ e. ne (e ∙ at)) in updates.others other ne' ∙ get_or-set_other p.slots.slots key other (Some (less slot)) None ne';
}

kept_none_left : {Z : Type 0} (p : Inside Z) (number key : ℕ) (slot : Slot Z) (slots : Slab (Slot Z)) (keys : Seen ℕ) → IsKeptStore p → key ≡ key_at p.keys.items number
    → Found p.keys.items p.slots.slots number slot → get p.slots key ≡ Some slot → slot.copies - 1 ≡ 0 → Updates (with_value p.slots key (less slot)) slots key None
    → slab_len slots + 1 ≡ slab_len (with_value p.slots key (less slot)) → slots.capacity ≡ p.slots.capacity → keys ≡ record p.keys { items = set p.keys.items number no_key }
    → IsKeptStore (record { slots = slots; keys = keys; low = p.low; room = p.room })
kept_none_left p number key slot slots keys kept at f there last updates len cap is =
    let same = count_same p.slots.slots key slot (less slot) there in
    let left = kept.copies key slot there in
    kept_last p kept number slot f slots keys (omega (arith, last, left)) (emptied p number key slot slots kept f at updates) (omega (arith, len, same)) cap is

held_none_left : {Z : Type 0} (p : Inside Z) (number key : ℕ) (slot : Slot Z) (slots : Slab (Slot Z)) → IsKeptStore p → key ≡ key_at p.keys.items number
    → Found p.keys.items p.slots.slots number slot → get p.slots key ≡ Some slot → slot.copies - 1 ≡ 0
    → Updates (with_value p.slots key (less slot)) slots key None
    → seen slots.slots (set p.keys.items number no_key) ≡ set (value_of p).held number (one_less (get_or (value_of p).held number None))
held_none_left p number key slot slots kept at f there last updates =
    let left = kept.copies key slot there in
    held_last p kept number slot f slots (omega (arith, last, left)) (emptied p number key slot slots kept f at updates)

pub empty-requires : goal.empty-requires
empty-requires g c =
    let p = c.self.inside in
    let there = c.index_mut-slot.ensures.value in
    ap is_some (get_or-set_same p.slots.slots c.key_of-key.result (Some (less c.index_mut-slot.result.now)) None
    (within_some p.slots.slots c.key_of-key.result c.index_mut-slot.result.now there))

pub invariant_of-self : goal.invariant_of-self
invariant_of-self g c =
    let p = c.self.inside in
    let held = ap (λ (v : StoreValue). is_some (get_or v.held c.args.number None)) c.self.view_is ∙ c.requires in
    let there = c.index_mut-slot.ensures.value in
    let f = read p c.args.number c.key_of-key.result c.index_mut-slot.result.now held c.key_of-key.ensures there in
    kept_none_left p c.args.number c.key_of-key.result c.index_mut-slot.result.now c.empty.new.slots c.set.new.self c.self.invariant c.key_of-key.ensures f there c.if-slot-eq0.true
    c.empty.ensures.updates c.empty.ensures.len c.empty.ensures.capacity c.set.ensures

pub invariant_of-self-else-slot-eq0 : goal.invariant_of-self-else-slot-eq0
invariant_of-self-else-slot-eq0 g c =
    let p = c.self.inside in
    let held = ap (λ (v : StoreValue). is_some (get_or v.held c.args.number None)) c.self.view_is ∙ c.requires in
    let there = c.index_mut-slot.ensures.value in
    let f = read p c.args.number c.key_of-key.result c.index_mut-slot.result.now held c.key_of-key.ensures there in
    kept_more_left p c.args.number c.key_of-key.result c.index_mut-slot.result.now c.self.invariant c.key_of-key.ensures f c.if-slot-eq0.false

pub returns-then-slot-eq0-clause-held : goal.returns-then-slot-eq0-clause-held
returns-then-slot-eq0-clause-held g c =
    let p = c.self.inside in
    let held = ap (λ (v : StoreValue). is_some (get_or v.held c.args.number None)) c.self.view_is ∙ c.requires in
    let there = c.index_mut-slot.ensures.value in
    let f = read p c.args.number c.key_of-key.result c.index_mut-slot.result.now held c.key_of-key.ensures there in
    ap (λ (h : Seen ℕ). seen c.empty.new.slots.slots h.items) c.set.ensures
    ∙ held_none_left p c.args.number c.key_of-key.result c.index_mut-slot.result.now c.empty.new.slots c.self.invariant c.key_of-key.ensures f there c.if-slot-eq0.true c.empty.ensures.updates
    ∙ ap (λ (v : StoreValue). set v.held c.args.number (one_less (get_or v.held c.args.number None))) c.self.view_is

pub returns-else-slot-eq0-clause-held : goal.returns-else-slot-eq0-clause-held
returns-else-slot-eq0-clause-held g c =
    let p = c.self.inside in
    let held = ap (λ (v : StoreValue). is_some (get_or v.held c.args.number None)) c.self.view_is ∙ c.requires in
    let there = c.index_mut-slot.ensures.value in
    let f = read p c.args.number c.key_of-key.result c.index_mut-slot.result.now held c.key_of-key.ensures there in
    held_more_left p c.args.number c.key_of-key.result c.index_mut-slot.result.now c.self.invariant c.key_of-key.ensures f c.if-slot-eq0.false
    ∙ ap (λ (v : StoreValue). set v.held c.args.number (one_less (get_or v.held c.args.number None))) c.self.view_is
