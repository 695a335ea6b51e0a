use Rattle.std.proofs.Common.{ℕ, ◌≡◌, ◌<◌, ◌≤◌, ap, ◌∙◌, [], ◌∷◌, ◌++◌, Some, ◌-◌, arith}
use Rattle.afdx_held_frames.specs.declared.store.Slot.{Slot}
use Rattle.afdx_past.specs.Seen.{Seen}
use Rattle.afdx_held_frames.specs.Seen.{StoreValue}
use Rattle.afdx_held_frames.specs.Inner.Kept.{no_key, IsKeptStore}
use Rattle.afdx_held_frames.specs.declared.store.Store.TheInside.{Inside}
use Rattle.afdx_held_frames.proofs.Seen.{seen}
use Rattle.afdx_held_frames.proofs.Keeping.{Came, held_more, kept_more}
use Rattle.afdx_held_frames.proofs.store.Store.hold.Goals as goal

-- the key that a slot is given, if there is room
small : {Z : Type 0} (p : Inside Z) → IsKeptStore p → (key capacity : ℕ) → 0 < p.room → key < capacity → capacity ≡ p.slots.capacity → key < no_key
small p kept key capacity some lt same = let few = kept.few some in omega (arith, few, lt, same)

pub overflow_cast-key : goal.overflow_cast-key
overflow_cast-key g c =
    let p = c.self.inside in
    let some = ap (λ (v : StoreValue). v.room) c.self.view_is in
    let is = small p c.self.invariant c.insert_reserved-key.result c.insert_reserved-key.new.self.capacity (omega (arith, some, c.requires.room)) c.insert_reserved-key.ensures.key_in_range
    c.insert_reserved-key.ensures.capacity in
    omega (arith, is)

pub invariant_of-self : goal.invariant_of-self
invariant_of-self g c =
    let p = c.self.inside in
    let some = ap (λ (v : StoreValue). v.room) c.self.view_is in
    let slot : Slot _ = record { copies = c.args.copies; frame = c.args.frame } in
    let key = c.insert_reserved-key.result in
    let came : Came p c.self.invariant c.insert_reserved-key.new.self key slot = record {
      small = small p c.self.invariant key c.insert_reserved-key.new.self.capacity (omega (arith, some, c.requires.room)) c.insert_reserved-key.ensures.key_in_range
          c.insert_reserved-key.ensures.capacity;
      left = c.requires.some;
      was = c.insert_reserved-key.ensures.was_vacant;
      there = c.insert_reserved-key.ensures.updates.changed;
      others = c.insert_reserved-key.ensures.updates.others;
    } in
    kept_more p c.self.invariant c.insert_reserved-key.new.self key slot c.push.new.self (p.room - 1) came (ap (λ (h : Seen ℕ). h.items) c.push.ensures) (omega (arith, some, c.requires.room))
    (ap (λ (h : Seen ℕ). h.first) c.push.ensures) (let r = ap (λ (h : Seen ℕ). h.room) c.push.ensures in omega (arith, r, c.self.invariant.keys_room, some, c.requires.room))
    c.insert_reserved-key.ensures.len c.insert_reserved-key.ensures.capacity

pub returns : goal.returns
returns g c =
    let p = c.self.inside in
    let some = ap (λ (v : StoreValue). v.room) c.self.view_is in
    let slot : Slot _ = record { copies = c.args.copies; frame = c.args.frame } in
    let key = c.insert_reserved-key.result in
    let came : Came p c.self.invariant c.insert_reserved-key.new.self key slot = record {
      small = small p c.self.invariant key c.insert_reserved-key.new.self.capacity (omega (arith, some, c.requires.room)) c.insert_reserved-key.ensures.key_in_range
          c.insert_reserved-key.ensures.capacity;
      left = c.requires.some;
      was = c.insert_reserved-key.ensures.was_vacant;
      there = c.insert_reserved-key.ensures.updates.changed;
      others = c.insert_reserved-key.ensures.updates.others;
    } in
    ap (seen c.insert_reserved-key.new.self.slots) (ap (λ (h : Seen ℕ). h.items) c.push.ensures)
    ∙ held_more p c.self.invariant c.insert_reserved-key.new.self key slot came ∙ ap (λ (v : StoreValue). v.held ++ Some (record { copies = c.args.copies; frame = c.args.frame }) ∷ []) c.self.view_is
