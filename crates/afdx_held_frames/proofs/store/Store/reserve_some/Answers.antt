use Rattle.std.proofs.Common.{refl, ap, arith, count_by, is_some, ◌∙◌}
use Rattle.slab.specs.Slab.{Slab}
use Rattle.afdx_held_frames.specs.Seen.{StoreValue}
use Rattle.afdx_held_frames.proofs.Keeping.{kept_reserved}
use Rattle.afdx_held_frames.proofs.store.Store.reserve_some.Goals as goal

pub invariant_of-self : goal.invariant_of-self
invariant_of-self g c =
    let p = c.self.inside in
    let none = ap (λ (v : StoreValue). v.room) c.self.view_is ∙ c.requires in
    let same = ap (λ (s : Slab _). s.slots) c.reserve.ensures.rest_kept in
    kept_reserved p c.reserve.new.self p.keys p.room c.self.invariant same refl refl (omega (arith, c.self.invariant.slots_room, c.reserve.ensures.capacity, ap (λ xs. count_by is_some xs) same))
    (λ some. absurd (omega (arith, none, some))) c.self.invariant.keys_room

pub invariant_of-self-in_err-reserve-2 : goal.invariant_of-self-in_err-reserve-2
invariant_of-self-in_err-reserve-2 g c =
    let p = c.self.inside in
    let none = ap (λ (v : StoreValue). v.room) c.self.view_is ∙ c.requires in
    let same = ap (λ (s : Slab _). s.slots) c.reserve.ensures.rest_kept in
    kept_reserved p c.reserve.new.self c.reserve-2.new.self p.room c.self.invariant same c.reserve-2.ensures.items c.reserve-2.ensures.first
    (omega (arith, c.self.invariant.slots_room, c.reserve.ensures.capacity, ap (λ xs. count_by is_some xs) same))
    (λ some. absurd (omega (arith, none, some)))
    (omega (arith, c.self.invariant.keys_room, c.reserve-2.ensures.room))

pub invariant_of-self-2 : goal.invariant_of-self-2
invariant_of-self-2 g c =
    let p = c.self.inside in
    let same = ap (λ (s : Slab _). s.slots) c.reserve.ensures.rest_kept in
    kept_reserved p c.reserve.new.self c.reserve-2.new.self 64 c.self.invariant same c.reserve-2.ensures.items c.reserve-2.ensures.first
    c.in_ok-reserve.ensures.room (λ some. omega arith) c.in_ok-reserve-2.ensures.ok
