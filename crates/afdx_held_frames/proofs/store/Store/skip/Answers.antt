use Rattle.std.proofs.Common.{ℕ, ap, ◌∙◌, [], ◌∷◌, ◌++◌, None, ◌-◌, arith}
use Rattle.afdx_past.specs.Seen.{Seen}
use Rattle.afdx_held_frames.specs.Seen.{StoreValue}
use Rattle.afdx_held_frames.proofs.Seen.{seen}
use Rattle.afdx_held_frames.proofs.Keeping.{skipped, kept_skipped}
use Rattle.afdx_held_frames.proofs.store.Store.skip.Goals as goal

pub invariant_of-self : goal.invariant_of-self
invariant_of-self g c =
    let p = c.self.inside in
    let some = ap (λ (v : StoreValue). v.room) c.self.view_is in
    kept_skipped p c.push.new.self (p.room - 1) c.self.invariant (ap (λ (h : Seen ℕ). h.items) c.push.ensures) (omega (arith, some, c.requires)) (ap (λ (h : Seen ℕ). h.first) c.push.ensures)
    (let r = ap (λ (h : Seen ℕ). h.room) c.push.ensures in omega (arith, r, c.self.invariant.keys_room, some, c.requires))

pub returns : goal.returns
returns g c =
    let p = c.self.inside in
    ap (seen p.slots.slots) (ap (λ (h : Seen ℕ). h.items) c.push.ensures) ∙ skipped p c.self.invariant ∙ ap (λ (v : StoreValue). v.held ++ None ∷ []) c.self.view_is
