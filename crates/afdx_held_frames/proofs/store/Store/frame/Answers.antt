use Rattle.std.proofs.Common.{◌≡◌, get_or, is_some, None, Some, option_copied, ap, sym, ◌∙◌}
use Rattle.std.specs.Option.{option_map}
use Rattle.slab.specs.Slab.{get}
use Rattle.afdx_held_frames.specs.Seen.{StoreValue, Held, frame_at}
use Rattle.afdx_held_frames.specs.declared.store.Slot.{Slot}
use Rattle.afdx_held_frames.proofs.Seen.{found, within_keys}
use Rattle.afdx_held_frames.proofs.Keeping.{some_shared, key_left}
use Rattle.afdx_held_frames.proofs.store.Store.frame.Goals as goal

pub key_of-key-requires-clause-left : goal.key_of-key-requires-clause-left
key_of-key-requires-clause-left g c =
    let p = c.self.inside in
    let held = ap (λ (v : StoreValue). is_some (get_or v.held c.args.number None)) c.self.view_is ∙ c.requires in
    key_left p c.args.number c.self.invariant held

pub key_of-key-requires-clause-within : goal.key_of-key-requires-clause-within
key_of-key-requires-clause-within g c =
    let p = c.self.inside in
    let held = ap (λ (v : StoreValue). is_some (get_or v.held c.args.number None)) c.self.view_is ∙ c.requires in
    within_keys p.keys.items p.slots.slots c.args.number held

pub unwrap-requires : goal.unwrap-requires
unwrap-requires g c =
    let p = c.self.inside in
    let held = ap (λ (v : StoreValue). is_some (get_or v.held c.args.number None)) c.self.view_is ∙ c.requires in
    let f = found p.keys.items p.slots.slots c.args.number held in
    some_shared c.get.result f.0 (c.get.ensures ∙ ap (get p.slots) c.key_of-key.ensures ∙ f.1.there)

pub returns : goal.returns
returns g c =
    let p = c.self.inside in
    let held = ap (λ (v : StoreValue). is_some (get_or v.held c.args.number None)) c.self.view_is ∙ c.requires in
    let f = found p.keys.items p.slots.slots c.args.number held in
    let there = sym f.1.there ∙ sym (ap (get p.slots) c.key_of-key.ensures) ∙ sym c.get.ensures ∙ ap option_copied c.unwrap.ensures in
    let same : f.0 ≡ c.unwrap.result.now = (cc) in
    sym (ap (λ (v : StoreValue). frame_at v.held c.args.number) c.self.view_is)
    ∙ ap (λ o. option_map (λ (h : Held). h.frame) o) f.1.seen ∙ ap (λ (s : Slot _). Some s.frame) same
