-- What is handed out of a port, one frame after the other.
use Rattle.std.proofs.Common.{◌≡◌, ℕ, zero, suc, ◌+◌, ◌<◌, ◌==◌, Bool, true, false, cond, nat_lt, List, [], ◌∷◌, length, drop, slice_get, slice_index, Option, Some, None, refl, ap, sym, ◌∙◌, arith}
use Rattle.std.proofs.Common.{subst, get_or-set_same}
use Rattle.std.specs.List.{position_or_len}
use Rattle.std.proofs.Math.Seq.{drop-cons}
use Rattle.std.proofs.lemmas.Bool.{ltb-true}
use Rattle.std.proofs.lemmas.Option.{slice_get_within, get_or_from_slice_get, same_Some}
use Rattle.afdx_pcap.specs.Record.{Record}
use Rattle.afdx_table.specs.declared.rows.PortRow.{PortRow}
use Rattle.afdx_port.specs.declared.Sent.{Sent}
use Rattle.afdx_core.specs.State.{Run, State, sent_in, place_of, next_at, next_by, out_of, after_handing}
use Rattle.afdx_core.specs.Held.{IsHanded}
use Rattle.afdx_core.specs.Merge.{Arrival}
use Rattle.afdx_session.specs.Output.{bytes_at, written}
use Rattle.afdx_session.specs.Inner.Replay.{HasBytesOf, left_at}
use Rattle.afdx_session.proofs.Numbered.{sent_numbered, all_slice_get}

pub drop_at : {X : Type 0} (xs : List X) (n : ℕ) (x : X) → slice_get xs n ≡ Some x → drop n xs ≡ x ∷ drop (suc n) xs
drop_at xs n x is = drop-cons xs n x (slice_get_within xs n x is) ∙ ap (λ y. y ∷ drop (suc n) xs) (get_or_from_slice_get xs n x x is)

pub drop_none : {X : Type 0} (xs : List X) (n : ℕ) → slice_get xs n ≡ None → drop n xs ≡ []
drop_none [] zero is = refl
drop_none [] (suc n) is = refl
drop_none (y ∷ xs) zero is = absurd cc
drop_none (y ∷ xs) (suc n) is = drop_none xs n is

-- a record that is handed out has the bytes of the frame that is held
handed_bytes : (held : Option (Option Record)) (s : Sent) (out : Record) → out_of held s ≡ Some out → (frame : Record) × (held ≡ Some (Some frame))
    × (out ≡ record { stamp = s.end; original = length frame.bytes; bytes = frame.bytes })
handed_bytes (Some (Some frame)) s out is = (frame, refl, same is) where
  same : {e : Record} → Some e ≡ Some out → out ≡ e
  same e = cc
handed_bytes (Some None) s out is = absurd cc
handed_bytes None s out is = absurd cc

written_is : (arrivals : List Arrival) (s : Sent) (bytes : List ℕ) → bytes_at arrivals s.item.number ≡ bytes → written arrivals s ≡ record { stamp = s.end; original = length bytes; bytes = bytes }
written_is arrivals s bytes is = let made : List ℕ → Record = λ b. record { stamp = s.end; original = length b; bytes = b } in ap made is

-- what is left before a frame is handed out, and after it
pub left_before : (r : Run) (port place : ℕ) (s : Sent) → place_of r port ≡ Some place → next_at r place ≡ Some s
    → left_at r (place_of r port) ≡ s ∷ drop (suc (slice_index r.handed place)) (sent_in r (slice_get r.table.ports place))
left_before r port place s at next = ap (left_at r) at ∙ drop_at (sent_in r (slice_get r.table.ports place)) (slice_index r.handed place) s next

pub left_after : (r : Run) (port place : ℕ) → place_of r port ≡ Some place → place < length r.handed
    → left_at (after_handing place r) (place_of (after_handing place r) port) ≡ drop (suc (slice_index r.handed place)) (sent_in r (slice_get r.table.ports place))
left_after r port place at lt =
    ap (left_at (after_handing place r)) at
    ∙ ap (λ n. drop n (sent_in r (slice_get r.table.ports place))) (get_or-set_same r.handed place (slice_index r.handed place + 1) 0 lt ∙ plus_one (slice_index r.handed place)) where
      plus_one : (n : ℕ) → n + 1 ≡ suc n
      plus_one n = omega arith

passed_within : (b : Bool) (n most k : ℕ) → nat_lt n most ≡ b → cond b (Some n) None ≡ Some k → k < most
passed_within true n most k lt is = subst (λ i. i < most) (same_Some n k is) (ltb-true n most lt)
passed_within false n most k lt is = absurd cc

pub place_within : (r : Run) (port place : ℕ) → place_of r port ≡ Some place → place < length r.table.ports
place_within r port place at =
    let p = λ (row : PortRow). row.id == port in
    passed_within (nat_lt (position_or_len p r.table.ports) (length r.table.ports)) (position_or_len p r.table.ports) (length r.table.ports) place refl at

pub written_out : (arrivals : List Arrival) (now new : State) (port place : ℕ) (out : Record) (s : Sent) → length arrivals ≡ length now.run.rows → HasBytesOf arrivals now
    → IsHanded now new port out place s → written arrivals s ≡ out
written_out arrivals now new port place out s len has handed =
    let found = handed_bytes (slice_get now.frames s.item.number) s out handed.record_is in
    let within : s.item.number < length now.run.rows =
    all_slice_get (λ (x : Sent). x.item.number < length now.run.rows) _ _ s (sent_numbered now.run (slice_get now.run.table.ports place)) handed.next in
    written_is arrivals s found.0.bytes (has s.item.number found.0 (omega (arith, len, within)) found.1) ∙ sym found.2

pub fewer_left : (port : ℕ) (now new : State) (out : Record) (place : ℕ) (s : Sent) → length now.run.handed ≡ length now.run.table.ports → IsHanded now new port out place s
    → length (left_at new.run (place_of new.run port)) < length (left_at now.run (place_of now.run port))
fewer_left port now new out place s len handed =
    let within : place < length now.run.handed = omega (arith, len, place_within now.run port place handed.at) in
    let left_new = ap length (ap (λ (r : Run). left_at r (place_of r port)) handed.run ∙ left_after now.run port place handed.at within) in
    let left_now = ap length (left_before now.run port place s handed.at handed.next) in
    omega (arith, left_new, left_now)

pub none_left : (r : Run) (place : Option ℕ) → next_by r place ≡ None → left_at r place ≡ []
none_left r None is = refl
none_left r (Some place) is = drop_none (sent_in r (slice_get r.table.ports place)) (slice_index r.handed place) is
