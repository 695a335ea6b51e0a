use Rattle.std.proofs.Common.{◌≡◌, ℕ, List, [], ◌∷◌, ◌++◌, length, sym, ◌∙◌, subst, arith, inl, inr}
use Rattle.std.specs.Vec.{with_items}
use Rattle.afdx_network_check.specs.Net.{Row}
use Rattle.afdx_origins.specs.declared.departure.Departure.{Departure}
use Rattle.afdx_origins.specs.declared.at_switch.AtSwitch.{AtSwitch}
use Rattle.afdx_origins.specs.Origins.{Origins, CameFirst, HasNoRow, IsNotNoted, IsUntold, after_sending, of_link, sent_from}
use Rattle.afdx_origins.specs.Inner.Known.{AreComing, AreKnown, IsCarried, IsFull, IsNotCarried, KeepDelays, HaveDelayMore}
use Rattle.afdx_origins.proofs.Coming.{still_coming}
use Rattle.afdx_origins.proofs.Found.{in_error}
use Rattle.afdx_origins.proofs.Lacking.{no_row, leads_elsewhere}
use Rattle.afdx_origins.proofs.Noting.{known_more, leaves_now, lent_back}
use Rattle.afdx_origins.proofs.Telling.{at_error, at_success, not_carried, sent_all}
use Rattle.afdx_origins.proofs.origins.Origins.note.Goals as goal

pub invariant_of-result : goal.invariant_of-result
invariant_of-result c =
    let s = c.self.inside in
    let net = s.network.now in
    let all = s.sent.items in
    let d : Departure = record { from = c.args.from; copy = c.args.sent.now } in
    let more = all ++ d ∷ [] in
    let place = c.in-Some.place in
    let l = c.in-Some.row.now in
    let port = c.in-Some-place_in.port in
    let first = c.in-Some-first_of.first in
    let old = s.switches.items in
    let carried = c.carry.new.switches in
    let held = with_items s.switches carried in
    let noted = c.note_delay.new.switches in
    let delay = c.saturating_sub-delay.result in
    let row : Row = record { switch = d.from.switch; link = l } in
    let came = subst (λ (ss : List AtSwitch). AreComing net all ss → CameFirst net all row d.copy first) c.deref.ensures.value (c.in-Some-first_of.ensures.came all) c.self.invariant.coming in
    let keeps : KeepDelays old carried = subst (λ (ss : List AtSwitch). KeepDelays ss carried) c.deref_mut.ensures.value c.in_ok-carry.ensures.delays in
    let back = lent_back s.switches carried keeps.many in
    let delayed : HaveDelayMore d.from.switch place port delay held.items noted
    = subst (λ (ss : List AtSwitch). HaveDelayMore d.from.switch place port delay ss noted) c.deref_mut-2.ensures.value
    (at_success (HaveDelayMore d.from.switch place port delay c.deref_mut-2.result.now noted) c.note_delay.result c.note_delay.ensures.delays (sym c.is_err.ensures.value ∙ c.if-is_err.false)) in
    subst (λ (sent : List Departure). AreKnown net sent (with_items held noted).items) (sym c.and.ensures) (subst (AreKnown net more) (sym (lent_back held noted delayed.many))
    (known_more net all d place port first delay l old held.items noted c.in-Some.ensures (sym c.in-Some-place_in.ensures) came (omega arith)
    (λ leaves. subst (λ (ss : List AtSwitch). AreComing net more ss → AreComing net more held.items) c.deref_mut.ensures.value
    (λ known. subst (AreComing net more) (sym back) (c.in_ok-carry.ensures.coming more leaves known)))
    (λ leaves. subst (λ (ss : List AtSwitch). AreComing net more ss → IsCarried net more d.from d.copy.item.link d.copy.end ss held.items) c.deref_mut.ensures.value
    (λ known. subst (IsCarried net more d.from d.copy.item.link d.copy.end c.deref_mut.result.now) (sym back) (c.in_ok-carry.ensures.told more leaves known)))
    (subst (KeepDelays old) (sym back) keeps) delayed c.self.invariant))

pub returns-in_default : goal.returns-in_default
returns-in_default c =
    let none = no_row c.self.inside.network.now c.args.sent.now.item.link c.args.from c.in_default.ensures in
    inl (subst (λ (o : Origins). HasNoRow o.net c.args.sent.now.item.link c.args.from) c.self.view_is none)

pub returns-in_default-place_in : goal.returns-in_default-place_in
returns-in_default-place_in c =
    let link = c.args.sent.now.item.link in
    let none = leads_elsewhere c.self.inside.network.now link c.in-Some.place c.in-Some.row.now c.args.from c.in-Some.ensures (sym c.in_default-place_in.ensures) in
    inl (subst (λ (o : Origins). HasNoRow o.net link c.args.from) c.self.view_is none)

pub returns-in_default-first_of : goal.returns-in_default-first_of
returns-in_default-first_of c =
    let s = c.self.inside in
    let net = s.network.now in
    let all = s.sent.items in
    let x = c.args.sent.now in
    let known = subst (AreKnown net all) (sym c.deref.ensures.value) c.self.invariant in
    let untold = subst (λ (n : ℕ). IsUntold net all c.args.from.switch n x) c.in-Some.ensures.number (c.in_default-first_of.ensures.none all known) in
    inr (subst (λ (o : Origins). IsUntold o.net o.sent c.args.from.switch x.item.link x) c.self.view_is untold)

pub returns-in_err-carry : goal.returns-in_err-carry
returns-in_err-carry c =
    let o = c.args.self in
    let x = c.args.sent.now in
    let why = c.in_err-carry.field-0.0 in
    in_error (λ (later : Origins). later ≡ after_sending c.args.from x o) (IsNotNoted o c.args.from x) c.from_residual.result why c.from_residual.ensures
    (not_carried o c.args.from x why (subst (λ (p : Origins). IsNotCarried p.net c.args.from x.end why) c.self.view_is c.in_err-carry.ensures.fault))

pub returns-then-is_err : goal.returns-then-is_err
returns-then-is_err c =
    let s = c.self.inside in
    let net = s.network.now in
    let all = s.sent.items in
    let d : Departure = record { from = c.args.from; copy = c.args.sent.now } in
    let link = d.copy.item.link in
    let more = all ++ d ∷ [] in
    let place = c.in-Some.place in
    let l = c.in-Some.row.now in
    let port = c.in-Some-place_in.port in
    let first = c.in-Some-first_of.first in
    let old = s.switches.items in
    let carried = c.carry.new.switches in
    let held = with_items s.switches carried in
    let row : Row = record { switch = d.from.switch; link = l } in
    let came = subst (λ (ss : List AtSwitch). AreComing net all ss → CameFirst net all row d.copy first) c.deref.ensures.value (c.in-Some-first_of.ensures.came all) c.self.invariant.coming in
    let keeps : KeepDelays old carried = subst (λ (ss : List AtSwitch). KeepDelays ss carried) c.deref_mut.ensures.value c.in_ok-carry.ensures.delays in
    let back = lent_back s.switches carried keeps.many in
    let there = sym c.in-Some-place_in.ensures in
    let leaves = leaves_now net all d place port first l c.in-Some.ensures there came in
    let known = subst (AreComing net more) (sym c.deref_mut.ensures.value) (still_coming net all d old c.self.invariant.coming) in
    let coming = c.in_ok-carry.ensures.coming more leaves known in
    let full = subst (λ (ss : List AtSwitch). IsFull d.from.switch place port ss) (c.deref_mut-2.ensures.value ∙ back)
    (at_error (IsFull d.from.switch place port c.deref_mut-2.result.now) c.note_delay.result c.note_delay.ensures.full (sym c.is_err.ensures.value ∙ c.if-is_err.true)) in
    subst (λ (o : Origins). length (of_link link (sent_from o.sent c.args.from)) ≡ 18446744073709551615) c.self.view_is
    (sent_all net all more d.from.switch link place d.from.port port l old carried c.self.invariant.delays keeps coming c.in-Some.ensures there full)
