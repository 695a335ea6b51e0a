use Rattle.std.proofs.Common.{◌≡◌, ◌<◌, [], List, length, get_or, slice_get, Some, None, sym, ◌∙◌, ap, subst, arith}
use Rattle.std.proofs.lemmas.Option.{slice_get_within, get_or_from_slice_get}
use Rattle.afdx_measure.specs.declared.delays.Delays.{Delays}
use Rattle.afdx_measure.specs.Delays.{summary_of}
use Rattle.afdx_origins.specs.declared.at_switch.AtSwitch.{AtSwitch}
use Rattle.afdx_origins.specs.Origins.{Origins, HasNoRow, IsSummary}
use Rattle.afdx_origins.specs.Inner.Known.{IsComing}
use Rattle.afdx_origins.proofs.Found.{element_at, none_within}
use Rattle.afdx_origins.proofs.Lacking.{no_row, leads_elsewhere}
use Rattle.afdx_origins.proofs.origins.Origins.delays_at.Goals as goal

pub returns : goal.returns
returns c =
    let s = c.self.inside in
    let net = s.network.now in
    let all = s.sent.items in
    let from = c.args.from in
    let link = c.args.link in
    let place = c.in_ok-place.place in
    let is = c.in_ok-place.ensures in
    let sw = c.in_ok-switch.switch.now in
    let found : slice_get s.switches.items from.switch ≡ Some sw = ap (λ (xs : List AtSwitch). slice_get xs from.switch) (sym c.deref.ensures.value) ∙ sym c.in_ok-switch.ensures in
    let same : sw ≡ get_or s.switches.items from.switch sw = sym (get_or_from_slice_get s.switches.items from.switch sw sw found) in
    let coming = subst (IsComing net all from.switch is.table) (sym same) (c.self.invariant.coming.each from.switch is.table sw is.table_is) in
    let there = slice_get_within is.table.links place c.in_ok-place.row.now is.at in
    let many = coming.many in
    let within : place < length sw.links.items = omega (arith, there, many) in
    let x = element_at sw.links.items place within in
    let summary = c.self.invariant.delays.each from.switch place link from.port c.in_ok-port.port c.in_ok-place.row.now sw x.0 (summary_of []) is (sym c.in_ok-port.ensures) in
    let read = c.delays_at.ensures x.0 within ∙ ap (λ (t : AtSwitch). get_or (get_or t.links.items place x.0).delays.items c.in_ok-port.port (summary_of [])) same in
    subst (λ (o : Origins). IsSummary o.net o.sent link from c.delays_at.result) c.self.view_is (subst (λ (d : Delays). IsSummary net all link from d) (sym read) summary)

pub returns-in_err-place : goal.returns-in_err-place
returns-in_err-place c =
    let none = no_row c.self.inside.network.now c.args.link c.args.from c.in_err-place.ensures in
    rw c.from_residual.ensures (subst (λ (o : Origins). HasNoRow o.net c.args.link c.args.from) c.self.view_is none)

pub returns-in_err-port : goal.returns-in_err-port
returns-in_err-port c =
    let none = leads_elsewhere c.self.inside.network.now c.args.link c.in_ok-place.place c.in_ok-place.row.now c.args.from c.in_ok-place.ensures (sym c.in_err-port.ensures) in
    rw c.from_residual-in_err-port.ensures (subst (λ (o : Origins). HasNoRow o.net c.args.link c.args.from) c.self.view_is none)

pub returns-in_err-switch : goal.returns-in_err-switch
returns-in_err-switch c =
    let s = c.self.inside in
    let is = c.in_ok-place.ensures in
    let many = c.self.invariant.coming.many in
    let there = slice_get_within s.network.now.tables c.args.from.switch is.table is.table_is in
    let found : slice_get s.switches.items c.args.from.switch ≡ None = ap (λ (xs : List AtSwitch). slice_get xs c.args.from.switch) (sym c.deref.ensures.value) ∙ sym c.in_err-switch.ensures in
    absurd (none_within s.switches.items c.args.from.switch found (omega (arith, there, many)))
