use Rattle.std.proofs.Common.{◌≡◌, ◌<◌, ◌≤◌, ◌+◌, ℕ, List, length, get_or, refl, sym, ◌∙◌, ap, subst, arith, inl, inr}
use Rattle.std.proofs.lemmas.Bool.{cases_lt}
use Rattle.std.proofs.lemmas.List.{get_or_default}
use Rattle.afdx_units.specs.Time.{stamp_end}
use Rattle.afdx_table.specs.Link.{Link}
use Rattle.afdx_wiring.specs.declared.layout.Wire.{Wire}
use Rattle.afdx_wiring.specs.File.{is_end}
use Rattle.afdx_origins.specs.declared.at_link.Coming.{Coming}
use Rattle.afdx_origins.specs.declared.at_switch.AtSwitch.{AtSwitch}
use Rattle.afdx_origins.specs.declared.at_link.AtLink.{AtLink}
use Rattle.afdx_origins.specs.Inner.Known.{HasComing}
use Rattle.afdx_origins.proofs.Coming.{comes_more, keep_coming}
use Rattle.afdx_origins.proofs.Rows.{end_same}
use Rattle.afdx_origins.proofs.Telling.{found_is, come_here, stay_held, stay_same, no_row_there}
use Rattle.afdx_origins.proofs.origins.bring.Goals as goal

-- the switch that was added to is the one at its place
of_any : (old : List AtSwitch) (switch place : ℕ) (c : Coming) (d : AtSwitch) (new : List AtLink) → switch < length old
    → HasComing place c (get_or old switch d).links.items new → (e : AtSwitch) → HasComing place c (get_or old switch e).links.items new
of_any old switch place c d new within added e = subst (λ (x : AtSwitch). HasComing place c x.links.items new) (get_or_default old switch d e within) added

pub returns-clause-coming : goal.returns-clause-coming
returns-clause-coming c = λ all leaves known.
    let w = c.args.wire.now in
    let old = c.args.switches.now in
    let d = c.index-switches-wire.result in
    let place = c.in-Some.place in
    let past = c.if-wire-switches.false in
    let within : w.to.switch < length old = omega (arith, past) in
    let from = ap (λ (l : Link). l.from) (sym c.row.view_is) ∙ c.if-row-wire.false in
    let at = c.in-Some-plus.ensures in
    let delay = c.from.ensures in
    let frame : Coming = record { at = c.in-Some-plus.at; first = c.args.first } in
    comes_more c.args.network.now all w c.args.link c.args.end c.args.first place c.in-Some.row.now c.in-Some-plus.at old c.add.new.self c.requires c.in-Some.ensures from
    (omega (arith, at, delay)) within (of_any old w.to.switch place frame d c.add.new.self.links.items within c.in_ok-add.ensures) leaves known

pub returns-clause-delays : goal.returns-clause-delays
returns-clause-delays c =
    let w = c.args.wire.now in
    let old = c.args.switches.now in
    let d = c.index-switches-wire.result in
    let place = c.in-Some.place in
    let past = c.if-wire-switches.false in
    let within : w.to.switch < length old = omega (arith, past) in
    let frame : Coming = record { at = c.in-Some-plus.at; first = c.args.first } in
    keep_coming place frame w.to.switch old c.add.new.self within (of_any old w.to.switch place frame d c.add.new.self.links.items within c.in_ok-add.ensures)

pub returns-clause-told : goal.returns-clause-told
returns-clause-told c = λ all leaves known.
    let net = c.args.network.now in
    let w = c.args.wire.now in
    let old = c.args.switches.now in
    let d = c.index-switches-wire.result in
    let place = c.in-Some.place in
    let l = c.in-Some.row.now in
    let time = c.in-Some-plus.at in
    let past = c.if-wire-switches.false in
    let within : w.to.switch < length old = omega (arith, past) in
    let from = ap (λ (l : Link). l.from) (sym c.row.view_is) ∙ c.if-row-wire.false in
    let at = c.in-Some-plus.ensures in
    let delay = c.from.ensures in
    let at_is : c.args.end + w.delay ≡ time = omega (arith, at, delay) in
    let frame : Coming = record { at = time; first = c.args.first } in
    let added = of_any old w.to.switch place frame d c.add.new.self.links.items within c.in_ok-add.ensures in (
      stay_held net all w c.args.link c.args.end c.args.first place l time old c.add.new.self c.requires c.in-Some.ensures from at_is within added leaves,
      come_here net all w c.args.link c.args.end c.args.first place l time old c.add.new.self c.requires c.in-Some.ensures from at_is within added,
    )

pub returns-in_default-clause-told : goal.returns-in_default-clause-told
returns-in_default-clause-told c = λ all leaves known.
    let net = c.args.network.now in
    let w = c.args.wire.now in
    (stay_same net all c.args.switches.now, no_row_there net all c.args.link w (c.args.end + w.delay) c.args.switches.now c.in_default.ensures)

pub returns-in_default-plus-clause-fault : goal.returns-in_default-plus-clause-fault
returns-in_default-plus-clause-fault c =
    let w = c.args.wire.now in
    let delay = c.from.ensures in
    let found = found_is (λ (v : Wire). is_end v.to w.to) c.args.network.now.layout.wires w c.requires in
    let late : stamp_end ≤ c.args.end + w.delay = elim (cases_lt (c.args.end + w.delay) stamp_end) [
      | inl lt ↦ absurd (c.in_default-plus.ensures (omega (arith, lt, delay)))
      | inr le ↦ le
    ] in
    (w, found.0, end_same w.from w.from.switch w.from.port refl refl, late)
