use Rattle.std.proofs.Common.{◌≡◌, ◌<◌, ◌+◌, length, get_or, Some, sym, ◌∙◌, ap, subst, arith}
use Rattle.std.specs.Prelude.{Contains}
use Rattle.std.proofs.lemmas.Option.{slice_get_within}
use Rattle.afdx_table.specs.Link.{Link}
use Rattle.afdx_network_check.specs.Net.{Row, wire_to}
use Rattle.afdx_origins.specs.declared.at_switch.AtSwitch.{AtSwitch}
use Rattle.afdx_origins.specs.Origins.{CameFirst, IsUntold}
use Rattle.afdx_origins.specs.Inner.Known.{IsComing, IsHeld, NoneCame}
use Rattle.afdx_origins.proofs.Found.{some_weaker, none_weaker, element_at}
use Rattle.afdx_origins.proofs.Telling.{untold}
use Rattle.afdx_origins.proofs.Coming.{known_first}
use Rattle.afdx_origins.proofs.origins.first_of.Goals as goal

pub returns-in_ok-get-in-Some-clause-came : goal.returns-in_ok-get-in-Some-clause-came
returns-in_ok-get-in-Some-clause-came c = λ all known.
    let net = c.args.network.now in
    let is = c.requires in
    let s = c.in_ok-get-in-Some.field-0.now in
    let r : Row = record { switch = c.args.switch; link = c.args.link.now } in
    let coming = subst (IsComing net all c.args.switch is.table) (sym (c.in_ok-get-in-Some.ensures.lookup.3.1 s)) (known.each c.args.switch is.table s is.table_is) in
    let there = slice_get_within is.table.links c.args.place c.args.link.now is.at in
    let many = coming.many in
    let x = element_at s.links.items c.args.place (omega (arith, there, many)) in
    let cs = (get_or s.links.items c.args.place x.0).coming.items in
    some_weaker (λ first. Contains cs (record { at = c.args.sent.now.item.stamp; first = first })) (CameFirst net all r c.args.sent.now) c.first_of.result
    (λ first has. known_first net all r c.args.sent.now cs first (coming.each c.args.place c.args.link.now x.0 is.at) has) (c.first_of.ensures.came x.0)

pub returns-in_ok-get-in-Some-clause-none : goal.returns-in_ok-get-in-Some-clause-none
returns-in_ok-get-in-Some-clause-none c = λ all known.
    let net = c.args.network.now in
    let is = c.requires in
    let s = c.in_ok-get-in-Some.field-0.now in
    let l = c.args.link.now in
    let x = c.args.sent.now in
    let w = c.in-Some.field-0.now in
    let wire : wire_to net (record { switch = c.args.switch; port = l.from }) ≡ Some w
    = ap (λ (m : Link). wire_to net (record { switch = c.args.switch; port = m.from })) (sym c.link.view_is) ∙ sym c.in-Some.ensures in
    let same = c.in_ok-get-in-Some.ensures.lookup.3.1 s in
    let coming = subst (IsComing net all c.args.switch is.table) (sym same) (known.coming.each c.args.switch is.table s is.table_is) in
    let there = slice_get_within is.table.links c.args.place l is.at in
    let many = coming.many in
    let within : c.args.place < length s.links.items = omega (arith, there, many) in
    let a = element_at s.links.items c.args.place within in
    let cs = (get_or s.links.items c.args.place a.0).coming.items in
    none_weaker (NoneCame cs x.item.stamp) (IsUntold net all c.args.switch l.id x) c.first_of.result
    (λ none. record {
      row = record { switch = c.args.switch; link = l };
      wire = w;
      row_is = is.found;
      wire_is = wire;
      none = λ copy left at_is. untold all l.id w cs x.item.stamp copy none at_is
          (subst (λ (y : AtSwitch). IsHeld all l.id w (get_or y.links.items c.args.place a.0).coming.items (copy.end + w.delay)) (sym same)
          (known.told.each c.args.switch l.id c.args.place l s a.0 w copy is wire left));
    }) (c.first_of.ensures.none a.0 within)
