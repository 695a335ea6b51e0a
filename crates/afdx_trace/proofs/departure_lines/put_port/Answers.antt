use Rattle.std.proofs.Common.{◌≡◌, ◌++◌, ℕ, sym, ap, ◌∙◌, subst, string_bytes}
use Rattle.std.specs.Prelude.{OnOk}
use Rattle.afdx_table.specs.Content.{Content}
use Rattle.afdx_port.specs.declared.Settings.{Settings}
use Rattle.afdx_port.specs.Content.{done}
use Rattle.afdx_core.specs.State.{port_in, sent_in, aged_in}
use Rattle.afdx_isolation.specs.Table.{settings_of}
use Rattle.afdx_trace.specs.Departures.{event_lines}
use Rattle.afdx_trace.proofs.departure_lines.put_port.Goals as goal

pub returns : goal.returns
returns g c =
    let r = c.args.done.now.run in
    let p = c.args.port.now in
    let settings : settings_of r.table.latency p ≡ c.settings_of-settings.result = ap (λ (latency : ℕ). settings_of latency p)
    (ap (λ (t : Content). t.latency) (sym c.table.ensures) ∙ sym c.latency.ensures.latency)
    ∙ sym c.settings_of-settings.ensures in
    let lines = c.put_events.ensures (done (port_in r p)) (c.events_are_in_order.ensures (port_in r p)) (sym (c.sent.ensures.sent ∙ ap (sent_in r) c.requires))
    (sym (c.aged.ensures.aged ∙ ap (aged_in r) c.requires)) in
    subst (λ (s : Settings). OnOk c.put_events.result (string_bytes c.put_events.new.text ≡ string_bytes c.args.text.now ++ event_lines c.args.shown.now p.id s 0 (done (port_in r p))))
    (sym settings) lines
