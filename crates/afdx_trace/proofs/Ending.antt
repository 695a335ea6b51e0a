-- The lines at the beginning and at the end of a run.
use Rattle.std.proofs.Common.{◌≡◌, ℕ, suc, ◌<◌, ◌≤◌, List, [], ◌∷◌, ◌++◌, length, map, drop, slice_get, Some, All, refl, sym, ap, ◌∙◌, arith, append-nil, subst}
use Rattle.afdx_table.specs.declared.rows.PortRow.{PortRow}
use Rattle.afdx_table.specs.Content.{Content}
use Rattle.afdx_port.specs.declared.Settings.{Settings}
use Rattle.afdx_port.specs.declared.Item.{Item}
use Rattle.afdx_port.specs.Service.{service, sent_of, aged_of}
use Rattle.afdx_port.specs.Content.{Content as Port, done, closed}
use Rattle.afdx_isolation.specs.Table.{settings_of}
use Rattle.afdx_core.specs.declared.step.Row.{Row}
use Rattle.afdx_core.specs.Rows.{feed_of}
use Rattle.afdx_core.specs.State.{Run, after_finish}
use Rattle.afdx_trace.specs.declared.shown.Selection.{Selection}
use Rattle.afdx_trace.specs.declared.shown.Shown.{Shown}
use Rattle.afdx_trace.specs.declared.traced_port.TracedPort.{TracedPort}
use Rattle.afdx_trace.specs.declared.tracing.Tracing.{Tracing}
use Rattle.afdx_trace.specs.Shown.{shown_of}
use Rattle.afdx_trace.specs.Arrivals.{arrivals_heading, arrivals_text}
use Rattle.afdx_trace.specs.Departures.{event_lines, port_lines}
use Rattle.afdx_trace.specs.Inner.Lines.{whole_of}
use Rattle.afdx_trace.specs.Inner.Told.{LinesAreTold}
use Rattle.afdx_trace.specs.Inner.Telling.{AreTold, HasToldAll, TellsOf, AllTell, Tells, IsFreshPort}

-- all that a port has carried out in the end, whose lines are those of the definition
pub ended_lines : {Z : Type 0} (shown : Shown) (r : Run) (latest : ℕ) (p : PortRow) (o n : TracedPort Z) → n.row ≡ o.row → n.settings ≡ o.settings → n.flow.content ≡ closed o.flow.content
    → HasToldAll shown n → TellsOf shown r.table r.rows latest p o → whole_of n.lines ≡ port_lines shown (after_finish r) p
ended_lines shown r latest p o n row settings content told tells =
    sym (told.told.text ∙ append-nil (whole_of n.lines))
    ∙ ap (λ (q : PortRow). event_lines shown q.id n.settings 0 (done n.flow.content)) (row ∙ tells.row)
    ∙ ap (λ (s : Settings). event_lines shown p.id s 0 (done n.flow.content)) (settings ∙ tells.settings)
    ∙ ap (λ (c : Port). event_lines shown p.id (settings_of r.table.latency p) 0 (done c)) content
    ∙ ap (λ (s : Settings). event_lines shown p.id (settings_of r.table.latency p) 0 (service s 0 o.flow.content.admitted)) tells.of
    ∙ ap (λ (items : List Item). event_lines shown p.id (settings_of r.table.latency p) 0 (service (settings_of r.table.latency p) 0 items)) tells.admits

-- the lines of arrivals are those of the definition
pub ended_arrivals : {Z : Type 0} → LinesAreTold → (s : Selection) (r : Run) (t : Tracing Z) → Tells s r t → whole_of t.lines ≡ arrivals_text s (after_finish r)
ended_arrivals told s r t tells = tells.lines ∙ ap (λ (lines : List ℕ). arrivals_heading ++ lines) (sym (told (shown_of s r.rows) (after_finish r) refl))

-- ---- before the first arrival

-- a port that was offered nothing has told nothing, whatever is shown
nothing_told : {Z : Type 0} (shown other : Shown) (t : Content) (latest : ℕ) (p : PortRow) (o : TracedPort Z) → TellsOf shown t [] latest p o → TellsOf other t [] latest p o
unfolding feed_of
nothing_told {Z} shown other t latest p o tells = record {
  row = tells.row;
  settings = tells.settings;
  of = tells.of;
  admits = tells.admits;
  numbered = tells.numbered;
  horizon = tells.horizon;
  still_open = tells.still_open;
  told = record {
    told = record {
      order = told.order;
      sent_left = told.sent_left;
      aged_left = told.aged_left;
      many_sent = told.many_sent;
      many_aged = told.many_aged;
      text = none other ∙ sym (none shown) ∙ told.text;
    };
    sent_first = tells.told.sent_first;
    aged_first = tells.told.aged_first;
    latency = tells.told.latency;
  };
} where
  told : AreTold shown o.row.id o.settings (done o.flow.content) o.sent o.aged (whole_of o.lines) []
  told = tells.told.told

  nothing : done o.flow.content ≡ []
  nothing = ap (λ (items : List Item). done (record { settings = o.flow.content.settings; admitted = items; horizon = o.flow.content.horizon; finished = o.flow.content.finished })) tells.admits
      ∙ ap (λ b. done (record { settings = o.flow.content.settings; admitted = []; horizon = o.flow.content.horizon; finished = b })) tells.still_open

  none : (any : Shown) → event_lines any o.row.id o.settings 0 (done o.flow.content) ≡ []
  none any = ap (event_lines any o.row.id o.settings 0) nothing

pub all_start : {Z : Type 0} (shown other : Shown) (t : Content) (latest : ℕ) (ports : List (TracedPort Z)) → AllTell shown t [] latest ports → AllTell other t [] latest ports
all_start shown other t latest ports all = record { many = all.many; each = λ k p o here there. nothing_told shown other t latest p o (all.each k p o here there) }

-- a port that was offered nothing
pub fresh_tells : {Z : Type 0} (shown : Shown) (t : Content) (p : PortRow) (o : TracedPort Z) → t.latency ≤ 100000 → IsFreshPort t.latency p o → TellsOf shown t [] 0 p o
unfolding feed_of
fresh_tells {Z} shown t p o small fresh_port = record {
  row = fresh_port.row;
  settings = fresh_port.settings;
  of = ap (λ (c : Port). c.settings) fresh_port.content;
  admits = ap (λ (c : Port). c.admitted) fresh_port.content;
  numbered = subst (λ (c : Port). All (λ (x : Item). x.number < 0) c.admitted) (sym fresh_port.content) (λ k d lt. absurd (omega (arith, lt)));
  horizon = (let at : o.flow.content.horizon ≡ 0 = ap (λ (c : Port). c.horizon) fresh_port.content in omega (arith, at));
  still_open = ap (λ (c : Port). c.finished) fresh_port.content;
  told = record {
    told = subst (λ (c : Port). AreTold shown o.row.id o.settings (done c) o.sent o.aged (whole_of o.lines) []) (sym fresh_port.content) (record {
      order = tt;
      sent_left = sym (ap (λ n. drop n (sent_of [])) fresh_port.sent);
      aged_left = sym (ap (λ n. drop n (aged_of [])) fresh_port.aged);
      many_sent = (let none = fresh_port.sent in omega (arith, none));
      many_aged = (let none = fresh_port.aged in omega (arith, none));
      text = sym (append-nil (whole_of o.lines) ∙ fresh_port.lines);
    });
    sent_first = (let none = fresh_port.sent_first in omega (arith, none));
    aged_first = (let none = fresh_port.aged_first in omega (arith, none));
    latency = subst (λ (s : Settings). s.latency ≤ 100000) (sym fresh_port.settings) small;
  };
}

-- ---- the rows of the ports

rows_at : {Z : Type 0} (rows : List PortRow) (os : List (TracedPort Z)) → length os ≡ length rows
    → ((k : ℕ) (p : PortRow) (o : TracedPort Z) → slice_get rows k ≡ Some p → slice_get os k ≡ Some o → o.row ≡ p) → map (λ (o : TracedPort Z). o.row) os ≡ rows
rows_at [] [] long each = refl
rows_at [] (o ∷ os) long each = absurd (omega (arith, long))
rows_at (p ∷ rows) [] long each = absurd (omega (arith, long))
rows_at (p ∷ rows) (o ∷ os) long each =
    ap (λ (q : PortRow). q ∷ map (λ (x : TracedPort _). x.row) os) (each 0 p o refl refl)
    ∙ ap (λ (qs : List PortRow). p ∷ qs) (rows_at rows os (omega (arith, long)) (λ k q x here there. each (suc k) q x here there))

pub rows_are : {Z : Type 0} (shown : Shown) (t : Content) (rows : List Row) (latest : ℕ) (ports : List (TracedPort Z)) → AllTell shown t rows latest ports
    → map (λ (o : TracedPort Z). o.row) ports ≡ t.ports
rows_are shown t rows latest ports all = rows_at t.ports ports all.many (λ k p o here there. (all.each k p o here there).row)
