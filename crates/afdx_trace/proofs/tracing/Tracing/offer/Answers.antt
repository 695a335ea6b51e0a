use Rattle.std.proofs.Common.{◌≡◌, ◌<◌, ◌≤◌, ℕ, nat_eq, Bool, ◌&&◌, cond, List, [], ◌∷◌, ◌++◌, Option, Some, map, length, slice_get, sym, ap, ◌∙◌, subst}
use Rattle.std.specs.List.{IsDistinct}
use Rattle.afdx_units.specs.Time.{last_second}
use Rattle.afdx_units.specs.Line.{least_size, greatest_size}
use Rattle.afdx_table.specs.Link.{Link, leads_to}
use Rattle.afdx_table.specs.Content.{Content}
use Rattle.afdx_table.specs.WellFormed.{Rises}
use Rattle.afdx_filter.specs.Place.{place_named}
use Rattle.afdx_account.specs.declared.account.Account.{Account}
use Rattle.afdx_port.specs.declared.Item.{Item}
use Rattle.afdx_core.specs.declared.step.Row.{Row}
use Rattle.afdx_core.specs.Kept.{AccountsAgree}
use Rattle.afdx_core.specs.Rows.{copy_of, copies_by}
use Rattle.afdx_core.specs.State.{Run}
use Rattle.afdx_trace.specs.declared.traced_port.TracedPort.{TracedPort}
use Rattle.afdx_trace.specs.declared.tracing.Tracing.{Tracing}
use Rattle.afdx_trace.specs.Inner.Tracing.{PassesOn, IsPoliced}
use Rattle.afdx_trace.specs.Inner.Telling.{AllTell, MayTake, CanBeOffered, PlacesAre, AreOffered, HaveGone, refused_among}
use Rattle.afdx_trace.proofs.Placing.{agree_later}
use Rattle.afdx_trace.proofs.Placed.{back_into}
use Rattle.afdx_trace.proofs.Answered.{can_offer, are_distinct, places_are, refused_are, passed_told, policed_told}
use Rattle.afdx_trace.proofs.Offering.{all_with, all_without}
use Rattle.afdx_trace.proofs.tracing.Tracing.offer.Given.{Over}
use Rattle.afdx_trace.proofs.tracing.Tracing.offer.Goals as goal
use Rattle.afdx_trace.proofs.tracing.Tracing.offer.Goals.{In-Ok}

-- the accounts agree when the frame has come
agree_at : {Z : Type 0} (r : Run) (t : Tracing Z) (row : Row) (accounts : List Account) → accounts ≡ t.accounts.items → MayTake r t → r.latest ≤ row.stamp
    → AccountsAgree t.table.links r.rows row.stamp accounts
agree_at r t row accounts is may le =
    subst (AccountsAgree t.table.links r.rows row.stamp) (sym is)
    (subst (λ (c : Content). AccountsAgree c.links r.rows row.stamp t.accounts.items) (sym may.table) (agree_later r.table.links r.rows r.latest row.stamp t.accounts.items le may.accounts))

pub pass-requires-clause-place : goal.pass-requires-clause-place
pass-requires-clause-place g c = let q = c.requires.may in ap (λ (t : Content). place_named t c.args.row.now.verdict) q.1.table ∙ sym q.3

pub pass-requires-clause-agree : goal.pass-requires-clause-agree
pass-requires-clause-agree g c =
    let q = c.requires.may in
    (q.0.rows, agree_at q.0 c.args.self.now c.args.row.now c.deref_mut.result.now c.deref_mut.ensures.value q.1 q.2)

-- ---- it is policed

pub returns-in-Err-clause-taken : goal.returns-in-Err-clause-taken
returns-in-Err-clause-taken g c = λ r may le named_is.
    let row = c.args.row.now in
    let agree = agree_at r c.args.self.now row c.deref_mut.result.now c.deref_mut.ensures.value may le in
    let is = subst (λ (t : Content). IsPoliced t r.rows row c.in-Err.early) may.table (c.in-Err.ensures.policed r.rows agree) in
    let after = subst (λ (t : Content). AccountsAgree t.links (r.rows ++ row ∷ []) row.stamp c.pass.new.accounts) may.table (c.pass.ensures.agree r.rows agree) in
    record {
      accounts = back_into (AccountsAgree r.table.links (r.rows ++ row ∷ []) row.stamp) c.args.self.now.accounts c.pass.new.accounts (after.len ∙ sym may.accounts.len) after;
      ports = all_without c.args.self.now.shown r.table r.rows r.latest row.stamp row c.args.self.now.ports.items le
          (λ port. ap (λ (o : Option Link). copies_by o port r.rows row) is.names ∙ ap (λ (b : Bool). cond (b && leads_to port is.link) (copy_of is.link r.rows row ∷ []) []) is.is_policed) may.ports;
      fields_are = policed_told r.table r.rows row is.link c.in-Err.early c.new.result.items c.new.ensures is.names is.is_policed is.is_early;
    }

-- ---- it is passed

-- the link of the frame that is passed
passed : (g : Over) (c : In-Ok g) (r : Run) → MayTake r c.args.self.now → r.latest ≤ c.args.row.now.stamp → PassesOn r.table r.rows c.args.row.now c.in-Ok.link.now
passed g c r may le =
    subst (λ (t : Content). PassesOn t r.rows c.args.row.now c.in-Ok.link.now) may.table
    (c.in-Ok.ensures.passed r.rows (agree_at r c.args.self.now c.args.row.now c.deref_mut.result.now c.deref_mut.ensures.value may le))

pub offer_all-requires-clause-can : goal.offer_all-requires-clause-can
offer_all-requires-clause-can g c =
    let q = c.requires.may in
    let t = c.args.self.now in
    let item = c.copy_of-item.ensures q.0.rows q.1.count in
    subst (λ (os : List (TracedPort _)). (k : ℕ) (o : TracedPort _) → slice_get os k ≡ Some o → CanBeOffered t.shown c.copy_of-item.result o) (sym c.deref_mut-in-Ok.ensures.value)
    (can_offer t.shown q.0.table q.0.rows q.0.latest c.copy_of-item.result t.ports.items (ap (λ (x : Item). x.number) item)
    (subst (λ n. q.0.latest ≤ n) (sym (ap (λ (x : Item). x.stamp) item)) q.2) q.1.ports)

pub offer_all-requires-clause-once : goal.offer_all-requires-clause-once
offer_all-requires-clause-once g c =
    let q = c.requires.may in
    let t = c.args.self.now in
    subst (λ (os : List (TracedPort _)). IsDistinct nat_eq (map (λ (o : TracedPort _). o.row.id) os)) (sym c.deref_mut-in-Ok.ensures.value)
    (are_distinct t.shown q.0.table q.0.rows q.0.latest c.ports_are_distinct.ensures (subst (λ (d : Content). Rises d.ports) q.1.table c.pass.ensures.well_formed.ports_rise) t.ports.items q.1.ports)

pub offer_all-requires-clause-distinct : goal.offer_all-requires-clause-distinct
offer_all-requires-clause-distinct g c = subst (IsDistinct nat_eq) (sym (c.as_slice-to.ensures.value ∙ ap (λ (m : Link). m.to) c.link.view_is)) c.in-Ok.ensures.limits.targets.once

pub offer_all-requires-clause-places : goal.offer_all-requires-clause-places
offer_all-requires-clause-places g c =
    let q = c.requires.may in
    let t = c.args.self.now in
    subst (λ (os : List (TracedPort _)). PlacesAre t.places os) (sym c.deref_mut-in-Ok.ensures.value) (places_are t.shown q.0.table q.0.rows q.0.latest t.places t.ports.items q.1.places q.1.ports)

pub offer_all-requires-clause-files : goal.offer_all-requires-clause-files
offer_all-requires-clause-files g c = c.requires.files ∙ ap length (sym c.deref_mut-in-Ok.ensures.value)

pub offer_all-requires-clause-not_late : goal.offer_all-requires-clause-not_late
offer_all-requires-clause-not_late g c =
    let q = c.requires.may in
    subst (λ (x : Item). x.stamp < last_second) (sym (c.copy_of-item.ensures q.0.rows q.1.count)) c.requires.not_late

pub offer_all-requires-clause-least : goal.offer_all-requires-clause-least
offer_all-requires-clause-least g c =
    let q = c.requires.may in
    subst (λ (x : Item). least_size ≤ x.size) (sym (c.copy_of-item.ensures q.0.rows q.1.count)) c.requires.least

pub offer_all-requires-clause-largest : goal.offer_all-requires-clause-largest
offer_all-requires-clause-largest g c =
    let q = c.requires.may in
    subst (λ (x : Item). x.size ≤ greatest_size) (sym (c.copy_of-item.ensures q.0.rows q.1.count)) c.requires.largest

-- the port's copies, as those of the link
pub returns-in_ok-full-in-Ok-clause-taken : goal.returns-in_ok-full-in-Ok-clause-taken
returns-in_ok-full-in-Ok-clause-taken g c = λ r may le named_is.
    let row = c.args.row.now in
    let t = c.args.self.now in
    let link = c.in-Ok.link.now in
    let p = passed g (goal.at.returns-in_ok-full-in-Ok-clause-taken g c).In-Ok r may le in
    let agree = agree_at r t row c.deref_mut.result.now c.deref_mut.ensures.value may le in
    let item = c.copy_of-item.ensures r.rows may.count in
    let to = c.as_slice-to.ensures.value ∙ ap (λ (m : Link). m.to) c.link.view_is in
    let value = c.deref_mut-in-Ok.ensures.value in
    let is = c.in_ok-full-in-Ok.ensures in
    let after = subst (λ (d : Content). AccountsAgree d.links (r.rows ++ row ∷ []) row.stamp c.pass.new.accounts) may.table (c.pass.ensures.agree r.rows agree) in
    let offered = subst (λ (x : Item). AreOffered t.shown x link.to t.ports.items c.offer_all.new.ports) item
    (subst (λ (ports : List ℕ). AreOffered t.shown c.copy_of-item.result ports t.ports.items c.offer_all.new.ports) to
    (subst (λ (os : List (TracedPort _)). AreOffered t.shown c.copy_of-item.result c.as_slice-to.result.now os c.offer_all.new.ports) value is.offered)) in
    record {
      accounts = back_into (AccountsAgree r.table.links (r.rows ++ row ∷ []) row.stamp) t.accounts c.pass.new.accounts (after.len ∙ sym may.accounts.len) after;
      ports = back_into (λ (os : List (TracedPort _)). AllTell t.shown r.table (r.rows ++ row ∷ []) row.stamp os) t.ports c.offer_all.new.ports offered.many
          (all_with c.feeds_are_admitted_in_parts.ensures t.shown r.table r.rows r.latest row link t.ports.items c.offer_all.new.ports le p.names p.is_passed offered may.ports);
      fields_are = passed_told r.table r.rows row link c.in_ok-full-in-Ok.full.items p.names p.is_passed (is.full
          ∙ ap (λ (os : List (TracedPort _)). refused_among c.copy_of-item.result os c.as_slice-to.result.now) value
          ∙ ap (refused_among c.copy_of-item.result t.ports.items) to ∙ ap (λ (x : Item). refused_among x t.ports.items link.to) item
          ∙ refused_are t.shown r.table r.rows r.latest (copy_of link r.rows row) t.ports.items link.to may.ports);
    }

-- their lines went to their files
pub returns-in_ok-full-in-Ok-clause-gone : goal.returns-in_ok-full-in-Ok-clause-gone
returns-in_ok-full-in-Ok-clause-gone g c = λ start have.
    let contents = g.F.NewFile.contents in
    let value = c.deref_mut-in-Ok.ensures.value in
    let is = c.in_ok-full-in-Ok.ensures in
    back_into (λ (os : List (TracedPort _)). HaveGone contents start c.offer_all.new.files os) c.args.self.now.ports c.offer_all.new.ports (is.offered.many ∙ ap length value)
    (is.gone start (subst (λ (os : List (TracedPort _)). HaveGone contents start c.args.files.now os) (sym value) have))
