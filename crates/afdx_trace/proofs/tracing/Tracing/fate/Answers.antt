use Rattle.std.proofs.Common.{◌≡◌, ℕ, ◌≤◌, List, [], ◌∷◌, Option, Some, None, codes, decimal, map, sym, ap, ◌∙◌, subst}
use Rattle.std.specs.Prelude.{IfOk}
use Rattle.afdx_table.specs.Link.{Link}
use Rattle.afdx_filter.specs.Place.{place_named}
use Rattle.afdx_core.specs.Rows.{copies_by}
use Rattle.afdx_core.specs.State.{Run}
use Rattle.afdx_trace.specs.Csv.{joined_by}
use Rattle.afdx_trace.specs.Inner.Telling.{MayTake, HasTaken, fields_of}
use Rattle.afdx_trace.proofs.Answered.{filtered_told}
use Rattle.afdx_trace.proofs.Offering.{all_without}
use Rattle.afdx_trace.proofs.Placing.{none_at}
use Rattle.afdx_trace.proofs.tracing.Tracing.fate.Goals as goal

pub offer-requires-clause-may : goal.offer-requires-clause-may
offer-requires-clause-may g c = let q = c.requires.may in (q.0, q.1, q.2, sym c.in-Some.is ∙ q.3)

pub offer-requires-clause-least : goal.offer-requires-clause-least
offer-requires-clause-least g c = (c.requires.sized (λ none. let e : Some c.in-Some.place ≡ None = sym c.in-Some.is ∙ none in cc)).0

pub offer-requires-clause-largest : goal.offer-requires-clause-largest
offer-requires-clause-largest g c = (c.requires.sized (λ none. let e : Some c.in-Some.place ≡ None = sym c.in-Some.is ∙ none in cc)).1

pub returns-in-Some-clause-taken : goal.returns-in-Some-clause-taken
returns-in-Some-clause-taken g c =
    subst (λ (place : Option ℕ). IfOk c.offer.result (λ fate. (r : Run) → MayTake r c.args.self.now → r.latest ≤ c.args.row.now.stamp → place ≡ place_named r.table c.args.row.now.verdict
    → HasTaken r c.args.row.now (fields_of fate) c.args.self.now c.offer.new.self)) (sym c.in-Some.is) c.offer.ensures.taken

pub returns-in-None-clause-taken : goal.returns-in-None-clause-taken
returns-in-None-clause-taken g c = λ r may le named_is.
    let row = c.args.row.now in
    let unnamed = none_at r.table row.verdict c.links_are_at_their_places.ensures (sym named_is ∙ c.in-None.is) in
    record {
      accounts = c.filtered_touch_no_account.ensures r.table r.rows r.latest row c.args.self.now.accounts.items unnamed le may.accounts;
      ports = all_without c.args.self.now.shown r.table r.rows r.latest row.stamp row c.args.self.now.ports.items le (λ port. ap (λ (o : Option Link). copies_by o port r.rows row) unnamed) may.ports;
      fields_are = ap (λ (word : List ℕ). word ∷ [] ∷ joined_by (codes ";") (map decimal c.new.result.items) ∷ []) c.verdict_word.ensures
          ∙ filtered_told r.table r.rows row c.new.result.items c.new.ensures unnamed;
    }
