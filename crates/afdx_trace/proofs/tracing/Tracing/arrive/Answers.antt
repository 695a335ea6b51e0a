use Rattle.std.proofs.Common.{◌≡◌, ◌<◌, ◌≤◌, List, [], ◌∷◌, ◌++◌, None, refl, sym, ap, ◌∙◌, subst}
use Rattle.afdx_units.specs.Time.{last_second}
use Rattle.afdx_table.specs.Content.{Content}
use Rattle.afdx_filter.specs.Place.{place_named}
use Rattle.afdx_core.specs.declared.step.Row.{Row}
use Rattle.afdx_core.specs.Rows.{row_of}
use Rattle.afdx_core.specs.State.{Run, after_row, refusal_of}
use Rattle.afdx_trace.specs.declared.shown.Selection.{Selection}
use Rattle.afdx_trace.specs.declared.lines.Lines.{Lines}
use Rattle.afdx_trace.specs.declared.traced_port.TracedPort.{TracedPort}
use Rattle.afdx_trace.specs.declared.tracing.Tracing.{Tracing}
use Rattle.afdx_trace.specs.Shown.{shown_of}
use Rattle.afdx_trace.specs.Inner.Lines.{HasGone}
use Rattle.afdx_trace.specs.Inner.Telling.{Tells, HaveGone, fields_of}
use Rattle.afdx_trace.proofs.Arriving.{not_earlier, sized_row, may_take, next_tells}
use Rattle.afdx_trace.proofs.tracing.Tracing.arrive.Given.{Over}
use Rattle.afdx_trace.proofs.tracing.Tracing.arrive.Goals as goal
use Rattle.afdx_trace.proofs.tracing.Tracing.arrive.Goals.{After-shown_from-self}

-- what is shown with this arrival
shown_is : (g : Over) (c : After-shown_from-self g) (s : Selection) (r : Run) → Tells s r c.args.self.now → c.shown_from-self.result ≡ shown_of s (r.rows ++ c.judged-place.result.0 ∷ [])
shown_is g c s r tells =
    c.shown_from-self.ensures r.rows c.judged-place.result.0 tells.count (tells.shown ∙ ap (λ (x : Selection). shown_of x r.rows) (sym tells.selected)) refl
    ∙ ap (λ (x : Selection). shown_of x (r.rows ++ c.judged-place.result.0 ∷ [])) tells.selected

-- its row, by the table of the run
row_is : (g : Over) (c : After-shown_from-self g) (s : Selection) (r : Run) → Tells s r c.args.self.now → c.judged-place.result.0 ≡ row_of r.table c.args.in_port c.args.frame.now
row_is g c s r tells = c.judged-place.ensures.row ∙ ap (λ (t : Content). row_of t c.args.in_port c.args.frame.now) tells.table

-- it comes no earlier than those before it
in_order : (g : Over) (c : After-shown_from-self g) (r : Run) → refusal_of r c.args.in_port c.args.frame.now.stamp ≡ None → r.latest ≤ c.judged-place.result.0.stamp
in_order g c r none = subst (λ stamp. r.latest ≤ stamp) (sym (ap (λ (row : Row). row.stamp) c.judged-place.ensures.row)) (not_earlier r c.args.in_port c.args.frame.now.stamp none)

pub fate-requires-clause-may : goal.fate-requires-clause-may
fate-requires-clause-may g c =
    let q = c.requires.tells in
    let row = c.judged-place.result.0 in
    let p = (goal.at.fate-requires-clause-may g c).After-shown_from-self in (
      q.1,
      may_take q.0 q.1 row c.args.self.now _ q.2 (shown_is g p q.0 q.1 q.2) refl refl refl refl refl,
      in_order g p q.1 q.3,
      c.judged-place.ensures.place ∙ ap (λ (t : Content). place_named t row.verdict) q.2.table,
    )

pub fate-requires-clause-not_late : goal.fate-requires-clause-not_late
fate-requires-clause-not_late g c = subst (λ stamp. stamp < last_second) (sym (ap (λ (row : Row). row.stamp) c.judged-place.ensures.row)) c.requires.not_late

pub fate-requires-clause-sized : goal.fate-requires-clause-sized
fate-requires-clause-sized g c = λ some.
    sized_row c.args.self.now.table c.args.in_port c.args.frame.now c.judged-place.result.0 c.judged-place.ensures.row (λ none. some (c.judged-place.ensures.place ∙ none))

pub returns-clause-tells : goal.returns-clause-tells
returns-clause-tells g c = λ s r tells refusal.
    let row = c.judged-place.result.0 in
    let p = (goal.at.returns-clause-tells g c).After-shown_from-self in
    let counted = c.in_ok-number.ensures in
    let begun : Tracing _ = record c.args.self.now { shown = c.shown_from-self.result; records = c.count.new.records } in
    let taken = c.in_ok-fate.ensures.taken r (may_take s r row c.args.self.now begun tells (shown_is g p s r tells) refl refl refl refl refl)
    (in_order g p r refusal) (c.judged-place.ensures.place ∙ ap (λ (t : Content). place_named t row.verdict) tells.table) in
    let others = c.fate.ensures.others in
    let line = c.in_ok-tell.ensures.line r.table r.rows (others.count ∙ tells.count) (counted.number r.rows tells.records) taken.fields_are in
    let next : Tracing _ = record c.tell.new.self { rows = c.and-self.result; count = c.in-Some.later } in
    subst (λ (x : Row). Tells s (after_row x r) next) (row_is g p s r tells)
    (next_tells s r row c.args.self.now begun tells (shown_is g p s r tells) c.fate.new.self c.tell.new.self next (fields_of c.in_ok-fate.fate) refl refl refl refl refl refl
    (counted.counted r.rows tells.records) others taken c.tell.ensures.same line refl refl refl refl refl refl refl refl c.and-self.ensures c.in-Some.ensures.1)

pub returns-clause-arrivals : goal.returns-clause-arrivals
returns-clause-arrivals g c = λ start has.
    c.in_ok-tell.ensures.gone start (subst (λ (l : Lines _). HasGone g.F.NewFile.contents start c.args.arrivals.now l) (sym c.fate.ensures.others.lines) has)

pub returns-clause-departures : goal.returns-clause-departures
returns-clause-departures g c = λ start have.
    subst (λ (os : List (TracedPort _)). HaveGone g.F.NewFile.contents start c.fate.new.files os) (sym c.tell.ensures.same.ports) (c.in_ok-fate.ensures.gone start have)
