use Rattle.std.proofs.Common.{◌≡◌, ℕ, List, Some, length, slice_get, sym, ap, ◌∙◌, arith, subst}
use Rattle.std.proofs.lemmas.Result.{on_ok_weaker}
use Rattle.std.specs.Io.KnownBytes.{Appends}
use Rattle.afdx_trace.specs.declared.shown.Shown.{Shown}
use Rattle.afdx_trace.specs.declared.traced_port.TracedPort.{TracedPort}
use Rattle.afdx_trace.specs.Shown.{shown_of}
use Rattle.afdx_trace.specs.Inner.Telling.{HasToldAll, AllTell, AreEnded, HaveGone}
use Rattle.afdx_trace.proofs.Ending.{ended_arrivals}
use Rattle.afdx_trace.proofs.Ended.{told_of, all_ended}
use Rattle.afdx_trace.proofs.tracing.Tracing.end.Goals as goal

pub end_all-requires-clause-told : goal.end_all-requires-clause-told
end_all-requires-clause-told g c =
    let q = c.requires.tells in
    subst (λ (os : List (TracedPort _)). (k : ℕ) (o : TracedPort _) → slice_get os k ≡ Some o → HasToldAll c.args.self.shown o) (sym c.deref_mut.ensures.value)
    (subst (λ (x : Shown). (k : ℕ) (o : TracedPort _) → slice_get c.args.self.ports.items k ≡ Some o → HasToldAll x o) (sym q.2.shown)
    (told_of (shown_of q.0 q.1.rows) q.1.table q.1.rows q.1.latest c.args.self.ports.items q.2.ports))

pub returns : goal.returns
returns g c =
    let contents = g.F.NewFile.contents in
    let t = c.args.self in
    let ports = c.deref_mut.result.now in
    let value = c.deref_mut.ensures.value in
    let lines = c.in_ok-put_out.ensures in
    on_ok_weaker c.end_all.result
    (λ ended s r tells. record {
      arrivals = λ start has.
          subst (λ (text : List ℕ). Appends (contents start) (contents c.put_out.new.file) text) (lines.all ∙ lines.whole ∙ ended_arrivals c.lines_are_told.ensures s r t tells) (lines.gone start has);
      departures = λ start have.
          all_ended contents s r (length ports) c.args.departures.now c.end_all.new.files ports c.end_all.new.ports (omega arith) (c.requires.files ∙ ap length (sym value))
          (subst (λ (os : List (TracedPort _)). AllTell (shown_of s r.rows) r.table r.rows r.latest os) (sym value) tells.ports)
          (subst (λ (x : Shown). AreEnded x contents (length ports) c.args.departures.now c.end_all.new.files ports c.end_all.new.ports) tells.shown ended) start
          (subst (λ (os : List (TracedPort _)). HaveGone contents start c.args.departures.now os) (sym value) have);
    }) c.end_all.ensures
