use Rattle.std.proofs.Common.{List, slice_get, ap, ◌∙◌}
use Rattle.afdx_port.specs.declared.Aged.{Aged}
use Rattle.afdx_port.specs.Content.{FlowValue}
use Rattle.afdx_trace.proofs.Telling.{tells_none, tells_sent, tells_aged}
use Rattle.afdx_trace.proofs.traced_port.TracedPort.tell_next.Goals as goal

pub sent_at-sent-requires : goal.sent_at-sent-requires
sent_at-sent-requires g c = c.requires.1.sent_first

pub aged_from-requires-clause-left : goal.aged_from-requires-clause-left
aged_from-requires-clause-left g c = c.requires.1.aged_first

pub aged_from-requires-clause-within : goal.aged_from-requires-clause-within
aged_from-requires-clause-within g c = c.requires.1.told.many_aged

pub tell_sent-requires : goal.tell_sent-requires
tell_sent-requires g c = c.requires.1.latency

pub tell_aged-requires : goal.tell_aged-requires
tell_aged-requires g c = c.requires.1.latency

pub returns-in-None-clause-ok : goal.returns-in-None-clause-ok
returns-in-None-clause-ok g c = λ left is.
    tells_none c.args.shown.now c.args.self.now c.sent_at-sent.result c.copied-aged.result c.sent_at-sent.ensures
    (c.copied-aged.ensures ∙ c.first.ensures.value ∙ ap (λ (all : List Aged). slice_get all 0) c.aged_from.ensures) c.in-None.ensures left is

pub returns-in_ok-tell_sent-in-Some-Ok-clause-ok : goal.returns-in_ok-tell_sent-in-Some-Ok-clause-ok
returns-in_ok-tell_sent-in-Some-Ok-clause-ok g c =
    let told = c.tell_sent.ensures in
    let done_so = c.in_ok-tell_sent-in-Some-Ok.ensures in
    tells_sent c.args.shown.now c.args.self.now c.tell_sent.new.self told.same (ap (λ (f : FlowValue). f.sent_first) told.form.0) (ap (λ (f : FlowValue). f.aged_first) told.form.0)
    c.sent_at-sent.result c.copied-aged.result c.in-Some-Ok.sent c.sent_at-sent.ensures
    (c.copied-aged.ensures ∙ c.first.ensures.value ∙ ap (λ (all : List Aged). slice_get all 0) c.aged_from.ensures)
    (rw c.in-Some-Ok.field-0-is at c.in-Some-Ok.ensures) done_so.count told.form.1 done_so.line

pub returns-in_ok-tell_aged-in-Some-Err-clause-ok : goal.returns-in_ok-tell_aged-in-Some-Err-clause-ok
returns-in_ok-tell_aged-in-Some-Err-clause-ok g c =
    let told = c.tell_aged.ensures in
    let done_so = c.in_ok-tell_aged-in-Some-Err.ensures in
    tells_aged c.args.shown.now c.args.self.now c.tell_aged.new.self told.same (ap (λ (f : FlowValue). f.sent_first) told.form.0) (ap (λ (f : FlowValue). f.aged_first) told.form.0)
    c.sent_at-sent.result c.copied-aged.result c.in-Some-Err.aged c.sent_at-sent.ensures
    (c.copied-aged.ensures ∙ c.first.ensures.value ∙ ap (λ (all : List Aged). slice_get all 0) c.aged_from.ensures)
    (rw c.in-Some-Err.field-0-is at c.in-Some-Err.ensures) done_so.count told.form.1 done_so.line
