use Rattle.std.proofs.Common.{◌+◌, sym, ◌∙◌, subst}
use Rattle.std.specs.Prelude.{IfErr}
use Rattle.std.proofs.lemmas.Result.{on_ok_weaker}
use Rattle.afdx_wiring.specs.declared.layout.End.{End}
use Rattle.afdx_origins.specs.Inner.Known.{HasCome, IsNotCarried, Leaves, StayHeld}
use Rattle.afdx_origins.proofs.Rows.{same_end}
use Rattle.afdx_origins.proofs.Telling.{stay_same}
use Rattle.afdx_origins.proofs.origins.bring_from.Goals as goal

pub returns-clause-coming : goal.returns-clause-coming
returns-clause-coming c = λ all leaves known.
    let from = same_end c.args.wire.now.from c.args.from (sym c.is_end.ensures ∙ c.if-not-is_end.false) in
    c.bring.ensures.coming all (subst (λ (e : End). Leaves c.args.network.now all e c.args.link c.args.end c.args.first) (sym from) leaves) known

pub returns-then-not-is_end-clause-told : goal.returns-then-not-is_end-clause-told
returns-then-not-is_end-clause-told c = λ all leaves known.
    (stay_same c.args.network.now all c.args.switches.now, λ here first_to. absurd (let not = sym c.is_end.ensures ∙ c.if-not-is_end.true in (cc)))

pub returns-then-not-is_first-clause-told : goal.returns-then-not-is_first-clause-told
returns-then-not-is_first-clause-told c = λ all leaves known.
    (stay_same c.args.network.now all c.args.switches.now, λ here first_to. absurd (let first = c.is_first.ensures.1 first_to in let not = c.if-not-is_first.true in (cc)))

pub returns-clause-told : goal.returns-clause-told
returns-clause-told c = λ all leaves known.
    let net = c.args.network.now in
    let w = c.args.wire.now in
    let old = c.args.switches.now in
    let new = c.bring.new.switches in
    let from = same_end w.from c.args.from (sym c.is_end.ensures ∙ c.if-not-is_end.false) in
    on_ok_weaker c.bring.result
    (λ (both : StayHeld net all old new × HasCome net all c.args.link w (c.args.end + w.delay) new). (both.0, λ here first_to. both.1))
    (c.bring.ensures.told all (subst (λ (e : End). Leaves net all e c.args.link c.args.end c.args.first) (sym from) leaves) known)

pub returns-clause-fault : goal.returns-clause-fault
returns-clause-fault c =
    let from = same_end c.args.wire.now.from c.args.from (sym c.is_end.ensures ∙ c.if-not-is_end.false) in
    subst (λ (e : End). IfErr c.bring.result (IsNotCarried c.args.network.now e c.args.end)) from c.bring.ensures.fault
