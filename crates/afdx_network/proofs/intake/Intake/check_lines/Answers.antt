use Rattle.std.proofs.Common.{◌≡◌, List, length, slice_get, None, refl, sym, ap, subst, ◌∙◌, arith}
use Rattle.std.specs.Prelude.{All}
use Rattle.std.proofs.lemmas.Option.{slice_get_read}
use Rattle.afdx_wiring.specs.declared.layout.End.{End}
use Rattle.afdx_network.specs.declared.line.Line.{Line}
use Rattle.afdx_network.specs.Inner.OneLine.{IsFirstBroken}
use Rattle.afdx_network.proofs.Meeting.{all_over, place_open, first_broken}
use Rattle.afdx_network.proofs.intake.Intake.check_lines.Goals as goal

pub index-end-requires : goal.index-end-requires
index-end-requires c =
    let self = c.args.self.now in
    let t = c.requires in
    let broken = subst (λ (lines : List Line). IsFirstBroken lines c.in-Some.place c.in-Some.number) c.deref.ensures.value c.in-Some.ensures.some in
    let within = place_open t.0 self.lines.items t.1 c.in-Some.place broken.line t.3 broken.line_is in
    let many = ap (λ (ends : List End). length ends) t.2 in
    let long = self.ends.ok.0 in
    omega (arith, within, many, long)

pub returns-in-Some-clause-err : goal.returns-in-Some-clause-err
returns-in-Some-clause-err c = λ net came ends met.
    let self = c.args.self.now in
    let broken = subst (λ (lines : List Line). IsFirstBroken lines c.in-Some.place c.in-Some.number) c.deref.ensures.value c.in-Some.ensures.some in
    let within = place_open net self.lines.items came c.in-Some.place broken.line met broken.line_is in
    let many = ap (λ (es : List End). length es) ends in
    first_broken net self.lines.items came c.in-Some.place c.in-Some.number c.index-end.result.now met broken
    (ap (λ (es : List End). slice_get es c.in-Some.place) (sym ends)
    ∙ slice_get_read self.ends.items (length self.ends.items) c.in-Some.place c.index-end.result.now refl (omega (arith, within, many)) c.index-end.ensures)

pub returns-in-None-clause-ok : goal.returns-in-None-clause-ok
returns-in-None-clause-ok c = λ net came met.
    all_over net c.args.self.now.lines.items came met (subst (λ (lines : List Line). All (λ (line : Line). line.breach ≡ None) lines) c.deref.ensures.value c.in-None.ensures.none)
