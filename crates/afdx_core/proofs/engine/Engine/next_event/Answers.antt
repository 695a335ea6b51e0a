use Rattle.std.proofs.Common.{◌≡◌, ◌<◌, ℕ, false, List, length, get_or, Option, Some, None, All, arith, subst}
use Rattle.afdx_units.specs.Time.{is_before}
use Rattle.afdx_core.proofs.FirstDue.{none_before}
use Rattle.afdx_core.proofs.NextEvent.{all_due, none_due, one_due}
use Rattle.afdx_core.specs.Inner.Engine.{run_of}
use Rattle.afdx_core.proofs.engine.Engine.next_event.Goals as goal

pub returns : goal.returns
returns g c =
    let e = c.args.self.now in
    let kept = c.requires.kept in
    let first = c.in_ok-first.first in
    let late : Option ℕ → Type 0 = λ due. is_before first.1 due ≡ false in
    let is = c.in_ok-first.ensures in
    let dues = kept.dues c.requires.still_open in
    record {
      none_before = all_due late (run_of e) e.output_ports.items c.requires.still_open kept.ports kept.contents
          (subst (All late) dues (none_before first.1 e.dues first.0 first.1 is (omega arith)));
      one_then = one_due (run_of e) e.output_ports.items first.1 first.0 c.requires.still_open kept.ports kept.contents
          (subst (λ (instants : List (Option ℕ)). first.0 < length instants) dues is.within)
          (subst (λ (instants : List (Option ℕ)). get_or instants first.0 None ≡ Some first.1) dues is.here);
    }

pub returns-in_err-first : goal.returns-in_err-first
returns-in_err-first g c =
    let e = c.args.self.now in
    let kept = c.requires.kept in
    let none : Option ℕ → Type 0 = λ due. due ≡ None in
    rw c.from_residual.ensures
    (all_due none (run_of e) e.output_ports.items c.requires.still_open kept.ports kept.contents
    (subst (All none) (kept.dues c.requires.still_open) (none_due e.dues c.in_err-first.ensures)))
