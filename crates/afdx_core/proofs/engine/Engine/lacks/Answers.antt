use Rattle.std.proofs.Common.{◌≡◌, ◌==◌, Bool, true, false, not, is_none, refl, ap, sym, ◌∙◌}
use Rattle.afdx_table.specs.declared.rows.PortRow.{PortRow}
use Rattle.afdx_core.proofs.Calls.{none_placed}
use Rattle.afdx_core.proofs.engine.Engine.lacks.Goals as goal

not_twice : (b : Bool) → b ≡ not (not b)
not_twice true = refl
not_twice false = refl

pub returns : goal.returns
returns g c =
    let e = c.args.self.now in
    not_twice c.is_none.result ∙ ap not (sym c.is_none.ensures) ∙ ap is_none (c.place_of.ensures ∙ c.requires.places c.args.port) ∙ none_placed (λ (p : PortRow). p.id == c.args.port) e.table.ports
