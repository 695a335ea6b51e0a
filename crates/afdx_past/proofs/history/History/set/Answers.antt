use Rattle.std.proofs.Common.{◌≡◌, ◌≤◌, set, sym, ap, ◌∙◌, arith}
use Rattle.std.proofs.lemmas.List.{set-append_right}
use Rattle.afdx_past.specs.Seen.{Seen}
use Rattle.afdx_past.proofs.history.History.set.Goals as goal

pub returns : goal.returns
returns g c =
    let p = c.self.inside in
    let same = ap (λ (h : Seen _). h.first) c.self.view_is in
    let from : p.first ≤ c.args.place = omega (arith, same, c.requires.left) in
    ap (λ items. record { items = items; first = p.first; room = p.room }) (sym (set-append_right (p.gone).items p.left.items p.first c.args.place c.args.item (sym c.self.invariant.0) from))
    ∙ ap (λ (h : Seen _). record h { items = set h.items c.args.place c.args.item }) c.self.view_is
