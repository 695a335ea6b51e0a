use Rattle.std.proofs.Common.{◌≤◌, ℕ, List, length, slice_get, refl, sym, ◌∙◌, ap, subst}
use Rattle.std.proofs.lemmas.Option.{slice_get_past, slice_get_read}
use Rattle.afdx_network_trace.proofs.Placing.{place_there}
use Rattle.afdx_network_trace.proofs.numbering.Search.place_at.Goals as goal

pub returns-in_err-place : goal.returns-in_err-place
returns-in_err-place c =
    let s = c.args.self.now in
    let v = c.in_ok-places.places.now in
    let at = c.in_ok-places.ensures.lookup in
    let past = subst (λ (xs : List ℕ). length xs ≤ c.args.number) c.deref.ensures.value c.in_err-place.ensures.lookup.3 in
    c.from_residual-in_err-place.ensures ∙ sym (slice_get_past v.items c.args.number past)
    ∙ place_there s.dones.now s.places.now s.are_places c.args.switch c.args.number v at.3.0 at.1

pub returns : goal.returns
returns c =
    let s = c.args.self.now in
    let v = c.in_ok-places.places.now in
    let at = c.in_ok-places.ensures.lookup in
    let own = c.deref.result.now in
    let found = c.in_ok-place.ensures.lookup in
    sym (slice_get_read own (length own) c.args.number c.in_ok-place.place.now refl found.3.0 found.1) ∙ ap (λ (xs : List ℕ). slice_get xs c.args.number) c.deref.ensures.value
    ∙ place_there s.dones.now s.places.now s.are_places c.args.switch c.args.number v at.3.0 at.1
