use Rattle.std.proofs.Common.{rules, ◌≡◌, true, set, Some, sym, ap, subst, ◌∙◌}
use Rattle.std.proofs.lemmas.Result.{IfOk-weaker}
use Rattle.afdx_pcap.specs.Record.{Record}
use Rattle.afdx_filter.specs.declared.outcome.Verdict.{Verdict}
use Rattle.afdx_filter.specs.Place.{place_named}
use Rattle.afdx_pairing.specs.Events.{Numbered}
use Rattle.afdx_following.specs.Watch.{has_frame}
use Rattle.afdx_following.specs.Watched.{Fits, with_own}
use Rattle.afdx_following.proofs.Changing.{item_there}
use Rattle.afdx_compare.specs.Comparison.{Comparison, place_of_own, with_came}
use Rattle.afdx_compare.specs.Inner.Sound.{IsSound, IsBy}
use Rattle.afdx_compare.proofs.Calling.{came_made}
use Rattle.afdx_compare.proofs.Turns.{is_own, may_come}
use Rattle.afdx_compare.proofs.comparison.Comparison.came.Goals as goal

pub came-requires-clause-fits : goal.came-requires-clause-fits
came-requires-clause-fits g c =
    let i = c.self.inside in
    let f : Comparison = record { table = i.table.now; watch = i.watch; keeps = i.keeps; links = i.links.items; ports = i.ports.items } in
    let n : Numbered = c.args.head in
    let port = c.args.port in
    let link = c.in-Some.link in
    let has : has_frame f.watch n.frame.stamp ≡ true = search rules in
    let named : place_of_own f.table port n.frame ≡ Some link =
    ap (λ (r : Record). place_of_own f.table port r) (sym c.frame.ensures) ∙ ap (λ (v : Verdict). place_named f.table v) (sym c.judge.ensures.verdict) ∙ sym c.judge.ensures.place ∙ c.in-Some.is in
    let sound = subst (λ (x : Comparison). IsSound x) (sym c.self.view_is) c.requires.sound in
    let turn = subst (λ (x : Comparison). has_frame x.watch n.frame.stamp ≡ true → IsBy n.frame.stamp x) (sym c.self.view_is) c.requires.in_order in
    let may = may_come f link n sound (is_own c.clean_frames_have_a_link.ensures c.links_are_at_their_places.ensures f.table port n.frame link named) (turn has) in
    let get = item_there f.links link c.index_mut.result.now may.within c.index_mut.ensures.value in
    subst (λ (m : Numbered). Fits c.index_mut.result.now.account m) (sym c.in_ok-came.ensures) (may.fits c.index_mut.result.now get)

pub returns : goal.returns
returns g c =
    let i = c.self.inside in
    let f : Comparison = record { table = i.table.now; watch = i.watch; keeps = i.keeps; links = i.links.items; ports = i.ports.items } in
    let n : Numbered = c.args.head in
    let m : Numbered = c.in_ok-came.came in
    let port = c.args.port in
    let link = c.in-Some.link in
    let old = c.index_mut.result.now in
    let new = c.came.new.self in
    let has : has_frame f.watch n.frame.stamp ≡ true = search rules in
    let named : place_of_own f.table port n.frame ≡ Some link =
    ap (λ (r : Record). place_of_own f.table port r) (sym c.frame.ensures) ∙ ap (λ (v : Verdict). place_named f.table v) (sym c.judge.ensures.verdict) ∙ sym c.judge.ensures.place ∙ c.in-Some.is in
    let sound = subst (λ (x : Comparison). IsSound x) (sym c.self.view_is) c.requires.sound in
    let turn = subst (λ (x : Comparison). has_frame x.watch n.frame.stamp ≡ true → IsBy n.frame.stamp x) (sym c.self.view_is) c.requires.in_order in
    let may = may_come f link n sound (is_own c.clean_frames_have_a_link.ensures c.links_are_at_their_places.ensures f.table port n.frame link named) (turn has) in
    let get = item_there f.links link old may.within c.index_mut.ensures.value in
    IfOk-weaker c.came.result (λ u. new ≡ with_own m old) (λ u. record f { links = set f.links link new } ≡ with_came port n c.args.self.now)
    (λ u is. came_made f port n m link old new has named get c.in_ok-came.ensures is ∙ ap (λ (x : Comparison). with_came port n x) c.self.view_is) c.came.ensures.ok
