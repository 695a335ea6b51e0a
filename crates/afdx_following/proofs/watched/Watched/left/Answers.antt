use Rattle.std.proofs.Common.{◌≡◌, ◌<◌, ◌≤◌, false, length, set, sym, ap, subst, ◌∙◌}
use Rattle.std.proofs.lemmas.Result.{IfOk-equal}
use Rattle.afdx_following.specs.Output.{Output, left_by, stamped_by, with_waiting}
use Rattle.afdx_following.specs.Watched.{Watched, left_by_at, with_record}
use Rattle.afdx_following.specs.Inner.InStep.{IsInStep}
use Rattle.afdx_following.proofs.Changing.{item_there, same_item, record_made, record_made_in_step}
use Rattle.afdx_following.proofs.watched.Watched.left.Goals as goal

pub settle-requires : goal.settle-requires
settle-requires g c =
    let i = c.self.inside in
    let f : Watched = record {
      account = i.account;
      tolerance = i.tolerance;
      levels = i.levels;
      undecided = i.undecided.items;
      outputs = i.outputs.items;
      unsure = i.unsure;
      latest = i.latest;
      failed = false;
    } in
    let o = c.index_mut.result.now in
    let lt = subst (λ (x : Watched). c.args.place < length x.outputs) (sym c.self.view_is) c.requires.place in
    let get = item_there f.outputs c.args.place o lt c.index_mut.ensures.value in
    let at : c.left_by-at.result ≡ left_by c.args.left o = c.left_by-at.ensures
    ∙ ap (λ (x : Output). left_by c.args.left x) (same_item f.outputs c.args.place c.index.result.now o lt c.index.ensures c.index_mut.ensures.value) in
    let changed : set f.outputs c.args.place c.left.new.self ≡ set f.outputs c.args.place (with_waiting c.args.left o) =
    ap (λ (x : Output). set f.outputs c.args.place x) c.in_ok-left.ensures in
    record_made_in_step f c.args.place c.args.left o c.left_by-at.result (set f.outputs c.args.place c.left.new.self) get at changed
    (subst (λ (x : Watched). IsInStep x) (sym c.self.view_is) c.requires.in_step)
    (subst (λ (x : Watched). x.latest ≤ left_by_at c.args.place c.args.left x) (sym c.self.view_is) c.requires.in_order)

pub returns-clause-ok : goal.returns-clause-ok
returns-clause-ok g c =
    let i = c.self.inside in
    let f : Watched = record {
      account = i.account;
      tolerance = i.tolerance;
      levels = i.levels;
      undecided = i.undecided.items;
      outputs = i.outputs.items;
      unsure = i.unsure;
      latest = i.latest;
      failed = false;
    } in
    let o = c.index_mut.result.now in
    let lt = subst (λ (x : Watched). c.args.place < length x.outputs) (sym c.self.view_is) c.requires.place in
    let get = item_there f.outputs c.args.place o lt c.index_mut.ensures.value in
    let at : c.left_by-at.result ≡ left_by c.args.left o = c.left_by-at.ensures
    ∙ ap (λ (x : Output). left_by c.args.left x) (same_item f.outputs c.args.place c.index.result.now o lt c.index.ensures c.index_mut.ensures.value) in
    let by : c.stamped_by-by.result ≡ stamped_by c.args.left o =
    c.stamped_by-by.ensures ∙ ap (λ (x : Output). stamped_by c.args.left x) (same_item f.outputs c.args.place c.index-2.result.now o lt c.index-2.ensures c.index_mut.ensures.value) in
    let changed : set f.outputs c.args.place c.left.new.self ≡ set f.outputs c.args.place (with_waiting c.args.left o) =
    ap (λ (x : Output). set f.outputs c.args.place x) c.in_ok-left.ensures in
    IfOk-equal c.settle.result _ _ _ c.settle.ensures.ok
    (record_made f c.args.place c.args.left o c.stamped_by-by.result c.left_by-at.result (set f.outputs c.args.place c.left.new.self) get by at changed
    ∙ ap (λ (y : Watched). with_record c.args.place c.args.left y) c.self.view_is)
