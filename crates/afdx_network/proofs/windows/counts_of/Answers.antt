use Rattle.std.proofs.Common.{◌≡◌, ◌+◌, ◌≤◌, ◌++◌, [], ◌∷◌, false, rules, List, length, refl, ap, sym, ◌∙◌, append_assoc, arith, subst}
use Rattle.std.specs.Prelude.{All}
use Rattle.std.specs.Vec.Iter.{into_iter_items}
use Rattle.std.proofs.lemmas.List.Elements.{All-head, All-tail}
use borrow.Author.Rules.{scaled_fits≤}
use Rattle.afdx_network.specs.Inner.Sites.{Site, gone_of}
use Rattle.afdx_network.proofs.Settling.{AreSettled, none_settled, room_to, one_settled, counts_more}
use Rattle.afdx_network.proofs.windows.counts_of.Goals as goal

pub loop-site-init : goal.loop-site-init
loop-site-init g c =
    let it = c.into_iter-site-iterator.result in
    let items = c.into_iter-site-iterator.ensures.into_iter_gives.0 in
    record {
      whole = refl;
      left = search rules;
      going = subst (All (λ (s : Site). s.paced.failed ≡ false)) (sym items) c.requires.going;
      counts = c.new-counts.ensures.items;
      settled = none_settled g.F.NewFile.contents (into_iter_items it) (into_iter_items it) c.args.files.now refl (c.requires.files ∙ ap (λ (xs : List Site). length (gone_of xs)) (sym items));
    }

pub finish-requires-clause-going : goal.finish-requires-clause-going
finish-requires-clause-going g c =
    All-head (λ (s : Site). s.paced.failed ≡ false) c.in-Some.site (into_iter_items c.next.new.self)
    (subst (All (λ (s : Site). s.paced.failed ≡ false)) c.in-Some.ensures.steps.0 c.loop-site.invariant.going)

pub loop-site-preserved : goal.loop-site-preserved
loop-site-preserved g c =
    let at = c.loop-site in
    let site = c.in-Some.site in
    let rest = into_iter_items c.next.new.self in
    let steps : into_iter_items at.site-iterator ≡ site ∷ rest = c.in-Some.ensures.steps.0 in
    let inv = at.invariant in
    record {
      whole = append_assoc at.yielded (site ∷ []) rest ∙ ap (λ (ys : List Site). at.yielded ++ ys) (sym steps) ∙ inv.whole;
      left = let was = inv.left in let gone = c.in-Some.ensures.steps.1 in let short = ap (λ (ys : List Site). length ys) steps in omega (arith, was, gone, short);
      going = All-tail (λ (s : Site). s.paced.failed ≡ false) site rest (subst (All (λ (s : Site). s.paced.failed ≡ false)) steps inv.going);
      counts = c.in_ok-push.ensures.items ∙ counts_more at.yielded site at.counts.items c.in_ok-finish.field-0 inv.counts c.in_ok-finish.ensures.counts;
      settled = one_settled g.F.NewFile.contents (into_iter_items c.into_iter-site-iterator.result) at.yielded rest c.args.files.now at.files c.finish.new.files at.first
          (at.first + c.ports.result) site
          (subst (λ (ys : List Site). AreSettled g.F.NewFile.contents (into_iter_items c.into_iter-site-iterator.result) at.yielded ys c.args.files.now at.files at.first) steps inv.settled)
          (ap (λ n. at.first + n) c.ports.ensures.gone) (ap (λ n. at.first + n) c.ports.ensures.left) c.finish.auto.files (λ start have. c.in_ok-finish.ensures.gone start have);
    }

pub overflow_add-next : goal.overflow_add-next
overflow_add-next g c =
    let at = c.loop-site in
    let site = c.in-Some.site in
    let rest = into_iter_items c.next.new.self in
    let steps : into_iter_items at.site-iterator ≡ site ∷ rest = c.in-Some.ensures.steps.0 in
    let room = room_to g.F.NewFile.contents (into_iter_items c.into_iter-site-iterator.result) at.yielded rest c.args.files.now at.files at.first site
    (subst (λ (ys : List Site). AreSettled g.F.NewFile.contents (into_iter_items c.into_iter-site-iterator.result) at.yielded ys c.args.files.now at.files at.first) steps at.invariant.settled) in
    let ports = c.ports.ensures.gone in
    let fits : at.first + c.ports.result ≤ length at.files = omega (arith, room, ports) in
    search (rules, fits)

pub offset_bounds-files-first : goal.offset_bounds-files-first
offset_bounds-files-first g c =
    let at = c.loop-site in
    let site = c.in-Some.site in
    let rest = into_iter_items c.next.new.self in
    let steps : into_iter_items at.site-iterator ≡ site ∷ rest = c.in-Some.ensures.steps.0 in
    let room = room_to g.F.NewFile.contents (into_iter_items c.into_iter-site-iterator.result) at.yielded rest c.args.files.now at.files at.first site
    (subst (λ (ys : List Site). AreSettled g.F.NewFile.contents (into_iter_items c.into_iter-site-iterator.result) at.yielded ys c.args.files.now at.files at.first) steps at.invariant.settled) in
    let same = at.auto.files in
    let le : at.first ≤ length c.args.files.now = omega (arith, room, same) in
    scaled_fits≤ at.first (length c.args.files.now) _ le (search rules)

pub slice_bounds-finish-end : goal.slice_bounds-finish-end
slice_bounds-finish-end g c =
    let at = c.loop-site in
    let site = c.in-Some.site in
    let rest = into_iter_items c.next.new.self in
    let steps : into_iter_items at.site-iterator ≡ site ∷ rest = c.in-Some.ensures.steps.0 in
    let room = room_to g.F.NewFile.contents (into_iter_items c.into_iter-site-iterator.result) at.yielded rest c.args.files.now at.files at.first site
    (subst (λ (ys : List Site). AreSettled g.F.NewFile.contents (into_iter_items c.into_iter-site-iterator.result) at.yielded ys c.args.files.now at.files at.first) steps at.invariant.settled) in
    let ports = c.ports.ensures.gone in
    let fits : at.first + c.ports.result ≤ length at.files = omega (arith, room, ports) in
    search (rules, fits)
