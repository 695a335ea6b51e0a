use Rattle.std.proofs.Common.{rules, ◌≡◌, ℕ, ◌<◌, ◌≤◌, List, true, length, set, Some, None, sym, ap, subst, ◌∙◌}
use Rattle.std.specs.Prelude.{OnOk}
use Rattle.std.proofs.lemmas.List.{length-set}
use Rattle.std.proofs.lemmas.Option.{slice_get_within}
use Rattle.std.proofs.lemmas.Result.{IfOk-weaker}
use Rattle.afdx_pcap.specs.Record.{Record}
use Rattle.afdx_pairing.specs.Events.{Numbered}
use Rattle.afdx_following.specs.Watch.{has_record}
use Rattle.afdx_following.specs.Watched.{left_by_at, with_record}
use Rattle.afdx_following.proofs.Changing.{item_there}
use Rattle.afdx_compare.specs.Comparison.{Port, Comparison, with_seen, with_foreign, link_at, with_left}
use Rattle.afdx_compare.specs.Inner.Sound.{IsSound, IsInTurn}
use Rattle.afdx_compare.proofs.Calling.{left_made, left_foreign}
use Rattle.afdx_compare.proofs.Turns.{may_leave}
use Rattle.afdx_compare.proofs.comparison.Comparison.left.Goals as goal
use Rattle.afdx_compare.proofs.comparison.Comparison.left.Goals.{in-Owned-2, in-Shared-2, in-Lent-2}

pub left-requires-clause-place : goal.left-requires-clause-place
left-requires-clause-place g c =
    let i = c.self.inside in
    let f : Comparison = record { table = i.table.now; watch = i.watch; keeps = i.keeps; links = i.links.items; ports = i.ports.items } in
    let n : Numbered = c.args.head in
    let s = c.args.source in
    let has : has_record f.watch n.frame.stamp ≡ true = search rules in
    let bytes : c.bytes.result.now ≡ n.frame.bytes = c.bytes.ensures.bytes ∙ ap (λ (r : Record). r.bytes) c.frame.ensures in
    let found : c.link_at.result ≡ Some (c.in-Some.link, c.in-Some.output) = search rules in
    let is : link_at s.port n.frame.bytes f ≡ Some (c.in-Some.link, c.in-Some.output) = sym (ap (λ (bs : List ℕ). link_at s.port bs f) bytes) ∙ sym c.link_at.ensures ∙ found in
    let sound = subst (λ (x : Comparison). IsSound x) (sym c.self.view_is) c.requires.sound in
    let turn = subst (λ (x : Comparison). IsInTurn s n x) (sym c.self.view_is) c.requires.in_turn in
    let may = may_leave c.ports_are_found.ensures f s n c.in-Some.link c.in-Some.output sound turn has is in
    may.place c.index_mut-in-Some.result.now (item_there f.links c.in-Some.link c.index_mut-in-Some.result.now may.within c.index_mut-in-Some.ensures.value)

pub left-requires-clause-in_order : goal.left-requires-clause-in_order
left-requires-clause-in_order g c =
    let i = c.self.inside in
    let f : Comparison = record { table = i.table.now; watch = i.watch; keeps = i.keeps; links = i.links.items; ports = i.ports.items } in
    let n : Numbered = c.args.head in
    let s = c.args.source in
    let has : has_record f.watch n.frame.stamp ≡ true = search rules in
    let bytes : c.bytes.result.now ≡ n.frame.bytes = c.bytes.ensures.bytes ∙ ap (λ (r : Record). r.bytes) c.frame.ensures in
    let found : c.link_at.result ≡ Some (c.in-Some.link, c.in-Some.output) = search rules in
    let is : link_at s.port n.frame.bytes f ≡ Some (c.in-Some.link, c.in-Some.output) = sym (ap (λ (bs : List ℕ). link_at s.port bs f) bytes) ∙ sym c.link_at.ensures ∙ found in
    let sound = subst (λ (x : Comparison). IsSound x) (sym c.self.view_is) c.requires.sound in
    let turn = subst (λ (x : Comparison). IsInTurn s n x) (sym c.self.view_is) c.requires.in_turn in
    let may = may_leave c.ports_are_found.ensures f s n c.in-Some.link c.in-Some.output sound turn has is in
    let old = c.index_mut-in-Some.result.now in
    subst (λ (m : Numbered). old.latest ≤ left_by_at c.in-Some.output m old) (sym c.in_ok-left-in-Some.ensures)
    (may.in_order old (item_there f.links c.in-Some.link old may.within c.index_mut-in-Some.ensures.value))

pub returns-in_ok-left-in-Some : goal.returns-in_ok-left-in-Some
returns-in_ok-left-in-Some g c =
    let i = c.self.inside in
    let f : Comparison = record { table = i.table.now; watch = i.watch; keeps = i.keeps; links = i.links.items; ports = i.ports.items } in
    let n : Numbered = c.args.head in
    let s = c.args.source in
    let m : Numbered = c.in_ok-left-in-Some.left in
    let link = c.in-Some.link in
    let output = c.in-Some.output in
    let has : has_record f.watch n.frame.stamp ≡ true = search rules in
    let bytes : c.bytes.result.now ≡ n.frame.bytes = c.bytes.ensures.bytes ∙ ap (λ (r : Record). r.bytes) c.frame.ensures in
    let found : c.link_at.result ≡ Some (link, output) = search rules in
    let is : link_at s.port n.frame.bytes f ≡ Some (link, output) = sym (ap (λ (bs : List ℕ). link_at s.port bs f) bytes) ∙ sym c.link_at.ensures ∙ found in
    let sound = subst (λ (x : Comparison). IsSound x) (sym c.self.view_is) c.requires.sound in
    let turn = subst (λ (x : Comparison). IsInTurn s n x) (sym c.self.view_is) c.requires.in_turn in
    let may = may_leave c.ports_are_found.ensures f s n link output sound turn has is in
    let old = c.index_mut-in-Some.result.now in
    let new = c.left.new.self in
    let p = c.index_mut.result.now in
    let place : s.place < length f.ports = subst (λ (k : ℕ). s.place < k) (sym sound.many_ports) (slice_get_within f.table.ports s.place turn.row turn.there) in
    let there = item_there f.ports s.place p place c.index_mut.ensures.value in
    let ports = set f.ports s.place c.note_seen.new.self in
    let seen : ports ≡ set f.ports s.place (with_seen p) = ap (λ (x : Port). set f.ports s.place x) c.note_seen.ensures in
    IfOk-weaker c.left.result (λ u. new ≡ with_record output m old) (λ u. record f { links = set f.links link new; ports = ports } ≡ with_left s n c.args.self.now)
    (λ u made. left_made f s n m link output old new p ports has is there seen (item_there f.links link old may.within c.index_mut-in-Some.ensures.value) c.in_ok-left-in-Some.ensures made
    ∙ ap (λ (x : Comparison). with_left s n x) c.self.view_is) c.left.ensures.ok

pub index_mut-requires-in-None : goal.index_mut-requires-in-None
index_mut-requires-in-None g c =
    let i = c.self.inside in
    let f : Comparison = record { table = i.table.now; watch = i.watch; keeps = i.keeps; links = i.links.items; ports = i.ports.items } in
    let s = c.args.source in
    let sound = subst (λ (x : Comparison). IsSound x) (sym c.self.view_is) c.requires.sound in
    let turn = subst (λ (x : Comparison). IsInTurn s c.args.head x) (sym c.self.view_is) c.requires.in_turn in
    let place : s.place < length f.ports = subst (λ (k : ℕ). s.place < k) (sym sound.many_ports) (slice_get_within f.table.ports s.place turn.row turn.there) in
    subst (λ (k : ℕ). s.place < k) (sym i.ports.ok.0) place

pub returns-in-None : goal.returns-in-None
returns-in-None g c =
    let i = c.self.inside in
    let f : Comparison = record { table = i.table.now; watch = i.watch; keeps = i.keeps; links = i.links.items; ports = i.ports.items } in
    let n : Numbered = c.args.head in
    let s = c.args.source in
    let has : has_record f.watch n.frame.stamp ≡ true = search rules in
    let bytes : c.bytes.result.now ≡ n.frame.bytes = c.bytes.ensures.bytes ∙ ap (λ (r : Record). r.bytes) c.frame.ensures in
    let none : c.link_at.result ≡ None = search rules in
    let is : link_at s.port n.frame.bytes f ≡ None = sym (ap (λ (bs : List ℕ). link_at s.port bs f) bytes) ∙ sym c.link_at.ensures ∙ none in
    let sound = subst (λ (x : Comparison). IsSound x) (sym c.self.view_is) c.requires.sound in
    let turn = subst (λ (x : Comparison). IsInTurn s n x) (sym c.self.view_is) c.requires.in_turn in
    let p = c.index_mut.result.now in
    let place : s.place < length f.ports = subst (λ (k : ℕ). s.place < k) (sym sound.many_ports) (slice_get_within f.table.ports s.place turn.row turn.there) in
    let there = item_there f.ports s.place p place c.index_mut.ensures.value in
    let ports = set f.ports s.place c.note_seen.new.self in
    let seen : ports ≡ set f.ports s.place (with_seen p) = ap (λ (x : Port). set f.ports s.place x) c.note_seen.ensures in
    let q = c.index_mut-in-None.result.now in
    let new = c.note_foreign.new.self in
    let still : s.place < length ports = subst (λ (k : ℕ). s.place < k) (sym (length-set f.ports s.place c.note_seen.new.self)) place in
    let mark = c.mark-mark.result in
    let done : OnOk c.note_foreign.result (record f { ports = set ports s.place new } ≡ with_left s n c.args.self.now) =
    IfOk-weaker c.note_foreign.result (λ u. new ≡ with_foreign f.keeps mark q) (λ u. record f { ports = set ports s.place new } ≡ with_left s n c.args.self.now)
    (λ u made. left_foreign f s n p q new ports mark has is there seen (item_there ports s.place q still c.index_mut-in-None.ensures.value) c.mark-mark.ensures made
    ∙ ap (λ (x : Comparison). with_left s n x) c.self.view_is) c.note_foreign.ensures in
    elim c.match-head-2.branch [
      | in-Owned-2 w ↦ subst (λ (x : Comparison). OnOk c.note_foreign.result (x ≡ with_left s n c.args.self.now)) (sym w.self-is) done
      | in-Shared-2 w ↦ subst (λ (x : Comparison). OnOk c.note_foreign.result (x ≡ with_left s n c.args.self.now)) (sym w.self-is) done
      | in-Lent-2 w ↦ subst (λ (x : Comparison). OnOk c.note_foreign.result (x ≡ with_left s n c.args.self.now)) (sym w.self-is) done
    ]
