use Rattle.std.proofs.Common.{◌+◌, ◌≤◌, rules, length, get_or, ap, arith}
use Rattle.std.proofs.lemmas.Option.{slice_get-get_or}
use Rattle.afdx_network.proofs.Settling.{none_gone, room_for, one_gone}
use Rattle.afdx_network.proofs.windows.hand_over.Goals as goal

pub loop-site-init : goal.loop-site-init
loop-site-init g c = none_gone g.F.NewFile.contents c.args.sites.now c.args.files.now c.requires

pub loop-site-preserved : goal.loop-site-preserved
loop-site-preserved g c =
    let l = c.loop-site in
    let k = l.site-index in
    let d = c.site-item.result in
    let s = get_or l.sites k d in
    let lt = c.loop-site-test.true in
    let many = l.auto.sites in
    one_gone g.F.NewFile.contents c.args.sites.now l.sites c.args.files.now l.files c.hand_over.new.files k l.first (l.first + c.ports.result) s c.hand_over.new.self l.invariant
    (slice_get-get_or l.sites k d (omega (arith, lt, many))) c.in_ok-hand_over.ensures.same (ap (λ n. l.first + n) c.ports.ensures.gone) c.hand_over.auto.files
    (λ start have. c.in_ok-hand_over.ensures.gone start have)

pub returns-clause-same : goal.returns-clause-same
returns-clause-same g c = c.loop-site.invariant.zip

pub returns-clause-gone : goal.returns-clause-gone
returns-clause-gone g c = c.loop-site.invariant.gone

pub overflow_add-next : goal.overflow_add-next
overflow_add-next g c =
    let l = c.loop-site in
    let k = l.site-index in
    let d = c.site-item.result in
    let s = get_or l.sites k d in
    let lt = c.loop-site-test.true in
    let many = l.auto.sites in
    let room = room_for g.F.NewFile.contents c.args.sites.now l.sites c.args.files.now l.files k l.first s l.invariant (slice_get-get_or l.sites k d (omega (arith, lt, many))) in
    let ports = c.ports.ensures.gone in
    let fits : l.first + c.ports.result ≤ length l.files = omega (arith, room, ports) in
    search (rules, fits)

pub offset_bounds-files-first : goal.offset_bounds-files-first
offset_bounds-files-first g c =
    let l = c.loop-site in
    let k = l.site-index in
    let d = c.site-item.result in
    let s = get_or l.sites k d in
    let lt = c.loop-site-test.true in
    let many = l.auto.sites in
    let room = room_for g.F.NewFile.contents c.args.sites.now l.sites c.args.files.now l.files k l.first s l.invariant (slice_get-get_or l.sites k d (omega (arith, lt, many))) in
    let le : l.first ≤ length l.files = omega (arith, room) in
    search (rules, le)

pub slice_bounds-hand_over-end : goal.slice_bounds-hand_over-end
slice_bounds-hand_over-end g c =
    let l = c.loop-site in
    let k = l.site-index in
    let d = c.site-item.result in
    let s = get_or l.sites k d in
    let lt = c.loop-site-test.true in
    let many = l.auto.sites in
    let room = room_for g.F.NewFile.contents c.args.sites.now l.sites c.args.files.now l.files k l.first s l.invariant (slice_get-get_or l.sites k d (omega (arith, lt, many))) in
    let ports = c.ports.ensures.gone in
    let fits : l.first + c.ports.result ≤ length l.files = omega (arith, room, ports) in
    search (rules, fits)
