use Rattle.std.proofs.Common.{◌≡◌, ◌≤◌, ◌+◌, List, Some, refl, sym, ◌∙◌, ap, get_or, length, slice_get, arith, subst, false}
use Rattle.std.specs.Prelude.{All, slice_set}
use Rattle.std.proofs.lemmas.Option.{same_Some, slice_get-get_or, slice_get_within, get_or_from_slice_get}
use Rattle.afdx_pcap.specs.Bytes.{plain_bytes}
use Rattle.afdx_pcap.specs.Record.{Record}
use Rattle.afdx_paced.specs.Paced.{next_sent_of}
use Rattle.afdx_wiring.specs.File.{Layout}
use Rattle.afdx_wiring.specs.declared.layout.Wire.{Wire}
use Rattle.afdx_network.specs.declared.fault.NetworkRunFault.TheVariants as fault
use Rattle.afdx_network.specs.Given.{IsWireFault}
use Rattle.afdx_network.specs.Inner.Sites.{Site, AreEarly, IsPortAt, GoesOver, IsHandedOut, CanCome, CameOver, IsLateFault, gone_at}
use Rattle.afdx_network.proofs.Answering.{of_error, match_error}
use Rattle.afdx_network.proofs.Carries.{OnItsWay, Going, way_begins, none_same, none_carries, wire_within, never_both, way_goes_on, way_fails, way_never_fails, way_passes, way_ends}
use Rattle.afdx_network.proofs.Noting.{noted_once, noted_same, noted_over}
use Rattle.afdx_network.proofs.windows.carry.Goals as goal
use Rattle.afdx_network.proofs.windows.carry.Goals.{then-goes_over+in_ok-bring, else-goes_over}

pub bounds-sites-from : goal.bounds-sites-from
bounds-sites-from c = slice_get_within c.args.sites.now c.args.from.switch c.requires.place.site c.requires.place.at

pub hand_out-requires-clause-going : goal.hand_out-requires-clause-going
hand_out-requires-clause-going c =
    c.requires.going c.args.from.switch c.index-sites-from-2.result (slice_get_within c.args.sites.now c.args.from.switch c.requires.place.site c.requires.place.at)

pub hand_out-requires-clause-place : goal.hand_out-requires-clause-place
hand_out-requires-clause-place c =
    let p = c.requires.place in
    (p.text, ap (λ (s : Site). slice_get s.left c.args.place) (get_or_from_slice_get c.args.sites.now c.args.from.switch p.site c.index-sites-from-2.result p.at) ∙ p.text_is)

pub returns-in_err-frame-clause-err : goal.returns-in_err-frame-clause-err
returns-in_err-frame-clause-err c = λ given begin end le w. of_error (IsWireFault c.args.network.now) c.from_residual.result fault.Memory c.from_residual.ensures tt

pub returns-in_err-frame-clause-early : goal.returns-in_err-frame-clause-early
returns-in_err-frame-clause-early c = λ given begin end le w none accepted early.
    match_error (λ _. AreEarly none.order.place (slice_set c.args.sites.now c.args.from.switch c.hand_out.new.self)) (λ why. why ≡ fault.Memory) c.from_residual.result fault.Memory
    c.from_residual.ensures refl

-- ---- none is handed out

pub returns-in_default-clause-going : goal.returns-in_default-clause-going
returns-in_default-clause-going c =
    let old = c.args.sites.now in
    let switch = c.args.from.switch in
    let d = c.index-sites-from-2.result in
    let at = slice_get-get_or old switch d (slice_get_within old switch c.requires.place.site c.requires.place.at) in
    let h = subst (IsHandedOut (get_or old switch d) c.hand_out.new.self c.args.place c.args.from.port) c.in_default.is c.in_ok-frame.ensures in
    let same = none_same old switch c.args.place c.args.from.port (get_or old switch d) c.hand_out.new.self at h in
    (subst Going (sym same) c.requires.going, subst (λ (xs : List Site). IsPortAt xs c.args.from c.args.place) (sym same) c.requires.place)

pub returns-in_default-clause-reached : goal.returns-in_default-clause-reached
returns-in_default-clause-reached c =
    let old = c.args.sites.now in
    let switch = c.args.from.switch in
    let d = c.index-sites-from-2.result in
    let at = slice_get-get_or old switch d (slice_get_within old switch c.requires.place.site c.requires.place.at) in
    let h = subst (IsHandedOut (get_or old switch d) c.hand_out.new.self c.args.place c.args.from.port) c.in_default.is c.in_ok-frame.ensures in
    let same = none_same old switch c.args.place c.args.from.port (get_or old switch d) c.hand_out.new.self at h in
    λ n all. subst (All (λ (s : Site). s.paced.reached ≤ n)) (sym same) all

pub returns-in_default-clause-gone : goal.returns-in_default-clause-gone
returns-in_default-clause-gone c =
    let old = c.args.sites.now in
    let switch = c.args.from.switch in
    let d = c.index-sites-from-2.result in
    let at = slice_get-get_or old switch d (slice_get_within old switch c.requires.place.site c.requires.place.at) in
    let h = subst (IsHandedOut (get_or old switch d) c.hand_out.new.self c.args.place c.args.from.port) c.in_default.is c.in_ok-frame.ensures in
    ap gone_at (none_same old switch c.args.place c.args.from.port (get_or old switch d) c.hand_out.new.self at h)

pub returns-in_default-clause-ok : goal.returns-in_default-clause-ok
returns-in_default-clause-ok c =
    let old = c.args.sites.now in
    let switch = c.args.from.switch in
    let d = c.index-sites-from-2.result in
    let at = slice_get-get_or old switch d (slice_get_within old switch c.requires.place.site c.requires.place.at) in
    let h = subst (IsHandedOut (get_or old switch d) c.hand_out.new.self c.args.place c.args.from.port) c.in_default.is c.in_ok-frame.ensures in
    λ given begin end le w. none_carries c.args.network.now given begin end old c.args.from c.args.place (get_or old switch d) c.hand_out.new.self w at h

pub returns-in_default-clause-early : goal.returns-in_default-clause-early
returns-in_default-clause-early c =
    let old = c.args.sites.now in
    let switch = c.args.from.switch in
    let d = c.index-sites-from-2.result in
    let at = slice_get-get_or old switch d (slice_get_within old switch c.requires.place.site c.requires.place.at) in
    let h = subst (IsHandedOut (get_or old switch d) c.hand_out.new.self c.args.place c.args.from.port) c.in_default.is c.in_ok-frame.ensures in
    let same = none_same old switch c.args.place c.args.from.port (get_or old switch d) c.hand_out.new.self at h in
    λ given begin end le w none accepted early. subst (AreEarly none.order.place) (sym same) early

-- ---- a record is

pub loop-index-init : goal.loop-index-init
loop-index-init c =
    let old = c.args.sites.now in
    let switch = c.args.from.switch in
    let d = c.index-sites-from-2.result in
    let at = slice_get-get_or old switch d (slice_get_within old switch c.requires.place.site c.requires.place.at) in
    let frame : Record = record { stamp = c.frame.inside.stamp; original = c.frame.inside.original; bytes = plain_bytes c.frame.inside.bytes } in
    let h = subst (IsHandedOut (get_or old switch d) c.hand_out.new.self c.args.place c.args.from.port) (c.in-Some.is ∙ ap (λ (r : Record). Some r) (sym c.frame.view_is)) c.in_ok-frame.ensures in
    let asked = c.index-sites-from.result in
    let same : get_or old switch asked ≡ get_or old switch d
    = same_Some _ _ (sym (slice_get-get_or old switch asked (slice_get_within old switch c.requires.place.site c.requires.place.at)) ∙ at) in
    record {
      way = way_begins c.nothing_leaves_before.ensures c.out_goes_on.ensures c.one_more_record_is_appended.ensures
          c.what_is_written_is_a_capture.ensures c.runs_leave_in_time.ensures.records c.args.network.now
          c.args.from c.args.place old (get_or old switch d) c.hand_out.new.self frame c.requires.going c.requires.all c.requires.place at h;
      noted = λ keeps known. noted_once c.args.network.now keeps c.args.origins.now c.note_sent.new.origins old c.args.from (get_or old switch d) c.hand_out.new.self frame c.next_sent-sent.result at
          h.out_is (subst (λ (s : Site). c.next_sent-sent.result ≡ next_sent_of s.paced c.args.from.port) same c.next_sent-sent.ensures) c.note_sent.ensures known;
    }

pub bring-requires-clause-within : goal.bring-requires-clause-within
bring-requires-clause-within c =
    let wires = c.as_slice-wires.result.now in
    let k = c.loop-index.index in
    let u : Wire = get_or wires k (record { from = record { switch = 0; port = 0 }; to = record { switch = 0; port = 0 }; delay = 0; down = false }) in
    let is = c.as_slice-wires.ensures.value ∙ ap (λ (l : Layout). l.wires) (c.behind-network.view_is ∙ c.layout.ensures.layout) in
    let at = subst (λ (ws : List Wire). slice_get ws k ≡ Some u) is
    (slice_get-get_or wires k (record { from = record { switch = 0; port = 0 }; to = record { switch = 0; port = 0 }; delay = 0; down = false }) c.loop-index-test.true) in
    let lt = wire_within c.args.network.now k u c.layout.ensures.ports at in
    let all = c.loop-index.invariant.way.all in
    omega (arith, lt, all)

pub loop-index-preserved : goal.loop-index-preserved
loop-index-preserved c =
    let net = c.args.network.now in
    let from = c.args.from in
    let wires = c.as_slice-wires.result.now in
    let k = c.loop-index.index in
    let old = c.args.sites.now in
    let sites = c.loop-index.sites in
    let none : Wire = record { from = record { switch = 0; port = 0 }; to = record { switch = 0; port = 0 }; delay = 0; down = false } in
    let u : Wire = get_or wires k none in
    let is = c.as_slice-wires.ensures.value ∙ ap (λ (l : Layout). l.wires) (c.behind-network.view_is ∙ c.layout.ensures.layout) in
    let here = slice_get-get_or wires k none c.loop-index-test.true in
    let at = subst (λ (ws : List Wire). slice_get ws k ≡ Some u) is here in
    let frame : Record = record { stamp = c.frame.inside.stamp; original = c.frame.inside.original; bytes = plain_bytes c.frame.inside.bytes } in
    elim c.if-goes_over.branch [
      | then-goes_over+in_ok-bring w ↦
          let goes = subst (λ (ws : List Wire). GoesOver ws k from u) is ((c.goes_over.ensures u here).0 w.if-goes_over.true) in
          let now = w.in_ok-bring.ensures in
          let came = subst (CameOver sites w.bring.new.sites u) (sym c.frame.view_is) now.ok in
          record {
            way = subst (OnItsWay net from c.args.place frame old (k + 1)) (sym w.sites-is)
                (way_goes_on c.later_records_change_nothing.ensures c.out_goes_on.ensures c.out_is_in_order.ensures
                c.what_is_written_is_a_capture.ensures c.runs_leave_in_time.ensures.records net from c.args.place
                frame old k sites c.loop-index.invariant.way u at goes w.bring.new.sites now.going (ap (λ (xs : List Site). length xs) (sym w.sites-is) ∙ c.if-goes_over.auto.sites) came);
            noted = λ keeps known. noted_same net keeps c.note_sent.new.origins w.bring.new.sites _ w.sites-is
                (noted_over c.later_records_send_nothing.ensures net keeps c.note_sent.new.origins sites w.bring.new.sites u frame came (c.loop-index.invariant.noted keeps known));
          }
      | else-goes_over w ↦
          record {
            way = subst (OnItsWay net from c.args.place frame old (k + 1)) (sym w.sites-is)
                (way_passes net from c.args.place frame old k sites c.loop-index.invariant.way u at
                (λ goes. never_both ((c.goes_over.ensures u here).1 (subst (λ (ws : List Wire). GoesOver ws k from u) (sym is) goes)) w.if-goes_over.false));
            noted = λ keeps known. noted_same net keeps c.note_sent.new.origins sites _ w.sites-is (c.loop-index.invariant.noted keeps known);
          }
    ]

pub returns-in_err-bring-clause-err : goal.returns-in_err-bring-clause-err
returns-in_err-bring-clause-err c =
    let net = c.args.network.now in
    let from = c.args.from in
    let wires = c.as_slice-wires.result.now in
    let k = c.loop-index.index in
    let none : Wire = record { from = record { switch = 0; port = 0 }; to = record { switch = 0; port = 0 }; delay = 0; down = false } in
    let u : Wire = get_or wires k none in
    let is = c.as_slice-wires.ensures.value ∙ ap (λ (l : Layout). l.wires) (c.behind-network.view_is ∙ c.layout.ensures.layout) in
    let here = slice_get-get_or wires k none c.loop-index-test.true in
    let at = subst (λ (ws : List Wire). slice_get ws k ≡ Some u) is here in
    let goes = subst (λ (ws : List Wire). GoesOver ws k from u) is ((c.goes_over.ensures u here).0 c.if-goes_over.true) in
    let frame : Record = record { stamp = c.frame.inside.stamp; original = c.frame.inside.original; bytes = plain_bytes c.frame.inside.bytes } in
    let why = c.in_err-bring.field-0.0 in
    let late = subst (λ (r : Record). CanCome c.loop-index.sites u r → IsLateFault u r why) (sym c.frame.view_is) c.in_err-bring.ensures.err in
    λ given begin end le w.
    of_error (IsWireFault net) c.from_residual-in_err-bring.result why c.from_residual-in_err-bring.ensures
    (way_fails c.later_records_change_nothing.ensures c.out_goes_on.ensures c.out_is_in_order.ensures
    c.what_is_written_is_a_capture.ensures c.runs_leave_in_time.ensures.records net from c.args.place
    frame c.args.sites.now k c.loop-index.sites c.loop-index.invariant.way u at goes why late given begin end le w)

pub returns-in_err-bring-clause-early : goal.returns-in_err-bring-clause-early
returns-in_err-bring-clause-early c =
    let net = c.args.network.now in
    let from = c.args.from in
    let wires = c.as_slice-wires.result.now in
    let k = c.loop-index.index in
    let none : Wire = record { from = record { switch = 0; port = 0 }; to = record { switch = 0; port = 0 }; delay = 0; down = false } in
    let u : Wire = get_or wires k none in
    let is = c.as_slice-wires.ensures.value ∙ ap (λ (l : Layout). l.wires) (c.behind-network.view_is ∙ c.layout.ensures.layout) in
    let here = slice_get-get_or wires k none c.loop-index-test.true in
    let at = subst (λ (ws : List Wire). slice_get ws k ≡ Some u) is here in
    let goes = subst (λ (ws : List Wire). GoesOver ws k from u) is ((c.goes_over.ensures u here).0 c.if-goes_over.true) in
    let frame : Record = record { stamp = c.frame.inside.stamp; original = c.frame.inside.original; bytes = plain_bytes c.frame.inside.bytes } in
    let why = c.in_err-bring.field-0.0 in
    let late = subst (λ (r : Record). CanCome c.loop-index.sites u r → IsLateFault u r why) (sym c.frame.view_is) c.in_err-bring.ensures.err in
    λ given begin end le w never accepted early.
    match_error (λ _. AreEarly never.order.place c.bring.new.sites) (λ e. e ≡ fault.Memory) c.from_residual-in_err-bring.result why c.from_residual-in_err-bring.ensures
    (way_never_fails c.later_records_change_nothing.ensures c.out_goes_on.ensures c.out_is_in_order.ensures c.what_is_written_is_a_capture.ensures c.runs_leave_in_time.ensures.records net from
    c.args.place frame c.args.sites.now k c.loop-index.sites c.loop-index.invariant.way u at goes why late given begin end le w never accepted early)

pub returns-clause-going : goal.returns-clause-going
returns-clause-going c = (c.loop-index.invariant.way.going, c.loop-index.invariant.way.port)

pub returns-clause-reached : goal.returns-clause-reached
returns-clause-reached c = λ n all. c.loop-index.invariant.way.reached n all

pub returns-clause-gone : goal.returns-clause-gone
returns-clause-gone c = c.loop-index.invariant.way.gone

pub returns-clause-fewer : goal.returns-clause-fewer
returns-clause-fewer c = λ yes. c.loop-index.invariant.way.fewer

pub returns-clause-ok : goal.returns-clause-ok
returns-clause-ok c =
    let wires = c.as_slice-wires.result.now in
    let is = c.as_slice-wires.ensures.value ∙ ap (λ (l : Layout). l.wires) (c.behind-network.view_is ∙ c.layout.ensures.layout) in
    let long = ap (λ (ws : List Wire). length ws) is in
    let past = c.loop-index-test.false in
    let most = c.loop-index.auto.index-end in
    let frame : Record = record { stamp = c.frame.inside.stamp; original = c.frame.inside.original; bytes = plain_bytes c.frame.inside.bytes } in
    λ given begin end le w.
    way_ends c.args.network.now c.args.from c.args.place frame c.args.sites.now c.loop-index.index c.loop-index.sites c.loop-index.invariant.way (omega (arith, long, past, most)) given begin end le w

pub returns-clause-early : goal.returns-clause-early
returns-clause-early c = λ given begin end le w never accepted early. c.loop-index.invariant.way.early given begin end le w never accepted early

pub returns-clause-noted : goal.returns-clause-noted
returns-clause-noted c = λ keeps known. c.loop-index.invariant.noted keeps known

pub returns-in_default-clause-noted : goal.returns-in_default-clause-noted
returns-in_default-clause-noted c =
    let old = c.args.sites.now in
    let switch = c.args.from.switch in
    let d = c.index-sites-from-2.result in
    let at = slice_get-get_or old switch d (slice_get_within old switch c.requires.place.site c.requires.place.at) in
    let h = subst (IsHandedOut (get_or old switch d) c.hand_out.new.self c.args.place c.args.from.port) c.in_default.is c.in_ok-frame.ensures in
    λ keeps known. noted_same c.args.network.now keeps c.args.origins.now old (slice_set old switch c.hand_out.new.self)
    (none_same old switch c.args.place c.args.from.port (get_or old switch d) c.hand_out.new.self at h) known
