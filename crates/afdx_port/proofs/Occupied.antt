-- What a buffer holds at an instant before which nothing is due.
use Rattle.std.proofs.Common.{◌≡◌, ℕ, ◌+◌, ◌≤◌, false, List, ap, sym, ◌∙◌, arith}
use Rattle.std.specs.Prelude.{sum_by}
use Rattle.std.proofs.lemmas.List.Sums.{sum_by-append}
use Rattle.afdx_port.specs.declared.Settings.{Settings}
use Rattle.afdx_port.specs.declared.Item.{Item}
use Rattle.afdx_port.specs.declared.flow.Flow.TheInside.{Inside}
use Rattle.afdx_port.specs.Service.{Event, reach, item_of, service, before, sent_of}
use Rattle.afdx_port.specs.Admission.{occupied}
use Rattle.afdx_port.specs.Content.{Content}
use Rattle.afdx_port.specs.Lagging.{has_due}
use Rattle.afdx_port.specs.Inner.Progress.{LineState, left, on_line}
use Rattle.afdx_port.specs.Inner.Sound.{queue_of}
use Rattle.afdx_port.specs.Inner.Kept.{IsKeptPort, content_of}
use Rattle.afdx_port.proofs.Room.{occupied_is, sum_by-service}
use Rattle.afdx_port.proofs.Parts.{split}
use Rattle.afdx_port.proofs.Picked.{done_open}
use Rattle.afdx_port.proofs.Lagging.{nothing_due}
use Rattle.afdx_port.proofs.LineUp.{sum_line_up}
use Rattle.afdx_port.proofs.AtLine.{line_is}

abbrev bytes_of : Event → ℕ
bytes_of event = (item_of event).size

abbrev bytes_in : List Item → ℕ
bytes_in items = sum_by (λ (item : Item). item.size) items

-- the bytes of all events are those of the events before t and of what then waits
in_parts : (s : Settings) (t : ℕ) (items : List Item) → sum_by bytes_of (service s 0 items) ≡ sum_by bytes_of (before t (service s 0 items)) + bytes_in (left s t 0 items).waiting
in_parts s t items =
    let done = before t (service s 0 items) in
    let q = left s t 0 items in
    ap (sum_by bytes_of) (split s t 0 items) ∙ sum_by-append bytes_of done (service s q.free q.waiting)
    ∙ ap (λ n. sum_by bytes_of done + n) (sum_by-service (λ item. item.size) s q.free q.waiting)

-- where no event lies between two instants, as many bytes wait at both
same_wait : (s : Settings) (t u : ℕ) (items : List Item) → before u (service s 0 items) ≡ before t (service s 0 items) → bytes_in (left s u 0 items).waiting ≡ bytes_in (left s t 0 items).waiting
same_wait s t u items same =
    let at_t = in_parts s t items in
    let at_u = in_parts s u items in
    let parts : sum_by bytes_of (before u (service s 0 items)) ≡ sum_by bytes_of (before t (service s 0 items)) = ap (sum_by bytes_of) same in
    omega (arith, at_t, at_u, parts)

-- what is on the line of a port and what waits there, at an instant before which nothing is due
pub occupied_kept : {Z : Type 0} (p : Inside Z) (c : Content) (at : ℕ) → IsKeptPort p → content_of p ≡ c → c.finished ≡ false → c.horizon ≤ at → has_due at c ≡ false
    → on_line (reach p.line.settings at) p.line.sent.items + bytes_in (queue_of p.line) ≡ occupied c.settings (reach c.settings at) c.admitted
occupied_kept p c at kept view is_open le none =
    let open' : p.finished ≡ false = ap (λ (v : Content). v.finished) view ∙ is_open in
    let z = p.line.settings in
    let items = p.admitted.items in
    let t = reach z p.horizon in
    let u = reach z at in
    let all = service z 0 items in
    let lags : p.horizon ≤ at = omega (arith, ap (λ (v : Content). v.horizon) view, le) in
    let none' = ap (has_due at) view ∙ none in
    let same : before u all ≡ before t all =
    sym (done_open z items at p.finished open') ∙ nothing_due (content_of p) at open' lags none' ∙ done_open z items p.horizon p.finished open' in
    let sent = kept.sent ∙ ap sent_of (done_open z items p.horizon p.finished open' ∙ sym same) in
    let waiting : bytes_in (queue_of p.line) ≡ bytes_in (left z t 0 items).waiting =
    ap (λ (r : LineState). bytes_in r.waiting) (kept.state open' ∙ line_is z t items) ∙ sum_line_up (λ (item : Item). item.size) (left z t 0 items).waiting in
    ap (λ xs. on_line u xs + bytes_in (queue_of p.line)) sent ∙ ap (λ n. on_line u (sent_of (before u all)) + n) (waiting ∙ sym (same_wait z t u items same))
    ∙ sym (occupied_is z u items) ∙ ap (λ (v : Content). occupied v.settings (reach v.settings at) v.admitted) view
