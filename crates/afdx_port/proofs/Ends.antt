-- What is sent ends soon after it came, and in order.
use Rattle.std.proofs.Common.{◌≡◌, ℕ, zero, suc, ◌+◌, ◌-◌, ◌<◌, ◌≤◌, List, [], ◌∷◌, length, refl, ap, sym, subst, ◌∙◌, arith, ⊎_elim}
use Rattle.std.specs.Prelude.{max, All, AllPairs}
use Rattle.std.proofs.lemmas.Bool.{cases_lt}
use Rattle.std.proofs.lemmas.List.Elements.{All-nil, All-cons, All-same, All-weaker, All-get_or}
use Rattle.std.proofs.lemmas.List.Kept.{AllPairs-cons}
use Rattle.afdx_units.specs.Line.{cost_of}
use Rattle.afdx_units.specs.Time.{second}
use Rattle.afdx_port.specs.declared.Settings.{Settings}
use Rattle.afdx_port.specs.declared.Item.{Item}
use Rattle.afdx_port.specs.declared.Sent.{Sent}
use Rattle.afdx_port.specs.Service.{Event, came, free_after, fate, next, others, turn, service, sent_of, in_turn}
use Rattle.afdx_port.proofs.Turns.{length-others, service-step, turn-lt}
use Rattle.afdx_port.proofs.Steps.{fate_aged, fate_sent}
use Rattle.afdx_port.proofs.Working.{others_all}
use Rattle.afdx_port.proofs.InLine.{next_is}
use Rattle.afdx_port.proofs.Course.{cost_small}

abbrev EndsSoon : Sent → Type 0
EndsSoon x = x.end < x.item.stamp + second

ends_fate : (s : Settings) (b : ℕ) (x : Item) (more : List Event) → s.max_delay ≤ 500000000 → x.size ≤ 1518 → All EndsSoon (sent_of more) → All EndsSoon (sent_of (fate s b x ∷ more))
ends_fate s b x more delay small h = ⊎_elim
    (λ (long : s.max_delay < b - x.stamp). All-same EndsSoon (sent_of (fate s b x ∷ more)) (sent_of more) (ap (λ e. sent_of (e ∷ more)) (fate_aged s b x long)) h)
    (λ (short : b - x.stamp ≤ s.max_delay).
    let sent : Sent = record { item = x; begin = b; end = b + cost_of s.speed x.size } in
    let soon : EndsSoon sent = omega (arith, short, delay, cost_small s.speed x.size small) in
    All-same EndsSoon (sent_of (fate s b x ∷ more)) (sent ∷ sent_of more) (ap (λ e. sent_of (e ∷ more)) (fate_sent s b x short)) (All-cons EndsSoon sent (sent_of more) soon h))
    (cases_lt s.max_delay (b - x.stamp))

ends_by : (n : ℕ) (s : Settings) (free : ℕ) (items : List Item) → length items ≡ n → s.max_delay ≤ 500000000 → All (λ (item : Item). item.size ≤ 1518) items
    → All EndsSoon (sent_of (service s free items))
ends_by n s free [] is delay small = All-nil EndsSoon
ends_by zero s free (first ∷ rest) is delay small = absurd (omega (arith, is))
ends_by (suc n) s free (first ∷ rest) is delay small =
    let b = max free (came s first) in
    let x = in_turn s free first rest in
    let e = next s free first rest in
    let more = service s (free_after e) (others s free first rest) in
    let here : x.size ≤ 1518 = All-get_or (λ (item : Item). item.size ≤ 1518) (first ∷ rest) (turn s b (first ∷ rest)) first (turn-lt s b first rest) small in
    let ih = ends_by n s (free_after e) (others s free first rest) (omega (arith, is, length-others s free first rest)) delay (others_all s (λ (item : Item). item.size ≤ 1518) free first rest small)
    in
    All-same EndsSoon (sent_of (service s free (first ∷ rest))) (sent_of (fate s b x ∷ more)) (ap sent_of (service-step s free first rest ∙ ap (λ e. e ∷ more) (next_is s free first rest)))
    (ends_fate s b x more delay here ih)

pub ends_within_a_second : (s : Settings) (free : ℕ) (items : List Item) → s.max_delay ≤ 500000000 → All (λ (item : Item). item.size ≤ 1518) items → All EndsSoon (sent_of (service s free items))
ends_within_a_second s free items delay small = ends_by (length items) s free items refl delay small

-- ---- ends do not fall

abbrev InLater : List Sent → Type 0
InLater sent = AllPairs (λ a b. a.end ≤ b.end) sent

abbrev EndsFrom : ℕ → Sent → Type 0
EndsFrom free x = free ≤ x.end

-- one event more before, of which the line is free again at such an instant
later_fate : (s : Settings) (b free : ℕ) (x : Item) (more : List Event) → free ≤ b → InLater (sent_of more) × All (EndsFrom (free_after (fate s b x))) (sent_of more)
    → InLater (sent_of (fate s b x ∷ more)) × All (EndsFrom free) (sent_of (fate s b x ∷ more))
later_fate s b free x more start h = ⊎_elim
    (λ (long : s.max_delay < b - x.stamp).
    let e = fate_aged s b x long in
    let from : All (EndsFrom b) (sent_of more) = subst (λ (e : Event). All (EndsFrom (free_after e)) (sent_of more)) e h.1 in
    subst (λ (e : Event). InLater (sent_of (e ∷ more)) × All (EndsFrom free) (sent_of (e ∷ more))) (sym e)
    (h.0, All-weaker (EndsFrom b) (EndsFrom free) (λ y le. omega (arith, le, start)) (sent_of more) from))
    (λ (short : b - x.stamp ≤ s.max_delay).
    let e = fate_sent s b x short in
    let sent : Sent = record { item = x; begin = b; end = b + cost_of s.speed x.size } in
    let from : All (EndsFrom sent.end) (sent_of more) = subst (λ (e : Event). All (EndsFrom (free_after e)) (sent_of more)) e h.1 in
    let here : EndsFrom free sent = omega (arith, start) in
    subst (λ (e : Event). InLater (sent_of (e ∷ more)) × All (EndsFrom free) (sent_of (e ∷ more))) (sym e) (
      AllPairs-cons (λ (a : Sent) (b : Sent). a.end ≤ b.end) sent (sent_of more) from h.0,
      All-cons (EndsFrom free) sent (sent_of more) here (All-weaker (EndsFrom sent.end) (EndsFrom free) (λ y le. omega (arith, le, here)) (sent_of more) from),
    ))
    (cases_lt s.max_delay (b - x.stamp))

no_pairs : InLater []
no_pairs i j d lt within = absurd (omega (arith, within))

later_by : (n : ℕ) (s : Settings) (free : ℕ) (items : List Item) → length items ≡ n → InLater (sent_of (service s free items)) × All (EndsFrom free) (sent_of (service s free items))
later_by n s free [] is = (no_pairs, All-nil (EndsFrom free))
later_by zero s free (first ∷ rest) is = absurd (omega (arith, is))
later_by (suc n) s free (first ∷ rest) is =
    let b = max free (came s first) in
    let x = in_turn s free first rest in
    let e = next s free first rest in
    let more = service s (free_after e) (others s free first rest) in
    let step : service s free (first ∷ rest) ≡ fate s b x ∷ more = service-step s free first rest ∙ ap (λ e. e ∷ more) (next_is s free first rest) in
    let ih : InLater (sent_of more) × All (EndsFrom (free_after e)) (sent_of more) = later_by n s (free_after e) (others s free first rest) (omega (arith, is, length-others s free first rest)) in
    let behind : InLater (sent_of more) × All (EndsFrom (free_after (fate s b x))) (sent_of more)
    = subst (λ (e : Event). InLater (sent_of more) × All (EndsFrom (free_after e)) (sent_of more)) (next_is s free first rest) ih in
    subst (λ (es : List Event). InLater (sent_of es) × All (EndsFrom free) (sent_of es)) (sym step) (later_fate s b free x more (omega arith) behind)

pub ends_in_order : (s : Settings) (free : ℕ) (items : List Item) → AllPairs (λ a b. a.end ≤ b.end) (sent_of (service s free items))
ends_in_order s free items = (later_by (length items) s free items refl).0

pub ends_from_free : (s : Settings) (free : ℕ) (items : List Item) → All (λ x. free ≤ x.end) (sent_of (service s free items))
ends_from_free s free items = (later_by (length items) s free items refl).1
