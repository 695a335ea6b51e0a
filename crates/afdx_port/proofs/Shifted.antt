-- A latency moves all that a port does.
use Rattle.std.proofs.Common.{◌≡◌, ℕ, zero, suc, ◌+◌, ◌-◌, ◌≤◌, Bool, true, false, cond, List, [], ◌∷◌, ◌++◌, length, map, get_or, Some, refl, ap, ap₂, sym, ◌∙◌, arith}
use Rattle.std.specs.Prelude.{max, nat_le, nat_lt, not, ◌&&◌, filter, position, unwrap_or, remove}
use Rattle.std.specs.Option.{option_map}
use Rattle.std.proofs.lemmas.Bool.Decides.{nat_tests}
use Rattle.std.proofs.lemmas.List.Sums.{sum_by-cons}
use Rattle.afdx_units.specs.Line.{cost_of, is_high}
use Rattle.afdx_port.specs.declared.Settings.{Settings}
use Rattle.afdx_port.specs.declared.Item.{Item}
use Rattle.afdx_port.specs.Service.{Event, sending, aging, reach, came, item_of, free_after, is_urgent, turn, fate, next, others, serve, service}
use Rattle.afdx_port.specs.Admission.{fits, admit, admit_all}
use Rattle.afdx_port.specs.Inner.Shift.{at_once, later_by}
use Rattle.afdx_port.proofs.Turns.{position-cons}
use Rattle.afdx_port.proofs.Room.{stays, bytes}

position_same : {X : Type 0} (p q : X → Bool) (xs : List X) → ((x : X) → p x ≡ q x) → position p xs ≡ position q xs
position_same p q [] same = refl
position_same p q (x ∷ xs) same = position-cons p x xs ∙ ap₂ (λ b o. cond b (Some 0) (option_map suc o)) (same x) (position_same p q xs same) ∙ sym (position-cons q x xs)

le_later : (a b v : ℕ) → nat_le (a + v) (b + v) ≡ nat_le (a + 0) b
le_later a b v = grind (arith, nat_tests)

lt_later : (m b a v : ℕ) → v ≤ m → nat_lt m (b + v - a) ≡ nat_lt (m - v) (b - a)
lt_later m b a v le = grind (arith, nat_tests)

max_later : (f a v : ℕ) → max (f + v) (a + v) ≡ max f (a + 0) + v
max_later f a v = omega arith

free_later : (v : ℕ) (e : Event) → free_after (later_by v e) ≡ free_after e + v
free_later v (sending x) = refl
free_later v (aging x) = refl

item_later : (v : ℕ) (e : Event) → item_of (later_by v e) ≡ item_of e
item_later v (sending x) = refl
item_later v (aging x) = refl

module _ (s : Settings) (within : s.latency ≤ s.max_delay) where
  urgent_later : (b : ℕ) (x : Item) → is_urgent s (b + s.latency) x ≡ is_urgent (at_once s) b x
  unfolding reach
  urgent_later b x = ap (λ v. is_high x.priority && v) (le_later x.stamp b s.latency)

  turn_later : (b : ℕ) (items : List Item) → turn s (b + s.latency) items ≡ turn (at_once s) b items
  turn_later b items = ap (λ o. unwrap_or o 0) (position_same (is_urgent s (b + s.latency)) (is_urgent (at_once s) b) items (urgent_later b))

  start_later : (free : ℕ) (first : Item) → max (free + s.latency) (came s first) ≡ max free (came (at_once s) first) + s.latency
  unfolding reach
  start_later free first = max_later free first.stamp s.latency

  fate_later : (b : ℕ) (x : Item) → fate s (b + s.latency) x ≡ later_by s.latency (fate (at_once s) b x)
  fate_later b x =
      ap (λ v. cond v (aging (record { item = x; at = b + s.latency })) (sending (record { item = x; begin = b + s.latency; end = b + s.latency + cost_of s.speed x.size })))
      (lt_later s.max_delay b x.stamp s.latency within)
      ∙ by_age (nat_lt (s.max_delay - s.latency) (b - x.stamp)) where
        swapped : (a c v : ℕ) → a + v + c ≡ a + c + v
        swapped a c v = omega arith

        by_age : (v : Bool) → cond v (aging (record { item = x; at = b + s.latency })) (sending (record { item = x; begin = b + s.latency; end = b + s.latency + cost_of s.speed x.size }))
            ≡ later_by s.latency (cond v (aging (record { item = x; at = b })) (sending (record { item = x; begin = b; end = b + cost_of s.speed x.size })))
        by_age true = refl
        by_age false = ap (λ (e : ℕ). sending (record { item = x; begin = b + s.latency; end = e })) (swapped b (cost_of s.speed x.size) s.latency)

  next_later : (free : ℕ) (first : Item) (rest : List Item) → next s (free + s.latency) first rest ≡ later_by s.latency (next (at_once s) free first rest)
  unfolding next
  next_later free first rest =
      let b = max free (came (at_once s) first) in
      ap (λ t. fate s t (get_or (first ∷ rest) (turn s t (first ∷ rest)) first)) (start_later free first)
      ∙ ap (λ k. fate s (b + s.latency) (get_or (first ∷ rest) k first)) (turn_later b (first ∷ rest))
      ∙ fate_later b (get_or (first ∷ rest) (turn (at_once s) b (first ∷ rest)) first)

  others_later : (free : ℕ) (first : Item) (rest : List Item) → others s (free + s.latency) first rest ≡ others (at_once s) free first rest
  unfolding others
  others_later free first rest =
      ap (λ t. remove (first ∷ rest) (turn s t (first ∷ rest))) (start_later free first)
      ∙ ap (remove (first ∷ rest)) (turn_later (max free (came (at_once s) first)) (first ∷ rest))

  serve_later : (n free : ℕ) (items : List Item) → serve n s (free + s.latency) items ≡ map (later_by s.latency) (serve n (at_once s) free items)
  serve_later zero free items = refl
  serve_later (suc n) free [] = refl
  serve_later (suc n) free (first ∷ rest) =
      let e = next (at_once s) free first rest in
      let more = others (at_once s) free first rest in
      ap₂ (λ f ws. f ∷ serve n s (free_after f) ws) (next_later free first rest) (others_later free first rest)
      ∙ ap (λ t. later_by s.latency e ∷ serve n s t more) (free_later s.latency e)
      ∙ ap (λ es. later_by s.latency e ∷ es) (serve_later n (free_after e) more)

  -- nothing is queued before the latency has passed
  start_first : (first : Item) → max 0 (came s first) ≡ max (0 + s.latency) (came s first)
  unfolding reach
  start_first first = omega arith

  next_first : (first : Item) (rest : List Item) → next s 0 first rest ≡ next s (0 + s.latency) first rest
  unfolding next
  next_first first rest = ap (λ t. fate s t (get_or (first ∷ rest) (turn s t (first ∷ rest)) first)) (start_first first)

  others_first : (first : Item) (rest : List Item) → others s 0 first rest ≡ others s (0 + s.latency) first rest
  unfolding others
  others_first first rest = ap (λ t. remove (first ∷ rest) (turn s t (first ∷ rest))) (start_first first)

  free_first : (items : List Item) → service s 0 items ≡ service s (0 + s.latency) items
  free_first [] = refl
  free_first (first ∷ rest) = ap₂ (λ f ws. f ∷ serve (length rest) s (free_after f) ws) (next_first first rest) (others_first first rest)

  pub events_later : (items : List Item) → service s 0 items ≡ map (later_by s.latency) (service (at_once s) 0 items)
  events_later items = free_first items ∙ serve_later (length items) 0 items

  stays_later : (t : ℕ) (e : Event) → stays (t + s.latency) (later_by s.latency e) ≡ stays (t + 0) e
  stays_later t (sending x) = ap not (end_later x.end t s.latency) where
    end_later : (a b v : ℕ) → nat_le (a + v) (b + v) ≡ nat_le a (b + 0)
    end_later a b v = grind (arith, nat_tests)
  stays_later t (aging x) = ap not (at_later x.at t s.latency) where
    at_later : (a b v : ℕ) → nat_lt (a + v) (b + v) ≡ nat_lt a (b + 0)
    at_later a b v = grind (arith, nat_tests)

  bytes_later : (t : ℕ) (es : List Event) → bytes (filter (stays (t + s.latency)) (map (later_by s.latency) es)) ≡ bytes (filter (stays (t + 0)) es)
  bytes_later t [] = refl
  bytes_later t (e ∷ es) =
      let long = filter (stays (t + s.latency)) (map (later_by s.latency) es) in
      ap (λ v. bytes (cond v (later_by s.latency e ∷ long) long)) (stays_later t e) ∙ step (stays (t + 0) e) long (filter (stays (t + 0)) es) (bytes_later t es) where
        step : (v : Bool) (long short : List Event) → bytes long ≡ bytes short → bytes (cond v (later_by s.latency e ∷ long) long) ≡ bytes (cond v (e ∷ short) short)
        step true long short same =
            let one = sum_by-cons (λ event. (item_of event).size) (later_by s.latency e) long in
            let two = sum_by-cons (λ event. (item_of event).size) e short in
            let item = ap (λ (x : Item). x.size) (item_later s.latency e) in
            omega (arith, one, two, same, item)
        step false long short same = same

  fits_later : (a : List Item) (x : Item) → fits s a x ≡ fits (at_once s) a x
  unfolding reach
  fits_later a x =
      let t = x.stamp + s.latency in
      let occupied_same = ap (λ es. bytes (filter (stays t) es)) (events_later a) ∙ bytes_later x.stamp (service (at_once s) 0 a) in
      ap (λ n. nat_le (x.size + n) s.buffer) occupied_same

  pub admitted_later : (a feed : List Item) → admit_all s a feed ≡ admit_all (at_once s) a feed
  admitted_later a [] = refl
  admitted_later a (x ∷ feed) = ap (λ v. admit_all s (cond v (a ++ x ∷ []) a) feed) (fits_later a x) ∙ admitted_later (admit (at_once s) a x) feed
