-- What the code finds of its lanes is what the merge asks of the streams.
use Rattle.std.proofs.Common.{◌≡◌, ℕ, zero, suc, ◌+◌, ◌<◌, ◌≤◌, Bool, cond, List, [], ◌∷◌, ◌++◌, map, length, Option, Some, None, refl, ap, sym, ◌∙◌, arith, inl, inr, subst, option_map}
use Rattle.std.specs.List.{AllByRecursion}
use Rattle.std.proofs.lemmas.Bool.{cases_lt}
use Rattle.std.proofs.lemmas.List.{map-set}
use Rattle.std.proofs.lemmas.Option.{slice_get-map}
use Rattle.afdx_pcap.specs.Record.{Record}
use Rattle.afdx_core.specs.Merge.{Arrival, Capture}
use Rattle.afdx_core.specs.Inner.Merge.{ByStampIsOrdered}
use Rattle.afdx_session.specs.declared.lane.Lane.{Lane}
use Rattle.afdx_session.specs.Streams.{Stream, captures_of, last_of}
use Rattle.afdx_session.specs.Inner.Settled.{Ascend, ports_of, first_place, limit, IsWithin, HeadFrom, ComesFirst, AllRise, without, IsSettling, IsPast}
use Rattle.afdx_earliest.specs.Instants.{instant_at, IsFirstUpTo}
use Rattle.afdx_session.specs.Inner.Lanes.{waiting_of, limit_at, head_of, heads_of, with_waiting, Goes}
use Rattle.afdx_session.specs.Inner.Kept.{AreLanesOf}
use Rattle.afdx_session.proofs.Giving.{settles_on}

-- ---- the limit

pub limit_is : {Z : Type 0} (lanes : List (Lane Z)) (streams : List Stream) → AreLanesOf lanes streams → limit_at lanes ≡ limit streams
limit_is [] [] are = refl
limit_is [] (s ∷ streams) are = absurd are
limit_is (l ∷ lanes) [] are = absurd are
limit_is (l ∷ lanes) (s ∷ streams) are =
    let place : Bool → ℕ × ℕ → Option (ℕ × ℕ) → Option (ℕ × ℕ) = λ closed q m. cond closed m (Some (first_place q m)) in
    ap (λ b. place b (l.last, l.port) (limit_at lanes)) (sym are.0.ended)
    ∙ ap (λ n. place s.closed (n, l.port) (limit_at lanes)) are.0.read.last
    ∙ ap (λ n. place s.closed (last_of s, n) (limit_at lanes)) (sym are.0.port)
    ∙ ap (place s.closed (last_of s, s.port)) (limit_is lanes streams are.1)

-- what is not within it lies at it or past it
pub is_past : (p : Option (ℕ × ℕ)) (stamp port : ℕ) → (IsWithin p stamp port → ⊥) → IsPast p stamp
is_past None stamp port out = out tt
is_past (Some p) stamp port out = elim (cases_lt stamp p.0) [
  | inl lt ↦ absurd (out (inl lt))
  | inr ge ↦ ge
]

-- ---- the first of what waits

head_from : (n : ℕ) (rs : List Record) → ((u : ℕ) → head_of rs ≡ Some u → n ≤ u) → HeadFrom n rs
head_from n [] all = tt
head_from n (r ∷ rs) all = all r.stamp refl

no_head : {Z : Type 0} (lanes : List (Lane Z)) (j : ℕ) → length lanes ≤ j → instant_at (heads_of lanes) j ≡ None
no_head [] j ge = refl
no_head (l ∷ lanes) zero ge = absurd (omega (arith, ge))
no_head (l ∷ lanes) (suc j) ge = no_head lanes j (omega (arith, ge))

all_heads : {Z : Type 0} (n : ℕ) (lanes : List (Lane Z)) → ((j u : ℕ) → instant_at (heads_of lanes) j ≡ Some u → n ≤ u) → AllByRecursion (λ (w : Capture). HeadFrom n w.records) (map waiting_of lanes)
all_heads n [] all = tt
all_heads n (l ∷ lanes) all = (head_from n l.waiting.items (λ u. all 0 u), all_heads n lanes (λ j u. all (suc j) u))

comes_first : {Z : Type 0} (t k : ℕ) (lanes : List (Lane Z)) → ((j u : ℕ) → instant_at (heads_of lanes) j ≡ Some u → t ≤ u) → ((j u : ℕ) → j < k → instant_at (heads_of lanes) j ≡ Some u → t < u)
    → ComesFirst t k (map waiting_of lanes)
comes_first t k [] sooner former = tt
comes_first t zero (l ∷ lanes) sooner former = (head_from t l.waiting.items (λ u. sooner 0 u), all_heads t lanes (λ j u. sooner (suc j) u))
comes_first t (suc k) (l ∷ lanes) sooner former = (
  head_from (t + 1) l.waiting.items (λ u is. let lt = former 0 u (omega arith) is in omega (arith, lt)),
  comes_first t k lanes (λ j u. sooner (suc j) u) (λ j u lt. former (suc j) u (omega (arith, lt))),
)

pub first_comes : {Z : Type 0} (lanes : List (Lane Z)) (k t : ℕ) → IsFirstUpTo (heads_of lanes) (length lanes) k t → ComesFirst t k (map waiting_of lanes)
first_comes {Z} lanes k t first = comes_first t k lanes all first.former where
  none : (u : ℕ) → None ≡ Some u → ⊥
  none u e = absurd cc

  all : (j u : ℕ) → instant_at (heads_of lanes) j ≡ Some u → t ≤ u
  all j u is = elim (cases_lt j (length lanes)) [
    | inl lt ↦ first.sooner j u lt is
    | inr ge ↦ absurd (none u (sym (no_head lanes j ge) ∙ is))
  ]

-- where none was found, nothing waits
pub none_waits : {Z : Type 0} (lanes : List (Lane Z)) → ((j : ℕ) → j < length lanes → instant_at (heads_of lanes) j ≡ None) → AllByRecursion (λ (w : Capture). w.records ≡ []) (map waiting_of lanes)
none_waits [] none = tt
none_waits (l ∷ lanes) none = (empty l.waiting.items (none 0 (omega arith)), none_waits lanes (λ j lt. none (suc j) (omega (arith, lt)))) where
  empty : (rs : List Record) → head_of rs ≡ None → rs ≡ []
  empty [] is = refl
  empty (r ∷ rs) is = absurd cc

-- ---- it goes

-- the record that the code takes is settled, and is the next of the merge
pub lane_goes : {Z : Type 0} → ByStampIsOrdered → (streams : List Stream) (given : List Arrival) (old new : List (Lane Z)) (port : ℕ) (frame : Record) → Ascend (ports_of (captures_of streams))
    → AllRise (map waiting_of old) → AreLanesOf old streams
    → Goes (limit_at old) old new port frame → IsSettling streams given (map waiting_of old) → IsSettling streams (given ++ record { port = port; frame = frame } ∷ []) (map waiting_of new)
lane_goes ordered streams given old new port frame ascend rise are goes settling =
    let w = waiting_of goes.lane in
    let within : IsWithin (limit streams) frame.stamp w.port =
    subst (λ p. IsWithin p frame.stamp w.port) (limit_is old streams are) (subst (λ n. IsWithin (limit_at old) frame.stamp n) goes.port_is goes.within) in
    let done = settles_on ordered streams given (map waiting_of old) goes.place w frame goes.rest.items ascend rise (slice_get-map waiting_of old goes.place ∙ ap (option_map waiting_of) goes.at)
    goes.head (first_comes old goes.place frame.stamp goes.first) within settling in
    let queues : without (map waiting_of old) goes.place w goes.rest.items ≡ map waiting_of new =
    sym (ap (map waiting_of) goes.lanes ∙ map-set waiting_of old goes.place (with_waiting goes.rest goes.lane)) in
    subst (λ ws. IsSettling streams (given ++ record { port = port; frame = frame } ∷ []) ws) queues
    (subst (λ n. IsSettling streams (given ++ record { port = n; frame = frame } ∷ []) (without (map waiting_of old) goes.place w goes.rest.items)) (sym goes.port_is) done)
