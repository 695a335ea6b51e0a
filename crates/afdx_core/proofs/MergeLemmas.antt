-- The program's merge is a merge, by stamp and port number.
use Rattle.std.proofs.Common.{◌≡◌, ℕ, ◌<◌, ◌≤◌, ◌==◌, nat_le, Bool, true, false, cond, List, [], ◌∷◌, ◌++◌, map, filter, refl, ap, sym, ◌∙◌, arith, inl, inr}
use Rattle.std.specs.List.{AllByRecursion, Contains}
use Rattle.std.proofs.lemmas.List.{map-append}
use Rattle.std.proofs.lemmas.List.Elements.{filter-append, All-from_recursion, recursion_from_All, All-contains_itself}
use Rattle.std.proofs.lemmas.Bool.{cases_Bool, cases_lt, leb-true, leb-false}
use Rattle.afdx_pcap.specs.Record.{Record}
use Rattle.afdx_core.specs.Merge.{Arrival, Capture, Rises, records_of, arrivals_of, placed, by_stamp, merged}
use Rattle.afdx_core.specs.Inner.Merge.{part_at, IsOrdered, IsMerge, Precedes, AreByStampAndPort, PortsRise}

-- what holds of an arrival and of others holds of them with it in its place
placed_all : (P : Arrival → Type 0) (a : Arrival) (arrivals : List Arrival) → P a → AllByRecursion P arrivals → AllByRecursion P (placed a arrivals)
placed_all P a [] here all = (here, tt)
placed_all P a (b ∷ arrivals) here all =
    elim (cases_Bool (nat_le a.frame.stamp b.frame.stamp)) [
      | inl before ↦ rw before (here, all)
      | inr after ↦ rw after (all.0, placed_all P a arrivals here all.1)
    ]

by_stamp_all : (P : Arrival → Type 0) (arrivals : List Arrival) → AllByRecursion P arrivals → AllByRecursion P (by_stamp arrivals)
by_stamp_all P [] all = tt
by_stamp_all P (a ∷ arrivals) all = placed_all P a (by_stamp arrivals) all.0 (by_stamp_all P arrivals all.1)

-- ---- stamps

abbrev pub Rising : List Arrival → Type 0
Rising [] = Unit {0}
Rising (a ∷ arrivals) = AllByRecursion (λ (b : Arrival). a.frame.stamp ≤ b.frame.stamp) arrivals × Rising arrivals

placed_rising : (a : Arrival) (arrivals : List Arrival) → Rising arrivals → Rising (placed a arrivals)
placed_rising a [] rising = (tt, tt)
placed_rising a (b ∷ arrivals) rising =
    elim (cases_Bool (nat_le a.frame.stamp b.frame.stamp)) [
      | inl before ↦ let le = leb-true a.frame.stamp b.frame.stamp before in
          rw before (
            (
              le,
              recursion_from_All (λ (c : Arrival). a.frame.stamp ≤ c.frame.stamp) arrivals
                  (λ k d lt. let more = All-from_recursion (λ (c : Arrival). b.frame.stamp ≤ c.frame.stamp) arrivals rising.0 k d lt in omega (arith, le, more)),
            ),
            rising,
          )
      | inr after ↦ let lt = leb-false a.frame.stamp b.frame.stamp after in
          rw after (placed_all (λ (c : Arrival). b.frame.stamp ≤ c.frame.stamp) a arrivals (omega (arith, lt)) rising.0, placed_rising a arrivals rising.1)
    ]

by_stamp_rising : (arrivals : List Arrival) → Rising (by_stamp arrivals)
by_stamp_rising [] = tt
by_stamp_rising (a ∷ arrivals) = placed_rising a (by_stamp arrivals) (by_stamp_rising arrivals)

all_frames : (n : ℕ) (arrivals : List Arrival) → AllByRecursion (λ (b : Arrival). n ≤ b.frame.stamp) arrivals → AllByRecursion (λ (r : Record). n ≤ r.stamp) (map (λ (a : Arrival). a.frame) arrivals)
all_frames n [] all = tt
all_frames n (a ∷ arrivals) all = (all.0, all_frames n arrivals all.1)

frames_rise : (arrivals : List Arrival) → Rising arrivals → Rises (map (λ (a : Arrival). a.frame) arrivals)
frames_rise [] rising = tt
frames_rise (a ∷ arrivals) rising = (all_frames a.frame.stamp arrivals rising.0, frames_rise arrivals rising.1)

-- ---- the part of a port

part-cons : (port : ℕ) (b : Bool) (a : Arrival) (arrivals : List Arrival) → (a.port == port) ≡ b → part_at port (a ∷ arrivals) ≡ cond b (a.frame ∷ part_at port arrivals) (part_at port arrivals)
part-cons port true a arrivals is = rw is refl
part-cons port false a arrivals is = rw is refl

placed_other : (port : ℕ) (a : Arrival) (arrivals : List Arrival) → (a.port == port) ≡ false → part_at port (placed a arrivals) ≡ part_at port arrivals
placed_other port a [] other = rw other refl
placed_other port a (b ∷ arrivals) other =
    elim (cases_Bool (nat_le a.frame.stamp b.frame.stamp)) [
      | inl before ↦ rw before (part-cons port false a (b ∷ arrivals) other)
      | inr after ↦ rw after (by_head (b.port == port) refl (placed_other port a arrivals other))
    ] where
      by_head : (t : Bool) → (b.port == port) ≡ t → part_at port (placed a arrivals) ≡ part_at port arrivals → part_at port (b ∷ placed a arrivals) ≡ part_at port (b ∷ arrivals)
      by_head true is same = part-cons port true b (placed a arrivals) is ∙ ap (λ rs. b.frame ∷ rs) same ∙ sym (part-cons port true b arrivals is)
      by_head false is same = part-cons port false b (placed a arrivals) is ∙ same ∙ sym (part-cons port false b arrivals is)

placed_own : (port : ℕ) (a : Arrival) (arrivals : List Arrival) → (a.port == port) ≡ true → AllByRecursion (λ (r : Record). a.frame.stamp ≤ r.stamp) (part_at port arrivals)
    → part_at port (placed a arrivals) ≡ a.frame ∷ part_at port arrivals
placed_own port a [] own least = rw own refl
placed_own port a (b ∷ arrivals) own least =
    elim (cases_Bool (nat_le a.frame.stamp b.frame.stamp)) [
      | inl before ↦ rw before (part-cons port true a (b ∷ arrivals) own)
      | inr after ↦ rw after (by_head (b.port == port) refl (leb-false a.frame.stamp b.frame.stamp after) least (placed_own port a arrivals own))
    ] where
      by_head : (t : Bool) → (b.port == port) ≡ t → b.frame.stamp < a.frame.stamp → AllByRecursion (λ (r : Record). a.frame.stamp ≤ r.stamp) (part_at port (b ∷ arrivals))
          → (AllByRecursion (λ (r : Record). a.frame.stamp ≤ r.stamp) (part_at port arrivals) → part_at port (placed a arrivals) ≡ a.frame ∷ part_at port arrivals)
          → part_at port (b ∷ placed a arrivals) ≡ a.frame ∷ part_at port (b ∷ arrivals)
      by_head true is lt all more = let both = rw (part-cons port true b arrivals is) at all in absurd (omega (arith, lt, both.0))
      by_head false is lt all more =
          let rest = rw (part-cons port false b arrivals is) at all in
          part-cons port false b (placed a arrivals) is ∙ more rest ∙ ap (λ rs. a.frame ∷ rs) (sym (part-cons port false b arrivals is))

by_stamp_part : (port : ℕ) (arrivals : List Arrival) → Rises (part_at port arrivals) → part_at port (by_stamp arrivals) ≡ part_at port arrivals
by_stamp_part port [] rises = refl
by_stamp_part port (a ∷ arrivals) rises = by_head (a.port == port) refl (by_stamp_part port arrivals) where
  by_head : (t : Bool) → (a.port == port) ≡ t → (Rises (part_at port arrivals) → part_at port (by_stamp arrivals) ≡ part_at port arrivals) → part_at port (placed a (by_stamp arrivals))
      ≡ part_at port (a ∷ arrivals)
  by_head true is more =
      let both = rw (part-cons port true a arrivals is) at rises in
      let same = more both.1 in
      placed_own port a (by_stamp arrivals) is (rw same both.0) ∙ ap (λ rs. a.frame ∷ rs) same ∙ sym (part-cons port true a arrivals is)
  by_head false is more =
      let rest = rw (part-cons port false a arrivals is) at rises in
      placed_other port a (by_stamp arrivals) is ∙ more rest ∙ sym (part-cons port false a arrivals is)

-- ---- all records

part_of_capture : (port number : ℕ) (b : Bool) (records : List Record) → (number == port) ≡ b → part_at port (map {B = Arrival} (λ (r : Record). record { port = number; frame = r }) records)
    ≡ cond b records []
part_of_capture port number true [] is = refl
part_of_capture port number false [] is = refl
part_of_capture port number true (r ∷ records) is = rw is (ap (λ rs. r ∷ rs) (part_of_capture port number true records is))
part_of_capture port number false (r ∷ records) is = rw is (part_of_capture port number false records is)

part_of_all : (port : ℕ) (captures : List Capture) → part_at port (arrivals_of captures) ≡ records_of captures port
part_of_all port [] = refl
part_of_all port (c ∷ captures) =
    ap (map (λ (a : Arrival). a.frame)) (filter-append (λ (a : Arrival). a.port == port) own (arrivals_of captures))
    ∙ map-append (λ (a : Arrival). a.frame) (filter (λ (a : Arrival). a.port == port) own) (filter (λ (a : Arrival). a.port == port) (arrivals_of captures))
    ∙ ap (λ rs. rs ++ part_at port (arrivals_of captures)) (part_of_capture port c.port (c.port == port) c.records refl)
    ∙ ap (λ rs. cond (c.port == port) c.records [] ++ rs) (part_of_all port captures) where
      own : List Arrival
      own = map (λ (r : Record). record { port = c.port; frame = r }) c.records

pub by_stamp_is_ordered : (arrivals : List Arrival) → IsOrdered arrivals (by_stamp arrivals)
by_stamp_is_ordered arrivals = record {
  among = All-from_recursion (Contains arrivals) (by_stamp arrivals) (by_stamp_all (Contains arrivals) arrivals (recursion_from_All (Contains arrivals) arrivals (All-contains_itself arrivals)));
  in_order = frames_rise (by_stamp arrivals) (by_stamp_rising arrivals);
}

pub merged_is_a_merge : (captures : List Capture) → ((port : ℕ) → Rises (records_of captures port)) → IsMerge captures (merged captures)
merged_is_a_merge captures rises = record {
  in_order = (by_stamp_is_ordered (arrivals_of captures)).in_order;
  parts = λ port. by_stamp_part port (arrivals_of captures) (rw (part_of_all port captures) (rises port)) ∙ part_of_all port captures;
}

-- ---- by stamp and port number

placed_ordered : (a : Arrival) (arrivals : List Arrival) → AllByRecursion (λ (b : Arrival). a.port ≤ b.port) arrivals → AreByStampAndPort arrivals → Rising arrivals
    → AreByStampAndPort (placed a arrivals)
placed_ordered a [] ports ordered rising = (tt, tt)
placed_ordered a (b ∷ arrivals) ports ordered rising =
    elim (cases_Bool (nat_le a.frame.stamp b.frame.stamp)) [
      | inl before ↦ rw before (least (b ∷ arrivals) ports (leb-true a.frame.stamp b.frame.stamp before, rest (leb-true a.frame.stamp b.frame.stamp before)), ordered)
      | inr after ↦ rw after (placed_all (λ (c : Arrival). Precedes b c) a arrivals (inl (leb-false a.frame.stamp b.frame.stamp after)) ordered.0, placed_ordered a arrivals ports.1 ordered.1 rising.1)
    ] where
      rest : a.frame.stamp ≤ b.frame.stamp → AllByRecursion (λ (c : Arrival). a.frame.stamp ≤ c.frame.stamp) arrivals
      rest le = recursion_from_All (λ (c : Arrival). a.frame.stamp ≤ c.frame.stamp) arrivals
          (λ k d lt. let more = All-from_recursion (λ (c : Arrival). b.frame.stamp ≤ c.frame.stamp) arrivals rising.0 k d lt in omega (arith, le, more))

      one : (c : Arrival) → a.port ≤ c.port → a.frame.stamp ≤ c.frame.stamp → Precedes a c
      one c port le = elim (cases_lt a.frame.stamp c.frame.stamp) [
        | inl lt ↦ inl lt
        | inr ge ↦ inr (omega (arith, le, ge), port)
      ]

      least : (cs : List Arrival) → AllByRecursion (λ (c : Arrival). a.port ≤ c.port) cs → AllByRecursion (λ (c : Arrival). a.frame.stamp ≤ c.frame.stamp) cs
          → AllByRecursion (λ (c : Arrival). Precedes a c) cs
      least [] ps ss = tt
      least (c ∷ cs) ps ss = (one c ps.0 ss.0, least cs ps.1 ss.1)

by_stamp_ordered : (arrivals : List Arrival) → PortsRise arrivals → AreByStampAndPort (by_stamp arrivals)
by_stamp_ordered [] ports = tt
by_stamp_ordered (a ∷ arrivals) ports =
    placed_ordered a (by_stamp arrivals) (by_stamp_all (λ (b : Arrival). a.port ≤ b.port) arrivals ports.0) (by_stamp_ordered arrivals ports.1) (by_stamp_rising arrivals)

pub merged_is_by_stamp_and_port : (captures : List Capture) → PortsRise (arrivals_of captures) → AreByStampAndPort (merged captures)
merged_is_by_stamp_and_port captures ports = by_stamp_ordered (arrivals_of captures) ports
