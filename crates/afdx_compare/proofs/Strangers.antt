-- Where in the end no record is foreign, each that counts is of a link that leads to its port.
use Rattle.std.proofs.Common.{◌≡◌, ℕ, zero, suc, ◌+◌, ◌<◌, min, Bool, true, false, List, [], ◌∷◌, ◌++◌, length, Option, Some, None, refl, sym, ap, subst, ◌∙◌, arith}
use Rattle.std.specs.Prelude.{◌==◌, ◌&&◌, if◌then◌else◌, slice_get}
use Rattle.std.specs.List.{AllByRecursion, list_all}
use Rattle.std.proofs.lemmas.Bool.{eqb-true}
use Rattle.std.proofs.lemmas.Option.{slice_get_within}
use Rattle.afdx_pcap.specs.Record.{Record}
use Rattle.afdx_table.specs.Content.{Content}
use Rattle.afdx_pairing.specs.declared.event.Mark.{Mark}
use Rattle.afdx_pairing.specs.Events.{Numbered, mark_of}
use Rattle.afdx_following.specs.declared.watch.Watch.{Watch}
use Rattle.afdx_following.specs.Watch.{has_frame, has_record}
use Rattle.afdx_following.specs.Tally.{up}
use Rattle.afdx_following.specs.Watched.{changed_at}
use Rattle.afdx_merging.specs.Merge.{Arrival}
use Rattle.afdx_compare.specs.declared.sources.Source.{Source}
use Rattle.afdx_compare.specs.Comparison.{Port, Comparison, with_seen, with_foreign, place_of_own, own_came, with_came, link_at, record_left, with_left}
use Rattle.afdx_compare.specs.Arrivals.{with_record_of, with_arrival, with_arrivals}
use Rattle.afdx_compare.specs.Inner.Sound.{IsSound}
use Rattle.afdx_compare.specs.Inner.Due.{IsDueBy, IsDue, AreDue}
use Rattle.afdx_compare.proofs.Calling.{seen_at}
use Rattle.afdx_compare.proofs.Leading.{LeadAlike, alike_after, all_left, left_from}
use Rattle.afdx_compare.proofs.Next.{arrival_same, arrival_sound}
use Rattle.afdx_compare.proofs.Places.{changed_length}

abbrev pub none_foreign : List Port → Bool
none_foreign ports = list_all (λ p. p.foreign == 0) ports

pub both : (a b : Bool) → (a && b) ≡ true → (a ≡ true) × (b ≡ true)
both true b is = (refl, is)
both false b is = absurd (let never = is in cc)

and_true : (a b : Bool) → a ≡ true → b ≡ true → (a && b) ≡ true
and_true true b one other = other
and_true false b one other = one

-- ---- a port at which a record was foreign stays one

never_up : (n : ℕ) → (up n == 0) ≡ true → ⊥
never_up n is = let no : min (n + 1) 18446744073709551615 ≡ 0 = eqb-true (up n) 0 is in omega (arith, no)

changed_back : (change : Port → Port) → ((p : Port) → ((change p).foreign == 0) ≡ true → (p.foreign == 0) ≡ true) → (place : ℕ) (ports : List Port)
    → none_foreign (changed_at place change ports) ≡ true → none_foreign ports ≡ true
changed_back change back place [] none = refl
changed_back change back zero (p ∷ ports) none =
    let b = both ((change p).foreign == 0) (none_foreign ports) none in and_true (p.foreign == 0) (none_foreign ports) (back p b.0) b.1
changed_back change back (suc place) (p ∷ ports) none =
    let b = both (p.foreign == 0) (none_foreign (changed_at place change ports)) none in
    and_true (p.foreign == 0) (none_foreign ports) b.0 (changed_back change back place ports b.1)

never_foreign : (keeps : Bool) (mark : Mark) (place : ℕ) (ports : List Port) → place < length ports → none_foreign (changed_at place (with_foreign keeps mark) ports) ≡ true → ⊥
never_foreign keeps mark place [] lt none = omega (arith, lt)
never_foreign keeps mark zero (p ∷ ports) lt none = never_up p.foreign (both ((with_foreign keeps mark p).foreign == 0) (none_foreign ports) none).0
never_foreign keeps mark (suc place) (p ∷ ports) lt none =
    never_foreign keeps mark place ports (omega (arith, lt)) (both (p.foreign == 0) (none_foreign (changed_at place (with_foreign keeps mark) ports)) none).1

-- ---- so before each arrival none was, where none is after it

record_back : (place : ℕ) (to : Option (ℕ × ℕ)) (n : Numbered) (c : Comparison) → none_foreign (record_left place to n c).ports ≡ true → none_foreign c.ports ≡ true
record_back place None n c none = changed_back (with_foreign c.keeps (mark_of n)) (λ p is. absurd (never_up p.foreign is)) place c.ports none
record_back place (Some (link, output)) n c none = none

left_back : (b : Bool) (s : Source) (to : Option (ℕ × ℕ)) (n : Numbered) (c : Comparison) → none_foreign (if b then record_left s.place to n (seen_at s c) else c).ports ≡ true
    → none_foreign c.ports ≡ true
left_back true s to n c none = changed_back with_seen (λ p is. is) s.place c.ports (record_back s.place to n (seen_at s c) none)
left_back false s to n c none = none

came_back : (b : Bool) (of : Option ℕ) (n : Numbered) (c : Comparison) → none_foreign (if b then own_came of n c else c).ports ≡ true → none_foreign c.ports ≡ true
came_back true None n c none = none
came_back true (Some place) n c none = none
came_back false of n c none = none

side_back : (leaves : Bool) (s : Source) (n : Numbered) (c : Comparison) → none_foreign (if leaves then with_left s n c else with_came s.port n c).ports ≡ true → none_foreign c.ports ≡ true
side_back true s n c none = left_back (has_record c.watch n.frame.stamp) s (link_at s.port n.frame.bytes c) n c none
side_back false s n c none = came_back (has_frame c.watch n.frame.stamp) (place_of_own c.table s.port n.frame) n c none

one_back : (of : Option Source) (a : Arrival) (c : Comparison) → none_foreign (with_record_of of a c).ports ≡ true → none_foreign c.ports ≡ true
one_back None a c none = none
one_back (Some s) a c none = side_back s.leaves s a.head c none

pub all_back : (captures : List Source) (arrivals : List Arrival) (c : Comparison) → none_foreign (with_arrivals captures arrivals c).ports ≡ true → none_foreign c.ports ≡ true
all_back captures [] c none = none
all_back captures (a ∷ arrivals) c none = one_back (slice_get captures a.place) a c (all_back captures arrivals (with_arrival captures a c) none)

-- ---- a record that counts

-- the link that the bytes name leads to the port
pub record IsLed (c : Comparison) (port : ℕ) (r : Record) : Type 0 where
  pub link : ℕ
  pub output : ℕ
  pub is : link_at port r.bytes c ≡ Some (link, output)

led_or : (to : Option (ℕ × ℕ)) → (to ≡ None → ⊥) → (link : ℕ) × (output : ℕ) × (to ≡ Some (link, output))
led_or None never = absurd (never refl)
led_or (Some (link, output)) never = (link, output, refl)

is_led : (s : Source) (n : Numbered) (c : Comparison) → has_record c.watch n.frame.stamp ≡ true → s.place < length c.ports → none_foreign (with_left s n c).ports ≡ true
    → (link : ℕ) × (output : ℕ) × (link_at s.port n.frame.bytes c ≡ Some (link, output))
is_led s n c has lt none =
    let to = link_at s.port n.frame.bytes c in
    let now : none_foreign (record_left s.place to n (seen_at s c)).ports ≡ true =
    subst (λ (b : Bool). none_foreign (if b then record_left s.place to n (seen_at s c) else c).ports ≡ true) has none in
    led_or to (λ is. never_foreign c.keeps (mark_of n) s.place (changed_at s.place with_seen c.ports) (subst (λ (k : ℕ). s.place < k) (sym (changed_length s.place with_seen c.ports)) lt)
    (subst (λ (o : Option (ℕ × ℕ)). none_foreign (record_left s.place o n (seen_at s c)).ports ≡ true) is now))

-- of those that count at a port each is led there, by what the links are at first
counted_led : (b d : Bool) (first : Comparison) (port : ℕ) (s : Source) (n : Numbered) (c : Comparison) (rest : List Record) → has_record c.watch n.frame.stamp ≡ b → (s.port == port) ≡ d
    → LeadAlike first c → s.place < length c.ports → none_foreign (with_left s n c).ports ≡ true → AllByRecursion (IsLed first port) rest
    → AllByRecursion (IsLed first port) ((if b && d then n.frame ∷ [] else []) ++ rest)
counted_led true true first port s n c rest has same alike lt none all =
    let at = is_led s n c has lt none in
    let here : link_at port n.frame.bytes first ≡ Some (at.0, at.1) =
    sym (alike port n.frame.bytes) ∙ ap (λ (p : ℕ). link_at p n.frame.bytes c) (sym (eqb-true s.port port same)) ∙ at.2 in
    (record { link = at.0; output = at.1; is = here }, all)
counted_led true false first port s n c rest has same alike lt none all = all
counted_led false d first port s n c rest has same alike lt none all = all

side_led : (leaves : Bool) (first : Comparison) (port : ℕ) (s : Source) (a : Arrival) (c : Comparison) (rest : List Record) → IsSound c → LeadAlike first c
    → IsDueBy c.watch c.table s leaves a → none_foreign (if leaves then with_left s a.head c else with_came s.port a.head c).ports ≡ true → AllByRecursion (IsLed first port) rest
    → AllByRecursion (IsLed first port) ((if leaves then (if has_record c.watch a.head.frame.stamp && (s.port == port) then a.head.frame ∷ [] else []) else []) ++ rest)
side_led true first port s a c rest sound alike due none all =
    counted_led (has_record c.watch a.head.frame.stamp) (s.port == port) first port s a.head c rest refl refl alike
    (subst (λ (k : ℕ). s.place < k) (sym sound.many_ports) (slice_get_within c.table.ports s.place due.row due.there)) none all
side_led false first port s a c rest sound alike due none all = all

one_led : (of : Option Source) (first : Comparison) (port : ℕ) (a : Arrival) (c : Comparison) (rest : List Record) → IsSound c → LeadAlike first c
    → IsDue c.watch c.table of a → none_foreign (with_record_of of a c).ports ≡ true → AllByRecursion (IsLed first port) rest
    → AllByRecursion (IsLed first port) (left_from c.watch port of a.head.frame ++ rest)
one_led None first port a c rest sound alike due none all = all
one_led (Some s) first port a c rest sound alike due none all = side_led s.leaves first port s a c rest sound alike due none all

pub all_led : (first : Comparison) (port : ℕ) (captures : List Source) (arrivals : List Arrival) (c : Comparison) → IsSound c → LeadAlike first c → AreDue c.watch c.table captures arrivals
    → none_foreign (with_arrivals captures arrivals c).ports ≡ true → AllByRecursion (IsLed first port) (all_left c.watch port captures arrivals)
all_led first port captures [] c sound alike due none = tt
all_led first port captures (a ∷ arrivals) c sound alike due none =
    let of = slice_get captures a.place in
    let d = with_arrival captures a c in
    let same = arrival_same of a c in
    one_led of first port a c (all_left c.watch port captures arrivals) sound alike due.0 (all_back captures arrivals d none)
    (subst (λ (w : Watch). AllByRecursion (IsLed first port) (all_left w port captures arrivals)) same.watch
    (all_led first port captures arrivals d (arrival_sound of a c sound) (alike_after first of a c alike)
    (subst (λ (w : Watch). AreDue w d.table captures arrivals) (sym same.watch) (subst (λ (t : Content). AreDue c.watch t captures arrivals) (sym same.table) due.1)) none))
