-- Which link a record at a port is of, and what each link is told left there.
use Rattle.std.proofs.Common.{◌≡◌, ℕ, zero, suc, ◌+◌, nat_lt, Bool, true, false, cond, List, [], ◌∷◌, ◌++◌, filter, length, Option, Some, None, refl, sym, ap, ◌∙◌}
use Rattle.std.specs.Prelude.{◌==◌, ◌&&◌, not, if◌then◌else◌, slice_get}
use Rattle.std.specs.List.{position, position_or_len, prefix_len}
use Rattle.std.proofs.lemmas.Bool.{eqb-true, eqb-false}
use Rattle.std.proofs.lemmas.List.{length-map}
use Rattle.std.proofs.lemmas.List.Elements.{filter-append}
use Rattle.afdx_pcap.specs.Record.{Record}
use Rattle.afdx_pairing.specs.Events.{Numbered}
use Rattle.afdx_following.specs.declared.watch.Watch.{Watch}
use Rattle.afdx_following.specs.Watch.{has_frame, has_record}
use Rattle.afdx_following.specs.Output.{Output}
use Rattle.afdx_following.specs.Watched.{Watched, changed_at, with_own, with_record}
use Rattle.afdx_following.specs.Followed.{Notice, Arrived, Departed, left_in}
use Rattle.afdx_merging.specs.Merge.{Arrival}
use Rattle.afdx_compare.specs.declared.sources.Source.{Source}
use Rattle.afdx_compare.specs.Comparison.{Comparison, place_of_own, own_came, with_came, led_to, output_among, link_among, place_of_named, link_at, record_left, with_left}
use Rattle.afdx_compare.specs.Arrivals.{with_record_of, with_arrival}
use Rattle.afdx_compare.specs.Inner.Told.{told_own, told_record, told_came, told_left, told_of, told}
use Rattle.afdx_compare.proofs.Calling.{seen_at}
use Rattle.afdx_compare.proofs.Keeping.{Setting, setting, settings, IsLike, own_like, record_like}
use Rattle.afdx_compare.proofs.Next.{arrival_same}

-- ---- links lead to the same ports whatever they are told

prefix_set : (test : Setting → Bool) (os : List Output) → prefix_len test (settings os) ≡ prefix_len (λ o. test (setting o)) os
prefix_set test [] = refl
prefix_set test (o ∷ os) = ap (λ (n : ℕ). cond (test (setting o)) (1 + n) 0) (prefix_set test os)

position_set : (port : ℕ) (os : List Output) → position (λ (s : Setting). s.port == port) (settings os) ≡ position (λ (o : Output). o.port == port) os
position_set port os =
    let at = position_or_len (λ (o : Output). o.port == port) os in
    ap (λ (n : ℕ). cond (nat_lt n (length (settings os))) (Some n) None) (prefix_set (λ s. not (s.port == port)) os)
    ∙ ap (λ (n : ℕ). cond (nat_lt at n) (Some at) None) (length-map os setting)

pub like_position : (port : ℕ) (f g : Watched) → IsLike f g → position (λ (o : Output). o.port == port) f.outputs ≡ position (λ (o : Output). o.port == port) g.outputs
like_position port f g like =
    sym (position_set port f.outputs) ∙ ap (λ (ss : List Setting). position (λ (s : Setting). s.port == port) ss) like.settings ∙ position_set port g.outputs

among_changed : (port link : ℕ) (change : Watched → Watched) → ((f : Watched) → IsLike (change f) f) → (place : ℕ) (fs : List Watched) (k : ℕ)
    → output_among port link (slice_get (changed_at place change fs) k) ≡ output_among port link (slice_get fs k)
among_changed port link change like place [] k = refl
among_changed port link change like zero (f ∷ fs) zero = ap (λ (at : Option ℕ). led_to link at) (like_position port (change f) f (like f))
among_changed port link change like zero (f ∷ fs) (suc k) = refl
among_changed port link change like (suc place) (f ∷ fs) zero = refl
among_changed port link change like (suc place) (f ∷ fs) (suc k) = among_changed port link change like place fs k

links_lead : (port : ℕ) (change : Watched → Watched) → ((f : Watched) → IsLike (change f) f) → (place : ℕ) (fs : List Watched) (at : Option ℕ)
    → link_among port (changed_at place change fs) at ≡ link_among port fs at
links_lead port change like place fs None = refl
links_lead port change like place fs (Some k) = among_changed port k change like place fs k

-- links lead alike in two comparisons
abbrev pub LeadAlike : Comparison → Comparison → Type 0
LeadAlike first c = (port : ℕ) (bytes : List ℕ) → link_at port bytes c ≡ link_at port bytes first

came_leads : (b : Bool) (of : Option ℕ) (n : Numbered) (c : Comparison) → LeadAlike c (if b then own_came of n c else c)
came_leads true None n c port bytes = refl
came_leads true (Some place) n c port bytes = links_lead port (with_own n) (own_like n) place c.links (place_of_named c.table bytes)
came_leads false of n c port bytes = refl

left_leads : (b : Bool) (s : Source) (to : Option (ℕ × ℕ)) (n : Numbered) (c : Comparison) → LeadAlike c (if b then record_left s.place to n (seen_at s c) else c)
left_leads true s None n c port bytes = refl
left_leads true s (Some (link, output)) n c port bytes = links_lead port (with_record output n) (record_like output n) link c.links (place_of_named c.table bytes)
left_leads false s to n c port bytes = refl

side_leads : (leaves : Bool) (s : Source) (n : Numbered) (c : Comparison) → LeadAlike c (if leaves then with_left s n c else with_came s.port n c)
side_leads true s n c = left_leads (has_record c.watch n.frame.stamp) s (link_at s.port n.frame.bytes c) n c
side_leads false s n c = came_leads (has_frame c.watch n.frame.stamp) (place_of_own c.table s.port n.frame) n c

arrival_leads : (of : Option Source) (a : Arrival) (c : Comparison) → LeadAlike c (with_record_of of a c)
arrival_leads None a c = λ port bytes. refl
arrival_leads (Some s) a c = side_leads s.leaves s a.head c

pub alike_after : (first : Comparison) (of : Option Source) (a : Arrival) (c : Comparison) → LeadAlike first c → LeadAlike first (with_record_of of a c)
alike_after first of a c alike = λ port bytes. arrival_leads of a c port bytes ∙ alike port bytes

-- ---- of all that arrived, what left at the port of a number and counts

abbrev pub left_from : Watch → ℕ → Option Source → Record → List Record
left_from w port None r = []
left_from w port (Some s) r = if s.leaves then (if has_record w r.stamp && (s.port == port) then r ∷ [] else []) else []

abbrev pub all_left : Watch → ℕ → List Source → List Arrival → List Record
all_left w port captures [] = []
all_left w port captures (a ∷ arrivals) = left_from w port (slice_get captures a.place) a.head.frame ++ all_left w port captures arrivals

-- ---- of these a link is told what is its own

left_more : (k : ℕ) (xs ys : List Notice) → left_in k (xs ++ ys) ≡ left_in k xs ++ left_in k ys
left_more k [] ys = refl
left_more k (Arrived n ∷ xs) ys = left_more k xs ys
left_more k (Departed at n ∷ xs) ys =
    elim (at == k)
    as (λ b. (if b then n.frame ∷ left_in k (xs ++ ys) else left_in k (xs ++ ys)) ≡ (if b then n.frame ∷ left_in k xs else left_in k xs) ++ left_in k ys) [
      | true ↦ ap (λ (rs : List Record). n.frame ∷ rs) (left_more k xs ys)
      | false ↦ left_more k xs ys
    ]

-- a record is of the link at a place, at its port at a place
abbrev pub is_at : ℕ → ℕ → Option (ℕ × ℕ) → Bool
is_at place k None = false
is_at place k (Some (link, output)) = (link == place) && (output == k)

if_here : (b : Bool) (output k : ℕ) (n : Numbered) → left_in k (if b then Departed output n ∷ [] else []) ≡ (if b && (output == k) then n.frame ∷ [] else [])
if_here true output k n = refl
if_here false output k n = refl

record_here : (place k : ℕ) (to : Option (ℕ × ℕ)) (n : Numbered) → left_in k (told_record place to n) ≡ (if is_at place k to then n.frame ∷ [] else [])
record_here place k None n = refl
record_here place k (Some (link, output)) n = if_here (link == place) output k n

none_if : (b : Bool) (k : ℕ) (n : Numbered) → left_in k (if b then Arrived n ∷ [] else []) ≡ []
none_if true k n = refl
none_if false k n = refl

none_own : (place k : ℕ) (of : Option ℕ) (n : Numbered) → left_in k (told_own place of n) ≡ []
none_own place k None n = refl
none_own place k (Some link) n = none_if (link == place) k n

none_came : (b : Bool) (place k : ℕ) (of : Option ℕ) (n : Numbered) → left_in k (if b then told_own place of n else []) ≡ []
none_came true place k of n = none_own place k of n
none_came false place k of n = refl

not_at : (b d : Bool) (place k link output : ℕ) → (link == place) ≡ b → (output == k) ≡ d → (link ≡ place → output ≡ k → ⊥) → (b && d) ≡ false
not_at true true place k link output one other never = absurd (never (eqb-true link place one) (eqb-true output k other))
not_at true false place k link output one other never = refl
not_at false d place k link output one other never = refl

never_at : (place k : ℕ) (to : Option (ℕ × ℕ)) → (to ≡ Some (place, k) → ⊥) → is_at place k to ≡ false
never_at place k None never = refl
never_at place k (Some (link, output)) never =
    let first : ℕ → Option (ℕ × ℕ) = λ x. Some (x, output) in
    let second : ℕ → Option (ℕ × ℕ) = λ x. Some (place, x) in
    not_at (link == place) (output == k) place k link output refl refl (λ one other. never (ap first one ∙ ap second other))

-- the link's port at a place has this number
abbrev pub IsPortAt : Comparison → ℕ → ℕ → ℕ → Type 0
IsPortAt first place k port = (q : ℕ) (bytes : List ℕ) → link_at q bytes first ≡ Some (place, k) → q ≡ port

counted_here : (b d : Bool) (first : Comparison) (place k port : ℕ) (s : Source) (n : Numbered) (c : Comparison) → LeadAlike first c → IsPortAt first place k port → (s.port == port) ≡ d
    → left_in k (if b then told_record place (link_at s.port n.frame.bytes c) n else [])
    ≡ filter (λ r. is_at place k (link_at port r.bytes first)) (if b && d then n.frame ∷ [] else [])
counted_here true true first place k port s n c alike is_port same =
    record_here place k (link_at s.port n.frame.bytes c) n
    ∙ ap (λ (to : Option (ℕ × ℕ)). if is_at place k to then n.frame ∷ [] else [])
    (ap (λ (q : ℕ). link_at q n.frame.bytes c) (eqb-true s.port port same) ∙ alike port n.frame.bytes)
counted_here true false first place k port s n c alike is_port other =
    record_here place k (link_at s.port n.frame.bytes c) n
    ∙ ap (λ (b : Bool). if b then n.frame ∷ [] else []) (never_at place k (link_at s.port n.frame.bytes c)
    (λ is. eqb-false s.port port other (is_port s.port n.frame.bytes (sym (alike s.port n.frame.bytes) ∙ is))))
counted_here false d first place k port s n c alike is_port same = refl

side_here : (leaves : Bool) (first : Comparison) (place k port : ℕ) (s : Source) (n : Numbered) (c : Comparison) → LeadAlike first c → IsPortAt first place k port
    → left_in k (if leaves then told_left place s.port n c else told_came place s.port n c)
    ≡ filter (λ r. is_at place k (link_at port r.bytes first)) (if leaves then (if has_record c.watch n.frame.stamp && (s.port == port) then n.frame ∷ [] else []) else [])
side_here true first place k port s n c alike is_port = counted_here (has_record c.watch n.frame.stamp) (s.port == port) first place k port s n c alike is_port refl
side_here false first place k port s n c alike is_port = none_came (has_frame c.watch n.frame.stamp) place k (place_of_own c.table s.port n.frame) n

source_here : (of : Option Source) (first : Comparison) (place k port : ℕ) (n : Numbered) (c : Comparison) → LeadAlike first c → IsPortAt first place k port
    → left_in k (told_of place of n c) ≡ filter (λ r. is_at place k (link_at port r.bytes first)) (left_from c.watch port of n.frame)
source_here None first place k port n c alike is_port = refl
source_here (Some s) first place k port n c alike is_port = side_here s.leaves first place k port s n c alike is_port

pub left_here : (first : Comparison) (place k port : ℕ) (captures : List Source) (arrivals : List Arrival) (c : Comparison) → LeadAlike first c → IsPortAt first place k port
    → left_in k (told place captures arrivals c) ≡ filter (λ r. is_at place k (link_at port r.bytes first)) (all_left c.watch port captures arrivals)
left_here first place k port captures [] c alike is_port = refl
left_here first place k port captures (a ∷ arrivals) c alike is_port =
    let of = slice_get captures a.place in
    let d = with_arrival captures a c in
    let own : Record → Bool = λ r. is_at place k (link_at port r.bytes first) in
    let now = left_from c.watch port of a.head.frame in
    left_more k (told_of place of a.head c) (told place captures arrivals d)
    ∙ ap (λ (rs : List Record). rs ++ left_in k (told place captures arrivals d)) (source_here of first place k port a.head c alike is_port)
    ∙ ap (λ (rs : List Record). filter own now ++ rs) (left_here first place k port captures arrivals d (alike_after first of a c alike) is_port)
    ∙ ap (λ (w : Watch). filter own now ++ filter own (all_left w port captures arrivals)) (arrival_same of a c).watch
    ∙ sym (filter-append own now (all_left c.watch port captures arrivals))
