-- Which fates are told of a link's frames: by all that left at its ports, whatever was told when.
use Rattle.std.proofs.Common.{◌≡◌, ℕ, zero, suc, ◌+◌, ◌<◌, ◌≤◌, nat_le, ◌==◌, not, Bool, true, false, ◌&&◌, ◌||◌, cond}
use Rattle.std.proofs.Common.{List, [], ◌∷◌, ◌++◌, map, take, drop, length, Option, Some, None, refl, sym, ap, subst, ◌∙◌, arith, inl, inr}
use Rattle.std.specs.Prelude.{slice_get, if◌then◌else◌}
use Rattle.std.specs.List.{AllByRecursion, list_all, list_any}
use Rattle.std.specs.Option.{option_map_or}
use Rattle.std.specs.Str.{bytes_eq}
use Rattle.std.proofs.lemmas.Bool.{cases_Bool, and_parts, and_right, or_from, ltb-true, lt-leb, eqb-true, eq-eqb, ne_eqb, false_from_ne_true}
use Rattle.std.proofs.lemmas.List.{append-nil, append_assoc, map-append, length-map}
use Rattle.std.proofs.lemmas.Option.{same_Some}
use Rattle.afdx_pcap.specs.Record.{Record}
use Rattle.afdx_account.specs.declared.account.Account.{Account}
use Rattle.afdx_account.specs.Account.{account_terms}
use Rattle.afdx_account.specs.Policing.{Terms}
use Rattle.afdx_levels.specs.declared.outlook.Outlook.{Outlook}
use Rattle.afdx_levels.specs.declared.outlook.Outlook.TheVariants.{Must, Never, Unsure}
use Rattle.afdx_levels.specs.Levels.{Levels, credited, outlook_of, after, fate_told}
use Rattle.afdx_levels.specs.Inner.Laws.{chosen}
use Rattle.afdx_pairing.specs.declared.limits.Limits.{Limits}
use Rattle.afdx_pairing.specs.Events.{Numbered}
use Rattle.afdx_pairing.specs.Limits.{left_at, most_of, is_early, in_bound}
use Rattle.afdx_pairing.specs.Kept.{Sight, Came, Left, Until, left_of, passed_of}
use Rattle.afdx_following.specs.Output.{Output, IsFresh, has, is_over, left_by, stamped_by, with_came, with_waiting, with_sight, with_sights, settled, paired_up_to, gone_on}
use Rattle.afdx_following.specs.Watched.{Watched, levels_at_first, at_first, frame_size, Fits, outlook_at, can_tell, counted, fate_of, with_fate, with_told, decided}
use Rattle.afdx_following.specs.Watched.{first_unknown, with_paired, with_gone, settled_by, with_own, changed_at, left_by_at, stamped_by_at, with_record}
use Rattle.afdx_following.specs.Inner.InStep.{WaitsBy, IsInStep}
use Rattle.afdx_following.specs.Followed.{Notice, Arrived, Departed, with_notice, with_notices, AreNext, own_in, left_in, judged}
use Rattle.afdx_following.proofs.Growing.{HaveLeftBy}
use Rattle.afdx_following.proofs.InStep.{all_more, fate_in_step, paired_in_step, gone_in_step, own_in_step, record_in_step, first_in_step, paired_waits}
use Rattle.afdx_following.proofs.Ports.{records, IsPort, fate_follows, pairs_follow, goes_on, own_follows, other_follows, record_follows}
use Rattle.afdx_compare.proofs.Places.{all_at}
use Rattle.afdx_compare_laws.specs.Fine.{LeavesLater}
use Rattle.afdx_compare_laws.specs.Fates.{Recorded, is_seen_at, is_seen, fates_seen, OwnInOrder}
use Rattle.afdx_compare_laws.specs.Conforming.{IsByLast}
use Rattle.afdx_compare_laws.proofs.Ending.{later_of, Ends, first_ends, later_ends, frame_ends, record_ends, stamp_ends, waits_later, fresh_waits}
use Rattle.afdx_compare_laws.proofs.Fine.{early_least}
use Rattle.afdx_compare_laws.proofs.Narrowing.{all_map}
use Rattle.afdx_following.proofs.Explained.{get_mapped, get_changed, decided_latest, chosen_more, fresh_told, stamped_first}
use Rattle.afdx_compare.proofs.Keeping.{record_latest}

-- ---- lists

any_map : {X : Type 0} (p : X → Bool) (g : X → X) → ((x : X) → p (g x) ≡ p x) → (xs : List X) → list_any p (map g xs) ≡ list_any p xs
any_map p g same [] = refl
any_map p g same (x ∷ xs) = ap (λ (b : Bool). b || list_any p (map g xs)) (same x) ∙ ap (λ (b : Bool). p x || b) (any_map p g same xs)

list_all_map : {X : Type 0} (p : X → Bool) (g : X → X) → ((x : X) → p (g x) ≡ p x) → (xs : List X) → list_all p (map g xs) ≡ list_all p xs
list_all_map p g same [] = refl
list_all_map p g same (x ∷ xs) = ap (λ (b : Bool). b && list_all p (map g xs)) (same x) ∙ ap (λ (b : Bool). p x && b) (list_all_map p g same xs)

list_all_at : {X : Type 0} (p : X → Bool) (xs : List X) (k : ℕ) (x : X) → list_all p xs ≡ true → slice_get xs k ≡ Some x → p x ≡ true
list_all_at p [] k x all at = absurd (let never = at in cc)
list_all_at p (y ∷ xs) zero x all at = ap p (sym (same_Some y x at)) ∙ (and_parts (p y) (list_all p xs) all).0
list_all_at p (y ∷ xs) (suc k) x all at = list_all_at p xs k x (and_parts (p y) (list_all p xs) all).1 at

any_zip : {X Y : Type 0} (f : X → Bool) (g : Y → Bool) (xs : List X) (ys : List Y) → length xs ≡ length ys
    → ((k : ℕ) (x : X) (y : Y) → slice_get xs k ≡ Some x → slice_get ys k ≡ Some y → f x ≡ g y) → list_any f xs ≡ list_any g ys
any_zip f g [] [] many same = refl
any_zip f g [] (y ∷ ys) many same = absurd (omega (arith, many))
any_zip f g (x ∷ xs) [] many same = absurd (omega (arith, many))
any_zip f g (x ∷ xs) (y ∷ ys) many same =
    ap (λ (b : Bool). b || list_any f xs) (same 0 x y refl refl)
    ∙ ap (λ (b : Bool). g y || b) (any_zip f g xs ys (omega (arith, many)) (λ k x' y' a b. same (suc k) x' y' a b))

any_more : {X : Type 0} (p : X → Bool) (xs ys : List X) → list_any p (xs ++ ys) ≡ (list_any p xs || list_any p ys)
any_more p [] ys = refl
any_more p (x ∷ xs) ys = elim (p x) as (λ b. (b || list_any p (xs ++ ys)) ≡ ((b || list_any p xs) || list_any p ys)) [
  | true ↦ refl
  | false ↦ any_more p xs ys
]

or_none : (b c : Bool) → c ≡ false → (b || c) ≡ b
or_none true c none = refl
or_none false c none = none

-- ---- what a link is told changes neither its limits nor, but for the last, the instants

abbrev pub limits_in : List Output → List Limits
limits_in os = map (λ o. o.limits) os

abbrev pub limits_at : List Recorded → List Limits
limits_at ports = map (λ p. p.limits) ports

limits_kept : (change : Output → Output) → ((o : Output) → (change o).limits ≡ o.limits) → (os : List Output) → limits_in (map change os) ≡ limits_in os
limits_kept change kept [] = refl
limits_kept change kept (o ∷ os) =
    ap (λ (m : Limits). m ∷ limits_in (map change os)) (kept o) ∙ ap (λ (ms : List Limits). o.limits ∷ ms) (limits_kept change kept os)

limits_one : (change : Output → Output) → ((o : Output) → (change o).limits ≡ o.limits) → (place : ℕ) (os : List Output) → limits_in (changed_at place change os) ≡ limits_in os
limits_one change kept place [] = refl
limits_one change kept zero (o ∷ os) = ap (λ (m : Limits). m ∷ limits_in os) (kept o)
limits_one change kept (suc place) (o ∷ os) = ap (λ (ms : List Limits). o.limits ∷ ms) (limits_one change kept place os)

sights_limits : (ss : List Sight) (o : Output) → (with_sights ss o).limits ≡ o.limits
sights_limits [] o = refl
sights_limits (s ∷ ss) o = sights_limits ss (with_sight s o)

paired_limits : (unknown : Option ℕ) (o : Output) → (paired_up_to unknown o).limits ≡ o.limits
paired_limits unknown o = sights_limits (map Left (take (settled unknown o) o.waiting)) (record o { waiting = drop (settled unknown o) o.waiting })

decided_limits : (at : Option ℕ) (ns : List Numbered) (f : Watched) → limits_in (decided at ns f).outputs ≡ limits_in f.outputs
decided_limits at [] f = refl
decided_limits at (n ∷ ns) f = elim (cases_Bool (can_tell at f.outputs n (outlook_at f n))) [
  | inl told ↦ rw told (decided_limits at ns (with_told n f) ∙ limits_kept (λ o. with_came n (fate_of f n) o) (λ o. refl) f.outputs)
  | inr unknown ↦ rw unknown refl
]

gone_limits : (at : Option ℕ) (f : Watched) → limits_in (with_gone at f).outputs ≡ limits_in f.outputs
gone_limits None f = refl
gone_limits (Some at) f = limits_kept (λ o. gone_on at o) (λ o. refl) f.outputs

pub settled_limits : (at : Option ℕ) (f : Watched) → limits_in (settled_by at f).outputs ≡ limits_in f.outputs
settled_limits at f =
    let d = decided at f.undecided f in
    gone_limits at (with_paired d) ∙ limits_kept (λ o. paired_up_to (first_unknown d.undecided) o) (λ o. paired_limits (first_unknown d.undecided) o) d.outputs
    ∙ decided_limits at f.undecided f

notice_limits : (x : Notice) (f : Watched) → limits_in (with_notice x f).outputs ≡ limits_in f.outputs
notice_limits (Arrived n) f = settled_limits (Some n.frame.stamp) (record f { undecided = f.undecided ++ n ∷ []; latest = n.frame.stamp })
notice_limits (Departed place n) f =
    settled_limits (Some (stamped_by_at place n f)) (record f { outputs = changed_at place (λ o. with_waiting n o) f.outputs; latest = left_by_at place n f })
    ∙ limits_one (λ o. with_waiting n o) (λ o. refl) place f.outputs

pub notices_limits : (xs : List Notice) (f : Watched) → limits_in (with_notices xs f).outputs ≡ limits_in f.outputs
notices_limits [] f = refl
notices_limits (x ∷ xs) f = notices_limits xs (with_notice x f) ∙ notice_limits x f

own_latest : (n : Numbered) (f : Watched) → (with_own n f).latest ≡ n.frame.stamp
own_latest n f =
    let more : Watched = record f { undecided = f.undecided ++ n ∷ []; latest = n.frame.stamp } in
    decided_latest (Some n.frame.stamp) more.undecided more

-- ---- places of ports

pub same_limits : (os : List Output) (ports : List Recorded) (k : ℕ) (o : Output) (p : Recorded) → limits_in os ≡ limits_at ports → slice_get os k ≡ Some o → slice_get ports k ≡ Some p
    → o.limits ≡ p.limits
same_limits [] ports k o p same get at = absurd (let none = get in cc)
same_limits (x ∷ os) [] k o p same get at = absurd (let none = at in cc)
same_limits (x ∷ os) (y ∷ ports) zero o p same get at =
    ap (λ (z : Output). z.limits) (sym (same_Some x o get)) ∙ first x.limits y.limits (limits_in os) (limits_at ports) same ∙ ap (λ (z : Recorded). z.limits) (same_Some y p at) where
      first : (m n : Limits) (ms ns : List Limits) → m ∷ ms ≡ n ∷ ns → m ≡ n
      first m n ms ns same = cc
same_limits (x ∷ os) (y ∷ ports) (suc k) o p same get at = same_limits os ports k o p (ap (λ (ms : List Limits). drop 1 ms) same) get at

pub same_many : (os : List Output) (ports : List Recorded) → limits_in os ≡ limits_at ports → length os ≡ length ports
same_many os ports same =
    sym (length-map os (λ (o : Output). o.limits)) ∙ ap (λ (ms : List Limits). length ms) same ∙ length-map ports (λ (p : Recorded). p.limits)

pub port_there : {X Y : Type 0} (xs : List X) (ys : List Y) (k : ℕ) (x : X) → length xs ≡ length ys → slice_get xs k ≡ Some x → (y : Y) × (slice_get ys k ≡ Some y)
port_there [] ys k x many get = absurd (let none = get in cc)
port_there (a ∷ xs) [] k x many get = absurd (omega (arith, many))
port_there (a ∷ xs) (y ∷ ys) zero x many get = (y, refl)
port_there (a ∷ xs) (y ∷ ys) (suc k) x many get = port_there xs ys k x (omega (arith, many)) get

-- ---- what comes next

-- the records that are still to be told left no sooner than what was told
next_from : (ports : List Recorded) (xs : List Notice) (f : Watched) (since : ℕ) → since ≤ f.latest → limits_in f.outputs ≡ limits_at ports → AreNext f xs → (k : ℕ) (p : Recorded)
    → slice_get ports k ≡ Some p → AllByRecursion (λ r. since ≤ left_at p.limits r + p.limits.tolerance) (left_in k xs)
next_from ports [] f since le same next k p at = tt
next_from ports (Arrived n ∷ xs) f since le same next k p at =
    let now = own_latest n f in
    let first = next.0.0 in
    next_from ports xs (with_own n f) since (omega (arith, le, now, first)) (notice_limits (Arrived n) f ∙ same) next.1 k p at
next_from ports (Departed place n ∷ xs) f since le same next k p at =
    let now = record_latest place n f in
    let first = next.0.1 in
    let rest = next_from ports xs (with_record place n f) since (omega (arith, le, now, first)) (notice_limits (Departed place n) f ∙ same) next.1 k p at in
    by (place == k) refl rest where
      by : (b : Bool) → (place == k) ≡ b → AllByRecursion (λ r. since ≤ left_at p.limits r + p.limits.tolerance) (left_in k xs)
          → AllByRecursion (λ r. since ≤ left_at p.limits r + p.limits.tolerance) (if b then n.frame ∷ left_in k xs else left_in k xs)
      by true here rest =
          let o = port_there ports f.outputs k p (sym (same_many f.outputs ports same)) at in
          let m = same_limits f.outputs ports k o.0 p same o.1 at in
          let there : slice_get f.outputs place ≡ Some o.0 = ap (λ (i : ℕ). slice_get f.outputs i) (eqb-true place k here) ∙ o.1 in
          let is : left_by_at place n f ≡ left_by n o.0 = ap (λ (one : Option Output). option_map_or (λ x. left_by n x) one 0) there in
          let moved = ap (λ (x : Limits). left_at x n.frame + x.tolerance) m in
          let first = next.0.1 in
          (omega (arith, le, is, moved, first), rest)
      by false other rest = rest

pub next_order : (xs : List Notice) (f : Watched) (since : ℕ) → since ≤ f.latest → AreNext f xs → AllByRecursion (λ r. since ≤ r.stamp) (own_in xs) × OwnInOrder (own_in xs)
next_order [] f since le next = (tt, tt)
next_order (Arrived n ∷ xs) f since le next =
    let now = own_latest n f in
    let first = next.0.0 in
    let from = next_order xs (with_own n f) n.frame.stamp (omega (arith, now)) next.1 in
    let all = next_order xs (with_own n f) since (omega (arith, le, now, first)) next.1 in
    ((omega (arith, le, first), all.0), (from.0, from.1))
next_order (Departed place n ∷ xs) f since le next =
    let now = record_latest place n f in
    let first = next.0.1 in
    next_order xs (with_record place n f) since (omega (arith, le, now, first)) next.1

-- ---- one fate more

-- what is known of the account after frames of which the fates were told so
abbrev levels_seen : Terms → ℕ → (Record → Bool) → Levels → List Record → Levels
levels_seen t tolerance seen l [] = l
levels_seen t tolerance seen l (r ∷ rs) =
    let now = credited t l r.stamp in
    levels_seen t tolerance seen (after t tolerance (judged r).size (fate_told (outlook_of t tolerance (judged r).size now) (seen r)) now) rs

-- the fate that is told of a frame that comes then
abbrev fate_next : Terms → ℕ → (Record → Bool) → Levels → Record → Bool
fate_next t tolerance seen l r = fate_told (outlook_of t tolerance (judged r).size (credited t l r.stamp)) (seen r)

fates_more : (t : Terms) (tolerance : ℕ) (seen : Record → Bool) (l : Levels) (rs : List Record) (r : Record)
    → fates_seen t tolerance seen l (rs ++ r ∷ []) ≡ fates_seen t tolerance seen l rs ++ fate_next t tolerance seen (levels_seen t tolerance seen l rs) r ∷ []
fates_more t tolerance seen l [] r = refl
fates_more t tolerance seen l (x ∷ rs) r =
    let now = credited t l x.stamp in
    let passes = fate_told (outlook_of t tolerance (judged x).size now) (seen x) in
    ap (λ (bs : List Bool). passes ∷ bs) (fates_more t tolerance seen (after t tolerance (judged x).size passes now) rs r)

levels_more : (t : Terms) (tolerance : ℕ) (seen : Record → Bool) (l : Levels) (rs : List Record) (r : Record)
    → let before = levels_seen t tolerance seen l rs in
    levels_seen t tolerance seen l (rs ++ r ∷ []) ≡ after t tolerance (judged r).size (fate_next t tolerance seen before r) (credited t before r.stamp)
levels_more t tolerance seen l [] r = refl
levels_more t tolerance seen l (x ∷ rs) r =
    let now = credited t l x.stamp in
    let passes = fate_told (outlook_of t tolerance (judged x).size now) (seen x) in
    levels_more t tolerance seen (after t tolerance (judged x).size passes now) rs r

as_many : (t : Terms) (tolerance : ℕ) (seen : Record → Bool) (l : Levels) (rs : List Record) → length (fates_seen t tolerance seen l rs) ≡ length rs
as_many t tolerance seen l [] = refl
as_many t tolerance seen l (x ∷ rs) =
    let now = credited t l x.stamp in
    let rest = as_many t tolerance seen (after t tolerance (judged x).size (fate_told (outlook_of t tolerance (judged x).size now) (seen x)) now) rs in
    omega (arith, rest)

-- ---- a frame is seen among the records that wait where it is seen among all

-- nothing that is still to be told is sooner than an instant; after the end there is nothing
abbrev IsFrom : Option ℕ → Limits → Record → Type 0
IsFrom None m r = ⊥
IsFrom (Some at) m r = at ≤ left_at m r + m.tolerance

abbrev IsOver : Option ℕ → Limits → Record → Type 0
IsOver None m f = Unit {0}
IsOver (Some at) m f = f.stamp + most_of m + m.tolerance < at

not_yet : (m : Limits) (f y : Record) → LeavesLater m f → left_at m y ≤ f.stamp → in_bound m f y ≡ false
not_yet m f y later by = false_from_ne_true (in_bound m f y) (λ is.
    let all = and_parts (bytes_eq f.bytes y.bytes && not (is_early m f y)) (nat_le (left_at m y) (f.stamp + most_of m)) is in
    let first = and_parts (bytes_eq f.bytes y.bytes) (not (is_early m f y)) all.0 in
    let least = early_least m f y (is_early m f y) refl first.1 in
    omega (arith, least, later, by))

left_none : (m : Limits) (f : Record) (ss : List Sight) → LeavesLater m f → HaveLeftBy m f.stamp ss → list_any (λ y. in_bound m f y) (left_of ss) ≡ false
left_none m f [] later by = refl
left_none m f (Came n passes ∷ ss) later by = left_none m f ss later by
left_none m f (Left n ∷ ss) later by =
    or_from (in_bound m f n.frame) (list_any (λ (y : Record). in_bound m f y) (left_of ss)) (not_yet m f n.frame later by.0) (left_none m f ss later by.1)
left_none m f (Until at ∷ ss) later by = left_none m f ss later by

future_none : (at : Option ℕ) (m : Limits) (f : Record) (rs : List Record) → AllByRecursion (IsFrom at m) rs → IsOver at m f → list_any (λ y. in_bound m f y) rs ≡ false
future_none at m f [] from over = refl
future_none None m f (r ∷ rs) from over = absurd from.0
future_none (Some at) m f (r ∷ rs) from over =
    let first = from.0 in
    or_from (in_bound m f r) (list_any (λ (y : Record). in_bound m f y) rs)
    (and_right (bytes_eq f.bytes r.bytes && not (is_early m f r)) (nat_le (left_at m r) (f.stamp + most_of m)) (lt-leb (left_at m r) (f.stamp + most_of m) (omega (arith, first, over))))
    (future_none (Some at) m f rs from.1 over)

any_records : (p : Record → Bool) (ns : List Numbered) → list_any p (records ns) ≡ list_any (λ n. p n.frame) ns
any_records p [] = refl
any_records p (n ∷ ns) = ap (λ (b : Bool). p n.frame || b) (any_records p ns)

-- what is known of a port before the fates of these frames are told
record Sees (at : Option ℕ) (future : List Record) (ns : List Numbered) (o : Output) (p : Recorded) : Type 0 where
  limits : o.limits ≡ p.limits
  sights : List Sight
  out_is : p.out ≡ (left_of sights ++ records o.waiting) ++ future
  by : AllByRecursion (λ n. HaveLeftBy o.limits n.frame.stamp sights) ns
  from : AllByRecursion (IsFrom at o.limits) future
  slow : AllByRecursion (λ n. LeavesLater o.limits n.frame) ns

rest_sees : (at : Option ℕ) (future : List Record) (n : Numbered) (ns : List Numbered) (o : Output) (p : Recorded) → Sees at future (n ∷ ns) o p → Sees at future ns o p
rest_sees at future n ns o p s = record { limits = s.limits; sights = s.sights; out_is = s.out_is; by = s.by.1; from = s.from; slow = s.slow.1 }

has_seen : (at : Option ℕ) (future : List Record) (n : Numbered) (ns : List Numbered) (o : Output) (p : Recorded) → Sees at future (n ∷ ns) o p → IsOver at o.limits n.frame
    → has n o ≡ is_seen_at n.frame p
has_seen at future n ns o p s over =
    let m = o.limits in
    let here : Record → Bool = λ y. in_bound m n.frame y in
    let gone = left_none m n.frame s.sights s.slow.0 s.by.0 in
    let later = future_none at m n.frame future s.from over in
    sym (any_records here o.waiting)
    ∙ sym (any_more here (left_of s.sights) (records o.waiting) ∙ ap (λ (b : Bool). b || list_any here (records o.waiting)) gone)
    ∙ sym (any_more here (left_of s.sights ++ records o.waiting) future ∙ or_none (list_any here (left_of s.sights ++ records o.waiting)) (list_any here future) later)
    ∙ ap (λ (rs : List Record). list_any here rs) (sym s.out_is)
    ∙ ap (λ (x : Limits). list_any (λ (y : Record). in_bound x n.frame y) p.out) s.limits

over_at : (at : Option ℕ) (os : List Output) (n : Numbered) (k : ℕ) (o : Output) → can_tell at os n Unsure ≡ true → slice_get os k ≡ Some o → IsOver at o.limits n.frame
over_at None os n k o can get = tt
over_at (Some at) os n k o can get =
    ltb-true (n.frame.stamp + most_of o.limits + o.limits.tolerance) at (list_all_at (λ (x : Output). is_over at n x) os k o can get)

-- whether these frames are seen is told right, if they are unsure
abbrev Tells : List Recorded → Option ℕ → List Output → List Numbered → Type 0
Tells ports at os ns = AllByRecursion (λ n. can_tell at os n Unsure ≡ true → list_any (λ o. has n o) os ≡ is_seen ports n.frame) ns

tells : (ports : List Recorded) (at : Option ℕ) (os : List Output) (futures : ℕ → List Record) (ns : List Numbered) → length os ≡ length ports
    → ((k : ℕ) (o : Output) (p : Recorded) → slice_get os k ≡ Some o → slice_get ports k ≡ Some p → Sees at (futures k) ns o p) → Tells ports at os ns
tells ports at os futures [] many each = tt
tells ports at os futures (n ∷ ns) many each = (
  λ can. any_zip (λ (o : Output). has n o) (λ (p : Recorded). is_seen_at n.frame p) os ports many
      (λ k o p get there. has_seen at (futures k) n ns o p (each k o p get there) (over_at at os n k o can get)),
  tells ports at os futures ns many (λ k o p get there. rest_sees at (futures k) n ns o p (each k o p get there)),
)

can_kept : (at : Option ℕ) (os : List Output) (n m : Numbered) (passes : Bool) → can_tell at (map (λ o. with_came m passes o) os) n Unsure ≡ can_tell at os n Unsure
can_kept None os n m passes = refl
can_kept (Some at) os n m passes = list_all_map (λ (o : Output). is_over at n o) (λ o. with_came m passes o) (λ o. refl) os

tells_on : (ports : List Recorded) (at : Option ℕ) (os : List Output) (m : Numbered) (passes : Bool) (ns : List Numbered) → Tells ports at os ns
    → Tells ports at (map (λ o. with_came m passes o) os) ns
tells_on ports at os m passes ns all =
    all_map (λ n. can_tell at os n Unsure ≡ true → list_any (λ o. has n o) os ≡ is_seen ports n.frame)
    (λ n. can_tell at (map (λ o. with_came m passes o) os) n Unsure ≡ true → list_any (λ o. has n o) (map (λ o. with_came m passes o) os) ≡ is_seen ports n.frame)
    (λ n one can. any_map (λ (o : Output). has n o) (λ o. with_came m passes o) (λ o. refl) os ∙ one (sym (can_kept at os n m passes) ∙ can)) ns all

same_fate : (at : Option ℕ) (os : List Output) (n : Numbered) (o : Outlook) (seen : Bool) → can_tell at os n o ≡ true
    → (can_tell at os n Unsure ≡ true → list_any (λ x. has n x) os ≡ seen) → fate_told o (list_any (λ x. has n x) os) ≡ fate_told o seen
same_fate at os n Must seen can is = refl
same_fate at os n Never seen can is = refl
same_fate at os n Unsure seen can is = is can

-- ---- the link

module _ (t : Terms) (tolerance : ℕ) (l : Levels) (ports : List Recorded) where
  abbrev pub fates_of : List Record → List Bool
  fates_of rs = fates_seen t tolerance (is_seen ports) l rs

  abbrev levels_of : List Record → Levels
  levels_of rs = levels_seen t tolerance (is_seen ports) l rs

  abbrev pub Slow : Record → Type 0
  Slow r = AllByRecursion (λ p. LeavesLater p.limits r) ports

  -- of a port at which nothing was told of past an instant
  pub record IsAtPort (last : Option ℕ) (done : List Record) (undecided : List Numbered) (out : List Record) (late : ℕ) (o : Output) : Type 0 where
    pub wait : WaitsBy late o
    pub ends : Ends last o.limits late
    pub port : IsPort late (chosen (fates_of done) done) done undecided out o

  -- what is known of a link that was told of these frames and of these records at its ports, at each up to an instant of its own
  pub record IsSoTold (last : Option ℕ) (own : List Record) (outs : ℕ → List Record) (lates : ℕ → ℕ) (f : Watched) : Type 0 where
    pub done : List Record
    pub own_is : own ≡ done ++ records f.undecided
    pub levels : f.levels ≡ levels_of done
    pub terms : account_terms f.account ≡ t
    pub tolerances : f.tolerance ≡ tolerance
    pub slow : AllByRecursion (λ n. Slow n.frame) f.undecided
    pub in_step : IsInStep f
    pub soon : (place : ℕ) → lates place ≤ f.latest
    pub at_port : (place : ℕ) (o : Output) → slice_get f.outputs place ≡ Some o → IsAtPort last done f.undecided (outs place) (lates place) o

  -- the fate of a frame is told
  fate_step : (last : Option ℕ) (own : List Record) (outs : ℕ → List Record) (lates : ℕ → ℕ) (n : Numbered) (ns : List Numbered) (passes : Bool) (unsure : ℕ) (f : Watched)
      → (h : IsSoTold last own outs lates (record f { undecided = n ∷ ns })) → passes ≡ fate_next t tolerance (is_seen ports) (levels_of h.done) n.frame
      → IsSoTold last own outs lates (record (with_fate n passes (record f { unsure = unsure })) { undecided = ns })
  fate_step last own outs lates n ns passes unsure f h passes_is =
      let done = h.done in
      let more = done ++ n.frame ∷ [] in
      let size = frame_size n in
      let at = n.frame.stamp in
      let fates = fates_of done in
      let seen = is_seen ports in
      let now : chosen (fates_of more) more ≡ chosen fates done ++ passed_of (Came n passes ∷ []) =
      ap (λ (bs : List Bool). chosen bs more) (fates_more t tolerance seen l done n.frame)
      ∙ ap (λ (b : Bool). chosen (fates ++ b ∷ []) more) (sym passes_is)
      ∙ chosen_more fates done passes n (as_many t tolerance seen l done) in
      record {
        done = more;
        own_is = h.own_is ∙ sym (append_assoc done (n.frame ∷ []) (records ns));
        levels = ap (λ (x : Terms). after x f.tolerance size passes (credited x f.levels at)) h.terms
            ∙ ap (λ (x : ℕ). after t x size passes (credited t f.levels at)) h.tolerances
            ∙ ap (λ (x : Levels). after t tolerance size passes (credited t x at)) h.levels
            ∙ ap (λ (b : Bool). after t tolerance size b (credited t (levels_of done) at)) passes_is
            ∙ sym (levels_more t tolerance seen l done n.frame);
        terms = h.terms;
        tolerances = h.tolerances;
        slow = h.slow.1;
        in_step = fate_in_step n ns passes unsure f h.in_step;
        soon = h.soon;
        at_port = λ place o get.
            let old = get_mapped (λ x. with_came n passes x) f.outputs place o get in
            let before = h.at_port place old.0 old.1.0 in
            subst (λ (x : Output). IsAtPort last more ns (outs place) (lates place) x) old.1.1 (record {
              wait = before.wait;
              ends = before.ends;
              port = subst (λ (rs : List Record). IsPort (lates place) rs more ns (outs place) (with_came n passes old.0)) (sym now)
                  (fate_follows (lates place) (chosen fates done) done n ns (outs place) old.0 passes before.port);
            });
      }

  fate_is : (at : Option ℕ) (f : Watched) (n : Numbered) (k : Levels) → account_terms f.account ≡ t → f.tolerance ≡ tolerance → f.levels ≡ k
      → can_tell at f.outputs n (outlook_at f n) ≡ true → (can_tell at f.outputs n Unsure ≡ true → list_any (λ o. has n o) f.outputs ≡ is_seen ports n.frame)
      → fate_of f n ≡ fate_next t tolerance (is_seen ports) k n.frame
  fate_is at f n k terms tolerances levels can seen =
      let size = frame_size n in
      let stamp = n.frame.stamp in
      same_fate at f.outputs n (outlook_at f n) (is_seen ports n.frame) can seen
      ∙ ap (λ (x : Terms). fate_told (outlook_of x f.tolerance size (credited x f.levels stamp)) (is_seen ports n.frame)) terms
      ∙ ap (λ (x : ℕ). fate_told (outlook_of t x size (credited t f.levels stamp)) (is_seen ports n.frame)) tolerances
      ∙ ap (λ (x : Levels). fate_told (outlook_of t tolerance size (credited t x stamp)) (is_seen ports n.frame)) levels

  decided_told : (last : Option ℕ) (own : List Record) (outs : ℕ → List Record) (lates : ℕ → ℕ) (at : Option ℕ) (ns : List Numbered) (f : Watched)
      → IsSoTold last own outs lates (record f { undecided = ns }) → Tells ports at f.outputs ns → IsSoTold last own outs lates (decided at ns f)
  decided_told last own outs lates at [] f h all = h
  decided_told last own outs lates at (n ∷ ns) f h all = elim (cases_Bool (can_tell at f.outputs n (outlook_at f n))) [
    | inl told ↦ rw told (decided_told last own outs lates at ns (with_told n f)
        (fate_step last own outs lates n ns (fate_of f n) (counted (outlook_at f n) f.unsure) f h (fate_is at f n (levels_of h.done) h.terms h.tolerances h.levels told all.0))
        (tells_on ports at f.outputs n (fate_of f n) ns all.1))
    | inr unknown ↦ rw unknown h
  ]

  paired_told : (last : Option ℕ) (own : List Record) (outs : ℕ → List Record) (lates : ℕ → ℕ) (f : Watched) → IsSoTold last own outs lates f
      → IsSoTold last own outs lates (with_paired f)
  paired_told last own outs lates f h =
      let unknown = first_unknown f.undecided in
      record {
        done = h.done;
        own_is = h.own_is;
        levels = h.levels;
        terms = h.terms;
        tolerances = h.tolerances;
        slow = h.slow;
        in_step = paired_in_step f h.in_step;
        soon = h.soon;
        at_port = λ place o get.
            let old = get_mapped (λ x. paired_up_to unknown x) f.outputs place o get in
            let before = h.at_port place old.0 old.1.0 in
            subst (λ (x : Output). IsAtPort last h.done f.undecided (outs place) (lates place) x) old.1.1 (record {
              wait = paired_waits (lates place) unknown old.0 before.wait;
              ends = subst (λ (m : Limits). Ends last m (lates place)) (sym (paired_limits unknown old.0)) before.ends;
              port = pairs_follow (lates place) (chosen (fates_of h.done) h.done) h.done f.undecided (outs place) old.0 before.port h.in_step.in_order before.wait;
            });
      }

  abbrev IsBy : Option ℕ → ℕ → Type 0
  IsBy None late = Unit {0}
  IsBy (Some at) late = at ≤ late

  gone_told : (last : Option ℕ) (own : List Record) (outs : ℕ → List Record) (lates : ℕ → ℕ) (at : Option ℕ) (f : Watched) → IsSoTold last own outs lates f
      → ((place : ℕ) → IsBy at (lates place)) → IsSoTold last own outs lates (with_gone at f)
  gone_told last own outs lates None f h by = h
  gone_told last own outs lates (Some at) f h by = record {
    done = h.done;
    own_is = h.own_is;
    levels = h.levels;
    terms = h.terms;
    tolerances = h.tolerances;
    slow = h.slow;
    in_step = gone_in_step (Some at) f h.in_step;
    soon = h.soon;
    at_port = λ place o get.
        let old = get_mapped (λ x. gone_on at x) f.outputs place o get in
        let before = h.at_port place old.0 old.1.0 in
        subst (λ (x : Output). IsAtPort last h.done f.undecided (outs place) (lates place) x) old.1.1 (record {
          wait = before.wait;
          ends = before.ends;
          port = goes_on (lates place) (chosen (fates_of h.done) h.done) h.done f.undecided (outs place) old.0 at before.port (by place);
        });
  }

  -- of all that left at its ports these are still to be told
  abbrev AreStill : (ℕ → List Record) → (ℕ → List Record) → Type 0
  AreStill outs futures = (k : ℕ) (p : Recorded) → slice_get ports k ≡ Some p → p.out ≡ outs k ++ futures k

  abbrev AreFrom : Option ℕ → (ℕ → List Record) → Type 0
  AreFrom at futures = (k : ℕ) (p : Recorded) → slice_get ports k ≡ Some p → AllByRecursion (IsFrom at p.limits) (futures k)

  pub settled_told : (last : Option ℕ) (own : List Record) (outs futures : ℕ → List Record) (lates : ℕ → ℕ) (at : Option ℕ) (f : Watched) → IsSoTold last own outs lates f
      → limits_in f.outputs ≡ limits_at ports → AreStill outs futures → AreFrom at futures → ((place : ℕ) → IsBy at (lates place)) → IsSoTold last own outs lates (settled_by at f)
  settled_told last own outs futures lates at f h same still from by =
      let d = decided at f.undecided f in
      let all = tells ports at f.outputs futures f.undecided (same_many f.outputs ports same) (λ k o p get there.
      let port = (h.at_port k o get).port in
      let m = same_limits f.outputs ports k o p same get there in
      record {
        limits = m;
        sights = port.sights;
        out_is = still k p there ∙ ap (λ (rs : List Record). rs ++ futures k) (sym port.left_is);
        by = port.by;
        from = subst (λ (x : Limits). AllByRecursion (IsFrom at x) (futures k)) (sym m) (from k p there);
        slow = all_map (λ n. Slow n.frame) (λ n. LeavesLater o.limits n.frame)
            (λ n one. subst (λ (x : Limits). LeavesLater x n.frame) (sym m) (all_at (λ q. LeavesLater q.limits n.frame) ports k p there one)) f.undecided h.slow;
      }) in
      gone_told last own outs lates at (with_paired d) (paired_told last own outs lates d (decided_told last own outs lates at f.undecided f h all)) by

  -- ---- what it is told of

  own_told : (last : Option ℕ) (own : List Record) (outs futures : ℕ → List Record) (lates : ℕ → ℕ) (f : Watched) (n : Numbered) → IsSoTold last own outs lates f
      → limits_in f.outputs ≡ limits_at ports → AreStill outs futures → AreFrom (Some n.frame.stamp) futures → Slow n.frame → f.latest ≤ n.frame.stamp → Fits f.account n
      → ((place : ℕ) (o : Output) → slice_get f.outputs place ≡ Some o → Ends last o.limits n.frame.stamp)
      → IsSoTold last (own ++ n.frame ∷ []) outs (λ place. n.frame.stamp) (with_own n f)
  own_told last own outs futures lates f n h same still from slow le fits ended =
      let at = n.frame.stamp in
      let done = h.done in
      let more : Watched = record f { undecided = f.undecided ++ n ∷ []; latest = at } in
      settled_told last (own ++ n.frame ∷ []) outs futures (λ place. at) (Some at) more (record {
        done = done;
        own_is = ap (λ (rs : List Record). rs ++ n.frame ∷ []) h.own_is ∙ append_assoc done (records f.undecided) (n.frame ∷ [])
            ∙ ap (λ (rs : List Record). done ++ rs) (sym (map-append (λ (x : Numbered). x.frame) f.undecided (n ∷ [])));
        levels = h.levels;
        terms = h.terms;
        tolerances = h.tolerances;
        slow = all_more (λ x. Slow x.frame) f.undecided n h.slow slow;
        in_step = own_in_step f n h.in_step le fits;
        soon = λ place. omega arith;
        at_port = λ place o get.
            let before = h.at_port place o get in
            let soon = h.soon place in
            let by : lates place ≤ at = omega (arith, soon, le) in
            record {
              wait = waits_later (lates place) at by o before.wait;
              ends = ended place o get;
              port = own_follows (lates place) (chosen (fates_of done) done) done f.undecided (outs place) o n before.port by;
            };
      }) same still from (λ place. omega arith)

  abbrev one_at : ℕ → ℕ → Numbered → List Record
  one_at at place n = cond (at == place) (n.frame ∷ []) []

  here_is : (at place : ℕ) (n : Numbered) → at ≡ place → one_at at place n ≡ n.frame ∷ []
  here_is at place n same = rw (eq-eqb at place same) refl

  none_here : (at place : ℕ) (n : Numbered) → (at ≡ place → ⊥) → one_at at place n ≡ []
  none_here at place n apart = rw (ne_eqb at place apart) refl

  -- up to which instant ports were told, after a record at one of them
  abbrev lates_by : (at place : ℕ) (now by : ℕ) (lates : ℕ → ℕ) → ℕ
  lates_by at place now by lates = cond (at == place) now (later_of (lates place) by)

  late_here : (at place now by : ℕ) (lates : ℕ → ℕ) → at ≡ place → lates_by at place now by lates ≡ now
  late_here at place now by lates same = rw (eq-eqb at place same) refl

  late_there : (at place now by : ℕ) (lates : ℕ → ℕ) → (at ≡ place → ⊥) → lates_by at place now by lates ≡ later_of (lates place) by
  late_there at place now by lates apart = rw (ne_eqb at place apart) refl

  late_by : (at place now by latest : ℕ) (lates : ℕ → ℕ) → lates place ≤ latest → latest ≤ now → by ≤ now → lates_by at place now by lates ≤ now
  late_by at place now by latest lates soon le first = elim (cases_Bool (at == place)) [
    | inl same ↦ rw same (omega arith)
    | inr apart ↦ rw apart (omega (arith, soon, le, first))
  ]

  late_from : (at place now by : ℕ) (lates : ℕ → ℕ) → by ≤ now → by ≤ lates_by at place now by lates
  late_from at place now by lates first = elim (cases_Bool (at == place)) [
    | inl same ↦ rw same first
    | inr apart ↦ rw apart (omega arith)
  ]

  record_told : (last : Option ℕ) (own : List Record) (outs futures : ℕ → List Record) (lates : ℕ → ℕ) (f : Watched) (at : ℕ) (n : Numbered) → IsSoTold last own outs lates f
      → limits_in f.outputs ≡ limits_at ports → AreStill (λ place. outs place ++ one_at at place n) futures → AreFrom (Some (stamped_by_at at n f)) futures
      → f.latest ≤ left_by_at at n f
      → ((place : ℕ) (o : Output) → slice_get f.outputs place ≡ Some o → Ends last o.limits (left_by n o) × Ends last o.limits (stamped_by_at at n f))
      → IsSoTold last own (λ place. outs place ++ one_at at place n) (λ place. lates_by at place (left_by_at at n f) (stamped_by_at at n f) lates) (with_record at n f)
  record_told last own outs futures lates f at n h same still from le ended =
      let done = h.done in
      let passed = chosen (fates_of done) done in
      let now = left_by_at at n f in
      let by = stamped_by_at at n f in
      let first = stamped_first at n f in
      let more : Watched = record f { outputs = changed_at at (λ o. with_waiting n o) f.outputs; latest = now } in
      settled_told last own (λ place. outs place ++ one_at at place n) futures (λ place. lates_by at place now by lates) (Some by) more (record {
        done = done;
        own_is = h.own_is;
        levels = h.levels;
        terms = h.terms;
        tolerances = h.tolerances;
        slow = h.slow;
        in_step = record_in_step f at n now h.in_step refl le;
        soon = λ place. late_by at place now by f.latest lates (h.soon place) le first;
        at_port = λ place o get.
            elim (get_changed at place (λ x. with_waiting n x) f.outputs o get) [
              | inl here ↦ (
                  let before = h.at_port place here.old here.get in
                  let there : slice_get f.outputs at ≡ Some here.old = ap (λ (i : ℕ). slice_get f.outputs i) here.same ∙ here.get in
                  let is : now ≡ left_by n here.old = ap (λ (one : Option Output). option_map_or (λ x. left_by n x) one 0) there in
                  let soon = h.soon place in
                  let up : lates place ≤ now = omega (arith, soon, le) in
                  subst (λ (i : ℕ). IsAtPort last done f.undecided (outs place ++ one_at at place n) i o) (sym (late_here at place now by lates here.same))
                  (subst (λ (x : Output). IsAtPort last done f.undecided (outs place ++ one_at at place n) now x) here.is (record {
                    wait = all_more (λ x. left_by x here.old ≤ now) here.old.waiting n (waits_later (lates place) now up here.old before.wait) (omega (arith, is));
                    ends = subst (λ (i : ℕ). Ends last here.old.limits i) (sym is) (ended place here.old here.get).0;
                    port = subst (λ (rs : List Record). IsPort now passed done f.undecided (outs place ++ rs) (with_waiting n here.old)) (sym (here_is at place n here.same))
                        (record_follows (lates place) passed done f.undecided (outs place) here.old n now before.port up is before.wait);
                  })))
              | inr there ↦ (
                  let before = h.at_port place o there.get in
                  let late = later_of (lates place) by in
                  let up : lates place ≤ late = omega arith in
                  subst (λ (i : ℕ). IsAtPort last done f.undecided (outs place ++ one_at at place n) i o) (sym (late_there at place now by lates there.apart)) (record {
                    wait = waits_later (lates place) late up o before.wait;
                    ends = later_ends last o.limits (lates place) by before.ends (ended place o there.get).1;
                    port = subst (λ (rs : List Record). IsPort late passed done f.undecided rs o)
                        (sym (append-nil (outs place)) ∙ ap (λ (rs : List Record). outs place ++ rs) (sym (none_here at place n there.apart)))
                        (other_follows (lates place) passed done f.undecided (outs place) o late before.port up);
                  }))
            ];
      }) (limits_one (λ o. with_waiting n o) (λ o. refl) at f.outputs ∙ same) still from (λ place. late_from at place now by lates first)

  with_outs : (last : Option ℕ) (own : List Record) (outs new : ℕ → List Record) (lates : ℕ → ℕ) (f : Watched) → ((place : ℕ) → outs place ≡ new place)
      → IsSoTold last own outs lates f → IsSoTold last own new lates f
  with_outs last own outs new lates f same h = record {
    done = h.done;
    own_is = h.own_is;
    levels = h.levels;
    terms = h.terms;
    tolerances = h.tolerances;
    slow = h.slow;
    in_step = h.in_step;
    soon = h.soon;
    at_port = λ place o get. subst (λ (rs : List Record). IsAtPort last h.done f.undecided rs (lates place) o) (same place) (h.at_port place o get);
  }

  left_joins : (at place : ℕ) (n : Numbered) (xs : List Notice) (out : List Record) → (out ++ one_at at place n) ++ left_in place xs ≡ out ++ left_in place (Departed at n ∷ xs)
  left_joins at place n xs out =
      let joins : one_at at place n ++ left_in place xs ≡ left_in place (Departed at n ∷ xs) = elim (cases_Bool (at == place)) [
        | inl same ↦ rw same refl
        | inr apart ↦ rw apart refl
      ] in
      append_assoc out (one_at at place n) (left_in place xs) ∙ ap (λ (rs : List Record). out ++ rs) joins

  abbrev EvenPorts : Type 0
  EvenPorts = AllByRecursion (λ p. p.limits.tolerance ≡ tolerance) ports

  even_at : (f : Watched) → limits_in f.outputs ≡ limits_at ports → EvenPorts → (place : ℕ) (o : Output) → slice_get f.outputs place ≡ Some o → o.limits.tolerance ≡ tolerance
  even_at f same even place o get =
      let p = port_there f.outputs ports place o (same_many f.outputs ports same) get in
      ap (λ (m : Limits). m.tolerance) (same_limits f.outputs ports place o p.0 same get p.1) ∙ all_at (λ q. q.limits.tolerance ≡ tolerance) ports place p.0 p.1 even

  stamped_is : (f : Watched) → limits_in f.outputs ≡ limits_at ports → EvenPorts → (at : ℕ) (n : Numbered) → stamped_by_at at n f ≤ n.frame.stamp + tolerance
  stamped_is f same even at n = by (slice_get f.outputs at) refl where
    by : (one : Option Output) → slice_get f.outputs at ≡ one → option_map_or (λ o. stamped_by n o) one 0 ≤ n.frame.stamp + tolerance
    by None get = omega arith
    by (Some o) get = let is = even_at f same even at o get in omega (arith, is)

  abbrev AreTold : Option ℕ → List Record → (ℕ → List Record) → Watched → Type 0
  AreTold last own outs f = (lates : ℕ → ℕ) × IsSoTold last own outs lates f

  pub notices_told : (last : Option ℕ) (own : List Record) (outs : ℕ → List Record) (lates : ℕ → ℕ) (xs : List Notice) (f : Watched) → IsSoTold last own outs lates f → AreNext f xs
      → limits_in f.outputs ≡ limits_at ports → EvenPorts → AllByRecursion Slow (own_in xs) → AllByRecursion (IsByLast tolerance last) xs → AreStill outs (λ place. left_in place xs)
      → AreTold last (own ++ own_in xs) (λ place. outs place ++ left_in place xs) (with_notices xs f)
  notices_told last own outs lates [] f h next same even slow ended still = (
    lates,
    subst (λ (rs : List Record). IsSoTold last rs (λ place. outs place ++ []) lates f) (sym (append-nil own))
        (with_outs last own outs (λ place. outs place ++ []) lates f (λ place. sym (append-nil (outs place))) h),
  )
  notices_told last own outs lates (Arrived n ∷ xs) f h next same even slow ended still =
      let now = with_own n f in
      let after = notice_limits (Arrived n) f ∙ same in
      let latest = own_latest n f in
      let from = next_from ports xs now n.frame.stamp (omega (arith, latest)) after next.1 in
      subst (λ (rs : List Record). AreTold last rs (λ place. outs place ++ left_in place xs) (with_notices xs now)) (append_assoc own (n.frame ∷ []) (own_in xs))
      (notices_told last (own ++ n.frame ∷ []) outs (λ place. n.frame.stamp) xs now
      (own_told last own outs (λ place. left_in place xs) lates f n h same still from slow.0 next.0.0 next.0.1
      (λ place o get. frame_ends tolerance last o.limits n (even_at f same even place o get) ended.0)) next.1 after even slow.1 ended.1 still)
  notices_told last own outs lates (Departed at n ∷ xs) f h next same even slow ended still =
      let now = with_record at n f in
      let after = notice_limits (Departed at n) f ∙ same in
      let latest = record_latest at n f in
      let soon = stamped_first at n f in
      let from = next_from ports xs now (stamped_by_at at n f) (omega (arith, latest, soon)) after next.1 in
      let rest : AreStill (λ place. outs place ++ one_at at place n) (λ place. left_in place xs) = λ k p there. still k p there ∙ sym (left_joins at k n xs (outs k)) in
      let told = notices_told last own (λ place. outs place ++ one_at at place n) (λ place. lates_by at place (left_by_at at n f) (stamped_by_at at n f) lates) xs now
      (record_told last own outs (λ place. left_in place xs) lates f at n h same rest from next.0.1 (λ place o get. (
        record_ends tolerance last o.limits at n ended.0,
        stamp_ends tolerance last o.limits at n (stamped_by_at at n f) (even_at f same even place o get) (stamped_is f same even at n) ended.0,
      )))
      next.1 after even slow ended.1 rest in (
        told.0,
        with_outs last (own ++ own_in xs) (λ place. (outs place ++ one_at at place n) ++ left_in place xs) (λ place. outs place ++ left_in place (Departed at n ∷ xs)) told.0
            (with_notices xs now) (λ place. left_joins at place n xs (outs place)) told.1,
      )

-- ---- at first

pub first_told : (account : Account) (tolerance : ℕ) (since : Option ℕ) (outputs : List Output) (ports : List Recorded) (last : Option ℕ) → tolerance ≤ 1000000000
    → AllByRecursion IsFresh outputs
    → IsSoTold (account_terms account) tolerance (levels_at_first account tolerance since) ports last [] (λ place. []) (λ place. 0) (at_first account tolerance since outputs)
first_told account tolerance since outputs ports last bounded fresh = record {
  done = [];
  own_is = refl;
  levels = refl;
  terms = refl;
  tolerances = refl;
  slow = tt;
  in_step = first_in_step account tolerance since outputs bounded fresh;
  soon = λ place. omega arith;
  at_port = λ place o get.
      let one = all_at IsFresh outputs place o get fresh in
      record { wait = fresh_waits o one; ends = first_ends last o.limits; port = fresh_told 0 o one };
}
