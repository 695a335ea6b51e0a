-- What came in, cut at an instant: what went to the switch, and what waits.
use Rattle.std.proofs.Common.{◌≡◌, ℕ, ◌<◌, ◌≤◌, nat_le, List, [], ◌∷◌, ◌++◌, map, refl, ap, ◌∙◌, inl, inr}
use Rattle.std.specs.List.{AllByRecursion}
use Rattle.std.proofs.lemmas.Bool.{cases_Bool, le-leb, lt-leb}
use Rattle.std.proofs.lemmas.List.{map-append, append-nil}
use Rattle.afdx_pcap.specs.Record.{Record}
use Rattle.afdx_core.specs.Merge.{Arrival, arrivals_of, by_stamp, merged}
use Rattle.afdx_core.specs.Inner.Merge.{ByStampIsOrdered}
use Rattle.afdx_session.proofs.Settling.{arrived, all_arrived}
use Rattle.afdx_session.proofs.Numbered.{all_append}
use Rattle.afdx_session.proofs.Joining.{by_stamp_every}
use Rattle.afdx_paced.specs.Paced.{captures_of}
use Rattle.afdx_paced.specs.Laws.{from, below, MergesAreCut}
use Rattle.afdx_paced.specs.Inner.Parts.{Parts, lanes_of, gone_of, waiting_of}
use Rattle.afdx_paced.specs.Inner.Kept.{IsCut, given_of}
use Rattle.afdx_paced.proofs.Puts.{AllFrom, below-append}

from-append : (h : ℕ) (xs ys : List Arrival) → from h (xs ++ ys) ≡ from h xs ++ from h ys
from-append h [] ys = refl
from-append h (a ∷ xs) ys = elim (cases_Bool (nat_le h a.frame.stamp)) [
  | inl late ↦ rw late (ap (λ (rest : List Arrival). a ∷ rest) (from-append h xs ys))
  | inr early ↦ rw early (from-append h xs ys)
]

abbrev Before : ℕ → List Record → Type 0
Before h rs = AllByRecursion (λ (r : Record). r.stamp < h) rs

abbrev After : ℕ → List Record → Type 0
After h rs = AllByRecursion (λ (r : Record). h ≤ r.stamp) rs

-- records before the instant, and records at it or later
all_below : (h port : ℕ) (rs : List Record) → Before h rs → below h (arrived port rs) ≡ arrived port rs
all_below h port [] all = refl
all_below h port (r ∷ rs) all = rw (lt-leb h r.stamp all.0) (ap (λ (rest : List Arrival). record { port = port; frame = r } ∷ rest) (all_below h port rs all.1))

none_from : (h port : ℕ) (rs : List Record) → Before h rs → from h (arrived port rs) ≡ []
none_from h port [] all = refl
none_from h port (r ∷ rs) all = rw (lt-leb h r.stamp all.0) (none_from h port rs all.1)

none_below : (h port : ℕ) (rs : List Record) → After h rs → below h (arrived port rs) ≡ []
none_below h port [] all = refl
none_below h port (r ∷ rs) all = rw (le-leb h r.stamp all.0) (none_below h port rs all.1)

all_from : (h port : ℕ) (rs : List Record) → After h rs → from h (arrived port rs) ≡ arrived port rs
all_from h port [] all = refl
all_from h port (r ∷ rs) all = rw (le-leb h r.stamp all.0) (ap (λ (rest : List Arrival). record { port = port; frame = r } ∷ rest) (all_from h port rs all.1))

-- so of one lane, and of all
abbrev pub IsParted : ℕ → Parts → Type 0
IsParted h l = Before h l.gone × After h l.waiting

below_is : (h : ℕ) (l : Parts) → IsParted h l → below h (arrived l.port (l.gone ++ l.waiting)) ≡ arrived l.port l.gone
below_is h l parted =
    ap (below h) (map-append (λ (r : Record). record { port = l.port; frame = r }) l.gone l.waiting)
    ∙ below-append h (arrived l.port l.gone) (arrived l.port l.waiting)
    ∙ ap (λ (rest : List Arrival). below h (arrived l.port l.gone) ++ rest) (none_below h l.port l.waiting parted.1)
    ∙ append-nil (below h (arrived l.port l.gone))
    ∙ all_below h l.port l.gone parted.0

from_is : (h : ℕ) (l : Parts) → IsParted h l → from h (arrived l.port (l.gone ++ l.waiting)) ≡ arrived l.port l.waiting
from_is h l parted =
    ap (from h) (map-append (λ (r : Record). record { port = l.port; frame = r }) l.gone l.waiting)
    ∙ from-append h (arrived l.port l.gone) (arrived l.port l.waiting)
    ∙ ap (λ (first : List Arrival). first ++ from h (arrived l.port l.waiting)) (none_from h l.port l.gone parted.0)
    ∙ all_from h l.port l.waiting parted.1

pub below_all : (h : ℕ) (lanes : List Parts) → AllByRecursion (IsParted h) lanes → below h (arrivals_of (captures_of (lanes_of lanes))) ≡ arrivals_of (map gone_of lanes)
below_all h [] parted = refl
below_all h (l ∷ lanes) parted =
    below-append h (arrived l.port (l.gone ++ l.waiting)) (arrivals_of (captures_of (lanes_of lanes)))
    ∙ ap (λ (first : List Arrival). first ++ below h (arrivals_of (captures_of (lanes_of lanes)))) (below_is h l parted.0)
    ∙ ap (λ (rest : List Arrival). arrived l.port l.gone ++ rest) (below_all h lanes parted.1)

pub from_all : (h : ℕ) (lanes : List Parts) → AllByRecursion (IsParted h) lanes → from h (arrivals_of (captures_of (lanes_of lanes))) ≡ arrivals_of (map waiting_of lanes)
from_all h [] parted = refl
from_all h (l ∷ lanes) parted =
    from-append h (arrived l.port (l.gone ++ l.waiting)) (arrivals_of (captures_of (lanes_of lanes)))
    ∙ ap (λ (first : List Arrival). first ++ from h (arrivals_of (captures_of (lanes_of lanes)))) (from_is h l parted.0)
    ∙ ap (λ (rest : List Arrival). arrived l.port l.waiting ++ rest) (from_all h lanes parted.1)

-- what went and what waits, one after the other, is the merge of all that came in
pub parted_whole : MergesAreCut → (h : ℕ) (lanes : List Parts) → AllByRecursion (IsParted h) lanes
    → merged (captures_of (lanes_of lanes)) ≡ given_of lanes ++ merged (map waiting_of lanes)
parted_whole cut h lanes parted =
    cut h (arrivals_of (captures_of (lanes_of lanes)))
    ∙ ap (λ (xs : List Arrival). by_stamp xs ++ by_stamp (from h (arrivals_of (captures_of (lanes_of lanes))))) (below_all h lanes parted)
    ∙ ap (λ (xs : List Arrival). given_of lanes ++ by_stamp xs) (from_all h lanes parted)

-- what went comes before the instant, and what waits at it or later
gone_arrivals : (h : ℕ) (lanes : List Parts) → AllByRecursion (IsParted h) lanes → AllByRecursion (λ (a : Arrival). a.frame.stamp < h) (arrivals_of (map gone_of lanes))
gone_arrivals h [] parted = tt
gone_arrivals h (l ∷ lanes) parted =
    all_append (λ (a : Arrival). a.frame.stamp < h) (arrived l.port l.gone) (arrivals_of (map gone_of lanes))
    (all_arrived (λ (a : Arrival). a.frame.stamp < h) l.port l.gone parted.0.0) (gone_arrivals h lanes parted.1)

pub waiting_arrivals : (h : ℕ) (lanes : List Parts) → AllByRecursion (λ (l : Parts). AllByRecursion (λ (r : Record). h ≤ r.stamp) l.waiting) lanes → AllFrom h (arrivals_of (map waiting_of lanes))
waiting_arrivals h [] all = tt
waiting_arrivals h (l ∷ lanes) all =
    all_append (λ (a : Arrival). h ≤ a.frame.stamp) (arrived l.port l.waiting) (arrivals_of (map waiting_of lanes))
    (all_arrived (λ (a : Arrival). h ≤ a.frame.stamp) l.port l.waiting all.0) (waiting_arrivals h lanes all.1)

pub given_before : ByStampIsOrdered → (h : ℕ) (lanes : List Parts) → AllByRecursion (IsParted h) lanes → AllByRecursion (λ (a : Arrival). a.frame.stamp < h) (given_of lanes)
given_before ordered h lanes parted = by_stamp_every ordered (λ (a : Arrival). a.frame.stamp < h) (arrivals_of (map gone_of lanes)) (gone_arrivals h lanes parted)

pub waits_from : ByStampIsOrdered → (h : ℕ) (lanes : List Parts) → AllByRecursion (λ (l : Parts). AllByRecursion (λ (r : Record). h ≤ r.stamp) l.waiting) lanes
    → AllFrom h (merged (map waiting_of lanes))
waits_from ordered h lanes all = by_stamp_every ordered (λ (a : Arrival). h ≤ a.frame.stamp) (arrivals_of (map waiting_of lanes)) (waiting_arrivals h lanes all)

-- a cut lane is parted
pub cut_parted : (h : ℕ) (lanes : List Parts) → AllByRecursion (IsCut h) lanes → AllByRecursion (IsParted h) lanes
cut_parted h [] cut = tt
cut_parted h (l ∷ lanes) cut = ((cut.0.gone, cut.0.waiting), cut_parted h lanes cut.1)
