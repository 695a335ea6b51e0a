-- The load of a port as its links come one by one.
use Rattle.std.proofs.Common.{◌≡◌, ℕ, ◌+◌, ◌≤◌, ◌<◌, max, Bool, true, false, not, cond, List, [], ◌∷◌, ◌++◌, take, get_or, length, refl, sym, ap, ◌∙◌, arith}
use Rattle.std.specs.Prelude.{filter, sum_by, count_by}
use Rattle.std.proofs.lemmas.List.{append-nil, length-take}
use Rattle.std.proofs.lemmas.List.Elements.{filter-append, filter_more}
use Rattle.std.proofs.lemmas.List.Sums.{sum_by_push, length-filter, count_by-le-length}
use Rattle.std.proofs.lemmas.List.Filters.{length-filter_both}
use Rattle.std.proofs.lemmas.List.Recursion.{max_push}
use Rattle.afdx_units.specs.declared.line.Speed.{Speed}
use Rattle.afdx_units.specs.declared.line.Priority.{Priority}
use Rattle.afdx_units.specs.declared.line.Priority.TheVariants.{High, Low}
use Rattle.afdx_table.specs.Link.{Link, leads_to}
use Rattle.afdx_units.specs.Line.{is_high}
use Rattle.afdx_load.specs.Load.{is_high_link, is_low_link, routed, rate_of, burst_of, time_of, greatest, Load, links_load, asked_of}
use Rattle.afdx_load.specs.Inner.Adding.{counted, with_link}

count-push : (p : Link → Bool) (links : List Link) (link : Link) (b : Bool) → p link ≡ b → count_by p (links ++ link ∷ []) ≡ count_by p links + cond b 1 0
count-push p links link b h = sum_by_push (λ (l : Link). cond (p l) 1 0) links link ∙ ap (λ (v : Bool). count_by p links + cond v 1 0) h

filter-push : (p : Link → Bool) (links : List Link) (link : Link) (b : Bool) → p link ≡ b → filter p (links ++ link ∷ []) ≡ filter p links ++ cond b (link ∷ []) []
filter-push p links link b h = filter-append p links (link ∷ []) ∙ ap (λ (v : Bool). filter p links ++ cond v (link ∷ []) []) h

kept : (p : Link → Bool) (links : List Link) (link : Link) → p link ≡ true → filter p (links ++ link ∷ []) ≡ filter p links ++ link ∷ []
kept p links link h = filter-push p links link true h

left : (p : Link → Bool) (links : List Link) (link : Link) → p link ≡ false → filter p (links ++ link ∷ []) ≡ filter p links
left p links link h = filter-push p links link false h ∙ append-nil (filter p links)

greatest-push : (f : Link → ℕ) (links : List Link) (link : Link) → greatest f (links ++ link ∷ []) ≡ max (greatest f links) (f link)
greatest-push f links link = max_push (greatest f) f refl (λ _ _. refl) links link

same : (a a' b b' c c' d d' e e' f f' g g' h h' : ℕ) → a ≡ a' → b ≡ b' → c ≡ c' → d ≡ d' → e ≡ e' → f ≡ f' → g ≡ g' → h ≡ h'
    → let s : Load = record { highs = a; lows = b; rate = c; high_rate = d; burst = e; high_burst = f; largest = g; low_largest = h; latency = 0 } in
    let t : Load = record { highs = a'; lows = b'; rate = c'; high_rate = d'; burst = e'; high_burst = f'; largest = g'; low_largest = h'; latency = 0 } in s ≡ t
same a a' b b' c c' d d' e e' f f' g g' h h' p1 p2 p3 p4 p5 p6 p7 p8 = cc

push_as : (speed : Speed) (links : List Link) (link : Link) (priority : Priority) → link.priority ≡ priority
    → links_load speed (links ++ link ∷ []) ≡ counted priority (rate_of speed link) (burst_of speed link) (time_of speed link) (links_load speed links)
unfolding links_load
push_as speed links link High is =
    let high : is_high_link link ≡ true = ap is_high is in
    let low : is_low_link link ≡ false = ap not high in
    same _ _ _ _ _ _ _ _ _ _ _ _ _ _ _ _
    (count-push is_high_link links link true high)
    (count-push is_low_link links link false low ∙ omega arith)
    (sum_by_push (rate_of speed) links link)
    (ap (sum_by (rate_of speed)) (kept is_high_link links link high) ∙ sum_by_push (rate_of speed) (filter is_high_link links) link)
    (sum_by_push (burst_of speed) links link)
    (ap (sum_by (burst_of speed)) (kept is_high_link links link high) ∙ sum_by_push (burst_of speed) (filter is_high_link links) link)
    (greatest-push (time_of speed) links link)
    (ap (greatest (time_of speed)) (left is_low_link links link low))
push_as speed links link Low is =
    let high : is_high_link link ≡ false = ap is_high is in
    let low : is_low_link link ≡ true = ap not high in
    same _ _ _ _ _ _ _ _ _ _ _ _ _ _ _ _
    (count-push is_high_link links link false high ∙ omega arith)
    (count-push is_low_link links link true low)
    (sum_by_push (rate_of speed) links link)
    (ap (sum_by (rate_of speed)) (left is_high_link links link high))
    (sum_by_push (burst_of speed) links link)
    (ap (sum_by (burst_of speed)) (left is_high_link links link high))
    (greatest-push (time_of speed) links link)
    (ap (greatest (time_of speed)) (kept is_low_link links link low) ∙ greatest-push (time_of speed) (filter is_low_link links) link)

pub sums-push : (speed : Speed) (links : List Link) (link : Link) → links_load speed (links ++ link ∷ []) ≡ with_link speed (links_load speed links) link
sums-push speed links link = push_as speed links link link.priority refl

some : (speed : Speed) (links : List Link) (link : Link) (b : Bool) → links_load speed (links ++ cond b (link ∷ []) [])
    ≡ cond b (with_link speed (links_load speed links) link) (links_load speed links)
some speed links link true = sums-push speed links link
some speed links link false = ap (links_load speed) (append-nil links)

-- one more link of the table
pub load_more : (speed : Speed) (port : ℕ) (links : List Link) (i : ℕ) (link : Link) → i < length links → link ≡ get_or links i link
    → asked_of speed port (take (i + 1) links) ≡ cond (leads_to port link) (with_link speed (asked_of speed port (take i links)) link) (asked_of speed port (take i links))
load_more speed port links i link within is =
    ap (links_load speed) (filter_more (leads_to port) links i link within)
    ∙ some speed (routed port (take i links)) (get_or links i link) (leads_to port (get_or links i link))
    ∙ ap (λ (l : Link). cond (leads_to port l) (with_link speed (asked_of speed port (take i links)) l) (asked_of speed port (take i links))) (sym is)

pub load_none : (speed : Speed) → links_load speed [] ≡ record { highs = 0; lows = 0; rate = 0; high_rate = 0; burst = 0; high_burst = 0; largest = 0; low_largest = 0; latency = 0 }
unfolding links_load
load_none speed = refl

-- the links of a load are all that are counted
pub all_counted : (speed : Speed) (links : List Link) → (links_load speed links).highs + (links_load speed links).lows ≡ length links
unfolding links_load
all_counted speed links = omega (arith, length-filter is_high_link links, length-filter is_low_link links, length-filter_both is_high_link is_low_link (λ _. refl) links)

pub few : (speed : Speed) (port : ℕ) (links : List Link) → (asked_of speed port links).highs + (asked_of speed port links).lows ≤ length links
few speed port links = omega (arith, all_counted speed (routed port links), length-filter (leads_to port) links, count_by-le-length (leads_to port) links)

pub step : (speed : Speed) (port : ℕ) (links : List Link) (i : ℕ) (link : Link) (load next : Load) → i < length links → link ≡ get_or links i link
    → load ≡ asked_of speed port (take i links) → next ≡ cond (leads_to port link) (with_link speed load link) load → next ≡ asked_of speed port (take (i + 1) links)
step speed port links i link load next within is load-is next-is =
    next-is ∙ ap (λ (s : Load). cond (leads_to port link) (with_link speed s link) s) load-is ∙ sym (load_more speed port links i link within is)

pub few_yet : (speed : Speed) (port : ℕ) (links : List Link) (i : ℕ) (load : Load) → i < length links → load ≡ asked_of speed port (take i links) → load.highs + load.lows ≤ i
few_yet speed port links i load within is =
    let e : load.highs + load.lows ≡ (asked_of speed port (take i links)).highs + (asked_of speed port (take i links)).lows = ap (λ (s : Load). s.highs + s.lows) is in
    omega (arith, e, few speed port (take i links), length-take i links)
