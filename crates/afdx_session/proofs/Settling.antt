-- The settled prefix of the program's merge stays.
use Rattle.std.proofs.Common.{◌≡◌, ℕ, ◌<◌, ◌≤◌, ◌==◌, nat_le, Bool, true, false, cond, List, [], ◌∷◌, ◌++◌, map, filter, refl, ap, sym, ◌∙◌, arith, inl, inr, subst, append_assoc}
use Rattle.std.specs.Prelude.{◌⊎◌}
use Rattle.std.specs.List.{AllByRecursion}
use Rattle.std.proofs.lemmas.List.{append-nil, map-append}
use Rattle.std.proofs.lemmas.List.Elements.{filter-append, All-from_recursion, recursion_from_All, All-weaker}
use Rattle.std.proofs.lemmas.Bool.{cases_Bool, cases_lt, eqb-true, both_ways}
use Rattle.afdx_pcap.specs.Record.{Record}
use Rattle.afdx_core.specs.Merge.{Arrival, Capture, Rises, records_of, arrivals_of, placed, by_stamp, merged}
use Rattle.afdx_core.specs.Inner.Merge.{part_at, ByStampIsOrdered, MergedIsAMerge, Precedes, AreByStampAndPort, PortsRise as NumbersRise, MergedIsByStampAndPort}
use Rattle.afdx_session.specs.Streams.{Stream, capture_of, captures_of, last_of, merged_so_far, GoesOn, GoOn}
use Rattle.afdx_session.specs.Inner.Settled.{Ascend, ports_of, ComesBefore, IsSettled, AreQueued, IsSettling, AllWait, AllRise}
use Rattle.afdx_session.proofs.Joining.{by_stamp_every}
use Rattle.afdx_session.proofs.Numbered.{all_append, higher_differs}
use Rattle.afdx_session.proofs.OneMerge.{merge_is_unique}
use Rattle.afdx_session.proofs.Growing.{further_of, last_grows, rises_back}

-- ---- what holds of all

pub all_prefix : {X : Type 0} (P : X → Type 0) (xs ys : List X) → AllByRecursion P (xs ++ ys) → AllByRecursion P xs
all_prefix P [] ys all = tt
all_prefix P (x ∷ xs) ys all = (all.0, all_prefix P xs ys all.1)

pub all_back : {X : Type 0} (P : X → Type 0) (xs ys : List X) → AllByRecursion P (xs ++ ys) → AllByRecursion P ys
all_back P [] ys all = all
all_back P (x ∷ xs) ys all = all_back P xs ys all.1

placed_out : (P : Arrival → Type 0) (a : Arrival) (xs : List Arrival) → AllByRecursion P (placed a xs) → P a × AllByRecursion P xs
placed_out P a [] all = (all.0, tt)
placed_out P a (b ∷ xs) all =
    elim (cases_Bool (nat_le a.frame.stamp b.frame.stamp)) [
      | inl sooner ↦ let both = rw sooner at all in (both.0, both.1)
      | inr after ↦ let both = rw after at all in let more = placed_out P a xs both.1 in (more.0, (both.0, more.1))
    ]

pub by_stamp_out : (P : Arrival → Type 0) (xs : List Arrival) → AllByRecursion P (by_stamp xs) → AllByRecursion P xs
by_stamp_out P [] all = tt
by_stamp_out P (a ∷ xs) all = let both = placed_out P a (by_stamp xs) all in (both.0, by_stamp_out P xs both.1)

-- ---- lists by stamp and port number

sorted_prefix : (xs ys : List Arrival) → AreByStampAndPort (xs ++ ys) → AreByStampAndPort xs
sorted_prefix [] ys sorted = tt
sorted_prefix (x ∷ xs) ys sorted = (all_prefix (λ b. Precedes x b) xs ys sorted.0, sorted_prefix xs ys sorted.1)

sorted_cross : (xs ys : List Arrival) → AreByStampAndPort (xs ++ ys) → AllByRecursion (λ a. AllByRecursion (λ b. Precedes a b) ys) xs
sorted_cross [] ys sorted = tt
sorted_cross (x ∷ xs) ys sorted = (all_back (λ b. Precedes x b) xs ys sorted.0, sorted_cross xs ys sorted.1)

sorted_join : (xs ys : List Arrival) → AreByStampAndPort xs → AreByStampAndPort ys → AllByRecursion (λ a. AllByRecursion (λ b. Precedes a b) ys) xs → AreByStampAndPort (xs ++ ys)
sorted_join [] ys sorted ordered cross = ordered
sorted_join (x ∷ xs) ys sorted ordered cross = (all_append (λ b. Precedes x b) xs ys sorted.0 cross.0, sorted_join xs ys sorted.1 ordered cross.1)

-- ---- captures by rising port number

abbrev pub arrived : ℕ → List Record → List Arrival
arrived port rs = map (λ (r : Record). record { port = port; frame = r }) rs

pub all_arrived : (P : Arrival → Type 0) (port : ℕ) (rs : List Record) → AllByRecursion (λ (r : Record). P (record { port = port; frame = r })) rs → AllByRecursion P (arrived port rs)
all_arrived P port [] all = tt
all_arrived P port (r ∷ rs) all = (all.0, all_arrived P port rs all.1)

pub always : {X : Type 0} (P : X → Type 0) (xs : List X) → ((x : X) → P x) → AllByRecursion P xs
always P [] h = tt
always P (x ∷ xs) h = (h x, always P xs h)

later_ports : (n : ℕ) (cs : List Capture) → AllByRecursion (λ m. n < m) (ports_of cs) → AllByRecursion (λ (b : Arrival). n ≤ b.port) (arrivals_of cs)
later_ports n [] all = tt
later_ports n (c ∷ cs) all =
    let le : n ≤ c.port = omega (arith, all.0) in
    all_append (λ (b : Arrival). n ≤ b.port) (arrived c.port c.records) (arrivals_of cs)
    (all_arrived (λ (b : Arrival). n ≤ b.port) c.port c.records (always (λ (r : Record). n ≤ c.port) c.records (λ r. le)))
    (later_ports n cs all.1)

numbers_of : (port : ℕ) (rs : List Record) (others : List Arrival) → AllByRecursion (λ (b : Arrival). port ≤ b.port) others → NumbersRise others → NumbersRise (arrived port rs ++ others)
numbers_of port [] others all rise = rise
numbers_of port (r ∷ rs) others all rise = (
  all_append (λ (b : Arrival). port ≤ b.port) (arrived port rs) others (all_arrived (λ (b : Arrival). port ≤ b.port) port rs (always (λ (q : Record). port ≤ port) rs (λ q. omega arith))) all,
  numbers_of port rs others all rise,
)

pub numbers_rise : (cs : List Capture) → Ascend (ports_of cs) → NumbersRise (arrivals_of cs)
numbers_rise [] ascend = tt
numbers_rise (c ∷ cs) ascend = numbers_of c.port c.records (arrivals_of cs) (later_ports c.port cs ascend.0) (numbers_rise cs ascend.1)

none_at : (q : ℕ) (cs : List Capture) → AllByRecursion (λ m. q < m) (ports_of cs) → records_of cs q ≡ []
none_at q [] all = refl
none_at q (c ∷ cs) all = ap (λ b. cond b c.records [] ++ records_of cs q) (higher_differs q c.port all.0) ∙ none_at q cs all.1

at-own : (q : ℕ) (c : Capture) (cs : List Capture) → (c.port == q) ≡ true → AllByRecursion (λ m. c.port < m) (ports_of cs) → records_of (c ∷ cs) q ≡ c.records
at-own q c cs own all =
    ap (λ b. cond b c.records [] ++ records_of cs q) own
    ∙ ap (λ rs. c.records ++ rs) (none_at q cs (subst (λ n. AllByRecursion (λ m. n < m) (ports_of cs)) (eqb-true c.port q own) all))
    ∙ append-nil c.records

at-other : (q : ℕ) (c : Capture) (cs : List Capture) → (c.port == q) ≡ false → records_of (c ∷ cs) q ≡ records_of cs q
at-other q c cs other = ap (λ b. cond b c.records [] ++ records_of cs q) other

pub rises_at : (cs : List Capture) → Ascend (ports_of cs) → AllRise cs → (q : ℕ) → Rises (records_of cs q)
rises_at [] ascend rise q = tt
rises_at (c ∷ cs) ascend rise q = by_port (c.port == q) refl (rises_at cs ascend.1 rise.1 q) where
  by_port : (b : Bool) → (c.port == q) ≡ b → Rises (records_of cs q) → Rises (records_of (c ∷ cs) q)
  by_port true own others = subst Rises (sym (at-own q c cs own ascend.0)) rise.0
  by_port false other others = subst Rises (sym (at-other q c cs other)) others

-- ---- captures that go on

pub rises_prefix : (rs more : List Record) → Rises (rs ++ more) → Rises rs
rises_prefix [] more rises = tt
rises_prefix (r ∷ rs) more rises = (all_prefix (λ (q : Record). r.stamp ≤ q.stamp) rs more rises.0, rises_prefix rs more rises.1)

-- their ports stay, and their stamps do not fall
pub record Shape (streams later : List Stream) (waiting more : List Capture) : Type 0 where
  pub later_ports : ports_of (captures_of later) ≡ ports_of (captures_of streams)
  pub waiting_ports : ports_of waiting ≡ ports_of (captures_of streams)
  pub more_ports : ports_of more ≡ ports_of (captures_of streams)
  pub rise : AllRise (captures_of streams)
  pub later_rise : AllRise (captures_of later)
  pub waiting_rise : AllRise waiting
  pub more_rise : AllRise more
  pub more_queued : AreQueued later more
  pub go_on : GoOn streams later

shape : (streams later : List Stream) (waiting more : List Capture) → AllWait streams later waiting more → AreQueued streams waiting → Shape streams later waiting more
shape [] [] [] [] wait queued = record { later_ports = refl; waiting_ports = refl; more_ports = refl; rise = tt; later_rise = tt; waiting_rise = tt; more_rise = tt; more_queued = tt; go_on = tt }
shape [] [] [] (v ∷ more) wait queued = absurd wait
shape [] [] (w ∷ waiting) more wait queued = absurd wait
shape [] (n ∷ later) waiting more wait queued = absurd wait
shape (s ∷ streams) [] waiting more wait queued = absurd wait
shape (s ∷ streams) (n ∷ later) [] more wait queued = absurd wait
shape (s ∷ streams) (n ∷ later) (w ∷ waiting) [] wait queued = absurd wait
shape (s ∷ streams) (n ∷ later) (w ∷ waiting) (v ∷ more) wait queued =
    let tail = shape streams later waiting more wait.1 queued.1 in
    let here = wait.0 in
    let own = queued.0 in
    let rest : n.records ≡ own.gone ++ v.records =
    here.on.records ∙ ap (λ rs. rs ++ here.on.more) own.records ∙ append_assoc own.gone w.records here.on.more ∙ ap (λ rs. own.gone ++ rs) (sym here.queue) in
    let rises : Rises (s.records ++ here.on.more) = subst Rises here.on.records here.on.in_order in
    let prefix : Rises s.records = rises_prefix s.records here.on.more rises in
    record {
      later_ports = ap (λ p. p ∷ ports_of (captures_of later)) here.on.port ∙ ap (λ ps. s.port ∷ ps) tail.later_ports;
      waiting_ports = ap (λ p. p ∷ ports_of waiting) own.port ∙ ap (λ ps. s.port ∷ ps) tail.waiting_ports;
      more_ports = ap (λ p. p ∷ ports_of more) here.port ∙ ap (λ ps. s.port ∷ ps) tail.more_ports;
      rise = (prefix, tail.rise);
      later_rise = (here.on.in_order, tail.later_rise);
      waiting_rise = (rises_back own.gone w.records (subst Rises own.records prefix), tail.waiting_rise);
      more_rise = (rises_back own.gone v.records (subst Rises rest here.on.in_order), tail.more_rise);
      more_queued = (record { port = here.port ∙ sym here.on.port; gone = own.gone; records = rest }, tail.more_queued);
      go_on = (here.on, tail.go_on);
    }

-- what a port gets and what waits there is one and the same more
pub record IsMore (streams later : List Stream) (waiting more : List Capture) (q : ℕ) : Type 0 where
  pub added : List Record
  pub come : records_of (captures_of later) q ≡ records_of (captures_of streams) q ++ added
  pub queue : records_of more q ≡ records_of waiting q ++ added

is_more : (streams later : List Stream) (waiting more : List Capture) (q : ℕ) → Ascend (ports_of (captures_of streams)) → AllWait streams later waiting more → AreQueued streams waiting
    → IsMore streams later waiting more q
is_more [] [] [] [] q ascend wait queued = record { added = []; come = refl; queue = refl }
is_more [] [] [] (v ∷ more) q ascend wait queued = absurd wait
is_more [] [] (w ∷ waiting) more q ascend wait queued = absurd wait
is_more [] (n ∷ later) waiting more q ascend wait queued = absurd wait
is_more (s ∷ streams) [] waiting more q ascend wait queued = absurd wait
is_more (s ∷ streams) (n ∷ later) [] more q ascend wait queued = absurd wait
is_more (s ∷ streams) (n ∷ later) (w ∷ waiting) [] q ascend wait queued = absurd wait
is_more (s ∷ streams) (n ∷ later) (w ∷ waiting) (v ∷ more) q ascend wait queued = by_port (s.port == q) refl (is_more streams later waiting more q ascend.1 wait.1 queued.1) where
  tail : Shape streams later waiting more
  tail = shape streams later waiting more wait.1 queued.1

  own : {p : ℕ} → p ≡ s.port → {b : Bool} → (s.port == q) ≡ b → (p == q) ≡ b
  own {p} same {b} is = ap (λ n. n == q) same ∙ is

  above : (p : ℕ) (ps : List ℕ) → p ≡ s.port → ps ≡ ports_of (captures_of streams) → AllByRecursion (λ m. p < m) ps
  above p ps same others = subst (λ n. AllByRecursion (λ m. n < m) ps) (sym same) (subst (λ ns. AllByRecursion (λ m. s.port < m) ns) (sym others) ascend.0)

  by_port : (b : Bool) → (s.port == q) ≡ b → IsMore streams later waiting more q → IsMore (s ∷ streams) (n ∷ later) (w ∷ waiting) (v ∷ more) q
  by_port true is ih = record {
    added = wait.0.on.more;
    come =
        at-own q (capture_of n) (captures_of later) (own wait.0.on.port is) (above n.port (ports_of (captures_of later)) wait.0.on.port tail.later_ports)
        ∙ wait.0.on.records
        ∙ ap (λ rs. rs ++ wait.0.on.more) (sym (at-own q (capture_of s) (captures_of streams) is ascend.0));
    queue =
        at-own q v more (own wait.0.port is) (above v.port (ports_of more) wait.0.port tail.more_ports)
        ∙ wait.0.queue
        ∙ ap (λ rs. rs ++ wait.0.on.more) (sym (at-own q w waiting (own queued.0.port is) (above w.port (ports_of waiting) queued.0.port tail.waiting_ports)));
  }
  by_port false is ih = record {
    added = ih.added;
    come = at-other q (capture_of n) (captures_of later) (own wait.0.on.port is) ∙ ih.come ∙ ap (λ rs. rs ++ ih.added) (sym (at-other q (capture_of s) (captures_of streams) is));
    queue = at-other q v more (own wait.0.port is) ∙ ih.queue ∙ ap (λ rs. rs ++ ih.added) (sym (at-other q w waiting (own queued.0.port is)));
  }

-- ---- what was given comes before what comes

settled_precedes : (a : Arrival) (s : Stream) (rs : List Record) → (a.frame.stamp < last_of s) ⊎ ((a.frame.stamp ≡ last_of s) × (a.port ≤ s.port))
    → AllByRecursion (λ (r : Record). last_of s ≤ r.stamp) rs
    → AllByRecursion (λ (r : Record). Precedes a (record { port = s.port; frame = r })) rs
settled_precedes a s [] by all = tt
settled_precedes a s (r ∷ rs) by all = (one by all.0, settled_precedes a s rs by all.1) where
  one : (a.frame.stamp < last_of s) ⊎ ((a.frame.stamp ≡ last_of s) × (a.port ≤ s.port)) → last_of s ≤ r.stamp → Precedes a (record { port = s.port; frame = r })
  one (inl lt) le = inl (omega (arith, lt, le))
  one (inr (same, port)) le = elim (cases_lt a.frame.stamp r.stamp) [
    | inl lt ↦ inl lt
    | inr ge ↦ inr (omega (arith, same, le, ge), port)
  ]

more_precedes : (a : Arrival) (s later : Stream) (on : GoesOn s later) → ComesBefore a s → AllByRecursion (λ (r : Record). Precedes a (record { port = s.port; frame = r })) on.more
more_precedes a s later on before = elim (cases_Bool s.closed) [
  | inl closed ↦ subst (λ (rs : List Record). AllByRecursion (λ (r : Record). Precedes a (record { port = s.port; frame = r })) rs) (sym (on.ended closed).0) tt
  | inr still_open ↦ settled_precedes a s on.more (before still_open) (further_of s later on)
]

back_of_arrived : (P : Arrival → Type 0) (port : ℕ) (rs : List Record) → AllByRecursion P (arrived port rs) → AllByRecursion (λ (r : Record). P (record { port = port; frame = r })) rs
back_of_arrived P port [] all = tt
back_of_arrived P port (r ∷ rs) all = (all.0, back_of_arrived P port rs all.1)

cross_more : (a : Arrival) (streams later : List Stream) (waiting more : List Capture) → AllWait streams later waiting more → AreQueued streams waiting → IsSettled streams a
    → AllByRecursion (λ b. Precedes a b) (arrivals_of waiting) → AllByRecursion (λ b. Precedes a b) (arrivals_of more)
cross_more a [] [] [] [] wait queued settled all = tt
cross_more a [] [] [] (v ∷ more) wait queued settled all = absurd wait
cross_more a [] [] (w ∷ waiting) more wait queued settled all = absurd wait
cross_more a [] (n ∷ later) waiting more wait queued settled all = absurd wait
cross_more a (s ∷ streams) [] waiting more wait queued settled all = absurd wait
cross_more a (s ∷ streams) (n ∷ later) [] more wait queued settled all = absurd wait
cross_more a (s ∷ streams) (n ∷ later) (w ∷ waiting) [] wait queued settled all = absurd wait
cross_more a (s ∷ streams) (n ∷ later) (w ∷ waiting) (v ∷ more) wait queued settled all =
    let P : Arrival → Type 0 = λ b. Precedes a b in
    let old : AllByRecursion (λ (r : Record). P (record { port = s.port; frame = r })) w.records =
    subst (λ port. AllByRecursion (λ (r : Record). P (record { port = port; frame = r })) w.records) queued.0.port
    (back_of_arrived P w.port w.records (all_prefix P (arrived w.port w.records) (arrivals_of waiting) all)) in
    let both = all_append (λ (r : Record). P (record { port = s.port; frame = r })) w.records wait.0.on.more old (more_precedes a s n wait.0.on settled.0) in
    let own : AllByRecursion (λ (r : Record). P (record { port = v.port; frame = r })) v.records =
    subst (λ port. AllByRecursion (λ (r : Record). P (record { port = port; frame = r })) v.records) (sym wait.0.port)
    (subst (λ rs. AllByRecursion (λ (r : Record). P (record { port = s.port; frame = r })) rs) (sym wait.0.queue) both) in
    all_append P (arrived v.port v.records) (arrivals_of more) (all_arrived P v.port v.records own)
    (cross_more a streams later waiting more wait.1 queued.1 settled.1 (all_back P (arrived w.port w.records) (arrivals_of waiting) all))

-- and stays settled
still_before : (a : Arrival) (s later : Stream) → GoesOn s later → ComesBefore a s → ComesBefore a later
still_before a s later on before = λ (still_open : later.closed ≡ false). elim (cases_Bool s.closed) [
  | inl closed ↦ absurd (both_ways later.closed still_open (on.ended closed).1)
  | inr was_open ↦ grown (before was_open)
] where
  grown : (a.frame.stamp < last_of s) ⊎ ((a.frame.stamp ≡ last_of s) × (a.port ≤ s.port)) → (a.frame.stamp < last_of later) ⊎ ((a.frame.stamp ≡ last_of later) × (a.port ≤ later.port))
  grown (inl lt) = let le = last_grows s later on in inl (omega (arith, lt, le))
  grown (inr (same, port)) = let le = last_grows s later on in elim (cases_lt a.frame.stamp (last_of later)) [
    | inl lt ↦ inl lt
    | inr ge ↦ inr (omega (arith, same, le, ge), subst (λ n. a.port ≤ n) (sym on.port) port)
  ]

pub still_settled : (a : Arrival) (streams later : List Stream) → GoOn streams later → IsSettled streams a → IsSettled later a
still_settled a [] [] on settled = tt
still_settled a [] (n ∷ later) on settled = absurd on
still_settled a (s ∷ streams) [] on settled = absurd on
still_settled a (s ∷ streams) (n ∷ later) on settled = (still_before a s n on.0 settled.0, still_settled a streams later on.1 settled.1)

-- ---- the law

both_all : {X : Type 0} (P Q R : X → Type 0) (xs : List X) → ((x : X) → P x → Q x → R x) → AllByRecursion P xs → AllByRecursion Q xs → AllByRecursion R xs
both_all P Q R [] h all more = tt
both_all P Q R (x ∷ xs) h all more = (h x all.0 more.0, both_all P Q R xs h all.1 more.1)

part-append : (port : ℕ) (xs ys : List Arrival) → part_at port (xs ++ ys) ≡ part_at port xs ++ part_at port ys
part-append port xs ys = ap (map (λ (a : Arrival). a.frame)) (filter-append (λ (a : Arrival). a.port == port) xs ys)
    ∙ map-append (λ (a : Arrival). a.frame) (filter (λ (a : Arrival). a.port == port) xs) (filter (λ (a : Arrival). a.port == port) ys)

pub settled_stays : ByStampIsOrdered → MergedIsAMerge → MergedIsByStampAndPort → (streams later : List Stream) (given : List Arrival) (waiting more : List Capture)
    → Ascend (ports_of (captures_of streams)) → AllWait streams later waiting more
    → IsSettling streams given waiting → IsSettling later given more
settled_stays ordered merge sorted streams later given waiting more ascend wait old = record {
  queued = s.more_queued;
  whole = merge_is_unique (merged_so_far later) (given ++ merged more)
      (sorted (captures_of later) (numbers_rise (captures_of later) later_ascend))
      (sorted_join given (merged more) (sorted_prefix given (merged waiting) whole_sorted) (sorted more (numbers_rise more more_ascend)) cross)
      parts;
  settled = recursion_from_All (IsSettled later) given
      (All-weaker (IsSettled streams) (IsSettled later) (λ a. still_settled a streams later s.go_on) given (All-from_recursion (IsSettled streams) given old.settled));
} where
  s : Shape streams later waiting more
  s = shape streams later waiting more wait old.queued

  later_ascend : Ascend (ports_of (captures_of later))
  later_ascend = subst Ascend (sym s.later_ports) ascend

  waiting_ascend : Ascend (ports_of waiting)
  waiting_ascend = subst Ascend (sym s.waiting_ports) ascend

  more_ascend : Ascend (ports_of more)
  more_ascend = subst Ascend (sym s.more_ports) ascend

  whole_sorted : AreByStampAndPort (given ++ merged waiting)
  whole_sorted = subst AreByStampAndPort old.whole (sorted (captures_of streams) (numbers_rise (captures_of streams) ascend))

  cross : AllByRecursion (λ a. AllByRecursion (λ b. Precedes a b) (merged more)) given
  cross = both_all (λ a. AllByRecursion (λ b. Precedes a b) (merged waiting)) (IsSettled streams) (λ a. AllByRecursion (λ b. Precedes a b) (merged more)) given
      (λ a all settled. by_stamp_every ordered (λ b. Precedes a b) (arrivals_of more) (cross_more a streams later waiting more wait old.queued settled
      (by_stamp_out (λ b. Precedes a b) (arrivals_of waiting) all)))
      (sorted_cross given (merged waiting) whole_sorted) old.settled

  parts : (q : ℕ) → part_at q (merged_so_far later) ≡ part_at q (given ++ merged more)
  parts q =
      let more_is = is_more streams later waiting more q ascend wait old.queued in
      let before : records_of (captures_of streams) q ≡ part_at q given ++ records_of waiting q =
      sym ((merge (captures_of streams) (rises_at (captures_of streams) ascend s.rise)).parts q)
      ∙ ap (part_at q) old.whole ∙ part-append q given (merged waiting)
      ∙ ap (λ rs. part_at q given ++ rs) ((merge waiting (rises_at waiting waiting_ascend s.waiting_rise)).parts q) in
      (merge (captures_of later) (rises_at (captures_of later) later_ascend s.later_rise)).parts q
      ∙ more_is.come
      ∙ ap (λ rs. rs ++ more_is.added) before
      ∙ append_assoc (part_at q given) (records_of waiting q) more_is.added
      ∙ ap (λ rs. part_at q given ++ rs) (sym more_is.queue ∙ sym ((merge more (rises_at more more_ascend s.more_rise)).parts q))
      ∙ sym (part-append q given (merged more))
