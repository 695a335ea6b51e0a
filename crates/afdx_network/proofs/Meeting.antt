-- The lines of all captures, over which one record more comes, and what they tell of all that came.
use Rattle.std.proofs.Common.{◌≡◌, ◌<◌, ◌+◌, ◌==◌, ℕ, zero, suc, Bool, true, false, cond, List, [], ◌∷◌, ◌++◌, length, map, take, set, slice_get, Option, Some, None, option_and_then}
use Rattle.std.proofs.Common.{refl, ap, sym, ◌∙◌, subst, arith, inl, inr}
use Rattle.std.specs.Prelude.{All, option_to_list, ◌⊎◌}
use Rattle.std.proofs.lemmas.Bool.{eq-eqb, ne_eqb}
use Rattle.std.proofs.lemmas.List.{length-map, length-set}
use Rattle.std.proofs.lemmas.Option.{same_Some, slice_get_within}
use Rattle.afdx_units.specs.declared.line.Speed.{Speed}
use Rattle.afdx_pcap.specs.Record.{Record}
use Rattle.afdx_pairing.specs.Events.{Numbered}
use Rattle.afdx_table.specs.declared.rows.PortRow.{PortRow}
use Rattle.afdx_table.specs.Content.{Content, port_row}
use Rattle.afdx_merging.specs.declared.clock.Clock.{Clock}
use Rattle.afdx_merging.specs.declared.merging.Merging.{Merging}
use Rattle.afdx_merging.specs.Merge.{Arrival, arrival_at, at_place, numbered_from}
use Rattle.afdx_merging.specs.Inner.Merging.{HasMerged}
use Rattle.afdx_merging.proofs.Timed.{there_at, all_last}
use Rattle.afdx_session.specs.Lined.{RecordsKeepToLineWithin}
use Rattle.afdx_wiring.specs.declared.layout.End.{End}
use Rattle.afdx_network_check.specs.Net.{Network, port_at, stamp_rounding}
use Rattle.afdx_network.specs.declared.line.Line.{Line}
use Rattle.afdx_network.specs.Given.{open_ends, IsBreachAt}
use Rattle.afdx_network.specs.Inner.Intake.{records_at, AreMet, IsOverItsLine, AreOverLines, BreaksALine}
use Rattle.afdx_network.specs.Inner.OneLine.{HasBrought, IsFirstBroken}
use Rattle.afdx_network.proofs.Found.{all_at}
use Rattle.afdx_network.proofs.OpenEnds.{mapped, open_there}
use Rattle.afdx_network.proofs.Started.{row_of}

-- ---- the number of a record

numbers : (n : ℕ) (c : Clock) (given more : List Numbered) (rs : List Record) → given ++ more ≡ numbered_from n c rs → (k : ℕ) (m : Numbered) → slice_get given k ≡ Some m → m.number ≡ n + k
numbers n c [] more rs is k m at = absurd cc
numbers n c (x ∷ given) more [] is k m at = absurd cc
numbers n c (x ∷ given) more (r ∷ rs) is zero m at = ap (λ (y : Numbered). y.number) (sym (same_Some x m at) ∙ head_is is) ∙ first where
  head_is : {a b : Numbered} {xs ys : List Numbered} → a ∷ xs ≡ b ∷ ys → a ≡ b
  head_is e = cc

  first : n ≡ n + 0
  first = omega arith
numbers n c (x ∷ given) more (r ∷ rs) is (suc k) m at = numbers (n + 1) c given more rs (tail_is is) k m at ∙ further where
  tail_is : {a b : Numbered} {xs ys : List Numbered} → a ∷ xs ≡ b ∷ ys → xs ≡ ys
  tail_is e = cc

  further : (n + 1) + k ≡ n + suc k
  further = omega arith

last_there : (place : ℕ) (came : List Arrival) (a : Arrival) → a.place ≡ place → slice_get (at_place place (came ++ a ∷ [])) (length (at_place place came)) ≡ Some a
last_there place [] a is = ap (λ t. slice_get (cond t (a ∷ []) []) 0) (eq-eqb a.place place is)
last_there place (b ∷ came) a is = by (b.place == place) (last_there place came a is) where
  by : (t : Bool) → slice_get (at_place place (came ++ a ∷ [])) (length (at_place place came)) ≡ Some a
      → slice_get (cond t (b ∷ at_place place (came ++ a ∷ [])) (at_place place (came ++ a ∷ []))) (length (cond t (b ∷ at_place place came) (at_place place came))) ≡ Some a
  by true rest = rest
  by false rest = rest

-- that of the next one is one more than so many have come of its capture
pub next_number : {R Z : Type 0} (remaining : R → Option (List ℕ)) (clocks : List Clock) (first now : List R) (m : Merging Z) (came : List Arrival) (a : Arrival)
    → HasMerged remaining clocks first now m (came ++ a ∷ []) → a.head.number ≡ length (records_at a.place came) + 1
next_number remaining clocks first now m came a merged =
    let lt = all_last (λ (b : Arrival). b.place < length clocks) came a merged.within in
    let c = there_at clocks a.place lt in
    let f = there_at first a.place (let long = merged.long in omega (arith, lt, long)) in
    let r = there_at now a.place (let long = merged.readers in omega (arith, lt, long)) in
    let l = there_at m.lanes.items a.place (let long = merged.many in omega (arith, lt, long)) in
    let is = merged.each a.place c.0 f.0 r.0 l.0 c.1 f.1 r.1 l.1 in
    let has = is.read.has in
    let at = mapped (arrival_at a.place c.0) is.given (length (at_place a.place came)) a
    (ap (λ (items : List Arrival). slice_get items (length (at_place a.place came))) (sym is.are) ∙ last_there a.place came a refl) in
    let number : at.0.number ≡ 1 + length (at_place a.place came)
    = numbers 1 l.0.clock is.given (option_to_list l.0.head) has.records has.numbered (length (at_place a.place came)) at.0 at.1 in
    let same : at.0.number ≡ a.head.number = ap (λ (b : Arrival). b.head.number) at.2 in
    omega (arith, number, same, length-map (at_place a.place came) (λ (b : Arrival). b.head.frame))

-- ---- one record more

came_here : (a : Arrival) (came : List Arrival) (place : ℕ) → a.place ≡ place → records_at place (came ++ a ∷ []) ≡ records_at place came ++ a.head.frame ∷ []
came_here a [] place is = ap (λ t. map (λ (b : Arrival). b.head.frame) (cond t (a ∷ []) [])) (eq-eqb a.place place is)
came_here a (b ∷ came) place is = by (b.place == place) (came_here a came place is) where
  by : (t : Bool) → records_at place (came ++ a ∷ []) ≡ records_at place came ++ a.head.frame ∷ []
      → map (λ (x : Arrival). x.head.frame) (cond t (b ∷ at_place place (came ++ a ∷ [])) (at_place place (came ++ a ∷ [])))
      ≡ map (λ (x : Arrival). x.head.frame) (cond t (b ∷ at_place place came) (at_place place came)) ++ a.head.frame ∷ []
  by true rest = ap (λ (rs : List Record). b.head.frame ∷ rs) rest
  by false rest = rest

came_elsewhere : (a : Arrival) (came : List Arrival) (place : ℕ) → (a.place ≡ place → ⊥) → records_at place (came ++ a ∷ []) ≡ records_at place came
came_elsewhere a [] place other = ap (λ t. map (λ (b : Arrival). b.head.frame) (cond t (a ∷ []) [])) (ne_eqb a.place place other)
came_elsewhere a (b ∷ came) place other = by (b.place == place) (came_elsewhere a came place other) where
  by : (t : Bool) → records_at place (came ++ a ∷ []) ≡ records_at place came
      → map (λ (x : Arrival). x.head.frame) (cond t (b ∷ at_place place (came ++ a ∷ [])) (at_place place (came ++ a ∷ [])))
      ≡ map (λ (x : Arrival). x.head.frame) (cond t (b ∷ at_place place came) (at_place place came))
  by true rest = ap (λ (rs : List Record). b.head.frame ∷ rs) rest
  by false rest = rest

-- what is at a place after a write was there, or was written there
put_there : {X : Type 0} (xs : List X) (k j : ℕ) (new x : X) → slice_get (set xs k new) j ≡ Some x → ((j ≡ k) × (x ≡ new)) ⊎ ((k ≡ j → ⊥) × (slice_get xs j ≡ Some x))
put_there [] k j new x is = absurd cc
put_there (y ∷ ys) zero zero new x is = inl (refl, sym (same_Some new x is))
put_there (y ∷ ys) zero (suc j) new x is = inr (λ same. omega (arith, same), is)
put_there (y ∷ ys) (suc k) zero new x is = inr (λ same. omega (arith, same), is)
put_there (y ∷ ys) (suc k) (suc j) new x is = by (put_there ys k j new x is) where
  by : ((j ≡ k) × (x ≡ new)) ⊎ ((k ≡ j → ⊥) × (slice_get ys j ≡ Some x)) → ((suc j ≡ suc k) × (x ≡ new)) ⊎ ((suc k ≡ suc j → ⊥) × (slice_get ys j ≡ Some x))
  by (inl here) = inl (ap suc here.0, here.1)
  by (inr there) = inr (λ same. there.0 (omega (arith, same)), there.1)

pub meets_one : (net : Network) (lines : List Line) (came : List Arrival) (a : Arrival) (line new : Line) → slice_get lines a.place ≡ Some line → new.speed ≡ line.speed
    → ((records : List Record) → a.head.number ≡ length records + 1 → HasBrought line records → HasBrought new (records ++ a.head.frame ∷ []))
    → a.head.number ≡ length (records_at a.place came) + 1 → AreMet net lines came → AreMet net (set lines a.place new) (came ++ a ∷ [])
meets_one net lines came a line new at speed on number met = record {
  formed = met.formed;
  many = length-set lines a.place new ∙ met.many;
  each = λ place l e row there end is. by place l e row end is (put_there lines a.place place new l there);
} where
  by : (place : ℕ) (l : Line) (e : End) (row : PortRow) → slice_get (open_ends net) place ≡ Some e → port_at net e ≡ Some row
      → ((place ≡ a.place) × (l ≡ new)) ⊎ ((a.place ≡ place → ⊥) × (slice_get lines place ≡ Some l)) → (l.speed ≡ row.speed) × HasBrought l (records_at place (came ++ a ∷ []))
  by place l e row end is (inl here) =
      let was = met.each a.place line e row at (ap (slice_get (open_ends net)) (sym here.0) ∙ end) is in
      subst (λ (x : Line). (x.speed ≡ row.speed) × HasBrought x (records_at place (came ++ a ∷ []))) (sym here.1) (
        speed ∙ was.0,
        subst (HasBrought new) (sym (came_here a came place (sym here.0) ∙ ap (λ (k : ℕ). records_at k came ++ a.head.frame ∷ []) here.0)) (on (records_at a.place came) number was.1),
      )
  by place l e row end is (inr there) =
      let was = met.each place l e row there.1 end is in
      (was.0, subst (HasBrought l) (sym (came_elsewhere a came place there.0)) was.1)

pub meets_none : (net : Network) (lines : List Line) (came : List Arrival) (a : Arrival) → slice_get lines a.place ≡ None → AreMet net lines came → AreMet net lines (came ++ a ∷ [])
meets_none net lines came a at met = record {
  formed = met.formed;
  many = met.many;
  each = λ place l e row there end is.
      let was = met.each place l e row there end is in
      (was.0, subst (HasBrought l) (sym (came_elsewhere a came place (λ same. nothing l (sym at ∙ ap (slice_get lines) same ∙ there)))) was.1);
} where
  nothing : (l : Line) → None ≡ Some l → ⊥
  nothing l is = cc

-- ---- what the lines tell

pub met_over : (net : Network) (lines : List Line) (came : List Arrival) (place : ℕ) (line : Line) → AreMet net lines came → slice_get lines place ≡ Some line → line.breach ≡ None
    → IsOverItsLine net came place
met_over net lines came place line met at none e row end is =
    let was = met.each place line e row at end is in
    subst (λ (speed : Speed). RecordsKeepToLineWithin stamp_rounding speed (records_at place came)) was.0 (was.1.kept none).0

all_lines : (net : Network) (lines : List Line) (came : List Arrival) → AreMet net lines came → net.layout.one_line ≡ true → length lines ≡ length (open_ends net)
all_lines net lines came met said = met.many ∙ ap (λ b. cond b (length (open_ends net)) 0) said

pub all_over : (net : Network) (lines : List Line) (came : List Arrival) → AreMet net lines came → All (λ (line : Line). line.breach ≡ None) lines → AreOverLines net came
all_over net lines came met none said place e row end is =
    let many = all_lines net lines came met said in
    let line = there_at lines place (let lt = slice_get_within (open_ends net) place e end in omega (arith, many, lt)) in
    met_over net lines came place line.0 met line.1 (all_at (λ (l : Line). l.breach ≡ None) lines place line.0 none line.1) e row end is

-- where there is a line, the file says so
pub line_said : (net : Network) (lines : List Line) (came : List Arrival) (place : ℕ) (line : Line) → AreMet net lines came → slice_get lines place ≡ Some line → net.layout.one_line ≡ true
line_said net lines came place line met at = by (net.layout.one_line) refl where
  by : (b : Bool) → net.layout.one_line ≡ b → net.layout.one_line ≡ true
  by true is = is
  by false is =
      let lt = slice_get_within lines place line at in
      let many : length lines ≡ 0 = met.many ∙ ap (λ b. cond b (length (open_ends net)) 0) is in
      absurd (omega (arith, lt, many))

pub place_open : (net : Network) (lines : List Line) (came : List Arrival) (place : ℕ) (line : Line) → AreMet net lines came → slice_get lines place ≡ Some line → place < length (open_ends net)
place_open net lines came place line met at =
    let many = all_lines net lines came met (line_said net lines came place line met at) in
    let lt = slice_get_within lines place line at in
    omega (arith, many, lt)

front_at : {X : Type 0} (xs : List X) (n k : ℕ) (x : X) → k < n → slice_get xs k ≡ Some x → slice_get (take n xs) k ≡ Some x
front_at [] n k x lt is = absurd cc
front_at (y ∷ ys) zero k x lt is = absurd (omega (arith, lt))
front_at (y ∷ ys) (suc n) zero x lt is = is
front_at (y ∷ ys) (suc n) (suc k) x lt is = front_at ys n k x (omega (arith, lt)) is

-- the row of a port to which no wire goes
pub open_row : (net : Network) (place : ℕ) (e : End) → slice_get (open_ends net) place ≡ Some e → (row : PortRow) × (port_at net e ≡ Some row)
open_row net place e end =
    let o = open_there net 0 net.tables place e end in
    let row = row_of o.table.ports e.port o.among in
    let number : e.switch ≡ o.place = let is = o.switch_is in omega (arith, is) in
    (row.0, ap (option_and_then (λ (t : Content). port_row t e.port)) (ap (slice_get net.tables) number ∙ o.table_is) ∙ row.1)

pub first_broken : (net : Network) (lines : List Line) (came : List Arrival) (place number : ℕ) (e : End) → AreMet net lines came → IsFirstBroken lines place number
    → slice_get (open_ends net) place ≡ Some e → BreaksALine net came e.switch e.port number
first_broken net lines came place number e met b end = record {
  said = said;
  formed = met.formed said;
  place = place;
  end_is = end;
  before = λ k lt.
      let line = there_at lines k (let within = slice_get_within lines place b.line b.line_is in omega (arith, lt, within)) in
      met_over net lines came k line.0 met line.1 (all_at (λ (l : Line). l.breach ≡ None) (take place lines) k line.0 b.before (front_at lines place k line.0 lt line.1));
  row = row.0;
  row_is = row.1;
  breach = subst (λ (speed : Speed). IsBreachAt speed (records_at place came) number) was.0 (was.1.broken number b.broken);
} where
  said : net.layout.one_line ≡ true
  said = line_said net lines came place b.line met b.line_is

  row : (row : PortRow) × (port_at net e ≡ Some row)
  row = open_row net place e end

  was : (b.line.speed ≡ row.0.speed) × HasBrought b.line (records_at place came)
  was = met.each place b.line e row.0 b.line_is end row.1
