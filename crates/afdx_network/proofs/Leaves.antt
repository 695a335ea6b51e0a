-- What leaves a switch over an accepted table: how long its frames are, and how late they are.
use Rattle.std.proofs.Common.{◌≡◌, ℕ, ◌+◌, ◌<◌, ◌≤◌, ◌==◌, ◌&&◌, nat_lt, Bool, true, false, cond, List, [], ◌∷◌, length, Option, Some, None, IfSome, refl, sym, arith, subst}
use Rattle.std.specs.Prelude.{Contains}
use Rattle.std.specs.List.{AllByRecursion, AllZip}
use Rattle.std.proofs.lemmas.Bool.Decides.{nat_tests}
use Rattle.std.proofs.lemmas.List.Elements.{All-contains}
use Rattle.std.proofs.lemmas.Bool.{eq-eqb}
use Rattle.afdx_units.specs.declared.line.Priority.{Priority}
use Rattle.afdx_units.specs.declared.line.Priority.TheVariants.{High, Low}
use Rattle.afdx_pcap.specs.Record.{Record}
use Rattle.afdx_frame.specs.Address.{link_of}
use Rattle.afdx_table.specs.declared.rows.PortRow.{PortRow}
use Rattle.afdx_table.specs.Link.{Link, leads_to}
use Rattle.afdx_table.specs.Content.{Content}
use Rattle.afdx_table.specs.WellFormed.{IsPort, IsWellFormed}
use Rattle.afdx_table.specs.Inner.Found.{LinksAreFound}
use Rattle.afdx_filter.specs.Frame.{frame_of}
use Rattle.afdx_filter.specs.Inner.Exactly.{CleanExactly}
use Rattle.afdx_load.specs.Load.{Load, load_of, terms_of}
use Rattle.afdx_account.specs.Policing.{parts}
use Rattle.afdx_load.specs.Bounds.{high_bound, low_bound}
use Rattle.afdx_load.specs.Accepted.{Carries, IsAccepted}
use Rattle.afdx_isolation.specs.Table.{bound_of}
use Rattle.afdx_core.specs.Merge.{Capture, records_of}
use Rattle.afdx_core.specs.Inner.Agreement.{VerdictsNameLinks}
use Rattle.afdx_session.specs.Headline.{own_records, passed_records, records_for, IsInBound, IsIsolatedAt}
use Rattle.afdx_network.proofs.Lists.{all_weaken, all_tested, all_passed}
use Rattle.afdx_network.proofs.Found.{all_by, of_all}
use Rattle.afdx_network.proofs.Clean.{IsOf, own_clean, over_bytes}

-- ---- a bound is within the greatest delay of a port

-- half a second
abbrev pub half : ℕ
half = 500000000

some_high : (s : Load) (b : Bool) (bound : ℕ) (value : ℕ) → nat_lt 0 s.highs ≡ b → cond b (Some value) None ≡ Some bound → 0 < s.highs + s.lows
some_high s true bound value is there = grind (arith, nat_tests)
some_high s false bound value is there = absurd cc

some_low : (s : Load) (a b : Bool) (bound : ℕ) (value : ℕ) → nat_lt 0 s.lows ≡ a → cond (a && b) (Some value) None ≡ Some bound → 0 < s.highs + s.lows
some_low s true b bound value is there = grind (arith, nat_tests)
some_low s false b bound value is there = absurd cc

within : (limit : ℕ) (o : Option ℕ) (bound : ℕ) → IfSome o (λ b. b ≤ limit) → o ≡ Some bound → bound ≤ limit
within limit o bound small is = subst (λ (p : Option ℕ). IfSome p (λ b. b ≤ limit)) is small

by_priority : (s : Load) (p : PortRow) (priority : Priority) (bound : ℕ) → (0 < s.highs + s.lows → Carries p s) → bound_of s priority ≡ Some bound → bound ≤ p.max_delay
by_priority s p High bound carries is =
    within p.max_delay (high_bound s) bound (carries (some_high s (nat_lt 0 s.highs) bound _ refl is)).high is
by_priority s p Low bound carries is =
    within p.max_delay (low_bound s) bound (carries (some_low s (nat_lt 0 s.lows) (nat_lt s.high_rate parts) bound _ refl is)).low is

pub bound_is_small : (t : Content) (p : PortRow) (priority : Priority) (bound : ℕ) → IsWellFormed t → IsAccepted t → Contains t.ports p
    → bound_of (load_of t.latency p.speed p.id t.links) priority ≡ Some bound → bound ≤ half
bound_is_small t p priority bound formed accepted among is =
    let s = load_of t.latency p.speed p.id t.links in
    let carries = All-contains (λ (row : PortRow). 0 < (load_of t.latency row.speed row.id t.links).highs + (load_of t.latency row.speed row.id t.links).lows
    → Carries row (load_of t.latency row.speed row.id t.links)) t.ports p accepted among in
    let most = (of_all IsPort t.ports p formed.ports among).delay_most in
    let small = by_priority s p priority bound carries is in
    omega (arith, most, small)

-- ---- each of its records is of a link that leads to the port

pub each_left : (P : Record → Type 0) (t : Content) (read : List Capture) (p : PortRow) (out : List Record) → IsIsolatedAt t read p out
    → ((l : Link) → Contains t.links l → leads_to p.id l ≡ true → AllByRecursion P (records_for l out)) → AllByRecursion P out
each_left P t read p out isolated each = all_by P out one where
  one : (r : Record) → Contains out r → P r
  one r among =
      let l = All-contains (λ (q : Record). (l : Link) × Contains t.links l × (link_of q.bytes ≡ l.id)) out r isolated.of_links among in
      of_all (λ q. (link_of q.bytes == l.0.id) ≡ true → P q) out r
      (all_tested P (λ (q : Record). link_of q.bytes == l.0.id) out (by l.0 l.1 (leads_to p.id l.0) refl)) among (eq-eqb (link_of r.bytes) l.0.id l.2) where
        by : (l : Link) → Contains t.links l → (b : Bool) → leads_to p.id l ≡ b → AllByRecursion P (records_for l out)
        by l known true leads = each l known leads
        by l known false leads = subst (AllByRecursion P) (sym (isolated.none_else l known leads)) tt

-- ---- how late they are

later : (t : Content) (p : PortRow) (l : Link) (m : ℕ) → IsWellFormed t → IsAccepted t → Contains t.ports p → (came left : List Record)
    → AllZip (IsInBound t p l) came left → AllByRecursion (λ (r : Record). r.stamp ≤ m) came → AllByRecursion (λ (r : Record). r.stamp ≤ m + half) left
later t p l m formed accepted among [] [] zip all = tt
later t p l m formed accepted among [] (f ∷ left) zip all = absurd zip
later t p l m formed accepted among (c ∷ came) [] zip all = absurd zip
later t p l m formed accepted among (c ∷ came) (f ∷ left) zip all =
    let small = bound_is_small t p l.priority zip.0.bound formed accepted among zip.0.bound_is in
    let most = zip.0.most in
    let first = all.0 in
    (omega (arith, small, most, first), later t p l m formed accepted among came left zip.1 all.1)

pub leave_later : (t : Content) (read : List Capture) (p : PortRow) (out : List Record) (l : Link) (m : ℕ) → IsWellFormed t → IsAccepted t → Contains t.ports p
    → IsIsolatedAt t read p out → Contains t.links l → leads_to p.id l ≡ true → AllByRecursion (λ (r : Record). r.stamp ≤ m) (own_records t l read)
    → AllByRecursion (λ (r : Record). r.stamp ≤ m + half) (records_for l out)
leave_later t read p out l m formed accepted among isolated known leads all =
    later t p l m formed accepted among (passed_records l (own_records t l read)) (records_for l out) (isolated.in_bound l known leads)
    (all_passed (λ (r : Record). r.stamp ≤ m) frame_of (terms_of l) [] (own_records t l read) all)

-- ---- how long

pub leave_short : CleanExactly → VerdictsNameLinks → LinksAreFound → (t : Content) (read : List Capture) (p : PortRow) (out : List Record) → IsWellFormed t → IsIsolatedAt t read p out
    → AllByRecursion (λ (r : Record). length r.bytes ≤ 1518) out
leave_short exact verdicts links t read p out formed isolated = each_left (λ (r : Record). length r.bytes ≤ 1518) t read p out isolated each where
  each : (l : Link) → Contains t.links l → leads_to p.id l ≡ true → AllByRecursion (λ (r : Record). length r.bytes ≤ 1518) (records_for l out)
  each l known leads =
      let came = all_passed (λ (r : Record). IsOf t.constant l r.bytes) frame_of (terms_of l) [] (own_records t l read)
      (own_clean exact verdicts links t l (records_of read l.from) formed known) in
      all_weaken (λ (r : Record). IsOf t.constant l r.bytes) (λ (r : Record). length r.bytes ≤ 1518) (records_for l out) (λ r of. let most = of.most in omega (arith, most))
      (over_bytes (IsOf t.constant l) (passed_records l (own_records t l read)) (records_for l out) (isolated.passed l known leads) came)
