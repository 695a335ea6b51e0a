-- A table has a first fault exactly where it isn't accepted.
use Rattle.std.proofs.Common.{◌≡◌, ℕ, ◌+◌, ◌≤◌, ◌<◌, Bool, nat_lt, cond, List, [], ◌∷◌, Option, Some, None, refl, sym, ap, ◌∙◌, arith, inl, inr}
use Rattle.std.specs.Prelude.{All, IfSome}
use Rattle.std.specs.Option.{option_or}
use Rattle.std.proofs.lemmas.Bool.{cases_Bool, le-ltb, ltb-false}
use Rattle.std.proofs.lemmas.List.Elements.{All-nil, All-cons, All-head, All-tail}
use Rattle.afdx_table.specs.declared.rows.PortRow.{PortRow}
use Rattle.afdx_table.specs.Link.{Link}
use Rattle.afdx_table.specs.Content.{Content}
use Rattle.afdx_units.specs.declared.line.Speed.{Speed}
use Rattle.afdx_load.specs.declared.fault.Rule.{Rule}
use Rattle.afdx_load.specs.declared.fault.Rule.TheVariants.{Rate, Buffer, HighDelay, LowDelay}
use Rattle.afdx_load.specs.declared.fault.LoadFault.{LoadFault}
use Rattle.afdx_load.specs.Load.{Load, links_load, behind, load_of, routed}
use Rattle.afdx_account.specs.Policing.{parts}
use Rattle.afdx_load.specs.Bounds.{high_bound, low_bound, backlog, byte_time}
use Rattle.afdx_load.specs.Accepted.{Carries, IsAccepted, past, past_bound, fault_at, first_fault}
use Rattle.afdx_load.proofs.SumLemmas.{load_none, all_counted}

within_none : (port : ℕ) (rule : Rule) (limit need : ℕ) → need ≤ limit → past port rule limit need ≡ None
within_none port rule limit need h = ap (λ (b : Bool). cond b (Some (record { port = port; rule = rule; need = need; limit = limit })) None) (le-ltb limit need h)

pub some_none : (fault : LoadFault) → Some fault ≡ None → ⊥
some_none fault h = cc

none_within : (port : ℕ) (rule : Rule) (limit need : ℕ) → past port rule limit need ≡ None → need ≤ limit
none_within port rule limit need h =
    elim (cases_Bool (nat_lt limit need)) [
      | inl over ↦ absurd (some_none (record { port = port; rule = rule; need = need; limit = limit }) (rw over at h))
      | inr not ↦ ltb-false limit need not
    ]

bound_none : (port : ℕ) (rule : Rule) (limit : ℕ) (need : Option ℕ) → IfSome need (λ n. n ≤ limit) → past_bound port rule limit need ≡ None
bound_none port rule limit None h = refl
bound_none port rule limit (Some n) h = within_none port rule limit n h

pub none_bound : (port : ℕ) (rule : Rule) (limit : ℕ) (need : Option ℕ) → past_bound port rule limit need ≡ None → IfSome need (λ n. n ≤ limit)
none_bound port rule limit None h = tt
none_bound port rule limit (Some n) h = none_within port rule limit n h

pub or_none : (a b : Option LoadFault) → option_or a b ≡ None → (a ≡ None) × (b ≡ None)
or_none None b h = (refl, h)
or_none (Some x) b h = absurd cc

none_or : (a b : Option LoadFault) → a ≡ None → b ≡ None → option_or a b ≡ None
none_or a b h k = rw h k

pub fine_none : (row : PortRow) (s : Load) → Carries row s → fault_at row s ≡ None
unfolding fault_at
fine_none row s fine =
    none_or _ _ (none_or _ _ (none_or _ _
    (within_none row.id Rate parts s.rate fine.rate)
    (within_none row.id Buffer (byte_time row.speed row.buffer) (backlog s) fine.buffer))
    (bound_none row.id HighDelay row.max_delay (high_bound s) fine.high))
    (bound_none row.id LowDelay row.max_delay (low_bound s) fine.low)

pub none_fine : (row : PortRow) (s : Load) → fault_at row s ≡ None → Carries row s
unfolding fault_at
none_fine row s h =
    let d = or_none _ _ h in
    let c = or_none _ _ d.0 in
    let b = or_none _ _ c.0 in
    record {
      rate = none_within row.id Rate parts s.rate b.0;
      buffer = none_within row.id Buffer (byte_time row.speed row.buffer) (backlog s) b.1;
      high = none_bound row.id HighDelay row.max_delay (high_bound s) c.1;
      low = none_bound row.id LowDelay row.max_delay (low_bound s) d.1;
    }

nothing_fine : (row : PortRow) (latency : ℕ) (s : Load) → s ≡ record { highs = 0; lows = 0; rate = 0; high_rate = 0; burst = 0; high_burst = 0; largest = 0; low_largest = 0; latency = latency }
    → Carries row s
nothing_fine row latency s h = rw h (record { rate = omega arith; buffer = omega arith; high = tt; low = tt })

-- a port without links carries its load
with_links : (row : PortRow) (latency : ℕ) (speed : Speed) (links : List Link) → (0 < (links_load speed links).highs + (links_load speed links).lows
    → Carries row (behind latency (links_load speed links)))
    → Carries row (behind latency (links_load speed links))
with_links row latency speed [] h = nothing_fine row latency (behind latency (links_load speed [])) (ap (behind latency) (load_none speed))
with_links row latency speed (link ∷ links) h = h (omega (arith, all_counted speed (link ∷ links)))

abbrev pub CarriesAt : ℕ → List Link → PortRow → Type 0
CarriesAt latency links row = let s = load_of latency row.speed row.id links in 0 < s.highs + s.lows → Carries row s

pub accepted_none : (latency : ℕ) (links : List Link) (rows : List PortRow) → All (CarriesAt latency links) rows → first_fault latency links rows ≡ None
accepted_none latency links [] h = refl
accepted_none latency links (row ∷ rows) h =
    none_or _ _
    (fine_none row (load_of latency row.speed row.id links) (with_links row latency row.speed (routed row.id links) (All-head (CarriesAt latency links) row rows h)))
    (accepted_none latency links rows (All-tail (CarriesAt latency links) row rows h))

pub none_accepted : (latency : ℕ) (links : List Link) (rows : List PortRow) → first_fault latency links rows ≡ None → All (CarriesAt latency links) rows
none_accepted latency links [] h = All-nil (CarriesAt latency links)
none_accepted latency links (row ∷ rows) h =
    let both = or_none (fault_at row (load_of latency row.speed row.id links)) (first_fault latency links rows) h in
    All-cons (CarriesAt latency links) row rows (λ _. none_fine row (load_of latency row.speed row.id links) both.0) (none_accepted latency links rows both.1)

-- ---- whole tables

-- a table without a fault
pub accepted_of : (c : Content) → None ≡ first_fault c.latency c.links c.ports → IsAccepted c
accepted_of c h = none_accepted c.latency c.links c.ports (sym h)

-- a table with one
pub refused_of : (c : Content) (fault : LoadFault) → Some fault ≡ first_fault c.latency c.links c.ports → IsAccepted c → ⊥
refused_of c fault h accepted = some_none fault (h ∙ accepted_none c.latency c.links c.ports accepted)
