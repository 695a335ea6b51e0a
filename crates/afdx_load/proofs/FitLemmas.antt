-- A port carries its load exactly where the load breaks no rule.
use Rattle.std.proofs.Common.{◌≡◌, ℕ, ◌≤◌, Bool, true, false, nat_lt, cond, List, [], ◌∷◌, Option, Some, None, refl}
use Rattle.std.specs.Prelude.{IfSome, filter}
use Rattle.std.specs.Option.{option_map_or}
use Rattle.std.proofs.lemmas.Bool.{le-ltb, ltb-false}
use Rattle.afdx_table.specs.declared.rows.PortRow.{PortRow}
use Rattle.afdx_load.specs.declared.fault.Rule.{Rule}
use Rattle.afdx_load.specs.declared.fault.Rule.TheVariants.{Rate, Buffer, HighDelay, LowDelay}
use Rattle.afdx_load.specs.Load.{Load}
use Rattle.afdx_load.specs.Bounds.{high_bound, low_bound}
use Rattle.afdx_load.specs.Accepted.{Carries}
use Rattle.afdx_load.specs.First.{limit_of}
use Rattle.afdx_load.specs.Fits.{is_broken, broken_rules, AcceptedWhereEachPortFits}

kept : (limit : ℕ) (need : Option ℕ) → IfSome need (λ n. n ≤ limit) → option_map_or (λ n. nat_lt limit n) need false ≡ false
kept limit None h = refl
kept limit (Some n) h = le-ltb limit n h

within : (limit : ℕ) (need : Option ℕ) → option_map_or (λ n. nat_lt limit n) need false ≡ false → IfSome need (λ n. n ≤ limit)
within limit None h = tt
within limit (Some n) h = ltb-false limit n h

none_left : (rule : Rule) (b : Bool) (rest : List Rule) → cond b (rule ∷ rest) rest ≡ [] → (b ≡ false) × (rest ≡ [])
none_left rule true rest h = absurd (cc)
none_left rule false rest h = (refl, h)

leaves_none : (rule : Rule) (b : Bool) (rest : List Rule) → b ≡ false → rest ≡ [] → cond b (rule ∷ rest) rest ≡ []
leaves_none rule true rest h k = absurd (cc)
leaves_none rule false rest h k = k

breaks_none : (row : PortRow) (s : Load) → Carries row s → broken_rules row s ≡ []
breaks_none row s fine =
    leaves_none Rate _ _ (le-ltb (limit_of Rate row) s.rate fine.rate)
    (leaves_none Buffer _ _ (le-ltb (limit_of Buffer row) _ fine.buffer)
    (leaves_none HighDelay _ _ (kept row.max_delay (high_bound s) fine.high)
    (leaves_none LowDelay _ _ (kept row.max_delay (low_bound s) fine.low) refl)))

carries : (row : PortRow) (s : Load) → broken_rules row s ≡ [] → Carries row s
carries row s h =
    let rules : List Rule → List Rule = λ rest. filter (is_broken row s) rest in
    let a = none_left Rate (is_broken row s Rate) (rules (Buffer ∷ HighDelay ∷ LowDelay ∷ [])) h in
    let b = none_left Buffer (is_broken row s Buffer) (rules (HighDelay ∷ LowDelay ∷ [])) a.1 in
    let c = none_left HighDelay (is_broken row s HighDelay) (rules (LowDelay ∷ [])) b.1 in
    let d = none_left LowDelay (is_broken row s LowDelay) [] c.1 in
    record {
      rate = ltb-false (limit_of Rate row) s.rate a.0;
      buffer = ltb-false (limit_of Buffer row) _ b.0;
      high = within row.max_delay (high_bound s) c.0;
      low = within row.max_delay (low_bound s) d.0;
    }

pub fits : AcceptedWhereEachPortFits
fits c = (
  (λ accepted k d inside links. breaks_none _ _ (accepted k d inside links)),
  (λ fine k d inside links. carries _ _ (fine k d inside links)),
)
