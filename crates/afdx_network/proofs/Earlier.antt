-- What comes before an instant decides what leaves up to it, and for a line time longer.
use Rattle.std.proofs.Common.{◌≡◌, ◌+◌, ◌<◌, ◌≤◌, ℕ, suc, nat_le, Bool, true, false, cond, List, [], ◌∷◌, ◌++◌, map, length, slice_get, Some, refl, ap, sym, ◌∙◌, arith}
use Rattle.std.specs.List.{AllByRecursion}
use Rattle.std.proofs.lemmas.Bool.{leb-true, leb-false, le-leb, lt-leb}
use Rattle.std.proofs.lemmas.List.{append-nil}
use Rattle.afdx_units.specs.declared.line.Speed.{Speed}
use Rattle.afdx_units.specs.declared.line.Speed.TheVariants.{Ten, Hundred, Thousand}
use Rattle.afdx_units.specs.Line.{cost_of, least_size}
use Rattle.afdx_pcap.specs.Record.{Record}
use Rattle.afdx_table.specs.declared.rows.PortRow.{PortRow}
use Rattle.afdx_table.specs.Content.{Content}
use Rattle.afdx_core.specs.Merge.{Arrival, Capture, arrivals_of, by_stamp, merged}
use Rattle.afdx_session.specs.Output.{output_of}
use Rattle.afdx_session.specs.Streams.{LaterArrivalsChangeNothing}
use Rattle.afdx_session.proofs.Settling.{arrived}
use Rattle.afdx_paced.specs.Paced.{Lane, Paced, captures_of, out_up_to}
use Rattle.afdx_paced.specs.Laws.{below, MergesAreCut, NothingLeavesBefore, OutGoesOn}
use Rattle.afdx_paced.proofs.Puts.{out_by, out_of_below}
use Rattle.afdx_network.specs.Way.{delayed}
use Rattle.afdx_network.proofs.AllLeft.{out_is_output}

-- a frame takes its time on a line
pub costs : (speed : Speed) (size : ℕ) → 0 < cost_of speed size
costs Ten size = omega arith
costs Hundred size = omega arith
costs Thousand size = omega arith

-- ---- the records before an instant

abbrev pub early : ℕ → List Record → List Record
early h [] = []
early h (r ∷ rs) = cond (nat_le h r.stamp) (early h rs) (r ∷ early h rs)

early-append : (h : ℕ) (xs ys : List Record) → early h (xs ++ ys) ≡ early h xs ++ early h ys
early-append h [] ys = refl
early-append h (r ∷ xs) ys = by (nat_le h r.stamp) (early-append h xs ys) where
  by : (b : Bool) → early h (xs ++ ys) ≡ early h xs ++ early h ys → cond b (early h (xs ++ ys)) (r ∷ early h (xs ++ ys)) ≡ cond b (early h xs) (r ∷ early h xs) ++ early h ys
  by true rest = rest
  by false rest = ap (λ (rs : List Record). r ∷ rs) rest

none_early : (h : ℕ) (rs : List Record) → AllByRecursion (λ (r : Record). h ≤ r.stamp) rs → early h rs ≡ []
none_early h [] all = refl
none_early h (r ∷ rs) all = ap (λ b. cond b (early h rs) (r ∷ early h rs)) (le-leb h r.stamp all.0) ∙ none_early h rs all.1

pub all_early : (h : ℕ) (rs : List Record) → AllByRecursion (λ (r : Record). r.stamp < h) rs → early h rs ≡ rs
all_early h [] all = refl
all_early h (r ∷ rs) all = ap (λ b. cond b (early h rs) (r ∷ early h rs)) (lt-leb h r.stamp all.0) ∙ ap (λ (rest : List Record). r ∷ rest) (all_early h rs all.1)

-- of the records of a port
pub below_early : (h port : ℕ) (rs : List Record) → below h (arrived port rs) ≡ arrived port (early h rs)
below_early h port [] = refl
below_early h port (r ∷ rs) = by (nat_le h r.stamp) (below_early h port rs) where
  by : (b : Bool) → below h (arrived port rs) ≡ arrived port (early h rs)
      → cond b (below h (arrived port rs)) (record { port = port; frame = r } ∷ below h (arrived port rs)) ≡ arrived port (cond b (early h rs) (r ∷ early h rs))
  by true rest = rest
  by false rest = ap (λ (others : List Arrival). record { port = port; frame = r } ∷ others) rest

-- what comes over a cable before an instant left before it
early_delayed : (h cable : ℕ) (rs : List Record) → early h (map (delayed cable) rs) ≡ early h (map (delayed cable) (early h rs))
early_delayed h cable [] = refl
early_delayed h cable (r ∷ rs) = by (nat_le h r.stamp) refl (nat_le h (r.stamp + cable)) refl (early_delayed h cable rs) where
  by : (b : Bool) → nat_le h r.stamp ≡ b → (c : Bool) → nat_le h (r.stamp + cable) ≡ c → early h (map (delayed cable) rs) ≡ early h (map (delayed cable) (early h rs))
      → cond c (early h (map (delayed cable) rs)) (delayed cable r ∷ early h (map (delayed cable) rs)) ≡ early h (map (delayed cable) (cond b (early h rs) (r ∷ early h rs)))
  by true late true later rest = rest
  by true late false sooner rest =
      let le = leb-true h r.stamp late in
      let lt = leb-false h (r.stamp + cable) sooner in
      absurd (omega (arith, le, lt))
  by false soon c is rest =
      ap (λ b. cond b (early h (map (delayed cable) rs)) (delayed cable r ∷ early h (map (delayed cable) rs))) (sym is)
      ∙ ap (λ (qs : List Record). cond (nat_le h (r.stamp + cable)) qs (delayed cable r ∷ qs)) rest

pub same_delayed : (h cable : ℕ) (rs qs : List Record) → early h rs ≡ early h qs → early h (map (delayed cable) rs) ≡ early h (map (delayed cable) qs)
same_delayed h cable rs qs same = early_delayed h cable rs ∙ ap (λ (xs : List Record). early h (map (delayed cable) xs)) same ∙ sym (early_delayed h cable qs)

-- ---- what leaves

-- what was read, as a switch that is fed by time has it
abbrev lane_by : Capture → Lane
lane_by c = record { port = c.port; came = c.records; left = [] }

abbrev paced_by : Content → List Capture → Paced
paced_by t read = record { table = t; lanes = map lane_by read; reached = 0; failed = false; keeps = true }

captures_are : (read : List Capture) → captures_of (map lane_by read) ≡ read
captures_are [] = refl
captures_are (c ∷ read) = ap (λ (rest : List Capture). c ∷ rest) (captures_are read)

-- what holds of each place past the first of two lists holds of the second
late_at : (h : ℕ) (first rest : List Record) → ((k : ℕ) (r : Record) → length first ≤ k → slice_get (first ++ rest) k ≡ Some r → h ≤ r.stamp)
    → AllByRecursion (λ (r : Record). h ≤ r.stamp) rest
late_at h [] [] late = tt
late_at h [] (r ∷ rest) late = (late 0 r (omega arith) refl, late_at h [] rest (λ k q le is. late (suc k) q (omega arith) is))
late_at h (x ∷ first) rest late = late_at h first rest (λ k r le is. late (suc k) r (omega (arith, le)) is)

module _ (later : LaterArrivalsChangeNothing) (cut : MergesAreCut) (on : OutGoesOn) (leaves : NothingLeavesBefore) (t : Content) (p : PortRow) where
  first_out : (read : List Capture) (h : ℕ)
      → early (suc h) (output_of t (merged read) p) ≡ early (suc h) (out_by t (by_stamp (below h (arrivals_of read))) (Some h) p)
  first_out read h =
      let v = paced_by t read in
      let more = on.in_the_end v h p in
      let whole : output_of t (merged read) p ≡ out_up_to v (Some h) p ++ more.0
      = ap (λ (captures : List Capture). output_of t (merged captures) p) (sym (captures_are read)) ∙ sym (out_is_output v p) ∙ more.1 in
      let late = late_at (suc h) (out_up_to v (Some h) p) more.0 (λ k r le is.
      let at = leaves v p h k r le (ap (λ (rs : List Record). slice_get rs k) more.1 ∙ is) in
      let cost = costs p.speed least_size in
      omega (arith, at, cost)) in
      ap (early (suc h)) whole ∙ early-append (suc h) (out_up_to v (Some h) p) more.0
      ∙ ap (λ (rs : List Record). early (suc h) (out_up_to v (Some h) p) ++ rs) (none_early (suc h) more.0 late) ∙ append-nil (early (suc h) (out_up_to v (Some h) p))
      ∙ ap (early (suc h)) (out_of_below later cut v h p ∙ ap (λ (captures : List Capture). out_by t (by_stamp (below h (arrivals_of captures))) (Some h) p) (captures_are read))

  -- where the same came before an instant, the same leaves up to it
  pub same_out : (read others : List Capture) (h : ℕ) → below h (arrivals_of read) ≡ below h (arrivals_of others)
      → early (suc h) (output_of t (merged read) p) ≡ early (suc h) (output_of t (merged others) p)
  same_out read others h same = first_out read h ∙ ap (λ (xs : List Arrival). early (suc h) (out_by t (by_stamp xs) (Some h) p)) same ∙ sym (first_out others h)
