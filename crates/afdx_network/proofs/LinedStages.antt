-- Stages with lesser bounds, and what comes over a wire.
use Rattle.std.proofs.Common.{◌≡◌, ℕ, suc, ◌+◌, ◌≤◌, List, [], ◌∷◌, map, Some, sym, ◌∙◌, subst, arith}
use Rattle.std.specs.Prelude.{All, AllPairs}
use Rattle.std.specs.List.{AllZip}
use Rattle.std.proofs.lemmas.Option.{same_Some}
use Rattle.std.proofs.lemmas.List.Elements.{All-nil, All-cons, All-head, All-tail}
use Rattle.std.proofs.lemmas.List.Kept.{AllPairs-cons}
use Rattle.afdx_units.specs.declared.line.Speed.{Speed}
use Rattle.afdx_units.specs.Line.{cost_of}
use Rattle.afdx_pcap.specs.Record.{Record}
use Rattle.afdx_table.specs.declared.rows.PortRow.{PortRow}
use Rattle.afdx_table.specs.Link.{Link}
use Rattle.afdx_table.specs.Content.{Content}
use Rattle.afdx_account.specs.declared.frame.Frame.{Frame}
use Rattle.afdx_filter.specs.Frame.{frame_of}
use Rattle.afdx_load.specs.Load.{load_of}
use Rattle.afdx_isolation.specs.Table.{bound_of}
use Rattle.afdx_isolation.specs.Inner.LineTable.{lesser}
use Rattle.afdx_session.specs.Output.{output_of}
use Rattle.afdx_session.specs.Lined.{OutputsKeepToLines, IsInLesserTime, LinedOutcomesKeepBounds, OutcomesIsolate}
use Rattle.afdx_network.specs.Kept.{KeepsBound}
use Rattle.afdx_network.specs.Way.{delayed}
use Rattle.afdx_network.specs.LinedWay.{LinedStages, WiresKeepToLines}

by_lesser : (t : Content) (p : PortRow) (l : Link) (burst high_burst bound : ℕ) → bound_of (lesser (load_of t.latency p.speed p.id t.links) burst high_burst) l.priority ≡ Some bound
    → (came left : List Record) → AllZip (IsInLesserTime t p l burst high_burst) came left → AllZip (KeepsBound t.latency p bound) came left
by_lesser t p l burst high_burst bound bound_is [] [] zip = tt
by_lesser t p l burst high_burst bound bound_is [] (f ∷ left) zip = absurd zip
by_lesser t p l burst high_burst bound bound_is (c ∷ came) [] zip = absurd zip
by_lesser t p l burst high_burst bound bound_is (c ∷ came) (f ∷ left) zip = (
  record { least_is = zip.0.least; most = subst (λ (b : ℕ). f.stamp ≤ c.stamp + b) (same_Some _ _ (sym zip.0.bound_is ∙ bound_is)) zip.0.most },
  by_lesser t p l burst high_burst bound bound_is came left zip.1,
)

pub lined_stages : OutcomesIsolate → LinedOutcomesKeepBounds → LinedStages
lined_stages isolates keeps t texts results formed accepted outcome roundings lines p at burst high_burst less l among leads bound bound_is = record {
  node = record { well_formed = formed; passed = λ q here. (isolates t texts results formed accepted outcome q here).passed };
  known = among;
  has = at;
  leads = leads;
  bounded = by_lesser t p l burst high_burst bound bound_is _ _ (keeps t texts results formed accepted outcome roundings lines p at burst high_burst less l among leads);
}

-- ---- wires

pairs_head : {X : Type 0} (R : X → X → Type 0) (x : X) (xs : List X) → AllPairs R (x ∷ xs) → All (R x) xs
pairs_head R x xs h k d lt = h 0 (suc k) d (omega arith) (omega (arith, lt))

pairs_tail : {X : Type 0} (R : X → X → Type 0) (x : X) (xs : List X) → AllPairs R (x ∷ xs) → AllPairs R xs
pairs_tail R x xs h i j d lt within = h (suc i) (suc j) d (omega (arith, lt)) (omega (arith, within))

module _ (speed : Speed) (cable : ℕ) where
  abbrev Apart : Frame → Frame → Type 0
  Apart f g = f.stamp + cost_of speed g.size ≤ g.stamp

  behind : (r : Record) (rs : List Record) → All (Apart (frame_of r)) (map frame_of rs) → All (Apart (frame_of (delayed cable r))) (map frame_of (map (delayed cable) rs))
  behind r [] h = All-nil (Apart (frame_of (delayed cable r)))
  behind r (q ∷ rs) h =
      let here = All-head (Apart (frame_of r)) (frame_of q) (map frame_of rs) h in
      All-cons (Apart (frame_of (delayed cable r))) (frame_of (delayed cable q)) (map frame_of (map (delayed cable) rs)) (omega (arith, here))
      (behind r rs (All-tail (Apart (frame_of r)) (frame_of q) (map frame_of rs) h))

  later : (rs : List Record) → AllPairs Apart (map frame_of rs) → AllPairs Apart (map frame_of (map (delayed cable) rs))
  later [] h = λ i j d lt within. absurd (omega (arith, within))
  later (r ∷ rs) h =
      AllPairs-cons Apart (frame_of (delayed cable r)) (map frame_of (map (delayed cable) rs)) (behind r rs (pairs_head Apart (frame_of r) (map frame_of rs) h))
      (later rs (pairs_tail Apart (frame_of r) (map frame_of rs) h))

pub wires_keep : OutputsKeepToLines → WiresKeepToLines
wires_keep outputs t arrivals p cable = later p.speed cable (output_of t arrivals p) (outputs t arrivals p)
