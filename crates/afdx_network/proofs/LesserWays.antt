-- Ways with lesser bounds are ways of the theorem.
use Rattle.std.proofs.Common.{◌≡◌, ℕ, List, [], ◌∷◌, option_and_then, refl, ap, sym, ◌∙◌, subst}
use Rattle.afdx_table.specs.Link.{Link}
use Rattle.afdx_table.specs.Content.{Content}
use Rattle.afdx_load.specs.Bounds.{bounds_of}
use Rattle.afdx_load.specs.Inner.Laws.{AcceptedKeepsBounds}
use Rattle.afdx_network_check.specs.Net.{least_at, scatter_at, load_at, Network, Row, rounding_at, bound_in}
use Rattle.afdx_network.specs.Way.{Node, Stage, IsStage, Leg, IsLegFrom, IsWay, WaysDeliver}
use Rattle.afdx_network.specs.Runs.{SwitchRun, Given}
use Rattle.afdx_network.specs.Ways.{IsStageAt, GoesOver}
use Rattle.afdx_network.specs.Laws.{IsFittingRun}
use Rattle.afdx_network.specs.LinedWay.{node_after, LinedStages}
use Rattle.afdx_network.specs.LinedRun.{PortsKeepToLines}
use Rattle.afdx_network.specs.LesserWays.{IsLesserStageAt, IsLesserWayFrom, LesserWaysDeliver}
use Rattle.afdx_network.proofs.Rows.{same_bound}
use Rattle.afdx_network.proofs.Agreement.{Ground, stage_by, node_same, table_at, formed_at, accepted_at, follows}
use Rattle.afdx_network.proofs.Bounded.{has_bound}

module _ (g : Ground) (keeps : AcceptedKeepsBounds) (ports : PortsKeepToLines) (stages : LinedStages) (net : Network) (given : Given) (runs : List SwitchRun) (acc : IsFittingRun net given runs) where
  -- ---- a stage

  module _ (r : Row) (x : Stage) (h : IsLesserStageAt net runs r x) where
    is_stage : IsStage x
    is_stage =
        let same : x ≡ stage_by x.port h.run.table.latency x.bound (node_after h.run.table h.run.outcome.read) r.link
        = ap (λ (n : ℕ). stage_by x.port n x.bound x.node x.link) h.least_is ∙ ap (λ (n : Node). stage_by x.port h.run.table.latency x.bound n x.link) (h.node ∙ node_same h.run)
        ∙ ap (λ (l : Link). stage_by x.port h.run.table.latency x.bound (node_after h.run.table h.run.outcome.read) l) h.link in
        let is = stages h.run.table h.run.texts h.run.results (formed_at g net given runs acc r.switch h.run h.run_is) (accepted_at g net given runs acc r.switch h.run h.run_is) h.run.outcome
        (rounding_at net r.switch) (ports net given runs acc r.switch h.run h.run_is) x.port h.has h.burst h.high_burst h.enough r.link h.known h.leads x.bound h.bound_is in
        subst IsStage (sym same) is

    -- the same row and port with the bound of the least bursts
    least_bound : (bound : ℕ) × IsStageAt net runs r (stage_by x.port (least_at net r.switch h.run.table) bound x.node x.link)
    least_bound =
        let table = table_at g net given runs acc r.switch h.run h.run_is in
        let b = has_bound keeps (scatter_at net r.switch h.run.table) (rounding_at net r.switch) h.run.table x.port r.link (formed_at g net given runs acc r.switch h.run h.run_is)
        (accepted_at g net given runs acc r.switch h.run h.run_is) h.has h.known h.leads in (
          b.0,
          record {
            run = h.run;
            run_is = h.run_is;
            node = h.node;
            link = h.link;
            known = h.known;
            has = h.has;
            leads = h.leads;
            least_is = refl;
            bound_is = ap (option_and_then (λ (t : Content). bound_in (bounds_of (load_at net r.switch t x.port)) r.link.priority)) table
                ∙ same_bound (load_at net r.switch h.run.table x.port) r.link.priority ∙ b.1;
          },
        )

  -- ---- a leg

  is_leg : (r next : Row) (x : Stage) (s : Leg) → IsLesserStageAt net runs r x → IsLesserStageAt net runs next s.stage → GoesOver net r x next s → IsLegFrom x s
  is_leg r next x s h k over =
      let here = least_bound r x h in
      let there = least_bound next s.stage k in
      let x' : Stage = stage_by x.port (least_at net r.switch h.run.table) here.0 x.node x.link in
      let s' : Leg = record { cable = s.cable; stage = stage_by s.stage.port (least_at net next.switch k.run.table) there.0 s.stage.node s.stage.link } in
      let f = follows g net given runs acc r next x' s' here.1 there.1
      (record { wire = over.wire; wire_is = over.wire_is; up = over.up; start = over.start; cable = over.cable; number = over.number }) in
      record { number = f.number; constant = f.constant; size = f.size; bag = f.bag; police = f.police; wired = f.wired }

  first_at : (r : Row) (x : Stage) (legs : List Leg) → IsLesserWayFrom net runs r x legs → IsLesserStageAt net runs r x
  first_at r x [] way = way
  first_at r x (s ∷ legs) way = way.0

  is_way : (r : Row) (x : Stage) (legs : List Leg) → IsLesserWayFrom net runs r x legs → IsWay x legs
  is_way r x [] way = is_stage r x way
  is_way r x (s ∷ legs) way =
      (is_stage r x way.0, is_leg r way.1 x s way.0 (first_at way.1 s.stage legs way.3) way.2, is_way way.1 s.stage legs way.3)

pub lesser_ways : Ground → AcceptedKeepsBounds → PortsKeepToLines → LinedStages → WaysDeliver → LesserWaysDeliver
lesser_ways g keeps ports stages deliver net given runs acc x legs way enough = deliver x legs (is_way g keeps ports stages net given runs acc way.0 x legs way.2) enough
