-- What the call that hands out answers.
use Rattle.std.proofs.Common.{◌≡◌, ℕ, false, ◌∷◌, ◌++◌, length, set, slice_index, Some, None, refl, ap, sym, ◌∙◌, subst, ◌+◌}
use Rattle.std.proofs.lemmas.List.{length-set}
use Rattle.std.proofs.lemmas.Option.{same_Some}
use Rattle.afdx_pcap.specs.Record.{Record}
use Rattle.afdx_table.specs.declared.rows.PortRow.{PortRow}
use Rattle.afdx_table.specs.Content.{port_row}
use Rattle.afdx_port.specs.declared.Sent.{Sent}
use Rattle.afdx_port.specs.Inner.Course.{SentIsOfItems}
use Rattle.afdx_core.specs.State.{Run, place_of, next_by}
use Rattle.afdx_core.specs.Held.{IsHanded}
use Rattle.afdx_core.specs.Inner.Merge.{ByStampIsOrdered}
use Rattle.afdx_session.specs.Streams.{LaterArrivalsChangeNothing}
use Rattle.afdx_paced.specs.Paced.{Lane, Paced, lane_at, out_up_to, GoesOut, NoneGoesOut}
use Rattle.afdx_paced.specs.Laws.{MergesAreCut}
use Rattle.afdx_paced.specs.Inner.Parts.{lane_of, departed}
use Rattle.afdx_paced.specs.Inner.Kept.{paced_of, IsOfTable, IsGoing}
use Rattle.afdx_paced.specs.declared.feeder.Feeder.{Feeder}
use Rattle.afdx_paced.proofs.Places.{IsPlaceOf}
use Rattle.afdx_paced.proofs.Putting.{of_table_set}
use Rattle.afdx_paced.proofs.Handing.{Hands, hands, hands_none, leaves}
use Rattle.afdx_paced.proofs.Calls.{leave_seen}

-- one more record left
pub record HasGone {Z : Type 0} (h : ℕ) (new : Feeder Z) (v : Paced) (port : ℕ) (out : Record) : Type 0 where
  pub of : IsOfTable new
  pub going : IsGoing h new
  pub out_is : GoesOut v (paced_of new h false) port out

pub goes_out : {Z : Type 0} → LaterArrivalsChangeNothing → MergesAreCut → ByStampIsOrdered → SentIsOfItems → (h : ℕ) (old new : Feeder Z) (v : Paced) (port place : ℕ) (out : Record) (k : ℕ) (s : Sent)
    → (is : IsPlaceOf old.switch.run.table.ports old.lanes.items port place) → paced_of old h false ≡ v → IsOfTable old → IsGoing h old → IsHanded old.switch new.switch port out k s
    → new.counts ≡ old.counts → new.lanes.items ≡ set old.lanes.items place (departed out is.lane) → HasGone h new v port out
goes_out {Z} law cut ordered of_items h old new v port place out k s is view of going handed counts lanes = record {
  of = of_table_set old new place is.lane (departed out is.lane) is.at refl lanes table
      (ap (λ (r : Run). length r.handed) here.run ∙ length-set old.switch.run.handed place (slice_index old.switch.run.handed place + 1)) of;
  going = leaves h old new port place out s is of going here both.1 counts lanes;
  out_is = record {
    lane = lane_of is.lane;
    row = is.row;
    rest = both.1.rest;
    lane_is = ap (λ (w : Paced). lane_at w port) (sym view) ∙ is.lane_is;
    row_is = ap (λ (w : Paced). port_row w.table port) (sym view) ∙ is.row_is;
    next = subst (λ (w : Paced). out_up_to w (Some w.reached) is.row ≡ is.lane.left ++ out ∷ both.1.rest) view both.1.next;
    after = leave_seen old new h v port place out is view table here.keeps.lists lanes;
  };
} where
  both : (k ≡ place) × Hands (paced_of old h false) is.row is.lane out
  both = hands law cut ordered of_items h old new.switch port place out k s is going handed

  here : IsHanded old.switch new.switch port out place s
  here = subst (λ n. IsHanded old.switch new.switch port out n s) both.0 handed

  table : new.switch.run.table ≡ old.switch.run.table
  table = ap (λ (r : Run). r.table) here.run

pub none_out : {Z : Type 0} → LaterArrivalsChangeNothing → MergesAreCut → ByStampIsOrdered → (h : ℕ) (f : Feeder Z) (v new : Paced) (port place : ℕ)
    → (is : IsPlaceOf f.switch.run.table.ports f.lanes.items port place) → paced_of f h false ≡ v → IsGoing h f → next_by f.switch.run (place_of f.switch.run port) ≡ None → new ≡ v
    → NoneGoesOut v new port
none_out law cut ordered h f v new port place is view going none same = record {
  all = λ lane row lane_is row_is.
      let here : lane_of is.lane ≡ lane = same_Some (lane_of is.lane) lane (sym is.lane_is ∙ ap (λ (w : Paced). lane_at w port) view ∙ lane_is) in
      let at : is.row ≡ row = same_Some is.row row (sym is.row_is ∙ ap (λ (w : Paced). port_row w.table port) view ∙ row_is) in
      ap (λ (l : Lane). l.left) (sym here) ∙ hands_none law cut ordered h f port place is going none
      ∙ ap (λ (w : Paced). out_up_to w (Some w.reached) is.row) view ∙ ap (λ (p : PortRow). out_up_to v (Some v.reached) p) at;
  same = same;
}

-- a port without a lane
pub no_port : (v new : Paced) (port : ℕ) → lane_at v port ≡ None → new ≡ v → NoneGoesOut v new port
no_port v new port none same = record { all = λ lane row lane_is row_is. absurd (differ (sym none ∙ lane_is)); same = same } where
  differ : {l : Lane} → None ≡ Some l → ⊥
  differ e = absurd cc
