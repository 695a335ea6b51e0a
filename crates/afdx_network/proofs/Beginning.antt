-- The switches at the begin of a run.
use Rattle.std.proofs.Common.{Bool, ◌≡◌, ◌+◌, ◌≤◌, ℕ, List, [], ◌∷◌, length, map, slice_get, Some, Ok, refl, ap, sym, ◌∙◌, arith, subst}
use Rattle.std.specs.Prelude.{All}
use Rattle.std.specs.List.{AllByRecursion, AllZip}
use Rattle.std.proofs.lemmas.List.{length-append, length-map}
use Rattle.std.proofs.lemmas.List.Elements.{All-nil}
use Rattle.afdx_pcap.specs.Record.{Record, IsWithinLimit}
use Rattle.afdx_pcap.specs.Text.{AreReadable}
use Rattle.afdx_table.specs.declared.rows.PortRow.{PortRow}
use Rattle.afdx_table.specs.Content.{Content}
use Rattle.afdx_table.specs.WellFormed.{IsWellFormed}
use Rattle.afdx_paced.specs.Paced.{Lane, Paced}
use Rattle.afdx_network_check.specs.Net.{Network}
use Rattle.afdx_wiring.specs.declared.layout.End.{End}
use Rattle.afdx_network_check.specs.Order.{lost_port}
use Rattle.afdx_network.specs.Runs.{Given}
use Rattle.afdx_network.specs.Given.{all_from, NoneShareAPort}
use Rattle.afdx_network.specs.Inner.Intake.{AreGivenSoFar}
use Rattle.afdx_network.specs.Inner.Sites.{Site, end_at, IsSite, HasCome, HaveCome, IsFresh, AreEarly, after_hops, gone_of}
use Rattle.afdx_network.specs.Inner.Noted.{NoneHasLeft}
use Rattle.afdx_network.proofs.Answering.{all_places}
use Rattle.afdx_network.proofs.Feeding.{IsFed, IsBrought, site_of}
use Rattle.afdx_network.proofs.Lanes.{at_lane}
use Rattle.afdx_network.proofs.Lists.{all_append, all_weaken, zip_long, zip_back}
use Rattle.afdx_network.proofs.Started.{IsAtStart, start_fresh, start_come, none_carried}

-- a switch of a table at which nothing came in, which keeps its lists or not
pub record IsNew (keeps : Bool) (t : Content) (s : Site) : Type 0 where
  pub fresh : IsFresh keeps t s
  pub formed : IsWellFormed t

module _ (keeps : Bool) (net : Network) (sites : List Site) (new : AllZip (IsNew keeps) net.tables sites) where
  starts : (n : ℕ) (s : Site) → slice_get sites n ≡ Some s → (t : Content) × (slice_get net.tables n ≡ Some t) × IsAtStart t s
  starts n s at = let is = zip_back (IsNew keeps) net.tables sites new n s at in (is.0, is.1, start_fresh keeps is.0 s is.2.formed is.2.fresh)

  site_there : (given : Given) → AreGivenSoFar net [] given → (n : ℕ) (s : Site) → slice_get sites n ≡ Some s → IsSite net given n s
  site_there given so_far n s at =
      let is = starts n s at in
      site_of net given [] n s so_far (is.1 ∙ ap Some (sym is.2.table)) is.2.running
      (all_weaken (λ (l : Lane). l.came ≡ []) (IsFed net [] n) s.paced.lanes (λ l none open_here. none) is.2.came)
      (all_weaken (λ (l : Lane). l.came ≡ []) (IsBrought net n) s.paced.lanes
      (λ l none w some. subst (λ (rs : List Record). AreReadable 0 rs × All IsWithinLimit rs) (sym none) (tt, All-nil IsWithinLimit)) is.2.came)

  start_here : (n : ℕ) (t : Content) (s : Site) → slice_get net.tables n ≡ Some t → slice_get sites n ≡ Some s → IsAtStart t s
  start_here n t s table at = let is = starts n s at in subst (λ (u : Content). IsAtStart u s) (same is.0 (sym is.1 ∙ table)) is.2 where
    same : (u : Content) → Some u ≡ Some t → u ≡ t
    same u e = cc

  pub all_begin : (given : Given) → lost_port net.tables net.layout.wires ≡ Ok tt → NoneShareAPort net → AreGivenSoFar net [] given → HaveCome net given 0 sites
  all_begin given ends one_each so_far = record {
    carried = record {
      are = record { each = site_there given so_far; all = zip_long (IsNew keeps) net.tables sites new };
      wires = none_carried net sites ends (zip_long (IsNew keeps) net.tables sites new) start_here;
    };
    one_each = one_each;
    come = all_places (HasCome 0) sites (λ n s at. let is = starts n s at in start_come is.0 s is.2);
  }

  pub all_early : (place : ℕ → ℕ) → AreEarly place sites
  all_early place n s at =
      all_weaken (λ (l : Lane). l.came ≡ []) (λ (l : Lane). AllByRecursion (λ (r : Record). r.stamp ≤ after_hops (place n)) l.came) s.paced.lanes
      (λ l none. subst (AllByRecursion (λ (r : Record). r.stamp ≤ after_hops (place n))) (sym none) tt) (starts n s at).2.came

-- nothing has left any of them
pub none_left_yet : (keeps : Bool) (tables : List Content) (sites : List Site) → AllZip (IsNew keeps) tables sites → AllByRecursion (NoneHasLeft keeps) sites
none_left_yet keeps [] [] new = tt
none_left_yet keeps [] (s ∷ sites) new = absurd new
none_left_yet keeps (t ∷ tables) [] new = absurd new
none_left_yet keeps (t ∷ tables) (s ∷ sites) new = (
  record {
    kept = ap (λ (v : Paced). v.keeps) new.0.fresh.paced;
    each = λ port l found. at_lane (λ (m : Lane). m.left ≡ []) s.paced.lanes port l (start_fresh keeps t s new.0.formed new.0.fresh).left found;
  },
  none_left_yet keeps tables sites new.1,
)

empties : (ports : List PortRow) → AllByRecursion (λ (bytes : List ℕ). bytes ≡ []) (map (λ (p : PortRow). []) ports)
empties [] = tt
empties (p ∷ ports) = (refl, empties ports)

pub none_gone_yet : (keeps : Bool) (tables : List Content) (sites : List Site) → AllZip (IsNew keeps) tables sites → AllByRecursion (λ (bytes : List ℕ). bytes ≡ []) (gone_of sites)
none_gone_yet keeps [] [] new = tt
none_gone_yet keeps [] (s ∷ sites) new = absurd new
none_gone_yet keeps (t ∷ tables) [] new = absurd new
none_gone_yet keeps (t ∷ tables) (s ∷ sites) new =
    all_append (λ (bytes : List ℕ). bytes ≡ []) s.gone (gone_of sites) (subst (AllByRecursion (λ (bytes : List ℕ). bytes ≡ [])) (sym new.0.fresh.gone) (empties t.ports))
    (none_gone_yet keeps tables sites new.1)

pub as_many_files : (keeps : Bool) (n : ℕ) (tables : List Content) (sites : List Site) → AllZip (IsNew keeps) tables sites → length (gone_of sites) ≡ length (all_from n tables)
as_many_files keeps n [] [] new = refl
as_many_files keeps n [] (s ∷ sites) new = absurd new
as_many_files keeps n (t ∷ tables) [] new = absurd new
as_many_files keeps n (t ∷ tables) (s ∷ sites) new =
    length-append s.gone (gone_of sites)
    ∙ omega (
      arith,
      ap (λ (all : List (List ℕ)). length all) new.0.fresh.gone,
      length-map {B = List ℕ} t.ports (λ (p : PortRow). []),
      length-map {B = End} t.ports (λ (p : PortRow). end_at n p.id),
      as_many_files keeps (n + 1) tables sites new.1,
    )
    ∙ sym (length-append (map (λ (p : PortRow). end_at n p.id) t.ports) (all_from (n + 1) tables))
