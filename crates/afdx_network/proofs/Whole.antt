-- All that was given: as texts of the network's ports, over which the run is one of the network.
use Rattle.std.proofs.Common.{◌≡◌, ◌<◌, ◌+◌, ℕ, zero, suc, List, [], ◌∷◌, ◌++◌, length, map, filter, get_or, slice_get, Option, Some}
use Rattle.std.proofs.Common.{refl, ap, sym, ◌∙◌, arith, subst}
use Rattle.std.specs.Prelude.{All, Contains, flat_map}
use Rattle.std.specs.Option.{option_map}
use Rattle.std.specs.List.{AllByRecursion, AllZip}
use Rattle.std.proofs.lemmas.List.{length-map}
use Rattle.std.proofs.lemmas.Option.{same_Some, slice_get-map, slice_get_within}
use Rattle.afdx_pcap.specs.Capture.{IsCapture}
use Rattle.afdx_pcap.proofs.Early.{capture_early}
use Rattle.afdx_table.specs.declared.rows.PortRow.{PortRow}
use Rattle.afdx_table.specs.Content.{Content}
use Rattle.afdx_table.specs.WellFormed.{IsWellFormed}
use Rattle.afdx_merging.specs.Merge.{Arrival, numbered_from, same_clock}
use Rattle.afdx_merging.specs.Read.{AreRead, AreMerged}
use Rattle.afdx_merging.proofs.Timed.{numbered_back, frames_of, there_at}
use Rattle.afdx_session.specs.Texts.{Text}
use Rattle.afdx_session.specs.Lined.{RecordsKeepToLineWithin}
use Rattle.afdx_wiring.specs.declared.layout.End.{End}
use Rattle.afdx_network_check.specs.Net.{Network, stamp_rounding}
use Rattle.afdx_network.specs.Runs.{Given, KeepTheirLines}
use Rattle.afdx_network.specs.Given.{is_open, ends_from, open_ends, AreOpen, AreGiven, AreGivenBy}
use Rattle.afdx_network.specs.Inner.Intake.{records_at, AreGivenSoFar, AreOverLines}
use Rattle.afdx_network.specs.Inner.Sites.{Site, end_at, AreCarried}
use Rattle.afdx_network.proofs.Feeding.{Unique, fed_of, brought_of, site_of}
use Rattle.afdx_network.proofs.OpenEnds.{all_apart, first_place}

-- ---- lists side by side

pub zip_places : {X Y : Type 0} (P : X → Y → Type 0) (xs : List X) (ys : List Y) → length ys ≡ length xs → ((k : ℕ) (x : X) (y : Y) → slice_get xs k ≡ Some x → slice_get ys k ≡ Some y → P x y)
    → AllZip P xs ys
zip_places P [] [] long each = tt
zip_places P [] (y ∷ ys) long each = absurd (omega (arith, long))
zip_places P (x ∷ xs) [] long each = absurd (omega (arith, long))
zip_places P (x ∷ xs) (y ∷ ys) long each = (each 0 x y refl refl, zip_places P xs ys (omega (arith, long)) (λ k a b at there. each (suc k) a b at there))

zip_split : {X Y : Type 0} (P : X → Y → Type 0) (xs more : List X) (ys : List Y) → AllZip P (xs ++ more) ys
    → (front : List Y) × (rest : List Y) × (ys ≡ front ++ rest) × AllZip P xs front × AllZip P more rest
zip_split P [] more ys zip = ([], ys, refl, tt, zip)
zip_split P (x ∷ xs) more [] zip = absurd zip
zip_split P (x ∷ xs) more (y ∷ ys) zip =
    let further = zip_split P xs more ys zip.1 in
    (y ∷ further.0, further.1, ap (λ zs. y ∷ zs) further.2, (zip.0, further.3), further.4)

-- ---- the texts of the ports, by switch

record Own (P : End → List ℕ → Type 0) (n : ℕ) (ports : List ℕ) (texts : List (List ℕ)) : Type 0 where
  pub own : List Text
  pub ports_are : map (λ (text : Text). text.0) own ≡ ports
  pub texts_are : map (λ (text : Text). text.1) own ≡ texts
  pub each : (text : Text) → Contains own text → P (end_at n text.0) text.1

own_of : (P : End → List ℕ → Type 0) (n : ℕ) (ports : List ℕ) (texts : List (List ℕ)) → AllZip P (map (λ port. end_at n port) ports) texts → Own P n ports texts
own_of P n [] [] zip = record { own = []; ports_are = refl; texts_are = refl; each = λ text among. let lt = among.1 in absurd (omega (arith, lt)) }
own_of P n [] (text ∷ texts) zip = absurd zip
own_of P n (port ∷ ports) [] zip = absurd zip
own_of P n (port ∷ ports) (bytes ∷ texts) zip =
    let rest = own_of P n ports texts zip.1 in
    record {
      own = (port, bytes) ∷ rest.own;
      ports_are = ap (λ (ns : List ℕ). port ∷ ns) rest.ports_are;
      texts_are = ap (λ (bs : List (List ℕ)). bytes ∷ bs) rest.texts_are;
      each = λ text among. by rest text among.0 among.1 among.2;
    } where
      by : (rest : Own P n ports texts) (text : Text) (k : ℕ) → k < suc (length rest.own) → get_or ((port, bytes) ∷ rest.own) k text ≡ text → P (end_at n text.0) text.1
      by rest text zero lt is = subst (λ (x : Text). P (end_at n x.0) x.1) is zip.0
      by rest text (suc k) lt is = rest.each text (k, omega (arith, lt), is)

-- what is given, where each text has this
pub record IsSplit (P : End → List ℕ → Type 0) (net : Network) (n : ℕ) (tables : List Content) (texts : List (List ℕ)) : Type 0 where
  pub given : Given
  pub long : length given ≡ length tables
  pub flat : flat_map (map (λ (text : Text). text.1)) given ≡ texts
  pub each : (k : ℕ) (t : Content) → slice_get tables k ≡ Some t
      → (own : List Text) × (slice_get given k ≡ Some own) × AreOpen net (n + k) t own × ((text : Text) → Contains own text → P (end_at (n + k) text.0) text.1)

pub split : (P : End → List ℕ → Type 0) (net : Network) (n : ℕ) (tables : List Content) (texts : List (List ℕ)) → AllZip P (ends_from net n tables) texts → IsSplit P net n tables texts
split P net n [] [] zip = record { given = []; long = refl; flat = refl; each = λ k t is. absurd cc }
split P net n [] (text ∷ texts) zip = absurd zip
split P net n (t ∷ tables) texts zip =
    let rest : IsSplit P net (n + 1) tables parts.1 = split P net (n + 1) tables parts.1 parts.4 in
    record {
      given = own.own ∷ rest.given;
      long = ap suc rest.long;
      flat = ap (λ (bs : List (List ℕ)). bs ++ flat_map (map (λ (text : Text). text.1)) rest.given) own.texts_are ∙ ap (λ (bs : List (List ℕ)). parts.0 ++ bs) rest.flat ∙ sym parts.2;
      each = at rest;
    } where
      parts : (front : List (List ℕ)) × (more : List (List ℕ)) × (texts ≡ front ++ more)
          × AllZip P (map (λ port. end_at n port) (filter (is_open net n) (map (λ (p : PortRow). p.id) t.ports))) front × AllZip P (ends_from net (n + 1) tables) more
      parts = zip_split P (map (λ port. end_at n port) (filter (is_open net n) (map (λ (p : PortRow). p.id) t.ports))) (ends_from net (n + 1) tables) texts zip

      own : Own P n (filter (is_open net n) (map (λ (p : PortRow). p.id) t.ports)) parts.0
      own = own_of P n (filter (is_open net n) (map (λ (p : PortRow). p.id) t.ports)) parts.0 parts.3

      at : (rest : IsSplit P net (n + 1) tables parts.1) (k : ℕ) (u : Content) → slice_get (t ∷ tables) k ≡ Some u
          → (texts : List Text) × (slice_get (own.own ∷ rest.given) k ≡ Some texts) × AreOpen net (n + k) u texts × ((x : Text) → Contains texts x → P (end_at (n + k) x.0) x.1)
      at rest zero u is =
          let number : n + 0 ≡ n = omega arith in
          subst (λ m. (texts : List Text) × (slice_get (own.own ∷ rest.given) 0 ≡ Some texts) × AreOpen net m u texts × ((x : Text) → Contains texts x → P (end_at m x.0) x.1)) (sym number)
          (own.own, refl, subst (λ (c : Content). AreOpen net n c own.own) (same_Some t u is) own.ports_are, own.each)
      at rest (suc k) u is =
          let number : n + suc k ≡ (n + 1) + k = omega arith in
          subst (λ m. (texts : List Text) × (slice_get (own.own ∷ rest.given) (suc k) ≡ Some texts) × AreOpen net m u texts × ((x : Text) → Contains texts x → P (end_at m x.0) x.1)) (sym number)
          (rest.each k u is)

-- by the switch's own place
split_at : (P : End → List ℕ → Type 0) (net : Network) (texts : List (List ℕ)) (s : IsSplit P net 0 net.tables texts) (n : ℕ) (t : Content) → slice_get net.tables n ≡ Some t
    → (own : List Text) × (slice_get s.given n ≡ Some own) × AreOpen net n t own × ((text : Text) → Contains own text → P (end_at n text.0) text.1)
split_at P net texts s n t is =
    let number : 0 + n ≡ n = omega arith in
    subst (λ m. (own : List Text) × (slice_get s.given n ≡ Some own) × AreOpen net m t own × ((text : Text) → Contains own text → P (end_at m text.0) text.1)) number (s.each n t is)

pub split_given : (P : End → List ℕ → Type 0) (net : Network) (texts : List (List ℕ)) (s : IsSplit P net 0 net.tables texts) → AreGiven net s.given
split_given P net texts s = record {
  each = λ n lt.
      let t = there_at net.tables n lt in
      let own = split_at P net texts s n t.0 t.1 in
      record { table = t.0; texts = own.0; table_is = t.1; texts_is = own.1; of_open = own.2 };
  no_more = s.long;
}

pub split_read : {R : Type 0} (P : End → List ℕ → Type 0) (remaining : R → Option (List ℕ)) (net : Network) (readers : List R) (texts : List (List ℕ)) (s : IsSplit P net 0 net.tables texts)
    → AreRead remaining readers texts → AreGivenBy remaining net readers s.given
split_read P remaining net readers texts s read = record { are = split_given P net texts s; read = subst (AreRead remaining readers) (sym s.flat) read }

-- ---- each text is the capture of what came in at its port

-- what is given for a port is the capture at a place of its own
abbrev pub IsOfItsPlace : Network → List Arrival → End → List ℕ → Type 0
IsOfItsPlace net came e text = (place : ℕ) × (slice_get (open_ends net) place ≡ Some e) × IsCapture text (records_at place came)

abbrev pub AreOfTheirPlaces : Network → List Arrival → Given → Type 0
AreOfTheirPlaces net came given = (n : ℕ) (own : List Text) (text : Text) → slice_get given n ≡ Some own → Contains own text → IsOfItsPlace net came (end_at n text.0) text.1

module _ {R : Type 0} (remaining : R → Option (List ℕ)) (net : Network) (first : List R) (came : List Arrival)
    (merged : AreMerged remaining (map (λ (e : End). same_clock) (open_ends net)) first came) where
  many : length merged.texts ≡ length (open_ends net)
  many =
      let captures = merged.merge.many in let same = merged.are.many in
      sym same ∙ captures ∙ length-map (open_ends net) (λ (e : End). same_clock)

  at_its_place : (k : ℕ) (e : End) (text : List ℕ) → slice_get (open_ends net) k ≡ Some e → slice_get merged.texts k ≡ Some text → IsOfItsPlace net came e text
  at_its_place k e text is has =
      let rs = there_at merged.captures k (let lt = slice_get_within merged.texts k text has in let same = merged.are.many in omega (arith, lt, same)) in
      let capture = merged.are.each k text rs.0 has rs.1 in
      let all = merged.merge.each k same_clock rs.0 (slice_get-map (λ (x : End). same_clock) (open_ends net) k ∙ ap (option_map (λ (x : End). same_clock)) is) rs.1 in (
        k,
        is,
        subst (IsCapture text)
            (sym (ap (map (λ (a : Arrival). a.head.frame)) all ∙ frames_of k same_clock (numbered_from 1 same_clock rs.0) ∙ numbered_back 1 rs.0 (capture_early text rs.0 capture))) capture,
      )

  pub all_split : IsSplit (IsOfItsPlace net came) net 0 net.tables merged.texts
  all_split = split (IsOfItsPlace net came) net 0 net.tables merged.texts (zip_places (IsOfItsPlace net came) (open_ends net) merged.texts many at_its_place)

  pub all_given_by : AreGivenBy remaining net first all_split.given
  all_given_by = split_read (IsOfItsPlace net came) remaining net first merged.texts all_split merged.read

  pub of_places : AreOfTheirPlaces net came all_split.given
  of_places n own text is among =
      let t = there_at net.tables n (let lt = slice_get_within all_split.given n own is in let long = all_split.long in omega (arith, lt, long)) in
      let there = split_at (IsOfItsPlace net came) net merged.texts all_split n t.0 t.1 in
      there.3 text (subst (λ (texts : List Text). Contains texts text) (sym (same_Some there.0 own (sym there.1 ∙ is))) among)

-- where each port is there once, it is that at the port's place
by_place : (net : Network) (came : List Arrival) (given : Given) → AllByRecursion IsWellFormed net.tables → AreGiven net given → AreOfTheirPlaces net came given → AreGivenSoFar net came given
by_place net came given formed are of = record {
  are = are;
  each = λ n own text is among.
      let there = of n own text is among in
      subst (λ (place : ℕ). IsCapture text.1 (records_at place came)) (sym (first_place (open_ends net) there.0 (end_at n text.0) (all_apart net 0 net.tables formed) there.1)) there.2;
}

pub whole : {R : Type 0} (remaining : R → Option (List ℕ)) (net : Network) (first : List R) (came : List Arrival)
    → AreMerged remaining (map (λ (e : End). same_clock) (open_ends net)) first came → AllByRecursion IsWellFormed net.tables
    → (given : Given) × AreGivenBy remaining net first given × AreGivenSoFar net came given × AreOfTheirPlaces net came given
whole remaining net first came merged formed =
    let s = all_split remaining net first came merged in
    let of = of_places remaining net first came merged in
    (s.given, all_given_by remaining net first came merged, by_place net came s.given formed (split_given (IsOfItsPlace net came) net merged.texts s) of, of)

-- ---- what was given came over its lines

pub lines_kept : Unique → (net : Network) (given : Given) (came : List Arrival) → AreOfTheirPlaces net came given → AreOverLines net came → KeepTheirLines net given
lines_kept unique net given came of over said e row records at =
    let there = of e.switch at.is_given.texts at.text at.is_given.texts_is at.is_given.has in
    let end : slice_get (open_ends net) there.0 ≡ Some e = subst (λ (port : ℕ). slice_get (open_ends net) there.0 ≡ Some (end_at e.switch port)) at.port there.1 in
    subst (RecordsKeepToLineWithin stamp_rounding row.speed) (sym (unique at.text.1 records (records_at there.0 came) at.capture there.2)) (over said there.0 e row end at.row_is)

-- ---- other texts of the same captures

pub regiven : Unique → (net : Network) (given other : Given) (came : List Arrival) (sites : List Site) → AreGivenSoFar net came given → AreGivenSoFar net came other → AreCarried net given sites
    → AreCarried net other sites
regiven unique net given other came sites one two are = record {
  are = record {
    each = λ n s at.
        let site = are.are.each n s at in
        site_of net other came n s two site.table_is site.running (fed_of unique net given came n s one site) (brought_of net given n s site);
    all = are.are.all;
  };
  wires = are.wires;
}
