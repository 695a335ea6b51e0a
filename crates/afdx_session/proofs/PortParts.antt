-- What the merge of captures has of a port is that port's capture.
use Rattle.std.proofs.Common.{◌≡◌, ℕ, ◌<◌, ◌==◌, Bool, true, false, cond, List, [], ◌∷◌, ◌++◌, map, get_or, drop}
use Rattle.std.proofs.Common.{refl, ap, sym, ◌∙◌, subst}
use Rattle.std.specs.List.{AllByRecursion}
use Rattle.std.proofs.lemmas.List.{append-nil}
use Rattle.std.proofs.lemmas.Bool.{eqb-true}
use Rattle.afdx_pcap.specs.Record.{Record}
use Rattle.afdx_table.specs.declared.rows.PortRow.{PortRow}
use Rattle.afdx_table.specs.Content.{Content}
use Rattle.afdx_table.specs.WellFormed.{IsWellFormed, Rises}
use Rattle.afdx_core.specs.Merge.{Capture, Rises as StampsRise, records_of, merged}
use Rattle.afdx_core.specs.Inner.Merge.{part_at, IsMerge, MergedIsAMerge}
use Rattle.afdx_session.specs.Texts.{Text, AreOfPorts}
use Rattle.afdx_session.specs.Reading.{AreCaptures}
use Rattle.afdx_session.proofs.Gathering.{capture_rises}
use Rattle.afdx_session.proofs.Numbered.{higher_differs}

abbrev Above : ℕ → List PortRow → Type 0
Above n ports = AllByRecursion (λ (q : PortRow). n < q.id) ports

no_records : (n : ℕ) (ports : List PortRow) (texts : List Text) (read : List Capture) → map (λ (text : Text). text.0) texts ≡ map (λ (p : PortRow). p.id) ports → AreCaptures texts read → Above n ports
    → records_of read n ≡ []
no_records n ports [] [] same are above = refl
no_records n ports [] (c ∷ read) same are above = absurd are
no_records n ports (text ∷ texts) [] same are above = absurd are
no_records n [] (text ∷ texts) (c ∷ read) same are above = absurd cc
no_records n (p ∷ ports) (text ∷ texts) (c ∷ read) same are above =
    let port : c.port ≡ p.id = are.0 ∙ ap (λ (ns : List ℕ). get_or ns 0 0) same in
    ap (λ (b : Bool). cond b c.records [] ++ records_of read n) (ap (λ (m : ℕ). m == n) port ∙ higher_differs n p.id above.0)
    ∙ no_records n ports texts read (ap (drop 1) same) are.2 above.1

records_rise : (ports : List PortRow) (texts : List Text) (read : List Capture) → map (λ (text : Text). text.0) texts ≡ map (λ (p : PortRow). p.id) ports → Rises ports → AreCaptures texts read
    → (n : ℕ) → StampsRise (records_of read n)
records_rise ports [] [] same rises are n = tt
records_rise ports [] (c ∷ read) same rises are n = absurd are
records_rise ports (text ∷ texts) [] same rises are n = absurd are
records_rise [] (text ∷ texts) (c ∷ read) same rises are n = absurd cc
records_rise (p ∷ ports) (text ∷ texts) (c ∷ read) same rises are n = by (c.port == n) refl (λ more. records_rise ports texts read more rises.1 are.2 n) where
  by : (b : Bool) → (c.port == n) ≡ b → (map (λ (other : Text). other.0) texts ≡ map (λ (q : PortRow). q.id) ports → StampsRise (records_of read n))
      → StampsRise (cond b c.records [] ++ records_of read n)
  by true is ih =
      let at : p.id ≡ n = sym (are.0 ∙ ap (λ (ns : List ℕ). get_or ns 0 0) same) ∙ eqb-true c.port n is in
      let none : records_of read n ≡ [] = no_records n ports texts read (ap (drop 1) same) are.2 (subst (λ (m : ℕ). Above m ports) at rises.0) in
      subst StampsRise (sym (ap (λ (rs : List Record). c.records ++ rs) none ∙ append-nil c.records)) (capture_rises text.1 c.records are.1)
  by false is ih = ih (ap (drop 1) same)

pub merge_is_read : MergedIsAMerge → (t : Content) (texts : List Text) (read : List Capture) → IsWellFormed t → AreOfPorts t texts → AreCaptures texts read → IsMerge read (merged read)
merge_is_read law t texts read formed ports are = law read (records_rise t.ports texts read ports formed.ports_rise are)

pub part_is_read : MergedIsAMerge → (t : Content) (texts : List Text) (read : List Capture) → IsWellFormed t → AreOfPorts t texts → AreCaptures texts read → (n : ℕ) → part_at n (merged read)
    ≡ records_of read n
part_is_read law t texts read formed ports are n = (merge_is_read law t texts read formed ports are).parts n
