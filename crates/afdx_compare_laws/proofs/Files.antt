-- What is read of the files of a run is what came and what it answers.
use Rattle.std.proofs.Common.{◌≡◌, ℕ, suc, true, false, cond, List, [], ◌∷◌, ◌++◌, map, filter, length, Some, refl, ap, subst, ◌∙◌, arith}
use Rattle.std.specs.Prelude.{◌⊎◌, slice_get, All, Contains}
use Rattle.std.specs.List.{AllByRecursion, AllZip}
use Rattle.afdx_pcap.specs.Record.{Record, IsWithinLimit}
use Rattle.afdx_pcap.specs.Capture.{IsCapture}
use Rattle.afdx_pcap.specs.Text.{capture_text, AreReadable}
use Rattle.afdx_table.specs.declared.rows.PortRow.{PortRow}
use Rattle.afdx_core.specs.Merge.{Capture, merged}
use Rattle.afdx_session.specs.Inner.Readable.{OutputsAreReadable}
use Rattle.afdx_session.specs.Texts.{Text}
use Rattle.afdx_session.specs.Reading.{AreCaptures as AreReadAs}
use Rattle.afdx_session.specs.Output.{output_of, outputs}
use Rattle.afdx_merging.specs.Merge.{IsMergeOf}
use Rattle.afdx_merging.specs.Read.{AreCaptures}
use Rattle.afdx_recordings.specs.declared.outputs.Outputs.{Outputs}
use Rattle.afdx_recordings.specs.Recordings.{is_recorded}
use Rattle.afdx_compare.specs.Sources.{sources_of}
use Rattle.afdx_compare.specs.Inner.Laws.{recorded_ports}
use Rattle.afdx_compare_laws.specs.Runs.{AreWhole, AreOfSpan, captures_of, OurRunsConform}
use Rattle.afdx_compare_laws.specs.Files.{OurFilesConform}
use Rattle.afdx_compare_laws.proofs.Narrowing.{all_map}
use Rattle.afdx_compare_laws.proofs.Spans.{contained}

-- ---- one reading of each file

abbrev HasOneReading : Type 0
HasOneReading = (bytes : List ℕ) (rs qs : List Record) → IsCapture bytes rs → IsCapture bytes qs → rs ≡ qs

only_these : HasOneReading → (texts : List (List ℕ)) (captures known : List (List Record)) → length captures ≡ length texts
    → ((place : ℕ) (text : List ℕ) (rs : List Record) → slice_get texts place ≡ Some text → slice_get captures place ≡ Some rs → IsCapture text rs) → AllZip IsCapture texts known
    → captures ≡ known
only_these one [] [] [] many each are = refl
only_these one [] [] (k ∷ known) many each are = absurd are
only_these one [] (c ∷ captures) known many each are = absurd (omega (arith, many))
only_these one (x ∷ texts) [] known many each are = absurd (omega (arith, many))
only_these one (x ∷ texts) (c ∷ captures) [] many each are = absurd are
only_these one (x ∷ texts) (c ∷ captures) (k ∷ known) many each are =
    ap (λ (rs : List Record). rs ∷ captures) (one x c k (each 0 x c refl refl) are.0)
    ∙ ap (λ (cs : List (List Record)). k ∷ cs)
    (only_these one texts captures known (omega (arith, many)) (λ place text rs at get. each (suc place) text rs at get) are.1)

both_are : (texts more : List (List ℕ)) (captures others : List (List Record)) → AllZip IsCapture texts captures → AllZip IsCapture more others
    → AllZip IsCapture (texts ++ more) (captures ++ others)
both_are [] more [] others are also = also
both_are [] more (c ∷ captures) others are also = absurd are
both_are (x ∷ texts) more [] others are also = absurd are
both_are (x ∷ texts) more (c ∷ captures) others are also = (are.0, both_are texts more captures others are.1 also)

-- ---- what came, and what left

came_are : (texts : List Text) (read : List Capture) → AreReadAs texts read → AllZip IsCapture (map (λ x. x.1) texts) (map (λ c. c.records) read)
came_are [] [] are = tt
came_are [] (c ∷ read) are = absurd are
came_are (text ∷ texts) [] are = absurd are
came_are (text ∷ texts) (c ∷ read) are = (are.1, came_are texts read are.2)

module _ (outs : Outputs) (out : PortRow → List Record) where
  abbrev text_of : PortRow → Text
  text_of p = (p.id, capture_text (out p))

  abbrev recorded_texts : List PortRow → List Text
  recorded_texts ps = filter (λ x. is_recorded outs x.0) (map text_of ps)

  abbrev recorded_rows : List PortRow → List PortRow
  recorded_rows ps = filter (λ p. is_recorded outs p.id) ps

  left_are : (ps : List PortRow) → AllByRecursion (λ p. IsCapture (capture_text (out p)) (out p)) ps → AllZip IsCapture (map (λ x. x.1) (recorded_texts ps)) (map out (recorded_rows ps))
  left_are [] all = tt
  left_are (p ∷ ps) all = elim (is_recorded outs p.id)
      as (λ b. AllZip IsCapture (map (λ x. x.1) (cond b (text_of p ∷ recorded_texts ps) (recorded_texts ps))) (map out (cond b (p ∷ recorded_rows ps) (recorded_rows ps)))) [
        | true ↦ (all.0, left_are ps all.1)
        | false ↦ left_are ps all.1
      ]

pub record Needed : Type 0 where
  pub written : (rs : List Record) → AreReadable 0 rs → All IsWithinLimit rs → IsCapture (capture_text rs) rs
  pub one : HasOneReading
  pub readable : OutputsAreReadable
  pub conforms : OurRunsConform

pub our_files_conform : Needed → OurFilesConform
our_files_conform needed t texts results r from until keeping captures arrivals first formed accepted run early ours are ends begun merge =
    let out : PortRow → List Record = λ p. output_of t (merged run.read) p in
    let left = all_map (Contains t.ports) (λ p. IsCapture (capture_text (out p)) (out p))
    (λ p among. let can = needed.readable t texts run.read formed run.are_read early p among in needed.written (out p) can.0 can.1) t.ports (contained t.ports) in
    let known = both_are (map (λ x. x.1) texts) (map (λ x. x.1) (recorded_texts r.outputs out t.ports)) (map (λ c. c.records) run.read) (map out (recorded_ports t r))
    (came_are texts run.read run.are_read) (left_are r.outputs out t.ports left) in
    let files : List Text → List (List ℕ) = λ xs. map (λ x. x.1) texts ++ map (λ x. x.1) (filter (λ x. is_recorded r.outputs x.0) xs) in
    let given = subst (λ (xs : List Text). AreCaptures (files xs) captures) run.captures are in
    let same : captures ≡ captures_of t r run.read = only_these needed.one (files (outputs t (merged run.read))) captures (captures_of t r run.read) given.many given.each known in
    needed.conforms t texts results r from until keeping arrivals first formed accepted run ours
    (subst (λ (cs : List (List Record)). AreWhole r until cs ⊎ AreOfSpan t r run.read from until) same ends) begun
    (subst (λ (cs : List (List Record)). IsMergeOf (sources_of t r).clocks cs arrivals) same merge)
