-- Where the text that came in is that of what left, so much later, its records are those that left, so much later.
use Rattle.std.proofs.Common.{◌≡◌, ℕ, ◌+◌, ◌<◌, ◌≤◌, true, List, [], ◌∷◌, ◌++◌, length, map, refl, ap, sym, ◌∙◌, arith, subst}
use Rattle.std.specs.Prelude.{Contains}
use Rattle.std.specs.List.{AllByRecursion, flat_map}
use Rattle.std.proofs.lemmas.List.Elements.{All-from_recursion}
use Rattle.afdx_units.specs.Time.{last_second, IsInstant}
use Rattle.afdx_pcap.specs.Record.{Record, IsWithinLimit, whole}
use Rattle.afdx_pcap.specs.Text.{head_text, record_text, capture_text, header_text}
use Rattle.afdx_pcap.specs.Capture.{IsCapture}
use Rattle.afdx_pcap.specs.Inner.ReadBack.{WrittenTextsReadBack}
use Rattle.afdx_table.specs.declared.rows.PortRow.{PortRow}
use Rattle.afdx_table.specs.Link.{Link, leads_to}
use Rattle.afdx_table.specs.WellFormed.{IsWellFormed}
use Rattle.afdx_table.specs.Inner.Found.{LinksAreFound}
use Rattle.afdx_filter.specs.Inner.Exactly.{CleanExactly}
use Rattle.afdx_filter.specs.Verdict.{verdict_of}
use Rattle.afdx_core.specs.Rows.{says_clean}
use Rattle.afdx_load.specs.Accepted.{IsAccepted}
use Rattle.afdx_core.specs.Merge.{records_of}
use Rattle.afdx_core.specs.Inner.Agreement.{VerdictsNameLinks}
use Rattle.afdx_session.specs.Headline.{records_for, IsIsolatedAt}
use Rattle.afdx_session.specs.Inner.Early.{RecordsAreEarly}
use Rattle.afdx_network.specs.Way.{delayed}
use Rattle.afdx_network.specs.Runs.{SwitchRun}
use Rattle.afdx_network.proofs.Lists.{all_weaken, all_kept}
use Rattle.afdx_network.proofs.Texts.{written_at, numbers_rise, read_at}
use Rattle.afdx_network.proofs.Leaves.{half, each_left, leave_later, leave_short}

-- a record as its text has it
abbrev again : Record → Record
again r = whole r.stamp r.bytes

same_text : (r : Record) → record_text (again r) ≡ record_text r
unfolding head_text
same_text r = refl

same_texts : (rs : List Record) → flat_map record_text (map again rs) ≡ flat_map record_text rs
same_texts [] = refl
same_texts (r ∷ rs) = ap (λ (text : List ℕ). text ++ flat_map record_text (map again rs)) (same_text r) ∙ ap (λ (text : List ℕ). record_text r ++ text) (same_texts rs)

later_again : (cable : ℕ) (rs : List Record) → map (delayed cable) (map again rs) ≡ map (delayed cable) rs
later_again cable [] = refl
later_again cable (r ∷ rs) = ap (λ (others : List Record). delayed cable r ∷ others) (later_again cable rs)

-- what leaves can be written, and written again up to half a second later
pub record CanBeWritten (r : Record) : Type 0 where
  pub short : length r.bytes ≤ 1518
  pub early : r.stamp < last_second + half

all_written : (left : List Record) → AllByRecursion (λ (r : Record). length r.bytes ≤ 1518) left → AllByRecursion (λ (r : Record). r.stamp ≤ 4294967294999999999 + half) left
    → AllByRecursion CanBeWritten left
all_written [] short early = tt
all_written (r ∷ left) short early = let e = early.0 in (record { short = short.0; early = omega (arith, e) }, all_written left short.1 early.1)

module _ (exact : CleanExactly) (verdicts : VerdictsNameLinks) (links : LinksAreFound) (early : RecordsAreEarly) where
  pub can_be_written : (run : SwitchRun) (p : PortRow) → IsWellFormed run.table → IsAccepted run.table → Contains run.table.ports p → AllByRecursion CanBeWritten (run.isolated.out p)
  can_be_written run p formed accepted among =
      all_written (run.isolated.out p) (leave_short exact verdicts links run.table run.isolated.read p (run.isolated.out p) formed isolated)
      (each_left (λ (r : Record). r.stamp ≤ 4294967294999999999 + half) run.table run.isolated.read p (run.isolated.out p) isolated each) where
        isolated : IsIsolatedAt run.table run.isolated.read p (run.isolated.out p)
        isolated = run.isolated.isolated p among

        each : (l : Link) → Contains run.table.links l → leads_to p.id l ≡ true → AllByRecursion (λ (r : Record). r.stamp ≤ 4294967294999999999 + half) (records_for l (run.isolated.out p))
        each l known leads =
            leave_later run.table run.isolated.read p (run.isolated.out p) l 4294967294999999999 formed accepted among isolated known leads
            (all_kept (λ (r : Record). r.stamp ≤ 4294967294999999999) (λ (r : Record). says_clean l.id (verdict_of run.table l.from r)) (records_of run.isolated.read l.from)
            (all_weaken (λ (r : Record). r.stamp < last_second) (λ (r : Record). r.stamp ≤ 4294967294999999999) (records_of run.isolated.read l.from) (λ r soon. omega (arith, soon))
            (early run.texts run.isolated.read l.from run.isolated.are_read)))

-- ---- read again

limits : (cable : ℕ) (rs : List Record) → AllByRecursion CanBeWritten rs → AllByRecursion IsWithinLimit (map (delayed cable) rs)
limits cable [] all = tt
limits cable (r ∷ rs) all = let short = all.0.short in (omega (arith, short), limits cable rs all.1)

instants : (cable : ℕ) (rs : List Record) → cable ≤ 1000000 → AllByRecursion CanBeWritten rs → AllByRecursion (λ (r : Record). IsInstant r.stamp) (map (delayed cable) rs)
instants cable [] small all = tt
instants cable (r ∷ rs) small all = let early = all.0.early in (omega (arith, early, small), instants cable rs small all.1)

originals : (cable : ℕ) (rs : List Record) → AllByRecursion (λ (r : Record). r.original ≡ length r.bytes) (map (delayed cable) rs)
originals cable [] = tt
originals cable (r ∷ rs) = (refl, originals cable rs)

back_later : WrittenTextsReadBack → (cable : ℕ) (rs qs : List Record) → cable ≤ 1000000 → AllByRecursion CanBeWritten rs
    → IsCapture (capture_text (map (delayed cable) rs)) qs → qs ≡ map (delayed cable) rs
back_later back cable rs qs small all read =
    back (map (delayed cable) rs) qs (All-from_recursion IsWithinLimit (map (delayed cable) rs) (limits cable rs all))
    (All-from_recursion (λ (r : Record). IsInstant r.stamp) (map (delayed cable) rs) (instants cable rs small all))
    (All-from_recursion (λ (r : Record). r.original ≡ length r.bytes) (map (delayed cable) rs) (originals cable rs)) read

again_is_now : (rs : List Record) → map (delayed 0) rs ≡ map again rs
again_is_now [] = refl
again_is_now (r ∷ rs) =
    let now : r.stamp + 0 ≡ r.stamp = omega arith in
    ap (λ (n : ℕ). whole n r.bytes ∷ map (delayed 0) rs) now ∙ ap (λ (others : List Record). again r ∷ others) (again_is_now rs)

-- what is read of a text that left, so much later, is what left, so much later
pub goes_on : WrittenTextsReadBack → (cable : ℕ) (rs left : List Record) → AllByRecursion CanBeWritten rs → IsCapture (capture_text rs) left → map (delayed cable) left ≡ map (delayed cable) rs
goes_on back cable rs left all read =
    let texts : capture_text rs ≡ capture_text (map (delayed 0) rs)
    = ap (λ (text : List ℕ). header_text ++ text) (sym (ap (flat_map record_text) (again_is_now rs) ∙ same_texts rs)) in
    let same : left ≡ map (delayed 0) rs = back_later back 0 rs left (omega arith) all (subst (λ (text : List ℕ). IsCapture text left) texts read) in
    ap (map (delayed cable)) (same ∙ again_is_now rs) ∙ later_again cable rs

-- ---- over a wire

module _ (exact : CleanExactly) (verdicts : VerdictsNameLinks) (links : LinksAreFound) (early : RecordsAreEarly) (back : WrittenTextsReadBack) where
  pub wired : (here there : SwitchRun) (cable to : ℕ) (p : PortRow) (bytes : List ℕ) (left : List Record) → IsWellFormed here.table → IsAccepted here.table → IsWellFormed there.table
      → cable ≤ 1000000 → Contains here.table.ports p → Contains here.results.captures (p.id, bytes) → IsCapture bytes left
      → Contains there.texts (to, capture_text (map (delayed cable) left)) → records_of there.isolated.read to ≡ map (delayed cable) (here.isolated.out p)
  wired here there cable to p bytes left formed accepted formed_there small among written read comes =
      let out = here.isolated.out p in
      let writable = can_be_written exact verdicts links early here p formed accepted among in
      let text : bytes ≡ capture_text out = written_at here.table here.isolated.out here.results.captures p bytes formed here.isolated.captures among written in
      let same : map (delayed cable) left ≡ map (delayed cable) out = goes_on back cable out left writable (subst (λ (b : List ℕ). IsCapture b left) text read) in
      let at_end = read_at there.texts there.isolated.read to (capture_text (map (delayed cable) out)) there.isolated.are_read (numbers_rise there.table there.texts formed_there there.outcome.ports)
      (subst (λ (rs : List Record). Contains there.texts (to, capture_text rs)) same comes) in
      at_end.all ∙ back_later back cable out at_end.records small writable at_end.capture
