-- What a run of our own switch answers is what recordings of it have to keep to.
use Rattle.std.proofs.Common.{◌≡◌, ℕ, ◌<◌, ◌≤◌, Bool, true, false, List, [], ◌∷◌, ◌++◌, map, drop, refl, sym, ap, subst, ◌∙◌, arith, inl, inr}
use Rattle.std.specs.Prelude.{◌==◌, cond, filter}
use Rattle.std.specs.List.{AllByRecursion}
use Rattle.std.proofs.lemmas.Bool.{cases_Bool, eqb-true, ne_eqb}
use Rattle.std.proofs.lemmas.List.{append-nil}
use Rattle.afdx_pcap.specs.declared.format.Format.{Format}
use Rattle.afdx_pcap.specs.Record.{Record}
use Rattle.afdx_pcap.specs.Capture.{Splits, after, IsCapture}
use Rattle.afdx_table.specs.declared.rows.PortRow.{PortRow}
use Rattle.afdx_table.specs.Content.{Content}
use Rattle.afdx_table.specs.WellFormed.{Rises, IsWellFormed}
use Rattle.afdx_account.specs.declared.frame.Frame.{Frame}
use Rattle.afdx_account.specs.Level.{InOrder}
use Rattle.afdx_filter.specs.Frame.{frame_of}
use Rattle.afdx_filter.specs.Verdict.{verdict_of}
use Rattle.afdx_core.specs.Rows.{says_clean}
use Rattle.afdx_core.specs.Merge.{Capture, records_of}
use Rattle.afdx_session.specs.Texts.{Text}
use Rattle.afdx_session.specs.Reading.{AreCaptures}
use Rattle.afdx_compare.specs.Inner.Laws.{ComeInOrder, ExactlyIsIsolated, OurRunsKeepToIt}

-- ---- the stamps of a capture do not fall, nor do those of some of its records

split_order : (f : Format) (last : ℕ) (bytes rest : List ℕ) (rs : List Record) → Splits f last bytes rs rest → InOrder last (map frame_of rs)
split_order f last bytes rest [] splits = tt
split_order f last bytes rest (r ∷ rs) splits = (splits.0.in_order, split_order f r.stamp (after r bytes) rest rs splits.1)

capture_order : (bytes : List ℕ) (rs : List Record) → IsCapture bytes rs → InOrder 0 (map frame_of rs)
capture_order bytes rs is = split_order is.format 0 _ [] rs is.records

pub order_from : (since later : ℕ) (fs : List Frame) → since ≤ later → InOrder later fs → InOrder since fs
order_from since later [] le order = tt
order_from since later (f ∷ fs) le order = let first = order.0 in (omega (arith, le, first), order.1)

pub order_filter : (p : Record → Bool) (since : ℕ) (rs : List Record) → InOrder since (map frame_of rs) → InOrder since (map frame_of (filter p rs))
order_filter p since [] order = tt
order_filter p since (r ∷ rs) order = elim (p r) as (λ b. InOrder since (map frame_of (cond b (r ∷ filter p rs) (filter p rs)))) [
  | true ↦ (order.0, order_filter p r.stamp rs order.1)
  | false ↦ order_from since r.stamp (map frame_of (filter p rs)) order.0 (order_filter p r.stamp rs order.1)
]

-- ---- each port has one capture

abbrev first_of : List ℕ → ℕ
first_of [] = 0
first_of (n ∷ ns) = n

head_same : (a b : ℕ) (xs ys : List ℕ) → a ∷ xs ≡ b ∷ ys → a ≡ b
head_same a b xs ys same = ap first_of same

tail_same : (a b : ℕ) (xs ys : List ℕ) → a ∷ xs ≡ b ∷ ys → xs ≡ ys
tail_same a b xs ys same = ap (λ (zs : List ℕ). drop 1 zs) same

ports_above : (port : ℕ) (ps : List PortRow) (texts : List Text) (read : List Capture) → AllByRecursion (λ q. port < q.id) ps → map (λ text. text.0) texts ≡ map (λ p. p.id) ps
    → AreCaptures texts read → records_of read port ≡ []
ports_above port ps [] [] above same are = refl
ports_above port ps [] (c ∷ read) above same are = absurd are
ports_above port ps (text ∷ texts) [] above same are = absurd are
ports_above port [] (text ∷ texts) (c ∷ read) above same are = absurd cc
ports_above port (p ∷ ps) (text ∷ texts) (c ∷ read) above same are =
    let first = are.0 ∙ head_same text.0 p.id _ _ same in
    let less = above.0 in
    ap (λ b. cond b c.records [] ++ records_of read port) (ne_eqb c.port port (λ equal. omega (arith, first, less, equal)))
    ∙ ports_above port ps texts read above.1 (tail_same text.0 p.id _ _ same) are.2

one_order : (port : ℕ) (ps : List PortRow) (texts : List Text) (read : List Capture) → Rises ps → map (λ text. text.0) texts ≡ map (λ p. p.id) ps → AreCaptures texts read
    → InOrder 0 (map frame_of (records_of read port))
one_order port ps [] [] rises same are = tt
one_order port ps [] (c ∷ read) rises same are = absurd are
one_order port ps (text ∷ texts) [] rises same are = absurd are
one_order port [] (text ∷ texts) (c ∷ read) rises same are = absurd cc
one_order port (p ∷ ps) (text ∷ texts) (c ∷ read) rises same are =
    let first = are.0 ∙ head_same text.0 p.id _ _ same in
    let rest = tail_same text.0 p.id _ _ same in
    elim (cases_Bool (c.port == port)) [
      | inl here ↦
          let none = ports_above port ps texts read (subst (λ n. AllByRecursion (λ q. n < q.id) ps) (sym first ∙ eqb-true c.port port here) rises.0) rest are.2 in
          subst (λ (rs : List Record). InOrder 0 (map frame_of rs))
          (sym (ap (λ b. cond b c.records [] ++ records_of read port) here ∙ ap (λ (rs : List Record). c.records ++ rs) none ∙ append-nil c.records))
          (capture_order text.1 c.records are.1)
      | inr other ↦
          subst (λ (rs : List Record). InOrder 0 (map frame_of rs)) (sym (ap (λ b. cond b c.records [] ++ records_of read port) other)) (one_order port ps texts read rises.1 rest are.2)
    ]

come_in_order : (t : Content) (texts : List Text) (read : List Capture) → IsWellFormed t → map (λ text. text.0) texts ≡ map (λ p. p.id) t.ports → AreCaptures texts read → ComeInOrder t read
come_in_order t texts read formed same are l there =
    order_filter (λ r. says_clean l.id (verdict_of t l.from r)) 0 (records_of read l.from) (one_order l.from t.ports texts read formed.ports_rise same are)

pub our_runs_keep_to_it : ExactlyIsIsolated → OurRunsKeepToIt
our_runs_keep_to_it exactly t texts results formed accepted of_ports run = (exactly t run.read run.out formed accepted (come_in_order t texts run.read formed of_ports run.are_read)).1 run.isolated
