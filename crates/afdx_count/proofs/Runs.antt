-- The counts of one arrival more.
use Rattle.std.proofs.Common.{◌≡◌, ℕ, ◌+◌, nat_eq, Bool, true, false, cond, List, [], ◌∷◌, ◌++◌, length, Option, Some, None, refl, sym, ap, ◌∙◌, arith, length-append, inl, inr}
use Rattle.std.specs.Prelude.{count_by}
use Rattle.std.proofs.lemmas.Bool.{cases_Bool}
use Rattle.std.proofs.lemmas.List.{append-nil}
use Rattle.std.proofs.lemmas.List.Elements.{filter-append}
use Rattle.std.proofs.lemmas.List.Sums.{sum_by_push}
use Rattle.afdx_units.specs.declared.line.Priority.{Priority}
use Rattle.afdx_table.specs.Link.{Link}
use Rattle.afdx_table.specs.Content.{Content, link_row}
use Rattle.afdx_filter.specs.declared.outcome.Verdict.{Verdict}
use Rattle.afdx_filter.specs.declared.outcome.Verdict.TheVariants.{Cut, Short, Long, Foreign, NoLink, WrongPort, TooBig, Clean}
use Rattle.afdx_port.specs.declared.Settings.{Settings}
use Rattle.afdx_port.specs.declared.Item.{Item}
use Rattle.afdx_port.specs.declared.Offer.{Offer}
use Rattle.afdx_port.specs.declared.Offer.TheVariants.{Queued, Full}
use Rattle.afdx_port.specs.Service.{Event, aged_of, sent_of}
use Rattle.afdx_port.specs.Admission.{fits, admitted}
use Rattle.afdx_port.specs.Content.{answers_full}
use Rattle.afdx_core.specs.declared.step.Row.{Row}
use Rattle.afdx_core.specs.declared.step.Fate.{Fate}
use Rattle.afdx_core.specs.declared.step.Fate.TheVariants.{Filtered, Policed, Passed}
use Rattle.afdx_core.specs.Rows.{fates_of, fate_of, fate_by, named, passes}
use Rattle.afdx_core.specs.Inner.Appended.{OneMoreFateIsAppended, OneMoreItemIsAppended}
use Rattle.afdx_count.specs.declared.counters.InCount.{InCount}
use Rattle.afdx_count.specs.declared.counters.LinkCount.{LinkCount}
use Rattle.afdx_count.specs.declared.links.LinkTally.{LinkTally}
use Rattle.afdx_count.specs.Counting.{capped, up, with_verdict, with_fate, verdict_in, is_of, with_answers}
use Rattle.afdx_count.specs.Tally.{noted_link}
use Rattle.afdx_count.specs.Run.{counted, is_partial, is_short, is_long, is_foreign, has_no_link, is_at_wrong_port, is_too_big, is_clean, arrivals_at, input_counts, is_passed, is_policed, link_counts}
use Rattle.afdx_count.specs.Run.{turned_away, of_priority, output_counts, link_tally}

capped_more : (whole n one : ℕ) → whole ≡ n + one → capped whole ≡ capped (capped n + one)
capped_more whole n one is = omega (arith, is)

capped_same : (whole n : ℕ) → whole ≡ n + 0 → capped whole ≡ capped n
capped_same whole n is = omega (arith, is)

-- one more is counted where it passes the test
pub counted-push : {X : Type 0} (test : X → Bool) (xs : List X) (x : X) → counted test (xs ++ x ∷ []) ≡ cond (test x) (up (counted test xs)) (counted test xs)
counted-push test xs x =
    elim (cases_Bool (test x)) [
      | inl hit ↦ rw hit (capped_more _ (count_by test xs) 1 (sum_by_push (λ y. cond (test y) 1 0) xs x ∙ ap (λ b. count_by test xs + cond b 1 0) hit))
      | inr miss ↦ rw miss (capped_same _ (count_by test xs) (sum_by_push (λ y. cond (test y) 1 0) xs x ∙ ap (λ b. count_by test xs + cond b 1 0) miss))
    ]

-- ---- the arrivals at a port

input-all : (rows : List Row) (row : Row) → input_counts (rows ++ row ∷ []) ≡ with_verdict row.verdict (record (input_counts rows) { seen = up (capped (length rows)) })
input-all rows row =
    let seen = capped_more (length (rows ++ row ∷ [])) (length rows) 1 (length-append rows (row ∷ [])) in
    let e1 = counted-push (λ (r : Row). is_partial r.verdict) rows row in
    let e2 = counted-push (λ (r : Row). is_short r.verdict) rows row in
    let e3 = counted-push (λ (r : Row). is_long r.verdict) rows row in
    let e4 = counted-push (λ (r : Row). is_foreign r.verdict) rows row in
    let e5 = counted-push (λ (r : Row). has_no_link r.verdict) rows row in
    let e6 = counted-push (λ (r : Row). is_at_wrong_port r.verdict) rows row in
    let e7 = counted-push (λ (r : Row). is_too_big r.verdict) rows row in
    let e8 = counted-push (λ (r : Row). is_clean r.verdict) rows row in
    (λ j. record { seen = seen j; cut = e1 j; short = e2 j; long = e3 j; foreign = e4 j; no_link = e5 j; wrong_port = e6 j; too_big = e7 j; clean = e8 j })
    ∙ by_verdict row.verdict (record (input_counts rows) { seen = up (capped (length rows)) }) where
      grown : Verdict → InCount → InCount
      grown v c = record {
        seen = c.seen;
        cut = cond (is_partial v) (up c.cut) c.cut;
        short = cond (is_short v) (up c.short) c.short;
        long = cond (is_long v) (up c.long) c.long;
        foreign = cond (is_foreign v) (up c.foreign) c.foreign;
        no_link = cond (has_no_link v) (up c.no_link) c.no_link;
        wrong_port = cond (is_at_wrong_port v) (up c.wrong_port) c.wrong_port;
        too_big = cond (is_too_big v) (up c.too_big) c.too_big;
        clean = cond (is_clean v) (up c.clean) c.clean;
      }

      by_verdict : (v : Verdict) (c : InCount) → grown v c ≡ with_verdict v c
      by_verdict Cut c = refl
      by_verdict Short c = refl
      by_verdict Long c = refl
      by_verdict Foreign c = refl
      by_verdict NoLink c = refl
      by_verdict WrongPort c = refl
      by_verdict TooBig c = refl
      by_verdict (Clean i) c = refl

-- a fate names the verdict, but for a clean frame's link
fate-verdict : (t : Content) (before : List Row) (row : Row) (c : InCount) → with_verdict (verdict_in (fate_of t before row)) c ≡ with_verdict row.verdict c
fate-verdict t before row c = by_verdict row.verdict refl where
  by_pass : (i : ℕ) (b : Bool) (j : ℕ) → with_verdict (verdict_in (cond b (Passed j) (Policed j))) c ≡ with_verdict (Clean i) c
  by_pass i true j = refl
  by_pass i false j = refl

  by_link : (i : ℕ) (m : Option Link) → row.verdict ≡ Clean i → with_verdict (verdict_in (fate_by m before row)) c ≡ with_verdict (Clean i) c
  by_link i None is = ap (λ v. with_verdict v c) is
  by_link i (Some l) is = by_pass i (passes l before row) l.id

  by_verdict : (v : Verdict) → row.verdict ≡ v → with_verdict (verdict_in (fate_by (named t v) before row)) c ≡ with_verdict v c
  by_verdict Cut is = ap (λ v. with_verdict v c) is
  by_verdict Short is = ap (λ v. with_verdict v c) is
  by_verdict Long is = ap (λ v. with_verdict v c) is
  by_verdict Foreign is = ap (λ v. with_verdict v c) is
  by_verdict NoLink is = ap (λ v. with_verdict v c) is
  by_verdict WrongPort is = ap (λ v. with_verdict v c) is
  by_verdict TooBig is = ap (λ v. with_verdict v c) is
  by_verdict (Clean i) is = by_link i (link_row t i) is

pub input-push : (t : Content) (port : ℕ) (rows : List Row) (row : Row)
    → input_counts (arrivals_at port (rows ++ row ∷ [])) ≡ cond (nat_eq port row.in_port) (with_fate (fate_of t rows row) (input_counts (arrivals_at port rows))) (input_counts (arrivals_at port rows))
input-push t port rows row =
    ap input_counts (filter-append (λ (r : Row). nat_eq port r.in_port) rows (row ∷ []))
    ∙ elim (cases_Bool (nat_eq port row.in_port)) [
      | inl hit ↦ rw hit (input-all (arrivals_at port rows) row ∙ sym (fate-verdict t rows row (record (input_counts (arrivals_at port rows)) { seen = up (capped (length (arrivals_at port rows))) })))
      | inr miss ↦ rw miss (ap input_counts (append-nil (arrivals_at port rows)))
    ]

-- ---- the frames of a link

pub link-push : OneMoreFateIsAppended → (t : Content) (rows : List Row) (row : Row) (l : Link) → noted_link (fate_of t rows row) (link_tally t rows l) ≡ link_tally t (rows ++ row ∷ []) l
link-push appended t rows row l =
    by_fate (fate_of t rows row)
    ∙ ap (λ fates. record { id = l.id; priority = l.priority; count = link_counts l.id fates }) (sym (appended t rows row)) where
      tally : LinkCount → LinkTally
      tally c = record { id = l.id; priority = l.priority; count = c }

      grown : (f : Fate) → link_counts l.id (fates_of t rows ++ f ∷ [])
          ≡ record {
            passed = cond (is_passed l.id f) (up (counted (is_passed l.id) (fates_of t rows))) (counted (is_passed l.id) (fates_of t rows));
            policed = cond (is_policed l.id f)
                (up (counted (is_policed l.id) (fates_of t rows))) (counted (is_policed l.id) (fates_of t rows));
          }
      grown f =
          let e1 = counted-push (is_passed l.id) (fates_of t rows) f in
          let e2 = counted-push (is_policed l.id) (fates_of t rows) f in
          (λ j. record { passed = e1 j; policed = e2 j })

      by_fate : (f : Fate) → noted_link f (link_tally t rows l) ≡ tally (link_counts l.id (fates_of t rows ++ f ∷ []))
      by_fate (Filtered v) = ap tally (sym (grown (Filtered v)))
      by_fate (Policed j) =
          elim (cases_Bool (nat_eq l.id j)) [
            | inl hit ↦ rw hit (ap tally (ap (λ b. record {
              passed = counted (is_passed l.id) (fates_of t rows);
              policed = cond b (up (counted (is_policed l.id) (fates_of t rows)))
                  (counted (is_policed l.id) (fates_of t rows));
            }) (sym hit) ∙ sym (grown (Policed j))))
            | inr miss ↦ rw miss (ap tally (ap (λ b. record {
              passed = counted (is_passed l.id) (fates_of t rows);
              policed = cond b (up (counted (is_policed l.id) (fates_of t rows)))
                  (counted (is_policed l.id) (fates_of t rows));
            }) (sym miss) ∙ sym (grown (Policed j))))
          ]
      by_fate (Passed j) =
          elim (cases_Bool (nat_eq l.id j)) [
            | inl hit ↦ rw hit (ap tally (ap (λ b. record {
              passed = cond b (up (counted (is_passed l.id) (fates_of t rows))) (counted (is_passed l.id) (fates_of t rows));
              policed = counted
                  (is_policed l.id) (fates_of t rows);
            }) (sym hit) ∙ sym (grown (Passed j))))
            | inr miss ↦ rw miss (ap tally (ap (λ b. record {
              passed = cond b (up (counted (is_passed l.id) (fates_of t rows))) (counted (is_passed l.id) (fates_of t rows));
              policed = counted
                  (is_policed l.id) (fates_of t rows);
            }) (sym miss) ∙ sym (grown (Passed j))))
          ]

-- ---- the copies at an output port

turned-push : OneMoreItemIsAppended → (s : Settings) (feed : List Item) (x : Item) → turned_away s (feed ++ x ∷ []) ≡ turned_away s feed ++ cond (fits s (admitted s feed) x) [] (x ∷ [])
unfolding turned_away
turned-push one_item s feed x = one_item (λ before y. cond (fits s (admitted s before) y) [] (y ∷ [])) feed x

of_priority-push : (priority : Priority) (items : List Item) (x : Item) → of_priority priority (items ++ x ∷ [])
    ≡ cond (is_of priority x.priority) (up (of_priority priority items)) (of_priority priority items)
of_priority-push priority items x = counted-push (λ (item : Item). is_of priority item.priority) items x

-- how a port answers an item, after those of the feed
abbrev pub answer_after : Settings → List Item → Item → Offer
answer_after s feed x = cond (fits s (admitted s feed) x) Queued Full

pub one_offered : OneMoreItemIsAppended → (priority : Priority) (s : Settings) (feed : List Item) (x : Item) (events : List Event) → is_of priority x.priority ≡ true
    → output_counts priority s (feed ++ x ∷ []) events ≡ with_answers (answer_after s feed x ∷ []) (output_counts priority s feed events)
one_offered one_item priority s feed x events is =
    let e1 = of_priority-push priority feed x ∙ ap (λ b. cond b (up (of_priority priority feed)) (of_priority priority feed)) is in
    let e2 = ap (of_priority priority) (turned-push one_item s feed x) ∙ by_fit (fits s (admitted s feed) x) in
    (λ j. record { offered = e1 j; full = e2 j; aged = counted (λ a. is_of priority a.item.priority) (aged_of events); sent = counted (λ e. is_of priority e.item.priority) (sent_of events) }) where
      by_fit : (b : Bool) → of_priority priority (turned_away s feed ++ cond b [] (x ∷ [])) ≡ capped (of_priority priority (turned_away s feed) + count_by answers_full (cond b Queued Full ∷ []))
      by_fit true = ap (of_priority priority) (append-nil (turned_away s feed)) ∙ capped_zero (count_by (λ (item : Item). is_of priority item.priority) (turned_away s feed)) where
        capped_zero : (n : ℕ) → capped n ≡ capped (capped n + 0)
        capped_zero n = omega arith
      by_fit false = of_priority-push priority (turned_away s feed) x ∙ ap (λ b. cond b (up (of_priority priority (turned_away s feed))) (of_priority priority (turned_away s feed))) is

pub other_offered : OneMoreItemIsAppended → (priority : Priority) (s : Settings) (feed : List Item) (x : Item) (events : List Event) → is_of priority x.priority ≡ false
    → output_counts priority s (feed ++ x ∷ []) events ≡ output_counts priority s feed events
other_offered one_item priority s feed x events is =
    let e1 = of_priority-push priority feed x ∙ ap (λ b. cond b (up (of_priority priority feed)) (of_priority priority feed)) is in
    let e2 = ap (of_priority priority) (turned-push one_item s feed x) ∙ by_fit (fits s (admitted s feed) x) in
    (λ j. record { offered = e1 j; full = e2 j; aged = counted (λ a. is_of priority a.item.priority) (aged_of events); sent = counted (λ e. is_of priority e.item.priority) (sent_of events) }) where
      by_fit : (b : Bool) → of_priority priority (turned_away s feed ++ cond b [] (x ∷ [])) ≡ of_priority priority (turned_away s feed)
      by_fit true = ap (of_priority priority) (append-nil (turned_away s feed))
      by_fit false = of_priority-push priority (turned_away s feed) x ∙ ap (λ b. cond b (up (of_priority priority (turned_away s feed))) (of_priority priority (turned_away s feed))) is
