-- What the counts add up to.
use Rattle.std.proofs.Common.{◌≡◌, ℕ, ◌+◌, ◌<◌, ◌≤◌, ◌==◌, nat_eq, Bool, true, false, cond, List, [], ◌∷◌, ◌++◌, length, Option, Some, None, refl, sym, ap, ◌∙◌, arith, inl, inr, add-zero, zero-add}
use Rattle.std.specs.Prelude.{count_by}
use Rattle.std.proofs.lemmas.Bool.{cases_Bool, eqb-true}
use Rattle.std.proofs.lemmas.List.Folds.{find_at}
use Rattle.std.proofs.lemmas.List.Sums.{passes_at_first, sum_by_push}
use Rattle.std.proofs.lemmas.Option.{gets, none-some}
use Rattle.afdx_table.specs.Link.{Link}
use Rattle.afdx_table.specs.Content.{Content, link_row}
use Rattle.afdx_filter.specs.declared.outcome.Verdict.{Verdict}
use Rattle.afdx_filter.specs.declared.outcome.Verdict.TheVariants.{Cut, Short, Long, Foreign, NoLink, WrongPort, TooBig, Clean}
use Rattle.afdx_port.specs.declared.Settings.{Settings}
use Rattle.afdx_port.specs.declared.Item.{Item}
use Rattle.afdx_port.specs.Service.{Event, sending, aging, item_of, service, sent_of, aged_of}
use Rattle.afdx_port.specs.Admission.{fits, admit_all, admitted}
use Rattle.afdx_port.specs.Inner.Admission.{AdmittedInParts}
use Rattle.afdx_port.specs.Inner.Events.{EachHasOneEvent}
use Rattle.afdx_core.specs.declared.step.Row.{Row}
use Rattle.afdx_core.specs.declared.step.Fate.{Fate}
use Rattle.afdx_core.specs.declared.step.Fate.TheVariants.{Passed, Policed}
use Rattle.afdx_core.specs.Rows.{each_after, fates_of, fate_of, fate_by, named, passes, says_clean, own_frames}
use Rattle.afdx_count.specs.Counting.{greatest_count, capped, is_of}
use Rattle.afdx_count.specs.Run.{is_partial, is_short, is_long, is_foreign, has_no_link, is_at_wrong_port, is_too_big, is_clean, is_passed, is_policed, turned_away}
use Rattle.afdx_count.specs.Inner.Laws.{SeenIsTheSum, PassedAndPolicedAreClean, OfferedIsTheSum}
use Rattle.afdx_count.proofs.Notes.{count_one}

-- a part of a number that a counter holds
below : (n m : ℕ) → capped n < greatest_count → m ≤ n → capped m ≡ m
below n m lt le = omega (arith, lt, le)

below_itself : (n : ℕ) → capped n < greatest_count → capped n ≡ n
below_itself n lt = omega (arith, lt)

-- ---- verdicts

abbrev number_of : (Verdict → Bool) → List Row → ℕ
number_of test rows = count_by (λ (row : Row). test row.verdict) rows

number-cons : (test : Verdict → Bool) (row : Row) (rows : List Row) → number_of test (row ∷ rows) ≡ cond (test row.verdict) 1 0 + number_of test rows
number-cons test row rows = count_one (λ (r : Row). test r.verdict) row rows

one_verdict : (v : Verdict) → cond (is_partial v) 1 0 + cond (is_short v) 1 0 + cond (is_long v) 1 0 + cond (is_foreign v) 1 0 + cond (has_no_link v) 1 0 + cond (is_at_wrong_port v) 1 0
    + cond (is_too_big v) 1 0 + cond (is_clean v) 1 0 ≡ 1
one_verdict Cut = refl
one_verdict Short = refl
one_verdict Long = refl
one_verdict Foreign = refl
one_verdict NoLink = refl
one_verdict WrongPort = refl
one_verdict TooBig = refl
one_verdict (Clean i) = refl

all_verdicts : (rows : List Row) → length rows ≡ number_of is_partial rows + number_of is_short rows + number_of is_long rows + number_of is_foreign rows + number_of has_no_link rows
    + number_of is_at_wrong_port rows + number_of is_too_big rows + number_of is_clean rows
all_verdicts [] = refl
all_verdicts (row ∷ rows) =
    omega (
      arith,
      one_verdict row.verdict,
      all_verdicts rows,
      number-cons is_partial row rows,
      number-cons is_short row rows,
      number-cons is_long row rows,
      number-cons is_foreign row rows,
      number-cons has_no_link row rows,
      number-cons is_at_wrong_port row rows,
      number-cons is_too_big row rows,
      number-cons is_clean row rows,
    )

sum_below : (n a b c d e f g h : ℕ) → n ≡ a + b + c + d + e + f + g + h → capped n < greatest_count
    → capped n ≡ capped a + capped b + capped c + capped d + capped e + capped f + capped g + capped h
sum_below n a b c d e f g h is lt =
    below_itself n lt ∙ is
    ∙ (λ j. sym (below n a lt (omega (arith, is))) j + sym (below n b lt (omega (arith, is))) j + sym (below n c lt (omega (arith, is))) j + sym (below n d lt (omega (arith, is))) j
    + sym (below n e lt (omega (arith, is))) j + sym (below n f lt (omega (arith, is))) j + sym (below n g lt (omega (arith, is))) j + sym (below n h lt (omega (arith, is))) j)

pub seen_is_the_sum : SeenIsTheSum
seen_is_the_sum rows lt =
    sum_below (length rows) (number_of is_partial rows) (number_of is_short rows) (number_of is_long rows) (number_of is_foreign rows) (number_of has_no_link rows) (number_of is_at_wrong_port rows)
    (number_of is_too_big rows) (number_of is_clean rows) (all_verdicts rows) lt

-- ---- frames of a link

one_fate : (t : Content) (l : Link) (before : List Row) (row : Row) → link_row t l.id ≡ Some l
    → cond (is_passed l.id (fate_of t before row)) 1 0 + cond (is_policed l.id (fate_of t before row)) 1 0 ≡ cond (says_clean l.id row.verdict) 1 0
one_fate t l before row found = by_verdict row.verdict refl where
  ones : Fate → ℕ
  ones f = cond (is_passed l.id f) 1 0 + cond (is_policed l.id f) 1 0

  by_pass : (b : Bool) (i j : ℕ) → i ≡ j → cond (is_passed l.id (cond b (Passed i) (Policed i))) 1 0 + cond (is_policed l.id (cond b (Passed i) (Policed i))) 1 0 ≡ cond (nat_eq l.id j) 1 0
  by_pass true i j e = ap (λ k. cond (nat_eq l.id k) 1 0 + 0) e ∙ add-zero (cond (nat_eq l.id j) 1 0)
  by_pass false i j e = ap (λ k. 0 + cond (nat_eq l.id k) 1 0) e ∙ zero-add (cond (nat_eq l.id j) 1 0)

  absent : (j : ℕ) → link_row t j ≡ None → nat_eq l.id j ≡ false
  absent j none =
      elim (cases_Bool (nat_eq l.id j)) [
        | inl hit ↦ absurd (none-some l (sym none ∙ ap (link_row t) (sym (eqb-true l.id j hit)) ∙ found))
        | inr miss ↦ miss
      ]

  by_link : (j : ℕ) (m : Option Link) → row.verdict ≡ Clean j → link_row t j ≡ m
      → cond (is_passed l.id (fate_by m before row)) 1 0 + cond (is_policed l.id (fate_by m before row)) 1 0 ≡ cond (nat_eq l.id j) 1 0
  by_link j None clean is = ap (λ b. cond b 1 0) (sym (absent j is))
  by_link j (Some m) clean is =
      by_pass (passes m before row) m.id j (eqb-true m.id j (grind (arith, gets, is, find_at (λ (k : Link). k.id == j) t.links, passes_at_first (λ (k : Link). k.id == j) t.links m)))

  by_verdict : (v : Verdict) → row.verdict ≡ v → cond (is_passed l.id (fate_by (named t v) before row)) 1 0 + cond (is_policed l.id (fate_by (named t v) before row)) 1 0 ≡ cond (says_clean l.id v) 1 0
  by_verdict Cut is = refl
  by_verdict Short is = refl
  by_verdict Long is = refl
  by_verdict Foreign is = refl
  by_verdict NoLink is = refl
  by_verdict WrongPort is = refl
  by_verdict TooBig is = refl
  by_verdict (Clean j) is = by_link j (link_row t j) is refl

own-cons : (i : ℕ) (row : Row) (rows : List Row) → length (own_frames i (row ∷ rows)) ≡ cond (says_clean i row.verdict) 1 0 + length (own_frames i rows)
own-cons i row rows = by (says_clean i row.verdict) where
  by : (b : Bool) → length (cond b (row ∷ own_frames i rows) (own_frames i rows)) ≡ cond b 1 0 + length (own_frames i rows)
  by true = omega arith
  by false = omega arith

all_fates : (t : Content) (l : Link) (before rows : List Row) → link_row t l.id ≡ Some l
    → count_by (is_passed l.id) (each_after (λ b row. fate_of t b row ∷ []) before rows) + count_by (is_policed l.id) (each_after (λ b row. fate_of t b row ∷ []) before rows)
    ≡ length (own_frames l.id rows)
all_fates t l before [] found = refl
all_fates t l before (row ∷ rows) found =
    let more = each_after (λ b r. fate_of t b r ∷ []) (before ++ row ∷ []) rows in
    omega (
      arith,
      count_one (is_passed l.id) (fate_of t before row) more,
      count_one (is_policed l.id) (fate_of t before row) more,
      one_fate t l before row found,
      own-cons l.id row rows,
      all_fates t l (before ++ row ∷ []) rows found,
    )

all_of_run : (t : Content) (l : Link) (rows : List Row) → link_row t l.id ≡ Some l → count_by (is_passed l.id) (fates_of t rows) + count_by (is_policed l.id) (fates_of t rows)
    ≡ length (own_frames l.id rows)
unfolding fates_of
all_of_run t l rows found = all_fates t l [] rows found

pub passed_and_policed_are_clean : PassedAndPolicedAreClean
passed_and_policed_are_clean t l rows found passed policed =
    (λ j. below_itself (count_by (is_passed l.id) (fates_of t rows)) passed j + below_itself (count_by (is_policed l.id) (fates_of t rows)) policed j) ∙ all_of_run t l rows found

-- ---- copies

count-push : (kind : Item → Bool) (xs : List Item) (x : Item) → count_by kind (xs ++ x ∷ []) ≡ count_by kind xs + cond (kind x) 1 0
count-push kind xs x = sum_by_push (λ y. cond (kind y) 1 0) xs x

-- each item of a feed is admitted or refused
one_or_other : AdmittedInParts → (s : Settings) (kind : Item → Bool) (before feed : List Item)
    → count_by kind (each_after (λ b x. cond (fits s (admitted s b) x) [] (x ∷ [])) before feed) + count_by kind (admit_all s (admitted s before) feed) ≡ count_by kind feed
    + count_by kind (admitted s before)
one_or_other in_parts s kind before [] = refl
one_or_other in_parts s kind before (x ∷ feed) =
    by (fits s (admitted s before) x) (one_or_other in_parts s kind (before ++ x ∷ []) feed) (in_parts s [] before (x ∷ [])) where
      by : (b : Bool) → count_by kind (each_after (λ b x. cond (fits s (admitted s b) x) [] (x ∷ [])) (before ++ x ∷ []) feed) + count_by kind (admit_all s (admitted s (before ++ x ∷ [])) feed)
          ≡ count_by kind feed + count_by kind (admitted s (before ++ x ∷ []))
          → admitted s (before ++ x ∷ []) ≡ cond b (admitted s before ++ x ∷ []) (admitted s before)
          → count_by kind (cond b [] (x ∷ []) ++ each_after (λ b x. cond (fits s (admitted s b) x) [] (x ∷ [])) (before ++ x ∷ []) feed)
          + count_by kind (admit_all s (cond b (admitted s before ++ x ∷ []) (admitted s before)) feed) ≡ count_by kind (x ∷ feed) + count_by kind (admitted s before)
      by true ih is =
          let same = ap (λ xs. count_by kind (admit_all s xs feed)) is in
          let same_count = ap (count_by kind) is in
          omega (arith, ih, same, same_count, count_one kind x feed, count-push kind (admitted s before) x)
      by false ih is =
          let same = ap (λ xs. count_by kind (admit_all s xs feed)) is in
          let same_count = ap (count_by kind) is in
          omega (arith, ih, same, same_count, count_one kind x feed, count_one kind x (each_after (λ b x. cond (fits s (admitted s b) x) [] (x ∷ [])) (before ++ x ∷ []) feed))

refused_or_admitted : AdmittedInParts → (s : Settings) (kind : Item → Bool) (feed : List Item) → count_by kind feed ≡ count_by kind (turned_away s feed) + count_by kind (admitted s feed)
unfolding turned_away
refused_or_admitted in_parts s kind feed = let all = one_or_other in_parts s kind [] feed in omega (arith, all)

-- each event is a sending or a giving up
sent_or_aged : (kind : Item → Bool) (events : List Event) → count_by (λ e. kind (item_of e)) events ≡ count_by (λ a. kind a.item) (aged_of events) + count_by (λ s. kind s.item) (sent_of events)
sent_or_aged kind [] = refl
sent_or_aged kind (sending s ∷ events) =
    omega (arith, sent_or_aged kind events, count_one (λ e. kind (item_of e)) (sending s) events, count_one (λ x. kind x.item) s (sent_of events))
sent_or_aged kind (aging a ∷ events) =
    omega (arith, sent_or_aged kind events, count_one (λ e. kind (item_of e)) (aging a) events, count_one (λ x. kind x.item) a (aged_of events))

three_below : (n a b c : ℕ) → n ≡ a + b + c → capped n < greatest_count → capped n ≡ capped a + capped b + capped c
three_below n a b c is lt =
    below_itself n lt ∙ is ∙ (λ j. sym (below n a lt (omega (arith, is))) j + sym (below n b lt (omega (arith, is))) j + sym (below n c lt (omega (arith, is))) j)

pub offered_is_the_sum : EachHasOneEvent → AdmittedInParts → OfferedIsTheSum
offered_is_the_sum one_event in_parts priority s feed lt =
    let kind = λ (item : Item). is_of priority item.priority in
    let events = service s 0 (admitted s feed) in
    let parts = refused_or_admitted in_parts s kind feed in
    let once = one_event s 0 (admitted s feed) kind in
    let either = sent_or_aged kind events in
    three_below (count_by kind feed) (count_by kind (turned_away s feed)) (count_by (λ a. kind a.item) (aged_of events)) (count_by (λ e. kind e.item) (sent_of events))
    (omega (arith, parts, once, either)) lt
