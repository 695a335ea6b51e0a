-- Spells and the span, with one arrival more.
use Rattle.std.proofs.Common.{◌≡◌, ℕ, ◌-◌, Bool, true, false, cond, List, [], ◌∷◌, ◌++◌, length, get_or, slice_get, Option, Some, None, option_map, refl, ap, sym, ◌∙◌, arith, subst, inl, inr}
use Rattle.std.specs.Prelude.{Contains}
use Rattle.std.proofs.lemmas.Bool.{cases_Bool, cases_eq}
use Rattle.std.proofs.lemmas.Bool.Decides.{nat_tests}
use Rattle.std.proofs.lemmas.List.{append_assoc, append-nil, length-append, nil_from_length, get_or-append_right}
use Rattle.std.proofs.lemmas.Option.{slice_get_within, slice_get-get_or, get_or_from_slice_get}
use Rattle.afdx_units.specs.Time.{bag_ns}
use Rattle.afdx_table.specs.Link.{Link}
use Rattle.afdx_table.specs.Content.{Content}
use Rattle.afdx_table.specs.WellFormed.{IsWellFormed}
use Rattle.afdx_table.specs.Inner.Found.{LinksAreFound}
use Rattle.afdx_filter.specs.declared.outcome.Verdict.{Verdict}
use Rattle.afdx_filter.specs.declared.outcome.Verdict.TheVariants.{Clean}
use Rattle.afdx_load.specs.Load.{terms_of}
use Rattle.afdx_account.specs.Early.{early_by}
use Rattle.afdx_account.specs.Policing.{passed_frames}
use Rattle.afdx_core.specs.declared.step.Row.{Row}
use Rattle.afdx_core.specs.declared.step.Fate.TheVariants.{Filtered, Policed, Passed}
use Rattle.afdx_core.specs.Rows.{each_after, says_clean, named, passes, fate_by, fate_of, frame_of_row, account_frames}
use Rattle.afdx_core.specs.State.{Run, after_row}
use Rattle.afdx_core.specs.Inner.Agreement.{VerdictsNameLinks}
use Rattle.afdx_spells.specs.declared.spell.Excess.{Excess}
use Rattle.afdx_spells.specs.Spells.{Noted, spells_of}
use Rattle.afdx_measure.specs.declared.policing.Span.{Span}
use Rattle.afdx_measure.specs.Policing.{excess_by, excess_of, spells_in, stamp_at}
use Rattle.afdx_measure.specs.Inner.Policed.{EndsAre, HaveSpells, IsNotedAt, ends_with, with_arrival}
use Rattle.afdx_measure.proofs.Numbered.{one_place}

each_push : {X Y : Type 0} (f : List X → X → List Y) (before xs : List X) (x : X) → each_after f before (xs ++ x ∷ []) ≡ each_after f before xs ++ f (before ++ xs) x
each_push {X} f before [] x = append-nil (f before x) ∙ ap (λ (b : List X). f b x) (sym (append-nil before))
each_push {X} {Y} f before (y ∷ xs) x =
    ap (λ (ys : List Y). f before y ++ ys) (each_push f (before ++ y ∷ []) xs x)
    ∙ sym (append_assoc (f before y) (each_after f (before ++ y ∷ []) xs) (f ((before ++ y ∷ []) ++ xs) x))
    ∙ ap (λ (b : List X). (f before y ++ each_after f (before ++ y ∷ []) xs) ++ f b x) (append_assoc before (y ∷ []) xs)

excess_push : (l : Link) (rows : List Row) (row : Row) → excess_of l (rows ++ row ∷ []) ≡ excess_of l rows ++ excess_by l rows row
excess_push l rows row = each_push (excess_by l) [] rows row

-- what a policed frame of the link adds
abbrev one_more : Link → List Row → Row → List Excess
one_more l before row = record { at = row.stamp; early = early_by (terms_of l) (passed_frames (terms_of l) (account_frames l.id before)) (frame_of_row row) } ∷ []

some : {X : Type 0} {a b : X} → Some a ≡ Some b → a ≡ b
some e = (cc)

-- a link that does not police the frame has none more
none_more : VerdictsNameLinks → LinksAreFound → (t : Content) (rows : List Row) (row : Row) (m : Link) → IsWellFormed t → Contains t.links m
    → (named t row.verdict ≡ Some m → passes m rows row ≡ true) → excess_by m rows row ≡ []
none_more names found t rows row m formed among passed =
    elim (cases_Bool (says_clean m.id row.verdict)) [
      | inl clean_of_it ↦
          let clean : row.verdict ≡ Clean m.id = names.clean m.id row.verdict clean_of_it in
          let is : named t row.verdict ≡ Some m = ap (named t) clean ∙ found.found t formed m among in
          ap (λ b. cond b (cond (passes m rows row) [] (one_more m rows row)) []) clean_of_it ∙ ap (λ b. cond b [] (one_more m rows row)) (passed is)
      | inr of_others ↦ ap (λ b. cond b (cond (passes m rows row) [] (one_more m rows row)) []) of_others
    ]

-- where no link policed it
pub spells_stay : VerdictsNameLinks → LinksAreFound → (r : Run) (row : Row) (spells : List Noted) → IsWellFormed r.table
    → ((m : Link) → named r.table row.verdict ≡ Some m → passes m r.rows row ≡ true) → HaveSpells r spells → HaveSpells (after_row row r) spells
spells_stay names found r row spells formed passed h = record {
  many = h.many;
  each = λ k m d here.
      let among : Contains r.table.links m = (k, slice_get_within r.table.links k m here, get_or_from_slice_get r.table.links k m m here) in
      let none = none_more names found r.table r.rows row m formed among (passed m) in
      let same : excess_of m (r.rows ++ row ∷ []) ≡ excess_of m r.rows = excess_push m r.rows row ∙ ap (λ xs. excess_of m r.rows ++ xs) none ∙ append-nil (excess_of m r.rows) in
      let old = h.each k m d here in
      (old.0, old.1 ∙ ap (spells_of (bag_ns m.bag)) (sym same));
}

-- where the link at a place policed it
pub spells_more : VerdictsNameLinks → LinksAreFound → (r : Run) (row : Row) (l : Link) (place early : ℕ) (old new : List Noted) → IsWellFormed r.table
    → named r.table row.verdict ≡ Some l → passes l r.rows row ≡ false → slice_get r.table.links place ≡ Some l
    → early ≡ early_by (terms_of l) (passed_frames (terms_of l) (account_frames l.id r.rows)) (frame_of_row row)
    → IsNotedAt place (record { at = row.stamp; early = early }) old new → HaveSpells r old → HaveSpells (after_row row r) new
spells_more names found r row l place early old new formed is policed there early_is noted h = record {
  many = noted.long ∙ h.many;
  each = λ k m d here. elim (cases_eq k place) [
    | inl same ↦
        let mine : m ≡ l = some (sym here ∙ ap (slice_get r.table.links) same ∙ there) in
        let was = h.each place l d there in
        let clean : row.verdict ≡ Clean l.id = (names.named_link r.table row.verdict l is).0 in
        let one : excess_by l r.rows row ≡ record { at = row.stamp; early = early } ∷ []
        = ap (λ b. cond b (cond (passes l r.rows row) [] (one_more l r.rows row)) []) (says l.id row.verdict clean) ∙ ap (λ b. cond b [] (one_more l r.rows row)) policed
        ∙ ap (λ (n : ℕ). record { at = row.stamp; early = n } ∷ []) (sym early_is) in
        let grown = excess_push l r.rows row ∙ ap (λ xs. excess_of l r.rows ++ xs) one in
        let start : (get_or old place d).spells ≡ spells_of (get_or old place d).gap (excess_of l r.rows) = was.1 ∙ ap (λ (gap : ℕ). spells_of gap (excess_of l r.rows)) (sym was.0) in
        subst (λ (i : ℕ). ((get_or new i d).gap ≡ bag_ns m.bag) × ((get_or new i d).spells ≡ spells_in (after_row row r) m)) (sym same)
        (subst (λ (x : Link). ((get_or new place d).gap ≡ bag_ns x.bag) × ((get_or new place d).spells ≡ spells_in (after_row row r) x)) (sym mine) (
          noted.gap d ∙ was.0,
          noted.here d (excess_of l r.rows) (let w = slice_get_within r.table.links place l there in omega (arith, w, h.many)) start ∙ (λ i. spells_of (was.0 i) (sym grown i)),
        ))
    | inr other ↦
        let among : Contains r.table.links m = (k, slice_get_within r.table.links k m here, get_or_from_slice_get r.table.links k m m here) in
        let none = none_more names found r.table r.rows row m formed among (λ e. absurd (other (one_place (λ (x : Link). x.id) r.table.links formed.links_distinct k place m l here there
        (ap (λ (x : Link). x.id) (some (sym e ∙ is)))))) in
        let same : excess_of m (r.rows ++ row ∷ []) ≡ excess_of m r.rows = excess_push m r.rows row ∙ ap (λ xs. excess_of m r.rows ++ xs) none ∙ append-nil (excess_of m r.rows) in
        let was = h.each k m d here in (
          ap (λ (n : Noted). n.gap) (noted.others k d other) ∙ was.0,
          ap (λ (n : Noted). n.spells) (noted.others k d other) ∙ was.1 ∙ ap (spells_of (bag_ns m.bag)) (sym same),
        )
  ];
} where
  says : (i : ℕ) (v : Verdict) → v ≡ Clean i → says_clean i v ≡ true
  says i v e = ap (says_clean i) e ∙ itself i where
    itself : (i : ℕ) → says_clean i (Clean i) ≡ true
    itself i = grind (arith, nat_tests)

-- ---- what fates say

pub record IsPolicedBy (t : Content) (rows : List Row) (row : Row) (id : ℕ) : Type 0 where
  pub link : Link
  pub names : named t row.verdict ≡ Some link
  pub policed : passes link rows row ≡ false
  pub id_is : link.id ≡ id

pub policed_by : (t : Content) (rows : List Row) (row : Row) (id : ℕ) → fate_of t rows row ≡ Policed id → IsPolicedBy t rows row id
policed_by t rows row id is = by_link (named t row.verdict) refl is where
  by_policing : (l : Link) (b : Bool) → named t row.verdict ≡ Some l → passes l rows row ≡ b → cond b (Passed l.id) (Policed l.id) ≡ Policed id → IsPolicedBy t rows row id
  by_policing l true names pass e = absurd (cc)
  by_policing l false names pass e = record { link = l; names = names; policed = pass; id_is = same e } where
    same : {a b : ℕ} → Policed a ≡ Policed b → a ≡ b
    same e = (cc)

  by_link : (o : Option Link) → named t row.verdict ≡ o → fate_by o rows row ≡ Policed id → IsPolicedBy t rows row id
  by_link None names e = absurd (cc)
  by_link (Some l) names e = by_policing l (passes l rows row) names refl e

pub passed_by : (t : Content) (rows : List Row) (row : Row) (id : ℕ) → fate_of t rows row ≡ Passed id → (m : Link) → named t row.verdict ≡ Some m → passes m rows row ≡ true
passed_by t rows row id is m names = by (passes m rows row) refl (sym (ap (λ (o : Option Link). fate_by o rows row) names) ∙ is) where
  by : (b : Bool) → passes m rows row ≡ b → cond b (Passed m.id) (Policed m.id) ≡ Passed id → b ≡ true
  by true pass e = refl
  by false pass e = (cc)

pub filtered : (t : Content) (rows : List Row) (row : Row) (v : Verdict) → fate_of t rows row ≡ Filtered v → (m : Link) → named t row.verdict ≡ Some m → passes m rows row ≡ true
filtered t rows row v is m names = by (passes m rows row) (sym (ap (λ (o : Option Link). fate_by o rows row) names) ∙ is) where
  by : (b : Bool) → cond b (Passed m.id) (Policed m.id) ≡ Filtered v → b ≡ true
  by true e = refl
  by false e = (cc)

-- ---- when frames came

last_of : (rows : List Row) (row : Row) → stamp_at (length (rows ++ row ∷ []) - 1) (rows ++ row ∷ []) ≡ Some row.stamp
last_of rows row =
    let long = length-append rows (row ∷ []) in
    let at : length (rows ++ row ∷ []) - 1 ≡ length rows = omega (arith, long) in
    let zero : length rows - length rows ≡ 0 = omega arith in
    ap (λ (n : ℕ). stamp_at n (rows ++ row ∷ [])) at
    ∙ ap (option_map (λ (x : Row). x.stamp)) (slice_get-get_or (rows ++ row ∷ []) (length rows) row (omega (arith, long))
    ∙ ap (λ (x : Row). Some x) (get_or-append_right rows (row ∷ []) (length rows) (length rows) row refl (omega arith) ∙ ap (λ n. get_or (row ∷ []) n row) zero))

pub spanned : (r : Run) (row : Row) (number : ℕ) (s : Span) → number ≡ length r.rows → s.count ≡ length r.rows → EndsAre s.ends r
    → ((with_arrival number row.stamp s).count ≡ length (r.rows ++ row ∷ [])) × EndsAre (with_arrival number row.stamp s).ends (after_row row r)
spanned r row number s number_is count ends =
    let long = length-append r.rows (row ∷ []) in
    (omega (arith, number_is, long), by s.ends ends) where
      by : (o : Option (ℕ × ℕ)) → EndsAre o r → EndsAre (ends_with row.stamp o) (after_row row r)
      by None none = (
        ap (λ (rows : List Row). stamp_at 0 (rows ++ row ∷ [])) (nil_from_length r.rows none),
        last_of r.rows row,
      )
      by (Some both) are = (first r.rows both.0 are.0, last_of r.rows row) where
        first : (rows : List Row) (n : ℕ) → stamp_at 0 rows ≡ Some n → stamp_at 0 (rows ++ row ∷ []) ≡ Some n
        first [] n e = (cc)
        first (x ∷ rows) n e = e
