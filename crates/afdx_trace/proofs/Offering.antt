-- What an arrival adds at each port of a switch that tells of its run.
use Rattle.std.proofs.Common.{◌≡◌, ℕ, zero, suc, ◌<◌, ◌≤◌, ◌&&◌, Bool, true, false, cond, List, [], ◌∷◌, ◌++◌, length, slice_get, Option, Some, All, refl, sym, ap, ◌∙◌, arith, append-nil, subst}
use Rattle.std.proofs.lemmas.List.{length-append}
use Rattle.std.proofs.lemmas.List.Elements.{All-append}
use Rattle.afdx_table.specs.declared.rows.PortRow.{PortRow}
use Rattle.afdx_table.specs.Link.{Link, names_port, leads_to}
use Rattle.afdx_table.specs.Content.{Content}
use Rattle.afdx_port.specs.declared.Settings.{Settings}
use Rattle.afdx_port.specs.declared.Item.{Item}
use Rattle.afdx_port.specs.Admission.{fits, admit, admitted}
use Rattle.afdx_port.specs.Content.{Content as Port, offered}
use Rattle.afdx_port.specs.Inner.Admission.{AdmittedInParts}
use Rattle.afdx_isolation.specs.Table.{settings_of}
use Rattle.afdx_core.specs.declared.step.Row.{Row}
use Rattle.afdx_core.specs.Rows.{each_after, named, passes, copy_of, copies_by, copies, feed_of}
use Rattle.afdx_trace.specs.declared.shown.Shown.{Shown}
use Rattle.afdx_trace.specs.declared.traced_port.TracedPort.{TracedPort}
use Rattle.afdx_trace.specs.Inner.Telling.{HasToldAll, TellsOf, AllTell, IsOfferedTo, AreOffered}
use Rattle.afdx_trace.proofs.Refused.{each-append}

-- what a port is offered of one more arrival comes behind what it was offered
pub feed_next : (t : Content) (port : ℕ) (rows : List Row) (row : Row) → feed_of t port (rows ++ row ∷ []) ≡ feed_of t port rows ++ copies t port rows row
unfolding feed_of
feed_next t port rows row = each-append (copies t port) [] rows (row ∷ []) ∙ ap (λ (xs : List Item). each_after (copies t port) [] rows ++ xs) (append-nil (copies t port rows row))

-- items numbered below the arrivals are so with one more
longer_numbers : (rows : List Row) (row : Row) (items : List Item) → All (λ (x : Item). x.number < length rows) items → All (λ (x : Item). x.number < length (rows ++ row ∷ [])) items
longer_numbers rows row items all k d lt = let less = all k d lt in let longer = length-append rows (row ∷ []) in omega (arith, less, longer)

-- ---- a port that is offered no copy of it

pub without_copy : {Z : Type 0} (shown : Shown) (t : Content) (rows : List Row) (latest at : ℕ) (row : Row) (p : PortRow) (o : TracedPort Z) → latest ≤ at → copies t p.id rows row ≡ []
    → TellsOf shown t rows latest p o → TellsOf shown t (rows ++ row ∷ []) at p o
without_copy shown t rows latest at row p o le none tells = record {
  row = tells.row;
  settings = tells.settings;
  of = tells.of;
  admits = tells.admits ∙ ap (admitted (settings_of t.latency p)) (sym (feed_next t p.id rows row ∙ ap (λ (xs : List Item). feed_of t p.id rows ++ xs) none ∙ append-nil (feed_of t p.id rows)));
  numbered = longer_numbers rows row o.flow.content.admitted tells.numbered;
  horizon = (let before = tells.horizon in omega (arith, before, le));
  still_open = tells.still_open;
  told = tells.told;
}

-- ---- one that is

-- what it admits of one more copy
admits_next : AdmittedInParts → (s : Settings) (feed : List Item) (x : Item) → admitted s (feed ++ x ∷ []) ≡ admit s (admitted s feed) x
admits_next in_parts s feed x = in_parts s [] feed (x ∷ [])

numbers_next : (s : Settings) (items : List Item) (x : Item) (rows : List Row) (row : Row) → x.number ≡ length rows → All (λ (y : Item). y.number < length rows) items
    → All (λ (y : Item). y.number < length (rows ++ row ∷ [])) (admit s items x)
numbers_next s items x rows row number all = by (fits s items x) where
  below_it : All (λ (y : Item). y.number < length (rows ++ row ∷ [])) items
  below_it = longer_numbers rows row items all

  own : All (λ (y : Item). y.number < length (rows ++ row ∷ [])) (x ∷ [])
  own zero d lt = let longer = length-append rows (row ∷ []) in omega (arith, number, longer)
  own (suc k) d lt = absurd (omega (arith, lt))

  by : (b : Bool) → All (λ (y : Item). y.number < length (rows ++ row ∷ [])) (cond b (items ++ x ∷ []) items)
  by true = All-append (λ (y : Item). y.number < length (rows ++ row ∷ [])) items (x ∷ []) below_it own
  by false = below_it

pub with_copy : {Z : Type 0} → AdmittedInParts → (shown : Shown) (t : Content) (rows : List Row) (latest : ℕ) (row : Row) (p : PortRow) (l : Link) (o n : TracedPort Z)
    → copies t p.id rows row ≡ copy_of l rows row ∷ [] → n.row ≡ o.row → n.settings ≡ o.settings → n.flow.content ≡ offered (copy_of l rows row) o.flow.content → HasToldAll shown n
    → TellsOf shown t rows latest p o → TellsOf shown t (rows ++ row ∷ []) row.stamp p n
with_copy in_parts shown t rows latest row p l o n is same_row same_settings content told tells = record {
  row = same_row ∙ tells.row;
  settings = same_settings ∙ tells.settings;
  of = ap (λ (c : Port). c.settings) content ∙ tells.of;
  admits = ap (λ (c : Port). c.admitted) content ∙ ap (λ (of : Settings). admit of o.flow.content.admitted x) tells.of ∙ ap (λ (items : List Item). admit s items x) tells.admits
      ∙ sym (ap (admitted s) (feed_next t p.id rows row ∙ ap (λ (xs : List Item). feed_of t p.id rows ++ xs) is) ∙ admits_next in_parts s (feed_of t p.id rows) x);
  numbered = subst (λ (c : Port). All (λ (y : Item). y.number < length (rows ++ row ∷ [])) c.admitted) (sym content)
      (numbers_next o.flow.content.settings o.flow.content.admitted x rows row refl tells.numbered);
  horizon = (let same : n.flow.content.horizon ≡ row.stamp = ap (λ (c : Port). c.horizon) content in omega (arith, same));
  still_open = ap (λ (c : Port). c.finished) content ∙ tells.still_open;
  told = told;
} where
  s : Settings
  s = settings_of t.latency p

  x : Item
  x = copy_of l rows row

-- ---- all ports

-- the arrival is no passed frame of a link
pub all_without : {Z : Type 0} (shown : Shown) (t : Content) (rows : List Row) (latest at : ℕ) (row : Row) (ports : List (TracedPort Z)) → latest ≤ at
    → ((port : ℕ) → copies t port rows row ≡ []) → AllTell shown t rows latest ports → AllTell shown t (rows ++ row ∷ []) at ports
all_without shown t rows latest at row ports le none all = record {
  many = all.many;
  each = λ k p o here there. without_copy shown t rows latest at row p o le (none p.id) (all.each k p o here there);
}

-- it is a passed frame of a link, whose ports were offered its copy
pub all_with : {Z : Type 0} → AdmittedInParts → (shown : Shown) (t : Content) (rows : List Row) (latest : ℕ) (row : Row) (l : Link) (old new : List (TracedPort Z)) → latest ≤ row.stamp
    → named t row.verdict ≡ Some l → passes l rows row ≡ true → AreOffered shown (copy_of l rows row) l.to old new → AllTell shown t rows latest old
    → AllTell shown t (rows ++ row ∷ []) row.stamp new
all_with {Z} in_parts shown t rows latest row l old new le names passed are all = record {
  many = are.many ∙ all.many;
  each = λ k p n here there. at k p (before k n there) n here there;
} where
  x : Item
  x = copy_of l rows row

  -- the port at a place as it was
  before : (k : ℕ) (n : TracedPort Z) → slice_get new k ≡ Some n → (o : TracedPort Z) × (slice_get old k ≡ Some o)
  before k n there = there_at old k (let lt = within new k n there in let same = are.many in omega (arith, lt, same)) n where
    within : (ns : List (TracedPort Z)) (j : ℕ) (m : TracedPort Z) → slice_get ns j ≡ Some m → j < length ns
    within [] j m is = absurd (cc)
    within (y ∷ ns) zero m is = omega arith
    within (y ∷ ns) (suc j) m is = let lt = within ns j m is in omega (arith, lt)

    there_at : (os : List (TracedPort Z)) (j : ℕ) → j < length os → TracedPort Z → (o : TracedPort Z) × (slice_get os j ≡ Some o)
    there_at [] j lt d = absurd (omega (arith, lt))
    there_at (o ∷ os) zero lt d = (o, refl)
    there_at (o ∷ os) (suc j) lt d = there_at os j (omega (arith, lt)) d

  offered_copies : (p : PortRow) (b : Bool) → leads_to p.id l ≡ b → copies t p.id rows row ≡ cond b (x ∷ []) []
  offered_copies p b leads =
      ap (λ (o : Option Link). copies_by o p.id rows row) names ∙ ap (λ (c : Bool). cond (c && leads_to p.id l) (x ∷ []) []) passed ∙ ap (λ (c : Bool). cond c (x ∷ []) []) leads

  at : (k : ℕ) (p : PortRow) (o : (o : TracedPort Z) × (slice_get old k ≡ Some o)) (n : TracedPort Z) → slice_get t.ports k ≡ Some p → slice_get new k ≡ Some n
      → TellsOf shown t (rows ++ row ∷ []) row.stamp p n
  at k p o n here there = by (leads_to p.id l) refl where
    tells : TellsOf shown t rows latest p o.0
    tells = all.each k p o.0 here o.1

    is : IsOfferedTo shown x l.to o.0 n
    is = are.each k o.0 n o.1 there

    content : n.flow.content ≡ cond (leads_to p.id l) (offered x o.0.flow.content) o.0.flow.content
    content = is.content ∙ ap (λ (q : PortRow). cond (names_port q.id l.to) (offered x o.0.flow.content) o.0.flow.content) tells.row

    by : (b : Bool) → leads_to p.id l ≡ b → TellsOf shown t (rows ++ row ∷ []) row.stamp p n
    by true leads = with_copy in_parts shown t rows latest row p l o.0 n (offered_copies p true leads) is.row is.settings
        (content ∙ ap (λ (b : Bool). cond b (offered x o.0.flow.content) o.0.flow.content) leads) is.told tells
    by false leads =
        let same : n.flow.content ≡ o.0.flow.content = content ∙ ap (λ (b : Bool). cond b (offered x o.0.flow.content) o.0.flow.content) leads in
        without_copy shown t rows latest row.stamp row p n le (offered_copies p false leads) (record {
          row = is.row ∙ tells.row;
          settings = is.settings ∙ tells.settings;
          of = ap (λ (c : Port). c.settings) same ∙ tells.of;
          admits = ap (λ (c : Port). c.admitted) same ∙ tells.admits;
          numbered = subst (λ (c : Port). All (λ (y : Item). y.number < length rows) c.admitted) (sym same) tells.numbered;
          horizon = subst (λ (c : Port). c.horizon ≤ latest) (sym same) tells.horizon;
          still_open = ap (λ (c : Port). c.finished) same ∙ tells.still_open;
          told = is.told;
        })
