-- Lines of arrivals are told when these are taken.
use Rattle.std.proofs.Common.{◌≡◌, ℕ, Bool, true, false, cond, List, [], ◌∷◌, ◌++◌, map, codes, decimal, Option, None, Some, refl, sym, ap, ◌∙◌, append_assoc, append-nil}
use Rattle.std.specs.Prelude.{flat_map}
use Rattle.afdx_table.specs.declared.rows.PortRow.{PortRow}
use Rattle.afdx_table.specs.Link.{Link}
use Rattle.afdx_table.specs.Content.{Content, port_row}
use Rattle.afdx_port.specs.declared.Item.{Item}
use Rattle.afdx_port.specs.declared.Offer.{Offer}
use Rattle.afdx_core.specs.declared.step.Row.{Row}
use Rattle.afdx_core.specs.Rows.{each_after, named, passes, copy_of, fate_of}
use Rattle.afdx_core.specs.State.{Run, answer_of, offers_by}
use Rattle.afdx_trace.specs.declared.shown.Shown.{Shown}
use Rattle.afdx_trace.specs.Csv.{next_field, joined_by, optional}
use Rattle.afdx_trace.specs.Shown.{is_shown}
use Rattle.afdx_trace.specs.Arrivals.{fate_word, early_in, frame_fields, shown_line}
use Rattle.afdx_trace.specs.Inner.Laws.{full_ports, run_before, FullIsExact}
use Rattle.afdx_trace.specs.Inner.Told.{run_with, told_fields, told_line, told_lines, LinesAreTold}
use Rattle.afdx_trace.proofs.Refused.{each-append}

-- what ports answer rests on the arrivals alone
same_answer : (r : Run) (before : List Row) (x : Item) (o : Option PortRow) → answer_of (run_before r before) x o ≡ answer_of (run_with r.table before) x o
same_answer r before x None = refl
same_answer r before x (Some p) = refl

same_answers : (r : Run) (before : List Row) (x : Item) (to : List ℕ) → map {B = ℕ × Offer} (λ (port : ℕ). (port, answer_of (run_before r before) x (port_row r.table port))) to
    ≡ map {B = ℕ × Offer} (λ (port : ℕ). (port, answer_of (run_with r.table before) x (port_row r.table port))) to
same_answers r before x [] = refl
same_answers r before x (port ∷ to) =
    ap (λ (o : Offer). (port, o) ∷ map {B = ℕ × Offer} (λ (q : ℕ). (q, answer_of (run_before r before) x (port_row r.table q))) to) (same_answer r before x (port_row r.table port))
    ∙ ap (λ (os : List (ℕ × Offer)). (port, answer_of (run_with r.table before) x (port_row r.table port)) ∷ os) (same_answers r before x to)

same_offers : (r : Run) (before : List Row) (row : Row) (o : Option Link) → offers_by (run_before r before) o row ≡ offers_by (run_with r.table before) o row
same_offers r before row None = refl
same_offers r before row (Some l) = ap (λ (os : List (ℕ × Offer)). cond (passes l before row) os []) (same_answers r before (copy_of l before row) l.to)

-- the line of an arrival, by the ports that refused it
abbrev line_by : Shown → Content → List Row → Row → List ℕ → List ℕ
line_by shown t before row full = cond (is_shown shown row.link)
    (frame_fields shown before row
    ++ flat_map next_field (fate_word (fate_of t before row) ∷ optional (early_in (named t row.verdict) before row) ∷ joined_by (codes ";") (map decimal full) ∷ []) ++ codes "\n") []

told : FullIsExact → (shown : Shown) (r : Run) → r.finished ≡ true → (before : List Row) (row : Row) (after : List Row) → r.rows ≡ before ++ row ∷ after
    → shown_line shown r before row ≡ told_line shown r.table before row
told exact shown r ends before row after is =
    ap (line_by shown r.table before row) (exact r ends before after row is ∙ ap full_ports (same_offers r before row (named r.table row.verdict)))

all_told : FullIsExact → (shown : Shown) (r : Run) → r.finished ≡ true → (before rows : List Row) → r.rows ≡ before ++ rows
    → each_after (shown_line shown r) before rows ≡ each_after (told_line shown r.table) before rows
all_told exact shown r ends before [] is = refl
all_told exact shown r ends before (row ∷ rows) is =
    ap (λ (line : List ℕ). line ++ each_after (shown_line shown r) (before ++ row ∷ []) rows) (told exact shown r ends before row rows is)
    ∙ ap (λ (lines : List ℕ). told_line shown r.table before row ++ lines) (all_told exact shown r ends (before ++ row ∷ []) rows (is ∙ sym (append_assoc before (row ∷ []) rows)))

pub lines_are_told : FullIsExact → LinesAreTold
unfolding told_lines
lines_are_told exact shown r ends = all_told exact shown r ends [] r.rows refl

-- one line more
pub told_next : (shown : Shown) (t : Content) (rows : List Row) (row : Row) → told_lines shown t (rows ++ row ∷ []) ≡ told_lines shown t rows ++ told_line shown t rows row
unfolding told_lines
told_next shown t rows row =
    each-append (told_line shown t) [] rows (row ∷ []) ∙ ap (λ (line : List ℕ). each_after (told_line shown t) [] rows ++ line) (append-nil (told_line shown t rows row))

-- ---- the line of an arrival is told

-- it is not shown
pub untold : (shown : Shown) (t : Content) (before : List Row) (row : Row) (whole : List ℕ) → is_shown shown row.link ≡ false → whole ≡ whole ++ told_line shown t before row
untold shown t before row whole none =
    sym (append-nil whole)
    ∙ sym (ap (λ (b : Bool). whole ++ cond b (frame_fields shown before row ++ flat_map next_field (told_fields t before row) ++ codes "\n") []) none)

lines_join : (gone old frame fields ending : List ℕ) → gone ++ (((old ++ frame) ++ fields) ++ ending) ≡ (gone ++ old) ++ ((frame ++ fields) ++ ending)
lines_join gone old frame fields ending = simp append_assoc

-- it is shown: behind what was there come the fields of the frame, then those of its fate
pub line_told : (shown : Shown) (t : Content) (before : List Row) (row : Row) (gone old mid new : List ℕ) (fields : List (List ℕ)) → is_shown shown row.link ≡ true
    → mid ≡ old ++ frame_fields shown before row → new ≡ mid ++ flat_map next_field fields ++ codes "\n" → fields ≡ told_fields t before row
    → gone ++ new ≡ (gone ++ old) ++ told_line shown t before row
line_told shown t before row gone old mid new fields is frame rest same =
    ap (λ (text : List ℕ). gone ++ text) (rest ∙ ap (λ (text : List ℕ). text ++ flat_map next_field fields ++ codes "\n") frame)
    ∙ lines_join gone old (frame_fields shown before row) (flat_map next_field fields) (codes "\n")
    ∙ ap (λ (fs : List (List ℕ)). (gone ++ old) ++ (frame_fields shown before row ++ flat_map next_field fs ++ codes "\n")) same
    ∙ sym (ap (λ (b : Bool). (gone ++ old) ++ cond b (frame_fields shown before row ++ flat_map next_field (told_fields t before row) ++ codes "\n") []) is)
