-- What is reported of one arrival, and of one after the other.
use Rattle.std.proofs.Common.{◌≡◌, ℕ, suc, ◌+◌, ◌<◌, ◌≤◌, Bool, cond, List, [], ◌∷◌, ◌++◌, length, map, take, drop, get_or, codes, decimal, Option, Some, None, sym, ap, ◌∙◌}
use Rattle.std.proofs.Common.{subst, arith, append_assoc, append-nil, add-one}
use Rattle.std.proofs.Math.ListN.{drop_of_length-le}
use Rattle.std.proofs.Math.Seq.{take-suc, drop-cons}
use Rattle.afdx_table.specs.Link.{Link}
use Rattle.afdx_account.specs.Level.{InOrder}
use Rattle.afdx_account.specs.Policing.{passed_frames}
use Rattle.afdx_account.specs.Early.{early_by}
use Rattle.afdx_load.specs.Load.{terms_of}
use Rattle.afdx_core.specs.declared.step.Row.{Row}
use Rattle.afdx_core.specs.declared.step.Fate.TheVariants.{Policed, Passed}
use Rattle.afdx_core.specs.Rows.{fate_by, each_after, account_frames, frame_of_row}
use Rattle.afdx_core.specs.State.{Run}
use Rattle.afdx_trace.specs.Csv.{joined_by, optional}
use Rattle.afdx_trace.specs.Arrivals.{fate_word, early_in, full_in, fate_fields, refusing}
use Rattle.afdx_trace.specs.declared.tracer.Tracer.{Tracer}
use Rattle.afdx_trace.specs.Inner.Tracing.{IsPassed, Traces}

-- the fields of a fate, by the link
abbrev fields_by : Run → List Row → Row → Option Link → List (List ℕ)
fields_by r before row o = fate_word (fate_by o before row) ∷ optional (early_in o before row) ∷ joined_by (codes ";") (map decimal (full_in r o before row)) ∷ []

-- those of a link's frame, by whether it is passed
abbrev judged_fields : Run → List Row → Row → Link → Bool → List (List ℕ)
judged_fields r before row l p = fate_word (cond p (Passed l.id) (Policed l.id))
    ∷ optional (cond p None (Some (early_by (terms_of l) (passed_frames (terms_of l) (account_frames l.id before)) (frame_of_row row))))
    ∷ joined_by (codes ";") (map decimal (cond p (refusing r (length before) l.to) [])) ∷ []

pub passed_fields : (r : Run) (before : List Row) (row : Row) (to full : List ℕ) → IsPassed r.table before row to → full ≡ refusing r (length before) to
    → codes "passed" ∷ [] ∷ joined_by (codes ";") (map decimal full) ∷ [] ≡ fate_fields r before row
passed_fields r before row to full p is =
    ap (λ (ports : List ℕ). codes "passed" ∷ [] ∷ joined_by (codes ";") (map decimal ports) ∷ []) (is ∙ ap (refusing r (length before)) p.leads)
    ∙ sym (ap (fields_by r before row) p.names ∙ ap (judged_fields r before row p.link) p.is_passed)

-- ---- all arrivals

-- what was kept stands for a frame that comes later
pub traces_later : {Z : Type 0} (r : Run) (before : List Row) (latest at : ℕ) (t : Tracer Z) → latest ≤ at → Traces r before latest t → Traces r before at t
traces_later r before latest at t le traces = record {
  accounts = record {
    len = traces.accounts.len;
    each = λ k l a lt. let s = traces.accounts.each k l a lt in record { terms = s.terms; since = (let early = s.since in omega (arith, early, le)); level = s.level };
  };
  records = traces.records;
  taken = traces.taken;
}

-- the arrival after so many
drop_next : (rows : List Row) (n : ℕ) (x : Row) → n < length rows → x ≡ get_or rows n x → drop n rows ≡ x ∷ drop (n + 1) rows
drop_next rows n x lt is = drop-cons rows n x lt ∙ ap (λ (y : Row). y ∷ drop (suc n) rows) (sym is) ∙ ap (λ (k : ℕ). x ∷ drop k rows) (sym (add-one n))

pub take_next : (rows : List Row) (n : ℕ) (x : Row) → n < length rows → x ≡ get_or rows n x → take (n + 1) rows ≡ take n rows ++ x ∷ []
take_next rows n x lt is = ap (λ (k : ℕ). take k rows) (add-one n) ∙ take-suc rows n x lt ∙ ap (λ (y : Row). take n rows ++ y ∷ []) (sym is)

pub comes_next : (rows : List Row) (n : ℕ) (x : Row) (latest : ℕ) → n < length rows → x ≡ get_or rows n x → InOrder latest (map frame_of_row (drop n rows))
    → (latest ≤ x.stamp) × InOrder x.stamp (map frame_of_row (drop (n + 1) rows))
comes_next rows n x latest lt is order = subst (λ (rest : List Row). InOrder latest (map frame_of_row rest)) (drop_next rows n x lt is) order

pub reported_next : (f : List Row → Row → List ℕ) (rows : List Row) (n : ℕ) (x : Row) (whole text longer : List ℕ) → n < length rows → x ≡ get_or rows n x
    → whole ≡ text ++ each_after f (take n rows) (drop n rows) → longer ≡ text ++ f (take n rows) x
    → whole ≡ longer ++ each_after f (take (n + 1) rows) (drop (n + 1) rows)
reported_next f rows n x whole text longer lt is before grown =
    before ∙ ap (λ (rest : List Row). text ++ each_after f (take n rows) rest) (drop_next rows n x lt is)
    ∙ sym (append_assoc text (f (take n rows) x) (each_after f (take n rows ++ x ∷ []) (drop (n + 1) rows)))
    ∙ ap (λ (t : List ℕ). t ++ each_after f (take n rows ++ x ∷ []) (drop (n + 1) rows)) (sym grown)
    ∙ ap (λ (reported : List Row). longer ++ each_after f reported (drop (n + 1) rows)) (sym (take_next rows n x lt is))

pub reported_all : (f : List Row → Row → List ℕ) (rows : List Row) (n : ℕ) (whole text : List ℕ) → length rows ≤ n
    → whole ≡ text ++ each_after f (take n rows) (drop n rows) → text ≡ whole
reported_all f rows n whole text le before = sym (before ∙ ap (λ (rest : List Row). text ++ each_after f (take n rows) rest) (drop_of_length-le rows le) ∙ append-nil text)
