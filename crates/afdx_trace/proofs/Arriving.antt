-- An arrival is taken and told.
use Rattle.std.proofs.Common.{◌≡◌, ℕ, ◌+◌, ◌≤◌, nat_lt, Bool, true, false, cond, List, [], ◌∷◌, ◌++◌, length, get_or, Option, None, Some, is_none, refl, sym, ap, ◌∙◌, append_assoc, arith, subst}
use Rattle.std.proofs.lemmas.Bool.Decides.{nat_tests}
use Rattle.std.proofs.lemmas.List.{length-append}
use Rattle.afdx_units.specs.Line.{size_of, least_size, greatest_size}
use Rattle.afdx_pcap.specs.Record.{Record}
use Rattle.afdx_table.specs.Content.{Content, port_row}
use Rattle.afdx_filter.specs.declared.outcome.Verdict.{Verdict}
use Rattle.afdx_filter.specs.declared.outcome.Verdict.TheVariants.{Cut, Short, Long, Foreign, NoLink, WrongPort, TooBig, Clean}
use Rattle.afdx_filter.specs.Verdict.{verdict_of}
use Rattle.afdx_filter.specs.Place.{place_named}
use Rattle.afdx_account.specs.declared.account.Account.{Account}
use Rattle.afdx_core.specs.declared.step.CoreFault.TheVariants.{NoSuchPort, Earlier}
use Rattle.afdx_core.specs.declared.step.Row.{Row}
use Rattle.afdx_core.specs.Rows.{row_of}
use Rattle.afdx_core.specs.Kept.{AccountsAgree}
use Rattle.afdx_core.specs.State.{Run, after_row, refusal_of}
use Rattle.afdx_core.proofs.Calls.{sized}
use Rattle.afdx_trace.specs.declared.shown.Selection.{Selection}
use Rattle.afdx_trace.specs.declared.shown.Shown.{Shown}
use Rattle.afdx_trace.specs.declared.lines.Lines.{Lines}
use Rattle.afdx_trace.specs.declared.traced_port.TracedPort.{TracedPort}
use Rattle.afdx_trace.specs.declared.tracing.Tracing.{Tracing}
use Rattle.afdx_trace.specs.Shown.{shown_of}
use Rattle.afdx_trace.specs.Arrivals.{arrivals_heading}
use Rattle.afdx_trace.specs.Inner.Lines.{whole_of}
use Rattle.afdx_trace.specs.Inner.Told.{told_line, told_lines}
use Rattle.afdx_trace.specs.Inner.Tracing.{AreCounted}
use Rattle.afdx_trace.specs.Inner.Telling.{AllTell, Tells, MayTake, HasTaken, KeepsOthers, KeepsAllButLines}
use Rattle.afdx_trace.proofs.Ending.{all_start}
use Rattle.afdx_trace.proofs.Told.{told_next}

-- ---- an arrival that is not refused

in_time : (stamp latest : ℕ) (b late : Bool) → nat_lt stamp latest ≡ late → cond b (Some NoSuchPort) (cond late (Some Earlier) None) ≡ None → latest ≤ stamp
in_time stamp latest true late is none = absurd (cc)
in_time stamp latest false true is none = absurd (cc)
in_time stamp latest false false is none = grind (arith, nat_tests)

-- it comes no earlier than those before it
pub not_earlier : (r : Run) (port stamp : ℕ) → refusal_of r port stamp ≡ None → r.latest ≤ stamp
not_earlier r port stamp none = in_time stamp r.latest (is_none (port_row r.table port)) (nat_lt stamp r.latest) refl none

-- a frame whose link has a place is of a size that goes over a line
sized_at : (t : Content) (port : ℕ) (frame : Record) (v : Verdict) → verdict_of t port frame ≡ v → (place_named t v ≡ None → ⊥)
    → (least_size ≤ size_of (length frame.bytes)) × (size_of (length frame.bytes) ≤ greatest_size)
sized_at t port frame (Clean i) is some = sized t port frame i is
sized_at t port frame Cut is some = absurd (some refl)
sized_at t port frame Short is some = absurd (some refl)
sized_at t port frame Long is some = absurd (some refl)
sized_at t port frame Foreign is some = absurd (some refl)
sized_at t port frame NoLink is some = absurd (some refl)
sized_at t port frame WrongPort is some = absurd (some refl)
sized_at t port frame TooBig is some = absurd (some refl)

pub sized_row : (t : Content) (port : ℕ) (frame : Record) (row : Row) → row ≡ row_of t port frame → (place_named t row.verdict ≡ None → ⊥) → (least_size ≤ row.size) × (row.size ≤ greatest_size)
sized_row t port frame row is some =
    subst (λ (x : Row). (least_size ≤ x.size) × (x.size ≤ greatest_size)) (sym is)
    (sized_at t port frame (verdict_of t port frame) refl (subst (λ (x : Row). place_named t x.verdict ≡ None → ⊥) is some))

-- ---- what is shown rests on the first arrival

all_later : {Z : Type 0} (s : Selection) (t : Content) (rows : List Row) (row : Row) (latest : ℕ) (ports : List (TracedPort Z)) → AllTell (shown_of s rows) t rows latest ports
    → AllTell (shown_of s (rows ++ row ∷ [])) t rows latest ports
all_later s t [] row latest ports all = all_start (shown_of s []) (shown_of s (row ∷ [])) t latest ports all
all_later s t (x ∷ rows) row latest ports all = all

lines_later : (s : Selection) (t : Content) (rows : List Row) (row : Row) → told_lines (shown_of s rows) t rows ≡ told_lines (shown_of s (rows ++ row ∷ [])) t rows
unfolding told_lines
lines_later s t [] row = refl
lines_later s t (x ∷ rows) row = refl

-- ---- one arrival more

module _ {Z : Type 0} (s : Selection) (r : Run) (row : Row) (old begun : Tracing Z) (tells : Tells s r old) (shown_is : begun.shown ≡ shown_of s (r.rows ++ row ∷ [])) where
  pub may_take : begun.table ≡ old.table → begun.accounts ≡ old.accounts → begun.count ≡ old.count → begun.places ≡ old.places → begun.ports ≡ old.ports → MayTake r begun
  may_take table accounts count places ports = record {
    table = table ∙ tells.table;
    still_open = tells.still_open;
    accounts = subst (λ v. AccountsAgree r.table.links r.rows r.latest v.items) (sym accounts) tells.accounts;
    count = count ∙ tells.count;
    places = λ port. ap (λ (ps : List (Option ℕ)). get_or ps port None) places ∙ tells.places port;
    ports = subst (λ v. AllTell begun.shown r.table r.rows r.latest v.items) (sym ports)
        (subst (λ (x : Shown). AllTell x r.table r.rows r.latest old.ports.items) (sym shown_is) (all_later s r.table r.rows row r.latest old.ports.items tells.ports));
  }

  -- its link and its ports took it, its line was told, and it is counted
  pub next_tells : (mid late next : Tracing Z) (fields : List (List ℕ)) → begun.table ≡ old.table → begun.selection ≡ old.selection → begun.places ≡ old.places → begun.rows ≡ old.rows
      → begun.count ≡ old.count → begun.lines ≡ old.lines → AreCounted (r.rows ++ row ∷ []) begun.records → KeepsOthers begun mid → HasTaken r row fields begun mid → KeepsAllButLines mid late
      → whole_of late.lines ≡ whole_of mid.lines ++ told_line mid.shown r.table r.rows row → next.table ≡ late.table → next.selection ≡ late.selection → next.shown ≡ late.shown
      → next.accounts ≡ late.accounts → next.records ≡ late.records → next.ports ≡ late.ports → next.places ≡ late.places → next.lines ≡ late.lines
      → next.rows.items ≡ late.rows.items ++ row ∷ [] → next.count ≡ old.count + 1 → Tells s (after_row row r) next
  next_tells mid late next fields b_table b_selection b_places b_rows b_count b_lines counted others taken lines line n_table n_selection n_shown n_accounts n_records n_ports n_places n_lines n_rows
      n_count = record {
        table = n_table ∙ lines.table ∙ others.table ∙ b_table ∙ tells.table;
        selected = n_selection ∙ lines.selection ∙ others.selection ∙ b_selection ∙ tells.selected;
        shown = n_shown ∙ lines.shown ∙ others.shown ∙ shown_is;
        still_open = tells.still_open;
        accounts = subst (λ v. AccountsAgree r.table.links (r.rows ++ row ∷ []) row.stamp v.items) (sym n_accounts)
            (subst (λ (all : List Account). AccountsAgree r.table.links (r.rows ++ row ∷ []) row.stamp all) (sym lines.accounts) taken.accounts);
        records = subst (AreCounted (r.rows ++ row ∷ [])) (sym (n_records ∙ lines.records ∙ others.records)) counted;
        count = (let longer = length-append r.rows (row ∷ []) in let before = tells.count in omega (arith, longer, before, n_count));
        rows = n_rows ∙ ap (λ (rows : List Row). rows ++ row ∷ []) (lines.rows ∙ others.rows ∙ ap (λ v. v.items) b_rows ∙ tells.rows);
        places = λ port. ap (λ (ps : List (Option ℕ)). get_or ps port None) (n_places ∙ lines.places ∙ others.places ∙ b_places) ∙ tells.places port;
        ports = subst (λ v. AllTell (shown_of s (r.rows ++ row ∷ [])) r.table (r.rows ++ row ∷ []) row.stamp v.items) (sym n_ports)
            (subst (λ (ports : List (TracedPort Z)). AllTell (shown_of s (r.rows ++ row ∷ [])) r.table (r.rows ++ row ∷ []) row.stamp ports) (sym lines.ports)
            (subst (λ (x : Shown). AllTell x r.table (r.rows ++ row ∷ []) row.stamp mid.ports.items) shown_is taken.ports));
        lines = ap (λ (l : Lines Z). whole_of l) n_lines ∙ line
            ∙ ap (λ (text : List ℕ). text ++ told_line mid.shown r.table r.rows row) (ap (λ (l : Lines Z). whole_of l) (others.lines ∙ b_lines) ∙ tells.lines)
            ∙ ap (λ (x : Shown). (arrivals_heading ++ told_lines (shown_of s r.rows) r.table r.rows) ++ told_line x r.table r.rows row) (others.shown ∙ shown_is)
            ∙ ap (λ (text : List ℕ). (arrivals_heading ++ text) ++ told_line (shown_of s (r.rows ++ row ∷ [])) r.table r.rows row) (lines_later s r.table r.rows row)
            ∙ append_assoc arrivals_heading (told_lines (shown_of s (r.rows ++ row ∷ [])) r.table r.rows) (told_line (shown_of s (r.rows ++ row ∷ [])) r.table r.rows row)
            ∙ ap (λ (text : List ℕ). arrivals_heading ++ text) (sym (told_next (shown_of s (r.rows ++ row ∷ [])) r.table r.rows row));
      }
