-- A switch that took nothing.
use Rattle.std.proofs.Common.{◌≡◌, ℕ, zero, suc, ◌≤◌, List, [], ◌∷◌, ◌++◌, append_assoc, append-nil, length, get_or, slice_get, Some, None, sym, ap, ◌∙◌, arith, subst}
use Rattle.std.proofs.lemmas.Option.{same_Some, slice_get_within, slice_get-get_or}
use Rattle.afdx_table.specs.declared.rows.PortRow.{PortRow}
use Rattle.afdx_table.specs.Content.{Content}
use Rattle.afdx_trace.specs.declared.shown.Shown.{Shown}
use Rattle.afdx_trace.specs.declared.traced_port.TracedPort.{TracedPort}
use Rattle.afdx_trace.specs.Arrivals.{arrivals_heading}
use Rattle.afdx_trace.specs.Inner.Told.{told_lines}
use Rattle.afdx_trace.specs.Inner.Telling.{AllTell, IsFreshPort}
use Rattle.afdx_trace.proofs.Ending.{fresh_tells}

-- a fact about items at the same place of two lists, and one more item of one of them
each_more : {X Y : Type 0} (P : Y → X → Type 0) (xs : List X) (x : X) (ys : List Y) → ((k : ℕ) (o : X) (p : Y) → slice_get xs k ≡ Some o → slice_get ys k ≡ Some p → P p o)
    → ((p : Y) → slice_get ys (length xs) ≡ Some p → P p x) → (k : ℕ) (o : X) (p : Y) → slice_get (xs ++ x ∷ []) k ≡ Some o → slice_get ys k ≡ Some p → P p o
each_more P [] x ys before last zero o p here there = subst (P p) (same_Some x o here) (last p there)
each_more P [] x ys before last (suc k) o p here there = absurd (let e : None ≡ Some o = here in cc)
each_more P (y ∷ xs) x [] before last k o p here there = absurd (let e : None ≡ Some p = there in cc)
each_more P (y ∷ xs) x (z ∷ ys) before last zero o p here there = before 0 o p here there
each_more P (y ∷ xs) x (z ∷ ys) before last (suc k) o p here there = each_more P xs x ys (λ j q r h t. before (suc j) q r h t) last k o p here there

-- the ports of the first rows were offered nothing
pub record AreFresh {Z : Type 0} (latency : ℕ) (rows : List PortRow) (ports : List (TracedPort Z)) : Type 0 where
  pub each : (k : ℕ) (o : TracedPort Z) (p : PortRow) → slice_get ports k ≡ Some o → slice_get rows k ≡ Some p → IsFreshPort latency p o

pub none_fresh : {Z : Type 0} (latency : ℕ) (rows : List PortRow) (ports : List (TracedPort Z)) → ports ≡ [] → AreFresh latency rows ports
none_fresh {Z} latency rows ports none = subst (λ (os : List (TracedPort Z)). AreFresh latency rows os) (sym none) (record { each = λ k o p here. absurd (let e : None ≡ Some o = here in cc) })

pub next_fresh : {Z : Type 0} (latency : ℕ) (rows : List PortRow) (ports longer : List (TracedPort Z)) (o : TracedPort Z) → longer ≡ ports ++ o ∷ []
    → ((p : PortRow) → slice_get rows (length ports) ≡ Some p → IsFreshPort latency p o) → AreFresh latency rows ports → AreFresh latency rows longer
next_fresh {Z} latency rows ports longer o is one are =
    subst (λ (os : List (TracedPort Z)). AreFresh latency rows os) (sym is) (record { each = each_more (λ (p : PortRow) (q : TracedPort Z). IsFreshPort latency p q) ports o rows are.each one })

-- a port is fresh by its row and latency, whatever they are called
pub fresh_at : {Z : Type 0} (latency said : ℕ) (p row : PortRow) (o : TracedPort Z) → said ≡ latency → row ≡ p → IsFreshPort said row o → IsFreshPort latency p o
fresh_at {Z} latency said p row o same here fresh =
    subst (λ (q : PortRow). IsFreshPort latency q o) here (subst (λ (n : ℕ). IsFreshPort n row o) same fresh)

pub all_fresh : {Z : Type 0} (shown : Shown) (t : Content) (ports : List (TracedPort Z)) → t.latency ≤ 100000 → length ports ≡ length t.ports → AreFresh t.latency t.ports ports
    → AllTell shown t [] 0 ports
all_fresh shown t ports small many are = record { many = many; each = λ k p o here there. fresh_tells shown t p o small (are.each k o p there here) }

pub no_lines : (shown : Shown) (t : Content) (text : List ℕ) → text ≡ arrivals_heading → text ≡ arrivals_heading ++ told_lines shown t []
unfolding told_lines
no_lines shown t text is = is ∙ sym (append-nil arrivals_heading)

pub first_line : (gone old new heading : List ℕ) → gone ++ old ≡ [] → new ≡ old ++ heading → gone ++ new ≡ heading
first_line gone old new heading nothing is =
    ap (λ (text : List ℕ). gone ++ text) is ∙ sym (append_assoc gone old heading) ∙ ap (λ (text : List ℕ). text ++ heading) nothing

-- nothing of them went to a file
pub fresh_gone : {Z : Type 0} (latency : ℕ) (rows : List PortRow) (ports : List (TracedPort Z)) → length ports ≡ length rows → AreFresh latency rows ports
    → (k : ℕ) (o : TracedPort Z) → slice_get ports k ≡ Some o → o.lines.gone.items ≡ []
fresh_gone latency rows ports many are k o here =
    let lt = slice_get_within ports k o here in
    (are.each k o (get_or rows k o.row) here (slice_get-get_or rows k o.row (omega (arith, lt, many)))).gone
