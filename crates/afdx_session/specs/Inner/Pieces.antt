-- However captures come in pieces, and whenever output is taken: what was taken of a port is a prefix of its output.
use Rattle.std.specs.Prelude.{ℕ, ◌≡◌, ◌==◌, Bool, true, List, [], ◌++◌, length, drop, find, Option, Some, None}
use Rattle.std.specs.List.{AllZip}
use Rattle.afdx_table.specs.declared.rows.PortRow.{PortRow}
use Rattle.afdx_table.specs.Content.{Content, port_row}
use Rattle.afdx_session.specs.Texts.{Text}
use Rattle.afdx_session.specs.Outcome.{Results, IsOutcome}
use Rattle.afdx_session.specs.Session.{Intake, Seen, fresh_session, intake_at, refusal, taken_of, after_feed, after_close, after_take, after_failure, AreFedOn, HasGoneOut}
use Rattle.afdx_session.specs.Finish.{IsFinished}

-- ---- how a session goes on

-- a session went on: it has the same table, and each capture went on; if a call had brought something, that is still so
pub record GoesOnTo (v later : Seen) : Type 0 where
  pub table : later.table ≡ v.table
  pub fed : AreFedOn v.intakes later.intakes
  pub begun : v.begun ≡ true → later.begun ≡ true

-- a session goes on by each call, and by calls one after the other
pub record CallsGoOn : Type 0 where
  pub feed : (v : Seen) (port : ℕ) (piece : List ℕ) → refusal v port ≡ None → GoesOnTo v (after_feed v port piece)
  pub close : (v : Seen) (port : ℕ) → GoesOnTo v (after_close v port)
  pub take : (v : Seen) (port n : ℕ) → GoesOnTo v (after_take v port n)
  pub failure : (v : Seen) → GoesOnTo v (after_failure v)
  pub both : (v later last : Seen) → GoesOnTo v later → GoesOnTo later last → GoesOnTo v last

-- ---- what was taken

-- the bytes that were taken of a port, one take after the other: a prefix of what has gone out for it
pub record WasTaken (v : Seen) (port : ℕ) (taken : List ℕ) : Type 0 where
  pub row : PortRow
  pub row_is : port_row v.table port ≡ Some row
  pub intake : Intake
  pub intake_is : intake_at v port ≡ Some intake
  pub count : intake.taken ≡ length taken
  pub text : List ℕ
  pub gone : HasGoneOut v row text
  pub rest : List ℕ
  pub prefix : text ≡ taken ++ rest

-- at first nothing was taken
abbrev pub NothingWasTaken : Type 0
NothingWasTaken = (accepted : Bool) (t : Content) (port : ℕ) (p : PortRow) → port_row t port ≡ Some p → WasTaken (fresh_session accepted t) port []

-- what was taken of a port stays so while a session goes on and nothing is taken of the port
abbrev pub TakenStays : Type 0
TakenStays = (v later : Seen) (port : ℕ) (p : PortRow) (taken text : List ℕ) → GoesOnTo v later → taken_of later port ≡ taken_of v port → port_row v.table port ≡ Some p → HasGoneOut later p text
    → WasTaken v port taken → WasTaken later port taken

-- what a take gives comes after what was taken before, and with it all that has gone out was taken
abbrev pub TakesJoin : Type 0
TakesJoin = (v : Seen) (port : ℕ) (p : PortRow) (taken text : List ℕ) → port_row v.table port ≡ Some p → HasGoneOut v p text → WasTaken v port taken
    → (taken ++ drop (taken_of v port) text ≡ text) × WasTaken (after_take v port (length text)) port text

-- ---- the output

-- the text is a capture so far with more bytes, none if it has ended
pub record IsContinued (i : Intake) (text : Text) : Type 0 where
  pub port : text.0 ≡ i.port
  pub more : List ℕ
  pub bytes : text.1 ≡ i.bytes ++ more
  pub ended : i.closed ≡ true → more ≡ []

-- the bytes of a text, if there is one
abbrev pub bytes_in : Option Text → List ℕ
bytes_in None = []
bytes_in (Some text) = text.1

-- the capture of a port
abbrev pub capture_at : ℕ → List Text → List ℕ
capture_at port texts = bytes_in (find (λ text. text.0 == port) texts)

-- whatever comes in the end: what was taken is a prefix of what a run over the whole captures puts out
abbrev pub TakenIsAPrefix : Type 0
TakenIsAPrefix = (v : Seen) (port : ℕ) (taken : List ℕ) (texts : List Text) (results : Results) → WasTaken v port taken → AllZip IsContinued v.intakes texts → IsOutcome v.table texts results
    → (rest : List ℕ) × (capture_at port results.captures ≡ taken ++ rest)

-- what was taken and then what the end gives is the output of a run over the whole captures
abbrev pub TakesAndRestAreTheOutput : Type 0
TakesAndRestAreTheOutput = (v : Seen) (port : ℕ) (taken : List ℕ) (results : Results) (end : IsFinished v results) → WasTaken v port taken
    → taken ++ capture_at port results.captures ≡ capture_at port end.whole.captures
