-- Laws of admission: what an offer leaves as it was, which offers are refused, and what is true of the items that were admitted.
use Rattle.std.specs.Prelude.{ℕ, ◌+◌, ◌<◌, ◌≤◌, ◌≡◌, ◌↔◌, List, [], ◌∷◌, ◌++◌, AllPairs}
use Rattle.afdx_port.specs.declared.Settings.{Settings}
use Rattle.afdx_port.specs.declared.Item.{Item}
use Rattle.afdx_port.specs.declared.Offer.TheVariants.{Full}
use Rattle.afdx_port.specs.Service.{came, service, before}
use Rattle.afdx_port.specs.Admission.{occupied, admit, admit_all, admitted, AllFitIn, AllFit}
use Rattle.afdx_port.specs.Content.{Content, answer}

-- an arrival that is queued at t or later changes no event before t
abbrev pub EarlierEventsStay : Type 0
EarlierEventsStay = (s : Settings) (t free : ℕ) (items : List Item) (x : Item) → t ≤ came s x
    → before t (service s free (items ++ x ∷ [])) ≡ before t (service s free items)

-- an offer of an arrival that is queued at t or later changes no event before t
abbrev pub EarlierEventsStayAdmitted : Type 0
EarlierEventsStayAdmitted = (s : Settings) (t : ℕ) (admitted : List Item) (x : Item) → t ≤ came s x
    → before t (service s 0 (admit s admitted x)) ≡ before t (service s 0 admitted)

-- x is refused: with those that are not gone it would pass the buffer
abbrev pub IsFull : Settings → List Item → Item → Type 0
IsFull s admitted x = s.buffer < x.size + occupied s (came s x) admitted

-- an offer is answered Full exactly if the item is refused
abbrev pub FullIsExact : Type 0
FullIsExact = (c : Content) (x : Item) → (answer x c ≡ Full) ↔ IsFull c.settings c.admitted x

-- each that was admitted fits beside those before it
abbrev pub AdmittedFit : Type 0
AdmittedFit = (s : Settings) (feed : List Item) → AllFit s [] (admitted s feed)

-- what is admitted of a feed whose stamps do not fall is in order
abbrev pub AdmittedInOrder : Type 0
AdmittedInOrder = (s : Settings) (feed : List Item) → AllPairs (λ a b. a.stamp ≤ b.stamp) feed → AllPairs (λ a b. a.stamp ≤ b.stamp) (admitted s feed)

-- of a feed in two parts, the second is offered to what was admitted of the first
abbrev pub AdmittedInParts : Type 0
AdmittedInParts = (s : Settings) (before feed later : List Item) → admit_all s before (feed ++ later) ≡ admit_all s (admit_all s before feed) later

-- a port like it, with a buffer of so many bytes
abbrev pub with_buffer : ℕ → Settings → Settings
with_buffer bytes s = record { speed = s.speed; buffer = bytes; max_delay = s.max_delay; latency = s.latency }

-- what fits into a port with a buffer of so many bytes would fit into so many bytes at this port: what a port does with what it
-- admitted, and when, does not rest on the size of its buffer
abbrev pub BuffersServeAlike : Type 0
BuffersServeAlike = (s : Settings) (bytes : ℕ) (items : List Item) → AllFit (with_buffer bytes s) [] items → AllFitIn bytes s [] items
