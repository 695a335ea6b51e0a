-- What has gone from a port's buffer, from what was sent and discarded in the end (profile).
use Rattle.std.specs.Prelude.{ℕ, ◌+◌, ◌≤◌, ◌≡◌, nat_lt, nat_le, List, ◌∷◌, ◌++◌, filter, sum_by, AllPairs}
use Rattle.afdx_port.specs.declared.Settings.{Settings}
use Rattle.afdx_port.specs.declared.Item.{Item}
use Rattle.afdx_port.specs.declared.Sent.{Sent}
use Rattle.afdx_port.specs.declared.Aged.{Aged}
use Rattle.afdx_port.specs.Service.{came, service, sent_of, aged_of}
use Rattle.afdx_port.specs.Admission.{occupied}
use Rattle.afdx_port.specs.Inner.Order.{InOrder}

-- the bytes of what ended by t, and of what was discarded before t
abbrev pub gone : ℕ → List Sent → List Aged → ℕ
gone t sent aged = sum_by (λ x. x.item.size) (filter (λ x. nat_le x.end t) sent) + sum_by (λ a. a.item.size) (filter (λ a. nat_lt a.at t) aged)

-- whatever comes later, the bytes occupied when x is queued and those gone by then are together the bytes of all that was admitted
-- before x
abbrev pub OccupiedIsWhatHasNotGone : Type 0
OccupiedIsWhatHasNotGone = (s : Settings) (items later : List Item) (x : Item) → InOrder s (items ++ x ∷ later)
    → occupied s (came s x) items + gone (came s x) (sent_of (service s 0 (items ++ x ∷ later))) (aged_of (service s 0 (items ++ x ∷ later))) ≡ sum_by (λ item. item.size) items

-- the ends of what is sent do not fall
abbrev pub SentEndInOrder : Type 0
SentEndInOrder = (s : Settings) (items : List Item) → AllPairs (λ a b. a.end ≤ b.end) (sent_of (service s 0 items))

-- the instants at which items are discarded do not fall
abbrev pub AgedInOrder : Type 0
AgedInOrder = (s : Settings) (items : List Item) → AllPairs (λ a b. a.at ≤ b.at) (aged_of (service s 0 items))
