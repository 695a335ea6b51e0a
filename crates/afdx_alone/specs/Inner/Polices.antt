-- What holds while a capture comes and its frames are offered to a link's account, one after the other.
use Rattle.std.specs.Prelude.{◌≡◌, ◌≤◌, ℕ, ◌+◌, Bool, true, false, if◌then◌else◌, IsTrue, List, [], ◌++◌, length, map, filter, Option, Some, None, ⊤}
use Rattle.afdx_account.specs.declared.byte_account.ByteAccount.{ByteAccount}
use Rattle.afdx_account.specs.declared.frame.Frame.{Frame}
use Rattle.afdx_account.specs.Account.{byte_account_terms, byte_account_since, byte_account_level}
use Rattle.afdx_account.specs.Level.{IsLevelAfter}
use Rattle.afdx_pcap.specs.declared.format.Format.{Format}
use Rattle.afdx_pcap.specs.Record.{Record}
use Rattle.afdx_pcap.specs.Fault.{IsFault, is_cut, last_stamp}
use Rattle.afdx_pcap.specs.Reading.{AreReadUpTo}
use Rattle.afdx_pcap.specs.Text.{capture_text, record_text}
use Rattle.afdx_filter.specs.Frame.{frame_of}
use Rattle.afdx_alone.specs.declared.link.Alone.{Alone}
use Rattle.afdx_alone.specs.declared.fault.AloneFault.{AloneFault}
use Rattle.afdx_alone.specs.declared.fault.AloneFault.TheVariants.{Memory, Capture}
use Rattle.afdx_alone.specs.declared.policing.Policing.{Policing}
use Rattle.afdx_alone.specs.Own.{is_own}
use Rattle.afdx_alone.specs.Answer.{account_terms, passed_of_link}
use Rattle.afdx_alone.specs.Inner.Offer.{IsOffered}
use Rattle.afdx_alone.specs.Inner.Sizes.{longest_record}

-- the link's own frames of these records, as its account sees them
abbrev pub own_frames : Alone → List Record → List Frame
own_frames link seen = map frame_of (filter (is_own link) seen)

-- the account, after these frames of a capture
pub record Progress (link : Alone) (seen : List Record) (account : ByteAccount) : Type 0 where
  pub terms : byte_account_terms account ≡ account_terms link
  pub since : byte_account_since account ≤ last_stamp 0 seen
  pub level : IsLevelAfter (account_terms link) (byte_account_since account) (byte_account_level account (byte_account_since account)) (own_frames link seen)

-- how far bytes were read: not at all, or their header and these records
abbrev pub IsReadUpTo : Option Format → List ℕ → List Record → List ℕ → Type 0
IsReadUpTo None bytes seen rest = (seen ≡ []) × (rest ≡ bytes)
IsReadUpTo (Some format) bytes seen rest = AreReadUpTo format bytes seen rest

-- of these bytes all but a rest was read, the account has come so far, and the answer is the text of the frames that it passed
pub record Polices {Z : Type 0} (link : Alone) (bytes rest : List ℕ) (p : Policing Z) : Type 0 where
  pub seen : List Record
  pub read : IsReadUpTo p.format bytes seen rest
  pub last : p.last ≡ last_stamp 0 seen
  pub count : p.count ≡ length seen
  pub progress : Progress link seen p.account
  pub answer_is : p.answer.items ≡ capture_text (passed_of_link link seen)

-- one more record was taken
pub record HasOffered {Z : Type 0} (link : Alone) (r : Record) (old new : Policing Z) : Type 0 where
  pub passes : Bool
  pub own : IsTrue (is_own link r) → IsOffered old.account new.account (frame_of r) passes
  pub others : is_own link r ≡ false → (passes ≡ false) × (new.account ≡ old.account)
  pub answer : new.answer.items ≡ (if passes then old.answer.items ++ record_text r else old.answer.items)
  pub last : new.last ≡ r.stamp
  pub count : new.count ≡ old.count + 1
  pub format : new.format ≡ old.format

-- what is left of some bytes: nothing, if the input has ended; else no more than waits for the rest of a record
abbrev pub Leaves : Bool → Option Format → List ℕ → Type 0
Leaves true None rest = ⊥
Leaves true (Some format) rest = rest ≡ []
Leaves false format rest = length rest ≤ longest_record

-- what is wrong with these bytes; if more may come, none of them mends it
abbrev pub IsPieceFault : List ℕ → Bool → AloneFault → Type 0
IsPieceFault bytes ended Memory = ⊤
IsPieceFault bytes ended (Capture fault) = IsFault bytes fault × (ended ≡ false → is_cut fault ≡ false)
