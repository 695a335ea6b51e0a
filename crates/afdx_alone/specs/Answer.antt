-- What is answered to a capture: the frames of one link that its account passes.
use Rattle.std.specs.Prelude.{◌≡◌, ℕ, List, Option, filter}
use Rattle.afdx_folder.specs.Input.{AreGiven}
use Rattle.afdx_account.specs.Policing.{Terms, byte_terms, passed_of}
use Rattle.afdx_pcap.specs.Record.{Record}
use Rattle.afdx_pcap.specs.Capture.{IsCapture}
use Rattle.afdx_pcap.specs.Text.{capture_text}
use Rattle.afdx_filter.specs.Frame.{frame_of}
use Rattle.afdx_alone.specs.declared.link.Alone.{Alone}
use Rattle.afdx_alone.specs.Own.{is_own}

-- the terms of the link's account, which is kept by bytes
abbrev pub account_terms : Alone → Terms
account_terms link = byte_terms link.max_size link.bag link.jitter

-- the frames of a capture that are the link's own and that its account passes
abbrev pub passed_of_link : Alone → List Record → List Record
passed_of_link link rs = passed_of frame_of (account_terms link) (filter (is_own link) rs)

-- the input is a capture, and the answer is the capture of the frames that the link's account passes
abbrev pub IsAnswer : Alone → List ℕ → List ℕ → Type 0
IsAnswer link input answer = (rs : List Record) × IsCapture input rs × (answer ≡ capture_text (passed_of_link link rs))

-- the answer to all that a reader gives, if that is a capture
abbrev pub IsAnswerTo : Option (List ℕ) → Alone → List ℕ → Type 0
IsAnswerTo input link answer = (bytes : List ℕ) × AreGiven input bytes × IsAnswer link bytes answer
