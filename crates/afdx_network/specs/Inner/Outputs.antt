-- The capture of what left a port, in two parts: what has gone to its file, and what has not.
use Rattle.std.specs.Prelude.{ℕ, ◌≡◌, List, [], ◌∷◌, ◌++◌, map, length, slice_get, Option, Some}
use Rattle.std.specs.List.{flat_map}
use Rattle.std.specs.Io.KnownBytes.{Appends}
use Rattle.afdx_pcap.specs.Text.{capture_text}
use Rattle.afdx_session.specs.Texts.{Text}

-- the capture of what left a port: the bytes that have gone to its file, and those that have not
pub record Output : Type 0 where
  pub port : ℕ
  pub gone : List ℕ
  pub text : List ℕ

-- the capture of a port that nothing left
abbrev pub silent : ℕ → Output
silent port = record { port = port; gone = []; text = capture_text [] }

-- all has gone to the file
abbrev pub all_gone : Output → Output
all_gone o = record { port = o.port; gone = o.gone ++ o.text; text = [] }

-- the whole captures
abbrev pub texts_in : List Output → List Text
texts_in outputs = map (λ o. (o.port, o.gone ++ o.text)) outputs

-- what has gone to the file of each capture
abbrev pub gone_in : List Output → List (List ℕ)
gone_in outputs = map (λ o. o.gone) outputs

-- each file has the bytes at its place after what it had at the start
pub record HaveGone {F : Type 0} (contents : F → Option (List ℕ)) (start now : List F) (all : List (List ℕ)) : Type 0 where
  pub long : length now ≡ length start
  pub each : (place : ℕ) (f g : F) (bytes : List ℕ) → slice_get start place ≡ Some f → slice_get now place ≡ Some g → slice_get all place ≡ Some bytes
      → Appends (contents f) (contents g) bytes
