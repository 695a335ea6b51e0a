-- What calls do to the captures of a switch.
use Rattle.std.proofs.Common.{◌≡◌, ◌<◌, ◌+◌, ℕ, zero, suc, List, [], ◌∷◌, ◌++◌, length, map, set, get_or, slice_get, Some, refl, ap, sym, ◌∙◌, arith, append_assoc}
use Rattle.std.proofs.lemmas.List.{map-set, length-map}
use Rattle.std.proofs.lemmas.Option.{same_Some, slice_get-map, slice_get_read, slice_get_within}
use Rattle.afdx_pcap.specs.Record.{Record, whole}
use Rattle.afdx_pcap.specs.Text.{head_text, record_text, capture_text}
use Rattle.afdx_table.specs.declared.rows.PortRow.{PortRow}
use Rattle.afdx_session.specs.Texts.{Text}
use Rattle.afdx_network.specs.Inner.Outputs.{Output, silent, texts_in, gone_in}

-- the text of a record is that of a frame that was captured whole
pub same_text : (out : Record) → record_text (whole out.stamp out.bytes) ≡ record_text out
unfolding head_text
same_text out = refl

abbrev by_number : ℕ → List ℕ → Text
by_number n bytes = (n, bytes)

-- the capture of a port at a place, with one record more
module _ (outputs : List Output) (place port : ℕ) (was : Output) (before : List ℕ) (out : Record) (at : slice_get (texts_in outputs) place ≡ Some (port, before))
    (is : was ≡ get_or outputs place was) where
  pub within : place < length outputs
  within = let lt = slice_get_within (texts_in outputs) place (port, before) at in omega (arith, lt, length-map {B = Text} outputs (λ (o : Output). (o.port, o.gone ++ o.text)))

  pub there : slice_get outputs place ≡ Some was
  there = slice_get_read outputs (length outputs) place was refl within is

  same : by_number was.port (was.gone ++ was.text) ≡ by_number port before
  same = same_Some (was.port, was.gone ++ was.text) (port, before) (sym (rw (slice_get-map, there) refl) ∙ at)

  pub text_more : (new : Output) → new ≡ record { port = was.port; gone = was.gone; text = was.text ++ record_text out }
      → texts_in (set outputs place new) ≡ set (texts_in outputs) place (port, before ++ record_text out)
  text_more new made =
      map-set (λ (o : Output). (o.port, o.gone ++ o.text)) outputs place new
      ∙ ap (λ (x : Text). set (texts_in outputs) place x)
      (ap (λ (o : Output). (o.port, o.gone ++ o.text)) made ∙ ap (λ (bytes : List ℕ). (was.port, bytes)) (sym (append_assoc was.gone was.text (record_text out)))
      ∙ ap (λ (x : Text). (x.0, x.1 ++ record_text out)) same)

-- nothing more has gone to the files
pub gone_stays : (outputs : List Output) (place : ℕ) (was new : Output) → slice_get outputs place ≡ Some was → new.gone ≡ was.gone → gone_in (set outputs place new) ≡ gone_in outputs
gone_stays [] place was new is same = absurd cc
gone_stays (x ∷ outputs) zero was new is same = ap (λ (gone : List ℕ). gone ∷ gone_in outputs) (same ∙ ap (λ (o : Output). o.gone) (sym (same_Some x was is)))
gone_stays (x ∷ outputs) (suc place) was new is same = ap (λ (all : List (List ℕ)). x.gone ∷ all) (gone_stays outputs place was new is same)

-- the captures of ports that nothing left
pub silent_left : (ports : List PortRow) → texts_in (map (λ (p : PortRow). silent p.id) ports) ≡ map (λ (p : PortRow). by_number p.id (capture_text [])) ports
silent_left [] = refl
silent_left (p ∷ ports) = ap (λ (texts : List Text). by_number p.id (capture_text []) ∷ texts) (silent_left ports)

pub silent_gone : (ports : List PortRow) → gone_in (map (λ (p : PortRow). silent p.id) ports) ≡ map (λ (p : PortRow). []) ports
silent_gone [] = refl
silent_gone (p ∷ ports) = ap (λ (all : List (List ℕ)). [] ∷ all) (silent_gone ports)
