-- What came in at the ports of a switch so far, as captures.
use Rattle.std.proofs.Common.{◌≡◌, ◌≤◌, ◌==◌, ℕ, zero, suc, Bool, true, false, cond, List, [], ◌∷◌, map, find, slice_get, Option, Some, None, refl, ap, sym, ◌∙◌, subst}
use Rattle.std.specs.Prelude.{All, Contains}
use Rattle.std.specs.List.{AllByRecursion, AllZip}
use Rattle.std.proofs.lemmas.List.Elements.{All-cons, All-nil, All-from_recursion}
use Rattle.std.proofs.lemmas.Option.{same_Some}
use Rattle.afdx_pcap.specs.Record.{Record}
use Rattle.afdx_pcap.specs.Text.{capture_text}
use Rattle.afdx_pcap.specs.Capture.{IsCapture}
use Rattle.afdx_session.specs.Texts.{Text}
use Rattle.afdx_session.specs.Reading.{AreCaptures}
use Rattle.afdx_paced.specs.Paced.{Lane, captures_of}
use Rattle.afdx_wiring.specs.declared.layout.Wire.{Wire}
use Rattle.afdx_network_check.specs.Net.{Network, wire_to}
use Rattle.afdx_network.specs.Early.{ComesBy}
use Rattle.afdx_network.specs.Inner.Sites.{end_at, IsCame}
use Rattle.afdx_network.proofs.Carried.{AreWritten}
use Rattle.afdx_network.proofs.Found.{contains_head, contains_tail}
use Rattle.afdx_network.proofs.Lanes.{of_port}

-- this is the capture of what came in at a port
pub record IsText (net : Network) (switch : ℕ) (own : List Text) (l : Lane) (text : Text) : Type 0 where
  pub port : text.0 ≡ l.port
  pub read : IsCapture text.1 l.came
  pub given : wire_to net (end_at switch l.port) ≡ None → Contains own text
  pub brought : (w : Wire) → wire_to net (end_at switch l.port) ≡ Some w → text.1 ≡ capture_text l.came

pub text_for : AreWritten → (net : Network) (switch : ℕ) (own : List Text) (l : Lane) → IsCame net switch own l → (text : Text) × IsText net switch own l text
text_for written net switch own l came = by (wire_to net (end_at switch l.port)) refl where
  none_some : {P : Type 0} {w : Wire} → None ≡ Some w → P
  none_some e = absurd cc

  by : (o : Option Wire) → wire_to net (end_at switch l.port) ≡ o → (text : Text) × IsText net switch own l text
  by None none =
      let g = came.given none in
      ((l.port, g.0), record { port = refl; read = g.2; given = λ is. g.1; brought = λ w some. none_some (sym none ∙ some) })
  by (Some v) some =
      let b = came.brought v some in
      ((l.port, capture_text l.came), record { port = refl; read = written l.came b.0 b.1; given = λ none. none_some (sym none ∙ some); brought = λ w is. refl })

pub texts_for : AreWritten → (net : Network) (switch : ℕ) (own : List Text) (lanes : List Lane) → AllByRecursion (IsCame net switch own) lanes
    → (texts : List Text) × AllZip (IsText net switch own) lanes texts
texts_for written net switch own [] came = ([], tt)
texts_for written net switch own (l ∷ lanes) came =
    let first = text_for written net switch own l came.0 in
    let rest = texts_for written net switch own lanes came.1 in
    (first.0 ∷ rest.0, (first.1, rest.1))

module _ (net : Network) (switch : ℕ) (own : List Text) where
  pub texts_read : (lanes : List Lane) (texts : List Text) → AllZip (IsText net switch own) lanes texts → AreCaptures texts (captures_of lanes)
  texts_read [] [] zip = tt
  texts_read [] (text ∷ texts) zip = absurd zip
  texts_read (l ∷ lanes) [] zip = absurd zip
  texts_read (l ∷ lanes) (text ∷ texts) zip = (sym zip.0.port, zip.0.read, texts_read lanes texts zip.1)

  pub texts_ports : (lanes : List Lane) (texts : List Text) → AllZip (IsText net switch own) lanes texts → map (λ (text : Text). text.0) texts ≡ map (λ (l : Lane). l.port) lanes
  texts_ports [] [] zip = refl
  texts_ports [] (text ∷ texts) zip = absurd zip
  texts_ports (l ∷ lanes) [] zip = absurd zip
  texts_ports (l ∷ lanes) (text ∷ texts) zip =
      ap (λ n. n ∷ map (λ (x : Text). x.0) texts) zip.0.port ∙ ap (λ (ns : List ℕ). l.port ∷ ns) (texts_ports lanes texts zip.1)

  pub texts_by : (last : ℕ) (lanes : List Lane) (texts : List Text) → AllZip (IsText net switch own) lanes texts
      → AllByRecursion (λ (l : Lane). AllByRecursion (λ (r : Record). r.stamp ≤ last) l.came) lanes → All (λ (text : Text). ComesBy last text.1) texts
  texts_by last [] [] zip all = All-nil (λ (text : Text). ComesBy last text.1)
  texts_by last [] (text ∷ texts) zip all = absurd zip
  texts_by last (l ∷ lanes) [] zip all = absurd zip
  texts_by last (l ∷ lanes) (text ∷ texts) zip all =
      All-cons (λ (x : Text). ComesBy last x.1) text texts
      (record { records = l.came; read = zip.0.read; none_later = All-from_recursion (λ (r : Record). r.stamp ≤ last) l.came all.0 })
      (texts_by last lanes texts zip.1 all.1)

  -- the text of a port is among them
  pub text_there : (lanes : List Lane) (texts : List Text) (port : ℕ) (l : Lane) → AllZip (IsText net switch own) lanes texts → find (of_port port) lanes ≡ Some l
      → (text : Text) × Contains texts text × IsText net switch own l text
  text_there [] [] port l zip is = absurd cc
  text_there [] (text ∷ texts) port l zip is = absurd zip
  text_there (m ∷ lanes) [] port l zip is = absurd zip
  text_there (m ∷ lanes) (text ∷ texts) port l zip is = by (m.port == port) (text_there lanes texts port l zip.1) is where
    by : (b : Bool) → (find (of_port port) lanes ≡ Some l → (x : Text) × Contains texts x × IsText net switch own l x) → cond b (Some m) (find (of_port port) lanes) ≡ Some l
        → (x : Text) × Contains (text ∷ texts) x × IsText net switch own l x
    by true further some = (text, contains_head texts text text refl, subst (λ (n : Lane). IsText net switch own n text) (same_Some m l some) zip.0)
    by false further some = let rest = further some in (rest.0, contains_tail texts rest.0 text rest.1, rest.2)

  -- each of them is that of a lane
  pub lane_of_text : (lanes : List Lane) (texts : List Text) (text : Text) → AllZip (IsText net switch own) lanes texts → (k : ℕ) → slice_get texts k ≡ Some text
      → (l : Lane) × IsText net switch own l text
  lane_of_text [] [] text zip k at = absurd cc
  lane_of_text [] (x ∷ texts) text zip k at = absurd zip
  lane_of_text (l ∷ lanes) [] text zip k at = absurd zip
  lane_of_text (l ∷ lanes) (x ∷ texts) text zip zero at = (l, subst (IsText net switch own l) (same_Some x text at) zip.0)
  lane_of_text (l ∷ lanes) (x ∷ texts) text zip (suc k) at = lane_of_text lanes texts text zip.1 k at
