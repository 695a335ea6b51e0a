-- The texts of a run: what was written at a port, and what was read at one.
use Rattle.std.proofs.Common.{◌≡◌, ℕ, zero, suc, ◌<◌, ◌==◌, List, [], ◌∷◌, ◌++◌, length, map, get_or, refl, ap, sym, ◌∙◌, arith, subst, cond, false, append-nil}
use Rattle.std.specs.Prelude.{Contains}
use Rattle.std.specs.List.{AllByRecursion}
use Rattle.std.proofs.lemmas.Bool.{eq-eqb, ne_eqb}
use Rattle.std.proofs.lemmas.List.{get_or-map, length-map}
use Rattle.std.proofs.lemmas.List.Elements.{Contains-get_or}
use Rattle.afdx_pcap.specs.Record.{Record}
use Rattle.afdx_pcap.specs.Text.{capture_text}
use Rattle.afdx_pcap.specs.Capture.{IsCapture}
use Rattle.afdx_table.specs.declared.rows.PortRow.{PortRow}
use Rattle.afdx_table.specs.Content.{Content}
use Rattle.afdx_table.specs.WellFormed.{Rises, IsWellFormed}
use Rattle.afdx_core.specs.Merge.{Capture, records_of}
use Rattle.afdx_session.specs.Texts.{Text, AreOfPorts}
use Rattle.afdx_session.specs.Reading.{AreCaptures}
use Rattle.afdx_network.proofs.Lists.{all_map, all_unmap}
use Rattle.afdx_network.proofs.Found.{of_all, one_port}

-- ---- what was written

abbrev text_by : (PortRow → List Record) → PortRow → Text
text_by out p = (p.id, capture_text (out p))

pub written_at : (t : Content) (out : PortRow → List Record) (captures : List Text) (p : PortRow) (bytes : List ℕ) → IsWellFormed t
    → captures ≡ map (λ q. (q.id, capture_text (out q))) t.ports → Contains t.ports p → Contains captures (p.id, bytes) → bytes ≡ capture_text (out p)
written_at t out captures p bytes formed are here among =
    let known = subst (λ (texts : List Text). Contains texts (p.id, bytes)) are among in
    let within : known.0 < length t.ports = let place = known.1 in omega (arith, place, length-map t.ports (text_by out)) in
    let q = get_or t.ports known.0 p in
    let is : text_by out q ≡ (p.id, bytes) = sym (get_or-map (text_by out) t.ports known.0 p (p.id, bytes) within) ∙ known.2 in
    let same : q ≡ p = one_port t q p formed (Contains-get_or t.ports known.0 p within) here (ap (λ (text : Text). text.0) is) in
    sym (ap (λ (text : Text). text.1) is) ∙ ap (λ (r : PortRow). capture_text (out r)) same

-- ---- what was read

-- the numbers of texts rise
abbrev pub NumbersRise : List Text → Type 0
NumbersRise [] = Unit {0}
NumbersRise (text ∷ texts) = AllByRecursion (λ (later : Text). text.0 < later.0) texts × NumbersRise texts

as_ports : (texts : List Text) (ports : List PortRow) → map (λ (text : Text). text.0) texts ≡ map (λ (p : PortRow). p.id) ports → Rises ports → NumbersRise texts
as_ports [] ports same rises = tt
as_ports (text ∷ texts) [] same rises = absurd cc
as_ports (text ∷ texts) (p ∷ ports) same rises =
    let first : p.id ≡ text.0 = cc in
    let rest : map (λ (text : Text). text.0) texts ≡ map (λ (q : PortRow). q.id) ports = cc in
    let numbers = all_map (λ (n : ℕ). p.id < n) (λ (q : PortRow). q.id) ports rises.0 in
    let later = all_unmap (λ (n : ℕ). p.id < n) (λ (other : Text). other.0) texts (subst (AllByRecursion (λ (n : ℕ). p.id < n)) (sym rest) numbers) in
    (subst (λ (n : ℕ). AllByRecursion (λ (other : Text). n < other.0) texts) first later, as_ports texts ports rest rises.1)

pub numbers_rise : (t : Content) (texts : List Text) → IsWellFormed t → AreOfPorts t texts → NumbersRise texts
numbers_rise t texts formed are = as_ports texts t.ports are formed.ports_rise

none_before : (texts : List Text) (read : List Capture) (port : ℕ) → AreCaptures texts read → AllByRecursion (λ (text : Text). port < text.0) texts → records_of read port ≡ []
none_before [] [] port are above_all = refl
none_before [] (c ∷ read) port are above_all = absurd are
none_before (text ∷ texts) [] port are above_all = absurd are
none_before (text ∷ texts) (c ∷ read) port are above_all =
    let other : (c.port == port) ≡ false = let number = are.0 in let above = above_all.0 in ne_eqb c.port port (λ same. omega (arith, number, above)) in
    ap (λ b. cond b c.records [] ++ records_of read port) other ∙ none_before texts read port are.2 above_all.1

pub record IsReadAt (read : List Capture) (port : ℕ) (bytes : List ℕ) : Type 0 where
  pub records : List Record
  pub capture : IsCapture bytes records
  pub all : records_of read port ≡ records

at_place : (texts : List Text) (read : List Capture) (port : ℕ) (bytes : List ℕ) → AreCaptures texts read → NumbersRise texts
    → (k : ℕ) → k < length texts → get_or texts k (port, bytes) ≡ (port, bytes) → IsReadAt read port bytes
at_place [] read port bytes are rise k within at = absurd (omega (arith, within))
at_place (text ∷ texts) [] port bytes are rise k within at = absurd are
at_place (text ∷ texts) (c ∷ read) port bytes are rise zero within at =
    let number : text.0 ≡ port = ap (λ (x : Text). x.0) at in
    let later : AllByRecursion (λ (other : Text). port < other.0) texts = subst (λ (n : ℕ). AllByRecursion (λ (other : Text). n < other.0) texts) number rise.0 in
    record {
      records = c.records;
      capture = subst (λ (b : List ℕ). IsCapture b c.records) (ap (λ (x : Text). x.1) at) are.1;
      all = ap (λ b. cond b c.records [] ++ records_of read port) (eq-eqb c.port port (are.0 ∙ number))
          ∙ ap (λ (rest : List Record). c.records ++ rest) (none_before texts read port are.2 later) ∙ append-nil c.records;
    }
at_place (text ∷ texts) (c ∷ read) port bytes are rise (suc k) within at =
    let less : text.0 < port = of_all (λ (other : Text). text.0 < other.0) texts (port, bytes) rise.0 (k, omega (arith, within), at) in
    let rest = at_place texts read port bytes are.2 rise.1 k (omega (arith, within)) at in
    let number = are.0 in let other : (c.port == port) ≡ false = ne_eqb c.port port (λ same. omega (arith, number)) in
    record { records = rest.records; capture = rest.capture; all = ap (λ b. cond b c.records [] ++ records_of read port) other ∙ rest.all }

pub read_at : (texts : List Text) (read : List Capture) (port : ℕ) (bytes : List ℕ) → AreCaptures texts read → NumbersRise texts → Contains texts (port, bytes) → IsReadAt read port bytes
read_at texts read port bytes are rise among = at_place texts read port bytes are rise among.0 among.1 among.2
