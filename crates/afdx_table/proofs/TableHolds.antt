-- A table holds what its text says.
use Rattle.std.proofs.Common.{◌≡◌, ℕ, pos, ◌≤◌, ◌+◌, ◌*◌, ◌%◌, nat_eq, nat_lt, true, Bool, cond, List, [], ◌∷◌, ◌++◌, Option, Some, None, Result, Ok, Err, refl, sym, ◌∙◌, ap, subst, inl, inr}
use Rattle.std.proofs.Common.{arith, append_assoc}
use Rattle.std.specs.List.{AllZip, count_by}
use Rattle.std.proofs.lemmas.List.{append-nil}
use Rattle.std.proofs.lemmas.List.Sums.{sum_by-cons}
use Rattle.std.proofs.lemmas.Bool.{cases_Bool}
use Rattle.std.proofs.lemmas.Bool.Decides.{nat_tests}
use Rattle.hex.specs.Hex.{decode_sized}
use Rattle.hex.specs.declared.error.FromHexError.{FromHexError}
use Rattle.toml.specs.Data.{Data, integer, string, Members}
use Rattle.afdx_table.specs.declared.fault.At.{At}
use Rattle.afdx_table.specs.declared.fault.At.TheVariants as place
use Rattle.afdx_table.specs.declared.fault.Key.{Key}
use Rattle.afdx_table.specs.declared.fault.Key.TheVariants as key
use Rattle.afdx_table.specs.declared.fault.TableFault.TheVariants.{Range}
use Rattle.afdx_table.specs.declared.rows.PortRow.{PortRow}
use Rattle.afdx_table.specs.Refusal.{or_refuse}
use Rattle.afdx_table.specs.Link.{Link}
use Rattle.afdx_table.specs.Content.{Content}
use Rattle.afdx_table.specs.Names.{speed_of, bag_of, priority_of}
use Rattle.afdx_table.specs.Fields.{are_known, known_at, number_at, numbers_at, text_at, bounded, bounded_at, optional_number_at, optional_text_at}
use Rattle.afdx_table.specs.Top.{Top, top_keys, version_from, group_address, constant_from, latency_from, top_at}
use Rattle.afdx_table.specs.Ports.{with_port, port_keys, port_at, ports_from}
use Rattle.afdx_table.specs.Links.{link_keys, police_from, row_at, fitting, link_at, links_from}
use Rattle.afdx_table.specs.Text.{content_of, tree_of, table_of}
use Rattle.afdx_table.specs.Inner.Holds.{IsPortOf, IsLinkOf, HasNumber, HasVersion, HasConstant, HasLatency, HasTables, Holds, TablesHoldTheirTexts}
use Rattle.afdx_table.proofs.Steps.{steps, ok_inside}
use Rattle.afdx_table.proofs.TopSteps.{top_steps}
use Rattle.afdx_table.proofs.Says.{there, known_at-says, number_at-says, bounded_at-says, text_at-says, optional_number_at-says, no_number, optional_text_at-says, no_text, tables_at-says}
use Rattle.afdx_table.proofs.Says.{numbers_at-says, speed-says, bag-says, priority-says, police-says}
use Rattle.afdx_table.proofs.PortsFormed.{fresh_port}
use Rattle.afdx_table.proofs.LinksFormed.{fitting-fits}

-- a number under a key
abbrev number_data : ℕ → Option Data
number_data n = Some (integer (pos n))

-- ---- ports

port_at-says : (version : ℕ) (at : At) (before : List PortRow) (ms : Members) (row : PortRow) → port_at version at before ms ≡ Ok row → IsPortOf version ms row
unfolding port_at
port_at-says version at before ms row h =
    let s1 = steps (known_at at port_keys ms) _ row h in
    let s2 = steps (bounded_at at key.Id 1 24 ms) _ row s1.rest in
    let s3 = steps (number_at at key.Mbit ms) _ row s2.rest in
    let s4 = steps (or_refuse (Range at key.Mbit) (speed_of version s3.value)) _ row s3.rest in
    let s5 = steps (bounded_at at key.Buffer 0 16777216 ms) _ row s4.rest in
    let s6 = steps (bounded_at at key.MaxDelay 1 500000 ms) _ row s5.rest in
    let new : PortRow = record { id = s2.value; speed = s4.value; buffer = s5.value; max_delay = s6.value * 1000 } in
    let last = fresh_port at before new row s6.rest in
    let speed = speed-says version s3.value s4.value (there (Range at key.Mbit) (speed_of version s3.value) s4.value s4.first) in
    let says : IsPortOf version ms new = record {
      id = bounded_at-says at key.Id 1 24 ms s2.value s2.first;
      speed = number_at-says at key.Mbit ms s3.value s3.first ∙ ap number_data speed.0;
      has_speed = speed.1;
      buffer = bounded_at-says at key.Buffer 0 16777216 ms s5.value s5.first;
      max_delay = (s6.value, bounded_at-says at key.MaxDelay 1 500000 ms s6.value s6.first, refl);
      no_other = known_at-says at port_keys ms s1.value s1.first;
    } in
    subst (IsPortOf version ms) {x = new} last.0 says

count-with : (test : PortRow → Bool) (row : PortRow) (ps : List PortRow) → count_by test (with_port row ps) ≡ cond (test row) 1 0 + count_by test ps
count-with test row [] = sum_by-cons (λ p. cond (test p) 1 0) row []
count-with test row (p ∷ ps) =
    elim (cases_Bool (nat_lt row.id p.id)) [
      | inl below ↦ rw below (sum_by-cons (λ q. cond (test q) 1 0) row (p ∷ ps))
      | inr above ↦
          let more = count-with test row ps in
          rw above (omega (arith, more, sum_by-cons (λ q. cond (test q) 1 0) p (with_port row ps), sum_by-cons (λ q. cond (test q) 1 0) p ps))
    ]

-- the ports are those before and the rows of the tables
record ArePortsOf (version : ℕ) (before : List PortRow) (tables : List Members) (ports : List PortRow) : Type 0 where
  rows : List PortRow
  rows_of : AllZip (IsPortOf version) tables rows
  all : (test : PortRow → Bool) → count_by test before + count_by test rows ≡ count_by test ports

ports_from-rows : (version n : ℕ) (before : List PortRow) (tables : List Members) (ports : List PortRow) → ports_from version n before tables ≡ Ok ports → ArePortsOf version before tables ports
unfolding ports_from
ports_from-rows version n before [] ports h =
    let same : before ≡ ports = ok_inside before ports h in
    record { rows = []; rows_of = tt; all = λ test. omega (arith, ap (count_by test) same) }
ports_from-rows version n before (ms ∷ rest) ports h =
    let s = steps (port_at version (place.Port (n + 1)) before ms) _ ports h in
    let more = ports_from-rows version (n + 1) (with_port s.value before) rest ports s.rest in
    record {
      rows = s.value ∷ more.rows;
      rows_of = (port_at-says version (place.Port (n + 1)) before ms s.value s.first, more.rows_of);
      all = λ test. omega (arith, more.all test, count-with test s.value before, sum_by-cons (λ p. cond (test p) 1 0) s.value more.rows);
    }

-- ---- links

row_at-says : (version : ℕ) (at : At) (ms : Members) (row : Link) → row_at version at ms ≡ Ok row → IsLinkOf version ms row
unfolding row_at
row_at-says version at ms row h =
    let s1 = steps (known_at at (link_keys version) ms) _ row h in
    let s2 = steps (bounded_at at key.Id 0 65535 ms) _ row s1.rest in
    let s3 = steps (bounded_at at key.From 1 24 ms) _ row s2.rest in
    let s4 = steps (numbers_at at key.To 1 24 ms) _ row s3.rest in
    let s5 = steps (number_at at key.Bag ms) _ row s4.rest in
    let s6 = steps (or_refuse (Range at key.Bag) (bag_of s5.value)) _ row s5.rest in
    let s7 = steps (bounded_at at key.Jitter 0 10000 ms) _ row s6.rest in
    let s8 = steps (bounded_at at key.MaxSize 64 1518 ms) _ row s7.rest in
    let s9 = steps (text_at at key.Priority ms) _ row s8.rest in
    let s10 = steps (or_refuse (Range at key.Priority) (priority_of s9.value)) _ row s9.rest in
    let s11 = steps (optional_text_at at key.Police ms) _ row s10.rest in
    let s12 = steps (police_from at s11.value) _ row s11.rest in
    let new : Link = record { id = s2.value; from = s3.value; to = s4.value; bag = s6.value; jitter = s7.value * 1000; max_size = s8.value; priority = s10.value; police = s12.value } in
    let says : IsLinkOf version ms new = record {
      id = bounded_at-says at key.Id 0 65535 ms s2.value s2.first;
      from = bounded_at-says at key.From 1 24 ms s3.value s3.first;
      to = numbers_at-says at key.To 1 24 ms s4.value s4.first;
      bag = number_at-says at key.Bag ms s5.value s5.first ∙ ap number_data (bag-says s5.value s6.value (there (Range at key.Bag) (bag_of s5.value) s6.value s6.first));
      jitter = (s7.value, bounded_at-says at key.Jitter 0 10000 ms s7.value s7.first, refl);
      max_size = bounded_at-says at key.MaxSize 64 1518 ms s8.value s8.first;
      priority =
          text_at-says at key.Priority ms s9.value s9.first
          ∙ ap (λ text. Some (string text)) (priority-says s9.value s10.value (there (Range at key.Priority) (priority_of s9.value) s10.value s10.first));
      police = police-says at ms s11.value s12.value s11.first s12.first;
      no_other = known_at-says at (link_keys version) ms s1.value s1.first;
    } in
    subst (IsLinkOf version ms) {x = new} (ok_inside new row s12.rest) says

-- the links are those before and the rows of the tables
record AreLinksOf (version : ℕ) (before : List Link) (tables : List Members) (links : List Link) : Type 0 where
  rows : List Link
  rows_of : AllZip (IsLinkOf version) tables rows
  all : before ++ rows ≡ links

links_from-rows : (version : ℕ) (ports : List PortRow) (n : ℕ) (before : List Link) (tables : List Members) (links : List Link) → links_from version ports n before tables ≡ Ok links
    → AreLinksOf version before tables links
unfolding links_from link_at
links_from-rows version ports n before [] links h =
    let same : before ≡ links = ok_inside before links h in
    record { rows = []; rows_of = tt; all = append-nil before ∙ same }
links_from-rows version ports n before (ms ∷ rest) links h =
    let at : At = place.Link (n + 1) in
    let s = steps (link_at version at ports before ms) _ links h in
    let t = steps (row_at version at ms) (fitting at ports before) s.value s.first in
    let same = (fitting-fits at ports before t.value s.value t.rest).same in
    let more = links_from-rows version ports (n + 1) (before ++ s.value ∷ []) rest links s.rest in
    let all = more.all in
    record {
      rows = s.value ∷ more.rows;
      rows_of = (subst (IsLinkOf version ms) same (row_at-says version at ms t.value t.first), more.rows_of);
      all = rw append_assoc at all;
    }

-- ---- the top

bounded-same : (k : Key) (low high m n : ℕ) → bounded place.Top k low high m ≡ Ok n → (m ≡ n) × (low ≤ n) × (n ≤ high)
unfolding bounded
bounded-same k low high m n v = grind (arith, nat_tests)

version-says : (ms : Members) (stated : Option ℕ) (n : ℕ) → optional_number_at place.Top key.Version ms ≡ Ok stated → version_from stated ≡ Ok n → HasVersion ms n
version-says ms None n h v =
    let first : n ≡ 1 = sym (ok_inside 1 n v) in
    (omega (arith, first), omega (arith, first), inl (no_number place.Top key.Version ms h, first))
version-says ms (Some m) n h v =
    let is = bounded-same key.Version 1 3 m n v in
    (is.1, is.2, inr (optional_number_at-says place.Top key.Version ms m h ∙ ap number_data is.0))

group-says : (r : Result (List ℕ) FromHexError) (bytes : List ℕ) → group_address r ≡ Ok bytes → r ≡ Ok bytes
group-says (Err e) bytes h = absurd cc
group-says (Ok []) bytes h = absurd cc
group-says (Ok (b ∷ bs)) bytes h = elim (cases_Bool (nat_eq (b % 4) 3)) [
  | inl group ↦ ap Ok (ok_inside (b ∷ bs) bytes (rw group at h))
  | inr plain ↦ let g = rw plain at h in absurd cc
]

constant-says : (ms : Members) (stated : Option (List ℕ)) (bytes : List ℕ) → optional_text_at place.Top key.Constant ms ≡ Ok stated → constant_from stated ≡ Ok bytes → HasConstant ms bytes
constant-says ms None bytes h c = inl (no_text place.Top key.Constant ms h, sym (ok_inside (3 ∷ 0 ∷ 0 ∷ 0 ∷ []) bytes c))
constant-says ms (Some text) bytes h c = inr (text, optional_text_at-says place.Top key.Constant ms text h, group-says (decode_sized text 4) bytes c)

latency-says : (ms : Members) (stated : Option ℕ) (us : ℕ) → optional_number_at place.Top key.Latency ms ≡ Ok stated → latency_from stated ≡ Ok us → HasLatency ms (us * 1000)
latency-says ms None us h l = let same : 0 ≡ us = ok_inside 0 us l in inl (no_number place.Top key.Latency ms h, omega (arith, same))
latency-says ms (Some n) us h l = let same : n ≡ us = (bounded-same key.Latency 0 100 n us l).0 in
    inr (us, subst (HasNumber ms key.Latency) same (optional_number_at-says place.Top key.Latency ms n h), refl)

record Tops (ms : Members) (top : Top) : Type 0 where
  version : HasVersion ms top.version
  constant : HasConstant ms top.constant
  ports : HasTables ms key.Port top.ports
  links : HasTables ms key.Link top.links
  latency : HasLatency ms top.latency
  no_other : are_known (top_keys top.version) ms ≡ true

top_at-says : (ms : Members) (top : Top) → top_at ms ≡ Ok top → Tops ms top
top_at-says ms top h =
    let s = top_steps ms top h in
    subst (Tops ms) s.is_top (record {
      version = version-says ms s.stated_version s.version s.reads_version s.gives_version;
      constant = constant-says ms s.stated_constant s.constant s.reads_constant s.gives_constant;
      ports = tables_at-says place.Top key.Port ms s.ports s.reads_ports;
      links = tables_at-says place.Top key.Link ms s.links s.reads_links;
      latency = latency-says ms s.stated_latency s.microseconds s.reads_latency s.gives_latency;
      no_other = known_at-says place.Top (top_keys s.version) ms tt s.known_there;
    })

-- ---- the whole

content_of-holds : (ms : Members) (c : Content) → content_of ms ≡ Ok c → Holds ms c
unfolding content_of
content_of-holds ms c h =
    let s1 = steps (top_at ms) _ c h in
    let s2 = steps (ports_from s1.value.version 0 [] s1.value.ports) _ c s1.rest in
    let s3 = steps (links_from s1.value.version s2.value 0 [] s1.value.links) _ c s2.rest in
    let new : Content = record { constant = s1.value.constant; latency = s1.value.latency; ports = s2.value; links = s3.value } in
    let top = top_at-says ms s1.value s1.first in
    let ports = ports_from-rows s1.value.version 0 [] s1.value.ports s2.value s2.first in
    let links = links_from-rows s1.value.version s2.value 0 [] s1.value.links s3.value s3.first in
    let good : Holds ms new = record {
      version = s1.value.version;
      has_version = top.version;
      constant = top.constant;
      latency = top.latency;
      port_tables = s1.value.ports;
      has_ports = top.ports;
      rows = ports.rows;
      rows_of = ports.rows_of;
      ports = λ test. omega (arith, ports.all test);
      link_tables = s1.value.links;
      has_links = top.links;
      links = subst (AllZip (IsLinkOf s1.value.version) s1.value.links) links.all links.rows_of;
      no_other = top.no_other;
    } in
    subst (Holds ms) {x = new} (ok_inside new c s3.rest) good

pub table_of-holds : TablesHoldTheirTexts
unfolding table_of
table_of-holds bytes ms c tree h =
    let s = steps (tree_of bytes) content_of c h in
    let same : s.value ≡ ms = ok_inside s.value ms (sym s.first ∙ tree) in
    content_of-holds ms c (subst (λ t. content_of t ≡ Ok c) same s.rest)
