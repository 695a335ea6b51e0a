-- The captures of the ports to which no wire goes, by switch: their names, what readers of them give, and why it is not got.
use Rattle.std.proofs.Common.{◌≡◌, ℕ, zero, suc, ◌+◌, ◌<◌, Bool, true, false, if◌then◌else◌, List, [], ◌∷◌, ◌++◌, map, filter, length, slice_get, Option, Some, None, string_bytes}
use Rattle.std.proofs.Common.{refl, sym, ap, subst, ◌∙◌, inl, inr, arith}
use Rattle.std.specs.Prelude.{flat_map}
use Rattle.std.specs.List.{AllByRecursion, AllZip, enumerate_from}
use Rattle.std.proofs.lemmas.List.{map-append, length-map}
use Rattle.std.proofs.lemmas.Option.{same_Some, slice_get_within}
use Rattle.std.proofs.lemmas.Simd.{map-map}
use Rattle.afdx_pcap.specs.Text.{capture_text}
use Rattle.afdx_table.specs.declared.rows.PortRow.{PortRow}
use Rattle.afdx_table.specs.Content.{Content}
use Rattle.afdx_session.specs.Texts.{Text}
use Rattle.afdx_session.specs.Outcome.{Results}
use Rattle.afdx_wiring.specs.declared.layout.End.{End}
use Rattle.afdx_wiring.specs.File.{Layout, is_down}
use Rattle.afdx_network_check.specs.Net.{Network}
use Rattle.afdx_network.specs.Runs.{Given, AreOutcomes}
use Rattle.afdx_network.specs.Given.{is_open, ends_from, open_ends, all_from, all_ends, AreOpen, AreGiven, AreGivenBy}
use Rattle.afdx_network.specs.Outage.{silent, up_at, given_up, coming}
use Rattle.afdx_network.specs.declared.outage.Incoming.{Incoming}
use Rattle.afdx_network_report.specs.Lines.{Names, name_of}
use Rattle.afdx_messages.specs.declared.failure.Failure.{Failure}
use Rattle.afdx_messages.specs.declared.failure.Failure.TheVariants as failure
use Rattle.afdx_folder.specs.Files.{Files, Shows, ShowsAll, IsOpened, KeepsFiles, DeviceLog, one_more, one_unread}
use Rattle.afdx_folder.specs.Input.{AreGiven as AreAll}
use Rattle.afdx_serve.specs.Runs.{capture_name, names_in, bytes_of_captures, FailsToGet, GetsNamed, WasNotRead}
use Rattle.afdx_serve.specs.Networks.{names_of}
use Rattle.afdx_serve.specs.NetworkRuns.{switch_folder, names_at, bytes_at, captures_of, HasGiven, open_names, FailsToGetGiven}
use Rattle.afdx_serve.specs.Inner.NotGot.{FailsToReadOn, FailsToGetNamed, FailsToReadNamed}
use Rattle.afdx_serve.specs.Inner.NetworkRunning.{end_names, AreOpenedEnds}
use Rattle.afdx_serve.proofs.FileLemmas.{ShowsAll-nil, ShowsAll-before}
use Rattle.afdx_serve.proofs.RunLemmas.{same_names}

-- ---- a capture that was not got

pub not_got_named : (f : Failure) (files : Option Files) (name : List ℕ) (names : List (List ℕ)) (first before after : DeviceLog) → before ≡ first → FailsToGet f name before after
    → GetsNamed name files names → FailsToGetNamed f files names first after
not_got_named (failure.Get s) files name names first before after same fails upto =
    subst (λ (n : List ℕ). GetsNamed n files names × (after ≡ one_more n first)) (sym fails.0) (upto, fails.1 ∙ ap (one_more name) same)
not_got_named failure.Memory files name names first before after same fails upto = tt
not_got_named f files name names first before after same fails upto = absurd fails

-- one that was opened, and could not be read
pub not_read_named : (f : Failure) (files : Option Files) (name : List ℕ) (names : List (List ℕ)) (first before after : DeviceLog) → before ≡ first → FailsToReadOn f name before after
    → GetsNamed name files names → FailsToReadNamed f files names first after
not_read_named (failure.Get s) files name names first before after same fails upto =
    subst (λ (n : List ℕ). GetsNamed n files names × WasNotRead n first after) (sym fails.0) (upto, inr (fails.1 ∙ ap (one_unread name) same))
not_read_named failure.Memory files name names first before after same fails upto = tt
not_read_named f files name names first before after same fails upto = absurd fails

-- one that was not opened is not read
pub not_opened_named : (f : Failure) (files : Option Files) (names : List (List ℕ)) (before after : DeviceLog) → FailsToGetNamed f files names before after
    → FailsToReadNamed f files names before after
not_opened_named (failure.Get s) files names before after fails = (fails.0, inl fails.1)
not_opened_named failure.Memory files names before after fails = tt
not_opened_named f files names before after fails = absurd fails

pub GetsNamed-before : (name : List ℕ) (a b : Option Files) (names : List (List ℕ)) → KeepsFiles a b → GetsNamed name b names → GetsNamed name a names
GetsNamed-before name a b names keeps s = record { place = s.place; got = s.got; is_there = s.is_there; earlier = ShowsAll-before a b _ _ keeps s.earlier }

-- one of the captures of the ports to which no wire goes
pub not_read_given : (f : Failure) (files : Option Files) (path : List ℕ) (net : Network) (names : List (List ℕ)) (before after : DeviceLog)
    → names ≡ open_names path (names_of net.layout.switches) net 0 net.tables → FailsToReadNamed f files names before after → FailsToGetGiven f files path net before after
not_read_given (failure.Get s) files path net names before after named fails =
    let at = subst (λ (ns : List (List ℕ)). GetsNamed (string_bytes s) files ns) named fails.0 in
    (record { place = at.place; got = at.got; is_there = at.is_there; earlier = at.earlier }, fails.1)
not_read_given failure.Memory files path net names before after named fails = tt
not_read_given f files path net names before after named fails = absurd fails

-- one that was not opened
pub not_got_given : (f : Failure) (files : Option Files) (path : List ℕ) (net : Network) (names : List (List ℕ)) (before after : DeviceLog)
    → names ≡ open_names path (names_of net.layout.switches) net 0 net.tables → FailsToGetNamed f files names before after → FailsToGetGiven f files path net before after
not_got_given f files path net names before after named fails =
    not_read_given f files path net names before after named (not_opened_named f files names before after fails)

-- ---- names of captures, by switch

abbrev end_of : ℕ → ℕ → End
end_of n port = record { switch = n; port = port }

-- these are the names of the switches from the n-th on
abbrev AreFrom : Names → ℕ → Names → Type 0
AreFrom names n some = (k : ℕ) → name_of names (n + k) ≡ name_of some k

first_from : (names : Names) (n : ℕ) (name : List ℕ) (some : Names) → AreFrom names n (name ∷ some) → name_of names n ≡ name
first_from names n name some are = ap (name_of names) (number n) ∙ are 0 where
  number : (n : ℕ) → n ≡ n + 0
  number n = omega arith

rest_from : (names : Names) (n : ℕ) (name : List ℕ) (some : Names) → AreFrom names n (name ∷ some) → AreFrom names (n + 1) some
rest_from names n name some are = λ k. ap (name_of names) (number n k) ∙ are (suc k) where
  number : (n k : ℕ) → (n + 1) + k ≡ n + suc k
  number n k = omega arith

all_from_start : (names : Names) → AreFrom names 0 names
all_from_start names = λ k. ap (name_of names) (number k) where
  number : (k : ℕ) → 0 + k ≡ k
  number k = omega arith

-- the captures of some ports of one switch
named_there : (path : List ℕ) (names : Names) (n : ℕ) (name : List ℕ) (ids : List ℕ) → name_of names n ≡ name
    → end_names path names (map (end_of n) ids) ≡ map (capture_name (switch_folder path name)) ids
named_there path names n name ids is =
    map-map (λ (e : End). capture_name (switch_folder path (name_of names e.switch)) e.port) (end_of n) ids ∙ ap (λ (m : List ℕ). map (capture_name (switch_folder path m)) ids) is

names_apart : (path : List ℕ) (names : Names) (ends more : List End) → end_names path names (ends ++ more) ≡ end_names path names ends ++ end_names path names more
names_apart path names ends more = map-append (λ (e : End). capture_name (switch_folder path (name_of names e.switch)) e.port) ends more

-- those of the ports to which no wire goes
open_from : (path : List ℕ) (names : Names) (net : Network) (n : ℕ) (some : Names) (tables : List Content) → length some ≡ length tables → AreFrom names n some
    → end_names path names (ends_from net n tables) ≡ open_names path some net n tables
open_from path names net n [] [] long are = refl
open_from path names net n [] (t ∷ tables) long are = absurd (omega (arith, long))
open_from path names net n (name ∷ some) [] long are = refl
open_from path names net n (name ∷ some) (t ∷ tables) long are =
    names_apart path names (map (end_of n) (filter (is_open net n) (map (λ (p : PortRow). p.id) t.ports))) (ends_from net (n + 1) tables)
    ∙ ap (λ (ns : List (List ℕ)). ns ++ end_names path names (ends_from net (n + 1) tables))
    (named_there path names n name (filter (is_open net n) (map (λ (p : PortRow). p.id) t.ports)) (first_from names n name some are))
    ∙ ap (λ (ns : List (List ℕ)). map (capture_name (switch_folder path name)) (filter (is_open net n) (map (λ (p : PortRow). p.id) t.ports)) ++ ns)
    (open_from path names net (n + 1) some tables (omega (arith, long)) (rest_from names n name some are))

pub open_named : (path : List ℕ) (names : Names) (net : Network) → length names ≡ length net.tables → end_names path names (open_ends net) ≡ open_names path names net 0 net.tables
open_named path names net long = open_from path names net 0 names net.tables long (all_from_start names)

-- those of what left
left_from : (path : List ℕ) (names : Names) (n : ℕ) (some : Names) (tables : List Content) (came : List (List Text)) (left : List Results) → length some ≡ length tables → AreFrom names n some
    → AreOutcomes tables came left → end_names path names (all_from n tables) ≡ names_at path some (captures_of left)
left_from path names n [] [] [] [] long are outcomes = refl
left_from path names n (name ∷ some) [] came left long are outcomes = absurd (omega (arith, long))
left_from path names n [] (t ∷ tables) came left long are outcomes = absurd (omega (arith, long))
left_from path names n some [] [] (r ∷ left) long are outcomes = absurd outcomes
left_from path names n some [] (texts ∷ came) left long are outcomes = absurd outcomes
left_from path names n some (t ∷ tables) [] left long are outcomes = absurd outcomes
left_from path names n some (t ∷ tables) (texts ∷ came) [] long are outcomes = absurd outcomes
left_from path names n (name ∷ some) (t ∷ tables) (texts ∷ came) (r ∷ left) long are outcomes =
    names_apart path names (map (λ (p : PortRow). end_of n p.id) t.ports) (all_from (n + 1) tables)
    ∙ ap (λ (ns : List (List ℕ)). ns ++ end_names path names (all_from (n + 1) tables)) here
    ∙ ap (λ (ns : List (List ℕ)). names_in (switch_folder path name) r.captures ++ ns)
    (left_from path names (n + 1) some tables came left (omega (arith, long)) (rest_from names n name some are) outcomes.1) where
      ids : List ℕ
      ids = map (λ (p : PortRow). p.id) t.ports

      here : end_names path names (map (λ (p : PortRow). end_of n p.id) t.ports) ≡ names_in (switch_folder path name) r.captures
      here =
          ap (end_names path names) (sym (map-map (end_of n) (λ (p : PortRow). p.id) t.ports)) ∙ named_there path names n name (map (λ (p : PortRow). p.id) t.ports) (first_from names n name some are)
          ∙ ap (map (capture_name (switch_folder path name))) (sym outcomes.0.ports) ∙ map-map (capture_name (switch_folder path name)) (λ (text : Text). text.0) texts
          ∙ same_names (switch_folder path name) t texts r outcomes.0

pub left_named : (path : List ℕ) (names : Names) (net : Network) (came : List (List Text)) (left : List Results) → length names ≡ length net.tables → AreOutcomes net.tables came left
    → end_names path names (all_ends net) ≡ names_at path names (captures_of left)
left_named path names net came left long outcomes = left_from path names 0 names net.tables came left long (all_from_start names) outcomes

-- ---- what is under the names

zip_places : {X Y : Type 0} (P : X → Y → Type 0) (xs : List X) (ys : List Y) → length ys ≡ length xs → ((k : ℕ) (x : X) (y : Y) → slice_get xs k ≡ Some x → slice_get ys k ≡ Some y → P x y)
    → AllZip P xs ys
zip_places P [] [] long each = tt
zip_places P [] (y ∷ ys) long each = absurd (omega (arith, long))
zip_places P (x ∷ xs) [] long each = absurd (omega (arith, long))
zip_places P (x ∷ xs) (y ∷ ys) long each = (each 0 x y refl refl, zip_places P xs ys (omega (arith, long)) (λ k a b at there. each (suc k) a b at there))

there_at : {X : Type 0} (xs : List X) (k : ℕ) → k < length xs → (x : X) × (slice_get xs k ≡ Some x)
there_at [] k lt = absurd (omega (arith, lt))
there_at (x ∷ xs) zero lt = (x, refl)
there_at (x ∷ xs) (suc k) lt = there_at xs k (omega (arith, lt))

shows_append : (files : Option Files) (names more all rest : List (List ℕ)) → ShowsAll files names all → ShowsAll files more rest → ShowsAll files (names ++ more) (all ++ rest)
shows_append None names more all rest first second = tt
shows_append (Some f) names more all rest first second =
    map-append f names more ∙ ap (λ (bs : List (Option (List ℕ))). bs ++ map f more) first ∙ ap (λ (bs : List (Option (List ℕ))). map (λ (x : List ℕ). Some x) all ++ bs) second
    ∙ sym (map-append (λ (x : List ℕ). Some x) all rest)

shows_more : (files : Option Files) (name bytes : List ℕ) (names all : List (List ℕ)) → Shows files name bytes → ShowsAll files names all → ShowsAll files (name ∷ names) (bytes ∷ all)
shows_more None name bytes names all one rest = tt
shows_more (Some f) name bytes names all one rest = ap (λ (o : Option (List ℕ)). o ∷ map f names) one ∙ ap (λ (os : List (Option (List ℕ))). Some bytes ∷ os) rest

-- the ports at which these come in
abbrev ends_in : ℕ → Given → List End
ends_in n [] = []
ends_in n (own ∷ up) = map (λ (text : Text). end_of n text.0) own ++ ends_in (n + 1) up

ends_are : (net : Network) (n : ℕ) (tables : List Content) (up : Given) → length up ≡ length tables
    → ((k : ℕ) (t : Content) (own : List Text) → slice_get tables k ≡ Some t → slice_get up k ≡ Some own → AreOpen net (n + k) t own) → ends_from net n tables ≡ ends_in n up
ends_are net n [] [] long open_at = refl
ends_are net n [] (own ∷ up) long open_at = absurd (omega (arith, long))
ends_are net n (t ∷ tables) [] long open_at = absurd (omega (arith, long))
ends_are net n (t ∷ tables) (own ∷ up) long open_at =
    ap (λ (ids : List ℕ). map (end_of n) ids ++ ends_from net (n + 1) tables) (sym here)
    ∙ ap (λ (es : List End). es ++ ends_from net (n + 1) tables) (map-map (end_of n) (λ (text : Text). text.0) own)
    ∙ ap (λ (es : List End). map (λ (text : Text). end_of n text.0) own ++ es)
    (ends_are net (n + 1) tables up (omega (arith, long)) (λ k u x is at. subst (λ m. AreOpen net m u x) (number k) (open_at (suc k) u x is at))) where
      none : n + 0 ≡ n
      none = omega arith

      number : (k : ℕ) → n + suc k ≡ (n + 1) + k
      number k = omega arith

      here : AreOpen net n t own
      here = subst (λ m. AreOpen net m t own) none (open_at 0 t own refl refl)

given_at : (net : Network) (up : Given) → AreGiven net up → (k : ℕ) (t : Content) (own : List Text) → slice_get net.tables k ≡ Some t → slice_get up k ≡ Some own → AreOpen net (0 + k) t own
given_at net up are k t own is at =
    let there = are.each k (slice_get_within net.tables k t is) in
    let number : k ≡ 0 + k = omega arith in
    subst (λ m. AreOpen net m t own) number
    (subst (λ (u : Content). AreOpen net k u own) (same_Some there.table t (sym there.table_is ∙ is))
    (subst (λ (x : List Text). AreOpen net k there.table x) (same_Some there.texts own (sym there.texts_is ∙ at)) there.of_open))

-- with the same ports at each switch, these are given too
given_too : (net : Network) (up given : Given) → AreGiven net up → map (map (λ (text : Text). text.0)) given ≡ map (map (λ (text : Text). text.0)) up → AreGiven net given
given_too net up given are same = record {
  each = λ n lt.
      let there = are.each n lt in
      let own = at given up n there.texts same there.texts_is in
      record { table = there.table; texts = own.0; table_is = there.table_is; texts_is = own.1; of_open = own.2 ∙ there.of_open };
  no_more = sym (length-map given (map (λ (text : Text). text.0))) ∙ ap (λ (all : List (List ℕ)). length all) same ∙ length-map up (map (λ (text : Text). text.0)) ∙ are.no_more;
} where
  at : (given up : Given) (n : ℕ) (own : List Text) → map (map (λ (text : Text). text.0)) given ≡ map (map (λ (text : Text). text.0)) up → slice_get up n ≡ Some own
      → (texts : List Text) × (slice_get given n ≡ Some texts) × (map (λ (text : Text). text.0) texts ≡ map (λ (text : Text). text.0) own)
  at [] [] n own same is = absurd cc
  at [] (u ∷ up) n own same is = absurd cc
  at (g ∷ given) [] n own same is = absurd cc
  at (g ∷ given) (u ∷ up) zero own same is =
      let first : map (λ (text : Text). text.0) g ≡ map (λ (text : Text). text.0) u = cc in
      (g, refl, first ∙ ap (map (λ (text : Text). text.0)) (same_Some u own is))
  at (g ∷ given) (u ∷ up) (suc n) own same is =
      let rest : map (map (λ (text : Text). text.0)) given ≡ map (map (λ (text : Text). text.0)) up = cc in
      at given up n own rest is

-- what comes in at a port, and what its name has
abbrev IsRaw : Option Files → (folder : List ℕ) → Bool → ℕ → List ℕ → Type 0
IsRaw files folder down port text = (raw : List ℕ) × Shows files (capture_name folder port) raw × ((if down then capture_text [] else raw) ≡ text)

raw_of : (files : Option Files) (name : List ℕ) (remaining : Option (List ℕ)) (down : Bool) (text : List ℕ) → IsOpened files name remaining
    → AreAll (if down then Some (capture_text []) else remaining) text → (raw : List ℕ) × Shows files name raw × ((if down then capture_text [] else raw) ≡ text)
raw_of None name remaining true text opened given = (text, tt, sym given)
raw_of None name remaining false text opened given = (text, tt, refl)
raw_of (Some f) name remaining true text opened given = (opened.0, opened.1, sym given)
raw_of (Some f) name remaining false text opened given =
    let same : text ≡ opened.0 = subst (λ (o : Option (List ℕ)). AreAll o text) opened.2 given in
    (opened.0, opened.1, sym same)

record Own (files : Option Files) (folder : List ℕ) (down : Bool) (own : List Text) : Type 0 where
  pub texts : List Text
  pub ports : map (λ (text : Text). text.0) texts ≡ map (λ (text : Text). text.0) own
  pub shown : ShowsAll files (names_in folder texts) (bytes_of_captures texts)
  pub up_is : (if down then silent texts else texts) ≡ own

own_of : (files : Option Files) (folder : List ℕ) (down : Bool) (own : List Text) → AllByRecursion (λ (text : Text). IsRaw files folder down text.0 text.1) own → Own files folder down own
own_of files folder down [] all = record { texts = []; ports = refl; shown = ShowsAll-nil files; up_is = none down } where
  none : (b : Bool) → (if b then silent [] else []) ≡ []
  none true = refl
  none false = refl
own_of files folder down (x ∷ own) all =
    let rest = own_of files folder down own all.1 in
    record {
      texts = (x.0, all.0.0) ∷ rest.texts;
      ports = ap (λ (ns : List ℕ). x.0 ∷ ns) rest.ports;
      shown = shows_more files (capture_name folder x.0) all.0.0 (names_in folder rest.texts) (bytes_of_captures rest.texts) all.0.1 rest.shown;
      up_is = one down all.0.0 rest.texts all.0.2 rest.up_is;
    } where
      one : (b : Bool) (raw : List ℕ) (texts : List Text) → (if b then capture_text [] else raw) ≡ x.1 → (if b then silent texts else texts) ≡ own
          → (if b then silent ((x.0, raw) ∷ texts) else (x.0, raw) ∷ texts) ≡ x ∷ own
      one true raw texts is same = ap (λ (bytes : List ℕ). (x.0, bytes) ∷ silent texts) is ∙ ap (λ (ts : List Text). x ∷ ts) same
      one false raw texts is same = ap (λ (bytes : List ℕ). (x.0, bytes) ∷ texts) is ∙ ap (λ (ts : List Text). x ∷ ts) same

module _ (files : Option Files) (path : List ℕ) (names : Names) (l : Layout) where
  abbrev IsUnder : End → List ℕ → Type 0
  IsUnder e text = IsRaw files (switch_folder path (name_of names e.switch)) (is_down l.switches e.switch) e.port text

  parts : (n : ℕ) (own : List Text) (more : List End) (rest : List (List ℕ)) → AllZip IsUnder (map (λ (text : Text). end_of n text.0) own ++ more) (map (λ (text : Text). text.1) own ++ rest)
      → AllByRecursion (λ (text : Text). IsRaw files (switch_folder path (name_of names n)) (is_down l.switches n) text.0 text.1) own × AllZip IsUnder more rest
  parts n [] more rest zip = (tt, zip)
  parts n (x ∷ own) more rest zip = let on = parts n own more rest zip.1 in ((zip.0, on.0), on.1)

  record Revealed (some : Names) (n : ℕ) (up : Given) : Type 0 where
    pub given : Given
    pub ports : map (map (λ (text : Text). text.0)) given ≡ map (map (λ (text : Text). text.0)) up
    pub shown : ShowsAll files (names_at path some given) (bytes_at given)
    pub up_is : map (up_at l) (enumerate_from n given) ≡ up

  reveal : (some : Names) (n : ℕ) (up : Given) → length some ≡ length up → AreFrom names n some → AllZip IsUnder (ends_in n up) (flat_map (map (λ (text : Text). text.1)) up) → Revealed some n up
  reveal [] n [] long are zip = record { given = []; ports = refl; shown = ShowsAll-nil files; up_is = refl }
  reveal [] n (own ∷ up) long are zip = absurd (omega (arith, long))
  reveal (name ∷ some) n [] long are zip = absurd (omega (arith, long))
  reveal (name ∷ some) n (own ∷ up) long are zip =
      let on = parts n own (ends_in (n + 1) up) (flat_map (map (λ (text : Text). text.1)) up) zip in
      let here = own_of files (switch_folder path (name_of names n)) (is_down l.switches n) own on.0 in
      let rest = reveal some (n + 1) up (omega (arith, long)) (rest_from names n name some are) on.1 in
      record {
        given = here.texts ∷ rest.given;
        ports = ap (λ (ns : List ℕ). ns ∷ map (map (λ (text : Text). text.0)) rest.given) here.ports ∙ ap (λ (all : List (List ℕ)). map (λ (text : Text). text.0) own ∷ all) rest.ports;
        shown = shows_append files (names_in (switch_folder path name) here.texts) (names_at path some rest.given) (bytes_of_captures here.texts) (bytes_at rest.given)
            (subst (λ (m : List ℕ). ShowsAll files (names_in (switch_folder path m) here.texts) (bytes_of_captures here.texts)) (first_from names n name some are) here.shown) rest.shown;
        up_is = ap (λ (texts : List Text). texts ∷ map (up_at l) (enumerate_from (n + 1) rest.given)) here.up_is ∙ ap (λ (all : Given). own ∷ all) rest.up_is;
      }

-- what readers of the captures under these names give is what was given there, but for switches that are down
pub gave : {R : Type 0} (remaining : R → Option (List ℕ)) (files : Option Files) (path : List ℕ) (net : Network) (names : List (List ℕ)) (all : List (Incoming R)) (up : Given)
    → length (names_of net.layout.switches) ≡ length net.tables → AreOpenedEnds remaining files path net names all → AreGivenBy (coming remaining) net all up
    → (given : Given) × HasGiven files path (names_of net.layout.switches) given × AreGiven net given × (given_up net.layout given ≡ up)
gave {R} remaining files path net names all up long opened by =
    (found.given, found.shown, given_too net up found.given by.are found.ports, found.up_is) where
      switches : Names
      switches = names_of net.layout.switches

      texts : List (List ℕ)
      texts = flat_map (map (λ (text : Text). text.1)) up

      many : length names ≡ length (open_ends net)
      many = ap (λ (ns : List (List ℕ)). length ns) opened.named
          ∙ length-map (open_ends net) (λ (e : End). capture_name (switch_folder path (name_of (names_of net.layout.switches) e.switch)) e.port)

      same : ends_from net 0 net.tables ≡ ends_in 0 up
      same = ends_are net 0 net.tables up by.are.no_more (given_at net up by.are)

      at : (k : ℕ) (e : End) (text : List ℕ) → slice_get (open_ends net) k ≡ Some e → slice_get (flat_map (map (λ (text : Text). text.1)) up) k ≡ Some text
          → IsUnder files path (names_of net.layout.switches) net.layout e text
      at k e text is has =
          let within = slice_get_within (open_ends net) k e is in
          let readers = opened.opened.many in
          let incoming = opened.come.many in
          let r = there_at opened.readers k (omega (arith, within, many, readers)) in
          let i = there_at all k (omega (arith, within, many, readers, incoming)) in
          let name = capture_name (switch_folder path (name_of (names_of net.layout.switches) e.switch)) e.port in
          let under : slice_get names k ≡ Some name =
          ap (λ (ns : List (List ℕ)). slice_get ns k) opened.named ∙ name_there (open_ends net) k e is in
          raw_of files name (remaining r.0) (is_down net.layout.switches e.switch) text (opened.opened.each k r.0 name r.1 under)
          (subst (λ (o : Option (List ℕ)). AreAll o text) (opened.come.each k e r.0 i.0 is r.1 i.1) (by.read.each k i.0 text i.1 has)) where
            name_there : (ends : List End) (k : ℕ) (e : End) → slice_get ends k ≡ Some e
                → slice_get (end_names path (names_of net.layout.switches) ends) k ≡ Some (capture_name (switch_folder path (name_of (names_of net.layout.switches) e.switch)) e.port)
            name_there [] k e is = absurd cc
            name_there (x ∷ ends) zero e is = ap (λ (y : End). Some (capture_name (switch_folder path (name_of (names_of net.layout.switches) y.switch)) y.port)) (same_Some x e is)
            name_there (x ∷ ends) (suc k) e is = name_there ends k e is

      zip : AllZip (IsUnder files path (names_of net.layout.switches) net.layout) (open_ends net) (flat_map (map (λ (text : Text). text.1)) up)
      zip = zip_places (IsUnder files path (names_of net.layout.switches) net.layout) (open_ends net) (flat_map (map (λ (text : Text). text.1)) up)
          (let texts_many = by.read.many in let readers = opened.opened.many in let incoming = opened.come.many in omega (arith, texts_many, many, readers, incoming)) at

      found : Revealed files path (names_of net.layout.switches) net.layout (names_of net.layout.switches) 0 up
      found = reveal files path (names_of net.layout.switches) net.layout (names_of net.layout.switches) 0 up (long ∙ sym by.are.no_more) (all_from_start (names_of net.layout.switches))
          (subst (λ (es : List End). AllZip (IsUnder files path (names_of net.layout.switches) net.layout) es (flat_map (map (λ (text : Text). text.1)) up)) same zip)
