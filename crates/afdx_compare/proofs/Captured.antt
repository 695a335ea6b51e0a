-- Which capture is of which port.
use Rattle.std.proofs.Common.{◌≡◌, ℕ, zero, suc, ◌+◌, ◌<◌, Bool, true, false, cond, List, [], ◌∷◌, ◌++◌, map, filter, drop, length, Option, Some, refl, sym, ap, subst, ◌∙◌, arith, inl, inr}
use Rattle.std.specs.Prelude.{◌⊎◌, ◌==◌, ◌||◌, if◌then◌else◌, option_map, slice_get}
use Rattle.std.specs.List.{AllByRecursion}
use Rattle.std.proofs.lemmas.Bool.{eqb-true, eq-eqb, ne_eqb}
use Rattle.std.proofs.lemmas.List.{length-map, map-append, append-nil}
use Rattle.std.proofs.lemmas.Option.{same_Some, slice_get-map}
use Rattle.afdx_pcap.specs.Record.{Record}
use Rattle.afdx_table.specs.declared.rows.PortRow.{PortRow}
use Rattle.afdx_table.specs.Content.{Content}
use Rattle.afdx_table.specs.Ports.{has_port}
use Rattle.afdx_table.specs.WellFormed.{Rises}
use Rattle.afdx_core.specs.Merge.{records_of}
use Rattle.afdx_merging.specs.declared.clock.Clock.{Clock}
use Rattle.afdx_merging.proofs.Lists.{mapped_at}
use Rattle.afdx_recordings.specs.declared.recordings.Recordings.{Recordings}
use Rattle.afdx_recordings.specs.declared.outputs.Outputs.{Outputs}
use Rattle.afdx_recordings.specs.Recordings.{is_recorded}
use Rattle.afdx_compare.specs.declared.sources.Source.{Source}
use Rattle.afdx_compare.specs.Sources.{input_clock, output_clock, source_of, inputs_from, outputs_from, output_clocks, sources_of}
use Rattle.afdx_compare.specs.Inner.Laws.{recorded_ports, came_in, by_clock, left_among}
use Rattle.afdx_compare.proofs.Places.{all_at}

-- ---- one list after another

pub get_left : {X : Type 0} (xs ys : List X) (k : ℕ) (x : X) → slice_get xs k ≡ Some x → slice_get (xs ++ ys) k ≡ Some x
get_left [] ys k x at = absurd (let never = at in cc)
get_left (y ∷ xs) ys zero x at = at
get_left (y ∷ xs) ys (suc k) x at = get_left xs ys k x at

pub get_right : {X : Type 0} (xs ys : List X) (k j : ℕ) → j ≡ length xs + k → slice_get (xs ++ ys) j ≡ slice_get ys k
get_right [] ys k j is = (let same : j ≡ k = omega (arith, is) in ap (λ (n : ℕ). slice_get ys n) same)
get_right (x ∷ xs) ys k zero is = absurd (omega (arith, is))
get_right (x ∷ xs) ys k (suc j) is = get_right xs ys k j (omega (arith, is))

get_either : {X : Type 0} (xs ys : List X) (k : ℕ) (x : X) → slice_get (xs ++ ys) k ≡ Some x
    → (slice_get xs k ≡ Some x) ⊎ ((j : ℕ) × (k ≡ length xs + j) × (slice_get ys j ≡ Some x))
get_either [] ys k x at = inr (k, omega arith, at)
get_either (y ∷ xs) ys zero x at = inl at
get_either (y ∷ xs) ys (suc k) x at = elim (get_either xs ys k x at) [
  | inl there ↦ inl there
  | inr there ↦ let is = there.1 in inr (there.0, omega (arith, is), there.2)
]

get_drop : {X : Type 0} (n k : ℕ) (xs : List X) → slice_get (drop n xs) k ≡ slice_get xs (n + k)
get_drop zero k xs = (let same : k ≡ 0 + k = omega arith in ap (λ (j : ℕ). slice_get xs j) same)
get_drop (suc n) k [] = refl
get_drop (suc n) k (x ∷ xs) = get_drop n k xs ∙ (let same : suc (n + k) ≡ suc n + k = omega arith in ap (λ (j : ℕ). slice_get (x ∷ xs) j) same)

-- ---- ports by their numbers

pub rising_same : (ps : List PortRow) → Rises ps → (a b : ℕ) (p q : PortRow) → slice_get ps a ≡ Some p → slice_get ps b ≡ Some q → p.id ≡ q.id → a ≡ b
rising_same [] rise a b p q one other same = absurd (let never = one in cc)
rising_same (x ∷ ps) rise zero zero p q one other same = refl
rising_same (x ∷ ps) rise zero (suc b) p q one other same =
    let lt = all_at (λ (y : PortRow). x.id < y.id) ps b q other rise.0 in
    let is : x.id ≡ p.id = ap (λ (y : PortRow). y.id) (same_Some x p one) in
    absurd (omega (arith, lt, is, same))
rising_same (x ∷ ps) rise (suc a) zero p q one other same =
    let lt = all_at (λ (y : PortRow). x.id < y.id) ps a p one rise.0 in
    let is : x.id ≡ q.id = ap (λ (y : PortRow). y.id) (same_Some x q other) in
    absurd (omega (arith, lt, is, same))
rising_same (x ∷ ps) rise (suc a) (suc b) p q one other same = ap (λ (n : ℕ). suc n) (rising_same ps rise.1 a b p q one other same)

all_filter : {X : Type 0} (P : X → Type 0) (test : X → Bool) (xs : List X) → AllByRecursion P xs → AllByRecursion P (filter test xs)
all_filter P test [] all = tt
all_filter P test (x ∷ xs) all = elim (test x) as (λ b. AllByRecursion P (cond b (x ∷ filter test xs) (filter test xs))) [
  | true ↦ (all.0, all_filter P test xs all.1)
  | false ↦ all_filter P test xs all.1
]

filter_rises : (test : PortRow → Bool) (ps : List PortRow) → Rises ps → Rises (filter test ps)
filter_rises test [] rise = tt
filter_rises test (p ∷ ps) rise = elim (test p) as (λ b. Rises (cond b (p ∷ filter test ps) (filter test ps))) [
  | true ↦ (all_filter (λ q. p.id < q.id) test ps rise.0, filter_rises test ps rise.1)
  | false ↦ filter_rises test ps rise.1
]

pub recorded_rise : (t : Content) (r : Recordings) → Rises t.ports → Rises (recorded_ports t r)
recorded_rise t r rise = filter_rises (λ p. is_recorded r.outputs p.id) t.ports rise

-- the port of a number
pub record HasPort (ps : List PortRow) (id : ℕ) : Type 0 where
  pub place : ℕ
  pub row : PortRow
  pub there : slice_get ps place ≡ Some row
  pub number : row.id ≡ id

pub port_there : (ps : List PortRow) (id : ℕ) → has_port ps id ≡ true → HasPort ps id
port_there [] id has = absurd (let never = has in cc)
port_there (p ∷ ps) id has = here (p.id == id) refl has (λ rest. port_there ps id rest) where
  here : (b : Bool) → (p.id == id) ≡ b → (b || has_port ps id) ≡ true → (has_port ps id ≡ true → HasPort ps id) → HasPort (p ∷ ps) id
  here true is has rest = record { place = 0; row = p; there = refl; number = eqb-true p.id id is }
  here false is has rest = (let later = rest has in record { place = suc later.place; row = later.row; there = later.there; number = later.number })

-- ---- what a capture is of

-- whether it is of what left, and at which port
abbrev pub kind_of : Source → Bool × ℕ
kind_of s = (s.leaves, s.port)

kinds_in : (place : ℕ) (ps : List PortRow) → map kind_of (inputs_from place ps) ≡ map (λ p. (false, p.id)) ps
kinds_in place [] = refl
kinds_in place (p ∷ ps) = ap (λ (ks : List (Bool × ℕ)). (false, p.id) ∷ ks) (kinds_in (place + 1) ps)

kinds_out : (recorded : Outputs) (place : ℕ) (ps : List PortRow)
    → map kind_of (outputs_from recorded place ps) ≡ map (λ p. (true, p.id)) (filter (λ p. is_recorded recorded p.id) ps)
kinds_out recorded place [] = refl
kinds_out recorded place (p ∷ ps) =
    elim (is_recorded recorded p.id)
    as (λ b. map kind_of ((if b then source_of place true p ∷ [] else []) ++ outputs_from recorded (place + 1) ps)
    ≡ map (λ q. (true, q.id)) (cond b (p ∷ filter (λ q. is_recorded recorded q.id) ps) (filter (λ q. is_recorded recorded q.id) ps))) [
      | true ↦ ap (λ (ks : List (Bool × ℕ)). (true, p.id) ∷ ks) (kinds_out recorded (place + 1) ps)
      | false ↦ kinds_out recorded (place + 1) ps
    ]

clocks_out : (r : Recordings) (ps : List PortRow) → output_clocks r ps ≡ map (λ p. output_clock r p) (filter (λ p. is_recorded r.outputs p.id) ps)
clocks_out r [] = refl
clocks_out r (p ∷ ps) =
    elim (is_recorded r.outputs p.id)
    as (λ b. (if b then output_clock r p ∷ [] else []) ++ output_clocks r ps
    ≡ map (λ q. output_clock r q) (cond b (p ∷ filter (λ q. is_recorded r.outputs q.id) ps) (filter (λ q. is_recorded r.outputs q.id) ps))) [
      | true ↦ ap (λ (cs : List Clock). output_clock r p ∷ cs) (clocks_out r ps)
      | false ↦ clocks_out r ps
    ]

abbrev in_kinds : Content → List (Bool × ℕ)
in_kinds t = map (λ p. (false, p.id)) t.ports

abbrev out_kinds : Content → Recordings → List (Bool × ℕ)
out_kinds t r = map (λ p. (true, p.id)) (recorded_ports t r)

all_kinds : (t : Content) (r : Recordings) → map kind_of (sources_of t r).captures ≡ in_kinds t ++ out_kinds t r
all_kinds t r =
    map-append kind_of (inputs_from 0 t.ports) (outputs_from r.outputs 0 t.ports)
    ∙ ap (λ (ks : List (Bool × ℕ)). ks ++ map kind_of (outputs_from r.outputs 0 t.ports)) (kinds_in 0 t.ports)
    ∙ ap (λ (ks : List (Bool × ℕ)). in_kinds t ++ ks) (kinds_out r.outputs 0 t.ports)

abbrev in_clocks : Content → List Clock
in_clocks t = map (λ p. input_clock) t.ports

abbrev out_clocks : Content → Recordings → List Clock
out_clocks t r = map (λ p. output_clock r p) (recorded_ports t r)

all_clocks : (t : Content) (r : Recordings) → (sources_of t r).clocks ≡ in_clocks t ++ out_clocks t r
all_clocks t r = ap (λ (cs : List Clock). in_clocks t ++ cs) (clocks_out r t.ports)

mapped_there : {X Y : Type 0} (f : X → Y) (xs : List X) (k : ℕ) (x : X) → slice_get xs k ≡ Some x → slice_get (map f xs) k ≡ Some (f x)
mapped_there {X} f xs k x at = slice_get-map f xs k ∙ ap (λ (o : Option X). option_map f o) at

-- the capture at a place is the only one of this kind
pub record IsAlone (captures : List Source) (i : ℕ) (leaves : Bool) (port : ℕ) : Type 0 where
  pub source : Source
  pub there : slice_get captures i ≡ Some source
  pub leaves_is : source.leaves ≡ leaves
  pub port_is : source.port ≡ port
  pub alone : (k : ℕ) (s : Source) → slice_get captures k ≡ Some s → s.leaves ≡ leaves → s.port ≡ port → k ≡ i

alone_by : (captures : List Source) (i : ℕ) (leaves : Bool) (port : ℕ) → slice_get (map kind_of captures) i ≡ Some (leaves, port)
    → ((k : ℕ) (x : Bool × ℕ) → slice_get (map kind_of captures) k ≡ Some x → x.0 ≡ leaves → x.1 ≡ port → k ≡ i) → IsAlone captures i leaves port
alone_by captures i leaves port at only =
    let one = mapped_at kind_of captures i (leaves, port) at in
    record {
      source = one.0;
      there = one.1;
      leaves_is = ap (λ (x : Bool × ℕ). x.0) one.2;
      port_is = ap (λ (x : Bool × ℕ). x.1) one.2;
      alone = λ k s get side number. only k (kind_of s) (mapped_there kind_of captures k s get) side number;
    }

-- of what came at a port
pub input_alone : (t : Content) (r : Recordings) → Rises t.ports → (i : ℕ) (p : PortRow) → slice_get t.ports i ≡ Some p → IsAlone (sources_of t r).captures i false p.id
input_alone t r rise i p at =
    alone_by (sources_of t r).captures i false p.id
    (ap (λ (ks : List (Bool × ℕ)). slice_get ks i) (all_kinds t r) ∙ get_left (in_kinds t) (out_kinds t r) i (false, p.id) (mapped_there (λ (q : PortRow). (false, q.id)) t.ports i p at))
    (λ k x get side number. elim (get_either (in_kinds t) (out_kinds t r) k x (ap (λ (ks : List (Bool × ℕ)). slice_get ks k) (sym (all_kinds t r)) ∙ get)) [
      | inl there ↦
          let q = mapped_at (λ (y : PortRow). (false, y.id)) t.ports k x there in
          rising_same t.ports rise k i q.0 p q.1 at (ap (λ (y : Bool × ℕ). y.1) q.2 ∙ number)
      | inr there ↦
          let q = mapped_at (λ (y : PortRow). (true, y.id)) (recorded_ports t r) there.0 x there.2 in
          let never : true ≡ false = ap (λ (y : Bool × ℕ). y.0) q.2 ∙ side in
          absurd cc
    ])

-- of what left at a port that was recorded
pub output_alone : (t : Content) (r : Recordings) → Rises t.ports → (j : ℕ) (p : PortRow) → slice_get (recorded_ports t r) j ≡ Some p
    → IsAlone (sources_of t r).captures (length t.ports + j) true p.id
output_alone t r rise j p at =
    let many : length (in_kinds t) ≡ length t.ports = length-map t.ports (λ (q : PortRow). (false, q.id)) in
    alone_by (sources_of t r).captures (length t.ports + j) true p.id
    (ap (λ (ks : List (Bool × ℕ)). slice_get ks (length t.ports + j)) (all_kinds t r) ∙ get_right (in_kinds t) (out_kinds t r) j (length t.ports + j) (omega (arith, many))
    ∙ mapped_there (λ (q : PortRow). (true, q.id)) (recorded_ports t r) j p at)
    (λ k x get side number. elim (get_either (in_kinds t) (out_kinds t r) k x (ap (λ (ks : List (Bool × ℕ)). slice_get ks k) (sym (all_kinds t r)) ∙ get)) [
      | inl there ↦
          let q = mapped_at (λ (y : PortRow). (false, y.id)) t.ports k x there in
          let never : false ≡ true = ap (λ (y : Bool × ℕ). y.0) q.2 ∙ side in
          absurd cc
      | inr there ↦
          let q = mapped_at (λ (y : PortRow). (true, y.id)) (recorded_ports t r) there.0 x there.2 in
          let same = rising_same (recorded_ports t r) (recorded_rise t r rise) there.0 j q.0 p q.1 at (ap (λ (y : Bool × ℕ). y.1) q.2 ∙ number) in
          let is = there.1 in
          omega (arith, same, is, many)
    ])

-- ---- their clocks

pub input_by : (t : Content) (r : Recordings) (i : ℕ) (p : PortRow) → slice_get t.ports i ≡ Some p → slice_get (sources_of t r).clocks i ≡ Some input_clock
input_by t r i p at = get_left (in_clocks t) (output_clocks r t.ports) i input_clock (mapped_there (λ (q : PortRow). input_clock) t.ports i p at)

pub output_by : (t : Content) (r : Recordings) (j : ℕ) (p : PortRow) → slice_get (recorded_ports t r) j ≡ Some p
    → slice_get (sources_of t r).clocks (length t.ports + j) ≡ Some (output_clock r p)
output_by t r j p at =
    let many : length (in_clocks t) ≡ length t.ports = length-map t.ports (λ (q : PortRow). input_clock) in
    ap (λ (cs : List Clock). slice_get cs (length t.ports + j)) (all_clocks t r) ∙ get_right (in_clocks t) (out_clocks t r) j (length t.ports + j) (omega (arith, many))
    ∙ mapped_there (λ (q : PortRow). output_clock r q) (recorded_ports t r) j p at

-- ---- their records

none_later : (port : ℕ) (ps : List PortRow) (captures : List (List Record)) → AllByRecursion (λ q. port < q.id) ps → records_of (came_in ps captures) port ≡ []
none_later port [] captures all = refl
none_later port (p ∷ ps) [] all = refl
none_later port (p ∷ ps) (rs ∷ captures) all =
    let lt = all.0 in
    ap (λ (b : Bool). (if b then rs else []) ++ records_of (came_in ps captures) port) (ne_eqb p.id port (λ same. absurd (omega (arith, lt, same)))) ∙ none_later port ps captures all.1

pub came_at : (ps : List PortRow) → Rises ps → (captures : List (List Record)) (i : ℕ) (p : PortRow) (rs : List Record) → slice_get ps i ≡ Some p → slice_get captures i ≡ Some rs
    → records_of (came_in ps captures) p.id ≡ rs
came_at [] rise captures i p rs at get = absurd (let never = at in cc)
came_at (q ∷ ps) rise [] i p rs at get = absurd (let never = get in cc)
came_at (q ∷ ps) rise (xs ∷ captures) zero p rs at get =
    let same : q.id ≡ p.id = ap (λ (y : PortRow). y.id) (same_Some q p at) in
    ap (λ (b : Bool). (if b then xs else []) ++ records_of (came_in ps captures) p.id) (eq-eqb q.id p.id same)
    ∙ ap (λ (ys : List Record). xs ++ ys) (none_later p.id ps captures (subst (λ (n : ℕ). AllByRecursion (λ y. n < y.id) ps) same rise.0))
    ∙ append-nil xs ∙ same_Some xs rs get
came_at (q ∷ ps) rise (xs ∷ captures) (suc i) p rs at get =
    let lt = all_at (λ (y : PortRow). q.id < y.id) ps i p at rise.0 in
    ap (λ (b : Bool). (if b then xs else []) ++ records_of (came_in ps captures) p.id) (ne_eqb q.id p.id (λ same. absurd (omega (arith, lt, same))))
    ∙ came_at ps rise.1 captures i p rs at get

left_by : (r : Recordings) (qs : List PortRow) → Rises qs → (captures : List (List Record)) (j : ℕ) (p : PortRow) (rs : List Record) → slice_get qs j ≡ Some p → slice_get captures j ≡ Some rs
    → left_among r qs captures p ≡ by_clock r p rs
left_by r [] rise captures j p rs at get = absurd (let never = at in cc)
left_by r (q ∷ qs) rise [] j p rs at get = absurd (let never = get in cc)
left_by r (q ∷ qs) rise (xs ∷ captures) zero p rs at get =
    let same = same_Some q p at in
    ap (λ (b : Bool). if b then by_clock r q xs else left_among r qs captures p) (eq-eqb q.id p.id (ap (λ (y : PortRow). y.id) same))
    ∙ ap (λ (y : PortRow). by_clock r y xs) same ∙ ap (λ (ys : List Record). by_clock r p ys) (same_Some xs rs get)
left_by r (q ∷ qs) rise (xs ∷ captures) (suc j) p rs at get =
    let lt = all_at (λ (y : PortRow). q.id < y.id) qs j p at rise.0 in
    ap (λ (b : Bool). if b then by_clock r q xs else left_among r qs captures p) (ne_eqb q.id p.id (λ same. absurd (omega (arith, lt, same))))
    ∙ left_by r qs rise.1 captures j p rs at get

pub left_at_port : (t : Content) (r : Recordings) → Rises t.ports → (captures : List (List Record)) (j : ℕ) (p : PortRow) (rs : List Record) → slice_get (recorded_ports t r) j ≡ Some p
    → slice_get captures (length t.ports + j) ≡ Some rs → left_among r (recorded_ports t r) (drop (length t.ports) captures) p ≡ by_clock r p rs
left_at_port t r rise captures j p rs at get =
    left_by r (recorded_ports t r) (recorded_rise t r rise) (drop (length t.ports) captures) j p rs at (get_drop (length t.ports) j captures ∙ get)
