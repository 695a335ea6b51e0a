-- Why there is no run over what readers give.
use Rattle.std.proofs.Common.{◌≡◌, ◌<◌, ◌≤◌, ◌+◌, ◌-◌, ◌*◌, ℕ, zero, suc, List, [], ◌∷◌, ◌++◌, length, map, filter, take, slice_get, Option, Some, refl, ap, sym, ◌∙◌, arith, inl, inr, subst}
use Rattle.std.specs.Prelude.{All, Contains, flat_map}
use Rattle.std.specs.Option.{option_map}
use Rattle.std.specs.List.{AllByRecursion}
use Rattle.std.proofs.lemmas.Bool.{cases_lt}
use Rattle.std.proofs.lemmas.List.{length-map}
use Rattle.std.proofs.lemmas.List.Elements.{All-nil, All-cons, All-from_recursion, recursion_from_All}
use Rattle.std.proofs.lemmas.Option.{same_Some, slice_get-map, slice_get_within}
use Rattle.afdx_units.specs.Time.{second, last_second}
use Rattle.afdx_pcap.specs.declared.fault.PcapFault.{PcapFault}
use Rattle.afdx_pcap.specs.Record.{Record}
use Rattle.afdx_pcap.specs.Capture.{IsCapture}
use Rattle.afdx_pcap.specs.Fault.{IsFault}
use Rattle.afdx_table.specs.declared.rows.PortRow.{PortRow}
use Rattle.afdx_table.specs.Content.{Content}
use Rattle.afdx_load.specs.Accepted.{IsAccepted}
use Rattle.afdx_merging.specs.Merge.{Arrival, arrival_at, numbered_from, same_clock}
use Rattle.afdx_merging.specs.Read.{AreMerged}
use Rattle.afdx_merging.proofs.Timed.{there_at, of_each_place}
use Rattle.afdx_session.specs.Texts.{Text}
use Rattle.afdx_session.specs.Reading.{IsSound, IsFirstFault}
use Rattle.afdx_wiring.specs.declared.layout.End.{End}
use Rattle.afdx_wiring.specs.declared.layout.Wire.{Wire}
use Rattle.afdx_network_check.specs.Net.{Network}
use Rattle.afdx_network.specs.declared.intake.Intake.{Intake}
use Rattle.afdx_network.specs.declared.fault.NetworkRunFault.{NetworkRunFault}
use Rattle.afdx_network.specs.declared.fault.NetworkRunFault.TheVariants as fault
use Rattle.afdx_network.specs.Runs.{Given}
use Rattle.afdx_network.specs.Given.{is_open, ends_from, open_ends, AreOpen, AreGiven, AreGivenBy, AreSound, HasOrder, NoneComesLate, NoneIsLateAnywhere, IsUncheckedRefusal}
use Rattle.afdx_network.specs.Given.{IsFaultOver}
use Rattle.afdx_network.specs.Inner.Intake.{records_at, AreOverLines, BreaksALine, HasTakenAll, IsIntakeFault, NoneCameLate}
use Rattle.afdx_network.specs.Inner.Sites.{end_at}
use Rattle.afdx_network.specs.Inner.Windows.{IsRunFault, StopsOnWay}
use Rattle.afdx_network.proofs.Answering.{all_places}
use Rattle.afdx_network.proofs.Found.{all_by, contains_head, contains_tail}
use Rattle.afdx_network.proofs.Breaking.{first_breach}
use Rattle.afdx_network.proofs.Feeding.{Unique}
use Rattle.afdx_network.proofs.Going.{soon_before}
use Rattle.afdx_network.proofs.Handed.{took, front_is, rest_is}
use Rattle.afdx_network.proofs.Refusing.{first_fault, refused_run}
use Rattle.afdx_network.proofs.Whole.{IsSplit, IsOfItsPlace, AreOfTheirPlaces, zip_places, split, split_given, split_read, all_split, all_given_by, of_places, lines_kept}

-- ---- the ports of what is given, and its texts

abbrev ends_of : ℕ → Given → List End
ends_of n [] = []
ends_of n (own ∷ given) = map (λ (text : Text). end_at n text.0) own ++ ends_of (n + 1) given

abbrev flat : Given → List (List ℕ)
flat given = flat_map (map (λ (text : Text). text.1)) given

by_number : (n : ℕ) (own : List Text) → map (λ port. end_at n port) (map (λ (text : Text). text.0) own) ≡ map (λ (text : Text). end_at n text.0) own
by_number n [] = refl
by_number n (text ∷ own) = ap (λ (es : List End). end_at n text.0 ∷ es) (by_number n own)

same_ends : (Z : (k : ℕ) → List Text → Type 0) (net : Network) (n : ℕ) (tables : List Content) (given : Given) → length given ≡ length tables
    → ((k : ℕ) (t : Content) → slice_get tables k ≡ Some t → (own : List Text) × (slice_get given k ≡ Some own) × AreOpen net (n + k) t own × Z k own) → ends_from net n tables ≡ ends_of n given
same_ends Z net n [] [] same each = refl
same_ends Z net n [] (own ∷ given) same each = absurd (omega (arith, same))
same_ends Z net n (t ∷ tables) [] same each = absurd (omega (arith, same))
same_ends Z net n (t ∷ tables) (own ∷ given) same each =
    ap (λ (es : List End). es ++ ends_from net (n + 1) tables) (ap (λ (ports : List ℕ). map (λ port. end_at n port) ports) (sym first) ∙ by_number n own)
    ∙ ap (λ (es : List End). map (λ (text : Text). end_at n text.0) own ++ es) (same_ends (λ k. Z (suc k)) net (n + 1) tables given (omega (arith, same)) rest) where
      first : map (λ (text : Text). text.0) own ≡ filter (is_open net n) (map (λ (p : PortRow). p.id) t.ports)
      first =
          let here = each 0 t refl in
          let number : n + 0 ≡ n = omega arith in
          subst (λ (m : ℕ). AreOpen net m t own) number (subst (λ (texts : List Text). AreOpen net (n + 0) t texts) (sym (same_Some own here.0 here.1)) here.2)

      rest : (k : ℕ) (u : Content) → slice_get tables k ≡ Some u → (texts : List Text) × (slice_get given k ≡ Some texts) × AreOpen net ((n + 1) + k) u texts × Z (suc k) texts
      rest k u at =
          let there = each (suc k) u at in
          let number : n + suc k ≡ (n + 1) + k = omega arith in
          (there.0, there.1, subst (λ m. AreOpen net m u there.0) number there.2, there.3)

-- ---- the first text that is no capture

record IsCut (n : ℕ) (given : Given) (switch port : ℕ) (why : PcapFault) : Type 0 where
  pub place : ℕ
  pub texts : List Text
  pub switch_is : switch ≡ n + place
  pub texts_is : slice_get given place ≡ Some texts
  pub before : All (All IsSound) (take place given)
  pub first : IsFirstFault texts port why

abbrev AreWhole : (texts : List (List ℕ)) (place : ℕ) → Type 0
AreWhole texts place = (k : ℕ) (text : List ℕ) → k < place → slice_get texts k ≡ Some text → (rs : List Record) × IsCapture text rs

abbrev IsBroken : (texts : List (List ℕ)) (place : ℕ) (why : PcapFault) → Type 0
IsBroken texts place why = (text : List ℕ) → slice_get texts place ≡ Some text → IsFault text why

text_in_front : (own : List Text) (rest : List (List ℕ)) (k : ℕ) (x : Text) → slice_get own k ≡ Some x → slice_get (map (λ (text : Text). text.1) own ++ rest) k ≡ Some x.1
text_in_front own rest k x at =
    front_is (map (λ (text : Text). text.1) own) rest k (let lt = slice_get_within own k x at in omega (arith, lt, length-map own (λ (text : Text). text.1)))
    ∙ slice_get-map (λ (text : Text). text.1) own k ∙ ap (option_map (λ (text : Text). text.1)) at

cut : (n : ℕ) (given : Given) (place switch port : ℕ) (why : PcapFault) → slice_get (ends_of n given) place ≡ Some (end_at switch port) → IsBroken (flat given) place why → AreWhole (flat given) place
    → IsCut n given switch port why
cut n [] place switch port why at bad good = absurd cc
cut n (own ∷ given) place switch port why at bad good = elim (cases_lt place (length own)) [
  | inl within ↦
      let x = there_at own place within in
      let same : end_at n x.0.0 ≡ end_at switch port
      = same_Some (end_at n x.0.0) (end_at switch port)
      (sym (front_is (map (λ (text : Text). end_at n text.0) own) (ends_of (n + 1) given) place (omega (arith, within, length-map own (λ (text : Text). end_at n text.0)))
      ∙ slice_get-map (λ (text : Text). end_at n text.0) own place ∙ ap (option_map (λ (text : Text). end_at n text.0)) x.1) ∙ at) in
      let number = ap (λ (e : End). e.switch) same in
      record {
        place = 0;
        texts = own;
        switch_is = omega (arith, number);
        texts_is = refl;
        before = All-nil (All IsSound);
        first = subst (λ p. IsFirstFault own p why) (ap (λ (e : End). e.port) same)
            (first_fault own place x.0 why x.1
            (all_places IsSound (take place own) (λ j y there. let is = took place j own y there in good j y.1 is.0 (text_in_front own (flat given) j y is.1)))
            (bad x.0.1 (text_in_front own (flat given) place x.0 x.1)));
      }
  | inr past ↦
      let rest = cut (n + 1) given (place - length own) switch port why
      (sym (rest_is (map (λ (text : Text). end_at n text.0) own) (ends_of (n + 1) given) place (length own) (sym (length-map own (λ (text : Text). end_at n text.0))) past) ∙ at)
      (λ text there. bad text (further (flat given) place past ∙ there))
      (λ k text lt there. good (length own + k) text (omega (arith, lt, past)) (further (flat given) (length own + k) (omega arith) ∙ ap (slice_get (flat given)) (back k) ∙ there)) in
      let number = rest.switch_is in
      record {
        place = suc rest.place;
        texts = rest.texts;
        switch_is = omega (arith, number);
        texts_is = rest.texts_is;
        before = All-cons (All IsSound) own (take rest.place given)
            (all_places IsSound own (λ j y there. good j y.1 (let lt = slice_get_within own j y there in omega (arith, lt, past)) (text_in_front own (flat given) j y there))) rest.before;
        first = rest.first;
      }
] where
  further : (texts : List (List ℕ)) (k : ℕ) → length own ≤ k → slice_get (map (λ (text : Text). text.1) own ++ texts) k ≡ slice_get texts (k - length own)
  further texts k past = rest_is (map (λ (text : Text). text.1) own) texts k (length own) (sym (length-map own (λ (text : Text). text.1))) past

  back : (k : ℕ) → (length own + k) - length own ≡ k
  back k = omega arith

-- ---- all was read

record IsAmongGiven (given : Given) (text : List ℕ) : Type 0 where
  pub own : List Text
  pub port : ℕ
  pub own_is : Contains given own
  pub has : Contains own (port, text)

in_flat : (given : Given) (k : ℕ) (text : List ℕ) → slice_get (flat given) k ≡ Some text → IsAmongGiven given text
in_flat [] k text at = absurd cc
in_flat (own ∷ given) k text at = by own k at (λ j there. in_flat given j text there) (λ x among. among) where
  by : (front : List Text) (k : ℕ) → slice_get (map (λ (x : Text). x.1) front ++ flat given) k ≡ Some text → ((j : ℕ) → slice_get (flat given) j ≡ Some text → IsAmongGiven given text)
      → ((x : Text) → Contains front x → Contains own x) → IsAmongGiven (own ∷ given) text
  by [] k at rest wider = let there = rest k at in record { own = there.own; port = there.port; own_is = contains_tail given there.own own there.own_is; has = there.has }
  by (x ∷ front) zero at rest wider = record {
    own = own;
    port = x.0;
    own_is = contains_head given own own refl;
    has = wider (x.0, text) (contains_head front (x.0, text) x (ap (λ (bytes : List ℕ). (x.0, bytes)) (same_Some x.1 text at)));
  }
  by (x ∷ front) (suc k) at rest wider = by front k at rest (λ y among. wider y (contains_tail front y x among))

abbrev IsSoon : Record → Type 0
IsSoon r = r.stamp + 64 * second ≤ last_second

arrive_soon : (k n : ℕ) (rs : List Record) → AllByRecursion IsSoon rs → AllByRecursion (λ (a : Arrival). IsSoon a.head.frame) (map (arrival_at k same_clock) (numbered_from n same_clock rs))
arrive_soon k n [] soon = tt
arrive_soon k n (r ∷ rs) soon = let first = soon.0 in (omega (arith, first), arrive_soon k (n + 1) rs soon.1)

-- all readers gave captures
module _ {R : Type 0} (remaining : R → Option (List ℕ)) (net : Network) (first : List R) (came : List Arrival)
    (merged : AreMerged remaining (map (λ (e : End). same_clock) (open_ends net)) first came) where
  count : length (map (λ (e : End). same_clock) (open_ends net)) ≡ length (open_ends net)
  count = length-map (open_ends net) (λ (e : End). same_clock)

  many : length merged.texts ≡ length (open_ends net)
  many = let captures = merged.merge.many in let same = merged.are.many in sym same ∙ captures ∙ count

  s : IsSplit (IsOfItsPlace net came) net 0 net.tables merged.texts
  s = all_split remaining net first came merged

  are : AreGiven net s.given
  are = split_given (IsOfItsPlace net came) net merged.texts s

  given_by : AreGivenBy remaining net first s.given
  unfolding s
  given_by = all_given_by remaining net first came merged

  of : AreOfTheirPlaces net came s.given
  unfolding s
  of = of_places remaining net first came merged

  sound : AreSound s.given
  sound = all_places (All IsSound) s.given (λ n own at.
      All-from_recursion IsSound own (all_by IsSound own (λ text among. let there = of n own text at among in (records_at there.0 came, there.2))))

  came_soon : NoneComesLate s.given → NoneCameLate came
  came_soon none = of_each_place (λ (a : Arrival). IsSoon a.head.frame) (length (map (λ (e : End). same_clock) (open_ends net))) came merged.merge.within (λ k lt.
      let e = there_at (open_ends net) k (omega (arith, lt, count)) in
      let text = there_at merged.texts k (omega (arith, lt, count, many)) in
      let rs = there_at merged.captures k (let same = merged.are.many in omega (arith, lt, count, many, same)) in
      let among = in_flat s.given k text.0 (ap (λ (texts : List (List ℕ)). slice_get texts k) s.flat ∙ text.1) in
      let soon = none among.own (among.port, text.0) rs.0 among.own_is among.has (merged.are.each k text.0 rs.0 text.1 rs.1) in
      subst (AllByRecursion (λ (a : Arrival). IsSoon a.head.frame))
      (sym (merged.merge.each k same_clock rs.0 (slice_get-map (λ (x : End). same_clock) (open_ends net) k ∙ ap (option_map (λ (x : End). same_clock)) e.1) rs.1))
      (arrive_soon k 1 rs.0 (recursion_from_All IsSoon rs.0 soon)))

  -- and one did not come over its line
  pub line_refuses : Unique → (switch port number : ℕ) → BreaksALine net came switch port number → IsFaultOver remaining net first (IsUncheckedRefusal net) (fault.Line switch port number)
  line_refuses unique switch port number b = (s.given, given_by, (are, sound, first_breach unique net s.given came are of switch port number b))

  -- or something stopped the run, though all did
  refused : Unique → AreOverLines net came → (why : NetworkRunFault) → IsRunFault net why
      → ((order : HasOrder net) → All (λ (w : Wire). w.delay ≤ 1000000) net.layout.wires → All IsAccepted net.tables → NoneCameLate came → why ≡ fault.Memory) → IsUncheckedRefusal net s.given why
  refused unique over why wired never =
      refused_run (NoneIsLateAnywhere net s.given × All IsAccepted net.tables) net s.given why are sound (lines_kept unique net s.given came of over) wired
      (λ none. never none.0.order none.0.delays none.1 (came_soon none.0.early))

  pub run_refuses : Unique → AreOverLines net came → (why : NetworkRunFault) → IsRunFault net why
      → ((order : HasOrder net) → All (λ (w : Wire). w.delay ≤ 1000000) net.layout.wires → All IsAccepted net.tables → NoneCameLate came → why ≡ fault.Memory)
      → IsFaultOver remaining net first (IsUncheckedRefusal net) why
  run_refuses unique over fault.Memory wired never = tt
  run_refuses unique over (fault.Read place) wired never = absurd wired
  run_refuses unique over (fault.Capture switch port why) wired never = (s.given, given_by, refused unique over (fault.Capture switch port why) wired never)
  run_refuses unique over fault.WrongWires wired never = (s.given, given_by, refused unique over fault.WrongWires wired never)
  run_refuses unique over (fault.Line switch port number) wired never = absurd wired

-- ---- what is given was not read on

abbrev Anything : End → List ℕ → Type 0
Anything e text = Unit {0}

pub intake_refuses : {R : Type 0} → Unique → (remaining : R → Option (List ℕ)) (net : Network) (readers : List R) (why : NetworkRunFault) → length readers ≡ length (open_ends net)
    → IsIntakeFault remaining net readers why
    → IsFaultOver remaining net readers (IsUncheckedRefusal net) why
intake_refuses unique remaining net readers fault.Memory same is = tt
intake_refuses unique remaining net readers (fault.Read place) same is = is
intake_refuses unique remaining net readers fault.WrongWires same is = absurd is
intake_refuses unique remaining net readers (fault.Line switch port number) same is = line_refuses remaining net readers is.0 is.1 unique switch port number is.2
intake_refuses unique remaining net readers (fault.Capture switch port why) same is = (
  s.given,
  split_read Anything remaining net readers is.2.texts s is.2.read,
  (
    split_given Anything net is.2.texts s,
    inl (record {
      texts = found.texts;
      texts_is = ap (slice_get s.given) number ∙ found.texts_is;
      before = subst (λ n. All (All IsSound) (take n s.given)) (sym number) found.before;
      first = found.first;
    }),
  ),
) where
  s : IsSplit Anything net 0 net.tables is.2.texts
  s = split Anything net 0 net.tables is.2.texts (zip_places Anything (open_ends net) is.2.texts (is.2.read.many ∙ same) (λ k e text at there. tt))

  found : IsCut 0 s.given switch port why
  found = cut 0 s.given is.0 switch port why
      (ap (λ (es : List End). slice_get es is.0) (sym (same_ends (λ k own. (text : Text) → Contains own text → Anything (end_at (0 + k) text.0) text.1) net 0 net.tables s.given s.long s.each)) ∙ is.1)
      (λ text there. is.2.here text (ap (λ (texts : List (List ℕ)). slice_get texts is.0) (sym s.flat) ∙ there))
      (λ k text lt there. is.2.before k text lt (ap (λ (texts : List (List ℕ)). slice_get texts k) (sym s.flat) ∙ there))

  number : switch ≡ found.place
  number = let is = found.switch_is in omega (arith, is)

-- ---- the run stopped, and all was read

pub stop_refuses : {R : Type 0} → Unique → (remaining : R → Option (List ℕ)) (net : Network) (first now : List R) (i : Intake) (why : NetworkRunFault) → (s : StopsOnWay remaining net first now i why)
    → HasTakenAll remaining net first i s.came → IsFaultOver remaining net first (IsUncheckedRefusal net) why
stop_refuses unique remaining net first now i why s all =
    run_refuses remaining net first (s.came ++ all.more) all.merged unique all.lines why s.wired (λ order delays accepted soon. s.never order delays accepted (soon_before s.came all.more soon))
