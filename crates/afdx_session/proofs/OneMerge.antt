-- Of the captures of a table's ports there is one merge by stamp, then by port number.
use Rattle.std.proofs.Common.{◌≡◌, ℕ, ◌<◌, ◌≤◌, ◌==◌, Bool, true, false, cond, List, [], ◌∷◌, ◌++◌, map, filter, refl, ap, sym, ◌∙◌, arith, inl, inr, subst, get_or, drop}
use Rattle.std.specs.List.{AllByRecursion}
use Rattle.std.proofs.lemmas.Bool.{eq-eqb, eqb-true}
use Rattle.afdx_pcap.specs.Record.{Record}
use Rattle.afdx_table.specs.declared.rows.PortRow.{PortRow}
use Rattle.afdx_table.specs.WellFormed.{Rises}
use Rattle.afdx_core.specs.Merge.{Arrival, Capture, merged, arrivals_of}
use Rattle.afdx_core.specs.Inner.Merge.{part_at, IsMerge, Precedes, AreByStampAndPort, PortsRise, MergedIsAMerge, MergedIsByStampAndPort}
use Rattle.afdx_session.specs.Texts.{Text}
use Rattle.afdx_session.specs.Reading.{AreCaptures}
use Rattle.afdx_session.specs.Inner.OneMerge.{MergedIsTheOnlyOne}
use Rattle.afdx_session.proofs.Numbered.{all_append}
use Rattle.afdx_session.proofs.PortParts.{merge_is_read}

-- ---- one merge alone

-- the part of a port of an arrival and others
part-in : (port : ℕ) (a : Arrival) (xs : List Arrival) → (a.port == port) ≡ true → part_at port (a ∷ xs) ≡ a.frame ∷ part_at port xs
part-in port a xs is = ap (λ b. map (λ (x : Arrival). x.frame) (cond b (a ∷ filter (λ (x : Arrival). x.port == port) xs) (filter (λ (x : Arrival). x.port == port) xs))) is

part-out : (port : ℕ) (a : Arrival) (xs : List Arrival) → (a.port == port) ≡ false → part_at port (a ∷ xs) ≡ part_at port xs
part-out port a xs is = ap (λ b. map (λ (x : Arrival). x.frame) (cond b (a ∷ filter (λ (x : Arrival). x.port == port) xs) (filter (λ (x : Arrival). x.port == port) xs))) is

-- a list whose part from a port begins with a record has an arrival of that port and record, and what holds of all holds of it
first_of_part : (P : Arrival → Type 0) (port : ℕ) (xs : List Arrival) (r : Record) (rs : List Record) → part_at port xs ≡ r ∷ rs → AllByRecursion P xs → P (record { port = port; frame = r })
first_of_part P port [] r rs is all = absurd (none is) where
  none : [] ≡ r ∷ rs → ⊥
  none e = cc
first_of_part P port (x ∷ xs) r rs is all = by_head (x.port == port) refl (λ later. first_of_part P port xs r rs later all.1) where
  by_head : (b : Bool) → (x.port == port) ≡ b → (part_at port xs ≡ r ∷ rs → P (record { port = port; frame = r })) → P (record { port = port; frame = r })
  by_head true own others =
      let same : x.frame ≡ r = ap (λ (rs : List Record). get_or rs 0 r) (sym (part-in port x xs own) ∙ is) in
      subst P (ap (λ n. record { port = n; frame = x.frame }) (eqb-true x.port port own) ∙ ap (λ f. record { port = port; frame = f }) same) all.0
  by_head false other others = others (sym (part-out port x xs other) ∙ is)

precedes_both : (a b : Arrival) → Precedes a b → Precedes b a → (a.port ≡ b.port) × (a.frame.stamp ≡ b.frame.stamp)
precedes_both a b (inl lt) (inl gt) = absurd (omega (arith, lt, gt))
precedes_both a b (inl lt) (inr (same, le)) = absurd (omega (arith, lt, same))
precedes_both a b (inr (same, le)) (inl gt) = absurd (omega (arith, gt, same))
precedes_both a b (inr (same, le)) (inr (again, ge)) = (omega (arith, le, ge), same)

precedes_self : (a : Arrival) → Precedes a a
precedes_self a = inr (refl, omega arith)

-- two lists by stamp and port number with the same part from each port are the same
pub merge_is_unique : (xs ys : List Arrival) → AreByStampAndPort xs → AreByStampAndPort ys → ((port : ℕ) → part_at port xs ≡ part_at port ys) → xs ≡ ys
merge_is_unique [] [] sorted ordered same = refl
merge_is_unique [] (y ∷ ys) sorted ordered same = absurd (none (same y.port ∙ part-in y.port y ys (eq-eqb y.port y.port refl))) where
  none : [] ≡ y.frame ∷ part_at y.port ys → ⊥
  none e = cc
merge_is_unique (x ∷ xs) [] sorted ordered same = absurd (none (sym (part-in x.port x xs (eq-eqb x.port x.port refl)) ∙ same x.port)) where
  none : x.frame ∷ part_at x.port xs ≡ [] → ⊥
  none e = cc
merge_is_unique (x ∷ xs) (y ∷ ys) sorted ordered same =
    ap (λ a. a ∷ xs) head ∙ ap (λ more. y ∷ more) (merge_is_unique xs ys sorted.1 ordered.1 rest) where
      of_x : part_at x.port (x ∷ xs) ≡ x.frame ∷ part_at x.port xs
      of_x = part-in x.port x xs (eq-eqb x.port x.port refl)

      of_y : part_at y.port (y ∷ ys) ≡ y.frame ∷ part_at y.port ys
      of_y = part-in y.port y ys (eq-eqb y.port y.port refl)

      later : Precedes y x
      later = first_of_part (λ b. Precedes y b) x.port (y ∷ ys) x.frame (part_at x.port xs) (sym (same x.port) ∙ of_x) (precedes_self y, ordered.0)

      sooner : Precedes x y
      sooner = first_of_part (λ b. Precedes x b) y.port (x ∷ xs) y.frame (part_at y.port ys) (same y.port ∙ of_y) (precedes_self x, sorted.0)

      head : x ≡ y
      head =
          let port = (precedes_both x y sooner later).0 in
          let frame : x.frame ≡ y.frame = ap (λ (rs : List Record). get_or rs 0 x.frame) (sym of_x ∙ same x.port ∙ ap (λ n. part_at n (y ∷ ys)) port ∙ of_y) in
          ap (λ n. record { port = n; frame = x.frame }) port ∙ ap (λ f. record { port = y.port; frame = f }) frame

      rest : (port : ℕ) → part_at port xs ≡ part_at port ys
      rest port = by_head (y.port == port) refl where
        both : part_at port (y ∷ xs) ≡ part_at port (y ∷ ys)
        both = ap (λ a. part_at port (a ∷ xs)) (sym head) ∙ same port

        by_head : (b : Bool) → (y.port == port) ≡ b → part_at port xs ≡ part_at port ys
        by_head true own = ap (drop 1) (sym (part-in port y xs own) ∙ both ∙ part-in port y ys own)
        by_head false other = sym (part-out port y xs other) ∙ both ∙ part-out port y ys other

-- ---- captures of a table's ports

abbrev Above : ℕ → List Capture → Type 0
Above n read = AllByRecursion (λ (c : Capture). n < c.port) read

read_above : (n : ℕ) (ports : List PortRow) (texts : List Text) (read : List Capture) → map (λ (text : Text). text.0) texts ≡ map (λ (p : PortRow). p.id) ports → AreCaptures texts read
    → AllByRecursion (λ (p : PortRow). n < p.id) ports → Above n read
read_above n ports [] [] same are above = tt
read_above n ports [] (c ∷ read) same are above = absurd are
read_above n ports (text ∷ texts) [] same are above = absurd are
read_above n [] (text ∷ texts) (c ∷ read) same are above = absurd cc
read_above n (p ∷ ports) (text ∷ texts) (c ∷ read) same are above =
    (subst (λ m. n < m) (sym (are.0 ∙ ap (λ (ns : List ℕ). get_or ns 0 0) same)) above.0, read_above n ports texts read (ap (drop 1) same) are.2 above.1)

abbrev arrived : ℕ → List Record → List Arrival
arrived port rs = map (λ (r : Record). record { port = port; frame = r }) rs

abbrev NoneBelow : ℕ → List Arrival → Type 0
NoneBelow n arrivals = AllByRecursion (λ (b : Arrival). n ≤ b.port) arrivals

arrived_none_below : (n port : ℕ) (rs : List Record) → n ≤ port → NoneBelow n (arrived port rs)
arrived_none_below n port [] le = tt
arrived_none_below n port (r ∷ rs) le = (le, arrived_none_below n port rs le)

none_below : (n : ℕ) (read : List Capture) → Above n read → NoneBelow n (arrivals_of read)
none_below n [] above = tt
none_below n (c ∷ read) above =
    all_append (λ (b : Arrival). n ≤ b.port) (arrived c.port c.records) (arrivals_of read) (arrived_none_below n c.port c.records (omega (arith, above.0))) (none_below n read above.1)

one_port_first : (port : ℕ) (rs : List Record) (others : List Arrival) → NoneBelow port others → PortsRise others → PortsRise (arrived port rs ++ others)
one_port_first port [] others all rise = rise
one_port_first port (r ∷ rs) others all rise =
    (all_append (λ (b : Arrival). port ≤ b.port) (arrived port rs) others (arrived_none_below port port rs (omega arith)) all, one_port_first port rs others all rise)

-- the port numbers of their arrivals, capture by capture, do not fall
ports_rise : (ports : List PortRow) (texts : List Text) (read : List Capture) → map (λ (text : Text). text.0) texts ≡ map (λ (p : PortRow). p.id) ports → Rises ports → AreCaptures texts read
    → PortsRise (arrivals_of read)
ports_rise ports [] [] same rises are = tt
ports_rise ports [] (c ∷ read) same rises are = absurd are
ports_rise ports (text ∷ texts) [] same rises are = absurd are
ports_rise [] (text ∷ texts) (c ∷ read) same rises are = absurd cc
ports_rise (p ∷ ports) (text ∷ texts) (c ∷ read) same rises are =
    let here : c.port ≡ p.id = are.0 ∙ ap (λ (ns : List ℕ). get_or ns 0 0) same in
    let above : Above c.port read = subst (λ n. Above n read) (sym here) (read_above p.id ports texts read (ap (drop 1) same) are.2 rises.0) in
    one_port_first c.port c.records (arrivals_of read) (none_below c.port read above) (ports_rise ports texts read (ap (drop 1) same) rises.1 are.2)

-- ---- the law

pub the_only_one : MergedIsAMerge → MergedIsByStampAndPort → MergedIsTheOnlyOne
the_only_one merges sorts t texts read arrivals formed ports are =
    let merge = merge_is_read merges t texts read formed ports are in
    let sorted = sorts read (ports_rise t.ports texts read ports formed.ports_rise are) in (
      λ is. merge_is_unique arrivals (merged read) is.1 sorted (λ port. is.0.parts port ∙ sym (merge.parts port)),
      λ same. subst (λ xs. IsMerge read xs × AreByStampAndPort xs) (sym same) (merge, sorted),
    )
