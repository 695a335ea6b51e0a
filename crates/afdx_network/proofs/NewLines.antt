-- The lines of all captures before anything came: one for each port to which no wire goes.
use Rattle.std.proofs.Common.{◌≡◌, ◌<◌, ◌≤◌, ◌+◌, ℕ, suc, Bool, true, false, cond, List, [], ◌∷◌, ◌++◌, length, map, filter, take, drop, get_or, slice_get, Option, Some, option_and_then}
use Rattle.std.proofs.Common.{refl, ap, sym, ◌∙◌, subst, arith, append_assoc}
use Rattle.std.specs.Prelude.{All, Contains}
use Rattle.std.specs.List.{AllByRecursion, AllZip}
use Rattle.std.proofs.Math.Seq.{drop-cons}
use Rattle.std.proofs.lemmas.List.{append-nil, drop_all, take_all, take_more}
use Rattle.std.proofs.lemmas.List.Elements.{All-push, filter-append}
use Rattle.std.proofs.lemmas.Option.{same_Some, slice_get-get_or}
use Rattle.afdx_table.specs.declared.rows.PortRow.{PortRow}
use Rattle.afdx_table.specs.Content.{Content, port_row}
use Rattle.afdx_table.specs.WellFormed.{IsWellFormed}
use Rattle.afdx_wiring.specs.declared.layout.End.{End}
use Rattle.afdx_network_check.specs.Net.{Network, port_at}
use Rattle.afdx_network.specs.declared.line.Line.{Line}
use Rattle.afdx_network.specs.Given.{is_open, ends_from, open_ends}
use Rattle.afdx_network.specs.Inner.Intake.{AreMet}
use Rattle.afdx_network.specs.Inner.OneLine.{IsNew, open_rows}
use Rattle.afdx_network.specs.Inner.Sites.{end_at}
use Rattle.afdx_network.proofs.Found.{all_by, ports_are_found}
use Rattle.afdx_network.proofs.Lists.{all_kept, filter_of_map, zip_append, zip_back, zip_long}

-- ---- those of a switch's first rows

abbrev has_line : Network → ℕ → PortRow → Bool
has_line net switch row = is_open net switch row.id

row_more : (net : Network) (switch : ℕ) (rows : List PortRow) (n : ℕ) (d : PortRow) (b : Bool) → n < length rows → is_open net switch (get_or rows n d).id ≡ b
    → filter (has_line net switch) (take (n + 1) rows) ≡ filter (has_line net switch) (take n rows) ++ cond b (get_or rows n d ∷ []) []
row_more net switch rows n d b lt passes =
    ap (filter (has_line net switch)) (take_more rows n d lt) ∙ filter-append (has_line net switch) (take n rows) (get_or rows n d ∷ [])
    ∙ ap (λ c. filter (has_line net switch) (take n rows) ++ cond c (get_or rows n d ∷ []) []) passes

-- these were appended
pub record HavePushed (net : Network) (switch : ℕ) (rows : List PortRow) (old new : List Line) : Type 0 where
  pub more : List Line
  pub lines : new ≡ old ++ more
  pub are : AllZip IsNew (filter (has_line net switch) rows) more

pub none_pushed : (net : Network) (switch : ℕ) (lines : List Line) → HavePushed net switch [] lines lines
none_pushed net switch lines = record { more = []; lines = sym (append-nil lines); are = tt }

pub one_pushed : (net : Network) (switch : ℕ) (rows : List PortRow) (n : ℕ) (d : PortRow) (old lines new : List Line) (line : Line) → n < length rows
    → is_open net switch (get_or rows n d).id ≡ true → IsNew (get_or rows n d) line → new ≡ lines ++ line ∷ [] → HavePushed net switch (take n rows) old lines
    → HavePushed net switch (take (n + 1) rows) old new
one_pushed net switch rows n d old lines new line lt passes fresh more h = record {
  more = h.more ++ line ∷ [];
  lines = more ∙ ap (λ (ls : List Line). ls ++ line ∷ []) h.lines ∙ append_assoc old h.more (line ∷ []);
  are = subst (λ (rs : List PortRow). AllZip IsNew rs (h.more ++ line ∷ [])) (sym (row_more net switch rows n d true lt passes))
      (zip_append IsNew (filter (has_line net switch) (take n rows)) (get_or rows n d ∷ []) h.more (line ∷ []) h.are (fresh, tt));
}

pub none_more : (net : Network) (switch : ℕ) (rows : List PortRow) (n : ℕ) (d : PortRow) (old new : List Line) → n < length rows → is_open net switch (get_or rows n d).id ≡ false
    → HavePushed net switch (take n rows) old new → HavePushed net switch (take (n + 1) rows) old new
none_more net switch rows n d old new lt wired h = record {
  more = h.more;
  lines = h.lines;
  are = subst (λ (rs : List PortRow). AllZip IsNew rs h.more)
      (sym (row_more net switch rows n d false lt wired ∙ append-nil (filter (has_line net switch) (take n rows)))) h.are;
}

pub all_pushed : (net : Network) (switch : ℕ) (t : Content) (rows : List PortRow) (n : ℕ) (old new : List Line) → rows ≡ t.ports → length rows ≤ n → HavePushed net switch (take n rows) old new
    → (more : List Line) × (new ≡ old ++ more) × AllZip IsNew (open_rows net switch t) more
all_pushed net switch t rows n old new are past h =
    (h.more, h.lines, subst (λ (rs : List PortRow). AllZip IsNew (filter (has_line net switch) rs) h.more) (take_all n rows past ∙ are) h.are)

-- ---- those of the first switches

-- nothing has come over the line of the port at an end
abbrev IsNewAt : Network → End → Line → Type 0
IsNewAt net e line = (row : PortRow) → port_at net e ≡ Some row → IsNew row line

by_number : (n : ℕ) (rows : List PortRow) → map (λ port. end_at n port) (map (λ (row : PortRow). row.id) rows) ≡ map (λ (row : PortRow). end_at n row.id) rows
by_number n [] = refl
by_number n (row ∷ rows) = ap (λ (es : List End). end_at n row.id ∷ es) (by_number n rows)

abbrev ends_at : Network → ℕ → Content → List End
ends_at net n t = map (λ port. end_at n port) (filter (is_open net n) (map (λ (row : PortRow). row.id) t.ports))

ends_are : (net : Network) (n : ℕ) (t : Content) → map (λ (row : PortRow). end_at n row.id) (open_rows net n t) ≡ ends_at net n t
ends_are net n t =
    sym (ap (λ (ports : List ℕ). map (λ port. end_at n port) ports) (filter_of_map (is_open net n) (λ (row : PortRow). row.id) t.ports) ∙ by_number n (open_rows net n t))

new_ends : (net : Network) (n : ℕ) (t : Content) (rows : List PortRow) (lines : List Line) → slice_get net.tables n ≡ Some t → IsWellFormed t → AllByRecursion (Contains t.ports) rows
    → AllZip IsNew rows lines → AllZip (IsNewAt net) (map (λ (row : PortRow). end_at n row.id) rows) lines
new_ends net n t [] [] at formed among zip = tt
new_ends net n t [] (line ∷ lines) at formed among zip = absurd zip
new_ends net n t (row ∷ rows) [] at formed among zip = absurd zip
new_ends net n t (row ∷ rows) (line ∷ lines) at formed among zip = (here, new_ends net n t rows lines at formed among.1 zip.1) where
  there : port_at net (end_at n row.id) ≡ Some row
  there = ap (option_and_then (λ (c : Content). port_row c row.id)) at ∙ ports_are_found t row formed among.0

  here : IsNewAt net (end_at n row.id) line
  here other is = subst (λ (r : PortRow). IsNew r line) (same_Some row other (sym there ∙ is)) zip.0

new_at : (net : Network) (n : ℕ) (t : Content) (lines : List Line) → slice_get net.tables n ≡ Some t → IsWellFormed t
    → AllZip IsNew (open_rows net n t) lines → AllZip (IsNewAt net) (ends_at net n t) lines
new_at net n t lines at formed zip =
    subst (λ (es : List End). AllZip (IsNewAt net) es lines) (ends_are net n t)
    (new_ends net n t (open_rows net n t) lines at formed (all_kept (Contains t.ports) (has_line net n) t.ports (all_by (Contains t.ports) t.ports (λ row among. among))) zip)

pub record AreNewTo (net : Network) (n : ℕ) (tables : List Content) (lines : List Line) : Type 0 where
  pub ends : List End
  pub are : ends_from net 0 tables ≡ ends ++ ends_from net n (drop n tables)
  pub new : AllZip (IsNewAt net) ends lines
  pub formed : All IsWellFormed (take n tables)

pub new_none : (net : Network) (tables : List Content) → AreNewTo net 0 tables []
new_none net tables = record { ends = []; are = refl; new = tt; formed = λ k t within. absurd (omega (arith, within)) }

one_more : (n : ℕ) → suc n ≡ n + 1
one_more n = omega arith

pub new_more : (net : Network) (tables : List Content) (n : ℕ) (t : Content) (lines new more : List Line) → tables ≡ net.tables → n < length tables → t ≡ get_or tables n t → IsWellFormed t
    → new ≡ lines ++ more → AllZip IsNew (open_rows net n t) more → AreNewTo net n tables lines → AreNewTo net (n + 1) tables new
new_more net tables n t lines new more same lt is formed made zip so_far = record {
  ends = so_far.ends ++ ends_at net n t;
  are = so_far.are ∙ ap (λ (ts : List Content). so_far.ends ++ ends_from net n ts) (drop-cons tables n t lt ∙ ap (λ (u : Content). u ∷ drop (suc n) tables) (sym is))
      ∙ sym (append_assoc so_far.ends (ends_at net n t) (ends_from net (n + 1) (drop (suc n) tables)))
      ∙ ap (λ (k : ℕ). (so_far.ends ++ ends_at net n t) ++ ends_from net (n + 1) (drop k tables)) (one_more n);
  new = subst (AllZip (IsNewAt net) (so_far.ends ++ ends_at net n t)) (sym made)
      (zip_append (IsNewAt net) so_far.ends (ends_at net n t) lines more so_far.new (new_at net n t more at formed zip));
  formed = subst (All IsWellFormed) (sym (take_more tables n t lt ∙ ap (λ (u : Content). take n tables ++ u ∷ []) (sym is))) (All-push IsWellFormed (take n tables) t so_far.formed formed);
} where
  at : slice_get net.tables n ≡ Some t
  at = ap (λ (ts : List Content). slice_get ts n) (sym same) ∙ slice_get-get_or tables n t lt ∙ ap (λ (u : Content). Some u) (sym is)

-- ---- all of them

zip_there : {X Y : Type 0} (P : X → Y → Type 0) (xs : List X) (ys : List Y) → AllZip P xs ys → (k : ℕ) (x : X) (y : Y) → slice_get xs k ≡ Some x → slice_get ys k ≡ Some y → P x y
zip_there P xs ys zip k x y here there = let back = zip_back P xs ys zip k y there in subst (λ z. P z y) (same_Some back.0 x (sym back.1 ∙ here)) back.2

pub new_all : (net : Network) (tables : List Content) (n : ℕ) (lines : List Line) → net.layout.one_line ≡ true → tables ≡ net.tables → length tables ≤ n → AreNewTo net n tables lines
    → AreMet net lines []
new_all net tables n lines said same past h = record {
  formed = λ is. subst (All IsWellFormed) (take_all n tables past ∙ same) h.formed;
  many = zip_long (IsNewAt net) h.ends lines h.new ∙ ap (λ (es : List End). length es) (sym ends_same) ∙ sym (ap (λ b. cond b (length (open_ends net)) 0) said);
  each = λ place line e row there here is. zip_there (IsNewAt net) h.ends lines h.new place e line (ap (λ (es : List End). slice_get es place) (sym ends_same) ∙ here) there row is;
} where
  ends_same : open_ends net ≡ h.ends
  ends_same =
      ap (ends_from net 0) (sym same) ∙ h.are ∙ ap (λ (ts : List Content). h.ends ++ ends_from net n ts) (drop_all n tables past) ∙ append-nil h.ends
