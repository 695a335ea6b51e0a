-- What a call does to a comparison is what its definition says.
use Rattle.std.proofs.Common.{◌≡◌, ℕ, Bool, true, List, set, Option, Some, None, sym, ap, ◌∙◌}
use Rattle.std.specs.Prelude.{if◌then◌else◌, slice_get}
use Rattle.afdx_pairing.specs.declared.event.Mark.{Mark}
use Rattle.afdx_pairing.specs.Events.{Numbered, mark_of}
use Rattle.afdx_following.specs.Watch.{has_frame, has_record}
use Rattle.afdx_following.specs.Watched.{Watched, changed_at, with_own, with_record}
use Rattle.afdx_following.proofs.Changing.{set_changes}
use Rattle.afdx_compare.specs.declared.sources.Source.{Source}
use Rattle.afdx_compare.specs.Comparison.{Port, Comparison, with_seen, with_foreign, place_of_own, own_came, with_came, link_at, record_left, with_left}

-- ---- a frame that came

came_is : (c : Comparison) (port : ℕ) (n : Numbered) (of : Option ℕ) → has_frame c.watch n.frame.stamp ≡ true → place_of_own c.table port n.frame ≡ of → own_came of n c ≡ with_came port n c
came_is c port n of has is =
    ap (λ (o : Option ℕ). own_came o n c) (sym is) ∙ ap (λ (b : Bool). if b then own_came (place_of_own c.table port n.frame) n c else c) (sym has)

pub came_made : (c : Comparison) (port : ℕ) (n m : Numbered) (place : ℕ) (f new : Watched) → has_frame c.watch n.frame.stamp ≡ true → place_of_own c.table port n.frame ≡ Some place
    → slice_get c.links place ≡ Some f → m ≡ n → new ≡ with_own m f → record c { links = set c.links place new } ≡ with_came port n c
came_made c port n m place f new has is get same new_is =
    ap (λ (x : Watched). record c { links = set c.links place x }) (new_is ∙ ap (λ (k : Numbered). with_own k f) same)
    ∙ ap (λ (fs : List Watched). record c { links = fs }) (set_changes place (with_own n) c.links f get)
    ∙ came_is c port n (Some place) has is

-- ---- a record that left

abbrev pub seen_at : Source → Comparison → Comparison
seen_at s c = record c { ports = changed_at s.place with_seen c.ports }

left_is : (c : Comparison) (s : Source) (n : Numbered) (to : Option (ℕ × ℕ)) → has_record c.watch n.frame.stamp ≡ true → link_at s.port n.frame.bytes c ≡ to
    → record_left s.place to n (seen_at s c) ≡ with_left s n c
left_is c s n to has is =
    ap (λ (o : Option (ℕ × ℕ)). record_left s.place o n (seen_at s c)) (sym is)
    ∙ ap (λ (b : Bool). if b then record_left s.place (link_at s.port n.frame.bytes c) n (seen_at s c) else c) (sym has)

pub left_made : (c : Comparison) (s : Source) (n m : Numbered) (link output : ℕ) (f new : Watched) (p : Port) (ports : List Port) → has_record c.watch n.frame.stamp ≡ true
    → link_at s.port n.frame.bytes c ≡ Some (link, output) → slice_get c.ports s.place ≡ Some p → ports ≡ set c.ports s.place (with_seen p) → slice_get c.links link ≡ Some f → m ≡ n
    → new ≡ with_record output m f → record c { links = set c.links link new; ports = ports } ≡ with_left s n c
left_made c s n m link output f new p ports has is there ports_are get same new_is =
    ap (λ (x : Watched). record c { links = set c.links link x; ports = ports }) (new_is ∙ ap (λ (k : Numbered). with_record output k f) same)
    ∙ ap (λ (fs : List Watched). record c { links = fs; ports = ports }) (set_changes link (with_record output n) c.links f get)
    ∙ ap (λ (ps : List Port). record c { links = changed_at link (with_record output n) c.links; ports = ps }) (ports_are ∙ set_changes s.place with_seen c.ports p there)
    ∙ left_is c s n (Some (link, output)) has is

pub left_foreign : (c : Comparison) (s : Source) (n : Numbered) (p q new : Port) (ports : List Port) (mark : Mark) → has_record c.watch n.frame.stamp ≡ true → link_at s.port n.frame.bytes c ≡ None
    → slice_get c.ports s.place ≡ Some p → ports ≡ set c.ports s.place (with_seen p) → slice_get ports s.place ≡ Some q → mark ≡ mark_of n → new ≡ with_foreign c.keeps mark q
    → record c { ports = set ports s.place new } ≡ with_left s n c
left_foreign c s n p q new ports mark has is there ports_are get mark_is new_is =
    ap (λ (x : Port). record c { ports = set ports s.place x }) (new_is ∙ ap (λ (k : Mark). with_foreign c.keeps k q) mark_is)
    ∙ ap (λ (ps : List Port). record c { ports = ps }) (set_changes s.place (with_foreign c.keeps (mark_of n)) ports q get)
    ∙ ap (λ (ps : List Port). record c { ports = changed_at s.place (with_foreign c.keeps (mark_of n)) ps }) (ports_are ∙ set_changes s.place with_seen c.ports p there)
    ∙ left_is c s n None has is
