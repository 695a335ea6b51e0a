-- A frame is a link's own exactly where it is clean in a table of that link alone.
use Rattle.std.proofs.Common.{◌≡◌, ◌↔◌, ℕ, nat_eq, nat_lt, nat_le, not, ◌&&◌, Bool, true, false, cond, IsTrue, length, Some, None, refl, ap, ◌∙◌, arith}
use Rattle.std.specs.Str.{bytes_eq}
use Rattle.std.proofs.lemmas.Bool.Decides.{nat_tests}
use Rattle.afdx_units.specs.Line.{size_of}
use Rattle.afdx_frame.specs.Address.{constant_of, link_of}
use Rattle.afdx_table.specs.Link.{Link}
use Rattle.afdx_table.specs.Content.{link_row}
use Rattle.afdx_filter.specs.declared.outcome.Verdict.{Verdict}
use Rattle.afdx_filter.specs.declared.outcome.Verdict.TheVariants.{Cut, Short, Long, Foreign, NoLink, WrongPort, TooBig, Clean}
use Rattle.afdx_filter.specs.Verdict.{link_verdict, verdict_of}
use Rattle.afdx_alone.specs.Own.{constant}
use Rattle.afdx_alone.specs.Inner.OwnClean.{OwnFramesAreClean}

-- the verdict by its tests, on a frame that comes in at the link's port
abbrev verdict_by : Bool → Bool → Bool → Bool → Bool → Bool → ℕ → Verdict
verdict_by whole least most own here fits id = cond (not whole) Cut (cond (not least) Short (cond (not most) Long (cond (not own) Foreign (cond here (cond (not fits) TooBig (Clean id)) NoLink))))

tested : (whole least most own here fits : Bool) (id : ℕ) → IsTrue (whole && least && most && (own && here) && fits) ↔ (verdict_by whole least most own here fits id ≡ Clean id)
tested false least most own here fits id = (λ h. absurd cc, λ h. absurd cc)
tested true false most own here fits id = (λ h. absurd cc, λ h. absurd cc)
tested true true false own here fits id = (λ h. absurd cc, λ h. absurd cc)
tested true true true false here fits id = (λ h. absurd cc, λ h. absurd cc)
tested true true true true false fits id = (λ h. absurd cc, λ h. absurd cc)
tested true true true true true false id = (λ h. absurd cc, λ h. absurd cc)
tested true true true true true true id = (λ h. refl, λ h. refl)

above : (n m : ℕ) → nat_lt m n ≡ not (nat_le n m)
above n m = grind (arith, nat_tests)

equal : (n m : ℕ) → n ≡ m → nat_eq n m ≡ true
equal n m same = grind (arith, nat_tests)

turned : (n m : ℕ) → nat_eq n m ≡ nat_eq m n
turned n m = grind (arith, nat_tests)

-- what the only link of a table says of a frame
only_link : (port size : ℕ) (row : Link) (here : Bool) → row.from ≡ port
    → link_verdict port size (cond here (Some row) None) ≡ cond here (cond (not (nat_le size row.max_size)) TooBig (Clean row.id)) NoLink
only_link port size row false from = refl
only_link port size row true from =
    ap (λ b. cond (not b) WrongPort (cond (nat_lt row.max_size size) TooBig (Clean row.id))) (equal row.from port from)
    ∙ ap (λ b. cond b TooBig (Clean row.id)) (above size row.max_size)

pub own_is_clean : OwnFramesAreClean
own_is_clean table port link frame t =
    let size = size_of (length frame.bytes) in
    let number = link_of frame.bytes in
    let row = t.row in
    let whole = nat_le frame.original (length frame.bytes) in
    let own = bytes_eq (constant_of frame.bytes) constant in
    let here = nat_eq number link.id in
    let fits = nat_le size link.max_size in
    let found : link_row table number ≡ cond here (Some row) None = rw t.links_are (ap (λ b. cond b (Some row) None) (turned row.id number ∙ ap (nat_eq number) t.number)) in
    let by : verdict_of table port frame ≡ verdict_by whole (nat_le 64 size) (nat_le size 1518) own here fits link.id =
    rw (above frame.original (length frame.bytes), above 64 size, above size 1518, t.constant_is, found, only_link port size row here t.from_port, t.number, t.greatest) refl in
    rw by (tested whole (nat_le 64 size) (nat_le size 1518) own here fits link.id)
