-- A clean frame has a link, and which frames are clean.
use Rattle.std.proofs.Common.{◌≡◌, ℕ, ◌≤◌, nat_eq, nat_lt, not, cond, Bool, true, false, length, Option, Some, None, refl, ap, ◌∙◌, subst, arith}
use Rattle.std.specs.Str.{bytes_eq}
use Rattle.std.proofs.lemmas.Bool.{le-ltb}
use Rattle.std.proofs.lemmas.Bool.Decides.{nat_tests}
use Rattle.std.proofs.lemmas.List.Folds.{find_at}
use Rattle.std.proofs.lemmas.List.Sums.{passes_at_first}
use Rattle.std.proofs.lemmas.Option.{gets}
use Rattle.std.proofs.lemmas.Slice.Eq.{bytes_eq-Decides}
use Rattle.afdx_units.specs.Line.{size_of}
use Rattle.afdx_pcap.specs.Record.{Record}
use Rattle.afdx_frame.specs.Address.{constant_of, link_of}
use Rattle.afdx_table.specs.Link.{Link}
use Rattle.afdx_table.specs.Content.{Content, link_row}
use Rattle.afdx_filter.specs.declared.outcome.Verdict.{Verdict}
use Rattle.afdx_filter.specs.declared.outcome.Verdict.TheVariants.{Cut, Short, Long, Foreign, WrongPort, TooBig, Clean}
use Rattle.afdx_filter.specs.Verdict.{link_verdict, verdict_of}
use Rattle.afdx_filter.specs.Inner.Clean.{CleanFramesHaveALink}
use Rattle.afdx_filter.specs.Inner.Exactly.{IsFrameOf, CleanExactly}

found-number : (table : Content) (number : ℕ) (link : Link) → link_row table number ≡ Some link → number ≡ link.id
found-number table number link h = grind (arith, gets, nat_tests, find_at (λ (l : Link). nat_eq l.id number) table.links, passes_at_first (λ (l : Link). nat_eq l.id number) table.links)

-- a case that does not hold, and what the cases after it say
record IsPast (test : Bool) (rest : Verdict) (id : ℕ) : Type 0 where
  fails : test ≡ false
  others : rest ≡ Clean id

past : (test : Bool) (here rest : Verdict) (id : ℕ) → (here ≡ Clean id → ⊥) → cond test here rest ≡ Clean id → IsPast test rest id
past true here rest id differs h = absurd (differs h)
past false here rest id differs h = record { fails = refl; others = h }

record CleanLink (port size id : ℕ) (o : Option Link) : Type 0 where
  link : Link
  is_link : o ≡ Some link
  number : link.id ≡ id
  from_port : link.from ≡ port
  fits : size ≤ link.max_size

link_clean : (port size id : ℕ) (o : Option Link) → link_verdict port size o ≡ Clean id → CleanLink port size id o
link_clean port size id None h = absurd cc
link_clean port size id (Some l) h =
    let here = past (not (nat_eq l.from port)) WrongPort _ id (λ e. absurd cc) h in
    let small = past (nat_lt l.max_size size) TooBig _ id (λ e. absurd cc) here.others in
    record {
      link = l;
      is_link = refl;
      number = let same : Clean l.id ≡ Clean id = small.others in cc;
      from_port = grind (arith, nat_tests, here.fails);
      fits = grind (arith, nat_tests, small.fails);
    }

not-false : (b : Bool) → not b ≡ false → b ≡ true
not-false true h = refl
not-false false h = absurd cc

true-not : (b : Bool) → b ≡ true → not b ≡ false
true-not b h = rw h refl

same-number : (n m : ℕ) → n ≡ m → not (nat_eq n m) ≡ false
same-number n m h = grind (arith, nat_tests)

-- what is clean is a frame of its link
clean-frame : (table : Content) (port : ℕ) (frame : Record) (id : ℕ) → verdict_of table port frame ≡ Clean id → (link : Link) × (link.id ≡ id) × IsFrameOf table port frame link
clean-frame table port frame id h =
    let size = size_of (length frame.bytes) in
    let whole = past (nat_lt (length frame.bytes) frame.original) Cut _ id (λ e. absurd cc) h in
    let least = past (nat_lt size 64) Short _ id (λ e. absurd cc) whole.others in
    let most = past (nat_lt 1518 size) Long _ id (λ e. absurd cc) least.others in
    let own = past (not (bytes_eq (constant_of frame.bytes) table.constant)) Foreign _ id (λ e. absurd cc) most.others in
    let l = link_clean port size id (link_row table (link_of frame.bytes)) own.others in (
      l.link,
      l.number,
      record {
        whole = grind (arith, nat_tests, whole.fails);
        size_least = grind (arith, nat_tests, least.fails);
        size_most = grind (arith, nat_tests, most.fails);
        constant = (bytes_eq-Decides (constant_of frame.bytes) table.constant).0 (not-false _ own.fails);
        is_link = l.is_link;
        from_port = l.from_port;
        fits = l.fits;
      },
    )

pub clean-link : CleanFramesHaveALink
clean-link table port frame id h =
    let clean = clean-frame table port frame id h in
    let link : Link = clean.0 in
    let is : IsFrameOf table port frame link = clean.2 in
    let numbered : link_of frame.bytes ≡ id = found-number table (link_of frame.bytes) link is.is_link ∙ clean.1 in
    record {
      link = link;
      is_link = subst (λ n. link_row table n ≡ Some link) numbered is.is_link;
      number = clean.1;
      address = numbered;
      from_port = is.from_port;
      whole = is.whole;
      size_least = is.size_least;
      size_most = is.fits;
    }

-- a frame of a link is clean
frame-clean : (table : Content) (port : ℕ) (frame : Record) (link : Link) → IsFrameOf table port frame link → verdict_of table port frame ≡ Clean link.id
frame-clean table port frame link is =
    let size = size_of (length frame.bytes) in
    rw (le-ltb (length frame.bytes) frame.original is.whole)
    (rw (le-ltb size 64 is.size_least)
    (rw (le-ltb 1518 size is.size_most)
    (rw (true-not _ ((bytes_eq-Decides (constant_of frame.bytes) table.constant).1 is.constant))
    (rw is.is_link
    (rw (same-number link.from port is.from_port)
    (rw (le-ltb link.max_size size is.fits) refl))))))

pub clean-exactly : CleanExactly
clean-exactly table port frame id = (clean-frame table port frame id, λ h. frame-clean table port frame h.0 h.2 ∙ ap Clean h.1)
