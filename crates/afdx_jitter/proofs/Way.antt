-- Several accounts in a row: delays add up, and each account is compared with the first.
use Rattle.std.proofs.Common.{◌≡◌, List, [], ◌∷◌, refl, sym, ap, ◌∙◌, arith, map, subst}
use Rattle.afdx_account.specs.declared.frame.Frame.{Frame}
use Rattle.afdx_account.specs.Policing.{Terms, passed_frames}
use Rattle.afdx_jitter.specs.declared.delays.Delays.{Delays}
use Rattle.afdx_jitter.specs.Delay.{joined, at_once}
use Rattle.afdx_jitter.specs.Series.{AllConform, ComeLater}
use Rattle.afdx_jitter.specs.Hops.{Hop, GoesOn, AllowOnTheWay, AllPassOnTheWay}
use Rattle.afdx_jitter.specs.Laws.{DelaysAddUp, DelaysBeginAtOnce}
use Rattle.afdx_jitter.proofs.Later.{passed_conform, conforming_are_passed, later_conform}

pub delays_add_up : DelaysAddUp
delays_add_up d e [] [] [] one two = tt
delays_add_up d e [] [] (r ∷ rs) one two = absurd two
delays_add_up d e [] (q ∷ qs) rs one two = absurd one
delays_add_up d e (p ∷ ps) [] rs one two = absurd one
delays_add_up d e (p ∷ ps) (q ∷ qs) [] one two = absurd two
delays_add_up d e (p ∷ ps) (q ∷ qs) (r ∷ rs) one two =
    let first = one.0 in
    let second = two.0 in
    let a = first.no_sooner in
    let b = first.no_later in
    let c = second.no_sooner in
    let f = second.no_later in
    (record { same = second.same ∙ first.same; no_sooner = omega (arith, a, c); no_later = omega (arith, b, f) }, delays_add_up d e ps qs rs one.1 two.1)

pub begin_at_once : DelaysBeginAtOnce
begin_at_once [] = tt
begin_at_once (p ∷ ps) = (record { same = refl; no_sooner = omega arith; no_later = omega arith }, begin_at_once ps)

map-same : (fs : List Frame) → map (λ (f : Frame). f) fs ≡ fs
map-same [] = refl
map-same (f ∷ fs) = ap (λ (gs : List Frame). f ∷ gs) (map-same fs)

on-the-way : (t : Terms) (passed now : List Frame) (d : Delays) (hops : List Hop) → AllConform t [] passed → ComeLater d passed now
    → GoesOn now hops → AllowOnTheWay t d hops → AllPassOnTheWay passed d hops
on-the-way t passed now d [] all so_far goes allow = tt
on-the-way t passed now d (h ∷ hops) all so_far goes allow =
    let zip = delays_add_up d h.delays passed now h.frames so_far goes.0 in
    let there = later_conform (joined d h.delays) t h.terms passed h.frames allow.0 zip all in
    let pass : passed_frames h.terms h.frames ≡ h.frames
    = conforming_are_passed (λ (f : Frame). f) h.terms h.frames (subst (AllConform h.terms []) (sym (map-same h.frames)) there) in
    (pass, zip, on-the-way t passed h.frames (joined d h.delays) hops all zip (subst (λ (fs : List Frame). GoesOn fs hops) pass goes.1) allow.1)

pub ways_pass_all : (t : Terms) (frames : List Frame) (hops : List Hop) → GoesOn (passed_frames t frames) hops → AllowOnTheWay t at_once hops
    → AllPassOnTheWay (passed_frames t frames) at_once hops
ways_pass_all t frames hops goes allow =
    on-the-way t (passed_frames t frames) (passed_frames t frames) at_once hops (passed_conform t frames) (begin_at_once (passed_frames t frames)) goes allow
