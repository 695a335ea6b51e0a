-- The jitter that is enough for what comes later.
use Rattle.std.proofs.Common.{◌≡◌, ℕ, ◌+◌, ◌*◌, ◌-◌, ◌≤◌, List, [], ◌∷◌, refl, arith, map}
use Rattle.std.proofs.Math.Nat.{mul-le-mul_left}
use Rattle.std.specs.List.{AllZip, AllByRecursion}
use Rattle.afdx_units.specs.declared.bag.Bag.{Bag}
use Rattle.afdx_units.specs.declared.line.Speed.{Speed}
use Rattle.afdx_units.specs.declared.police.Police.{Police}
use Rattle.afdx_units.specs.declared.police.Police.TheVariants.{Byte, Frame as ByFrames}
use Rattle.afdx_units.specs.Time.{bag_ns}
use Rattle.afdx_units.specs.Line.{tick_of}
use Rattle.afdx_account.specs.declared.frame.Frame.{Frame}
use Rattle.afdx_account.specs.Policing.{Terms, terms_by, passed_of, passed_frames}
use Rattle.afdx_jitter.specs.declared.delays.Delays.{Delays}
use Rattle.afdx_jitter.specs.Delay.{hop_of, IsEnough, Crosses}
use Rattle.afdx_jitter.specs.Series.{ComesLater, ComeLater, AllowsMore}
use Rattle.afdx_jitter.specs.Laws.{JitterAllowsMore}
use Rattle.afdx_jitter.proofs.Later.{passed_pass_again}

pub jitter_allows_more : JitterAllowsMore
jitter_allows_more Byte max_size bag first later d h k =
    let grown : (bag_ns bag + first) + (d.most - d.least) ≤ bag_ns bag + later = omega (arith, h, k) in
    let caps = mul-le-mul_left max_size grown in
    let parts : max_size * ((bag_ns bag + first) + (d.most - d.least)) ≡ max_size * (bag_ns bag + first) + max_size * (d.most - d.least) = omega arith in
    record { price = λ size. refl; rate = refl; cap = omega (arith, caps, parts) }
jitter_allows_more ByFrames max_size bag first later d h k = record { price = λ size. refl; rate = refl; cap = omega (arith, h, k) }

-- where a frame came later, the least is no more than the most
least-below : (d : Delays) (f g : Frame) → ComesLater d f g → d.least ≤ d.most
least-below d f g come =
    let sooner = come.no_sooner in
    let later = come.no_later in
    omega (arith, sooner, later)

enough-for : {A : Type 0} (frame_of : A → Frame) (d : Delays) (t u : Terms) (frames passed : List Frame) (xs : List A) → passed_frames t frames ≡ passed
    → (d.least ≤ d.most → AllowsMore (d.most - d.least) t u) → ComeLater d passed (map frame_of xs) → passed_of frame_of u xs ≡ xs
enough-for frame_of d t u frames passed [] same more zip = refl
enough-for frame_of d t u frames [] (x ∷ xs) same more zip = absurd zip
enough-for frame_of d t u frames (f ∷ fs) (x ∷ xs) same more zip =
    passed_pass_again frame_of d t u frames (x ∷ xs) (more (least-below d f (frame_of x) zip.0)) (rw same zip)

pub jitter_enough : {A : Type 0} (frame_of : A → Frame) (d : Delays) (police : Police) (max_size : ℕ) (bag : Bag) (first later : ℕ) (frames : List Frame) (xs : List A)
    → IsEnough d first later → ComeLater d (passed_frames (terms_by police max_size bag first) frames) (map frame_of xs)
    → passed_of frame_of (terms_by police max_size bag later) xs ≡ xs
jitter_enough frame_of d police max_size bag first later frames xs enough zip =
    enough-for frame_of d (terms_by police max_size bag first) (terms_by police max_size bag later) frames
    (passed_frames (terms_by police max_size bag first) frames) xs refl (λ k. jitter_allows_more police max_size bag first later d enough k) zip

-- ---- one switch and one cable

hop-of : (speed : Speed) (latency bound cable : ℕ) (f g : Frame) → 64 ≤ f.size → Crosses speed latency bound cable f g → ComesLater (hop_of speed latency bound cable) f g
hop-of speed latency bound cable f g h crosses =
    let least = crosses.least in
    let most = crosses.most in
    let longer : tick_of speed * (64 + 20) ≤ tick_of speed * (f.size + 20) = mul-le-mul_left (tick_of speed) (omega (arith, h)) in
    record { same = crosses.same; no_sooner = omega (arith, least, longer); no_later = omega (arith, most) }

pub crossing_is_a_hop : (speed : Speed) (latency bound cable : ℕ) (fs gs : List Frame) → AllByRecursion (λ f. 64 ≤ f.size) fs
    → AllZip (Crosses speed latency bound cable) fs gs → ComeLater (hop_of speed latency bound cable) fs gs
crossing_is_a_hop speed latency bound cable [] [] sizes zip = tt
crossing_is_a_hop speed latency bound cable [] (g ∷ gs) sizes zip = absurd zip
crossing_is_a_hop speed latency bound cable (f ∷ fs) [] sizes zip = absurd zip
crossing_is_a_hop speed latency bound cable (f ∷ fs) (g ∷ gs) sizes zip =
    (hop-of speed latency bound cable f g sizes.0 zip.0, crossing_is_a_hop speed latency bound cable fs gs sizes.1 zip.1)
