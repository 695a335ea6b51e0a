-- How early a frame came, by the windows and by the level.
use Rattle.std.proofs.Common.{◌≡◌, ℕ, ◌+◌, ◌*◌, ◌-◌, ◌<◌, ◌≤◌, max, nat_le, List, [], ◌∷◌, IsTrue, true, refl, sym, ap, ◌∙◌, arith, inl, inr}
use Rattle.std.specs.Int.{div_ceil}
use Rattle.std.proofs.Math.Nat.{mul-le-mul_left}
use Rattle.std.proofs.lemmas.Grind.{div_ceil_times}
use Rattle.std.proofs.lemmas.Bool.{leb-true, le-leb, and_parts, cases_lt}
use Rattle.afdx_account.specs.declared.frame.Frame.{Frame}
use Rattle.afdx_account.specs.Policing.{Terms, paid, allowance, conforms, passed_frames}
use Rattle.afdx_account.specs.Level.{headroom, NoneLater, credited_level}
use Rattle.afdx_account.specs.Early.{later_by, credit_time, early_by, EarlyIsLeast, EarlyByTheLevel, IsEarlyBy}
use Rattle.afdx_account.proofs.Tested.{tested_conforms, conforming_passes}
use Rattle.afdx_account.proofs.Windows.{Sound, NoneLater-later, passed_early, passed_sound, headroom-later}

-- a quotient rounded up is at most n where the whole is at most n divisors
ceil_fits : (a b n : ℕ) → 0 < b → a ≤ b * n → div_ceil a b ≤ n
ceil_fits a b n some fits =
    let above = (div_ceil_times a b some).1 in
    elim (cases_lt n (div_ceil a b)) [
      | inl more ↦ (let next : n + 1 ≤ div_ceil a b = omega (arith, more) in let most = mul-le-mul_left b next in absurd (omega (arith, above, most, fits)))
      | inr fewer ↦ fewer
    ]

-- and only there
fits_ceil : (a b n : ℕ) → 0 < b → div_ceil a b ≤ n → a ≤ b * n
fits_ceil a b n some fewer =
    let below = (div_ceil_times a b some).0 in
    let most = mul-le-mul_left b fewer in
    omega (arith, below, most)

ceil_rises : (a c b : ℕ) → 0 < b → a ≤ c → div_ceil a b ≤ div_ceil c b
ceil_rises a c b some le = ceil_fits a b (div_ceil c b) some (let below = (div_ceil_times c b some).0 in omega (arith, below, le))

-- the greater of two times is that of the greater lack
greater_ceil : (a c b : ℕ) → 0 < b → max (div_ceil a b) (div_ceil c b) ≡ div_ceil (max a c) b
greater_ceil a c b some =
    elim (cases_lt a c) [
      | inl less ↦ (let rises = ceil_rises a c b some (omega (arith, less)) in let most : max a c ≡ c = omega (arith, less) in rw most (omega (arith, rises)))
      | inr more ↦ (let rises = ceil_rises c a b some more in let most : max a c ≡ a = omega (arith, more) in rw most (omega (arith, rises)))
    ]

-- a window that begins with a frame not later than this one, so many ns later
wider : (t : Terms) (stamp first ns : ℕ) → first ≤ stamp → allowance t ((stamp + ns) - first) ≡ allowance t (stamp - first) + t.rate * ns
wider t stamp first ns le =
    let parts : t.rate * ((stamp + ns) - first) ≡ t.rate * (stamp - first) + t.rate * ns =
    ap (λ (n : ℕ). t.rate * n) (let whole : (stamp + ns) - first ≡ (stamp - first) + ns = omega arith in whole) ∙ omega arith in
    omega (arith, parts)

-- ---- by the windows

conforms_later : (t : Terms) (passed : List Frame) (f : Frame) (ns : ℕ) → 0 < t.rate → NoneLater passed f.stamp
    → IsTrue (conforms t passed (later_by ns f)) → early_by t passed f ≤ ns
conforms_later t [] f ns some early joins =
    let fits = leb-true (t.price f.size) (allowance t 0) joins in
    ceil_fits (t.price f.size - allowance t 0) t.rate ns some (omega (arith, fits))
conforms_later t (g ∷ gs) f ns some early joins =
    let both = and_parts (nat_le (paid t (g ∷ gs) + t.price f.size) (allowance t ((f.stamp + ns) - g.stamp))) (conforms t gs (later_by ns f)) joins in
    let fits = leb-true (paid t (g ∷ gs) + t.price f.size) (allowance t ((f.stamp + ns) - g.stamp)) both.0 in
    let same = wider t f.stamp g.stamp ns early.0 in
    let here = ceil_fits ((paid t (g ∷ gs) + t.price f.size) - allowance t (f.stamp - g.stamp)) t.rate ns some (omega (arith, fits, same)) in
    let others = conforms_later t gs f ns some early.1 both.1 in
    omega (arith, here, others)

later_conforms : (t : Terms) (passed : List Frame) (f : Frame) (ns : ℕ) → 0 < t.rate → t.price f.size ≤ t.cap → NoneLater passed f.stamp
    → early_by t passed f ≤ ns → IsTrue (conforms t passed (later_by ns f))
later_conforms t [] f ns some whole early most = le-leb (t.price f.size) (allowance t 0) (omega (arith, whole))
later_conforms t (g ∷ gs) f ns some whole early most =
    let lack = (paid t (g ∷ gs) + t.price f.size) - allowance t (f.stamp - g.stamp) in
    let window = credit_time t lack in
    let others = early_by t gs f in
    let here : window ≤ ns = omega (arith, most) in
    let rest : others ≤ ns = omega (arith, most) in
    let enough = fits_ceil lack t.rate ns some here in
    let same = wider t f.stamp g.stamp ns early.0 in
    let first : nat_le (paid t (g ∷ gs) + t.price f.size) (allowance t ((f.stamp + ns) - g.stamp)) ≡ true =
    le-leb (paid t (g ∷ gs) + t.price f.size) (allowance t ((f.stamp + ns) - g.stamp)) (omega (arith, enough, same)) in
    let more = later_conforms t gs f ns some whole early.1 rest in
    rw (first, more) refl

pub early_is_least : EarlyIsLeast
early_is_least t passed f some whole early ns = (
  λ keeps. conforms_later t passed f ns some early (conforming_passes t passed (later_by ns f) keeps),
  λ most. tested_conforms t passed (later_by ns f) (later_conforms t passed f ns some whole early most),
)

-- ---- by the level

by_headroom : (t : Terms) (passed : List Frame) (f : Frame) → 0 < t.rate → Sound t passed f.stamp
    → early_by t passed f ≡ credit_time t (t.price f.size - headroom t passed f.stamp)
by_headroom t [] f some sound = let e : allowance t 0 ≡ t.cap = omega arith in ap (λ (n : ℕ). credit_time t (t.price f.size - n)) e
by_headroom t (g ∷ gs) f some sound =
    let lack = (paid t (g ∷ gs) + t.price f.size) - allowance t (f.stamp - g.stamp) in
    let other = t.price f.size - headroom t gs f.stamp in
    let fits = sound.0 in
    let whole : max lack other ≡ t.price f.size - headroom t (g ∷ gs) f.stamp = omega (arith, fits) in
    ap (λ (n : ℕ). max (credit_time t lack) n) (by_headroom t gs f some sound.1)
    ∙ greater_ceil lack other t.rate some
    ∙ ap (credit_time t) whole

pub early_by_the_level : EarlyByTheLevel
early_by_the_level t frames f some early = by_headroom t (passed_frames t frames) f some (passed_sound t [] frames f.stamp early tt)

-- an account that says what its level lacks
pub is_early_by : (t : Terms) (since level at size now early : ℕ) → 0 < t.rate → since ≤ at
    → now ≡ credited_level t level (at - since) → early ≡ credit_time t (t.price size - now) → IsEarlyBy t since level at size early
is_early_by t since level at size now early some le now-is early-is frames after =
    let f : Frame = record { stamp = at; size = size } in
    let latest = NoneLater-later frames since at le after.latest in
    let passed = passed_frames t frames in
    let credited = headroom-later t passed since at le (passed_early t [] frames since after.latest) (passed_sound t [] frames since after.latest tt) in
    let same : now ≡ headroom t passed at = now-is ∙ ap (λ (n : ℕ). credited_level t n (at - since)) after.level_is ∙ sym credited in
    early-is ∙ ap (λ (n : ℕ). credit_time t (t.price size - n)) same ∙ sym (early_by_the_level t frames f some latest)
