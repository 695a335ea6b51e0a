-- What contracts see of an account.
use Rattle.std.specs.Prelude.{ℕ, ◌-◌}
use Rattle.afdx_units.specs.declared.line.Speed.{Speed}
use Rattle.afdx_account.specs.declared.byte_account.ByteAccount.{ByteAccount}
use Rattle.afdx_account.specs.declared.frame_account.FrameAccount.{FrameAccount}
use Rattle.afdx_account.specs.declared.account.Account.{Account}
use Rattle.afdx_account.specs.declared.account.Account.TheVariants as by
use Rattle.afdx_account.specs.Policing.{Terms, byte_terms, byte_weight, frame_terms, frame_weight}
use Rattle.afdx_account.specs.Level.{credited_level}

-- ---- by bytes

-- the terms of an account that is kept by bytes
abbrev pub byte_account_terms : ByteAccount → Terms
byte_account_terms a = byte_terms a.max_size a.bag a.jitter

-- the instant of the account's last offer, in ns
abbrev pub byte_account_since : ByteAccount → ℕ
byte_account_since a = a.since

-- the account's level at an instant, in units
abbrev pub byte_account_level : ByteAccount → ℕ → ℕ
byte_account_level a at = credited_level (byte_account_terms a) a.level (at - a.since)

-- the line time that a unit of the account is worth on a line of this speed, in parts of a ns
abbrev pub byte_account_weight : ByteAccount → Speed → ℕ
byte_account_weight a speed = byte_weight a.bag speed

-- the greatest frame of the account's link (Smax), in bytes
abbrev pub byte_account_greatest : ByteAccount → ℕ
byte_account_greatest a = a.max_size

-- ---- by frames

-- the terms of an account that is kept by frames
abbrev pub frame_account_terms : FrameAccount → Terms
frame_account_terms a = frame_terms a.bag a.jitter

-- the instant of the account's last offer, in ns
abbrev pub frame_account_since : FrameAccount → ℕ
frame_account_since a = a.since

-- the account's level at an instant, in units
abbrev pub frame_account_level : FrameAccount → ℕ → ℕ
frame_account_level a at = credited_level (frame_account_terms a) a.level (at - a.since)

-- the line time that a unit of the account is worth on a line of this speed, in parts of a ns
abbrev pub frame_account_weight : FrameAccount → Speed → ℕ
frame_account_weight a speed = frame_weight a.max_size a.bag speed

-- the greatest frame of the account's link (Smax), in bytes
abbrev pub frame_account_greatest : FrameAccount → ℕ
frame_account_greatest a = a.max_size

-- ---- by either

-- the terms of an account, whichever it is kept by
abbrev pub account_terms : Account → Terms
account_terms (by.Byte a) = byte_account_terms a
account_terms (by.Frame a) = frame_account_terms a

-- the instant of an account's last offer, in ns
abbrev pub account_since : Account → ℕ
account_since (by.Byte a) = byte_account_since a
account_since (by.Frame a) = frame_account_since a

-- an account's level at an instant, in units
abbrev pub account_level : Account → ℕ → ℕ
account_level (by.Byte a) at = byte_account_level a at
account_level (by.Frame a) at = frame_account_level a at

-- the line time that a unit of an account is worth on a line of this speed, in parts of a ns
abbrev pub account_weight : Account → Speed → ℕ
account_weight (by.Byte a) speed = byte_account_weight a speed
account_weight (by.Frame a) speed = frame_account_weight a speed

-- the greatest frame of an account's link (Smax), in bytes
abbrev pub account_greatest : Account → ℕ
account_greatest (by.Byte a) = byte_account_greatest a
account_greatest (by.Frame a) = frame_account_greatest a
