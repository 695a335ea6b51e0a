-- What the offer of a frame to an account answers, and what it makes of the account.
use Rattle.std.specs.Prelude.{◌≡◌, Bool}
use Rattle.afdx_account.specs.declared.byte_account.ByteAccount.{ByteAccount}
use Rattle.afdx_account.specs.declared.frame.Frame.{Frame}
use Rattle.afdx_account.specs.Account.{byte_account_terms, byte_account_since, byte_account_level}
use Rattle.afdx_account.specs.Level.{PassesWhatConforms}

-- the account was offered the frame, and answered whether it passes it
pub record IsOffered (old new : ByteAccount) (f : Frame) (answer : Bool) : Type 0 where
  pub terms : byte_account_terms new ≡ byte_account_terms old
  pub since : byte_account_since new ≡ f.stamp
  pub answers : PassesWhatConforms (byte_account_terms old) (byte_account_since old) (byte_account_level old (byte_account_since old)) f.stamp f.size answer (byte_account_level new f.stamp)
