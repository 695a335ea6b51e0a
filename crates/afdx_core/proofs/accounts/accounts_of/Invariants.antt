use Rattle.std.proofs.Common.{◌≡◌, ℕ, ◌<◌, [], length, get_or}
use Rattle.afdx_table.specs.Link.{Link}
use Rattle.afdx_account.specs.declared.account.Account.{Account}
use Rattle.afdx_core.specs.Kept.{AccountAgrees}
use Rattle.afdx_core.proofs.accounts.accounts_of.Given as goal

abbrev pub invariant-loop-place : goal.invariant-loop-place
invariant-loop-place g l = record {
  len : length l.accounts.items ≡ l.place;
  each : (k : ℕ) (m : Link) (a : Account) → k < l.place → AccountAgrees (get_or l.table.links k m) (get_or l.accounts.items k a) [] 0;
}
