use Rattle.std.proofs.Common.{◌≡◌, take}
use Rattle.std.specs.List.{AllZip}
use Rattle.afdx_measure.specs.Wanted.{keeps_lists}
use Rattle.afdx_network.proofs.Beginning.{IsNew}
use Rattle.afdx_network.proofs.windows.sites_of.Given as goal

abbrev pub invariant-loop-table : goal.invariant-loop-table
invariant-loop-table l = record {
  tables : l.table-items ≡ l.network.tables;
  new : AllZip (IsNew (keeps_lists l.wanted)) (take l.table-index l.table-items) l.sites.items;
}
