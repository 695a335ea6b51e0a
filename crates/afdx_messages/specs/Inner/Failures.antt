-- The failure of a command that a fault below it leads to.
use Rattle.std.specs.Prelude.{None}
use Rattle.afdx_table.specs.declared.fault.TableFault.{TableFault}
use Rattle.afdx_table.specs.declared.fault.TableFault.TheVariants as table
use Rattle.afdx_wiring.specs.declared.fault.NetworkFault.{NetworkFault}
use Rattle.afdx_wiring.specs.declared.fault.NetworkFault.TheVariants as wiring
use Rattle.afdx_alone.specs.declared.fault.AloneFault.{AloneFault}
use Rattle.afdx_alone.specs.declared.fault.AloneFault.TheVariants as alone
use Rattle.afdx_alone.specs.declared.fault.ReadFault.{ReadFault}
use Rattle.afdx_alone.specs.declared.fault.ReadFault.TheVariants as read
use Rattle.afdx_messages.specs.declared.network_failure.NetworkFailure.TheVariants as network
use Rattle.afdx_messages.specs.declared.failure.Failure.{Failure}
use Rattle.afdx_messages.specs.declared.failure.Failure.TheVariants as failure

-- the failure that a fault of `alone` is reported as
abbrev pub alone_failure : AloneFault → Failure
alone_failure alone.Memory = failure.Memory
alone_failure (alone.Capture fault) = failure.Capture fault

-- the failure that a fault of what a reader gives to `alone` is reported as: the reader may have failed besides
abbrev pub read_failure : ReadFault → Failure
read_failure read.Device = failure.Read
read_failure (read.Alone fault) = alone_failure fault

-- the failure that a table's refusal is reported as
abbrev pub table_failure : TableFault → Failure
table_failure table.Memory = failure.Memory
table_failure fault = failure.Table fault

-- the failure that a network's refusal is reported as, with no name of a switch
abbrev pub wiring_failure : NetworkFault → Failure
wiring_failure wiring.Memory = failure.Memory
wiring_failure fault = failure.Network (network.Refused fault None)
