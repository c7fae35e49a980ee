-- Statuses and refusals of optimisations.
use Rattle.ir_base.specs.declared.growth.GrowError.{GrowError}
use Rattle.ir_base.specs.declared.growth.GrowError.TheVariants.{Memory as GrowMemory, CounterFull as GrowFull}
use Rattle.opt_dialect.specs.declared.status.IRStatus.{IRStatus}
use Rattle.opt_dialect.specs.declared.status.IRStatus.TheVariants.{Unchanged, Changed}
use Rattle.opt_dialect.specs.declared.status.OptError.{OptError}
use Rattle.opt_dialect.specs.declared.status.OptError.TheVariants.{Memory, CounterFull}

-- changed, where one of them is
abbrev pub either : IRStatus → IRStatus → IRStatus
either Changed s = Changed
either Unchanged s = s

-- why an optimisation is refused where something can't grow
abbrev pub error_of : GrowError → OptError
error_of GrowMemory = Memory
error_of GrowFull = CounterFull
