use Rattle.std.proofs.Common.{◌≡◌, ◌++◌}
use Rattle.ir_program.specs.Lists.{operations_in}
use Rattle.kit_checks.specs.World.{world_of}
use Rattle.kit_verifier.specs.Names.{AreSymbols}
use Rattle.kit_verifier.specs.Sets.{texts_of}
use Rattle.kit_verifier.proofs.Repeated.{Named}
use Rattle.kit_verifier.proofs.Sets.{Collected}
use Rattle.kit_verifier.proofs.symbols.are_symbols.Given as goal

-- the names of those that were seen are known, and those are what a module may hold
abbrev pub invariant-loop-op : goal.invariant-loop-op
invariant-loop-op l = record {
  listed : l.yielded ++ l.op-iterator ≡ operations_in l.ctx.program l.fn.block;
  names : Collected (Named (world_of l.ctx) l.ctx.program) l.yielded (texts_of l.names.keys);
  symbols : AreSymbols (world_of l.ctx) l.ctx.program l.yielded;
}
