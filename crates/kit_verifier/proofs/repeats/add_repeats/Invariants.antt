use Rattle.std.proofs.Common.{◌≡◌, ◌++◌}
use Rattle.ir_program.specs.Lists.{operations_in}
use Rattle.kit_checks.specs.World.{world_of}
use Rattle.kit_verifier.specs.Repeats.{IsRepeat}
use Rattle.kit_verifier.specs.Sets.{Gains, texts_of}
use Rattle.kit_verifier.proofs.Repeated.{Named}
use Rattle.kit_verifier.proofs.Sets.{Collected}
use Rattle.kit_verifier.proofs.repeats.add_repeats.Given as goal

-- the names of those that were seen are known, and the repeats among them are put to the others
abbrev pub invariant-loop-op : goal.invariant-loop-op
invariant-loop-op l = record {
  listed : l.yielded ++ l.op-iterator ≡ operations_in l.ctx.program l.fn.block;
  names : Collected (Named (world_of l.ctx) l.ctx.program) l.yielded (texts_of l.names.keys);
  repeats : Gains l.initial.repeats.keys l.repeats.keys (IsRepeat (world_of l.ctx) l.ctx.program l.yielded);
}
