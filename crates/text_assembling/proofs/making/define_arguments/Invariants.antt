use Rattle.std.proofs.Common.{◌≡◌, length, drop}
use Rattle.ir_program.specs.Program.{arguments_at}
use Rattle.text_frames.specs.Worlds.{set_all, values_alone}
use Rattle.text_assembling.proofs.making.define_arguments.Given as goal

abbrev pub invariant-loop-index : goal.invariant-loop-index
invariant-loop-index g l = (l.count ≡ length (arguments_at l.fn.ctx.program l.fn.block))
    × (length l.numbers ≡ length (arguments_at l.fn.ctx.program l.fn.block)
    → set_all l.numbers (values_alone (arguments_at l.fn.ctx.program l.fn.block)) l.initial.values
    ≡ set_all (drop l.index l.numbers) (values_alone (drop l.index (arguments_at l.fn.ctx.program l.fn.block))) l.values)
