use Rattle.std.proofs.Common.{◌≡◌, length, drop}
use Rattle.ir_program.specs.Program.{results_at}
use Rattle.text_frames.specs.Worlds.{set_all, values_alone}
use Rattle.text_assembling.proofs.making.define_results.Given as goal

abbrev pub invariant-loop-index : goal.invariant-loop-index
invariant-loop-index g l = (l.count ≡ length (results_at l.fn.ctx.program l.fn.op))
    × (length l.numbers ≡ length (results_at l.fn.ctx.program l.fn.op)
    → set_all l.numbers (values_alone (results_at l.fn.ctx.program l.fn.op)) l.initial.values
    ≡ set_all (drop l.index l.numbers) (values_alone (drop l.index (results_at l.fn.ctx.program l.fn.op))) l.values)
