use Rattle.std.proofs.Common.{rules, IsSome}
use Rattle.ir_program.specs.Program.{operation_at}
use Rattle.name_tracker.proofs.GoneLemmas.{unused_still}
use Rattle.name_tracker.proofs.resolving.erase_operation.Goals as goal

pub returns-then-can_erase-clause-unused : goal.returns-then-can_erase-clause-unused
returns-then-can_erase-clause-unused g c =
    let live : IsSome (operation_at c.args.ctx.now.program c.args.op) = search rules in
    unused_still c.args.ctx.now.program c.erase.new.ctx.program c.args.op live c.erase.ensures.erased
