use Rattle.std.proofs.Common.{sym, subst}
use Rattle.ir_program.specs.Lists.{IsLiveNode}
use Rattle.location_erasing.specs.Located.{LocatesAt}
use Rattle.location_erasing.proofs.Locating.{operation_located, block_is_located}
use Rattle.location_erasing.proofs.erasing.erase_at.Goals as goal

pub returns-in-Operation-clause-erased : goal.returns-in-Operation-clause-erased
returns-in-Operation-clause-erased g c =
    let live = subst (λ e. IsLiveNode c.args.ctx.now.program e) c.in-Operation.is c.requires in
    let done = operation_located g.D.DialectTables.nowhere c.args.ctx.now.program c.set_loc.new.ctx.program c.in-Operation.op c.unknown_location.result c.unknown_location.ensures live c.set_loc.ensures.edited c.set_loc.ensures.values in
    subst (λ e. LocatesAt c.args.ctx.now.program c.set_loc.new.ctx.program e g.D.DialectTables.nowhere) (sym c.in-Operation.is) done

pub returns-in-BasicBlock-clause-erased : goal.returns-in-BasicBlock-clause-erased
returns-in-BasicBlock-clause-erased g c =
    let live = subst (λ e. IsLiveNode c.args.ctx.now.program e) c.in-BasicBlock.is c.requires in
    let done = block_is_located g.D.DialectTables.nowhere c.args.ctx.now.program c.set_loc-in-BasicBlock.new.ctx.program c.in-BasicBlock.block c.unknown_location-in-BasicBlock.result c.unknown_location-in-BasicBlock.ensures live c.set_loc-in-BasicBlock.ensures.edited c.set_loc-in-BasicBlock.ensures.values in
    subst (λ e. LocatesAt c.args.ctx.now.program c.set_loc-in-BasicBlock.new.ctx.program e g.D.DialectTables.nowhere) (sym c.in-BasicBlock.is) done
