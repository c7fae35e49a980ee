use Rattle.std.proofs.Common.{sym, subst}
use Rattle.ir_program.specs.Rows.{successors_at}
use Rattle.builtin_ifaces.specs.Branches.{ForwardsRange}
use Rattle.builtin_tables.specs.declared.dialect.SuccessorLayout.{SuccessorLayout}
use Rattle.builtin_ifaces.proofs.RangeLemmas.{item_there}
use Rattle.builtin_ifaces.proofs.branches.BranchOpInterface.successor_operand_range.Goals as goal

pub unreachable-requires : goal.unreachable-requires
unreachable-requires g c =
    let rule = rw c.kind.ensures at c.requires.rule in
    let block = item_there (successors_at c.args.ctx.now.program c.args.op) c.args.s c.requires.within in
    let fits = rule c.args.s block.0 block.1 in
    let forwards = subst (λ (layout : SuccessorLayout). ForwardsRange g.D.BuiltinDialect.held_sizes g.D.BuiltinDialect.segment_count c.args.ctx.now.program c.args.op layout c.args.s fits.start fits.end) (sym c.successor_layout.ensures) fits.forwards in
    cc (c.forwarded.ensures.only fits.start fits.end forwards, c.in-None.is)
