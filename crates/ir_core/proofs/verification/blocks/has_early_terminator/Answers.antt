use Rattle.std.proofs.Common.{false, refl, subst, sym, ◌∙◌}
use Rattle.ir_names.specs.declared.interfaces.OpInterface.TheVariants.{IsTerminator}
use Rattle.ir_program.specs.Lists.{operations_in}
use Rattle.ir_core.specs.verification.Endings.{implements}
use Rattle.ir_core.proofs.VerificationLemmas.Early.{IsLooked, looked-first, looked-next, looked-found, looked-over}
use Rattle.ir_core.proofs.VerificationLemmas.Flaws.{from-early, to-early}
use Rattle.ir_core.proofs.verification.blocks.has_early_terminator.Goals as goal

pub loop-op-init : goal.loop-op-init
loop-op-init g c =
    subst (IsLooked (implements g.D.DialectTables.op_has c.args.ctx.now.program IsTerminator) (operations_in c.args.ctx.now.program c.args.block) false)
    (sym (c.into_iter-op-iterator.ensures.into_iter_gives ∙ c.iter-op-items.ensures.list))
    (looked-first (implements g.D.DialectTables.op_has c.args.ctx.now.program IsTerminator) (operations_in c.args.ctx.now.program c.args.block))

pub loop-op-preserved : goal.loop-op-preserved
loop-op-preserved g c =
    rw c.implements-found.ensures
    (looked-next (implements g.D.DialectTables.op_has c.args.ctx.now.program IsTerminator) (operations_in c.args.ctx.now.program c.args.block) c.loop-op.found c.loop-op.op-iterator c.next.new.self c.in-Some.op c.in-Some.ensures.steps c.if-found.false c.loop-op.invariant)

pub returns-then-found : goal.returns-then-found
returns-then-found g c = (
  λ t. from-early g.D.DialectTables.op_has c.args.ctx.now.program c.args.block
      (looked-found (implements g.D.DialectTables.op_has c.args.ctx.now.program IsTerminator) (operations_in c.args.ctx.now.program c.args.block) c.loop-op.found c.loop-op.op-iterator c.next.new.self c.in-Some.op c.in-Some.ensures.steps c.if-found.true c.loop-op.invariant),
  λ e. refl,
)

pub returns : goal.returns
returns g c = (
  λ t. cc,
  λ e. absurd
      (looked-over (implements g.D.DialectTables.op_has c.args.ctx.now.program IsTerminator) (operations_in c.args.ctx.now.program c.args.block) c.loop-op.found c.loop-op.op-iterator c.in-None.ensures.steps.0 c.loop-op.invariant (to-early g.D.DialectTables.op_has c.args.ctx.now.program c.args.block e)),
)
