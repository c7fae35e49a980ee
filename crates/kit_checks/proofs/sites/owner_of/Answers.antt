use Rattle.kit_checks.proofs.Owners.{owner_found, root_has_none}
use Rattle.kit_checks.proofs.Handles.{same_yes, not_same}
use Rattle.kit_checks.proofs.sites.owner_of.Goals as goal

pub returns-then-eq-clause-owner : goal.returns-then-eq-clause-owner
returns-then-eq-clause-owner c =
    root_has_none c.args.ctx.now.program c.args.root c.args.op (same_yes c.args.op c.args.root c.eq.result c.eq.ensures c.if-eq.true)

pub returns-clause-owner : goal.returns-clause-owner
returns-clause-owner c =
    owner_found c.args.ctx.now.program c.args.root c.args.op c.get_parent_op.result c.get_parent_op.ensures.only (not_same c.args.op c.args.root c.eq.result c.eq.ensures c.if-eq.false)
