use Rattle.std.proofs.Common.{⊎_elim, refl, subst, sym, true}
use Rattle.kit_checks.specs.Searching.{TellsAllAt}
use Rattle.kit_checks.specs.World.{world_of}
use Rattle.kit_checks.proofs.search.keeps_all_at.Goals as goal

pub returns-in-Operation : goal.returns-in-Operation
returns-in-Operation c =
    subst (λ x. TellsAllAt (world_of c.args.ctx.now) c.args.ctx.now.program c.args.root x c.keeps_all.result)
    (sym c.in-Operation.is) c.keeps_all.ensures

pub returns-in-BasicBlock : goal.returns-in-BasicBlock
returns-in-BasicBlock c =
    ⊎_elim
    (λ b. subst (λ x. TellsAllAt (world_of c.args.ctx.now) c.args.ctx.now.program c.args.root x true) (sym b.1) refl)
    (λ r. subst (λ x. TellsAllAt (world_of c.args.ctx.now) c.args.ctx.now.program c.args.root x true) (sym r.1) refl)
    c.in-BasicBlock.is
