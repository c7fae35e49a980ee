use Rattle.std.proofs.Common.{OnOk, subst, sym}
use Rattle.kit_checks.specs.World.{world_of}
use Rattle.kit_verifier.specs.Repeats.{IsRepeatAt}
use Rattle.kit_verifier.specs.Sets.{Gains}
use Rattle.kit_verifier.proofs.repeats.add_repeats_at.Goals as goal

pub returns-in-BasicBlock : goal.returns-in-BasicBlock
returns-in-BasicBlock c =
    subst (λ n. OnOk c.add_repeats.result (Gains c.args.repeats.now.keys c.add_repeats.new.repeats.keys (IsRepeatAt (world_of c.args.ctx.now) c.args.ctx.now.program n)))
    (sym c.in-BasicBlock.is) c.add_repeats.ensures
