use Rattle.std.proofs.Common.{sym, ◌∙◌, subst}
use Rattle.std.proofs.lemmas.Option.{same_Some}
use Rattle.ir_program.specs.Lists.{StandsInBlock}
use Rattle.opt_inside.proofs.ReachLemmas.Begins.{tested}
use Rattle.opt_inside.proofs.reach.starts.is_in_block.Goals as goal

pub returns-in-Some : goal.returns-in-Some
returns-in-Some g c =
    let same = tested c.in-Some.parent c.args.block c.eq.result c.eq.ensures in (
      λ h. subst (λ b. StandsInBlock c.args.program.now c.args.op b) (same.0 h) c.in-Some.ensures.parent,
      λ s. same.1 (same_Some c.in-Some.parent c.args.block (sym c.in-Some.is ∙ c.parent_block.ensures.only c.args.block s)),
    )

pub returns-in-None : goal.returns-in-None
returns-in-None g c = (λ h. cc, λ s. absurd (c.in-None.ensures.parent c.args.block s))
