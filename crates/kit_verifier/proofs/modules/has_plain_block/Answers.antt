use Rattle.std.proofs.Common.{◌∙◌, eq-eqb, eqb-true, sym}
use Rattle.kit_verifier.proofs.Bodies.{last_block, more_blocks, no_block}
use Rattle.kit_verifier.proofs.modules.has_plain_block.Goals as goal

pub returns-in-Some-next_block : goal.returns-in-Some-next_block
returns-in-Some-next_block g c =
    let first = sym c.first_block.ensures.first ∙ c.in-Some.is in
    more_blocks c.args.program.now c.args.region c.in-Some.block first c.in-Some-next_block.field-0 (sym (c.next_block.ensures.next c.args.region 0 first) ∙ c.in-Some-next_block.is)

pub returns-in-None-next_block : goal.returns-in-None-next_block
returns-in-None-next_block g c =
    let first = sym c.first_block.ensures.first ∙ c.in-Some.is in
    last_block c.args.program.now c.args.region c.in-Some.block first c.argument_count.result _ (sym (c.next_block.ensures.next c.args.region 0 first) ∙ c.in-None-next_block.is) c.argument_count.ensures
    (eqb-true c.argument_count.result 0, eq-eqb c.argument_count.result 0)

pub returns-in-None : goal.returns-in-None
returns-in-None g c = no_block c.args.program.now c.args.region (sym c.first_block.ensures.first ∙ c.in-None.is)
