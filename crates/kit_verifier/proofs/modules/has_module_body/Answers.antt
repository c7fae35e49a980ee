use Rattle.std.proofs.Common.{◌∙◌, sym}
use Rattle.kit_verifier.proofs.Bodies.{no_region, one_region, other_count}
use Rattle.kit_verifier.proofs.modules.has_module_body.Goals as goal

pub returns-then-region_count-ne1 : goal.returns-then-region_count-ne1
returns-then-region_count-ne1 g c = other_count c.args.program.now c.args.op c.region_count.result c.region_count.ensures c.if-region_count-ne1.true

pub returns-in-Some : goal.returns-in-Some
returns-in-Some g c =
    one_region c.args.program.now c.args.op c.in-Some.region c.region_count.result c.has_plain_block.result c.region_count.ensures c.if-region_count-ne1.false
    (sym c.region.ensures.region ∙ c.in-Some.is) c.has_plain_block.ensures

pub returns-in-None : goal.returns-in-None
returns-in-None g c = no_region c.args.program.now c.args.op c.region_count.result c.region_count.ensures c.if-region_count-ne1.false (sym c.region.ensures.region ∙ c.in-None.is)
