use Rattle.std.proofs.Common.{◌≡◌, Some, slice_get, ap, ◌∙◌, sym}
use Rattle.ir_program.specs.Order.{edges_listed}
use Rattle.ir_queries.proofs.Partway.{get-within, nth-is}
use Rattle.ir_queries.proofs.predecessors.edge_at.Goals as goal

pub unreachable-requires : goal.unreachable-requires
unreachable-requires g c =
    let there = get-within (edges_listed c.args.program.now c.args.block) c.args.i c.requires.within in
    cc (there.1, ap (λ es. slice_get es c.args.i) (sym c.block_uses.ensures.order), sym (nth-is c.block_uses.result c.nth.result c.nth.new.self c.args.i c.nth.ensures.ran), c.in-None.is)

pub returns-clause-exact : goal.returns-clause-exact
returns-clause-exact g c = ap (λ es. slice_get es c.args.i) (sym c.block_uses.ensures.order) ∙ sym (nth-is c.block_uses.result c.nth.result c.nth.new.self c.args.i c.nth.ensures.ran) ∙ c.in-Some.is

pub returns-clause-stands : goal.returns-clause-stands
returns-clause-stands g c =
    let at : slice_get c.block_uses.result c.args.i ≡ Some c.in-Some.edge = sym (nth-is c.block_uses.result c.nth.result c.nth.new.self c.args.i c.nth.ensures.ran) ∙ c.in-Some.is in
    (c.block_uses.ensures.uses.sound c.args.i c.in-Some.edge at).0

pub returns-clause-leads : goal.returns-clause-leads
returns-clause-leads g c =
    let at : slice_get c.block_uses.result c.args.i ≡ Some c.in-Some.edge = sym (nth-is c.block_uses.result c.nth.result c.nth.new.self c.args.i c.nth.ensures.ran) ∙ c.in-Some.is in
    (c.block_uses.ensures.uses.sound c.args.i c.in-Some.edge at).1
