use Rattle.std.proofs.Common.{subst}
use Rattle.opt_inside.specs.Numbered.{numbers_of}
use Rattle.opt_inside.specs.facts.Problem.{AreArguments, PairsByIndex}
use Rattle.opt_inside.proofs.FactsLemmas.Lists.{at_index, paired_next, paired_all}
use Rattle.opt_inside.proofs.facts.problem.arguments_of_blocks.Goals as goal

pub argument_numbers-requires : goal.argument_numbers-requires
argument_numbers-requires g c = c.requires _ (c.loop-block.block-index, at_index _ _ c.loop-block.block-index _ c.as_slice-block-items.ensures.keys c.loop-block-test.true)

pub loop-block-preserved : goal.loop-block-preserved
loop-block-preserved g c = paired_next (AreArguments c.args.program.now (numbers_of c.args.inside.now)) _ c.loop-block.arguments.items c.push.new.self.items c.loop-block.block-index _ c.in_ok-argument_numbers.field-0
    (at_index _ _ c.loop-block.block-index _ (λ i. c.as_slice-block-items.result.now) c.loop-block-test.true) c.in_ok-argument_numbers.ensures c.in_ok-push.ensures.items c.loop-block.invariant

pub returns : goal.returns
returns g c =
    subst (λ keys. PairsByIndex (AreArguments c.args.program.now (numbers_of c.args.inside.now)) keys c.loop-block.arguments.items) c.as_slice-block-items.ensures.keys
    (paired_all (AreArguments c.args.program.now (numbers_of c.args.inside.now)) c.as_slice-block-items.result.now c.loop-block.arguments.items c.loop-block.block-index c.loop-block-test.false c.loop-block.invariant)
