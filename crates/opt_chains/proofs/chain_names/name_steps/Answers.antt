use Rattle.std.proofs.lemmas.Option.{slice_get-get_or}
use Rattle.opt_chains.specs.declared.chain_steps.ChainStep.{ChainStep}
use Rattle.opt_chains.proofs.ChainNames.{one_named}
use Rattle.opt_chains.proofs.chain_names.name_steps.Goals as goal

-- a step that is never taken
abbrev no_step : ChainStep
no_step = record { first = 0; before = 0; to = 0 }

pub name_step-requires : goal.name_step-requires
name_step-requires g c = c.requires c.loop-step.step-index _ (slice_get-get_or c.args.steps.now c.loop-step.step-index no_step c.loop-step-test.true)

pub loop-step-preserved : goal.loop-step-preserved
loop-step-preserved g c = one_named g.D.Meanings.meaning c.args.program.now c.args.blocks.now c.args.steps.now c.loop-step.step-index c.loop-step.joins.items c.push.new.self.items _ _ c.loop-step.invariant
    (slice_get-get_or c.args.steps.now c.loop-step.step-index no_step c.loop-step-test.true) c.name_step.ensures c.in_ok-push.ensures.items
