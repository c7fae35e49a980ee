use Rattle.std.proofs.Common.{true≢false, sym, ◌∙◌}
use Rattle.std.proofs.lemmas.Option.{same_Some}
use Rattle.opt_inside.proofs.ReachLemmas.Runs.{run_there, run_nowhere}
use Rattle.opt_inside.proofs.reach.fates.is_visited.Goals as goal

pub returns-in-Some : goal.returns-in-Some
returns-in-Some g c = run_there c.args.program.now c.args.start c.args.inside.now.blocks.keys c.args.fates.now c.args.owner c.args.region (λ b. true≢false (sym (c.begins_at.ensures.1 b) ∙ c.if-begins_at.false)) c.requires.once c.requires.first c.in-Some.block c.in-Some.ensures.parent
    (λ a h. same_Some a c.in-Some.block (sym (c.parent_block.ensures.only a h) ∙ c.in-Some.is))
    c.number_of_block.result c.number_of_block.ensures c.is_entered.result c.is_entered.ensures

pub returns-in-None : goal.returns-in-None
returns-in-None g c = (λ h. absurd (true≢false (sym h)), λ h. absurd (run_nowhere c.args.program.now c.args.start c.args.inside.now.blocks.keys c.args.fates.now c.args.owner c.args.region (λ b. true≢false (sym (c.begins_at.ensures.1 b) ∙ c.if-begins_at.false)) c.in-None.ensures.parent h))
