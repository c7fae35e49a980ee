use Rattle.opt_inside.proofs.reach.paths.is_entry.Goals as goal

pub returns-in-None : goal.returns-in-None
returns-in-None g c = (λ h. cc, λ e. absurd (c.in-None.ensures.parent e.0 (c.know_lists.ensures.blocks e.0 0 c.args.block e.1)))
