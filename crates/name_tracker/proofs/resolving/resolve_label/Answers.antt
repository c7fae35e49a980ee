use Rattle.name_tracker.proofs.resolving.resolve_label.Goals as goal

pub returns-then-ne-clause-unused : goal.returns-then-ne-clause-unused
returns-then-ne-clause-unused g c = λ other. c.erase_block.ensures.unused c.args.stand_in (c.retarget_all_preds_to.ensures.unused other)
