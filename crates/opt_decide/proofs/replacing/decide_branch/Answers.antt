use Rattle.std.proofs.Common.{◌∙◌}
use Rattle.opt_decide.proofs.NewBranches.{still_linked, still_results, still_regions, new_bare, new_live, two, decided}
use Rattle.opt_decide.proofs.replacing.decide_branch.Goals as goal

pub put_in_place-requires-clause-linked : goal.put_in_place-requires-clause-linked
put_in_place-requires-clause-linked g c = still_linked g.D.Meanings.meaning c.args.ctx.now.program c.new_branch.new.ctx.program c.args.decision c.in_ok-branch.branch c.in_ok-branch.ensures.built c.requires.linked

pub put_in_place-requires-clause-results : goal.put_in_place-requires-clause-results
put_in_place-requires-clause-results g c = still_results g.D.Meanings.meaning c.args.ctx.now.program c.new_branch.new.ctx.program c.args.decision c.in_ok-branch.branch c.in_ok-branch.ensures.built ∙ c.requires.results

pub put_in_place-requires-clause-regions : goal.put_in_place-requires-clause-regions
put_in_place-requires-clause-regions g c = still_regions g.D.Meanings.meaning c.args.ctx.now.program c.new_branch.new.ctx.program c.args.decision c.in_ok-branch.branch c.in_ok-branch.ensures.built ∙ c.requires.regions

pub put_in_place-requires-clause-live : goal.put_in_place-requires-clause-live
put_in_place-requires-clause-live g c = new_live g.D.Meanings.meaning c.args.ctx.now.program c.new_branch.new.ctx.program c.args.decision c.in_ok-branch.branch c.in_ok-branch.ensures.built

pub put_in_place-requires-clause-bare : goal.put_in_place-requires-clause-bare
put_in_place-requires-clause-bare g c = new_bare g.D.Meanings.meaning c.args.ctx.now.program c.new_branch.new.ctx.program c.args.decision c.in_ok-branch.branch c.in_ok-branch.ensures.built

pub put_in_place-requires-clause-two : goal.put_in_place-requires-clause-two
put_in_place-requires-clause-two g c = two g.D.Meanings.meaning c.args.ctx.now.program c.new_branch.new.ctx.program c.args.decision c.in_ok-branch.branch c.in_ok-branch.ensures.built

pub returns-clause-decided : goal.returns-clause-decided
returns-clause-decided g c = decided g.D.Meanings.meaning c.args.ctx.now.program c.new_branch.new.ctx.program c.args.decision c.in_ok-branch.branch c.in_ok-branch.ensures.built c.put_in_place.new.ctx.program c.put_in_place.ensures.swaps
