use Rattle.ir_opts.proofs.RewritingLemmas.Unlinked.{still_place}
use Rattle.ir_opts.proofs.rewriting.rewriter.Rewriter.move_operation.Goals as goal

pub put-requires-clause-place : goal.put-requires-clause-place
put-requires-clause-place g c = still_place c.args.ctx.now.program c.unlink.new.ctx.program c.args.op c.requires.linked c.unlink.ensures.edited c.args.to c.requires.place c.requires.apart
