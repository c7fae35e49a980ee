use Rattle.ir_walks.proofs.Trees.{inside}
use Rattle.ir_mutable_walks.proofs.Stays.{live_in, root_live}
use Rattle.ir_mutable_walks.proofs.walking.call_inside.Goals as goal

pub call-requires-clause-live : goal.call-requires-clause-live
call-requires-clause-live g c =
    let p = g.C.HasProgram.program_of c.args.ctx.now in
    live_in p c.args.root c.know_context.ensures c.args.node (inside p c.args.root c.args.node c.requires.inside)

pub returns-clause-live : goal.returns-clause-live
returns-clause-live g c = root_live c.args.root (g.C.HasProgram.program_of c.args.ctx.now) (g.C.HasProgram.program_of c.call.new.ctx) c.know_context.ensures c.args.node c.call.ensures.below c.requires.inside c.requires.live
