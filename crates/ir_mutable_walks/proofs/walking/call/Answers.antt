use Rattle.std.proofs.Common.{rules}
use Rattle.ir_mutable_walks.specs.Changes.{moment, ChangesOn}
use Rattle.ir_mutable_walks.proofs.walking.call.Goals as goal

pub returns-clause-below : goal.returns-clause-below
returns-clause-below g c =
    let call : ChangesOn g.F.FnMut (moment c.args.callback.now c.args.ctx.now c.args.state.now) c.args.node c.callback.result (moment c.callback.new.self c.callback.new.arg2 c.callback.new.arg3) = search rules in
    c.requires.below (moment c.args.callback.now c.args.ctx.now c.args.state.now) c.args.node c.callback.result (moment c.callback.new.self c.callback.new.arg2 c.callback.new.arg3) c.requires.live call
