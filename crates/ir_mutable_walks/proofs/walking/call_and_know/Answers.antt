use Rattle.ir_mutable_walks.proofs.Stays.{still_inside}
use Rattle.ir_mutable_walks.proofs.walking.call_and_know.Goals as goal

pub returns-clause-leaves : goal.returns-clause-leaves
returns-clause-leaves g c = record {
  before = c.call_inside-answer.ensures.before;
  after = c.know_context.ensures;
  live = c.call_inside-answer.ensures.live;
  below = c.call_inside-answer.ensures.below;
}

pub returns-clause-inside : goal.returns-clause-inside
returns-clause-inside g c =
    still_inside c.args.root (g.C.HasProgram.program_of c.args.ctx.now) (g.C.HasProgram.program_of c.call_inside-answer.new.ctx) c.call_inside-answer.ensures.before c.args.node c.call_inside-answer.ensures.below c.requires.inside c.know_context.ensures
