use Rattle.std.proofs.Common.{ℕ, ◌∙◌, List}
use Rattle.ir_entities.specs.Links.{list_at}
use Rattle.ir_entities.proofs.Appends.{first_has, moved, IsMoving}
use Rattle.ir_entities.proofs.siblings.Siblings.append.Goals as goal

pub unlink-requires-clause-linked : goal.unlink-requires-clause-linked
unlink-requires-clause-linked c = (c.args.donor, first_has c.in-Some.node (list_at c.loop-node.self.lists c.args.donor) c.in-Some.ensures.first)

pub loop-node-preserved : goal.loop-node-preserved
loop-node-preserved c =
    let step : (d r : List ℕ) × IsMoving c.args.self.now.lists c.args.donee c.args.donor d r c.insert_at_back.new.self.lists = moved c.args.self.now.lists c.args.donee c.args.donor c.in-Some.node c.loop-node.invariant.0 c.loop-node.invariant.1 c.loop-node.self.lists c.unlink.new.self.lists c.insert_at_back.new.self.lists
    c.requires.differ c.requires.donee c.requires.donor c.loop-node.invariant.2 c.in-Some.ensures.first
    (c.unlink.ensures.one c.args.donor (first_has c.in-Some.node (list_at c.loop-node.self.lists c.args.donor) c.in-Some.ensures.first)) c.insert_at_back.ensures.lists in
    (step.0, step.1, step.2, c.insert_at_back.ensures.nodes ∙ c.unlink.ensures.nodes ∙ c.loop-node.invariant.3)
