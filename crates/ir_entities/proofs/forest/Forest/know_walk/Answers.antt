use Rattle.std.proofs.Common.{arith, ap, ◌∙◌, ◌≤◌, ◌≡◌, length}
use Rattle.ir_entities.specs.Forest.{Forest}
use Rattle.ir_entities.specs.Walk.{ops_among, walk_of}
use Rattle.ir_entities.proofs.Orders.{walk_once, walk_all, walk_begins, walk_short}
use Rattle.ir_entities.proofs.forest.Forest.know_walk.Goals as goal

pub returns-clause-once : goal.returns-clause-once
returns-clause-once g c = walk_once c.args.self.now c.know_forest.ensures c.know_parents.ensures.one c.know_parents.ensures.once c.args.x c.requires

pub returns-clause-all : goal.returns-clause-all
returns-clause-all g c e = walk_all c.args.self.now c.know_forest.ensures c.know_parents.ensures.one c.know_parents.ensures.once c.args.x c.requires e

pub returns-clause-begins : goal.returns-clause-begins
returns-clause-begins g c = walk_begins c.args.self.now c.know_forest.ensures c.know_parents.ensures.one c.know_parents.ensures.once c.args.x c.requires

pub returns-clause-short : goal.returns-clause-short
returns-clause-short g c =
    let most : length (ops_among (walk_of c.args.self.now c.args.x)) ≤ length c.args.self.now.ops = walk_short c.args.self.now c.know_forest.ensures c.know_parents.ensures.one c.know_parents.ensures.once c.args.x c.requires in
    let count : c.slots-slots.result ≡ length c.args.self.now.ops = c.slots-slots.ensures ∙ ap (λ (w : Forest _ _ _). length w.ops) c.self.view_is in
    omega (arith, most, count)
