use Rattle.ir_entities.proofs.Orders.{child_next, after_next}
use Rattle.ir_entities.proofs.forest.Forest.next_inside.Goals as goal

pub returns-in-Some-clause-rest : goal.returns-in-Some-clause-rest
returns-in-Some-clause-rest g c = (child_next c.args.self.now c.know_forest.ensures c.know_parents.ensures.one c.know_parents.ensures.once c.args.x c.args.at c.requires.used c.requires.inside c.in-Some.child c.in-Some.ensures).0

pub returns-in-Some-clause-inside : goal.returns-in-Some-clause-inside
returns-in-Some-clause-inside g c = let t = child_next c.args.self.now c.know_forest.ensures c.know_parents.ensures.one c.know_parents.ensures.once c.args.x c.args.at c.requires.used c.requires.inside c.in-Some.child c.in-Some.ensures in (t.1, t.2)

pub returns-clause-rest : goal.returns-clause-rest
returns-clause-rest g c = (after_next c.args.self.now c.know_forest.ensures c.know_parents.ensures.one c.know_parents.ensures.once c.args.x c.args.at c.requires.used c.requires.inside c.next_after.result c.in_default.ensures c.next_after.ensures).0

pub returns-clause-inside : goal.returns-clause-inside
returns-clause-inside g c = (after_next c.args.self.now c.know_forest.ensures c.know_parents.ensures.one c.know_parents.ensures.once c.args.x c.args.at c.requires.used c.requires.inside c.next_after.result c.in_default.ensures c.next_after.ensures).1
