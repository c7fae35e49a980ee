use Rattle.ir_entities.specs.Links.{list_at}
use Rattle.ir_entities.proofs.Spans.{all_between}
use Rattle.ir_entities.proofs.siblings.Siblings.whole.Goals as goal

pub returns-clause-items : goal.returns-clause-items
returns-clause-items c = all_between c.in_ok-first.first c.in_ok-last.last (list_at c.args.self.now.lists c.args.list) c.in_ok-first.ensures.items c.in_ok-last.ensures.items
