use Rattle.ir_entities.specs.Links.{list_at}
use Rattle.ir_entities.proofs.Spans.{has_dropped}
use Rattle.ir_entities.proofs.siblings.Siblings.without_first.Goals as goal

pub next_of-after-requires : goal.next_of-after-requires
next_of-after-requires c = (has_dropped c.args.span.first c.args.span.last (list_at c.args.self.now.lists c.args.list) c.requires).0
