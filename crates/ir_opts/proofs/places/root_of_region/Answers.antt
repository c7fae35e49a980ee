use Rattle.std.proofs.Common.{sym}
use Rattle.ir_opts.proofs.places.root_of_region.Goals as goal

pub returns-clause-only : goal.returns-clause-only
returns-clause-only g c = λ q h. sym (c.parent_operation.ensures.only q h)
