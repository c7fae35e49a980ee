-- What is put in of an empty list.
use Rattle.opt_sccp.proofs.Definitions.{are_defined}
use Rattle.opt_sccp.proofs.Propagated.{nothing_put}
use Rattle.opt_sccp.proofs.propagating.know_nothing_put.Goals as goal

pub returns : goal.returns
returns g c op = nothing_put g.D.Meanings.meaning c.args.program.now op
    (record { operations_once = c.know_lists.ensures.operations_once; blocks_once = c.know_lists.ensures.blocks_once; regions_once = c.know_lists.ensures.regions_once; operations = c.know_lists.ensures.operations; blocks = c.know_lists.ensures.blocks; apart = c.know_lists.ensures.operation_apart })
    (are_defined c.args.program.now c.know_values.ensures.definer c.know_values.ensures.typed c.know_values.ensures.stands)
