use Rattle.opt_inside.proofs.Around.{HasLists}
use Rattle.opt_inside.proofs.Nested as nesting
use Rattle.opt_inside.proofs.Reached as reach
use Rattle.opt_inside.proofs.Values as values
use Rattle.opt_inside.proofs.Walked as walk
use Rattle.opt_inside.proofs.laws.know_occurrences.Goals as goal

pub returns : goal.returns
returns g c =
    let lists : HasLists c.args.program.now = record {
      operations_once = c.know_lists.ensures.operations_once;
      blocks_once = c.know_lists.ensures.blocks_once;
      regions_once = c.know_lists.ensures.regions_once;
      operations = c.know_lists.ensures.operations;
      blocks = c.know_lists.ensures.blocks;
      regions = c.know_lists.ensures.regions;
      operation_apart = c.know_lists.ensures.operation_apart;
      block_apart = c.know_lists.ensures.block_apart;
    } in
    let p = c.args.program.now in
    let op = c.args.op in
    let once = c.know_handles.ensures.once in
    let blocks_once = c.know_handles.ensures.blocks_once in
    record {
      sound = walk.sound p op lists;
      found = reach.found p op lists;
      one = λ t stands. reach.one t (once t stands);
      blocks_sound = walk.blocks_sound p op lists;
      blocks_found = reach.blocks_found p op lists;
      blocks_one = λ t stands. reach.blocks_one t (blocks_once t stands);
      site = λ t stands. reach.site p op lists t stands (once t stands) (blocks_once t stands);
      operations = reach.found_in_block p op lists;
      beside = λ t stands. reach.beside p op lists t stands (once t stands) (blocks_once t stands);
      nested = λ t stands. nesting.nested t;
      defined = values.defined p lists op;
      defined_inside = values.defined_inside p lists op;
    }
