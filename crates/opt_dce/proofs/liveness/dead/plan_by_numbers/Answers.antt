use Rattle.ir_trees.specs.Stands.{ProgramTree, StandsFor}
use Rattle.opt_inside.specs.Numbered.{numbers_of}
use Rattle.opt_inside.proofs.Around.{HasLists}
use Rattle.opt_dce.proofs.LivenessLemmas.Before.{parents_first}
use Rattle.opt_dce.proofs.LivenessLemmas.Ground.{Ground, Occurs, ok_then}
use Rattle.opt_dce.proofs.LivenessLemmas.InRange.{in_range}
use Rattle.opt_dce.proofs.LivenessLemmas.Answered.{answered}
use Rattle.opt_dce.proofs.LivenessLemmas.Going.{Solved}
use Rattle.opt_dce.proofs.liveness.dead.plan_by_numbers.Goals as goal

pub dead-requires : goal.dead-requires
dead-requires g c =
    let lists : HasLists c.args.program.now = record {
      operations_once = c.know_lists.ensures.operations_once;
      blocks_once = c.know_lists.ensures.blocks_once;
      regions_once = c.know_lists.ensures.regions_once;
      operations = c.know_lists.ensures.operations;
      blocks = c.know_lists.ensures.blocks;
      regions = c.know_lists.ensures.regions;
      operation_apart = c.know_lists.ensures.operation_apart;
      block_apart = c.know_lists.ensures.block_apart;
    } in
    let occurs : (t : ProgramTree g.row.D-Operation.Denot g.row.D-Block.Denot) → StandsFor c.args.program.now c.args.op t → Occurs c.args.program.now c.args.op t = (λ t stands. record {
      root = stands;
      sound = c.know_occurrences.ensures.sound t stands;
      found = c.know_occurrences.ensures.found t stands;
      one = c.know_occurrences.ensures.one t stands;
      blocks_sound = c.know_occurrences.ensures.blocks_sound t stands;
      blocks_found = c.know_occurrences.ensures.blocks_found t stands;
      inside = c.know_occurrences.ensures.defined_inside t stands;
    }) in
    let ground : Ground g.D.Meanings.meaning c.args.program.now c.args.op (numbers_of c.args.inside.now) c.in_ok-problem.problem = record {
      lists = lists;
      numbers = c.requires.numbers;
      rows = c.in_ok-problem.ensures;
      there = c.know_there.ensures;
      definer = c.know_values.ensures.definer;
      stands = c.know_values.ensures.stands;
      live = c.know_operands.ensures;
      lawful = g.met.D.OptDialect.lawful;
      edges = c.requires.edges;
      root = c.requires.live;
      parents_first = parents_first c.args.program.now c.args.op (numbers_of c.args.inside.now) lists c.requires.numbers c.know_tree.ensures.0 (occurs c.know_tree.ensures.0 c.know_tree.ensures.1);
    } in
    in_range ground

pub returns : goal.returns
returns g c =
    let lists : HasLists c.args.program.now = record {
      operations_once = c.know_lists.ensures.operations_once;
      blocks_once = c.know_lists.ensures.blocks_once;
      regions_once = c.know_lists.ensures.regions_once;
      operations = c.know_lists.ensures.operations;
      blocks = c.know_lists.ensures.blocks;
      regions = c.know_lists.ensures.regions;
      operation_apart = c.know_lists.ensures.operation_apart;
      block_apart = c.know_lists.ensures.block_apart;
    } in
    let occurs : (t : ProgramTree g.row.D-Operation.Denot g.row.D-Block.Denot) → StandsFor c.args.program.now c.args.op t → Occurs c.args.program.now c.args.op t = (λ t stands. record {
      root = stands;
      sound = c.know_occurrences.ensures.sound t stands;
      found = c.know_occurrences.ensures.found t stands;
      one = c.know_occurrences.ensures.one t stands;
      blocks_sound = c.know_occurrences.ensures.blocks_sound t stands;
      blocks_found = c.know_occurrences.ensures.blocks_found t stands;
      inside = c.know_occurrences.ensures.defined_inside t stands;
    }) in
    let ground : Ground g.D.Meanings.meaning c.args.program.now c.args.op (numbers_of c.args.inside.now) c.in_ok-problem.problem = record {
      lists = lists;
      numbers = c.requires.numbers;
      rows = c.in_ok-problem.ensures;
      there = c.know_there.ensures;
      definer = c.know_values.ensures.definer;
      stands = c.know_values.ensures.stands;
      live = c.know_operands.ensures;
      lawful = g.met.D.OptDialect.lawful;
      edges = c.requires.edges;
      root = c.requires.live;
      parents_first = parents_first c.args.program.now c.args.op (numbers_of c.args.inside.now) lists c.requires.numbers c.know_tree.ensures.0 (occurs c.know_tree.ensures.0 c.know_tree.ensures.1);
    } in
    let solved : Solved c.in_ok-problem.problem c.in_ok-items.items = record { operations = c.in_ok-items.ensures.operations; arguments = c.in_ok-items.ensures.arguments } in
    ok_then c.plan_of.result (λ plan takes t. answered ground c.in_ok-items.items solved plan takes t (occurs t)) c.plan_of.ensures
