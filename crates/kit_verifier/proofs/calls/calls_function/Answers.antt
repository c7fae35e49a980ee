use Rattle.std.proofs.Common.{ap, option_map, subst}
use Rattle.opt_inside.proofs.Around.{HasLists}
use Rattle.kit_checks.specs.World.{world_of}
use Rattle.kit_verifier.specs.Callees.{callable_of, callables_of}
use Rattle.kit_verifier.proofs.Called.{calls_it, calls_none, calls_unlisted}
use Rattle.kit_verifier.proofs.calls.calls_function.Goals as goal

pub returns-then-not-has_callee : goal.returns-then-not-has_callee
returns-then-not-has_callee c s at =
    let lists : HasLists c.program.result.now = record {
      operations_once = c.know_lists.ensures.operations_once;
      blocks_once = c.know_lists.ensures.blocks_once;
      regions_once = c.know_lists.ensures.regions_once;
      operations = c.know_lists.ensures.operations;
      blocks = c.know_lists.ensures.blocks;
      regions = c.know_lists.ensures.regions;
      operation_apart = c.know_lists.ensures.operation_apart;
      block_apart = c.know_lists.ensures.block_apart;
    } in
    calls_unlisted (world_of c.args.ctx.now) c.args.ctx.now.program c.args.root c.args.op (callables_of c.args.callees.now.keys) c.requires.table (subst HasLists c.program.ensures lists) s at (option_map callable_of c.called_by.result) (c.called_by.ensures s at)
    (callable_of c.in-Some.callee) (ap (option_map callable_of) c.in-Some.is) c.has_callee.result c.if-not-has_callee.true c.has_callee.ensures

pub returns-else-not-has_callee : goal.returns-else-not-has_callee
returns-else-not-has_callee c s at =
    let lists : HasLists c.program.result.now = record {
      operations_once = c.know_lists.ensures.operations_once;
      blocks_once = c.know_lists.ensures.blocks_once;
      regions_once = c.know_lists.ensures.regions_once;
      operations = c.know_lists.ensures.operations;
      blocks = c.know_lists.ensures.blocks;
      regions = c.know_lists.ensures.regions;
      operation_apart = c.know_lists.ensures.operation_apart;
      block_apart = c.know_lists.ensures.block_apart;
    } in
    calls_it (world_of c.args.ctx.now) c.args.ctx.now.program c.args.root c.args.op (callables_of c.args.callees.now.keys) c.requires.table (subst HasLists c.program.ensures lists) s at (option_map callable_of c.called_by.result) (c.called_by.ensures s at)
    (callable_of c.in-Some.callee) (ap (option_map callable_of) c.in-Some.is) c.has_callee.result c.if-not-has_callee.false c.has_callee.ensures c.has_signature.result (c.has_signature.ensures s.op at.tree)

pub returns-in-None : goal.returns-in-None
returns-in-None c s at =
    let lists : HasLists c.program.result.now = record {
      operations_once = c.know_lists.ensures.operations_once;
      blocks_once = c.know_lists.ensures.blocks_once;
      regions_once = c.know_lists.ensures.regions_once;
      operations = c.know_lists.ensures.operations;
      blocks = c.know_lists.ensures.blocks;
      regions = c.know_lists.ensures.regions;
      operation_apart = c.know_lists.ensures.operation_apart;
      block_apart = c.know_lists.ensures.block_apart;
    } in
    calls_none (world_of c.args.ctx.now) c.args.ctx.now.program c.args.root c.args.op (callables_of c.args.callees.now.keys) c.requires.table (subst HasLists c.program.ensures lists) s at (option_map callable_of c.called_by.result) (c.called_by.ensures s at)
    (ap (option_map callable_of) c.in-None.is)
