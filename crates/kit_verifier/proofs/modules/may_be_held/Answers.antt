use Rattle.std.proofs.Common.{◌∙◌, ap, subst, sym}
use Rattle.opt_inside.proofs.Around.{HasLists}
use Rattle.kit_checks.specs.Words.{is_symbol}
use Rattle.kit_checks.specs.World.{world_of}
use Rattle.kit_verifier.proofs.Held.{fresh_name, held_last}
use Rattle.kit_verifier.proofs.Read.{kind_from}
use Rattle.kit_verifier.proofs.modules.may_be_held.Goals as goal

pub returns : goal.returns
returns c s at a here =
    let lists : HasLists c.program.result.now = record {
      operations_once = c.know_lists.ensures.operations_once;
      blocks_once = c.know_lists.ensures.blocks_once;
      regions_once = c.know_lists.ensures.regions_once;
      operations = c.know_lists.ensures.operations;
      blocks = c.know_lists.ensures.blocks;
      regions = c.know_lists.ensures.regions;
      operation_apart = c.know_lists.ensures.operation_apart;
      block_apart = c.know_lists.ensures.block_apart;
    } in
    held_last (world_of c.args.ctx.now) s a c.is_symbol.result c.is_none_of.result c.if-not-is_symbol.false
    (c.is_symbol.ensures ∙ ap is_symbol (sym (kind_from (world_of c.args.ctx.now) c.args.ctx.now.program c.args.op s.op at.tree c.kind_of.result c.kind_of.ensures)))
    (fresh_name (world_of c.args.ctx.now) c.args.ctx.now.program c.args.root c.args.op s at a here c.args.repeats.now.keys c.requires.table (subst HasLists c.program.ensures lists) c.is_none_of.result c.is_none_of.ensures)
