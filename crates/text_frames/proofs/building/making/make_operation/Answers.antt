use Rattle.std.proofs.Common.{length}
use Rattle.text_frames.specs.building.Made.{lists_of}
use Rattle.text_frames.proofs.BuildingLemmas.Built.{built_loose, built_all_loose, built_numbers, makes}
use Rattle.text_frames.proofs.BuildingLemmas.Numbers.{gives_still}
use Rattle.text_frames.proofs.building.making.make_operation.Goals as goal

pub fill_regions-requires-clause-op : goal.fill_regions-requires-clause-op
fill_regions-requires-clause-op g c = built_loose c.args.ctx.now c.bare_operation.new.ctx c.in_ok-op.ensures.types c.in_ok-op.op _ c.args.result_types.now _ c.in_ok-op.ensures.built

pub fill_regions-requires-clause-loose : goal.fill_regions-requires-clause-loose
fill_regions-requires-clause-loose g c =
    built_all_loose c.args.ctx.now c.bare_operation.new.ctx c.in_ok-op.ensures.types c.in_ok-op.op _ c.args.result_types.now _ c.in_ok-op.ensures.built (lists_of c.args.regions.now) c.requires.loose

pub returns-clause-made : goal.returns-clause-made
returns-clause-made g c =
    makes c.args.ctx.now c.bare_operation.new.ctx c.in_ok-op.ensures.types c.in_ok-op.op _ c.args.result_types.now _ c.in_ok-op.ensures.built c.fill_regions.new.ctx (lists_of c.args.regions.now) c.fill_regions.ensures.filled

pub returns-clause-numbers : goal.returns-clause-numbers
returns-clause-numbers g c =
    gives_still c.args.ctx.now.program c.bare_operation.new.ctx.program c.fill_regions.new.ctx.program (length c.args.result_types.now)
    (built_numbers c.args.ctx.now c.bare_operation.new.ctx c.in_ok-op.ensures.types c.in_ok-op.op _ c.args.result_types.now _ c.in_ok-op.ensures.built) c.fill_regions.ensures.numbers
