use Rattle.std.proofs.Common.{refl, ◌∙◌, arith}
use Rattle.std.proofs.lemmas.Option.{slice_get-get_or}
use Rattle.ir_program.specs.Program.{no_handle}
use Rattle.ir_program.specs.declared.handles.DefiningEntity.TheVariants.{Op as ByOp}
use Rattle.opt_chains.specs.declared.merge_values.StandIn.{StandIn}
use Rattle.opt_chains.proofs.MergeValues.{none_instead, one_instead, still_there, keeps_both, keeps_all}
use Rattle.opt_chains.proofs.merge_values.replace_arguments.Goals as goal

-- one that is never taken
abbrev no_stand_in : StandIn
no_stand_in = record { argument = record { definer = ByOp no_handle; number = 0 }; value = record { definer = ByOp no_handle; number = 0 } }

pub loop-stand_in-init : goal.loop-stand_in-init
loop-stand_in-init g c = record { replaced = none_instead c.args.ctx.now.program; values = keeps_all c.args.ctx.now.program; types = refl }

pub replace_argument-requires-clause-argument : goal.replace_argument-requires-clause-argument
replace_argument-requires-clause-argument g c = still_there c.args.ctx.now.program c.loop-stand_in.ctx.program _ c.loop-stand_in.invariant.values (c.requires.live _ (c.loop-stand_in.stand_in-index, slice_get-get_or c.args.stand_ins.now c.loop-stand_in.stand_in-index no_stand_in (omega arith))).0

pub replace_argument-requires-clause-value : goal.replace_argument-requires-clause-value
replace_argument-requires-clause-value g c = still_there c.args.ctx.now.program c.loop-stand_in.ctx.program _ c.loop-stand_in.invariant.values (c.requires.live _ (c.loop-stand_in.stand_in-index, slice_get-get_or c.args.stand_ins.now c.loop-stand_in.stand_in-index no_stand_in (omega arith))).1

pub loop-stand_in-preserved : goal.loop-stand_in-preserved
loop-stand_in-preserved g c = record {
  replaced = one_instead c.args.ctx.now.program c.loop-stand_in.ctx.program c.replace_argument.new.ctx.program c.args.stand_ins.now c.loop-stand_in.stand_in-index _ (slice_get-get_or c.args.stand_ins.now c.loop-stand_in.stand_in-index no_stand_in (omega arith)) c.requires.fixed c.loop-stand_in.invariant.replaced c.replace_argument.ensures.replaced;
  values = keeps_both c.args.ctx.now.program c.loop-stand_in.ctx.program c.replace_argument.new.ctx.program c.loop-stand_in.invariant.values c.replace_argument.ensures.values;
  types = c.replace_argument.ensures.types ∙ c.loop-stand_in.invariant.types;
}
