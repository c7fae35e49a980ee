use Rattle.std.proofs.Common.{◌≡◌, take}
use Rattle.ir_program.specs.Edits.{KeepsValues}
use Rattle.opt_chains.specs.MergedValues.{TakesInstead, standing}
use Rattle.opt_chains.proofs.merge_values.replace_arguments.Given as goal

-- the arguments up to here are replaced
abbrev pub invariant-loop-stand_in : goal.invariant-loop-stand_in
invariant-loop-stand_in g l = record {
  replaced : TakesInstead l.fn.ctx.program l.ctx.program (standing (take l.stand_in-index l.stand_ins));
  values : KeepsValues l.fn.ctx.program l.ctx.program;
  types : l.ctx.types ≡ l.fn.ctx.types;
}
