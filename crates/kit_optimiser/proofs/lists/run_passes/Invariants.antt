-- The passes before the index are run.
use Rattle.std.proofs.Common.{◌≡◌, map, take}
use Rattle.opt_inside.specs.Outside.{AddsNoneOutside}
use Rattle.kit_optimiser.specs.Outside.{KeepsRest, StaysOutside}
use Rattle.kit_optimiser.specs.Passed.{IsOptimised, RunsPasses, pass_of}
use Rattle.kit_optimiser.proofs.lists.run_passes.Given as goal

abbrev pub invariant-loop-pass : goal.invariant-loop-pass
invariant-loop-pass l = record {
  optimised : IsOptimised (map pass_of (take l.pass-index l.passes)) l.fn.ctx l.ctx l.root;
  runs : RunsPasses (map pass_of (take l.pass-index l.passes)) l.fn.ctx l.ctx l.root;
  outside : KeepsRest l.fn.ctx.program l.ctx.program l.root;
  stays : StaysOutside l.fn.ctx.program l.ctx.program l.root;
  none_come : AddsNoneOutside l.fn.ctx.program l.ctx.program l.root;
  types : l.ctx.types ≡ l.fn.ctx.types;
}
