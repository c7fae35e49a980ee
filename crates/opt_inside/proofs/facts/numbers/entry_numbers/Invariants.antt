use Rattle.std.proofs.Common.{◌≡◌, ◌++◌}
use Rattle.std.specs.Prelude.{map}
use Rattle.ir_program.specs.Lists.{regions_in}
use Rattle.opt_inside.specs.Numbered.{numbers_of}
use Rattle.opt_inside.specs.facts.Problem.{block_number, entries_in}
use Rattle.opt_inside.proofs.facts.numbers.entry_numbers.Given as goal

abbrev pub invariant-loop-region : goal.invariant-loop-region
invariant-loop-region g l = record {
  listed : l.yielded ++ l.region-iterator ≡ regions_in l.program l.fn.op;
  row : l.row.items ≡ map (block_number (numbers_of l.inside)) (entries_in l.program l.yielded);
}
