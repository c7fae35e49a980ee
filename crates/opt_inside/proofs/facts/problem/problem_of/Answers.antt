use Rattle.std.proofs.Common.{◌+◌, List, [], ◌∷◌, length, ap, ◌∙◌}
use Rattle.ir_program.specs.declared.handles.Value.{Value}
use Rattle.opt_inside.specs.Numbered.{numbers_of}
use Rattle.opt_inside.proofs.FactsLemmas.Below.{numbered_linked, numbered_block}
use Rattle.opt_inside.proofs.facts.problem.problem_of.Goals as goal

pub rows_of-requires : goal.rows_of-requires
rows_of-requires g c = numbered_linked c.args.program.now c.args.op (numbers_of c.args.inside.now) c.requires.numbered

pub arguments_of_blocks-requires : goal.arguments_of_blocks-requires
arguments_of_blocks-requires g c = numbered_block c.args.program.now c.args.op (numbers_of c.args.inside.now) c.requires.numbered

pub returns : goal.returns
returns g c =
    let keys = c.as_slice-count.ensures.keys in
    record {
      rows = c.in_ok-rows.ensures;
      arguments = c.in_ok-arguments.ensures;
      values = ap (λ (vs : List Value). length vs + 1) keys;
      entries = c.in_ok-entry_numbers.ensures;
      outside = c.in_ok-outside.ensures.items ∙ ap (λ (vs : List Value). length vs ∷ []) keys;
    }
