use Rattle.std.proofs.Common.{◌∙◌, ap, refl, ℕ, List, nat_eq, ◌+◌}
use Rattle.kit_flat.specs.Machine.{bind_all}
use Rattle.kit_flat.specs.View.{numbers_of}
use Rattle.kit_flat.specs.declared.frames.FlatFrame.{FlatFrame}
use Rattle.kit_flat.proofs.Steps.{resumes_at}
use Rattle.kit_flat.proofs.interpreter.resume.Goals as goal

pub returns-clause-resumes : goal.returns-clause-resumes
returns-clause-resumes c =
    let b : FlatFrame = record {
      function = c.args.top.now.function;
      block = c.args.top.now.block;
      index =
          c.args.top.now.index + 1;
      values = c.bind_list.new.values;
    } in
    resumes_at c.args.code.now.functions.items c.args.top.now b c.in-Some.instruction.now c.args.numbers.now
    c.in-Some.ensures refl refl refl
    (c.bind_list.ensures.numbers ∙ ap (λ (l : List ℕ). bind_all nat_eq (numbers_of c.args.top.now.values.items) l
    c.args.numbers.now) c.results_in.ensures)
