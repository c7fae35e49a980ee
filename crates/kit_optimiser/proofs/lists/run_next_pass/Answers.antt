use Rattle.std.proofs.lemmas.Result.{on_ok_weaker}
use Rattle.kit_optimiser.specs.Passed.{pass_of}
use Rattle.kit_optimiser.proofs.PassLists.{goes_on}
use Rattle.kit_optimiser.proofs.lists.run_next_pass.Goals as goal

pub returns-clause-goes_on : goal.returns-clause-goes_on
returns-clause-goes_on c = on_ok_weaker c.run_pass.result
    (λ passed. goes_on (pass_of c.args.pass) c.args.ctx.now c.run_pass.new.ctx c.args.root c.know_sound.ensures passed)
    c.run_pass.ensures.passed
