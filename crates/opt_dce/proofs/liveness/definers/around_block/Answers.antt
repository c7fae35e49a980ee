use Rattle.std.proofs.Common.{◌≡◌, subst, sym}
use Rattle.ir_program.specs.Lists.{StandsInOperation}
use Rattle.ir_trees.specs.Searched.{Lists}
use Rattle.opt_dce.proofs.liveness.definers.around_block.Goals as goal

pub returns-in_default : goal.returns-in_default
returns-in_default g c = record { found = λ j e. absurd (cc e); none = λ e q h l. c.in_default.ensures.parent h.region h.in_region }

pub returns : goal.returns
returns g c = record {
  found = λ j e. (c.parent_operation.result, record { region = c.in-Some.region; in_region = c.in-Some.ensures.parent; in_operation = c.parent_operation.ensures.stands }, c.operation_number.ensures.found j e);
  none = λ e q h l.
      let same : h.region ≡ c.in-Some.region = (let w = c.in-Some.ensures.only h.region h.in_region in cc w) in
      let owner = c.parent_operation.ensures.only q (subst (λ r. StandsInOperation c.args.program.now r q) same h.in_operation) in
      c.operation_number.ensures.none e (subst (Lists c.args.inside.now.operations.keys) (sym owner) l);
}
