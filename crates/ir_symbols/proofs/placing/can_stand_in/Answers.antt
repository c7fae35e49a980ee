use Rattle.std.proofs.Common.{◌≡◌, rules, tests, subst}
use Rattle.ir_program.specs.Lists.{StandsInBlock}
use Rattle.ir_symbols.specs.Insertions.{there, free}
use Rattle.ir_symbols.proofs.Places.{stands_there, apart_from, true_of_not, not_of_true}
use Rattle.ir_symbols.proofs.placing.can_stand_in.Goals as goal

pub returns-in-Some : goal.returns-in-Some
returns-in-Some g c = (
  λ h.
      let same : c.in-Some.block ≡ c.args.body = search (rules, tests) in
      there (subst (λ b. StandsInBlock c.args.program.now c.args.op b) same c.in-Some.ensures.parent),
  λ s.
      let stands : StandsInBlock c.args.program.now c.args.op c.args.body = stands_there c.args.program.now c.args.body c.args.op s c.in-Some.block c.in-Some.ensures.parent in
      let only = c.in-Some.ensures.only c.args.body stands in
      let same : c.in-Some.block ≡ c.args.body = search (rules, tests) in
      search (rules, tests),
)

pub returns-in-None : goal.returns-in-None
returns-in-None g c = (
  λ h. free c.in-None.ensures.parent (λ w. not_of_true c.is_inside.result h (c.is_inside.ensures.1 w)),
  λ s. true_of_not c.is_inside.result (λ t. apart_from c.args.program.now c.args.body c.args.op s c.in-None.ensures.parent (c.is_inside.ensures.0 t)),
)
