use Rattle.std.proofs.Common.{arith, sym, refl, ◌∙◌}
use Rattle.std.proofs.lemmas.Option.{slice_get-get_or}
use Rattle.ir_entities.specs.Forest.{shape_of}
use Rattle.ir_program.specs.UsersInside.{AreUsersInside}
use Rattle.ir_program.specs.declared.records.Definition.{Definition}
use Rattle.ir_program.proofs.erased.ForgetSteps.{has-thread}
use Rattle.ir_program.proofs.used.UserWalks.{each-thread, one-more}
use Rattle.ir_program.proofs.users.all_users_inside.Goals as goal

pub users_inside-requires-clause-defined : goal.users_inside-requires-clause-defined
users_inside-requires-clause-defined g c = c.requires.defined _ (has-thread _ c.loop-definition.definition-index _ (slice_get-get_or _ _ _ c.loop-definition-test.true))

pub returns-then-not-users_inside : goal.returns-then-not-users_inside
returns-then-not-users_inside g c = (
  λ h. cc,
  λ all. sym c.if-not-users_inside.true ∙ c.users_inside.ensures.1 (all _ (has-thread _ c.loop-definition.definition-index _ (slice_get-get_or _ _ _ c.loop-definition-test.true))),
)

pub loop-definition-preserved : goal.loop-definition-preserved
loop-definition-preserved g c = one-more (λ (d : Definition). AreUsersInside (shape_of c.args.forest.now) c.args.x c.args.values.now d.thread) c.args.definitions.now c.loop-definition.definition-index _ (slice_get-get_or _ _ _ c.loop-definition-test.true) (c.users_inside.ensures.0 c.if-not-users_inside.false) c.loop-definition.invariant

pub returns : goal.returns
returns g c = (
  λ h. each-thread (AreUsersInside (shape_of c.args.forest.now) c.args.x c.args.values.now) c.args.definitions.now (λ j d lt at. c.loop-definition.invariant j d (omega arith) at),
  λ all. refl,
)
