use Rattle.kit_checks.specs.World.{world_of}
use Rattle.kit_verifier.proofs.NameRules.{holds_module, one_call}
use Rattle.kit_verifier.proofs.names.gather_operation.Goals as goal

pub returns-in-Module-clause-holds : goal.returns-in-Module-clause-holds
returns-in-Module-clause-holds c =
    holds_module (world_of c.args.ctx.now) c.args.ctx.now.program c.args.op c.kind_of.result c.kind_of.ensures
    c.in-Module.is c.has_body.result c.has_body.ensures

pub returns-in_ok-add_call-in-Call-clause-calls : goal.returns-in_ok-add_call-in-Call-clause-calls
returns-in_ok-add_call-in-Call-clause-calls c =
    one_call (world_of c.args.ctx.now) c.args.ctx.now.program c.args.op c.kind_of.result c.kind_of.ensures
    c.in-Call.is c.args.calls.now.items c.add_call.new.calls.items c.in_ok-add_call-in-Call.ensures
