use Rattle.std.proofs.Common.{IsSome, refl, sym, subst}
use Rattle.ir_mutable_walks_tests.proofs.Edits.{put, unmade, apart}
use Rattle.ir_mutable_walks_tests.proofs.callers.append.Goals as goal

pub insert_operation_at_back-requires-clause-block : goal.insert_operation_at_back-requires-clause-block
insert_operation_at_back-requires-clause-block c = subst IsSome (sym (c.in-Ok.ensures.made.blocks c.args.block)) c.requires

pub insert_operation_at_back-requires-clause-op : goal.insert_operation_at_back-requires-clause-op
insert_operation_at_back-requires-clause-op c = subst IsSome (sym c.in-Ok.ensures.made.made) refl

pub insert_operation_at_back-requires-clause-apart : goal.insert_operation_at_back-requires-clause-apart
insert_operation_at_back-requires-clause-apart c = apart c.args.program.now c.new_operation.new.self c.in-Ok.op c.args.name c.in-Ok.ensures.made c.args.block

pub returns-in-Ok : goal.returns-in-Ok
returns-in-Ok c = put c.args.program.now c.new_operation.new.self c.insert_operation_at_back.new.self c.args.block c.in-Ok.op c.args.name _ c.requires c.in-Ok.ensures.made c.insert_operation_at_back.ensures.edited

pub returns-in-Err : goal.returns-in-Err
returns-in-Err c = unmade c.args.program.now c.new_operation.new.self c.args.block c.requires c.in-Err.ensures.err
