use Rattle.std.proofs.Common.{ap, get_or}
use Rattle.ir_program.proofs.defined.Stands.{result-read, result-shown, result-live}
use Rattle.ir_program.proofs.program.Program.result.Goals as goal

pub returns-clause-typed : goal.returns-clause-typed
returns-clause-typed g c = result-live _ _ c.self.view_is c.self.invariant c.args.op c.args.index (get_or c.deref.result.now c.args.index (record { number = 0; ty = record { number = 0 }; thread = 0 }))
    (result-read _ _ c.self.view_is c.args.op c.op.result.now c.op.ensures c.args.index c.requires.within (get_or c.deref.result.now c.args.index (record { number = 0; ty = record { number = 0 }; thread = 0 })) (record { number = 0; ty = record { number = 0 }; thread = 0 }) (ap (λ xs. get_or xs c.args.index (record { number = 0; ty = record { number = 0 }; thread = 0 })) c.deref.ensures)) c.new.result c.new.ensures

pub returns-clause-value : goal.returns-clause-value
returns-clause-value g c = result-shown _ _ c.self.view_is c.args.op c.args.index (get_or c.deref.result.now c.args.index (record { number = 0; ty = record { number = 0 }; thread = 0 }))
    (result-read _ _ c.self.view_is c.args.op c.op.result.now c.op.ensures c.args.index c.requires.within (get_or c.deref.result.now c.args.index (record { number = 0; ty = record { number = 0 }; thread = 0 })) (record { number = 0; ty = record { number = 0 }; thread = 0 }) (ap (λ xs. get_or xs c.args.index (record { number = 0; ty = record { number = 0 }; thread = 0 })) c.deref.ensures)) c.new.result c.new.ensures
