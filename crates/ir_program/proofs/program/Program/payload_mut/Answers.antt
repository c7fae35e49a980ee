use Rattle.std.proofs.Common.{refl}
use Rattle.ir_program.proofs.made.Carried.{payload-sound, payload-is, payload-seen, payload-edits}
use Rattle.ir_program.proofs.defined.KeptTypes.{operation_edit-types}
use Rattle.ir_program.proofs.program.Program.payload_mut.Goals as goal

pub invariant_of-self-lent : goal.invariant_of-self-lent
invariant_of-self-lent g c = payload-sound (record { forest = c.self.inside.forest; values = c.self.inside.values; targets = c.self.inside.targets; counter = c.self.inside.counter }) _ c.self.view_is c.args.op c.op_mut-record.result.now c.op_mut-record.ensures.value c.self.invariant

pub returns : goal.returns
returns g c = (
  (refl, payload-is (record { forest = c.self.inside.forest; values = c.self.inside.values; targets = c.self.inside.targets; counter = c.self.inside.counter }) _ c.self.view_is c.args.op c.op_mut-record.result.now c.op_mut-record.ensures.value),
  record {
    lends = record {};
    value = payload-seen (record { forest = c.self.inside.forest; values = c.self.inside.values; targets = c.self.inside.targets; counter = c.self.inside.counter }) _ c.self.view_is c.args.op c.op_mut-record.result.now c.op_mut-record.ensures.value;
    edits = payload-edits (record { forest = c.self.inside.forest; values = c.self.inside.values; targets = c.self.inside.targets; counter = c.self.inside.counter }) _ c.self.view_is c.args.op c.op_mut-record.result.now c.op_mut-record.ensures.value;
    types = λ w. operation_edit-types _ _ _ _ (payload-edits (record { forest = c.self.inside.forest; values = c.self.inside.values; targets = c.self.inside.targets; counter = c.self.inside.counter }) _ c.self.view_is c.args.op c.op_mut-record.result.now c.op_mut-record.ensures.value w) (λ x. refl);
    counter = λ w. refl;
  },
)
