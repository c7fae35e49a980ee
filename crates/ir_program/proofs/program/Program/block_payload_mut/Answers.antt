use Rattle.std.proofs.Common.{refl}
use Rattle.ir_program.proofs.made.Carried.{block_payload-sound, block_payload-is, block_payload-seen, block_payload-edits}
use Rattle.ir_program.proofs.defined.KeptTypes.{block_edit-types}
use Rattle.ir_program.proofs.program.Program.block_payload_mut.Goals as goal

pub invariant_of-self-lent : goal.invariant_of-self-lent
invariant_of-self-lent g c = block_payload-sound (record { forest = c.self.inside.forest; values = c.self.inside.values; targets = c.self.inside.targets; counter = c.self.inside.counter }) _ c.self.view_is c.args.block c.block_mut-record.result.now c.block_mut-record.ensures.value c.self.invariant

pub returns : goal.returns
returns g c = (
  (refl, block_payload-is (record { forest = c.self.inside.forest; values = c.self.inside.values; targets = c.self.inside.targets; counter = c.self.inside.counter }) _ c.self.view_is c.args.block c.block_mut-record.result.now c.block_mut-record.ensures.value),
  record {
    lends = record {};
    value = block_payload-seen (record { forest = c.self.inside.forest; values = c.self.inside.values; targets = c.self.inside.targets; counter = c.self.inside.counter }) _ c.self.view_is c.args.block c.block_mut-record.result.now c.block_mut-record.ensures.value;
    edits = block_payload-edits (record { forest = c.self.inside.forest; values = c.self.inside.values; targets = c.self.inside.targets; counter = c.self.inside.counter }) _ c.self.view_is c.args.block c.block_mut-record.result.now c.block_mut-record.ensures.value;
    types = λ w. block_edit-types _ _ _ _ (block_payload-edits (record { forest = c.self.inside.forest; values = c.self.inside.values; targets = c.self.inside.targets; counter = c.self.inside.counter }) _ c.self.view_is c.args.block c.block_mut-record.result.now c.block_mut-record.ensures.value w) (λ x. refl);
    counter = λ w. refl;
  },
)
