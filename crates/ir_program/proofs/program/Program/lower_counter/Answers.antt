use Rattle.std.proofs.Common.{◌<◌, sym, subst}
use Rattle.ir_program.specs.Program.{Program, IsLiveValue}
use Rattle.ir_program.specs.declared.handles.Value.{Value}
use Rattle.ir_program.proofs.made.TakeBacks.{counter-lowered}
use Rattle.ir_program.proofs.program.Program.lower_counter.Goals as goal

pub invariant_of-self : goal.invariant_of-self
invariant_of-self g c = counter-lowered (record { forest = c.self.inside.forest; values = c.self.inside.values; targets = c.self.inside.targets; counter = c.self.inside.counter }) c.self.invariant c.args.counter
    (subst (λ (x : Program g.row.O.Denot g.row.B.Denot). (v : Value) → IsLiveValue x v → v.number < c.args.counter) (sym c.self.view_is) c.requires)
