use Rattle.std.proofs.Common.{◌≡◌, ◌∙◌, sym, ap, Some, option_map, subst}
use Rattle.ir_entities.specs.Uses.{key_of}
use Rattle.ir_program.specs.Program.{Program, definition_at}
use Rattle.ir_program.specs.declared.records.Definition.{Definition}
use Rattle.ir_program.proofs.program.Program.thread.Goals as goal

pub returns : goal.returns
returns g c =
    let found : definition_at c.args.self.now c.args.value ≡ Some c.in-Some.definition = sym c.definition.ensures ∙ c.in-Some.is in
    subst (λ (x : Program g.row.O.Denot g.row.B.Denot). definition_at x c.args.value ≡ Some c.in-Some.definition → key_of x.values c.in-Some.definition.thread ≡ Some c.args.value) c.self.view_is
    (λ h. (c.self.invariant.values c.args.value c.in-Some.definition.thread).0 (ap (option_map (λ (d : Definition). d.thread)) h)) found
