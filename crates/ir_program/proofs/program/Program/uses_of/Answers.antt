use Rattle.std.proofs.Common.{ℕ, ◌<◌, ◌^◌, subst, sym}
use Rattle.std.proofs.lemmas.List.{length-map}
use Rattle.ir_program.proofs.used.ListedUses.{listed-uses}
use Rattle.ir_program.proofs.used.SeenUses.{value-uses}
use Rattle.ir_program.proofs.program.Program.uses_of.Goals as goal

pub returns-clause-uses : goal.returns-clause-uses
returns-clause-uses g c = value-uses _ c.args.self.now c.self.view_is c.self.invariant c.thread.result c.args.value c.thread.ensures c.know_named.ensures c.iter.result c.iter.ensures.uses

pub returns-clause-fits : goal.returns-clause-fits
returns-clause-fits g c = subst (λ (n : ℕ). n < 2 ^ 64) (sym (length-map c.iter.result _)) c.iter.ensures.fits

pub returns-clause-order : goal.returns-clause-order
returns-clause-order g c = listed-uses _ c.args.self.now c.self.view_is c.self.invariant c.thread.result c.args.value c.thread.ensures c.iter.result c.iter.ensures.order
