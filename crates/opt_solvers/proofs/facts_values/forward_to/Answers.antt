use Rattle.std.proofs.Common.{◌≡◌, true, false, Some, sym, ap, ◌∙◌}
use Rattle.std.proofs.lemmas.Option.{same_Some}
use Rattle.opt_solvers.proofs.FactsTelling.{slot_lowered, slot_untaken}
use Rattle.opt_solvers.proofs.facts_values.forward_to.Goals as goal

pub returns-in_ok-lower : goal.returns-in_ok-lower
returns-in_ok-lower g c = slot_lowered c.args.taken.now c.args.slot c.args.fact c.args.found.now c.lower.new.self (c.is_taken.ensures ∙ ap (λ b. Some b) c.if-is_taken.true) c.in_ok-lower.ensures

pub returns-else-is_taken : goal.returns-else-is_taken
returns-else-is_taken g c = slot_untaken c.args.taken.now c.args.slot c.args.fact c.args.found.now
    (λ t. let e : true ≡ false = same_Some true false (sym t ∙ (c.is_taken.ensures ∙ ap (λ b. Some b) c.if-is_taken.false)) in absurd cc)
