use Rattle.std.proofs.Common.{sym, ap, ◌∙◌}
use Rattle.kit.specs.Forms.{TwoOperands}
use Rattle.kit.proofs.Drafted.{drafted, pair_made}
use Rattle.kit.proofs.operations.make_of_pair.Goals as goal

pub returns-clause-made : goal.returns-clause-made
returns-clause-made c = λ types. drafted TwoOperands c.args.parts.now types types _ _ _ _ (pair_made c.args.parts.now c.in-Some.ty types (sym c.in-Some.ensures))
    (c.draft-2.ensures.attributes ∙ c.new.ensures) (ap (λ v. v.items) c.draft-2.ensures.types ∙ c.in_ok-vec.ensures.items)
