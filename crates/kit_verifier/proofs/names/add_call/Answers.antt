use Rattle.std.proofs.Common.{◌↔◌, ◌≡◌, ◌⊎◌, subst, sym}
use Rattle.opt_trees.specs.Occurrences.{Has}
use Rattle.kit_verifier.proofs.Sets.{one_more}
use Rattle.kit_verifier.proofs.names.add_call.Goals as goal

pub returns : goal.returns
returns c x =
    subst (λ l. Has x l ↔ (Has x c.args.calls.now.items ⊎ (x ≡ c.args.op))) (sym c.in_ok-push.ensures.items)
    (one_more c.args.calls.now.items c.args.op x)
