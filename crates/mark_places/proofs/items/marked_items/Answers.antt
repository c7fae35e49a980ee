use Rattle.std.proofs.Common.{◌≡◌, ◌<◌, ℕ, List, arith, ap, length, get_or, subst, ◌∙◌}
use Rattle.mark_places.specs.Items.{ends_of}
use Rattle.mark_places.proofs.ItemLemmas.{ends_within}
use Rattle.mark_places.proofs.items.marked_items.Goals as goal

pub first_items-requires : goal.first_items-requires
first_items-requires c k lt =
    let is : c.deref.result.now ≡ ends_of c.args.events.now = c.deref.ensures.value ∙ c.in_ok-ends.ensures in
    let most = ends_within 0 c.args.events.now k (subst (λ (ends : List ℕ). k < length ends) is lt) in
    let same = ap (λ (ends : List ℕ). get_or ends k 0) is in
    let taken = c.tokens_taken.ensures.taken in
    omega arith
