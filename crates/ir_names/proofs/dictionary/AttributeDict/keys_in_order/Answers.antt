use Rattle.std.proofs.Common.{subst, IsPermutation}
use Rattle.std.proofs.lemmas.List.Sorted.{IsPermutation-map}
use Rattle.ir_names.specs.Dictionary.{texts}
use Rattle.ir_names.proofs.Ordered.{IsSorted-texts}
use Rattle.ir_names.proofs.dictionary.AttributeDict.keys_in_order.Goals as goal

pub returns-clause-permutation : goal.returns-clause-permutation
returns-clause-permutation g c =
    subst (λ names. IsPermutation names (texts c.sort_unstable.new.self.items)) c.in_ok-names.ensures (IsPermutation-map (λ name. name.now) _ _ c.sort_unstable.ensures.permutation)

pub returns-clause-sorted : goal.returns-clause-sorted
returns-clause-sorted g c = IsSorted-texts c.sort_unstable.new.self.items c.sort_unstable.ensures.sorted
