use Rattle.std.proofs.Common.{◌≡◌, map, take}
use Rattle.irkit_words.specs.Requests.{pass_name}
use Rattle.irkit_words.proofs.request.passes_of.Given as goal

abbrev pub invariant-loop-name : goal.invariant-loop-name
invariant-loop-name l = map pass_name l.passes.items ≡ map (λ n. n.now) (take l.name-index l.names)
