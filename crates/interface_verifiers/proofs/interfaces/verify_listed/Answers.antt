use Rattle.std.proofs.Common.{◌≡◌, ◌<◌, Some, slice_get, length, arith}
use Rattle.std.proofs.lemmas.Option.{slice_get-get_or}
use Rattle.builtin_ifaces.proofs.Within.{listed_within}
use Rattle.interface_verifiers.proofs.ListLemmas.{one_more}
use Rattle.interface_verifiers.proofs.interfaces.verify_listed.Goals as goal

pub loop-listed-preserved : goal.loop-listed-preserved
loop-listed-preserved g c =
    let xs = c.args.interfaces.now in
    let n = c.loop-listed.listed-index in
    one_more xs _ n _ (slice_get-get_or xs n _ c.loop-listed-test.true) c.in-Ok.ensures.exact c.loop-listed.invariant

pub returns-in-Err-clause-exact : goal.returns-in-Err-clause-exact
returns-in-Err-clause-exact g c =
    let xs = c.args.interfaces.now in
    let n = c.loop-listed.listed-index in
    λ all. c.in-Err.ensures.exact (all n _ (slice_get-get_or xs n _ c.loop-listed-test.true))

pub returns-in-Err-clause-fault : goal.returns-in-Err-clause-fault
returns-in-Err-clause-fault g c =
    let xs = c.args.interfaces.now in
    let n = c.loop-listed.listed-index in
    record {
      index = n;
      here = slice_get-get_or xs n _ c.loop-listed-test.true;
      before = λ k j lt at. c.loop-listed.invariant k lt j at;
      unmet = c.in-Err.ensures.exact;
      says = c.in-Err.ensures.fault;
    }

pub returns-clause-exact : goal.returns-clause-exact
returns-clause-exact g c =
    let xs = c.args.interfaces.now in
    λ k i at. c.loop-listed.invariant k (omega (arith, listed_within xs k i at, c.loop-listed-test.false)) i at
