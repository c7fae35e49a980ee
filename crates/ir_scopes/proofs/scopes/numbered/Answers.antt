use Rattle.std.proofs.Common.{◌≡◌, ◌+◌, ◌∷◌, [], ◌++◌, Some, length, get_or, slice_get, arith}
use Rattle.std.proofs.lemmas.Option.{slice_get_within, slice_get-get_or}
use Rattle.ir_scopes.specs.declared.sites.Site.{Site}
use Rattle.ir_scopes.proofs.ScopeOrders.{numbered_more}
use Rattle.ir_scopes.proofs.scopes.numbered.Goals as goal

pub loop-number-preserved : goal.loop-number-preserved
loop-number-preserved c =
    let ss = c.args.sites.now in
    let i = c.loop-number.number in
    let x : Site = get_or ss i (record { scope = 0; token = 0 }) in
    let here : slice_get ss i ≡ Some x = slice_get-get_or ss i _ c.loop-number-test.true in
    let now = c.loop-number.invariant in
    let added : c.push.new.self.items ≡ c.loop-number.all.items ++ (x.scope, i) ∷ [] = c.in_ok-push.ensures.items in
    let long : length c.push.new.self.items ≡ i + 1 = omega (arith, c.in_ok-push.ensures.len, now.long, c.push.new.self.ok.0, c.loop-number.all.ok.0) in
    record {
      long = long;
      at = rw added (numbered_more ss c.loop-number.all.items i x here now.long now.at);
    }

pub returns : goal.returns
returns c =
    let ss = c.args.sites.now in
    let now = c.loop-number.invariant in
    (omega (arith, now.long, c.loop-number.auto.number-end, c.loop-number-test.false), λ j s at. (let lt = slice_get_within ss j s at in now.at j s (omega (arith, c.loop-number-test.false)) at))
