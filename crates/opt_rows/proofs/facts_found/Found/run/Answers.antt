use Rattle.std.proofs.Common.{◌≡◌, false, refl}
use Rattle.opt_rows.proofs.FactsFalling.{blocks_run, ran, not_ran}
use Rattle.opt_rows.proofs.facts_found.Found.run.Goals as goal

pub returns-in_ok-push : goal.returns-in_ok-push
returns-in_ok-push g c =
    let f : c.index.result.now ≡ false = c.if-not-index.true in
    ran c.args.self.now _ c.args.block c.index.result.now c.requires c.index.ensures f refl refl refl c.in_ok-push.ensures.items

pub returns-else-not-index : goal.returns-else-not-index
returns-else-not-index g c = not_ran c.args.self.now c.args.block c.index.result.now c.requires c.index.ensures c.if-not-index.false

pub invariant_of-self : goal.invariant_of-self
invariant_of-self g c =
    let old = c.args.self.now in
    record {
      blocks_run = blocks_run old.runs.items old.blocks.items c.push.new.self.items c.args.block _ c.requires old.blocks_run c.push.ensures.items;
      values_in = old.values_in;
    }
