use Rattle.std.proofs.Common.{rules, ◌≡◌, false, length, replicate, ap, arith}
use Rattle.opt_rows.specs.declared.known.Known.TheVariants.{Undetermined}
use Rattle.opt_rows.proofs.FactsEntering.{nothing}
use Rattle.opt_rows.proofs.facts_found.Found.new.Goals as goal

pub invariant_of-result : goal.invariant_of-result
invariant_of-result g c =
    let b = ap length c.new.ensures.items in let v = ap length c.new-2.ensures.items in record {
      blocks_run = λ k d h. absurd (omega (arith, h, b));
      values_in = λ k d h. absurd (omega (arith, h, v));
    }

pub returns : goal.returns
returns g c =
    let r : c.in_ok-vec.field-0.items ≡ replicate c.args.blocks false = search rules in
    let k : c.in_ok-vec-2.field-0.items ≡ replicate c.args.values Undetermined = search rules in
    nothing _ c.args.blocks c.args.values r k
