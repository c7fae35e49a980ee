use Rattle.std.proofs.Common.{◌≡◌, ◌<◌, length, refl, arith, rules}
use Rattle.opt_inside.specs.Numbered.{numbers_of}
use Rattle.opt_dce.specs.liveness.Problems.{HasNumberAt}
use Rattle.opt_dce.proofs.LivenessLemmas.Noting.{notes_put, notes_none, place_within}
use Rattle.opt_dce.proofs.liveness.forwarding.forward_one.Goals as goal
use Rattle.opt_dce.proofs.liveness.forwarding.forward_one.Goals.{else-place-argument_count-via-then-place-argument_count+else-index-len, else-place-argument_count-via-else-place-argument_count}

pub returns-in-Some : goal.returns-in-Some
returns-in-Some g c =
    let within : c.args.index < length c.args.targets.now.items = search rules in
    notes_put (λ k x. (k ≡ c.args.index) × HasNumberAt c.args.program.now (numbers_of c.args.inside.now) c.args.block c.args.place x) c.args.targets.now.items c.args.index c.in-Some.number within
    (refl, record { argument = c.argument.result; takes = c.argument.ensures.value; number = c.in-Some.ensures.found c.in-Some.number refl })
    (λ k x w. w.0)

pub returns-else-place-argument_count : goal.returns-else-place-argument_count
returns-else-place-argument_count g c = notes_none (λ k x. (k ≡ c.args.index) × HasNumberAt c.args.program.now (numbers_of c.args.inside.now) c.args.block c.args.place x) c.args.targets.now.items (λ k x w lt.
    elim c.else-place-argument_count.branch [
      | else-place-argument_count-via-then-place-argument_count+else-index-len u ↦
          let same = w.0 in let len : u.len.result ≡ length c.args.targets.now.items = search rules in let le = u.if-index-len.false in omega arith
      | else-place-argument_count-via-else-place-argument_count u ↦
          let low = place_within c.args.program.now (numbers_of c.args.inside.now) c.args.block c.args.place x w.1 in let le = u.if-place-argument_count.false in let count = c.argument_count.ensures in omega arith
    ])
