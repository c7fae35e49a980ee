use Rattle.std.proofs.Common.{◌≢◌, Some, rules, tests, true≢false, subst, sym}
use Rattle.ir_program.specs.Lists.{StandsInBlock}
use Rattle.ir_queries.proofs.FirstOf.{in_own_block}
use Rattle.ir_queries.proofs.order.precedes.Goals as goal

pub returns-in_default : goal.returns-in_default
returns-in_default g c = (
  λ h. absurd (true≢false (sym h)),
  λ h. absurd (c.in_default.ensures.parent h.block (c.know_lists.ensures.operations h.block h.first c.args.a h.here)),
)

pub returns-then-ne : goal.returns-then-ne
returns-then-ne g c =
    let elsewhere : c.parent_block-2.result ≢ Some c.in-Some.block = search (rules, tests) in (
      λ h. absurd (true≢false (sym h)),
      λ h.
          let same = in_own_block c.args.program.now c.know_lists.ensures.operations_once c.args.a c.args.b c.in-Some.block c.in-Some.ensures.parent h in
          let stands = subst (λ block. StandsInBlock c.args.program.now c.args.b block) same (c.know_lists.ensures.operations h.block h.second c.args.b h.there) in
          absurd (elsewhere (c.parent_block-2.ensures.only c.in-Some.block stands)),
    )
