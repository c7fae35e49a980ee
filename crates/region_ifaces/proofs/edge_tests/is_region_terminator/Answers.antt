use Rattle.std.proofs.Common.{◌≡◌, ◌∙◌, Some, false, rules, tests, sym, true≢false}
use Rattle.std.proofs.lemmas.Bool.{false≢true}
use Rattle.region_ifaces.proofs.Terminators.{ends_block, holds_block}
use Rattle.region_ifaces.proofs.edge_tests.is_region_terminator.Goals as goal

pub returns-in_default : goal.returns-in_default
returns-in_default g c = (
  λ h. absurd (false≢true h),
  λ r. absurd (c.in_default.not-Some r.block (c.get_parent_block.ensures.only r.block r.inner)),
)

pub returns-then-ne : goal.returns-then-ne
returns-then-ne g c = (
  λ h. absurd (false≢true h),
  λ r.
      let here : c.get_terminator.result ≡ Some c.args.t = c.get_terminator.ensures.terminator ∙ ends_block g.D.DialectTables.op_has c.args.ctx.now.program c.args.op c.args.t c.in-Some.block c.get_parent_block.result c.in-Some.is c.get_parent_block.ensures.only r in
      let no : c.ne.result ≡ false = search (rules, tests) in
      absurd (true≢false (sym c.if-ne.true ∙ no)),
)

pub returns : goal.returns
returns g c = (
  λ h.
      let here : c.get_parent_op.result ≡ Some c.args.op = search (rules, tests) in
      let ends : c.get_terminator.result ≡ Some c.args.t = search (rules, tests) in
      record {
        block = c.in-Some.block;
        inner = c.in-Some.ensures.parent;
        outer = rw here at c.get_parent_op.ensures.found;
        ends = sym c.get_terminator.ensures.terminator ∙ ends;
      },
  λ r.
      let holds = holds_block g.D.DialectTables.op_has c.args.ctx.now.program c.args.op c.args.t c.in-Some.block c.get_parent_block.result c.in-Some.is c.get_parent_block.ensures.only r in
      let here : c.get_parent_op.result ≡ Some c.args.op = c.get_parent_op.ensures.only c.args.op holds in
      search (rules, tests),
)
