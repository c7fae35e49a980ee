use Rattle.std.proofs.Common.{◌≡◌, ◌∙◌, Some, rules, tests, subst, sym}
use Rattle.std.proofs.lemmas.Option.{same_Some}
use Rattle.ir_program.specs.Lists.{StandsInOperation}
use Rattle.ir_program.specs.declared.handles.Operation.{Operation}
use Rattle.ir_program.specs.declared.handles.Ptr.{Ptr}
use Rattle.region_ifaces.proofs.edge_tests.is_region_of.Goals as goal

pub returns : goal.returns
returns g c = (
  λ h.
      let here : c.get_parent_op.result ≡ Some c.args.op = search (rules, tests) in
      let stands = c.get_parent_op.ensures.stands in
      subst (λ (p : Ptr Operation). StandsInOperation c.args.ctx.now.program c.args.region p) (same_Some stands.0 c.args.op (sym stands.1 ∙ here)) stands.2,
  λ s.
      let here : c.get_parent_op.result ≡ Some c.args.op = c.get_parent_op.ensures.only c.args.op s in
      search (rules, tests),
)
