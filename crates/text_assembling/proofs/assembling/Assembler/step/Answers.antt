use Rattle.std.proofs.Common.{◌≡◌, ◌-◌, ◌∙◌, sym, ap, subst}
use Rattle.std.proofs.lemmas.Result.{on_err_weaker, on_ok_weaker}
use Rattle.ir_characters.specs.Texts.{codes_of}
use Rattle.text_assembling.proofs.Undone.{undoes_loose}
use Rattle.ir_grammar.specs.declared.grammar.Action.TheVariants as act
use Rattle.ir_forest.specs.Identifiers.{IsSpelt}
use Rattle.ir_forest.specs.Meaning.{leaf_in}
use Rattle.ir_print.specs.Shown.{IsLeaf}
use Rattle.ir_tokens.specs.Tokens.{text_between}
use Rattle.text_frames.specs.Makes.{IsSpelled}
use Rattle.text_frames.proofs.Moving.{spelt_leaf}
use Rattle.text_assembling.proofs.Stepping.{end_refused}
use Rattle.text_assembling.proofs.Stepped.{on_ok_both, stepped, stepped_result, stepped_argument, stepped_operand, stepped_leaf, stepped_operation, stepped_region, stepped_block, stepped_operands, stepped_edge, stepped_value, stepped_list, stepped_item, stepped_choice, stepped_header, stepped_end, ok_case, goes_out, can_header, header_is_full}
use Rattle.text_assembling.proofs.assembling.Assembler.step.Goals as goal

pub returns-in-Result-clause-went : goal.returns-in-Result-clause-went
returns-in-Result-clause-went g c = on_ok_both c.result.result c.result.ensures.name c.result.ensures.named
    (λ name named. record {
      steps = stepped g.D.TextDialect.says g.D.TextDialect.values (text_between (codes_of c.args.source.now.chars) c.args.source.now.starts.now) _ _ c.args.self.now c.result.new.self c.args.action (act.Result) c.in-Result.is
          (stepped_result g.D.TextDialect.says g.D.TextDialect.values (text_between (codes_of c.args.source.now.chars) c.args.source.now.starts.now) _ c.args.self.now c.result.new.self c.result.ensures.around name named);
    })

pub returns-in-Operation-clause-went : goal.returns-in-Operation-clause-went
returns-in-Operation-clause-went g c = on_ok_weaker c.begin_operation.result
    (λ w. record {
      steps = stepped g.D.TextDialect.says g.D.TextDialect.values (text_between (codes_of c.args.source.now.chars) c.args.source.now.starts.now) _ _ c.args.self.now c.begin_operation.new.self c.args.action (act.Operation c.in-Operation.kind) c.in-Operation.is
          (stepped_operation g.D.TextDialect.says g.D.TextDialect.values (text_between (codes_of c.args.source.now.chars) c.args.source.now.starts.now) _ c.args.self.now c.begin_operation.new.self c.begin_operation.ensures.made c.in-Operation.kind w.0 w.1 w.2 w.3 w.4 w.5);
    })
    c.begin_operation.ensures.begun

pub returns-in-BeginRegion-clause-went : goal.returns-in-BeginRegion-clause-went
returns-in-BeginRegion-clause-went g c = on_ok_weaker c.begin_region.result
    (λ w. record {
      steps = stepped g.D.TextDialect.says g.D.TextDialect.values (text_between (codes_of c.args.source.now.chars) c.args.source.now.starts.now) _ _ c.args.self.now c.begin_region.new.self c.args.action (act.BeginRegion) c.in-BeginRegion.is
          (stepped_region g.D.TextDialect.says g.D.TextDialect.values (text_between (codes_of c.args.source.now.chars) c.args.source.now.starts.now) _ c.args.self.now c.begin_region.new.self c.begin_region.ensures.made w.0 w.1 w.2);
    })
    c.begin_region.ensures.begun

pub returns-in-Label-clause-went : goal.returns-in-Label-clause-went
returns-in-Label-clause-went g c = on_ok_weaker c.begin_block.result
    (λ w. record {
      steps = stepped g.D.TextDialect.says g.D.TextDialect.values (text_between (codes_of c.args.source.now.chars) c.args.source.now.starts.now) _ _ c.args.self.now c.begin_block.new.self c.args.action (act.Label) c.in-Label.is
          (stepped_block g.D.TextDialect.says g.D.TextDialect.values (text_between (codes_of c.args.source.now.chars) c.args.source.now.starts.now) _ c.args.self.now c.begin_block.new.self c.begin_block.ensures.made w);
    })
    c.begin_block.ensures.begun

pub returns-in-Argument-clause-went : goal.returns-in-Argument-clause-went
returns-in-Argument-clause-went g c = on_ok_weaker c.argument.result
    (λ w. record {
      steps = stepped g.D.TextDialect.says g.D.TextDialect.values (text_between (codes_of c.args.source.now.chars) c.args.source.now.starts.now) _ _ c.args.self.now c.argument.new.self c.args.action (act.Argument) c.in-Argument.is
          (stepped_argument g.D.TextDialect.says g.D.TextDialect.values (text_between (codes_of c.args.source.now.chars) c.args.source.now.starts.now) _ c.args.self.now c.argument.new.self c.argument.ensures.around c.argument.ensures.here c.argument.ensures.content w);
    })
    c.argument.ensures.named

pub returns-in-Begin-clause-went : goal.returns-in-Begin-clause-went
returns-in-Begin-clause-went g c = on_ok_weaker c.begin_value.result
    (λ w. record {
      steps = stepped g.D.TextDialect.says g.D.TextDialect.values (text_between (codes_of c.args.source.now.chars) c.args.source.now.starts.now) _ _ c.args.self.now c.begin_value.new.self c.args.action (act.Begin c.in-Begin.sort c.in-Begin.kind) c.in-Begin.is
          (stepped_value g.D.TextDialect.says g.D.TextDialect.values (text_between (codes_of c.args.source.now.chars) c.args.source.now.starts.now) _ c.args.self.now c.begin_value.new.self c.begin_value.ensures.made c.in-Begin.sort c.in-Begin.kind w);
    })
    c.begin_value.ensures.begun

pub returns-in-BeginOperands-clause-went : goal.returns-in-BeginOperands-clause-went
returns-in-BeginOperands-clause-went g c = on_ok_weaker c.begin_operands.result
    (λ w. record {
      steps = stepped g.D.TextDialect.says g.D.TextDialect.values (text_between (codes_of c.args.source.now.chars) c.args.source.now.starts.now) _ _ c.args.self.now c.begin_operands.new.self c.args.action (act.BeginOperands) c.in-BeginOperands.is
          (stepped_operands g.D.TextDialect.says g.D.TextDialect.values (text_between (codes_of c.args.source.now.chars) c.args.source.now.starts.now) _ c.args.self.now c.begin_operands.new.self c.begin_operands.ensures.made w.0 w.1 w.2);
    })
    c.begin_operands.ensures.begun

pub returns-in-BeginSuccessor-clause-went : goal.returns-in-BeginSuccessor-clause-went
returns-in-BeginSuccessor-clause-went g c = on_ok_weaker c.begin_successor.result
    (λ w. record {
      steps = stepped g.D.TextDialect.says g.D.TextDialect.values (text_between (codes_of c.args.source.now.chars) c.args.source.now.starts.now) _ _ c.args.self.now c.begin_successor.new.self c.args.action (act.BeginSuccessor) c.in-BeginSuccessor.is
          (stepped_edge g.D.TextDialect.says g.D.TextDialect.values (text_between (codes_of c.args.source.now.chars) c.args.source.now.starts.now) _ c.args.self.now c.begin_successor.new.self c.begin_successor.ensures.made w.0 w.1 w.2);
    })
    c.begin_successor.ensures.begun

pub returns-in-BeginList-clause-went : goal.returns-in-BeginList-clause-went
returns-in-BeginList-clause-went g c = on_ok_weaker c.begin_list.result
    (λ w. record {
      steps = stepped g.D.TextDialect.says g.D.TextDialect.values (text_between (codes_of c.args.source.now.chars) c.args.source.now.starts.now) _ _ c.args.self.now c.begin_list.new.self c.args.action (act.BeginList) c.in-BeginList.is
          (stepped_list g.D.TextDialect.says g.D.TextDialect.values (text_between (codes_of c.args.source.now.chars) c.args.source.now.starts.now) _ c.args.self.now c.begin_list.new.self c.begin_list.ensures.made w.0 w.1 w.2);
    })
    c.begin_list.ensures.begun

pub returns-in-BeginItem-clause-went : goal.returns-in-BeginItem-clause-went
returns-in-BeginItem-clause-went g c = on_ok_weaker c.begin_item.result
    (λ w. record {
      steps = stepped g.D.TextDialect.says g.D.TextDialect.values (text_between (codes_of c.args.source.now.chars) c.args.source.now.starts.now) _ _ c.args.self.now c.begin_item.new.self c.args.action (act.BeginItem) c.in-BeginItem.is
          (stepped_item g.D.TextDialect.says g.D.TextDialect.values (text_between (codes_of c.args.source.now.chars) c.args.source.now.starts.now) _ c.args.self.now c.begin_item.new.self c.begin_item.ensures.made w);
    })
    c.begin_item.ensures.begun

pub returns-in-BeginChoice-clause-went : goal.returns-in-BeginChoice-clause-went
returns-in-BeginChoice-clause-went g c = on_ok_weaker c.begin_choice.result
    (λ w. record {
      steps = stepped g.D.TextDialect.says g.D.TextDialect.values (text_between (codes_of c.args.source.now.chars) c.args.source.now.starts.now) _ _ c.args.self.now c.begin_choice.new.self c.args.action (act.BeginChoice c.in-BeginChoice.number) c.in-BeginChoice.is
          (stepped_choice g.D.TextDialect.says g.D.TextDialect.values (text_between (codes_of c.args.source.now.chars) c.args.source.now.starts.now) _ c.args.self.now c.begin_choice.new.self c.begin_choice.ensures.made c.in-BeginChoice.number w);
    })
    c.begin_choice.ensures.begun

pub returns-in-Leaf-clause-went : goal.returns-in-Leaf-clause-went
returns-in-Leaf-clause-went g c =
    let sort = c.in-Leaf.sort in
    let is : codes_of c.text.result ≡ text_between (codes_of c.args.source.now.chars) c.args.source.now.starts.now (c.args.self.now.taken - 1) = c.text.ensures ∙ ap (text_between (codes_of c.args.source.now.chars) c.args.source.now.starts.now) c.last.ensures in
    let spelt = subst (λ x. IsSpelt x ((text_between (codes_of c.args.source.now.chars) c.args.source.now.starts.now) (c.args.self.now.taken - 1))) c.in-Leaf.is c.requires.going.can.goes.spelt in
    let spelled = subst (λ cs. IsSpelled (leaf_in sort cs)) (sym is) (spelt_leaf sort _ spelt) in
    on_ok_weaker c.leaf.result
    (λ w. record {
      steps = stepped g.D.TextDialect.says g.D.TextDialect.values (text_between (codes_of c.args.source.now.chars) c.args.source.now.starts.now) _ _ c.args.self.now c.leaf.new.self c.args.action (act.Leaf sort) c.in-Leaf.is
          (stepped_leaf g.D.TextDialect.says g.D.TextDialect.values (text_between (codes_of c.args.source.now.chars) c.args.source.now.starts.now) _ c.args.self.now c.leaf.new.self c.leaf.ensures.around c.leaf.ensures.made sort w.0 (subst (λ cs. IsLeaf w.0 (leaf_in sort cs)) is w.1) w.2);
    })
    (c.leaf.ensures.here spelled)

pub returns-in-Operand-clause-went : goal.returns-in-Operand-clause-went
returns-in-Operand-clause-went g c = ok_case c.operand.result _ (λ get. record {
  steps =
      stepped g.D.TextDialect.says g.D.TextDialect.values (text_between (codes_of c.args.source.now.chars) c.args.source.now.starts.now) _ _ c.args.self.now c.operand.new.self c.args.action (act.Operand) c.in-Operand.is
      (stepped_operand g.D.TextDialect.says g.D.TextDialect.values (text_between (codes_of c.args.source.now.chars) c.args.source.now.starts.now) _ c.args.self.now c.operand.new.self c.operand.ensures.around c.operand.ensures.made (λ ks is. get _ (c.operand.ensures.here ks is)) (λ ks is. get _ (c.operand.ensures.handed_on ks is)));
})

pub header-requires-clause-known : goal.header-requires-clause-known
header-requires-clause-known g c =
    let w = c.requires.going.can in (can_header g.D.TextDialect.says g.D.TextDialect.values (text_between (codes_of c.args.source.now.chars) c.args.source.now.starts.now) _ c.args.self.now w.progress w.next w.at c.args.action c.in-Header.is w.goes).0

pub header-requires-clause-spelt : goal.header-requires-clause-spelt
header-requires-clause-spelt g c =
    let w = c.requires.going.can in (can_header g.D.TextDialect.says g.D.TextDialect.values (text_between (codes_of c.args.source.now.chars) c.args.source.now.starts.now) _ c.args.self.now w.progress w.next w.at c.args.action c.in-Header.is w.goes).1

pub returns-in-Header-clause-went : goal.returns-in-Header-clause-went
returns-in-Header-clause-went g c = on_ok_both c.header.result c.header.ensures.made c.header.ensures.given
    (λ new given. record {
      steps = stepped g.D.TextDialect.says g.D.TextDialect.values (text_between (codes_of c.args.source.now.chars) c.args.source.now.starts.now) _ _ c.args.self.now c.header.new.self c.args.action (act.Header) c.in-Header.is
          (stepped_header g.D.TextDialect.says g.D.TextDialect.values (text_between (codes_of c.args.source.now.chars) c.args.source.now.starts.now) _ _ c.args.self.now c.header.new.self c.header.ensures.around c.header.ensures.first c.header.ensures.names new given.counter);
    })

pub returns-in-Header-clause-full : goal.returns-in-Header-clause-full
returns-in-Header-clause-full g c e = record {
  fills = λ p next at goes. header_is_full g.D.TextDialect.says g.D.TextDialect.values (text_between (codes_of c.args.source.now.chars) c.args.source.now.starts.now) _ c.args.self.now p next at c.args.action c.in-Header.is goes (c.header.ensures.full e);
}

pub end-requires : goal.end-requires
end-requires g c =
    let w = c.requires.going.can in record { going = ((text_between (codes_of c.args.source.now.chars) c.args.source.now.starts.now), w.progress, w.next, w.at, goes_out (text_between (codes_of c.args.source.now.chars) c.args.source.now.starts.now) c.args.self.now w.progress w.next c.args.action c.in-EndOperation.is w.goes) }

pub returns-in-EndOperation-clause-went : goal.returns-in-EndOperation-clause-went
returns-in-EndOperation-clause-went g c = on_ok_weaker c.end.result
    (λ w. record { steps = stepped_end g.D.TextDialect.says g.D.TextDialect.values (text_between (codes_of c.args.source.now.chars) c.args.source.now.starts.now) _ _ c.args.self.now c.end.new.self c.args.action c.in-EndOperation.is w })
    c.end.ensures.ended

pub returns-in-EndOperation-clause-refused : goal.returns-in-EndOperation-clause-refused
returns-in-EndOperation-clause-refused g c f wrong = record {
  fails = λ p next at goes.
      let ends = goes_out (text_between (codes_of c.args.source.now.chars) c.args.source.now.starts.now) c.args.self.now p next c.args.action c.in-EndOperation.is goes in
      end_refused g.D.TextDialect.says g.D.TextDialect.values (text_between (codes_of c.args.source.now.chars) c.args.source.now.starts.now) c.args.ctx.now.types.keys c.args.self.now p.built p.standing next (c.args.self.now.taken - 1) at.holds f c.args.action c.in-EndOperation.is goes.leads
      (λ out. c.end.ensures.refused (text_between (codes_of c.args.source.now.chars) c.args.source.now.starts.now) p next at ends f wrong);
}

pub returns-in-EndOperation-clause-full : goal.returns-in-EndOperation-clause-full
returns-in-EndOperation-clause-full g c e = record {
  fills = λ p next at goes.
      c.end.ensures.full (text_between (codes_of c.args.source.now.chars) c.args.source.now.starts.now) p next at (goes_out (text_between (codes_of c.args.source.now.chars) c.args.source.now.starts.now) c.args.self.now p next c.args.action c.in-EndOperation.is goes) e;
}

pub returns-in-Result-clause-undone : goal.returns-in-Result-clause-undone
returns-in-Result-clause-undone g c = undoes_loose c.args.ctx.now c.args.self.now c.result.new.self c.result.result c.result.ensures.loose

pub returns-in-Argument-clause-undone : goal.returns-in-Argument-clause-undone
returns-in-Argument-clause-undone g c = undoes_loose c.args.ctx.now c.args.self.now c.argument.new.self c.argument.result c.argument.ensures.loose

pub returns-in-Header-clause-undone : goal.returns-in-Header-clause-undone
returns-in-Header-clause-undone g c = on_err_weaker c.header.result (λ u. record { undone = u }) c.header.ensures.undone

pub returns-in-EndOperation-clause-undone : goal.returns-in-EndOperation-clause-undone
returns-in-EndOperation-clause-undone g c = on_err_weaker c.end.result (λ u. record { undone = u }) c.end.ensures.undone
