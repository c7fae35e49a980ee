use Rattle.std.proofs.Common.{◌≡◌, ℕ, ◌++◌, ◌∷◌, List, [], None, slice_get, sym, ap, subst, ◌∙◌}
use Rattle.opt_inside.specs.Numbered.{numbers_of}
use Rattle.opt_rows.specs.declared.dead_problem.Operand.{Operand}
use Rattle.opt_dce.specs.liveness.Problems.{IsOperandOf}
use Rattle.opt_dce.proofs.LivenessLemmas.Partway.{pushed_len, each_push}
use Rattle.opt_dce.proofs.LivenessLemmas.Plain.{branch_by}
use Rattle.opt_dce.proofs.liveness.candidates.plain_operands.Goals as goal

pub loop-index-preserved : goal.loop-index-preserved
loop-index-preserved g c =
    let meaning = g.D.Meanings.meaning in
    let operand : Operand = record { definer = c.definer_of.result; argument = None } in
    let items : c.push.new.self.items ≡ c.loop-index.operands.items ++ operand ∷ [] = c.in_ok-push.ensures.items in
    let P : ℕ → Operand → Type 0 =
    (λ k o. IsOperandOf meaning c.args.program.now (numbers_of c.args.inside.now) c.args.op k o) in
    let here : P c.loop-index.index operand = record {
      value = c.operand.result;
      there = c.operand.ensures.exact;
      definer = c.definer_of.ensures;
      argument = λ x e. absurd cc;
      no_argument = λ e x f. c.requires.plain (branch_by meaning c.args.program.now (numbers_of c.args.inside.now) c.args.op c.loop-index.index x f);
    } in
    record {
      len = pushed_len c.loop-index.operands.items c.push.new.self.items operand c.loop-index.index items c.loop-index.invariant.len;
      operands = λ k o h. each_push P c.loop-index.operands.items operand c.loop-index.invariant.operands
          (subst (λ i. P i operand) (sym c.loop-index.invariant.len) here) k o
          (ap (λ (xs : List Operand). slice_get xs k) (sym items) ∙ h);
    }

pub returns-clause-operands : goal.returns-clause-operands
returns-clause-operands g c = c.loop-index.invariant.operands
