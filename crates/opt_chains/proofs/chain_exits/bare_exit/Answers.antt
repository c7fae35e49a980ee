use Rattle.std.proofs.Common.{◌≡◌, true, false, ◌∷◌, [], length, Some, IfSome, slice_get, subst, sym, ap, ◌∙◌, arith, ◌-◌}
use Rattle.ir_program.specs.Lists.{operations_in, StandsInBlock}
use Rattle.ir_program.specs.Program.{operation_at}
use Rattle.ir_program.specs.Rows.{successors_at}
use Rattle.ir_program.specs.declared.handles.Operation.{Operation}
use Rattle.ir_program.specs.declared.handles.Ptr.{Ptr}
use Rattle.opt_chains.proofs.ChainExits.{bare_exit_is, exit_last, exit_successors}
use Rattle.opt_chains.proofs.MergeLists.{same_some}
use Rattle.opt_chains.proofs.chain_exits.bare_exit.Goals as goal
use Rattle.opt_chains.proofs.chain_exits.bare_exit.Goals.{else-is_bare-via-then-is_bare+else-successor_count-eq1, else-is_bare-via-else-is_bare}

pub returns-then-successor_count-eq1-clause-found : goal.returns-then-successor_count-eq1-clause-found
returns-then-successor_count-eq1-clause-found g c =
    let stands = subst (λ o. IfSome o (λ (op : Ptr Operation). StandsInBlock c.args.program.now op c.args.block)) c.in-Some.is c.last_operation.ensures.stands in
    bare_exit_is g.D.Meanings.meaning c.args.program.now c.args.block c.in-Some.branch c.successor-target.result (sym c.last_operation.ensures.last ∙ c.in-Some.is) stands.operation
    (λ v h. (c.is_bare.ensures v h).0 c.if-is_bare.true) (sym c.successor_count.ensures ∙ c.if-successor_count-eq1.true) c.successor-target.ensures.exact

pub returns-then-successor_count-eq1-clause-all : goal.returns-then-successor_count-eq1-clause-all
returns-then-successor_count-eq1-clause-all g c p b exit =
    let same = same_some (slice_get (operations_in c.args.program.now c.args.block) (length (operations_in c.args.program.now c.args.block) - 1)) c.in-Some.branch p (sym c.last_operation.ensures.last ∙ c.in-Some.is) (exit_last g.D.Meanings.meaning c.args.program.now c.args.block p b exit) in
    let row : successors_at c.args.program.now c.in-Some.branch ≡ b ∷ [] = ap (successors_at c.args.program.now) same ∙ exit_successors g.D.Meanings.meaning c.args.program.now c.args.block p b exit in
    let target = same_some (slice_get (successors_at c.args.program.now c.in-Some.branch) 0) c.successor-target.result b c.successor-target.ensures.exact (ap (λ l. slice_get l 0) row) in
    λ i. Some (record { branch = same i; target = target i })

pub returns-else-is_bare-clause-all : goal.returns-else-is_bare-clause-all
returns-else-is_bare-clause-all g c p b exit =
    let same = same_some (slice_get (operations_in c.args.program.now c.args.block) (length (operations_in c.args.program.now c.args.block) - 1)) p c.in-Some.branch (exit_last g.D.Meanings.meaning c.args.program.now c.args.block p b exit) (sym c.last_operation.ensures.last ∙ c.in-Some.is) in
    elim c.else-is_bare.branch [
      | else-is_bare-via-then-is_bare+else-successor_count-eq1 w ↦
          let one : length (successors_at c.args.program.now c.in-Some.branch) ≡ 1 = ap length (ap (successors_at c.args.program.now) (sym same) ∙ exit_successors g.D.Meanings.meaning c.args.program.now c.args.block p b exit) in
          absurd (omega (arith, one, w.successor_count.ensures))
      | else-is_bare-via-else-is_bare w ↦
          let yes = (c.is_bare.ensures exit.view (subst (λ q. operation_at c.args.program.now q ≡ Some exit.view) same exit.there)).1 (exit.branches, exit.results, exit.regions) in
          let f : true ≡ false = sym yes ∙ w.if-is_bare.false in
          cc
    ]
