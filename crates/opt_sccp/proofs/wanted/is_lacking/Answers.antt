-- Either something is found out of each value, or no operation before the index lacks an operand.
use Rattle.std.proofs.Common.{◌≡◌, ◌<◌, true, false, length, get_or, refl, sym, ap, ◌∙◌, arith}
use Rattle.std.specs.List.{list_all}
use Rattle.std.proofs.lemmas.Option.{slice_get_within}
use Rattle.ir_program.specs.Program.{no_handle}
use Rattle.opt_inside.specs.Numbered.{numbers_of}
use Rattle.opt_sccp.specs.Wanted.{is_determined}
use Rattle.opt_sccp.proofs.MadeLists.{element}
use Rattle.opt_sccp.proofs.WantedAt.{not_at, none_lacks_further, none_undetermined}
use Rattle.opt_sccp.proofs.wanted.is_lacking.Goals as goal

pub loop-op-preserved : goal.loop-op-preserved
loop-op-preserved g c k h = none_lacks_further g.D.Meanings.meaning c.args.program.now k c.args.inside.now.operations.keys c.loop-op.op-index (get_or c.as_slice-op-items.result.now c.loop-op.op-index no_handle) (c.loop-op.invariant k h)
    (element c.as_slice-op-items.result.now c.args.inside.now.operations.keys c.loop-op.op-index no_handle c.loop-op-test.true c.as_slice-op-items.ensures.keys)
    (λ l. let e : false ≡ true = sym c.if-is_lacking_at.false ∙ (c.is_lacking_at.ensures k h).1 l in cc)

pub returns : goal.returns
returns g c k h = not_at (λ p.
    let l : p.1.0 < length c.args.inside.now.operations.keys = slice_get_within c.args.inside.now.operations.keys p.1.0 p.0 p.1.1 in
    let m : length c.as_slice-op-items.result.now ≡ length c.args.inside.now.operations.keys = ap length c.as_slice-op-items.ensures.keys in
    c.loop-op.invariant k h p.1.0 p.0 (omega (arith, l, m, c.loop-op-test.false)) p.1.1 p.2)

pub returns-then-are_determined : goal.returns-then-are_determined
returns-then-are_determined g c k h =
    let all = ap (list_all is_determined) (sym c.deref.ensures.value) ∙ sym c.are_determined.ensures ∙ c.if-are_determined.true in
    not_at (λ p. none_undetermined (numbers_of c.args.inside.now) c.args.facts.now.runs.items c.args.facts.now.known.items k h all p.2.view.operands p.2.lacks)

pub returns-then-is_lacking_at : goal.returns-then-is_lacking_at
returns-then-is_lacking_at g c k h =
    let at = element c.as_slice-op-items.result.now c.args.inside.now.operations.keys c.loop-op.op-index no_handle c.loop-op-test.true c.as_slice-op-items.ensures.keys in
    (λ _. (get_or c.as_slice-op-items.result.now c.loop-op.op-index no_handle, (c.loop-op.op-index, at), (c.is_lacking_at.ensures k h).0 c.if-is_lacking_at.true), λ _. refl)
