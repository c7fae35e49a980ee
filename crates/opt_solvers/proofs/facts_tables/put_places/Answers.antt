use Rattle.std.proofs.Common.{◌≡◌, ◌<◌, get_or, sym, subst, rules, Some}
use Rattle.std.specs.Prelude.{slice_get}
use Rattle.std.proofs.lemmas.List.{take_all}
use Rattle.opt_rows.specs.LinkedRows.{RowsGain}
use Rattle.std.proofs.lemmas.List.Elements.{Contains-get_or}
use Rattle.opt_solvers.proofs.FactsTabling.{places_more}
use Rattle.opt_solvers.proofs.facts_tables.put_places.Goals as goal

pub put-requires : goal.put-requires
put-requires c =
    let v = get_or c.args.operands.now c.loop-operand.operand 0 in
    subst (λ n. v < n) (sym c.loop-operand.invariant.len) (c.requires v (Contains-get_or c.args.operands.now c.loop-operand.operand 0 c.loop-operand-test.true))

pub loop-operand-preserved : goal.loop-operand-preserved
loop-operand-preserved c = places_more c.args.readers.now c.loop-operand.readers c.put.new.table c.args.number c.args.operands.now c.loop-operand.operand (get_or c.args.operands.now c.loop-operand.operand 0) c.loop-operand-test.true (search rules) c.loop-operand.invariant c.in_ok-put.ensures

pub returns : goal.returns
returns c = subst (λ xs. RowsGain (λ v x. (x.row ≡ c.args.number) × (slice_get xs x.operand ≡ Some v)) c.args.readers.now c.loop-operand.readers) (take_all c.loop-operand.operand c.args.operands.now c.loop-operand-test.false) c.loop-operand.invariant
