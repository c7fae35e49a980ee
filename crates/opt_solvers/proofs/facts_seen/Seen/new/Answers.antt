use Rattle.std.proofs.Common.{rules, ◌≡◌, ◌<◌, ℕ, List, None, length, take, map, replicate, refl, sym, ap, ◌∙◌, subst, arith}
use Rattle.std.proofs.lemmas.List.{take_all}
use Rattle.opt_rows.specs.OperationRows.{Row, row_numbered}
use Rattle.opt_solvers.specs.FactsSeen.{unseen, GainsOperands}
use Rattle.opt_rows.proofs.OperationLists.{row_read}
use Rattle.opt_rows.proofs.Lists.{next_of}
use Rattle.opt_solvers.proofs.FactsSeeing.{IsUnseen, unseen_begins, unseen_more, unseen_is, unseen_rows}
use Rattle.opt_solvers.proofs.facts_seen.Seen.new.Goals as goal

pub loop-number-init : goal.loop-number-init
loop-number-init g c = let n = c.in_ok-blank.ensures in unseen_begins _ _ _ n.ends n.found n.missing

pub loop-number-preserved : goal.loop-number-preserved
loop-number-preserved g c =
    let rows = c.args.rows.now in let n = c.loop-number.number in
    let h : n < length rows = omega (arith, c.loop-number-test.true, c.len-number-end.ensures) in
    let gain = subst (GainsOperands c.loop-number.blank c.add_operands.new.blank) (ap length c.operands.ensures) c.in_ok-add_operands.ensures in
    subst (λ (rs : List Row). IsUnseen g.row.K.Denot rs c.add_operands.new.blank.ends.items c.add_operands.new.blank.found.items c.add_operands.new.blank.missing.items) (sym (next_of rows n (row_numbered rows n) h (row_read rows n h)))
    (unseen_more (take n rows) (row_numbered rows n) c.loop-number.blank.ends.items _ c.loop-number.blank.found.items _ c.loop-number.blank.missing.items _ (length c.add_operands.new.blank.found.items)
    gain.found gain.ends refl gain.missing c.loop-number.invariant)

pub invariant_of-result : goal.invariant_of-result
invariant_of-result g c =
    let b = c.loop-number.blank in
    let l : c.len.result ≡ length b.found.items = search rules in
    unseen_is (take c.loop-number.number c.args.rows.now) b.ends.items b.found.items c.in_ok-constants.constants.items b.missing.items (c.in_ok-constants.ensures ∙ ap (λ (n : ℕ). replicate n None) l) c.loop-number.invariant

pub returns : goal.returns
returns g c =
    let b = c.loop-number.blank in
    let l : c.len.result ≡ length b.found.items = search rules in
    unseen_rows (take c.loop-number.number c.args.rows.now) b.ends.items b.found.items c.in_ok-constants.constants.items b.missing.items (c.in_ok-constants.ensures ∙ ap (λ (n : ℕ). replicate n None) l) c.loop-number.invariant
    ∙ ap (map unseen) (take_all c.loop-number.number c.args.rows.now (omega (arith, c.loop-number-test.false, c.len-number-end.ensures)))
