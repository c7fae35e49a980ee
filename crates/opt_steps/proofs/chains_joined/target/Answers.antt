use Rattle.std.proofs.Common.{◌≡◌, None, Some, refl, sym, subst}
use Rattle.std.specs.Prelude.{slice_get, ◌↔◌}
use Rattle.std.proofs.lemmas.Bool.{ltb-true, ltb-false}
use Rattle.std.proofs.lemmas.Option.{slice_get_read, slice_get_past}
use Rattle.opt_rows.specs.Chains.{IsJoinedTo}
use Rattle.opt_steps.proofs.ChainsJoining.{joined_by_none, joined_past, joined_itself, joined_entry, joined_many, joined_there}
use Rattle.opt_steps.proofs.chains_joined.target.Goals.{then-to-from-via-then-to-from, then-to-from-via-else-to-from+then-block, then-to-from-via-else-to-from+else-block+then-block-ne1}
use Rattle.opt_steps.proofs.chains_joined.target.Goals as goal

pub returns-in_err-to : goal.returns-in_err-to
returns-in_err-to c = λ b. subst (λ o. o ≡ Some b ↔ IsJoinedTo c.args.blocks.now c.args.from b) (sym c.from_residual.ensures) (joined_by_none c.args.blocks.now c.args.from _ c.requires c.in_err-to.was b)

pub returns-in_err-block : goal.returns-in_err-block
returns-in_err-block c = λ b.
    let past : slice_get c.args.blocks.now c.in_ok-to.to ≡ None = slice_get_past c.args.blocks.now c.in_ok-to.to (ltb-false _ _ (sym c.in_err-block.ensures.lookup.0)) in
    subst (λ o. o ≡ Some b ↔ IsJoinedTo c.args.blocks.now c.args.from b) (sym c.from_residual-in_err-block.ensures) (joined_past c.args.blocks.now c.args.from _ c.requires c.in_ok-to.to c.in_ok-to.was past b)

pub returns-then-to-from : goal.returns-then-to-from
returns-then-to-from c =
    let there : slice_get c.args.blocks.now c.in_ok-to.to ≡ Some c.in_ok-block.block.now = (let l = c.in_ok-block.ensures.lookup in slice_get_read c.args.blocks.now _ c.in_ok-to.to c.in_ok-block.block.now refl (ltb-true _ _ (sym l.0)) l.1) in
    elim c.then-to-from.branch [
      | then-to-from-via-then-to-from w ↦ joined_itself c.args.blocks.now c.args.from _ c.requires c.in_ok-to.to c.in_ok-to.was w.if-to-from.true
      | then-to-from-via-else-to-from+then-block w ↦ joined_entry c.args.blocks.now c.args.from _ c.requires c.in_ok-to.to c.in_ok-to.was c.in_ok-block.block.now there w.if-block.true
      | then-to-from-via-else-to-from+else-block+then-block-ne1 w ↦ joined_many c.args.blocks.now c.args.from _ c.requires c.in_ok-to.to c.in_ok-to.was c.in_ok-block.block.now there w.if-block-ne1.true
    ]

pub returns : goal.returns
returns c =
    let there : slice_get c.args.blocks.now c.in_ok-to.to ≡ Some c.in_ok-block.block.now = (let l = c.in_ok-block.ensures.lookup in slice_get_read c.args.blocks.now _ c.in_ok-to.to c.in_ok-block.block.now refl (ltb-true _ _ (sym l.0)) l.1) in
    joined_there c.args.blocks.now c.args.from _ c.requires c.in_ok-to.to c.in_ok-to.was c.in_ok-block.block.now there c.if-to-from.false c.if-block.false c.if-block-ne1.false
