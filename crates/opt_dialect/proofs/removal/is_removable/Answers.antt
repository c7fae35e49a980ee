use Rattle.std.proofs.Common.{◌≡◌, true, Some, true≢false, rules, tests, sym, ◌∙◌}
use Rattle.std.specs.Prelude.{slice_get, ◌↔◌}
use Rattle.ir_program.specs.Lists.{blocks_in}
use Rattle.opt_dialect.proofs.Removing.{removable_to, removable_from}
use Rattle.opt_dialect.proofs.removal.is_removable.Goals as goal

pub returns-in_default : goal.returns-in_default
returns-in_default g c = (λ h. absurd (true≢false (sym h)), λ r. absurd (c.in_default.ensures.parent r.region r.in_region))

pub returns : goal.returns
returns g c =
    let found : c.eq-is_entry.result ≡ true → c.first_block.result ≡ Some c.args.block = (λ h. search (rules, tests)) in
    let equal : c.first_block.result ≡ Some c.args.block → c.eq-is_entry.result ≡ true = (λ h. search (rules, tests)) in
    let entry : (c.eq-is_entry.result ≡ true) ↔ (slice_get (blocks_in c.args.program.now c.in-Some.region) 0 ≡ Some c.args.block) =
    (λ h. sym c.first_block.ensures.first ∙ found h, λ h. equal (c.first_block.ensures.first ∙ h)) in (
      λ h. removable_to g.D.Meanings.meaning c.args.program.now c.args.block c.in-Some.region c.parent_operation-owner.result c.payload.result.now c.region_index.result c.eq-is_entry.result c.in-Some.ensures.parent c.parent_operation-owner.ensures.stands c.payload.ensures c.region_index.ensures entry (sym c.can_remove_block_args.ensures ∙ h),
      λ r. c.can_remove_block_args.ensures ∙ removable_from g.D.Meanings.meaning c.args.program.now c.args.block c.in-Some.region c.parent_operation-owner.result c.payload.result.now c.region_index.result c.eq-is_entry.result c.in-Some.ensures.parent c.parent_operation-owner.ensures.stands c.payload.ensures c.region_index.ensures entry
          (λ r s. let w = c.in-Some.ensures.only r s in cc w) c.parent_operation-owner.ensures.only c.know_lists.ensures.regions r,
    )
