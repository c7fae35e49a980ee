use Rattle.std.proofs.Common.{◌+◌, length, slice_get, sym, ap, ◌∙◌, arith}
use Rattle.std.proofs.lemmas.List.{length-append}
use Rattle.std.proofs.lemmas.Option.{slice_get-get_or}
use Rattle.ir_program.specs.Program.{no_handle}
use Rattle.opt_inside.specs.declared.reach.fates.Fate.TheVariants.{Entered}
use Rattle.opt_chains.proofs.NextBlock.{one_seen}
use Rattle.opt_chains.proofs.next_blocks.chain_blocks.Goals as goal

pub loop-number-preserved : goal.loop-number-preserved
loop-number-preserved g c =
    let len = ap length c.as_slice-block-items.ensures.keys in
    let key = ap (λ l. slice_get l c.loop-number.number) (sym c.as_slice-block-items.ensures.keys) ∙ slice_get-get_or c.as_slice-block-items.result.now c.loop-number.number no_handle c.loop-number-test.true in
    let fate = slice_get-get_or c.args.fates.now c.loop-number.number Entered (omega (arith, c.loop-number-test.true, len, c.requires.len)) in
    record {
      len = ap length c.in_ok-push.ensures.items ∙ length-append c.loop-number.seen.items _ ∙ ap (λ n. n + 1) c.loop-number.invariant.len;
      each = one_seen g.D.Meanings.meaning c.args.program.now c.args.blocks.now.keys c.args.fates.now c.loop-number.number c.loop-number.seen.items c.push.new.self.items _ _ _ c.loop-number.invariant.len c.loop-number.invariant.each key fate c.chain_block.ensures c.in_ok-push.ensures.items;
    }
