use Rattle.std.proofs.Common.{◌+◌, length, get_or, slice_get, ap, ◌∙◌, subst, arith}
use Rattle.ir_program.specs.Program.{no_handle}
use Rattle.opt_inside.specs.reach.Fates.{IsJudgedFate}
use Rattle.opt_inside.proofs.Around.{HasLists}
use Rattle.opt_inside.specs.Numbered.{numbers_of}
use Rattle.opt_inside.proofs.ReachLemmas.Lists.{at_index}
use Rattle.opt_inside.proofs.ReachLemmas.Ends.{numbered_linked, fates_more, one_longer}
use Rattle.opt_inside.proofs.ReachLemmas.Occurs.{Occurs}
use Rattle.opt_inside.proofs.reach.fates.judge_all.Goals as goal

pub judge-requires-clause-linked : goal.judge-requires-clause-linked
judge-requires-clause-linked g c =
    let lists : HasLists c.args.program.now = record {
      operations_once = c.know_lists.ensures.operations_once;
      blocks_once = c.know_lists.ensures.blocks_once;
      regions_once = c.know_lists.ensures.regions_once;
      operations = c.know_lists.ensures.operations;
      blocks = c.know_lists.ensures.blocks;
      regions = c.know_lists.ensures.regions;
      operation_apart = c.know_lists.ensures.operation_apart;
      block_apart = c.know_lists.ensures.block_apart;
    } in
    numbered_linked c.args.program.now lists c.args.op (numbers_of c.args.inside.now) c.requires.numbered _ (c.loop-number.number, at_index _ _ c.loop-number.number _ c.as_slice-block-items.ensures.keys c.loop-number-test.true)

pub loop-number-preserved : goal.loop-number-preserved
loop-number-preserved g c =
    let lists : HasLists c.args.program.now = record {
      operations_once = c.know_lists.ensures.operations_once;
      blocks_once = c.know_lists.ensures.blocks_once;
      regions_once = c.know_lists.ensures.regions_once;
      operations = c.know_lists.ensures.operations;
      blocks = c.know_lists.ensures.blocks;
      regions = c.know_lists.ensures.regions;
      operation_apart = c.know_lists.ensures.operation_apart;
      block_apart = c.know_lists.ensures.block_apart;
    } in
    let here = at_index _ _ c.loop-number.number _ c.as_slice-block-items.ensures.keys c.loop-number-test.true in
    record {
      len = ap length c.in_ok-push.ensures.items ∙ one_longer c.loop-number.fates.items _ ∙ ap (λ k. k + 1) c.loop-number.invariant.len;
      fates = λ p is_start t stands.
          let occurs : Occurs c.args.program.now c.args.op t = record {
            stands = stands;
            sound = c.know_occurrences.ensures.sound t stands;
            found = c.know_occurrences.ensures.found t stands;
            one = c.know_occurrences.ensures.one t stands;
            blocks_sound = c.know_occurrences.ensures.blocks_sound t stands;
            blocks_found = c.know_occurrences.ensures.blocks_found t stands;
            blocks_one = c.know_occurrences.ensures.blocks_one t stands;
            site = c.know_occurrences.ensures.site t stands;
            beside = c.know_occurrences.ensures.beside t stands;
            nested = c.know_occurrences.ensures.nested t stands;
          } in
          fates_more g.D.Meanings.meaning p c.args.program.now lists c.args.op (numbers_of c.args.inside.now) c.requires.numbered t occurs c.args.start is_start c.loop-number.fates.items c.push.new.self.items _ c.is_marked-mark.result c.judge.result
          (ap (slice_get c.args.inside.now.blocks.keys) c.loop-number.invariant.len ∙ here)
          (λ under. let m = c.is_marked-mark.ensures in let r = c.requires.reached t stands c.loop-number.number _ here under in (λ h. r.0 (m.0 h), λ h. m.1 (r.1 h)))
          (subst (λ fs. IsJudgedFate g.D.Meanings.meaning c.args.program.now c.args.start c.args.inside.now.blocks.keys fs (get_or c.as_slice-block-items.result.now c.loop-number.number no_handle) c.is_marked-mark.result c.judge.result) c.deref.ensures.value c.judge.ensures)
          c.in_ok-push.ensures.items (c.loop-number.invariant.fates p is_start t stands);
    }

pub returns : goal.returns
returns g c =
    let all = ap length c.as_slice-block-items.ensures.keys in
    let len = c.loop-number.invariant.len in
    let short = c.loop-number.auto.number-end in
    let done = c.loop-number-test.false in
    record { len = omega (arith, all, len, short, done); fates = c.loop-number.invariant.fates }
