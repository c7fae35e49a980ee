use Rattle.std.proofs.Common.{rules, ◌≡◌, ◌-◌, ◌<◌, suc, length, sym, ap, ◌∙◌}
use Rattle.std.proofs.lemmas.Option.{slice_get-get_or}
use Rattle.text_frames.specs.Waiting.{labels_end, start_from}
use Rattle.text_frames.proofs.WaitingRows.{start_is}
use Rattle.text_frames.proofs.waiting.labels_start.Goals as goal

pub returns-else-index-eq0 : goal.returns-else-index-eq0
returns-else-index-eq0 c =
    let i = c.args.index in
    let e : suc (i - 1) ≡ i = search rules in
    let h : i - 1 < length c.args.rows.now = search rules in
    sym (start_is labels_end 0 c.args.rows.now (i - 1) _ (slice_get-get_or c.args.rows.now (i - 1) _ h)) ∙ ap (start_from labels_end 0 c.args.rows.now) e
