use Rattle.std.proofs.Common.{rules, ◌≡◌, ◌∙◌, length, sym, ap}
use Rattle.text_frames.specs.Waiting.{Waiting}
use Rattle.text_frames.proofs.WaitingRows.{as_many_wait}
use Rattle.text_frames.proofs.waiting.WaitingOperands.len.Goals as goal

pub returns : goal.returns
returns c =
    let l : c.len.result ≡ length c.self.inside.rows.items = search rules in
    l ∙ sym (as_many_wait 0 0 c.self.inside.rows.items c.self.inside.tokens.items c.self.inside.labels.items) ∙ ap (λ (w : Waiting). length w.items) c.self.view_is
