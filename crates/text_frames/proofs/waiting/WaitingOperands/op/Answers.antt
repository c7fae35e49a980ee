use Rattle.std.proofs.Common.{rules, ◌≡◌, length, get_or, ap, vec_len, arith}
use Rattle.text_frames.specs.Waiting.{Waiting}
use Rattle.text_frames.proofs.WaitingRows.{op_found, row_below, row_read}
use Rattle.text_frames.proofs.waiting.WaitingOperands.op.Goals as goal

pub index-requires : goal.index-requires
index-requires c =
    let n : vec_len c.self.inside.rows ≡ length c.self.inside.rows.items = search rules in
    let h = row_below c.args.self.now.items c.self.inside.rows.items c.self.inside.tokens.items c.self.inside.labels.items c.args.index (ap (λ (w : Waiting). w.items) c.self.view_is) c.requires in
    omega (arith, n, h)

pub returns : goal.returns
returns c x =
    let rs = c.self.inside.rows.items in
    let ks = c.self.inside.tokens.items in
    let ls = c.self.inside.labels.items in
    let v = ap (λ (w : Waiting). w.items) c.self.view_is in
    let e : c.index.result.now ≡ get_or rs c.args.index c.index.result.now = search rules in
    op_found c.args.self.now.items rs ks ls c.args.index c.index.result.now v (row_read c.args.self.now.items rs ks ls c.args.index c.index.result.now v c.requires e) x
