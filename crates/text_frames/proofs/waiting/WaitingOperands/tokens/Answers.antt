use Rattle.std.proofs.Common.{rules, ◌≡◌, ◌≤◌, ℕ, List, length, get_or, ap, vec_len, arith}
use Rattle.text_frames.specs.Waiting.{Waiting, tokens_end}
use Rattle.text_frames.specs.declared.waiting.WaitingRow.{WaitingRow}
use Rattle.text_frames.proofs.WaitingRows.{row_below, row_read, part_inside, tokens_found}
use Rattle.text_frames.proofs.waiting.WaitingOperands.tokens.Goals as goal

pub tokens_start-start-requires : goal.tokens_start-start-requires
tokens_start-start-requires c =
    let h = row_below c.args.self.now.items c.self.inside.rows.items c.self.inside.tokens.items c.self.inside.labels.items c.args.index (ap (λ (w : Waiting). w.items) c.self.view_is) c.requires in
    let d = ap (λ (rs : List WaitingRow). length rs) c.deref.ensures.value in omega (arith, h, d)

pub index-requires : goal.index-requires
index-requires c =
    let n : vec_len c.self.inside.rows ≡ length c.self.inside.rows.items = search rules in
    let h = row_below c.args.self.now.items c.self.inside.rows.items c.self.inside.tokens.items c.self.inside.labels.items c.args.index (ap (λ (w : Waiting). w.items) c.self.view_is) c.requires in
    omega (arith, n, h)

pub offset_bounds-deref-start : goal.offset_bounds-deref-start
offset_bounds-deref-start c =
    let rs = c.self.inside.rows.items in
    let ks = c.self.inside.tokens.items in
    let ls = c.self.inside.labels.items in
    let v = ap (λ (w : Waiting). w.items) c.self.view_is in
    let e : c.index.result.now ≡ get_or rs c.args.index c.index.result.now = search rules in
    let at = row_read c.args.self.now.items rs ks ls c.args.index c.index.result.now v c.requires e in
    let b = part_inside tokens_end rs c.deref.result.now ks c.args.index c.index.result.now at c.tokens_start-start.result c.deref.ensures.value c.tokens_start-start.ensures c.self.invariant.0 in
    let l = b.0 in let m = b.1 in let d = ap (λ (xs : List ℕ). length xs) c.deref-2.ensures.value in let t = c.deref-2.type_inv.1 in omega (arith, l, m, d, t)

pub slice_bounds-result-count : goal.slice_bounds-result-count
slice_bounds-result-count c =
    let rs = c.self.inside.rows.items in
    let ks = c.self.inside.tokens.items in
    let ls = c.self.inside.labels.items in
    let v = ap (λ (w : Waiting). w.items) c.self.view_is in
    let e : c.index.result.now ≡ get_or rs c.args.index c.index.result.now = search rules in
    let at = row_read c.args.self.now.items rs ks ls c.args.index c.index.result.now v c.requires e in
    (part_inside tokens_end rs c.deref.result.now ks c.args.index c.index.result.now at c.tokens_start-start.result c.deref.ensures.value c.tokens_start-start.ensures c.self.invariant.0).0

pub slice_bounds-result-start : goal.slice_bounds-result-start
slice_bounds-result-start c =
    let rs = c.self.inside.rows.items in
    let ks = c.self.inside.tokens.items in
    let ls = c.self.inside.labels.items in
    let v = ap (λ (w : Waiting). w.items) c.self.view_is in
    let e : c.index.result.now ≡ get_or rs c.args.index c.index.result.now = search rules in
    let at = row_read c.args.self.now.items rs ks ls c.args.index c.index.result.now v c.requires e in
    let b = part_inside tokens_end rs c.deref.result.now ks c.args.index c.index.result.now at c.tokens_start-start.result c.deref.ensures.value c.tokens_start-start.ensures c.self.invariant.0 in
    let d = ap (λ (xs : List ℕ). length xs) c.deref-2.ensures.value in
    let l : c.tokens_start-start.result ≤ length c.deref-2.result.now = (let x = b.0 in let y = b.1 in omega (arith, x, y, d)) in search rules

pub slice_bounds-result-end : goal.slice_bounds-result-end
slice_bounds-result-end c =
    let rs = c.self.inside.rows.items in
    let ks = c.self.inside.tokens.items in
    let ls = c.self.inside.labels.items in
    let v = ap (λ (w : Waiting). w.items) c.self.view_is in
    let e : c.index.result.now ≡ get_or rs c.args.index c.index.result.now = search rules in
    let at = row_read c.args.self.now.items rs ks ls c.args.index c.index.result.now v c.requires e in
    let b = part_inside tokens_end rs c.deref.result.now ks c.args.index c.index.result.now at c.tokens_start-start.result c.deref.ensures.value c.tokens_start-start.ensures c.self.invariant.0 in
    let d = ap (λ (xs : List ℕ). length xs) c.deref-2.ensures.value in
    let l : c.tokens_start-start.result ≤ c.index.result.now.tokens_end = b.0 in
    let m : c.index.result.now.tokens_end ≤ length c.deref-2.result.now = (let y = b.1 in omega (arith, y, d)) in search rules

pub returns : goal.returns
returns c =
    let rs = c.self.inside.rows.items in
    let ks = c.self.inside.tokens.items in
    let ls = c.self.inside.labels.items in
    let v = ap (λ (w : Waiting). w.items) c.self.view_is in
    let e : c.index.result.now ≡ get_or rs c.args.index c.index.result.now = search rules in
    let at = row_read c.args.self.now.items rs ks ls c.args.index c.index.result.now v c.requires e in
    tokens_found c.args.self.now.items rs ks ls c.args.index c.index.result.now v at
    c.deref.result.now c.tokens_start-start.result c.deref.ensures.value c.tokens_start-start.ensures c.deref-2.result.now c.deref-2.ensures.value
