use Rattle.std.proofs.Common.{◌≡◌, ◌⊎◌, ℕ, ◌+◌, ◌≤◌, length, ap, ◌∙◌, arith}
use Rattle.std.specs.Prelude.{min}
use Rattle.opt_dialect.specs.Masks.{marked}
use Rattle.kit.specs.Dropped.{kept}
use Rattle.kit.proofs.Counted.{kept_end, within_or_past, all_in}
use Rattle.kit.proofs.dropping.unmarked.Goals as goal

one_more : (next last gone one mark i : ℕ) → next + mark ≡ last + 1 → one ≡ mark → last + gone ≡ i
    → next + (gone + one) ≡ i + 1
one_more next last gone one mark i e f g = omega arith

pub loop-i-preserved : goal.loop-i-preserved
loop-i-preserved c =
    let p = marked c.args.marks.now in
    one_more (kept p c.args.start (c.loop-i.i + 1)) (kept p c.args.start c.loop-i.i) c.loop-i.gone
    c.one_if_marked-gone.result _ c.loop-i.i (kept_end p c.args.start c.loop-i.i) c.one_if_marked-gone.ensures
    c.loop-i.invariant

pub returns : goal.returns
returns c =
    let end : c.loop-i.i ≡ c.min-within.result = omega arith in
    let past : (c.min-within.result ≡ c.args.count) ⊎ (length c.args.marks.now ≤ c.args.start + c.min-within.result) =
    within_or_past c.args.count (length c.args.marks.now) c.args.start c.min-within.result
    (c.min-within.ensures ∙ ap (min c.args.count) c.saturating_sub.ensures) in
    let low : c.min-within.result ≤ c.args.count = omega arith in
    all_in c.args.marks.now c.args.start c.loop-i.i c.min-within.result c.args.count c.loop-i.gone end low past
    c.loop-i.invariant
