use Rattle.std.proofs.Common.{rules, ◌≡◌, ◌<◌, true, false, length, Some, IsSome, slice_get, refl, sym, ap, ◌∙◌, arith}
use Rattle.std.proofs.lemmas.Option.{slice_get_read}
use Rattle.std.specs.Vec.{vec_len}
use Rattle.opt_folds.proofs.Wanted.{fold_count, is_wanted, not_made, unused}
use Rattle.opt_folds.proofs.const_fold.wanted.Goals as goal

pub returns-then-not-is_used : goal.returns-then-not-is_used
returns-then-not-is_used g c =
    unused g.D.Meanings.meaning c.args.program.now c.args.known.now c.args.op c.result.result c.result.ensures.value
    (λ used. let t = c.is_used.ensures.1 used in let f : true ≡ false = sym t ∙ c.if-not-is_used.true in cc)

pub index-requires : goal.index-requires
index-requires g c =
    let fs = c.in_ok-folds.folds in
    let count = fold_count g.D.Meanings.meaning c.args.program.now c.args.known.now c.args.op fs.items c.in_ok-folds.ensures g.met.D.OptDialect.lawful c.requires.live c.requires.one in
    let len : vec_len fs ≡ length fs.items = search rules in
    omega (arith, count, len)

pub returns-then-is_none : goal.returns-then-is_none
returns-then-is_none g c =
    let d = g.D.Meanings.meaning in
    let fs = c.in_ok-folds.folds in
    let count = fold_count d c.args.program.now c.args.known.now c.args.op fs.items c.in_ok-folds.ensures g.met.D.OptDialect.lawful c.requires.live c.requires.one in
    let at : slice_get fs.items 0 ≡ Some (Some c.in-Some.constant) = slice_get_read fs.items (length fs.items) 0 c.index.result.now refl (omega (arith, count)) c.index.ensures ∙ ap Some c.in-Some.is in
    not_made d c.args.program.now c.args.known.now c.args.op fs.items c.in_ok-folds.ensures c.in-Some.constant at (search rules)

pub returns : goal.returns
returns g c =
    let d = g.D.Meanings.meaning in
    let fs = c.in_ok-folds.folds in
    let count = fold_count d c.args.program.now c.args.known.now c.args.op fs.items c.in_ok-folds.ensures g.met.D.OptDialect.lawful c.requires.live c.requires.one in
    let at : slice_get fs.items 0 ≡ Some (Some c.in-Some.constant) = slice_get_read fs.items (length fs.items) 0 c.index.result.now refl (omega (arith, count)) c.index.ensures ∙ ap Some c.in-Some.is in
    is_wanted d c.args.program.now c.args.known.now c.args.op fs.items c.in_ok-folds.ensures g.met.D.OptDialect.lawful c.requires.live c.requires.one
    c.result.result c.result.ensures.value (c.is_used.ensures.0 c.if-not-is_used.false) c.in-Some.constant at (search rules)
