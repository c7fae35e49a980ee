use Rattle.std.proofs.Common.{◌≡◌, ◌∙◌, false, get_or, sym, ap, subst, arith}
use Rattle.digraph.specs.Marks.{IsMarked}
use Rattle.opt_rows.specs.Rows.{row_at}
use Rattle.digraph.proofs.Marking.{marked_read}
use Rattle.opt_steps.specs.DeadRelease.{IsReleasable, Releases}
use Rattle.opt_steps.proofs.DeadReleasing.{releasable, place_excused, nothing_excused}
use Rattle.opt_steps.proofs.dead_release.excuse.Goals as goal

pub release_all-requires : goal.release_all-requires
release_all-requires c =
    let e : row_at c.args.keeps.now c.args.place ≡ c.row.result.now = sym c.row.ensures in
    let f : get_or c.args.counts.now.excused.items c.args.place false ≡ false = ap (get_or c.args.counts.now.excused.items c.args.place) (sym c.if-not-index.true) ∙ sym c.index.ensures ∙ c.if-not-index.true in
    subst (λ xs. IsReleasable xs c.args.counts.now.uses.items c.args.counts.now.work) e (releasable c.args.keeps.now c.args.counts.now.excused.items c.args.counts.now.uses.items c.args.counts.now.work c.requires.counts c.args.place c.requires.place f)

pub returns-in_ok-release_all : goal.returns-in_ok-release_all
returns-in_ok-release_all c =
    let e : row_at c.args.keeps.now c.args.place ≡ c.row.result.now = sym c.row.ensures in
    let f : get_or c.args.counts.now.excused.items c.args.place false ≡ false = ap (get_or c.args.counts.now.excused.items c.args.place) (sym c.if-not-index.true) ∙ sym c.index.ensures ∙ c.if-not-index.true in
    place_excused c.args.keeps.now c.args.counts.now.excused.items c.args.counts.now.uses.items c.args.counts.now.work c.requires.counts c.args.place _ _ c.requires.place f
    (subst (λ xs. Releases xs c.args.counts.now.uses.items c.release_all.new.uses.items c.args.counts.now.work c.release_all.new.work) (sym e) c.in_ok-release_all.ensures)

pub returns-else-not-index : goal.returns-else-not-index
returns-else-not-index c =
    let l = c.requires.counts.places in let h = c.requires.place in
    let m = marked_read c.args.counts.now.excused.items c.args.place c.index.result.now (omega (arith, l, h)) c.index.ensures c.if-not-index.false in
    nothing_excused c.args.keeps.now c.args.counts.now.excused.items c.args.counts.now.uses.items c.args.counts.now.work c.requires.counts (λ k. k ≡ c.args.place) (λ k e. subst (IsMarked c.args.counts.now.excused.items) (sym e) m)
