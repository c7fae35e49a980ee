use Rattle.std.proofs.Common.{rules, ◌≡◌, ◌∙◌, None, Some, length, sym, ap}
use Rattle.std.specs.Prelude.{slice_get}
use Rattle.std.proofs.lemmas.Option.{slice_get_read, slice_get-get_or}
use Rattle.opt_solvers.proofs.ChainsFollowing.{walking_goes_on, walking_stops, walking_meets}
use Rattle.opt_solvers.proofs.chains_followed.walk.Goals as goal

pub returns-in-Done : goal.returns-in-Done
returns-in-Done c =
    let s = c.walk.invariant.walked in let h = c.walk.invariant.at_in in
    let m = slice_get_read c.walk.known.marks.items _ c.walk.at c.index.result.now (sym s.marks) h c.index.ensures ∙ ap Some c.in-Done.is in
    let f = slice_get_read c.walk.known.finals.items _ c.walk.at c.index-in-Done.result.now (sym (ap length s.finals ∙ c.requires.known.finals)) h c.index-in-Done.ensures in
    walking_meets c.args.next.now c.args.known.now c.walk.known c.walk.path.items c.args.start c.walk.at c.index-in-Done.result.now c.requires.known c.walk.invariant m f

pub returns-in-OnPath : goal.returns-in-OnPath
returns-in-OnPath c =
    let s = c.walk.invariant.walked in
    let m = slice_get_read c.walk.known.marks.items _ c.walk.at c.index.result.now (sym s.marks) c.walk.invariant.at_in c.index.ensures ∙ ap Some c.in-OnPath.is in
    (c.walk.at, s.leads c.walk.at (s.on_path c.walk.at m))

pub returns-in-None : goal.returns-in-None
returns-in-None c =
    let s = c.walk.invariant.walked in let h = c.walk.invariant.at_in in
    let m = slice_get_read c.walk.known.marks.items _ c.walk.at c.index.result.now (sym s.marks) h c.index.ensures ∙ ap Some c.in-New.is in
    let n : slice_get c.args.next.now c.walk.at ≡ Some None = slice_get-get_or c.args.next.now c.walk.at None h ∙ ap Some (search rules) in
    walking_stops c.args.next.now c.args.known.now c.walk.known c.enter.new.known c.walk.path.items c.enter.new.path.items c.args.start c.walk.at c.walk.invariant m c.in_ok-enter.ensures n

pub walk-preserved : goal.walk-preserved
walk-preserved c =
    let s = c.walk.invariant.walked in let h = c.walk.invariant.at_in in
    let m = slice_get_read c.walk.known.marks.items _ c.walk.at c.index.result.now (sym s.marks) h c.index.ensures ∙ ap Some c.in-New.is in
    let n : slice_get c.args.next.now c.walk.at ≡ Some (Some c.in-Some.to) = slice_get-get_or c.args.next.now c.walk.at None h ∙ ap Some (search rules) in
    walking_goes_on c.args.next.now c.args.known.now c.walk.known c.enter.new.known c.walk.path.items c.enter.new.path.items c.args.start c.walk.at c.in-Some.to c.requires.next c.walk.invariant m c.in_ok-enter.ensures n
