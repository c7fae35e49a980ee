use Rattle.std.proofs.Common.{◌≡◌, ◌+◌, ◌<◌, ◌≤◌, None, length, take, sym, ap, ◌∙◌, arith}
use Rattle.std.specs.Prelude.{drop as list_drop}
use Rattle.opt_dialect.specs.Masks.{marked}
use Rattle.kit.proofs.Moved.{stays_next, goes_next, less_behind}
use Rattle.kit.proofs.dropping.gather.Goals as goal
use Rattle.kit.proofs.dropping.gather.Goals.{then-not-is_marked, else-not-is_marked}

pub loop-i-preserved : goal.loop-i-preserved
loop-i-preserved c =
    let p = marked c.args.marks.now in
    let i = c.loop-i.i in
    let old = c.args.names.now.items in
    let ys = c.loop-i.names.items in
    let all : c.args.names.now.len ≡ length old = c.args.names.now.ok.0 in
    let within : i < length old = omega arith in
    let order : c.loop-i.count ≤ i = c.loop-i.invariant.order in
    let behind = less_behind ys old i c.loop-i.invariant.back in
    elim c.if-not-is_marked.branch [
      | then-not-is_marked w ↦ record {
        front = (λ j. take (w.count-is j) (w.names-is j).items)
            ∙ stays_next p ys w.move_to.new.names.items old c.loop-i.count i None c.loop-i.invariant.front
            c.loop-i.invariant.back within (sym w.if-not-is_marked.ensures) w.move_to.ensures.front;
        back = ap (λ v. list_drop (i + 1) v.items) w.names-is ∙ (w.move_to.ensures.back ∙ behind);
        order = omega arith;
        len = ap (λ v. v.len) w.names-is ∙ (w.move_to.ensures.len ∙ c.loop-i.invariant.len);
        ptr = ap (λ v. v.ptr) w.names-is ∙ (w.move_to.ensures.ptr ∙ c.loop-i.invariant.ptr);
        cap = ap (λ v. v.cap) w.names-is ∙ (w.move_to.ensures.capacity ∙ c.loop-i.invariant.cap);
      }
      | else-not-is_marked w ↦ record {
        front = (λ j. take (w.count-is j) (w.names-is j).items)
            ∙ goes_next p ys old c.loop-i.count i c.loop-i.invariant.front (sym w.if-not-is_marked.ensures);
        back = ap (λ v. list_drop (i + 1) v.items) w.names-is ∙ behind;
        order = omega arith;
        len = ap (λ v. v.len) w.names-is ∙ c.loop-i.invariant.len;
        ptr = ap (λ v. v.ptr) w.names-is ∙ c.loop-i.invariant.ptr;
        cap = ap (λ v. v.cap) w.names-is ∙ c.loop-i.invariant.cap;
      }
    ]
