-- What an orderly tree means is orderly.
use Rattle.std.proofs.Common.{sym, ap, ◌∙◌, subst}
use Rattle.std.specs.Prelude.{slice_get}
use Rattle.ir_trees.specs.Names.{Names, Contents}
use Rattle.ir_trees.specs.Renames.{names_of}
use Rattle.ir_trees.specs.Trees.{Root}
use Rattle.opt_meanings.specs.Meanings.{Meanings, mean_root}
use Rattle.opt_meanings.proofs.Said.{names-mean, mean_occurrence, mean_block_occurrence, operation_from, block_from}
use Rattle.opt_trees.specs.Occurrences.{Has}
use Rattle.opt_trees.specs.Simplify.{IsOrderly}

module _ {N : Names} {S R : Contents} (m : Meanings S R) (t : Root N S) where
  pub orderly_meant : IsOrderly t → IsOrderly (mean_root m t)
  orderly_meant o = record {
    operations = λ x y a b e.
        let p = operation_from m t x a in
        let q = operation_from m t y b in
        sym p.is ∙ ap (mean_occurrence m) (o.operations p.it q.it p.stands q.stands
        (ap (λ z. z.head.name) p.is ∙ e ∙ sym (ap (λ z. z.head.name) q.is))) ∙ q.is;
    blocks = λ x y a b e.
        let p = block_from m t x a in
        let q = block_from m t y b in
        sym p.is ∙ ap (mean_block_occurrence m) (o.blocks p.it q.it p.stands q.stands
        (ap (λ z. z.label.name) p.is ∙ e ∙ sym (ap (λ z. z.label.name) q.is))) ∙ q.is;
    arguments = λ x y v i j a b at_x at_y.
        let p = block_from m t x a in
        let q = block_from m t y b in
        let one = o.arguments p.it q.it v i j p.stands q.stands
        (ap (λ l. slice_get l i) (sym (names-mean m.value p.it.label.arguments)) ∙ ap (λ z. slice_get (names_of z.label.arguments) i) p.is ∙ at_x)
        (ap (λ l. slice_get l j) (sym (names-mean m.value q.it.label.arguments)) ∙ ap (λ z. slice_get (names_of z.label.arguments) j) q.is ∙ at_y) in
        (sym p.is ∙ ap (mean_block_occurrence m) one.0 ∙ q.is, one.1);
    ends = λ x y b c h k e at_x at_y.
        let p = operation_from m t x h in
        let q = operation_from m t y k in
        sym p.is ∙ ap (mean_occurrence m) (o.ends p.it q.it b c p.stands q.stands
        (ap (λ z. z.site.label.name) p.is ∙ e ∙ sym (ap (λ z. z.site.label.name) q.is))
        (subst (λ z. Has b z.head.successors) (sym p.is) at_x) (subst (λ z. Has c z.head.successors) (sym q.is) at_y)) ∙ q.is;
  }
