use Rattle.std.proofs.Common.{◌≡◌, ◌∙◌, Some, None, sym, subst}
use Rattle.std.proofs.lemmas.Result.{on_ok_weaker}
use Rattle.ir_characters.specs.Texts.{codes_of}
use Rattle.ir_forest.specs.Meaning.{leaf_in}
use Rattle.ir_print.specs.Shown.{IsLeaf}
use Rattle.text_assembling.proofs.assembling.Assembler.leaf.Goals as goal

pub returns-in-Some-clause-here : goal.returns-in-Some-clause-here
returns-in-Some-clause-here g c said =
    let of_sort = c.in_ok-leaf.ensures said in
    let both : Some c.in-Some.leaf ≡ Some of_sort.0 = sym c.in-Some.is ∙ of_sort.1 in
    let same : of_sort.0 ≡ c.in-Some.leaf = cc in
    let shown = subst (λ l. IsLeaf l (leaf_in c.args.sort (codes_of c.args.text))) same of_sort.2 in
    on_ok_weaker c.put.result (λ h. (c.in-Some.leaf, shown, rw c.last-token.ensures at h)) c.put.ensures.put

pub returns-in-None-clause-here : goal.returns-in-None-clause-here
returns-in-None-clause-here g c said =
    let of_sort = c.in_ok-leaf.ensures said in
    absurd (let wrong : None ≡ Some of_sort.0 = sym c.in-None.is ∙ of_sort.1 in cc)
