use Rattle.std.proofs.Common.{◌≡◌, ◌∙◌, ap, ℕ, List, drop, length, arith, nat_eq}
use Rattle.std.proofs.lemmas.List.{take_at}
use Rattle.kit_flat.specs.Machine.{bind_all}
use Rattle.kit_flat.specs.View.{numbers_of}
use Rattle.kit_flat.proofs.frames.bind_list.Goals as goal

pub returns-clause-numbers : goal.returns-clause-numbers
returns-clause-numbers c =
    let n : length c.bind.new.values ≡ c.args.values.now.len = omega arith in
    let e = take_at c.bind.new.values (drop (length c.bind.new.values) c.args.values.now.items)
    c.args.values.now.len n in
    ap numbers_of e
    ∙ c.bind.ensures
    ∙ ap (λ (l : List ℕ). bind_all nat_eq (numbers_of l) c.args.names.now c.args.numbers.now)
    c.as_mut_slice.ensures.value
