use Rattle.std.proofs.Common.{◌≡◌, ◌<◌, Some, length, arith, rules, refl, ap, ◌∙◌}
use Rattle.std.proofs.lemmas.Option.{slice_get_within, slice_get-get_or}
use Rattle.opt_dce.proofs.liveness.closing.value_row.Goals as goal

pub bounds-blocks-number : goal.bounds-blocks-number
bounds-blocks-number c = let lt = slice_get_within c.args.inside.now.blocks.keys c.in-Some.number c.in-Block.block (c.in-Some.ensures.found c.in-Some.number refl) in let len = c.requires.blocks in omega arith

pub offset_bounds-blocks-number : goal.offset_bounds-blocks-number
offset_bounds-blocks-number c = let lt = slice_get_within c.args.inside.now.blocks.keys c.in-Some.number c.in-Block.block (c.in-Some.ensures.found c.in-Some.number refl) in let below : c.in-Some.number < length c.args.blocks.now = (let len = c.requires.blocks in omega arith) in search rules

pub returns-in-Some : goal.returns-in-Some
returns-in-Some c =
    let lt = slice_get_within c.args.inside.now.blocks.keys c.in-Some.number c.in-Block.block (c.in-Some.ensures.found c.in-Some.number refl) in
    let below : c.in-Some.number < length c.args.blocks.now = (let len = c.requires.blocks in omega arith) in
    record {
      result = λ p e. let by = c.in-Block.ensures in absurd (cc (by, e));
      argument = λ b e.
          let by = c.in-Block.ensures in
          let same : c.in-Block.block ≡ b = cc (by, e) in
          (c.in-Some.number, c.in-Some.ensures.found c.in-Some.number refl ∙ ap Some same, slice_get-get_or c.args.blocks.now c.in-Some.number _ below);
    }
