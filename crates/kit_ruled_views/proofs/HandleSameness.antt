-- Handles of values and of blocks can be told apart.
use Rattle.std.proofs.Common.{◌≡◌, ⊎_elim, Bool, true, false, refl, sym, ◌∙◌}
use Rattle.ir_program.specs.Replacing.{same_value, same_block}
use Rattle.ir_program.proofs.used.Renames.{IsTestOf}
use Rattle.ir_program.proofs.used.Renaming.{block-test, value-test}
use Rattle.kit_views.specs.FlatView.{IsSameness}

sameness : {X : Type 0} (same : X → X → Bool) → IsTestOf same → IsSameness same
sameness same test = record {
  true_same = λ x y is. ⊎_elim
      (λ e. e)
      (λ other. let e : true ≡ false = sym is ∙ test.no x y other in cc)
      (test.decide x y);
  same_true = λ x. test.yes x x refl;
}

pub values_apart : IsSameness same_value
values_apart = sameness same_value value-test

pub blocks_apart : IsSameness same_block
blocks_apart = sameness same_block block-test
