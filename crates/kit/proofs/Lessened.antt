-- What is left of sizes, step by step.
use Rattle.std.proofs.Common.{◌≡◌, ℕ, ◌+◌, Bool, ap, ◌∙◌}
use Rattle.std.specs.Prelude.{slice_index}
use Rattle.std.specs.Global.{Vec}
use Rattle.std.specs.Vec.{with_item}
use Rattle.kit.specs.Dropped.{kept, less_sizes}

pub less_is : (p : ℕ → Bool) (v a b : Vec ℕ) (f s m n : ℕ) → f ≡ slice_index v.items 1 → s ≡ slice_index v.items 2
    → m ≡ kept p 1 f → n ≡ kept p (1 + f) s → a ≡ with_item v 1 m → b ≡ with_item a 2 n → b ≡ less_sizes p v
less_is p v a b f s m n first second left_first left_second one two =
    two ∙ (ap (λ z. with_item z 2 n) one
    ∙ (ap (λ z. with_item (with_item v 1 z) 2 n) (left_first ∙ ap (kept p 1) first)
    ∙ ap (λ z. with_item (with_item v 1 (kept p 1 (slice_index v.items 1))) 2 z)
    (left_second ∙ (λ i. kept p (1 + first i) (second i)))))
