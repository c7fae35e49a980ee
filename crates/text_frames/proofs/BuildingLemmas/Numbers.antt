-- Calls one after the other give the numbers that each of them gives.
use Rattle.std.proofs.Common.{◌≡◌, ℕ, ◌+◌, add-zero, sym, ◌∙◌, arith}
use Rattle.ir_program.specs.Edits.{KeepsErased}
use Rattle.ir_program.specs.Program.{Program}
use Rattle.text_frames.specs.building.Kept.{GivesNumbers, KeepsPayloads}
use Rattle.text_frames.proofs.BuildingLemmas.Payloads.{payloads_none, payloads_both}

module _ {O B : Type 0} where
  pub erased_both : (c d e : Program O B) → KeepsErased c d → KeepsErased d e → KeepsErased c e
  erased_both c d e a b = record {
    operations = λ q h. b.operations q (a.operations q h);
    blocks = λ q h. b.blocks q (a.blocks q h);
    regions = λ q h. b.regions q (a.regions q h);
  }

  pub gives_none : (c : Program O B) → GivesNumbers c c 0
  gives_none c = record {
    counter = sym (add-zero c.counter);
    erased = record { operations = λ q h. h; blocks = λ q h. h; regions = λ q h. h };
    payloads = payloads_none c;
  }

  pub gives_nothing : (c d : Program O B) → d.counter ≡ c.counter → KeepsErased c d → KeepsPayloads c d → GivesNumbers c d 0
  gives_nothing c d counter erased payloads = record { counter = counter ∙ sym (add-zero c.counter); erased = erased; payloads = payloads }

  pub gives_both : (c d e : Program O B) (m n : ℕ) → GivesNumbers c d m → GivesNumbers d e n → GivesNumbers c e (m + n)
  gives_both c d e m n a b = record {
    counter = let x : d.counter ≡ c.counter + m = a.counter in let y : e.counter ≡ d.counter + n = b.counter in omega arith;
    erased = erased_both c d e a.erased b.erased;
    payloads = payloads_both c d e a.payloads b.payloads;
  }

  -- where the second gives none
  pub gives_still : (c d e : Program O B) (n : ℕ) → GivesNumbers c d n → GivesNumbers d e 0 → GivesNumbers c e n
  gives_still c d e n a b = let h = gives_both c d e n 0 a b in record { counter = let x : e.counter ≡ c.counter + (n + 0) = h.counter in omega arith; erased = h.erased; payloads = h.payloads }
