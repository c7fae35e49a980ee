-- There are no more uses than places.
use Rattle.std.proofs.Common.{◌≡◌, ℕ, zero, suc, ◌<◌, ◌≤◌, ◌+◌, ◌^◌, List, [], ◌∷◌, map, length, Some, option_map, slice_get, refl, sym, ap, ◌∙◌, subst, arith, add-zero, zero-add}
use Rattle.std.proofs.lemmas.List.{length-map}
use Rattle.std.proofs.lemmas.Option.{slice_get-map}
use Rattle.ir_arena.specs.declared.arena.Slot.{Slot}
use Rattle.ir_arena.specs.Arena.{held}
use Rattle.ir_entities.specs.Placed.{IsPlaced}
use Rattle.ir_entities.specs.Uses.{Uses, place_of, IsPlace}
use Rattle.ir_program.specs.Program.{Program}
use Rattle.ir_program.specs.Sound.{IsProgram}
use Rattle.ir_program.specs.Few.{HasFewUses}
use Rattle.ir_program.specs.Uses.{IsUseIn}
use Rattle.ir_program.specs.declared.handles.Use.{Use}
use Rattle.ir_program.proofs.used.Counts.{no_longer}
use Rattle.ir_program.proofs.used.NamedUses.{places_in, seen_rows, use_of, use-stands}
use Rattle.ir_program.proofs.used.SeenUses.{no_value, operand_cell, operands-rows}

-- n numbers, from k on
count_from : ℕ → ℕ → List ℕ
count_from k zero = []
count_from k (suc n) = k ∷ count_from (suc k) n

number-at : (k n q : ℕ) → q < n → slice_get (count_from k n) q ≡ Some (k + q)
unfolding count_from
number-at k zero q lt = absurd (omega arith)
number-at k (suc n) zero lt = ap Some (sym (add-zero k))
number-at k (suc n) (suc q) lt = let less : q < n = omega arith in let same : suc k + q ≡ k + suc q = omega arith in number-at (suc k) n q less ∙ ap Some same

length-counted : (k n : ℕ) → length (count_from k n) ≡ n
unfolding count_from
length-counted k zero = refl
length-counted k (suc n) = ap suc (length-counted (suc k) n)

module _ {R K : Type 0} (none : K) (u : Uses K) (ops : List (Slot R)) (cell : R → List ℕ) (placed : IsPlaced (place_of u) (λ i. places_in none u ops cell (held ops i))) where
  -- uses, each once at most, are no more than the numbers that places have
  few_seen : (n : ℕ) → ((q : ℕ) → IsPlace u q → q < n) → (us : List (Use K)) → ((i j : ℕ) (y : Use K) → slice_get us i ≡ Some y → slice_get us j ≡ Some y → i ≡ j) → ((i : ℕ) (y : Use K) → slice_get us i ≡ Some y → IsUseIn (seen_rows none u ops cell) y) → length us ≤ n
  few_seen n below us once given =
      let numbered : List (Use K) = map (use_of none u ops cell) (count_from 0 n) in
      let long : length numbered ≡ n = length-map (count_from 0 n) (use_of none u ops cell) ∙ length-counted 0 n in
      let most : length us ≤ length numbered = no_longer us numbered once (λ i y e.
      let at = use-stands none u ops cell placed y (given i y e) in
      (at.0, slice_get-map (use_of none u ops cell) (count_from 0 n) at.0 ∙ ap (option_map (use_of none u ops cell)) (number-at 0 n at.0 (below at.0 at.2) ∙ ap Some (zero-add at.0)) ∙ ap Some at.3)) in
      omega arith

module _ {O B : Type 0} (c d : Program O B) (view : c ≡ d) (inv : IsProgram c) where
  pub few_uses : (n : ℕ) × (n < 2 ^ 64) × ((q : ℕ) → IsPlace c.values q → q < n) → HasFewUses d
  few_uses (n, small, below) = subst HasFewUses view (λ us once given.
      let most : length us ≤ n = few_seen no_value c.values c.forest.ops operand_cell inv.operands n below us once (λ i y e. ap (λ xs. slice_get xs y.index) (sym (operands-rows c y.user_op)) ∙ given i y e) in
      omega arith)
