-- Entry blocks of regions, one region after the other.
use Rattle.std.proofs.Common.{◌≡◌, ℕ, List, [], ◌∷◌, ◌++◌, Option, None, Some, slice_get, refl, sym, ap, ◌∙◌}
use Rattle.std.specs.Prelude.{map}
use Rattle.std.proofs.lemmas.List.{map-append}
use Rattle.ir_program.specs.Program.{Program}
use Rattle.ir_program.specs.Lists.{blocks_in}
use Rattle.ir_program.specs.declared.handles.Ptr.{Ptr}
use Rattle.ir_program.specs.declared.handles.Region.{Region}
use Rattle.ir_program.specs.declared.handles.BasicBlock.{BasicBlock}
use Rattle.opt_trees.specs.Occurrences.{cons_if}
use Rattle.opt_inside.specs.facts.Problem.{entries_in}

cons_append : {X : Type 0} (o : Option X) (xs ys : List X) → cons_if o xs ++ ys ≡ cons_if o (xs ++ ys)
cons_append None xs ys = refl
cons_append (Some x) xs ys = refl

entries_more : {O B : Type 0} (c : Program O B) (rs : List (Ptr Region)) (r : Ptr Region) → entries_in c (rs ++ r ∷ []) ≡ entries_in c rs ++ cons_if (slice_get (blocks_in c r) 0) []
entries_more c [] r = refl
entries_more c (s ∷ rs) r = ap (cons_if (slice_get (blocks_in c s) 0)) (entries_more c rs r) ∙ sym (cons_append (slice_get (blocks_in c s) 0) (entries_in c rs) (cons_if (slice_get (blocks_in c r) 0) []))

module _ {O B : Type 0} (c : Program O B) (number : Ptr BasicBlock → ℕ) (rs : List (Ptr Region)) (r : Ptr Region) (row : List ℕ) (so_far : row ≡ map number (entries_in c rs)) where
  -- a region without blocks has no entry
  pub no_entry : (o : Option (Ptr BasicBlock)) → o ≡ slice_get (blocks_in c r) 0 → o ≡ None → row ≡ map number (entries_in c (rs ++ r ∷ []))
  no_entry o is none =
      let shown = map-append number (entries_in c rs) [] in
      so_far ∙ nothing (map number (entries_in c rs)) ∙ sym shown ∙ ap (λ p. map number (entries_in c rs ++ cons_if p [])) (sym none ∙ is) ∙ ap (map number) (sym (entries_more c rs r))
    where
      nothing : (xs : List ℕ) → xs ≡ xs ++ []
      nothing [] = refl
      nothing (x ∷ xs) = ap (λ ys. x ∷ ys) (nothing xs)

  -- its first block is put behind the others
  pub one_entry : (o : Option (Ptr BasicBlock)) (b : Ptr BasicBlock) (k : ℕ) (row' : List ℕ) → o ≡ slice_get (blocks_in c r) 0 → o ≡ Some b → k ≡ number b → row' ≡ row ++ k ∷ [] → row' ≡ map number (entries_in c (rs ++ r ∷ []))
  one_entry o b k row' is some kept e =
      e ∙ ap (λ xs. xs ++ k ∷ []) so_far ∙ ap (λ z. map number (entries_in c rs) ++ z ∷ []) kept ∙ sym (map-append number (entries_in c rs) (b ∷ []))
      ∙ ap (λ p. map number (entries_in c rs ++ cons_if p [])) (sym some ∙ is) ∙ ap (map number) (sym (entries_more c rs r))

-- the entries of these regions, which are all
pub all_entries : {O B : Type 0} (c : Program O B) (number : Ptr BasicBlock → ℕ) (rs all : List (Ptr Region)) (row : List ℕ) → rs ≡ all → row ≡ map number (entries_in c rs) → row ≡ map number (entries_in c all)
all_entries c number rs all row e s = s ∙ ap (λ qs. map number (entries_in c qs)) e
