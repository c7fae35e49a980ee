-- Lists of pairs under functions that keep apart what the pairs keep apart.
use Rattle.std.proofs.Common.{◌≡◌, ◌↔◌, ℕ, zero, suc, List, [], ◌∷◌, map, Option, Some, None, option_map, slice_get, refl, sym, ap, ◌∙◌}
use Rattle.std.proofs.lemmas.Option.{none-some, slice_get-map, same_Some}
use Rattle.ir_print.specs.Shown.{Pairs}
use Rattle.ir_trees.specs.Renames.{RepeatAlike}
use Rattle.ir_trees.proofs.Alike.{AsLong}
use Rattle.kit_text_programs.specs.Alike.{AreBoth}

-- what stands at an index of two lists of pairs
at_both : {X Y : Type 0} (R : X → Y → Type 0) (xs : List X) (ys : List Y) → Pairs R xs ys → (k : ℕ) →
    AreBoth R (slice_get xs k) (slice_get ys k)
at_both R [] [] h k = tt
at_both R [] (y ∷ ys) h k = absurd h
at_both R (x ∷ xs) [] h k = absurd h
at_both R (x ∷ xs) (y ∷ ys) h zero = h.0
at_both R (x ∷ xs) (y ∷ ys) h (suc k) = at_both R xs ys h.1 k

module _ {X Y : Type 0} (R : X → Y → Type 0) (f : X → ℕ) (g : Y → ℕ)
    (forth : (a b : X) (c d : Y) → R a c → R b d → f a ≡ f b → g c ≡ g d)
    (back : (a b : X) (c d : Y) → R a c → R b d → g c ≡ g d → f a ≡ f b) where
  -- two of one list are one number where those of the other are
  both_alike : (o p : Option X) (u v : Option Y) → AreBoth R o u → AreBoth R p v →
      (option_map f o ≡ option_map f p ↔ option_map g u ≡ option_map g v)
  both_alike None None None None h k = ((λ e. refl), (λ e. refl))
  both_alike None None None (Some d) h k = absurd k
  both_alike None None (Some c) v h k = absurd h
  both_alike None (Some b) None None h k = absurd k
  both_alike None (Some b) None (Some d) h k = ((λ e. absurd (none-some (f b) e)), (λ e. absurd (none-some (g d) e)))
  both_alike None (Some b) (Some c) v h k = absurd h
  both_alike (Some a) p None v h k = absurd h
  both_alike (Some a) None (Some c) None h k = ((λ e. absurd (none-some (f a) (sym e))), (λ e. absurd (none-some (g c) (sym e))))
  both_alike (Some a) None (Some c) (Some d) h k = absurd k
  both_alike (Some a) (Some b) (Some c) None h k = absurd k
  both_alike (Some a) (Some b) (Some c) (Some d) h k =
      ((λ e. ap Some (forth a b c d h k (same_Some (f a) (f b) e))), (λ e. ap Some (back a b c d h k (same_Some (g c) (g d) e))))

  -- the numbers of the one list are the same where those of the other are
  pub numbers_alike : (xs : List X) (ys : List Y) → Pairs R xs ys → RepeatAlike (map f xs) (map g ys)
  numbers_alike xs ys h j k =
      let r = both_alike (slice_get xs j) (slice_get xs k) (slice_get ys j) (slice_get ys k) (at_both R xs ys h j) (at_both R xs ys h k) in
      let of_xs : (i : ℕ) → slice_get (map f xs) i ≡ option_map f (slice_get xs i) = λ i. slice_get-map f xs i in
      let of_ys : (i : ℕ) → slice_get (map g ys) i ≡ option_map g (slice_get ys i) = λ i. slice_get-map g ys i in (
        (λ e. of_ys j ∙ r.0 (sym (of_xs j) ∙ e ∙ of_xs k) ∙ sym (of_ys k)),
        (λ e. of_xs j ∙ r.1 (sym (of_ys j) ∙ e ∙ of_ys k) ∙ sym (of_xs k)),
      )

  -- lists of pairs have one length
  pub numbers_long : (xs : List X) (ys : List Y) → Pairs R xs ys → AsLong (map f xs) (map g ys)
  numbers_long [] [] h = refl
  numbers_long [] (y ∷ ys) h = absurd h
  numbers_long (x ∷ xs) [] h = absurd h
  numbers_long (x ∷ xs) (y ∷ ys) h = ap (λ l. tt ∷ l) (numbers_long xs ys h.1)
