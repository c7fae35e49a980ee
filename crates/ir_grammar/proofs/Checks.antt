-- Steps of the checks.
use Rattle.std.proofs.Common.{true, ◌≡◌, ℕ, suc, ◌+◌, ◌<◌, ◌≤◌, List, [], ◌∷◌, Option, Some, None, slice_get, length, get_or, drop, refl, sym, ap, ◌∙◌, arith, add-one, inl, inr, zero, ◌⊎◌}
use Rattle.std.proofs.Math.Seq.{drop-cons}
use Rattle.std.proofs.lemmas.Bool.{cases_lt}
use Rattle.std.proofs.lemmas.List.{get_or_past}
use Rattle.ir_grammar.specs.declared.grammar.Action.{Action}
use Rattle.ir_grammar.specs.declared.grammar.Symbol.{Symbol}
use Rattle.ir_grammar.specs.declared.grammar.Symbol.TheVariants.{Sign, Part, Act}
use Rattle.ir_grammar.specs.declared.grammar.Facts.{Facts}
use Rattle.ir_grammar.specs.declared.grammar.Grammar.{Grammar}
use Rattle.ir_grammar.specs.Grammar.{accepts}
use Rattle.ir_grammar.specs.Table.{AreKnownSymbols, RanksAreBelow, chosen, closing_of}

-- the symbol at i
pub item_drop : (body : List Symbol) (i : ℕ) (d s : Symbol) → i < length body → get_or body i d ≡ s → drop i body ≡ s ∷ drop (i + 1) body
item_drop body i d s lt e = drop-cons body i d lt ∙ (ap (λ x. x ∷ drop (suc i) body) e ∙ ap (λ n. s ∷ drop n body) (sym (add-one i)))

pub known_by_cases : (xs : List Facts) (n : ℕ) → n < length xs → (f : Facts) × (slice_get xs n ≡ Some f)
known_by_cases [] n lt = absurd (omega arith)
known_by_cases (x ∷ xs) zero lt = (x, refl)
known_by_cases (x ∷ xs) (suc n) lt = known_by_cases xs n (omega arith)

module _ (g : Grammar) where
  pub known_sign : (body : List Symbol) (i k : ℕ) (d : Symbol) → i < length body → get_or body i d ≡ Sign k → ((j : ℕ) × (accepts g k j ≡ true)) → AreKnownSymbols g (drop (i + 1) body) → AreKnownSymbols g (drop i body)
  known_sign body i k d lt e some h = rw (item_drop body i d (Sign k) lt e) (some, h)

  pub known_act : (body : List Symbol) (i : ℕ) (k : Action) (d : Symbol) → i < length body → get_or body i d ≡ Act k → AreKnownSymbols g (drop (i + 1) body) → AreKnownSymbols g (drop i body)
  known_act body i k d lt e h = rw (item_drop body i d (Act k) lt e) h

  pub known_next : (body : List Symbol) (i n : ℕ) (d : Symbol) → i < length body → get_or body i d ≡ Part n → n < length g.parts.items → AreKnownSymbols g (drop (i + 1) body) → AreKnownSymbols g (drop i body)
  known_next body i n d lt e small h = rw (item_drop body i d (Part n) lt e) (known_by_cases g.parts.items n small, h)

  pub below_sign : (rank : ℕ) (body : List Symbol) (i k : ℕ) (d : Symbol) → i < length body → get_or body i d ≡ Sign k → ((j : ℕ) × (accepts g k j ≡ true)) → RanksAreBelow g rank (drop (i + 1) body) → RanksAreBelow g rank (drop i body)
  below_sign rank body i k d lt e some h = rw (item_drop body i d (Sign k) lt e) (some, h)

  pub below_act : (rank : ℕ) (body : List Symbol) (i : ℕ) (k : Action) (d : Symbol) → i < length body → get_or body i d ≡ Act k → RanksAreBelow g rank (drop (i + 1) body) → RanksAreBelow g rank (drop i body)
  below_act rank body i k d lt e h = rw (item_drop body i d (Act k) lt e) h

  pub below_next : (rank : ℕ) (body : List Symbol) (i n : ℕ) (d : Symbol) (f : Facts) → i < length body → get_or body i d ≡ Part n → slice_get g.parts.items n ≡ Some f → f.rank < rank → RanksAreBelow g rank (drop (i + 1) body) → RanksAreBelow g rank (drop i body)
  below_next rank body i n d f lt e at small h = rw (item_drop body i d (Part n) lt e) ((f, at, small), h)

-- a choice at each column
pub choice_past : {P : ℕ → ℕ → Type 0} (xs : List (Option ℕ)) (n : ℕ) → length xs ≤ n → ((c p : ℕ) → c < n → get_or xs c None ≡ Some p → P c p) → (c p : ℕ) → get_or xs c None ≡ Some p → P c p
choice_past {P} xs n le h c p e = go (cases_lt c n)
  where
    go : (c < n) ⊎ (n ≤ c) → P c p
    go (inl lt) = h c p lt e
    go (inr ge) = let past : get_or xs c None ≡ None = get_or_past xs c None (omega arith) in cc

-- a part with a rule is among the parts
pub chosen_within : (xs : List Facts) (n c p : ℕ) → chosen (slice_get xs n) c ≡ Some p → n < length xs
chosen_within [] n c p e = cc
chosen_within (x ∷ xs) zero c p e = omega arith
chosen_within (x ∷ xs) (suc n) c p e = let h = chosen_within xs n c p e in omega arith

-- a part with a closing rule is among the parts
pub closing_within : (xs : List Facts) (n p : ℕ) → closing_of (slice_get xs n) ≡ Some p → n < length xs
closing_within [] n p e = cc
closing_within (x ∷ xs) zero p e = omega arith
closing_within (x ∷ xs) (suc n) p e = let h = closing_within xs n p e in omega arith
