-- What is asked where facts fell: less is known of operands, so less is known of results, and no fewer edges are feasible.
use Rattle.std.proofs.Common.{zero, ◌≡◌, ℕ, suc, ◌<◌, List, [], ◌∷◌, Option, Some, None, true, length, map, refl, sym, ap, ◌∙◌, subst, arith}
use Rattle.std.specs.Prelude.{slice_get}
use Rattle.std.proofs.lemmas.Option.{none-some, same_Some}
use Rattle.opt_rows.specs.declared.known.Known.{Known}
use Rattle.opt_rows.specs.declared.known.Known.TheVariants.{Undetermined, One, Any}
use Rattle.opt_rows.specs.Known.{AtOrBelow, AllBelow, KnowsMore, asked, and_known, answer, MorePrecise}
use Rattle.opt_rows.specs.Facts.{Answers, NumberedFacts}
use Rattle.opt_rows.proofs.FactsFalling.{at_same, at_trans}

-- the laws of what is answered
pub record AreLawful {A : Type 0} (ask : Answers A) : Type 0 where
  pub folds_more : (i : ℕ) (xs ys : List (Option A)) → KnowsMore xs ys → KnowsMore (ask.fold i xs) (ask.fold i ys)
  pub feasible_less : (i : ℕ) (xs ys : List (Option A)) (n : ℕ) → KnowsMore xs ys → ask.feasible i ys n ≡ true → ask.feasible i xs n ≡ true

-- each of the first so many values lies at or below what is said of it
abbrev pub BelowUpto : {A : Type 0} → ℕ → (ℕ → Known A) → List ℕ → List (Known A) → Type 0
BelowUpto {A} n f vs ys = (j v : ℕ) (y : Known A) → j < n → slice_get vs j ≡ Some v → slice_get ys j ≡ Some y → AtOrBelow (f v) y

abbrev pub PairsBelow : {A : Type 0} → List (Known A) → List (Known A) → Type 0
PairsBelow [] [] = Unit {0}
PairsBelow [] (x ∷ xs) = ⊥
PairsBelow (y ∷ ys) [] = ⊥
PairsBelow (y ∷ ys) (x ∷ xs) = AtOrBelow y x × PairsBelow ys xs

-- what is asked of lower facts, where something is asked of higher ones
pub record AskedBelow {A : Type 0} (ys : List (Known A)) (q : List (Option A)) : Type 0 where
  pub asks : List (Option A)
  pub asked_is : asked ys ≡ Some asks
  pub less : KnowsMore asks q

module _ {A : Type 0} where
  pub pairs : (f : ℕ → Known A) (vs : List ℕ) (xs : List (Known A)) → length xs ≡ length vs → ((j v : ℕ) (x : Known A) → slice_get vs j ≡ Some v → slice_get xs j ≡ Some x → AtOrBelow (f v) x) → PairsBelow (map f vs) xs
  pairs f [] [] e h = tt
  pairs f [] (x ∷ xs) e h = absurd (omega (arith, e))
  pairs f (v ∷ vs) [] e h = absurd (omega (arith, e))
  pairs f (v ∷ vs) (x ∷ xs) e h = (h 0 v x refl refl, pairs f vs xs (omega (arith, e)) (λ j u y a b. h (suc j) u y a b))

  pub same_lists : (f : ℕ → Known A) (vs : List ℕ) (xs : List (Known A)) → length xs ≡ length vs → ((j v : ℕ) (x : Known A) → slice_get vs j ≡ Some v → slice_get xs j ≡ Some x → f v ≡ x) → xs ≡ map f vs
  same_lists f [] [] e h = refl
  same_lists f [] (x ∷ xs) e h = absurd (omega (arith, e))
  same_lists f (v ∷ vs) [] e h = absurd (omega (arith, e))
  same_lists f (v ∷ vs) (x ∷ xs) e h = let a = h 0 v x refl refl in let b = same_lists f vs xs (omega (arith, e)) (λ j u y s t. h (suc j) u y s t) in λ i. sym a i ∷ b i

  asked_tail : (x : Known A) (xs : List (Known A)) (q : List (Option A)) → asked (x ∷ xs) ≡ Some q → (o : Option A) × (p : List (Option A)) × (asked xs ≡ Some p) × (q ≡ o ∷ p)
  asked_tail x xs q e = go x (asked xs) refl e
    where
      go : (x : Known A) (r : Option (List (Option A))) → asked xs ≡ r → and_known x r ≡ Some q → (o : Option A) × (p : List (Option A)) × (asked xs ≡ Some p) × (q ≡ o ∷ p)
      go Undetermined r f g = absurd (none-some q g)
      go (One a) None f g = absurd (none-some q g)
      go (One a) (Some p) f g = (Some a, p, f, same_Some q (Some a ∷ p) (sym g))
      go Any None f g = absurd (none-some q g)
      go Any (Some p) f g = (None, p, f, same_Some q (None ∷ p) (sym g))

  pub asked_length : (xs : List (Known A)) (q : List (Option A)) → asked xs ≡ Some q → length q ≡ length xs
  asked_length [] q e = ap length (same_Some q [] (sym e))
  asked_length (x ∷ xs) q e = let t = asked_tail x xs q e in omega (arith, asked_length xs t.1 t.2, ap length t.3)

  below_any : (ys xs : List (Known A)) (o : Option A) (p q : List (Option A)) → AskedBelow ys p → Some (o ∷ p) ≡ Some q → AskedBelow (Any ∷ ys) q
  below_any ys xs o p q r g = record { asks = None ∷ r.asks; asked_is = ap (and_known Any) r.asked_is; less = subst (KnowsMore (None ∷ r.asks)) (same_Some (o ∷ p) q g) (λ a d. absurd (none-some a d), r.less) }

  below_step : (y x : Known A) (ys xs : List (Known A)) (q : List (Option A)) (r : Option (List (Option A))) → asked xs ≡ r → ((p : List (Option A)) → asked xs ≡ Some p → AskedBelow ys p) → AtOrBelow y x → and_known x r ≡ Some q → AskedBelow (y ∷ ys) q
  below_step y Undetermined ys xs q r f rest b g = absurd (none-some q g)
  below_step y (One a) ys xs q None f rest b g = absurd (none-some q g)
  below_step Undetermined (One a) ys xs q (Some p) f rest b g = absurd b
  below_step (One d) (One a) ys xs q (Some p) f rest b g = let r = rest p f in record { asks = Some d ∷ r.asks; asked_is = ap (and_known (One d)) r.asked_is; less = subst (KnowsMore (Some d ∷ r.asks)) (same_Some (Some a ∷ p) q g) (λ z w. ap (λ n. Some n) (sym b) ∙ w, r.less) }
  below_step Any (One a) ys xs q (Some p) f rest b g = below_any ys xs (Some a) p q (rest p f) g
  below_step y Any ys xs q None f rest b g = absurd (none-some q g)
  below_step Undetermined Any ys xs q (Some p) f rest b g = absurd b
  below_step (One d) Any ys xs q (Some p) f rest b g = absurd b
  below_step Any Any ys xs q (Some p) f rest b g = below_any ys xs None p q (rest p f) g

  pub asked_below : (ys xs : List (Known A)) (q : List (Option A)) → PairsBelow ys xs → asked xs ≡ Some q → AskedBelow ys q
  asked_below [] [] q h e = record { asks = []; asked_is = refl; less = subst (KnowsMore []) (same_Some [] q e) tt }
  asked_below [] (x ∷ xs) q h e = absurd h
  asked_below (y ∷ ys) [] q h e = absurd h
  asked_below (y ∷ ys) (x ∷ xs) q h e = below_step y x ys xs q (asked xs) refl (λ p f. asked_below ys xs p h.1 f) h.0 e

  answer_below : (a b : Option A) → ((x : A) → a ≡ Some x → b ≡ Some x) → AtOrBelow (answer a) (answer b)
  answer_below None b h = tt
  answer_below (Some x) b h = at_same (One x) (answer b) (ap answer (sym (h x refl)))

  -- where less is folded to, results lie lower
  pub answers_below : (f : ℕ → Known A) (vs : List ℕ) (us bs : List (Option A)) → KnowsMore us bs → AllBelow f vs (map answer us) → AllBelow f vs (map answer bs)
  answers_below f [] us bs k h = tt
  answers_below f (v ∷ vs) [] [] k h = tt
  answers_below f (v ∷ vs) [] (b ∷ bs) k h = absurd k
  answers_below f (v ∷ vs) (a ∷ us) [] k h = absurd k
  answers_below f (v ∷ vs) (a ∷ us) (b ∷ bs) k h = (at_trans (f v) (answer a) (answer b) h.0 (answer_below a b k.0), answers_below f vs us bs k.1 h.1)

  pub all_below_stays : (vs : List ℕ) (ys : List (Known A)) (k l : NumberedFacts A) → MorePrecise k l → AllBelow k.of vs ys → AllBelow l.of vs ys
  all_below_stays [] ys k l m h = tt
  all_below_stays (v ∷ vs) [] k l m h = tt
  all_below_stays (v ∷ vs) (y ∷ ys) k l m h = (at_trans (l.of v) (k.of v) y (m.above v) h.0, all_below_stays vs ys k l m h.1)

  pub all_below_at : (f : ℕ → Known A) (vs : List ℕ) (ys : List (Known A)) (n : ℕ) → AllBelow f vs ys → BelowUpto n f vs ys
  all_below_at f [] ys n h j v y l a b = absurd (none-some v a)
  all_below_at f (u ∷ vs) [] n h j v y l a b = absurd (none-some y b)
  all_below_at f (u ∷ vs) (z ∷ ys) n h zero v y l a b = subst (λ w. AtOrBelow (f w) y) (same_Some u v a) (subst (AtOrBelow (f u)) (same_Some z y b) h.0)
  all_below_at f (u ∷ vs) (z ∷ ys) n h (suc j) v y l a b = all_below_at f vs ys (suc j) h.1 j v y (omega arith) a b

  pub all_below_from : (f : ℕ → Known A) (vs : List ℕ) (ys : List (Known A)) → ((j v : ℕ) (y : Known A) → slice_get vs j ≡ Some v → slice_get ys j ≡ Some y → AtOrBelow (f v) y) → AllBelow f vs ys
  all_below_from f [] ys h = tt
  all_below_from f (v ∷ vs) [] h = tt
  all_below_from f (v ∷ vs) (y ∷ ys) h = (h 0 v y refl refl, all_below_from f vs ys (λ j u z a b. h (suc j) u z a b))
