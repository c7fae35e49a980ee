use Rattle.std.proofs.Common.{◌≡◌, ⊎_elim, ℕ, ◌+◌, ◌<◌, ◌≤◌, List, [], ◌∷◌, ◌++◌, length, Some, slice_get, unwrap_or, sym, ap, ◌∙◌, length-append, arith}
use Rattle.std.proofs.lemmas.Bool.{cases_lt}
use Rattle.opt_inside.proofs.FactsLemmas.Lists.{get_front, get_end}
use Rattle.opt_inside.proofs.facts.facts.first_items.Goals as goal

module _ {T : Type 0} (first after : List T) (i : ℕ) (x : T) (len : length first ≡ i) (pushed : after ≡ first ++ x ∷ []) where
  one_longer : length after ≡ i + 1
  one_longer = let e = ap length pushed in omega (arith, e, length-append first (x ∷ []), len)

  one_more : (says : ℕ → T) → ((k : ℕ) → k < i → slice_get first k ≡ Some (says k)) → x ≡ says i → (k : ℕ) → k < i + 1 → slice_get after k ≡ Some (says k)
  one_more says so_far is k before = ⊎_elim
      (λ (e : k < i). ap (λ ys. slice_get ys k) pushed ∙ get_front first (x ∷ []) k (says k) (so_far k e))
      (λ (e : i ≤ k).
      let at : k ≡ length first = omega (arith, e, before, len) in
      ap (λ ys. slice_get ys k) pushed ∙ ap (slice_get (first ++ x ∷ [])) at ∙ get_end first x ∙ ap Some (is ∙ ap says (sym (at ∙ len))))
      (cases_lt k i)

pub loop-i-preserved : goal.loop-i-preserved
loop-i-preserved g c = record {
  len = one_longer c.loop-i.first.items c.push.new.self.items c.loop-i.i c.item_or.result c.loop-i.invariant.len c.in_ok-push.ensures.items;
  items = one_more c.loop-i.first.items c.push.new.self.items c.loop-i.i c.item_or.result c.loop-i.invariant.len c.in_ok-push.ensures.items
      (λ k. unwrap_or (slice_get c.args.items.now k) c.args.other) c.loop-i.invariant.items c.item_or.ensures;
}
