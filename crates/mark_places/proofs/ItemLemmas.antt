-- What is known of items: which ends first at a place, and that none ends behind more tokens than are taken.
use Rattle.std.proofs.Common.{◌≡◌, ℕ, zero, suc, ◌+◌, ◌-◌, ◌<◌, ◌≤◌, List, [], ◌∷◌, Option, Some, None, length, get_or, drop, arith, refl, sym, ◌∙◌}
use Rattle.std.specs.Prelude.{◌==◌}
use Rattle.std.specs.List.{position_from}
use Rattle.std.proofs.lemmas.Iterator.Adapters.{position_from-zero}
use Rattle.std.proofs.lemmas.Option.{same_Some}
use Rattle.ir_grammar.specs.declared.grammar.Action.{Action}
use Rattle.ir_grammar.specs.declared.grammar.Action.TheVariants.{EndOperation, Header}
use Rattle.ir_grammar.specs.declared.grammar.Event.{Event}
use Rattle.ir_grammar.specs.declared.grammar.Event.TheVariants.{Took, Did}
use Rattle.ir_grammar.specs.Reading.{tooks}
use Rattle.mark_places.specs.Items.{end_at, ends_behind, item_of, with_end}

-- what is found from the first item on is the first item
pub found_first : (ends : List ℕ) (tokens item : ℕ) (r : Option ℕ) → item ≤ 0 → r ≡ position_from (λ end. end == tokens) item (drop item ends) → r ≡ item_of ends tokens
found_first ends tokens zero r le is = is ∙ sym (position_from-zero (λ end. end == tokens) ends)
found_first ends tokens (suc item) r le is = absurd (omega arith)

end_within : (taken : ℕ) (a : Action) (end : ℕ) → end_at taken a ≡ Some end → end ≤ taken
end_within taken EndOperation end is = let same : taken ≡ end = same_Some _ _ is in omega arith
end_within taken Header end is = let same : taken - 1 ≡ end = same_Some _ _ is in omega arith
end_within taken _ end is = cc

-- one more end
with_end_within : (most : ℕ) (o : Option ℕ) (ends : List ℕ) → ((end : ℕ) → o ≡ Some end → end ≤ most)
    → ((k : ℕ) → k < length ends → get_or ends k 0 ≤ most) → (k : ℕ) → k < length (with_end o ends) → get_or (with_end o ends) k 0 ≤ most
with_end_within most None ends first rest k lt = rest k lt
with_end_within most (Some end) ends first rest zero lt = first end refl
with_end_within most (Some end) ends first rest (suc k) lt = rest k (omega arith)

-- no item ends behind more tokens than are taken
pub ends_within : (taken : ℕ) (es : List Event) (k : ℕ) → k < length (ends_behind taken es) → get_or (ends_behind taken es) k 0 ≤ taken + tooks es
ends_within taken [] k lt = absurd (omega arith)
ends_within taken (Took ∷ es) k lt = let rest = ends_within (taken + 1) es k lt in omega arith
ends_within taken (Did a ∷ es) k lt =
    with_end_within (taken + tooks es) (end_at taken a) (ends_behind taken es)
    (λ end is. let le = end_within taken a end is in omega arith) (ends_within taken es) k lt
