-- What is answered where reading stops.
use Rattle.std.proofs.Common.{◌≡◌, ℕ, suc, ◌+◌, ◌<◌, ◌≤◌, List, [], ◌∷◌, ◌++◌, Some, Result, Ok, Err, IfOk, length, take, get_or, refl, subst, ap, ◌∙◌, arith}
use Rattle.std.proofs.lemmas.List.{take_more, append_assoc, length-take-le}
use Rattle.ir_grammar.specs.declared.grammar.Symbol.{Symbol}
use Rattle.ir_grammar.specs.declared.grammar.Symbol.TheVariants.{Part}
use Rattle.ir_grammar.specs.declared.grammar.Event.{Event}
use Rattle.ir_grammar.specs.declared.grammar.Grammar.{Grammar}
use Rattle.ir_grammar.specs.declared.grammar.Stop.{Stop}
use Rattle.ir_grammar.specs.declared.grammar.Stop.TheVariants.{Text, Stuck, Deep}
use Rattle.ir_grammar.specs.declared.grammar.Reading.{Reading}
use Rattle.ir_grammar.specs.Grammar.{IsTextOf}
use Rattle.ir_grammar.specs.Table.{AreKnownSymbols, IsPredictive}
use Rattle.ir_grammar.specs.Reading.{IsLongestFront, IsCutShort, IsFirstDeep, Reads, tooks}
use Rattle.ir_grammar.specs.Run.{LeadsToStack, Closes, IsStuck, Ends, Grows}
use Rattle.ir_grammar.proofs.Derivations.{viable}
use Rattle.ir_grammar.proofs.Depths.{deep_before}

module _ (g : Grammar) (ok : IsPredictive g) where
  pub leads_first : (root : ℕ) → LeadsToStack g root [] [] (Part root ∷ [])
  leads_first root = record { took = refl; on = λ ts more d. d; back = λ ts all d. (all, refl, d) }

  pub longest : (root : ℕ) (ts : List ℕ) (did : List Event) (stack : List Symbol) (n : ℕ) → n ≤ length ts → AreKnownSymbols g stack → LeadsToStack g root (take n ts) did stack
      → (n < length ts → IsStuck g root (take n ts) (suc (get_or ts n 0))) → IsLongestFront g root ts n
  longest root ts did stack n in_range known l stuck = record {
    within = in_range;
    viable = viable g ok root (take n ts) did stack known l;
    longest = λ lt v.
        let e : take (n + 1) ts ++ v.0 ≡ take n ts ++ (get_or ts n 0 ∷ v.0) = ap (λ x. x ++ v.0) (take_more ts n 0 lt) ∙ append_assoc (take n ts) (get_or ts n 0 ∷ []) v.0 in
        stuck lt (get_or ts n 0 ∷ v.0) v.1.0 refl (subst (λ x. IsTextOf g root x v.1.0) e v.1.1);
  }

-- what finish says, of the longest front
pub reads_ended : (g : Grammar) (root many : ℕ) (ts : List ℕ) (n : ℕ) (s : Stop) (es : List Event) → IsLongestFront g root ts n → Ends g root (take n ts) s es → Reads g root many ts s n es
reads_ended g root many ts n Text es h e = (h, e.0, e.1)
reads_ended g root many ts n Stuck es h e = (h, e.0, e.1)
reads_ended g root many ts n Deep es h e = absurd e

pub reads_at : {E : Type 0} (g : Grammar) (root many : ℕ) (ts : List ℕ) (n : ℕ) (did : List Event) (stack : List Symbol) (r : Result Reading E)
    → IsLongestFront g root ts n → Closes g root (take n ts) did stack → IfOk r (λ x. x.taken ≡ n)
    → IfOk r (λ x. (root : ℕ) (done : List ℕ) → Closes g root done did stack → Ends g root done x.stop x.events.items)
    → IfOk r (λ x. Reads g root many ts x.stop x.taken x.events.items)
reads_at g root many ts n did stack (Ok x) h l e f = rw e (reads_ended g root many ts n x.stop x.events.items h (f root (take n ts) l))
reads_at g root many ts n did stack (Err y) h l e f = tt

-- one token is taken for each that is done
pub tooks_taken : {g : Grammar} {root : ℕ} {es : List Event} {stack : List Symbol} (n : ℕ) (ts : List ℕ) → LeadsToStack g root (take n ts) es stack → n ≤ length ts → tooks es ≡ n
tooks_taken n ts l le = l.took ∙ length-take-le n ts le

-- where it stops, one token after too many parts were open
pub cut : (g : Grammar) (ok : IsPredictive g) (root many : ℕ) (ts : List ℕ) (old new : List Event) (stack : List Symbol) (n k : ℕ) → n < length ts → AreKnownSymbols g stack → Grows old new
    → LeadsToStack g root (take n ts ++ get_or ts n 0 ∷ []) new stack → IsFirstDeep many new (Some k) → IsCutShort g root many ts (n + 1) new
cut g ok root many ts old new stack n k lt known h l deep =
    let front : take (n + 1) ts ≡ take n ts ++ get_or ts n 0 ∷ [] = take_more ts n 0 lt in
    let l' : LeadsToStack g root (take (n + 1) ts) new stack = rw front l in
    record {
      within = omega arith;
      viable = viable g ok root (take (n + 1) ts) new stack known l';
      each = λ more all t. let b = l'.back more all t in (b.0, b.1);
      took = l'.took ∙ length-take-le (n + 1) ts (omega arith);
      last = (old ++ h.0, h.1, deep_before many k (old ++ h.0) new h.1 deep);
    }
