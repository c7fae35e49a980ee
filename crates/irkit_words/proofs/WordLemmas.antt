-- Names that are no pass's, and what the words do not ask for.
use Rattle.std.proofs.Common.{◌≡◌, ◌≢◌, ℕ, zero, suc, ◌<◌, List, [], ◌∷◌, length, map, get_or, arith, sym, subst, ◌++◌, ◌+◌, take}
use Rattle.std.proofs.lemmas.List.{map_more}
use Rattle.std.specs.Borrow.{Bor}
use Rattle.clap.specs.Words.{Text}
use Rattle.kit_ops.specs.declared.pass.KitPass.{KitPass}
use Rattle.irkit_words.specs.Requests.{pass_name, SaysNumber, SayNumbers}

-- no passes have these names, of which one is unknown
pub unknown_name : (names : List (Bor Text)) (i : ℕ) (d : Bor Text) → i < length names → ((p : KitPass) → (get_or names i d).now ≢ pass_name p)
    → (ps : List KitPass) → map pass_name ps ≢ map (λ (m : Bor Text). m.now) names
unknown_name [] i d lt other ps e = omega arith
unknown_name (m ∷ ms) i d lt other [] e = cc
unknown_name (m ∷ ms) zero d lt other (p ∷ ps) e = let head : pass_name p ≡ m.now = cc in other p (sym head)
unknown_name (m ∷ ms) (suc i) d lt other (p ∷ ps) e = let tail : map pass_name ps ≡ map (λ (m : Bor Text). m.now) ms = cc in unknown_name ms i d (omega arith) other ps tail

-- one more number
pub say_more : (ws : List Text) (ns : List ℕ) (w : Text) (n : ℕ) → SayNumbers ws ns → SaysNumber w n → SayNumbers (ws ++ w ∷ []) (ns ++ n ∷ [])
say_more [] [] w n h one = (one, tt)
say_more [] (m ∷ ns) w n h one = absurd h
say_more (v ∷ ws) [] w n h one = absurd h
say_more (v ∷ ws) (m ∷ ns) w n h one = (h.0, say_more ws ns w n h.1 one)

-- no numbers are these words, of which one is none
pub unknown_number : (words : List (Bor Text)) (i : ℕ) (d : Bor Text) → i < length words → ((n : ℕ) → SaysNumber (get_or words i d).now n → ⊥)
    → (ns : List ℕ) → SayNumbers (map (λ (m : Bor Text). m.now) words) ns → ⊥
unknown_number [] i d lt other ns h = omega arith
unknown_number (w ∷ ws) i d lt other [] h = h
unknown_number (w ∷ ws) zero d lt other (n ∷ ns) h = other n h.0
unknown_number (w ∷ ws) (suc i) d lt other (n ∷ ns) h = unknown_number ws i d (omega arith) other ns h.1

-- the numbers of the words so far and of the next one
pub say_next : (words : List (Bor Text)) (i : ℕ) (d : Bor Text) (ns : List ℕ) (n : ℕ) → i < length words → SayNumbers (map (λ (m : Bor Text). m.now) (take i words)) ns → SaysNumber (get_or words i d).now n
    → SayNumbers (map (λ (m : Bor Text). m.now) (take (i + 1) words)) (ns ++ n ∷ [])
say_next words i d ns n lt h one = subst (λ ws. SayNumbers ws (ns ++ n ∷ [])) (sym (map_more (λ (m : Bor Text). m.now) words i d lt)) (say_more (map (λ (m : Bor Text). m.now) (take i words)) ns _ n h one)
