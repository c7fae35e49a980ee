-- Tests that are made of tests.
use Rattle.std.proofs.Common.{◌≡◌, ◌↔◌, Bool, true, false, IsTrue, refl, sym, ◌∙◌, true≢false}
use Rattle.std.proofs.lemmas.Bool.{false≢true}

-- where a part fails the whole does
pub part_fails : {P Q : Type 0} (is : Bool) → is ≡ false → IsTrue is ↔ P → (Q → P) → IsTrue false ↔ Q
part_fails is fails tells part = (λ h. absurd (false≢true h), λ q. absurd (true≢false (sym (tells.1 (part q)) ∙ fails)))

-- where the other parts hold the last one decides
pub last_decides : {P Q : Type 0} (is : Bool) → IsTrue is ↔ P → (P → Q) → (Q → P) → IsTrue is ↔ Q
last_decides is tells whole part = (λ h. whole (tells.0 h), λ q. tells.1 (part q))

-- what is asked only where something holds
pub not_asked : {P Q : Type 0} (is : Bool) → is ≡ false → IsTrue is ↔ P → IsTrue true ↔ (P → Q)
not_asked is fails tells = (λ h p. absurd (true≢false (sym (tells.1 p) ∙ fails)), λ h. refl)

pub asked : {P Q : Type 0} (is r : Bool) → is ≡ true → IsTrue is ↔ P → IsTrue r ↔ Q → IsTrue r ↔ (P → Q)
asked is r holds tells last = (λ h p. last.0 h, λ q. last.1 (q (tells.0 holds)))
