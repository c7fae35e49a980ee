-- Which keys compare equal.
use Rattle.std.proofs.Common.{◌≡◌, ◌↔◌, ◌⊎◌, Bool, true, false, ◌&&◌, IsTrue, eqb, eqb-true, eq-eqb, map, refl, ap, subst}
use Rattle.std.specs.List.{list_any}
use Rattle.std.proofs.lemmas.Bool.{false≢true}
use Rattle.std.specs.Borrow.{Bor}
use Rattle.std.specs.Prelude.{ℕ, List}
use Rattle.std.specs.Str.{bytes_eq}
use Rattle.std.proofs.lemmas.Slice.Eq.{bytes_eq-Decides}
use Rattle.ir_program.specs.declared.handles.Ptr.{Ptr}
use Rattle.ir_program.specs.declared.handles.Operation.{Operation}
use Rattle.ir_trees.proofs.Members.{Has}
use Rattle.indexmap.specs.IndexSet.{insert_key}
use Rattle.kit_checks.proofs.Handles.{same_yes, yes_same}
use Rattle.kit_verifier.specs.Callees.{Callable, callable_of}
use Rattle.kit_verifier.specs.Sets.{Gains}
use Rattle.kit_verifier.specs.declared.callees.Callee.{Callee}
use Rattle.kit_verifier.specs.contracts.callees.CalleePartialEq.TheImpl.{eq-value}
use Rattle.kit_verifier.proofs.Sets.{gained, map_same, tells}

-- handles
abbrev pub handle_eq : Ptr Operation → Ptr Operation → Bool
handle_eq p q = eqb p.key.slot q.key.slot && eqb p.key.version q.key.version

pub handle_same : (p q : Ptr Operation) → handle_eq p q ≡ true → p ≡ q
handle_same p q = same_yes p q (handle_eq p q) refl

pub handle_own : (p q : Ptr Operation) → p ≡ q → handle_eq p q ≡ true
handle_own p q = yes_same p q (handle_eq p q) refl

pub handle_gained : (keys after : List (Ptr Operation)) (p : Ptr Operation) → after ≡ insert_key handle_eq keys p → Gains keys after (λ q. q ≡ p)
handle_gained keys after p is = λ q. subst (λ a. Has q a ↔ (Has q keys ⊎ (q ≡ p))) (map_same after) (subst (λ k. Has q (map (λ x. x) after) ↔ (Has q k ⊎ (q ≡ p))) (map_same keys) (gained handle_eq (λ x. x) handle_same handle_own keys after p is q))

pub handle_tells : (keys : List (Ptr Operation)) (p : Ptr Operation) (b : Bool) → b ≡ list_any (handle_eq p) keys → IsTrue b ↔ Has p keys
handle_tells keys p b is = subst (λ k. IsTrue b ↔ Has p k) (map_same keys) (tells handle_eq (λ x. x) handle_same handle_own keys p b is)

-- texts
abbrev pub text_eq : Bor (List ℕ) → Bor (List ℕ) → Bool
text_eq a b = bytes_eq a.now b.now

pub text_same : (a b : Bor (List ℕ)) → text_eq a b ≡ true → a.now ≡ b.now
text_same a b = (bytes_eq-Decides a.now b.now).0

pub text_own : (a b : Bor (List ℕ)) → a.now ≡ b.now → text_eq a b ≡ true
text_own a b = (bytes_eq-Decides a.now b.now).1

-- functions that can be called
both_parts : (a b : Bool) → (a && b) ≡ true → (a ≡ true) × (b ≡ true)
both_parts true b h = (refl, h)
both_parts false b h = absurd (false≢true h)

parts_both : (a b : Bool) → a ≡ true → b ≡ true → (a && b) ≡ true
parts_both a b x y = λ i. x i && y i

pub callee_same : (a b : Callee) → eq-value.it a b ≡ true → callable_of a ≡ callable_of b
callee_same a b h =
    let p = both_parts (handle_eq a.scope b.scope) (text_eq a.name b.name && eqb a.ty.number b.ty.number) h in
    let q = both_parts (text_eq a.name b.name) (eqb a.ty.number b.ty.number) p.1 in
    let scope = handle_same a.scope b.scope p.0 in
    let name = text_same a.name b.name q.0 in
    let number = eqb-true a.ty.number b.ty.number q.1 in
    λ i. record { scope = scope i; name = name i; ty = record { number = number i } }

pub callee_own : (a b : Callee) → callable_of a ≡ callable_of b → eq-value.it a b ≡ true
callee_own a b h =
    parts_both (handle_eq a.scope b.scope) (text_eq a.name b.name && eqb a.ty.number b.ty.number) (handle_own a.scope b.scope (ap (λ (x : Callable). x.scope) h))
    (parts_both (text_eq a.name b.name) (eqb a.ty.number b.ty.number) (text_own a.name b.name (ap (λ (x : Callable). x.name) h)) (eq-eqb a.ty.number b.ty.number (ap (λ (x : Callable). x.ty.number) h)))
