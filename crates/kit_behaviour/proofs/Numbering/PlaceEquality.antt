-- Places are told apart.
use Rattle.std.proofs.Common.{◌≡◌, Bool, true, false, refl, ap, ◌∙◌}
use Rattle.std.specs.Prelude.{◌&&◌, nat_eq}
use Rattle.std.proofs.lemmas.Bool.{eqb-true, eq-eqb}
use Rattle.kit_behaviour.specs.Places.{Place, Arg, Res, same_place}
use Rattle.kit_behaviour.proofs.Behaviour.FrameLemmas.{IsSameness}

and_left : (a b : Bool) → a && b ≡ true → a ≡ true
and_left true b e = refl
and_left false b e = absurd (cc e)

and_right : (a b : Bool) → a && b ≡ true → b ≡ true
and_right true b e = e
and_right false b e = absurd (cc e)

both : (a b : Bool) → a ≡ true → b ≡ true → a && b ≡ true
both a b e f = ap (λ x. x && b) e ∙ f

pub place_law : IsSameness same_place
place_law = record { true_same = true_place; same_true = self_place }
  where
    true_place : (a b : Place) → same_place a b ≡ true → a ≡ b
    true_place (Arg b i) (Arg c j) e =
        ap (λ x. Arg x i) (eqb-true b c (and_left (nat_eq b c) (nat_eq i j) e)) ∙ ap (Arg c) (eqb-true i j (and_right (nat_eq b c) (nat_eq i j) e))
    true_place (Res b o i) (Res c q j) e =
        let r = and_right (nat_eq b c) (nat_eq o q && nat_eq i j) e in
        ap (λ x. Res x o i) (eqb-true b c (and_left (nat_eq b c) (nat_eq o q && nat_eq i j) e))
        ∙ ap (λ x. Res c x i) (eqb-true o q (and_left (nat_eq o q) (nat_eq i j) r))
        ∙ ap (Res c q) (eqb-true i j (and_right (nat_eq o q) (nat_eq i j) r))
    true_place (Arg b i) (Res c q j) e = absurd (cc e)
    true_place (Res b o i) (Arg c j) e = absurd (cc e)

    self_place : (a : Place) → same_place a a ≡ true
    self_place (Arg b i) = both (nat_eq b b) (nat_eq i i) (eq-eqb b b refl) (eq-eqb i i refl)
    self_place (Res b o i) = both (nat_eq b b) (nat_eq o o && nat_eq i i) (eq-eqb b b refl) (both (nat_eq o o) (nat_eq i i) (eq-eqb o o refl) (eq-eqb i i refl))
