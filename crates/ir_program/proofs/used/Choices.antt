-- Which places of a thread were chosen so far.
use Rattle.std.proofs.Common.{◌≡◌, ◌≢◌, ℕ, Bool, true, false, ◌||◌, List, [], ◌∷◌, ◌++◌, ⊎_elim, refl, sym, ap, ◌∙◌, subst}
use Rattle.std.proofs.lemmas.Bool.{cases_eq, cases_Bool, eq-eqb, ne_eqb, both_ways}
use Rattle.std.proofs.lemmas.Fn.{says}
use denote.Param.Members.{Shared}
use denote.Ref.{Bor}
use Rattle.ir_entities.specs.Links.{has, AreDistinctNumbers}
use Rattle.ir_entities.specs.Uses.{Uses, NamesDefinition, AreNamingPlaces}
use Rattle.ir_program.specs.Replacing.{MayAnswerOfUse}
use Rattle.ir_program.proofs.used.Renames.{has-pushed, has-other}

-- of the places that name definition d, all but the rest were asked about, and those to which the answer was true are chosen
pub record IsChoosing {K : Type 0} (u : Uses K) (d : ℕ) (answers : ℕ → Bool → Type 0) (rest chosen : List ℕ) : Type 0 where
  pub distinct : AreDistinctNumbers rest
  pub left : (q : ℕ) → has q rest ≡ true → NamesDefinition u q d
  pub among : (q : ℕ) → has q chosen ≡ true → NamesDefinition u q d
  pub apart : (q : ℕ) → has q chosen ≡ true → has q rest ≡ false
  pub answered : (q : ℕ) → NamesDefinition u q d → has q rest ≡ false → answers q (has q chosen)

module _ {K : Type 0} (u : Uses K) (d : ℕ) (answers : ℕ → Bool → Type 0) where
  pub choosing-none : (all : List ℕ) → AreNamingPlaces u d all → IsChoosing u d answers all []
  choosing-none all uses = record {
    distinct = uses.distinct;
    left = λ q h. (uses.exact q).0 h;
    among = λ q h. absurd (cc);
    apart = λ q h. absurd (cc);
    answered = λ q names h. absurd (both_ways (has q all) h ((uses.exact q).1 names));
  }

  -- once none is left, each was asked about
  pub choosing-all : (rest chosen : List ℕ) → rest ≡ [] → IsChoosing u d answers rest chosen → (q : ℕ) → NamesDefinition u q d → answers q (has q chosen)
  choosing-all rest chosen e so_far q names = so_far.answered q names (ap (has q) e)

  module _ (p : ℕ) (rest chosen : List ℕ) (so_far : IsChoosing u d answers (p ∷ rest) chosen) where
    here : has p (p ∷ rest) ≡ true
    here = ap (λ b. b || has p rest) (eq-eqb p p refl)

    -- the next place names the definition
    pub choosing-next : NamesDefinition u p d
    choosing-next = so_far.left p here

    there : (q : ℕ) → q ≢ p → has q (p ∷ rest) ≡ has q rest
    there q ne = ap (λ b. b || has q rest) (ne_eqb q p ne)

    not_yet : has p chosen ≡ false
    not_yet = ⊎_elim (λ t. absurd (both_ways (has p (p ∷ rest)) (so_far.apart p t) here)) (λ f. f) (cases_Bool (has p chosen))

    gone : has p rest ≡ false
    gone = so_far.distinct.0

    -- what is left of the rest isn't p
    other_left : (q : ℕ) → has q rest ≡ true → q ≢ p
    other_left q h e = both_ways (has p rest) gone (ap (λ i. has i rest) (sym e) ∙ h)

    other_chosen : (q : ℕ) → has q chosen ≡ true → q ≢ p
    other_chosen q h e = both_ways (has p chosen) not_yet (ap (λ i. has i chosen) (sym e) ∙ h)

    pub choosing-left : answers p false → IsChoosing u d answers rest chosen
    choosing-left is = record {
      distinct = so_far.distinct.1;
      left = λ q h. so_far.left q (there q (other_left q h) ∙ h);
      among = so_far.among;
      apart = λ q h. sym (there q (other_chosen q h)) ∙ so_far.apart q h;
      answered = λ q names h. ⊎_elim
          (λ (e : q ≡ p). subst (λ i. answers i (has i chosen)) (sym e) (subst (answers p) (sym not_yet) is))
          (λ (ne : q ≢ p). so_far.answered q names (there q ne ∙ h))
          (cases_eq q p);
    }

    pub choosing-taken : answers p true → IsChoosing u d answers rest (chosen ++ p ∷ [])
    choosing-taken is = record {
      distinct = so_far.distinct.1;
      left = λ q h. so_far.left q (there q (other_left q h) ∙ h);
      among = λ q h. ⊎_elim
          (λ (e : q ≡ p). so_far.left q (ap (λ i. has i (p ∷ rest)) e ∙ here))
          (λ (ne : q ≢ p). so_far.among q (sym (has-other q p chosen ne) ∙ h))
          (cases_eq q p);
      apart = λ q h. ⊎_elim
          (λ (e : q ≡ p). ap (λ i. has i rest) e ∙ gone)
          (λ (ne : q ≢ p). sym (there q ne) ∙ so_far.apart q (sym (has-other q p chosen ne) ∙ h))
          (cases_eq q p);
      answered = λ q names h. ⊎_elim
          (λ (e : q ≡ p). subst (λ i. answers i (has i (chosen ++ p ∷ []))) (sym e) (subst (answers p) (sym (has-pushed p chosen)) is))
          (λ (ne : q ≢ p). subst (answers q) (sym (has-other q p chosen ne)) (so_far.answered q names (there q ne ∙ h)))
          (cases_eq q p);
    }

-- what a call of the predicate answered
pub answers-called : {F P U : Type 0} (g : Shared F (Bor P × (Bor U × Unit {0})) Bool) {f : F} {p : Bor P} {q : Bor U} {r b : Bool} (c : P) (u : U) → g.post f (p, (q, tt)) r → r ≡ b → p.now ≡ c → q.now ≡ u → MayAnswerOfUse g f c u b
answers-called g {f} {p} {q} c u h e program asked = record { program = p; asked = q; shows = (program, asked); says = says g h e }
