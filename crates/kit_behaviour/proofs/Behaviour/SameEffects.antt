-- Two programs that do the same wherever a run of the first can be behave alike, step by step.
use Rattle.std.proofs.Common.{◌≡◌, ℕ, Bool, List, refl, sym, ap, ◌∙◌, subst, arith}
use Rattle.kit_behaviour.specs.Machine.{Frame, State, Going, Ended, Trapped, Effect, Next, Out, Enter, Exit, Fault, Lost, FunctionsByPath, act, entry, resume, out_of, Shown, Alike}
use Rattle.kit_behaviour.proofs.Behaviour.RunLemmas.{prefix_trans}
use Rattle.kit_behaviour.proofs.Behaviour.Simulation.{EffectsAlike, alike}

-- what a effect leaves in its frame keeps the invariant; at a call whatever it returns
abbrev pub EffectKeeps : {V : Type 0} (same : V → V → Bool) (p : FunctionsByPath V) (I : Frame V → Type 0) → Frame V → Effect V → Type 0
EffectKeeps same p I f (Next g) = I g
EffectKeeps same p I f (Out n g) = I g
EffectKeeps same p I f (Enter c xs) = (ns : List ℕ) → I (resume same p f ns)
EffectKeeps same p I f (Exit xs) = Unit {0}
EffectKeeps same p I f Fault = Unit {0}
EffectKeeps same p I f Lost = Unit {0}

pub record IsInvariant {V : Type 0} (same : V → V → Bool) (p : FunctionsByPath V) (I : Frame V → Type 0) : Type 0 where
  pub enters : (path xs : List ℕ) → I (entry same p path xs)
  pub keeps : (f : Frame V) → I f → EffectKeeps same p I f (act same p f)

-- q does what p does in each frame that meets the invariant
pub record DoesSame {V : Type 0} (same : V → V → Bool) (p q : FunctionsByPath V) (I : Frame V → Type 0) : Type 0 where
  pub entries : (path xs : List ℕ) → entry same p path xs ≡ entry same q path xs
  pub effects : (f : Frame V) → I f → act same p f ≡ act same q f
  pub resumes : (f : Frame V) (ns : List ℕ) → I f → resume same p f ns ≡ resume same q f ns

module _ {V : Type 0} (same : V → V → Bool) (p q : FunctionsByPath V) (I : Frame V → Type 0) where
  record Equal (f g : Frame V) : Type 0 where
    is : f ≡ g
    holds : I f

  same_alike : DoesSame same p q I → (f : Frame V) → I f → (d : Effect V) → EffectKeeps same p I f d → EffectsAlike same same p q Equal f f d d
  same_alike e f i (Next g) k = record { is = refl; holds = k }
  same_alike e f i (Out n g) k = (refl, record { is = refl; holds = k })
  same_alike e f i (Enter c xs) k = (refl, refl, λ ns. record { is = e.resumes f ns i; holds = k ns })
  same_alike e f i (Exit xs) k = refl
  same_alike e f i Fault k = tt
  same_alike e f i Lost k = record { is = refl; holds = i }

  pub same_effects : IsInvariant same p I → DoesSame same p q I → Alike same same 1 p q
  same_effects v e =
      alike same same p q Equal 1
      (record {
        some = omega arith;
        enters = λ path xs. record { is = e.entries path xs; holds = v.enters path xs };
        meets = λ f g r.
            record {
              a = 0;
              b = 0;
              left = f;
              right = f;
              a_few = omega arith;
              b_few = omega arith;
              quiet_left = refl;
              quiet_right = sym r.is;
              path = refl;
              effects = subst (λ d. EffectsAlike same same p q Equal f f (act same p f) d) (e.effects f r.holds) (same_alike e f r.holds (act same p f) (v.keeps f r.holds));
            };
      })

module _ {U V W : Type 0} (su : U → U → Bool) (sv : V → V → Bool) (sw : W → W → Bool) where
  pub shown_trans : (s : State U) (t : State V) (u : State W) → Shown s t → Shown t u → Shown s u
  shown_trans (Going fs o) (Going gs o') u a b = prefix_trans o o' (out_of u) a b
  shown_trans (Going fs o) (Ended ns o') u a b = let e : o' ≡ out_of u = ap out_of (sym b) in (a.0, a.1 ∙ e)
  shown_trans (Going fs o) (Trapped o') u a b = let e : o' ≡ out_of u = ap out_of (sym b) in (a.0, a.1 ∙ e)
  shown_trans (Ended ns o) (Ended ms o') u a b =
      let en : ms ≡ ns = cc a in let eo : o' ≡ o = cc a in
      b ∙ ap (λ l. Ended l o') en ∙ ap (λ l. Ended ns l) eo
  shown_trans (Ended ns o) (Going fs o') u a b = absurd (cc a)
  shown_trans (Ended ns o) (Trapped o') u a b = absurd (cc a)
  shown_trans (Trapped o) (Trapped o') u a b = let eo : o' ≡ o = cc a in b ∙ ap (λ l. Trapped l) eo
  shown_trans (Trapped o) (Going fs o') u a b = absurd (cc a)
  shown_trans (Trapped o) (Ended ms o') u a b = absurd (cc a)
