-- Locations are equal where what stands in them is.
use Rattle.std.proofs.Common.{ℕ, ◌≡◌, ◌∙◌, ◌+◌, ◌<◌, ◌≤◌, sym, add-one, Bool, true, false, Global, Vec, Box, Option, List, [], ◌∷◌, ◌++◌, length, take, get_or, ap, refl, rules}
use Rattle.std.specs.Prelude.{◌&&◌, nat_eq}
use Rattle.std.specs.Option.{option_eq}
use Rattle.std.specs.String.{string_bytes, string_eq}
use Rattle.std.specs.contracts.cmp.PartialEq.TheBound.{Lawful}
use Rattle.std.specs.declared.cmp.PartialEq.{Ghosts}
use Rattle.std.specs.declared.string.String.{String}
use Rattle.std.proofs.Math.Seq.{take-suc}
use Rattle.std.proofs.lemmas.List.{take_all}
use lib.Pointwise.{pointwise}
use denote.RattleType.{RattleType}
use mir.Syntax.{Dict}
use Rattle.ir_locations.specs.declared.source.Source.{Source}
use Rattle.ir_locations.specs.declared.location.Location.{Location}
use Rattle.ir_locations.specs.declared.location.Location.TheOpen.{Location-F}
use Rattle.ir_locations.specs.declared.location.Location.TheViews as views
use Rattle.ir_locations.specs.declared.location.Location.TheVariants as variants
use Rattle.ir_locations.specs.declared.location.Location.TheVariants.{outs-SrcPos, outs-Fused, outs-Named, outs-CallSite, outs-Unknown}
use Rattle.ir_locations.specs.declared.location.Location.TheBlock.{split-Location}
use Rattle.ir_locations.specs.contracts.location.Location.{as_values}
use Rattle.ir_locations.specs.contracts.source.SourcePartialEq.TheImpl as source
use Rattle.ir_locations.specs.contracts.location.LocationPartialEq.TheImpl.Laws as laws
use Rattle.ir_locations.specs.contracts.location.LocationPartialEq.TheImpl.{ghosts}

nat_eq-refl : (n : ℕ) → nat_eq n n ≡ true
nat_eq-refl n = search rules

same_text : (s t : String Global) → string_bytes s ≡ string_bytes t → string_eq s t ≡ true
same_text s t e = search rules

and-true : (b c d : Bool) → (b && c) ≡ true → (c ≡ true → d ≡ true) → (b && d) ≡ true
and-true true c d e f = f e
and-true false c d e f = e

-- equal lists, each with one more member, where these are equal
pub pointwise-push : {X : Type 0} (same : X → X → Bool) (xs ys : List X) (x y : X) →
    pointwise same xs ys ≡ true → same x y ≡ true → pointwise same (xs ++ x ∷ []) (ys ++ y ∷ []) ≡ true
pointwise-push same [] [] x y e h = rw h refl
pointwise-push same [] (y' ∷ ys) x y e h = cc
pointwise-push same (x' ∷ xs) [] x y e h = cc
pointwise-push same (x' ∷ xs) (y' ∷ ys) x y e h = and-true (same x' y') (pointwise same xs ys) _ e (λ k. pointwise-push same xs ys x y k h)

-- copies of the first members, with a copy of the next one
pub pointwise-next : {X : Type 0} (same : X → X → Bool) (copies members : List X) (i : ℕ) (copy member : X) →
    i < length members → member ≡ get_or members i member → pointwise same copies (take i members) ≡ true →
    same copy member ≡ true → pointwise same (copies ++ copy ∷ []) (take (i + 1) members) ≡ true
pointwise-next same copies members i copy member lt e h k =
    let one : take (i + 1) members ≡ take i members ++ member ∷ [] = rw add-one (take-suc members i member lt ∙ ap (λ m. take i members ++ m ∷ []) (sym e)) in
    rw one (pointwise-push same copies (take i members) copy member h k)

-- copies of all members
pub pointwise-whole : {X : Type 0} (same : X → X → Bool) (copies members members' : List X) (i : ℕ) → length members ≤ i → members ≡ members' →
    pointwise same copies (take i members) ≡ true → pointwise same copies members' ≡ true
pointwise-whole same copies members members' i le e h =
    ap (pointwise same copies) (sym (take_all i members le ∙ e)) ∙ h

module _ (T : RattleType) (P : Ghosts T.Denot) (D : Dict) (law : Lawful T P D) where
  -- whether two locations are equal
  abbrev pub same : Location T.Denot → Location T.Denot → Bool
  same = (ghosts T P D).eq

  -- a location as one of five, by what it is
  seen : (l : Location T.Denot) {v : Location-F T.Denot (Location T.Denot)} → views.out-Location T.Denot l ≡ v →
      as_values T l ≡ split-Location T.Denot (λ _. Location T.Denot) v
  seen l e = ap (split-Location T.Denot (λ _. Location T.Denot)) e

  pub same_src_pos : (s s' : Source) (line column : ℕ) → source.ghosts.eq s s' ≡ true →
      same (variants.SrcPos s line column) (variants.SrcPos s' line column) ≡ true
  same_src_pos s s' line column h =
      let e = seen _ (outs-SrcPos s line column) in let e' = seen _ (outs-SrcPos s' line column) in
      laws.is T P D law (variants.SrcPos s line column) (variants.SrcPos s' line column)
      ∙ rw e (rw e' (rw h (rw (nat_eq-refl line) (nat_eq-refl column))))

  pub same_fused : (m m' : Option T.Denot) (v v' : Vec (Location T.Denot) Global) →
      option_eq P.eq m m' ≡ true → pointwise same v.items v'.items ≡ true → same (views.Fused m v) (views.Fused m' v') ≡ true
  same_fused m m' v v' h k =
      let e = seen _ (outs-Fused m v) in let e' = seen _ (outs-Fused m' v') in
      laws.is T P D law (views.Fused m v) (views.Fused m' v') ∙ rw e (rw e' (rw h k))

  pub same_named : (name name' : String Global) (v v' : Box (Location T.Denot) Global) →
      string_bytes name ≡ string_bytes name' → same v.value v'.value ≡ true → same (views.Named name v) (views.Named name' v') ≡ true
  same_named name name' v v' h k =
      let e = seen _ (outs-Named name v) in let e' = seen _ (outs-Named name' v') in
      laws.is T P D law (views.Named name v) (views.Named name' v') ∙ rw e (rw e' (rw (same_text name name' h) k))

  pub same_call_site : (x y x' y' : Box (Location T.Denot) Global) → same x.value x'.value ≡ true → same y.value y'.value ≡ true →
      same (views.CallSite x y) (views.CallSite x' y') ≡ true
  same_call_site x y x' y' h k =
      let e = seen _ (outs-CallSite x y) in let e' = seen _ (outs-CallSite x' y') in
      laws.is T P D law (views.CallSite x y) (views.CallSite x' y') ∙ rw e (rw e' (rw h k))

  pub same_unknown : same variants.Unknown variants.Unknown ≡ true
  same_unknown = let e = seen _ outs-Unknown in laws.is T P D law variants.Unknown variants.Unknown ∙ rw e (refl {a = true})
